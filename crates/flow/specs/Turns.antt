-- What the functions that visit a node ask and leave, over the links and over their columns.
use Rattle.std.specs.Prelude.{ℕ, suc, ◌*◌, ◌≤◌, ◌<◌, ◌≡◌, ◌⊎◌, Bool, true, false, length}
use mathlib.Core.List.{List, Memᴰ}
use Rattle.storage.specs.Entries.{at}
use Rattle.storage.specs.Lists.{list_at}
use Rattle.storage.specs.Roles.{area_in}
use Rattle.storage.specs.Drawings.{net_in, Drawn, Fed}
use Rattle.flow.specs.Links.{next_in, ins_in, outs_in, parent_in, no_link, edge_of_flow, link_to}
use Rattle.flow.specs.Flow.{Found, Calm}
use Rattle.flow.specs.Cells.{Stored, PathsKept}

-- The drawing that a flow runs on, with a role for each node and no more; ids plus two and the numbers of states fit their places.
pub record Ground (inputs nodes : ℕ) (fanins roles : List ℕ) : Type 0 where
  pub k : ℕ
  pub drawn : Drawn inputs nodes k fanins
  pub small : nodes ≤ 32767
  pub roles_long : length roles ≡ nodes

-- a fanin whose out-state was found, as a link, or none
pub data FaninFound (fanins outs : List ℕ) (v r : ℕ) : Type 0 where
  none : r ≡ no_link → ((u : ℕ) → Memᴰ u (list_at fanins v) → at outs u ≡ 0) → FaninFound fanins outs v r
  some : (u : ℕ) → Memᴰ u (list_at fanins v) → r ≡ link_to u → 1 ≤ at outs u → FaninFound fanins outs v r

-- no way leads to v's in-state, or to its out-state
pub record NoWayIn (inputs : ℕ) (fanins next outs : List ℕ) (v : ℕ) : Type 0 where
  pub source : v < inputs → ⊥
  pub own : 1 ≤ at next v → at outs v ≡ 0
  pub fanin : (u : ℕ) → Memᴰ u (list_at fanins v) → at outs u ≡ 0

pub record NoWayOut (next ins : List ℕ) (v : ℕ) : Type 0 where
  pub through : at next v ≡ no_link → at ins v ≡ 0
  pub back : (g : ℕ) → at next v ≡ link_to g → at ins g ≡ 0

-- from where v's in-state is reached, as a link: from the source, from the out-state of a node, or not at all
pub data Entered (inputs : ℕ) (fanins next outs : List ℕ) (v r : ℕ) : Type 0 where
  none : r ≡ no_link → NoWayIn inputs fanins next outs v → Entered inputs fanins next outs v r
  source : r ≡ edge_of_flow → v < inputs → Entered inputs fanins next outs v r
  own : r ≡ link_to v → 1 ≤ at next v → 1 ≤ at outs v → Entered inputs fanins next outs v r
  fanin : (u : ℕ) → r ≡ link_to u → Memᴰ u (list_at fanins v) → 1 ≤ at outs u → Entered inputs fanins next outs v r

-- whether v's out-state is reached
pub data Left (next ins : List ℕ) (v : ℕ) (r : Bool) : Type 0 where
  none : r ≡ false → NoWayOut next ins v → Left next ins v r
  through : r ≡ true → at next v ≡ no_link → 1 ≤ at ins v → Left next ins v r
  back : (g : ℕ) → r ≡ true → at next v ≡ link_to g → 1 ≤ at ins g → Left next ins v r

-- v's in-state was looked at: it stays as it is, or gets the next number
pub data VisitedIn (inputs nodes : ℕ) (fanins links : List ℕ) (v number r : ℕ) (links' : List ℕ) : Type 0 where
  stays : r ≡ number → links' ≡ links → (1 ≤ at (ins_in nodes links) v) ⊎ NoWayIn inputs fanins (next_in nodes links) (outs_in nodes links) v →
      VisitedIn inputs nodes fanins links v number r links'
  new : (from : ℕ) (between : List ℕ) → r ≡ suc number → at (ins_in nodes links) v ≡ 0 → (from ≡ no_link → ⊥) →
      Entered inputs fanins (next_in nodes links) (outs_in nodes links) v from → Stored nodes 2 v (suc number) links between →
      Stored nodes 4 v from between links' → VisitedIn inputs nodes fanins links v number r links'

-- an input's in-state was looked at: the source reaches it, so it has a number or gets the next
pub data InputEntered (nodes : ℕ) (links : List ℕ) (v number r : ℕ) (links' : List ℕ) : Type 0 where
  stays : r ≡ number → links' ≡ links → 1 ≤ at (ins_in nodes links) v → InputEntered nodes links v number r links'
  new : (between : List ℕ) → r ≡ suc number → at (ins_in nodes links) v ≡ 0 → Stored nodes 2 v (suc number) links between →
      Stored nodes 4 v edge_of_flow between links' → InputEntered nodes links v number r links'

-- v's out-state was looked at: it stays as it is, or gets the next number
pub data VisitedOut (nodes : ℕ) (links : List ℕ) (v number r : ℕ) (links' : List ℕ) : Type 0 where
  stays : r ≡ number → links' ≡ links → (1 ≤ at (outs_in nodes links) v) ⊎ NoWayOut (next_in nodes links) (ins_in nodes links) v →
      VisitedOut nodes links v number r links'
  new : r ≡ suc number → at (outs_in nodes links) v ≡ 0 → Left (next_in nodes links) (ins_in nodes links) v true →
      Stored nodes 3 v (suc number) links links' → VisitedOut nodes links v number r links'

-- The search's columns: links within the nodes, and the states found so far.
pub record Searched (inputs nodes : ℕ) (fanins roles links : List ℕ) (last : ℕ) : Type 0 where
  pub long : 5 * nodes ≤ length links
  pub leads : (v g : ℕ) → at (next_in nodes links) v ≡ link_to g → g < nodes
  pub found : Found (net_in inputs nodes fanins) (at (area_in roles)) (at (next_in nodes links)) (at (ins_in nodes links)) (at (outs_in nodes links))
      (at (parent_in nodes links)) last

-- v was visited: where no number was given, nothing changed and nothing more is reached at v.
pub record Visited (inputs nodes : ℕ) (fanins roles links : List ℕ) (v number r : ℕ) (links' : List ℕ) : Type 0 where
  pub searched : Searched inputs nodes fanins roles links' r
  pub onward : number ≤ r
  pub same : r ≡ number → links' ≡ links
  pub calm : r ≡ number → at (area_in roles) v ≡ 1 →
      Calm (net_in inputs nodes fanins) (at (next_in nodes links')) (at (ins_in nodes links')) (at (outs_in nodes links')) v
  pub kept : PathsKept nodes links links'

-- an input was visited: nothing where it lies outside the area, else its in-state, then its out-state
pub data InputVisited (nodes : ℕ) (roles links : List ℕ) (v number r : ℕ) (links' : List ℕ) : Type 0 where
  outside : (at (area_in roles) v ≡ 1 → ⊥) → r ≡ number → links' ≡ links → InputVisited nodes roles links v number r links'
  inside : (q : ℕ) (between : List ℕ) → at (area_in roles) v ≡ 1 → InputEntered nodes links v number q between → VisitedOut nodes between v q r links' →
      InputVisited nodes roles links v number r links'

-- What the ways into a gate and out of a node are read from.
pub record InAsked (inputs nodes : ℕ) (fanins links : List ℕ) (v : ℕ) : Type 0 where
  pub small : nodes ≤ 32767
  pub long : 5 * nodes ≤ length links
  pub gate : inputs ≤ v
  pub node : v < nodes
  pub fed : Fed fanins v nodes

pub record OutAsked (nodes : ℕ) (links : List ℕ) (v : ℕ) : Type 0 where
  pub small : nodes ≤ 32767
  pub long : 5 * nodes ≤ length links
  pub node : v < nodes
  pub leads : (g : ℕ) → at (next_in nodes links) v ≡ link_to g → g < nodes

-- What an entry to a node and the way on from it are asked with: room for one more number.
pub record EnterAsked (inputs nodes : ℕ) (fanins links : List ℕ) (v number : ℕ) : Type 0 where
  pub way : InAsked inputs nodes fanins links v
  pub number_small : number < 65535

pub record LeaveAsked (nodes : ℕ) (links : List ℕ) (v number : ℕ) : Type 0 where
  pub way : OutAsked nodes links v
  pub number_small : number < 65535

-- A node can be visited.
pub record VisitAsked (inputs nodes : ℕ) (fanins roles links : List ℕ) (v number : ℕ) : Type 0 where
  pub ground : Ground inputs nodes fanins roles
  pub searched : Searched inputs nodes fanins roles links number
  pub low : v < nodes

pub record GateAsked (inputs nodes : ℕ) (fanins roles links : List ℕ) (v number : ℕ) : Type 0 where
  pub visit : VisitAsked inputs nodes fanins roles links v number
  pub gate : inputs ≤ v

-- An input can be, in some drawing.
pub record InputAsked (nodes : ℕ) (roles links : List ℕ) (v number : ℕ) : Type 0 where
  pub inputs : ℕ
  pub fanins : List ℕ
  pub visit : VisitAsked inputs nodes fanins roles links v number
  pub input : v < inputs
