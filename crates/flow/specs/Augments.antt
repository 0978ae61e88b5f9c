-- What the augmenting asks and leaves.
use Rattle.std.specs.Prelude.{ℕ, suc, ◌*◌, ◌≤◌, ◌<◌, ◌≡◌, Bool, true, false, List, length}
use Rattle.storage.specs.Drawings.{net_in}
use Rattle.storage.specs.Entries.{Upd, at}
use Rattle.storage.specs.Roles.{area_in, ends_in}
use Rattle.flow.specs.Numbers.{sum}
use Rattle.flow.specs.Links.{next_in, prev_in, no_link, edge_of_flow, link_to}
use Rattle.flow.specs.Flow.{one, Freed, Carries}
use Rattle.flow.specs.Cells.{PathsKept, StatesKept}
use Rattle.flow.specs.Turns.{Searched}
use Rattle.flow.specs.Sweeps.{Field, AllSettled}

-- v's out-state can be freed: v does not go to the sink.
pub record FreeAsked (nodes : ℕ) (links : List ℕ) (v : ℕ) : Type 0 where
  pub small : nodes ≤ 32767
  pub long : 5 * nodes ≤ length links
  pub node : v < nodes
  pub no_sink : at (next_in nodes links) v ≡ edge_of_flow → ⊥
  pub leads : (g : ℕ) → at (next_in nodes links) v ≡ link_to g → g < nodes

pub record StepAsked (nodes : ℕ) (links : List ℕ) (loose v : ℕ) : Type 0 where
  pub free : FreeAsked nodes links v
  pub loose_node : loose < nodes

-- One step back from a loose node: v's out-state was freed, and v was linked to the loose node; or v is the loose node itself, and was dropped.
pub data Stepped (next prev : ℕ → ℕ) (loose v r : ℕ) (next' prev' : ℕ → ℕ) : Type 0 where
  dropped : (m q : ℕ → ℕ) → v ≡ loose → Freed next prev v r m q → Upd m loose no_link next' → Upd q loose no_link prev' →
      Stepped next prev loose v r next' prev'
  linked : (m q : ℕ → ℕ) → (v ≡ loose → ⊥) → Freed next prev v r m q → Upd m v (link_to loose) next' → Upd q loose (link_to v) prev' →
      Stepped next prev loose v r next' prev'

-- Over the array v's out-state was freed, or one step back was taken, and what the search found is as before.
pub record FreedIn (nodes : ℕ) (links : List ℕ) (v r : ℕ) (links' : List ℕ) : Type 0 where
  pub stored : Freed (at (next_in nodes links)) (at (prev_in nodes links)) v r (at (next_in nodes links')) (at (prev_in nodes links'))
  pub kept : StatesKept nodes links links'

pub record SteppedIn (nodes : ℕ) (links : List ℕ) (loose v r : ℕ) (links' : List ℕ) : Type 0 where
  pub stored : Stepped (at (next_in nodes links)) (at (prev_in nodes links)) loose v r (at (next_in nodes links')) (at (prev_in nodes links'))
  pub kept : StatesKept nodes links links'

-- The flow that stands in the array, of `number` paths.
pub record FlowIn (inputs nodes : ℕ) (fanins roles links : List ℕ) (number : ℕ) : Type 0 where
  pub long : 5 * nodes ≤ length links
  pub carries : Carries (net_in inputs nodes fanins) (at (area_in roles)) (at (ends_in roles)) (at (next_in nodes links)) (at (prev_in nodes links)) number

-- how many paths start
abbrev pub starts_of : (nodes : ℕ) (links : List ℕ) → ℕ
starts_of nodes links = sum (λ v. one (at (prev_in nodes links) v)) nodes

pub record RoundAsked (inputs nodes : ℕ) (fanins order roles links : List ℕ) : Type 0 where
  pub field : Field inputs nodes fanins order roles
  pub flow : FlowIn inputs nodes fanins roles links (starts_of nodes links)

-- A round adds a path, or the search ended with all settled and the flow is as before.
pub data RoundDone (inputs nodes : ℕ) (fanins roles links : List ℕ) (r : Bool) (links' : List ℕ) : Type 0 where
  more : r ≡ true → FlowIn inputs nodes fanins roles links' (suc (starts_of nodes links)) → RoundDone inputs nodes fanins roles links r links'
  full : (last : ℕ) → r ≡ false → PathsKept nodes links links' → Searched inputs nodes fanins roles links' last →
      AllSettled inputs nodes fanins roles links' → RoundDone inputs nodes fanins roles links r links'
