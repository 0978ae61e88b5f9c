-- What a sweep and a whole search leave.
use Rattle.std.specs.Prelude.{ℕ, ◌*◌, ◌≤◌, ◌<◌, ◌≡◌, Bool, true, false, Option, None, Some, List, length}
use Rattle.storage.specs.declared.Node.{Node}
use Rattle.storage.specs.Drawings.{net_in, Ordered}
use Rattle.storage.specs.Entries.{at}
use Rattle.storage.specs.Roles.{area_in, ends_in}
use Rattle.std.specs.declared.ops.ControlFlow.{ControlFlow}
use Rattle.std.specs.declared.ops.ControlFlow.TheVariants.{Break, Continue}
use Rattle.flow.specs.Links.{next_in, ins_in, outs_in, link_to}
use Rattle.flow.specs.Flow.{Settled}
use Rattle.flow.specs.Turns.{Ground, Searched}

-- whether v is an end whose out-state was found
pub record EndReached (ends outs : List ℕ) (v : ℕ) (r : Bool) : Type 0 where
  pub is_end : r ≡ true → at ends v ≡ 1
  pub reached : r ≡ true → 1 ≤ at outs v
  pub missed : r ≡ false → at ends v ≡ 1 → at outs v ≡ 0

pub record EndAsked (nodes : ℕ) (roles links : List ℕ) (v : ℕ) : Type 0 where
  pub small : nodes ≤ 32767
  pub long : 5 * nodes ≤ length links
  pub roles_long : length roles ≡ nodes
  pub node : v < nodes
  pub inside : at (ends_in roles) v ≡ 1 → at (area_in roles) v ≡ 1

-- The drawing with its order and its ends.
pub record Field (inputs nodes : ℕ) (fanins order roles : List ℕ) : Type 0 where
  pub ground : Ground inputs nodes fanins roles
  pub ordered : Ordered (net_in inputs nodes fanins) order
  pub ends_inside : (v : ℕ) → at (ends_in roles) v ≡ 1 → at (area_in roles) v ≡ 1

pub record SweepAsked (inputs nodes : ℕ) (fanins order roles links : List ℕ) (number : ℕ) : Type 0 where
  pub field : Field inputs nodes fanins order roles
  pub searched : Searched inputs nodes fanins roles links number

-- v is settled, as the links and the roles say it
abbrev pub SettledIn : (inputs nodes : ℕ) (fanins roles links : List ℕ) (v : ℕ) → Type 0
SettledIn inputs nodes fanins roles links v =
    Settled (net_in inputs nodes fanins) (at (ends_in roles)) (at (next_in nodes links)) (at (ins_in nodes links)) (at (outs_in nodes links)) v

-- nothing more is reached in the area, and no end is
abbrev pub AllSettled : (inputs nodes : ℕ) (fanins roles links : List ℕ) → Type 0
AllSettled inputs nodes fanins roles links = (v : ℕ) → at (area_in roles) v ≡ 1 → SettledIn inputs nodes fanins roles links v

-- An end was reached.
pub record EndFound (inputs nodes : ℕ) (fanins roles links : List ℕ) (v : ℕ) : Type 0 where
  pub last : ℕ
  pub searched : Searched inputs nodes fanins roles links last
  pub is_end : at (ends_in roles) v ≡ 1
  pub reached : 1 ≤ at (outs_in nodes links) v

-- A sweep reached an end, or went all along; if it gave no number then, all is settled.
pub data SweptSo (inputs nodes : ℕ) (fanins roles : List ℕ) (number : ℕ) (r : ControlFlow Node ℕ) (links : List ℕ) : Type 0 where
  reached : (v : Node) → r ≡ Break v → EndFound inputs nodes fanins roles links v.id → SweptSo inputs nodes fanins roles number r links
  up_to : (last : ℕ) → r ≡ Continue last → Searched inputs nodes fanins roles links last → number ≤ last →
      (last ≡ number → AllSettled inputs nodes fanins roles links) → SweptSo inputs nodes fanins roles number r links

-- What a search starts from, and how it ends: at an end, or with all settled.
pub record SearchAsked (inputs nodes : ℕ) (fanins order roles links : List ℕ) : Type 0 where
  pub field : Field inputs nodes fanins order roles
  pub long : 5 * nodes ≤ length links
  pub leads : (v g : ℕ) → at (next_in nodes links) v ≡ link_to g → g < nodes

pub data SoughtSo (inputs nodes : ℕ) (fanins roles : List ℕ) (r : Option Node) (links : List ℕ) : Type 0 where
  ended : (v : Node) → r ≡ Some v → EndFound inputs nodes fanins roles links v.id → SoughtSo inputs nodes fanins roles r links
  nothing : (last : ℕ) → r ≡ None → Searched inputs nodes fanins roles links last → AllSettled inputs nodes fanins roles links →
      SoughtSo inputs nodes fanins roles r links
