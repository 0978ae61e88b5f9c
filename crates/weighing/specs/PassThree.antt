-- Pass three: "25, 29 on each LUT", LUTs rising.
use Rattle.std.specs.Prelude.{ℕ, ◌+◌, ◌*◌, ◌≤◌, ◌<◌, ◌≡◌, Bool, true, List, length, get_or, ⊤, Result, Ok, Err}
use Rattle.storage.specs.Entries.{cleared, Beyond}
use Rattle.storage.specs.Marks.{Tells}
use Rattle.storage.specs.Lists.{size_at, list_at}
use Rattle.storage.specs.Drawings.{net_in, tables_in, Arranged}
use Rattle.theory.specs.paper.Net.{Net, Gate}
use Rattle.theory.specs.paper.Walk.{Cut}
use Rattle.theory.specs.paper.Cover.{Luts}
use Rattle.theory.specs.paper.Lookup.{ConeTable}
use Rattle.covering.specs.Covers.{luts_in}
use Rattle.weighing.specs.declared.luts.LutFault.{LutFault}
use Rattle.weighing.specs.declared.luts.LutFault.TheVariants as fault
use Rattle.weighing.specs.Laid.{LutsLaid}

-- 25 and 29, kept at a root: its leaves are a cut, and its table is its cone's, with no bit above its rows
pub record LutKept (net : Net) (tables : ℕ → ℕ) (k : ℕ) (luts : Luts) (table : ℕ → ℕ) (r : ℕ) : Type 0 where
  pub cut : Cut net k r (luts.leaves r)
  pub function : ConeTable net tables (luts.leaves r) r (table r)

module _ (net : Net) (tables : ℕ → ℕ) (k : ℕ) (luts : Luts) (table : ℕ → ℕ) where
  -- the LUTs before v keep both rules
  abbrev pub KeptBelow : ℕ → Type 0
  KeptBelow v = (r : ℕ) → r < v → luts.root r ≡ true → LutKept net tables k luts table r

  -- The reply of pass three: the first LUT, roots rising, that breaks a rule, and 25 before 29.
  pub data LutsRuled : Result ⊤ LutFault → Type 0 where
    kept : ((r : ℕ) → luts.root r ≡ true → LutKept net tables k luts table r) → LutsRuled (Ok tt)
    cut : {r : ℕ} → luts.root r ≡ true → KeptBelow r → (Cut net k r (luts.leaves r) → ⊥) → LutsRuled (Err (fault.Cut (record { id = r })))
    function : {r : ℕ} → luts.root r ≡ true → KeptBelow r → Cut net k r (luts.leaves r) →
        (ConeTable net tables (luts.leaves r) r (table r) → ⊥) → LutsRuled (Err (fault.Function (record { id = r })))

  -- what is said of one node: where it is a root, whether its LUT keeps 25, then 29
  pub data NodeRuled (r : ℕ) : Result ⊤ LutFault → Type 0 where
    kept : (luts.root r ≡ true → LutKept net tables k luts table r) → NodeRuled r (Ok tt)
    cut : luts.root r ≡ true → (Cut net k r (luts.leaves r) → ⊥) → NodeRuled r (Err (fault.Cut (record { id = r })))
    function : luts.root r ≡ true → Cut net k r (luts.leaves r) → (ConeTable net tables (luts.leaves r) r (table r) → ⊥) →
        NodeRuled r (Err (fault.Function (record { id = r })))

-- The arrays hold a drawing with its order, LUTs and their tables, and there is room to walk and to evaluate.
pub record LutsAsked (inputs nodes k : ℕ) (fanins rows order luts cuts tables roles values : List ℕ) : Type 0 where
  pub drawing : Arranged inputs nodes k fanins order
  pub laid : LutsLaid inputs nodes luts cuts
  pub rows_long : nodes ≤ length rows
  pub tables_long : nodes ≤ length tables
  pub roles_long : nodes ≤ length roles
  pub values_long : nodes ≤ length values

-- The reply, and the scratch: its first `nodes` entries are left at 0.
pub record LutsAnswered (inputs nodes k : ℕ) (fanins rows luts cuts tables roles values : List ℕ) (r : Result ⊤ LutFault) (roles' values' : List ℕ) : Type 0 where
  pub reply : LutsRuled (net_in inputs nodes fanins) (tables_in rows) k (luts_in inputs nodes cuts luts) (tables_in tables) r
  pub roles_clear : roles' ≡ cleared nodes roles
  pub values_clear : values' ≡ cleared nodes values

-- The steps

pub record NodeAsked (inputs nodes k : ℕ) (fanins rows order luts cuts tables roles values : List ℕ) (v : ℕ) : Type 0 where
  pub asked : LutsAsked inputs nodes k fanins rows order luts cuts tables roles values
  pub above : inputs ≤ v
  pub below : v < nodes

pub record CutAsked (inputs nodes k : ℕ) (fanins order cuts roles : List ℕ) (v : ℕ) : Type 0 where
  pub drawing : Arranged inputs nodes k fanins order
  pub cuts_long : 7 * v + 7 ≤ length cuts
  pub six : size_at cuts v ≤ 6
  pub roles_long : nodes ≤ length roles
  pub below : v < nodes

pub record CutTold (inputs nodes k : ℕ) (fanins cuts : List ℕ) (v : ℕ) (roles : List ℕ) (r : Bool) (roles' : List ℕ) : Type 0 where
  pub reply : Tells (Cut (net_in inputs nodes fanins) k v (list_at cuts v)) r
  pub rest : Beyond nodes roles roles'

pub record FunctionAsked (inputs nodes k : ℕ) (fanins rows order cuts tables values : List ℕ) (v : ℕ) : Type 0 where
  pub drawing : Arranged inputs nodes k fanins order
  pub cuts_long : 7 * v + 7 ≤ length cuts
  pub six : size_at cuts v ≤ 6
  pub rows_long : nodes ≤ length rows
  pub table_long : v < length tables
  pub values_long : nodes ≤ length values
  pub gate : Gate (net_in inputs nodes fanins) v
  pub cut : Cut (net_in inputs nodes fanins) k v (list_at cuts v)

pub record FunctionTold (inputs nodes : ℕ) (fanins rows cuts tables : List ℕ) (v : ℕ) (values : List ℕ) (r : Bool) (values' : List ℕ) : Type 0 where
  pub reply : Tells (ConeTable (net_in inputs nodes fanins) (tables_in rows) (list_at cuts v) v (get_or tables v 0)) r
  pub rest : Beyond nodes values values'

pub record NodeJudged (inputs nodes k : ℕ) (fanins rows luts cuts tables : List ℕ) (v : ℕ) (roles values : List ℕ) (r : Result ⊤ LutFault) (roles' values' : List ℕ) :
    Type 0 where
  pub reply : NodeRuled (net_in inputs nodes fanins) (tables_in rows) k (luts_in inputs nodes cuts luts) (tables_in tables) v r
  pub roles_rest : Beyond nodes roles roles'
  pub values_rest : Beyond nodes values values'

-- all nodes, before the scratch is cleared
pub record FirstJudged (inputs nodes k : ℕ) (fanins rows luts cuts tables roles values : List ℕ) (r : Result ⊤ LutFault) (roles' values' : List ℕ) : Type 0 where
  pub reply : LutsRuled (net_in inputs nodes fanins) (tables_in rows) k (luts_in inputs nodes cuts luts) (tables_in tables) r
  pub roles_rest : Beyond nodes roles roles'
  pub values_rest : Beyond nodes values values'
