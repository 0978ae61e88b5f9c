-- What the thin functions over the links' columns ask and leave.
use Rattle.std.specs.Prelude.{ℕ, ◌+◌, ◌*◌, ◌≤◌, ◌<◌, ◌≡◌, ◌⊎◌, List, length, replicate}
use Rattle.storage.specs.Columns.{column}
use Rattle.storage.specs.Entries.{at, Beyond, Upd}
use Rattle.flow.specs.Links.{next_in, prev_in, ins_in, outs_in, parent_in}

-- Column c has a place for v.
pub record CellIn (nodes c v : ℕ) (links : List ℕ) : Type 0 where
  pub small : nodes ≤ 32767
  pub long : 5 * nodes ≤ length links
  pub one_of_five : c < 5
  pub node : v < nodes

-- x was stored in column c at v; the other columns are as before, and so is what lies behind the five.
pub record Stored (nodes c v x : ℕ) (links links' : List ℕ) : Type 0 where
  pub stored : Upd (at (column nodes c links)) v x (at (column nodes c links'))
  pub others : (d : ℕ) → (d ≡ c → ⊥) → column nodes d links' ≡ column nodes d links
  pub rest : Beyond (5 * nodes) links links'

-- There are `many` columns from `first` on.
pub record ColumnsIn (nodes first many : ℕ) (links : List ℕ) : Type 0 where
  pub small : nodes ≤ 32767
  pub long : 5 * nodes ≤ length links
  pub of_five : first + many ≤ 5

-- The columns from `first` on, `many` of them, were cleared, and no others.
pub record Cleared (nodes first many : ℕ) (links links' : List ℕ) : Type 0 where
  pub zeros : (d : ℕ) → first ≤ d → d < first + many → column nodes d links' ≡ replicate nodes 0
  pub others : (d : ℕ) → (d < first) ⊎ (first + many ≤ d) → column nodes d links' ≡ column nodes d links
  pub rest : Beyond (5 * nodes) links links'

-- A search leaves the paths as they are, and an augmenting leaves what the search found.
pub record PathsKept (nodes : ℕ) (links links' : List ℕ) : Type 0 where
  pub next : next_in nodes links' ≡ next_in nodes links
  pub prev : prev_in nodes links' ≡ prev_in nodes links
  pub rest : Beyond (5 * nodes) links links'

pub record StatesKept (nodes : ℕ) (links links' : List ℕ) : Type 0 where
  pub ins : ins_in nodes links' ≡ ins_in nodes links
  pub outs : outs_in nodes links' ≡ outs_in nodes links
  pub parent : parent_in nodes links' ≡ parent_in nodes links
  pub rest : Beyond (5 * nodes) links links'
