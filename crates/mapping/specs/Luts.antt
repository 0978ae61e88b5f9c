-- LUTs of the sheet from arrays: what the functions that write them ask.
use Rattle.std.specs.Prelude.{ℕ, ◌+◌, ◌*◌, ◌≤◌, ◌<◌, cond, length}
use mathlib.Core.List.{List, [], ◌∷◌, flat_map}
use Rattle.storage.specs.Lists.{size_at, ListsIn}
use Rattle.drawing.specs.paper.Limits.{most_k}
use Rattle.sheet.specs.declared.Form.{Form}
use Rattle.sheet.specs.paper.Sheet.{Lut}
use Rattle.sheet.specs.paper.Encoding.{lut_field}
use Rattle.sheet.specs.Writing.{Room}
use Rattle.settling.specs.Arrays.{is_marked, lut_in, luts_below}

-- node v's LUT, if it is a root
abbrev pub luts_at : (cuts luts tables : List ℕ) → ℕ → List Lut
luts_at cuts luts tables v = cond (is_marked luts v) (lut_in cuts tables v ∷ []) []

-- Node v's part of each array is there, and its LUT has room.
pub record LutAsked (form : Form) (v : ℕ) (cuts luts tables sheet : List ℕ) (at : ℕ) : Type 0 where
  pub cuts_long : 7 * v + 7 ≤ length cuts
  pub luts_long : v < length luts
  pub tables_long : v < length tables
  pub six : size_at cuts v ≤ most_k
  pub room : Room sheet at (flat_map (lut_field form) (luts_at cuts luts tables v))

pub record LutsAsked (form : Form) (nodes : ℕ) (cuts luts tables sheet : List ℕ) (at : ℕ) : Type 0 where
  pub small : nodes ≤ 32767
  pub lists : ListsIn nodes cuts
  pub luts_long : nodes ≤ length luts
  pub tables_long : nodes ≤ length tables
  pub room : Room sheet at (flat_map (lut_field form) (luts_below cuts luts tables nodes))
