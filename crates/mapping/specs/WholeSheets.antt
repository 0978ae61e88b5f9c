-- The whole sheet written from arrays: head, lines, LUTs.
use Rattle.std.specs.Prelude.{ℕ, ◌+◌, ◌-◌, ◌≤◌, ◌<◌, ◌≡◌, List, length, get_or}
use Rattle.storage.specs.Drawings.{net_in}
use Rattle.storage.specs.Lists.{size_at}
use Rattle.sheet.specs.declared.Form.{Form}
use Rattle.sheet.specs.paper.Sheet.{Line, no_line}
use Rattle.sheet.specs.paper.Encoding.{encode}
use Rattle.sheet.specs.Writing.{Written}
use Rattle.sheet.specs.Longest.{sheet_most}
use Rattle.packing.specs.declared.Mapping.{Mapping}
use Rattle.settling.specs.Arrays.{luts_below, sheet_in}
use Rattle.mapping.specs.Lines.{LinesFrom, LineOf}

-- Labels, cuts, roots and tables stand in the arrays, and the buffer has room for the longest sheet.
pub record SheetAsked (form : Form) (inputs nodes k : ℕ) (fanins order labels cuts roles links luts tables : List ℕ) (made : Mapping)
    (sheet : List ℕ) : Type 0 where
  pub arrays : LinesFrom inputs nodes k fanins order labels cuts roles links
  pub luts_long : nodes ≤ length luts
  pub tables_long : nodes ≤ length tables
  pub count : made.luts ≡ length (luts_below cuts luts tables nodes)
  pub few : length (luts_below cuts luts tables nodes) ≤ nodes - inputs
  pub few_leaves : (v : ℕ) → v < nodes → get_or luts v 0 ≡ 1 → size_at cuts v ≤ k
  pub room : sheet_most form.width k nodes (nodes - inputs) ≤ length sheet

pub record SheetWritten (form : Form) (inputs nodes k : ℕ) (fanins labels cuts luts tables : List ℕ) (made : Mapping) (before : List ℕ)
    (r : ℕ) (after : List ℕ) : Type 0 where
  pub lines : List Line
  pub gates : inputs + length lines ≡ nodes
  pub each : (i : ℕ) → i < length lines → LineOf (net_in inputs nodes fanins) k labels cuts (inputs + i) (get_or lines i no_line)
  pub fits : length (encode form (sheet_in made.depth.depth lines cuts luts tables nodes)) ≤ length before
  pub written : Written before 0 (encode form (sheet_in made.depth.depth lines cuts luts tables nodes)) after r
