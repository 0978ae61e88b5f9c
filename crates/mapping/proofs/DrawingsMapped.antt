-- From stage one to the sheet: what writing asks, and that the sheet written is the mapper's.
use Prim.Native.Nat.{ℕ, ◌-◌, ◌≤◌, ◌<◌}
use native.Mathlib.Omega.{arith}
use mathlib.Core.Path.{◌≡◌, sym, subst}
use mathlib.Core.List.{List}
use lib.ListN.{length, get_or}
use Rattle.storage.specs.declared.Numbers.{Numbers}
use Rattle.storage.specs.Lists.{size_at}
use Rattle.storage.proofs.InLists.{list_size}
use Rattle.storage.proofs.Rests.{rest_of, rest_length}
use Rattle.sheet.specs.declared.Form.{Form}
use Rattle.sheet.specs.paper.Encoding.{narrow}
use Rattle.sheet.specs.Longest.{sheet_most}
use Rattle.sheet.proofs.Longest.{most_grows}
use Rattle.packing.specs.declared.Mapping.{Mapping}
use Rattle.packing.specs.Tables.{Made, MapAsked, MappingMade}
use Rattle.packing.proofs.StageOne.{all_labelled, cut_made, root_gate}
use Rattle.sheet.specs.paper.Limits.{sheet_room}
use Rattle.settling.specs.Arrays.{sheet_in, TakenAsked}
use Rattle.settling.proofs.SheetsMade.{mappers_sheet, luts_counted, luts_few}
use Rattle.settling.proofs.Standing.{table_at, luts_long, words_long, standing}
use Rattle.mapping.specs.WholeSheets.{SheetAsked, SheetWritten}
use Rattle.mapping.specs.Sheets.{DrawingAsked, DrawingMapped}

module _ {inputs nodes k : ℕ} {fanins rows order outputs : List ℕ} {number : ℕ} {m : Made} {roles links sheet : List ℕ}
    (asked : DrawingAsked inputs nodes k fanins rows order outputs number m roles links sheet)
    {r : Mapping} {m' : Made} {roles' links' : List ℕ}
    (made : MappingMade inputs nodes k fanins rows outputs number m roles links r m' roles' links')
    {form : Form} (is : form ≡ narrow) where
  abbrev tables : List ℕ
  tables = rest_of m'.words nodes

  few_leaves : (v : ℕ) → v < nodes → get_or m'.luts v 0 ≡ 1 → size_at m'.cuts v ≤ k
  few_leaves v low one =
      let labelled = all_labelled asked.arrays made.labelled.made in
      let cut = cut_made asked.arrays made.labelled.made v (root_gate asked.arrays made.labelled.made made.cover v low one) in
      omega (arith, cut.few, list_size m'.cuts v (omega (arith, labelled.cuts_long)) (labelled.six v low))

  pub sheet_asked : length roles' ≡ length roles → length links' ≡ length links →
      SheetAsked form inputs nodes k fanins order m'.labels m'.cuts roles' links' m'.luts (rest_of m'.words nodes) r sheet
  sheet_asked roles_same links_same =
      record {
        arrays = record {
          drawing = asked.arrays.drawing;
          some = asked.some;
          labelled = all_labelled asked.arrays made.labelled.made;
          roles_long = omega (arith, asked.arrays.roles_long);
          links_long = omega (arith, asked.arrays.links_long);
        };
        luts_long = luts_long asked.arrays made;
        tables_long = omega (arith, rest_length m'.words nodes, words_long asked.arrays made);
        count = luts_counted made.cover tables;
        few = luts_few made.cover tables;
        few_leaves = few_leaves;
        room = subst (λ (f : Form). sheet_most f.width k nodes (nodes - inputs) ≤ length sheet) (sym is) asked.room;
      }

  pub drawing_mapped : {n : ℕ} {after : List ℕ} →
      SheetWritten form inputs nodes k fanins m'.labels m'.cuts m'.luts (rest_of m'.words nodes) r sheet n after →
      DrawingMapped inputs nodes k fanins rows outputs number sheet n after
  drawing_mapped {n} {after} written =
      let w =
      subst (λ (f : Form). SheetWritten f inputs nodes k fanins m'.labels m'.cuts m'.luts tables r sheet n after) is written in
      let are =
      table_at nodes (length m'.words - nodes) m'.words (omega (arith, words_long asked.arrays made)) in
      let stands =
      standing asked.arrays made tables are w.lines w.gates
      (λ i low. let says = w.each i low in record { label = says.label; cut = says.cut }) in
      record {
        sheet = sheet_in r.depth.depth w.lines m'.cuts m'.luts tables nodes;
        mappers = mappers_sheet stands (λ i low. (w.each i low).paths) r.depth.depth made.depth;
        fits = w.fits;
        written = w.written;
      }

-- A table that was taken, and a buffer for the longest sheet

module _ {n : Numbers} {fanins rows order outputs : List ℕ} (asked : TakenAsked n fanins rows order outputs) where
  paper_room : sheet_most narrow.width n.k.leaves n.nodes (n.nodes - n.inputs) ≤ sheet_room
  paper_room =
      let gates : n.nodes - n.inputs ≤ 191 = omega (arith, asked.some, asked.nodes_most) in
      omega (arith, most_grows 1 asked.drawing.k_small asked.nodes_most gates)

  pub paper_asked : {m : Made} {roles links sheet : List ℕ} →
      MapAsked n.inputs n.nodes n.k.leaves fanins rows order outputs n.roots m roles links → sheet_room ≤ length sheet →
      DrawingAsked n.inputs n.nodes n.k.leaves fanins rows order outputs n.roots m roles links sheet
  paper_asked arrays long = record { arrays = arrays; some = asked.some; room = omega (arith, paper_room) }
