-- What stage one leaves in the arrays, with a line for each gate that has no paths, is a settled sheet; and the mapping that the arrays hold is the
-- one printed of it.
use Prim.Native.Nat.{ℕ, zero, suc, ◌+◌, ◌-◌, ◌≤◌, ◌<◌}
use native.Mathlib.Omega.{arith}
use mathlib.Core.Path.{◌≡◌, refl, ap, sym, subst, ◌∙◌}
use mathlib.Core.List.{List, [], ◌∷◌, ◌++◌, map, map-map, append-nil, append_assoc}
use mathlib.Core.Bool.{cond}
use lib.ListN.{length, get_or, take, drop, length-map, length-take, length-drop}
use lib.Seq.{take-suc, length-take-le}
use Rattle.storage.specs.declared.Numbers.{Numbers}
use Rattle.storage.specs.Lists.{list_at}
use Rattle.storage.specs.Drawings.{net_in, tables_in}
use Rattle.storage.proofs.Entries.{member_of_part}
use Rattle.storage.proofs.Drawings.{drawn_span}
use Rattle.theory.proofs.Picks.{map_agree}
use Rattle.drawing.specs.paper.Table.{Table}
use Rattle.area.specs.Area.{label_in}
use Rattle.flow.specs.Numbers.{those}
use Rattle.flow.proofs.Sums.{those_hold}
use Rattle.sheet.specs.paper.Sheet.{Line, Sheet, line_of, no_line}
use Rattle.sheet.specs.paper.Rules.{from, labels_of}
use Rattle.wording.specs.paper.Text.{Lut, Mapping as Printed, listing_of}
use Rattle.wording.specs.paper.Puts.{Wrote}
use Rattle.wording.specs.paper.Rooms.{room}
use Rattle.wording.specs.Arrays.{Arrays, arrays_of, lut_at, output_at, marked, marked_from, luts_in, outputs_in, mapping_in, Held}
use Rattle.keeping.specs.paper.Mappers.{SettledSheet}
use Rattle.keeping.specs.paper.Printed.{listed_lut, listed_output, mapping_of}
use Rattle.packing.specs.declared.Mapping.{Mapping}
use Rattle.packing.specs.Tables.{Made, MapAsked, MappingMade}
use Rattle.packing.proofs.StageOne.{all_labelled}
use Rattle.settling.specs.Arrays.{is_marked, lut_in, luts_below, sheet_in}
use Rattle.settling.proofs.SheetsMade.{Standing, sheet_with, label_same, luts_counted}
use Rattle.settling.proofs.Standing.{table_at, luts_long, words_long, standing}
use Rattle.listing.specs.Lists.{ListAsked, TakenListed}

-- The marked nodes, by the marks and by their ids

marked_snoc : (v : ℕ) (xs : List ℕ) (x : ℕ) → marked_from v (xs ++ (x ∷ [])) ≡ marked_from v xs ++ marked (v + length xs) x
unfolding marked_from
marked_snoc v [] x = append-nil (marked v x) ∙ ap (λ (u : ℕ). marked u x) (omega arith)
marked_snoc v (y ∷ xs) x =
    ap (λ (l : List ℕ). marked v y ++ l) (marked_snoc (suc v) xs x)
    ∙ sym (append_assoc (marked v y) (marked_from (suc v) xs) (marked (suc v + length xs) x))
    ∙ ap (λ (u : ℕ). marked v y ++ marked_from (suc v) xs ++ marked u x) (omega arith)

marked_those : (roots : List ℕ) (n : ℕ) → n ≤ length roots → marked_from 0 (take n roots) ≡ those (is_marked roots) n
unfolding marked_from those
marked_those roots zero fits = refl
marked_those roots (suc n) fits =
    ap (marked_from 0) (take-suc roots n 0 (omega arith))
    ∙ marked_snoc 0 (take n roots) (get_or roots n 0)
    ∙ ap (λ (u : ℕ). marked_from 0 (take n roots) ++ marked u (get_or roots n 0)) (omega (arith, length-take-le n roots (omega arith)))
    ∙ ap (λ (l : List ℕ). l ++ cond (is_marked roots n) (n ∷ []) []) (marked_those roots n (omega arith))

-- A line for each number from v on

from_length : (v n : ℕ) → length (from v n) ≡ n
unfolding from
from_length v zero = refl
from_length v (suc n) = ap suc (from_length (suc v) n)

line_at : (line : ℕ → Line) (v n i : ℕ) → i < n → get_or (map line (from v n)) i no_line ≡ line (v + i)
unfolding from
line_at line v zero i low = absurd (omega arith)
line_at line v (suc n) zero low = ap line (omega arith)
line_at line v (suc n) (suc i) low = line_at line (suc v) n i (omega arith) ∙ ap line (omega arith)

module _ {inputs nodes k : ℕ} {fanins rows order outputs : List ℕ} {number : ℕ} {m : Made} {roles links : List ℕ}
    (asked : MapAsked inputs nodes k fanins rows order outputs number m roles links)
    {r : Mapping} {m' : Made} {roles' links' : List ℕ}
    (made : MappingMade inputs nodes k fanins rows outputs number m roles links r m' roles' links') (size : ℕ) (fits : nodes ≤ size) where
  abbrev bare : ℕ → Line
  bare v = line_of (label_in m'.labels v) (list_at m'.cuts v) []

  abbrev lines : List Line
  lines = map bare (from inputs (nodes - inputs))

  abbrev tables : List ℕ
  tables = take size (drop nodes m'.words)

  abbrev arrays : Arrays
  arrays = arrays_of m'.labels m'.cuts m'.luts tables outputs

  abbrev sheet : Sheet
  sheet = sheet_in r.depth.depth lines m'.cuts m'.luts tables nodes

  span : inputs ≤ nodes
  span = drawn_span asked.drawing.drawn

  many : length lines ≡ nodes - inputs
  many = length-map (from inputs (nodes - inputs)) bare ∙ from_length inputs (nodes - inputs)

  stands : Standing inputs nodes k fanins rows m'.labels m'.cuts m'.luts tables (take number outputs) lines
  stands =
      standing asked made tables (table_at nodes size m'.words fits) lines (omega (arith, many, span)) (λ i low.
      let is = line_at bare inputs (nodes - inputs) i (omega (arith, low, many)) in
      record { label = ap (λ (l : Line). l.label) is; cut = ap (λ (l : Line). l.leaves) is })

  settled : SettledSheet (net_in inputs nodes fanins) (tables_in rows) k (take number outputs) sheet
  settled = sheet_with stands (λ t gate. tt) r.depth.depth made.depth

  -- what is printed

  luts_are : luts_in arrays nodes ≡ map (listed_lut (labels_of inputs lines)) (luts_below m'.cuts m'.luts tables nodes)
  unfolding luts_below lut_at
  luts_are =
      ap (map (lut_at m'.labels m'.cuts tables)) (marked_those m'.luts nodes (luts_long asked made))
      ∙ map_agree (lut_at m'.labels m'.cuts tables) (λ v. listed_lut (labels_of inputs lines) (lut_in m'.cuts tables v))
      (those (is_marked m'.luts) nodes)
      (λ v among.
      let same : label_in m'.labels v ≡ labels_of inputs lines v = label_same stands v (those_hold (is_marked m'.luts) nodes among).0 in
      λ i. record { root = v; depth = same i; leaves = list_at m'.cuts v; table = get_or tables v 0 })
      ∙ sym (map-map (listed_lut (labels_of inputs lines)) (lut_in m'.cuts tables) (those (is_marked m'.luts) nodes))

  outputs_are : outputs_in arrays number ≡ map (listed_output (labels_of inputs lines)) (take number outputs)
  unfolding output_at
  outputs_are =
      map_agree (output_at m'.labels) (listed_output (labels_of inputs lines)) (take number outputs) (λ v among.
      let same : label_in m'.labels v ≡ labels_of inputs lines v = label_same stands v (asked.output_nodes v among) in
      λ i. record { node = v; depth = same i })

  held : Held inputs nodes arrays number
  held =
      let labelled = all_labelled asked made.labelled.made in
      record {
        span = span;
        small = asked.drawing.small;
        labels_long = labelled.labels_long;
        cuts_long = labelled.cuts_long;
        luts_long = luts_long asked made;
        tables_long = simp (length-take, length-drop) (omega (arith, words_long asked made, fits));
        outputs_long = asked.outputs_long;
        six = λ v low one. labelled.six v low;
        output_nodes = λ i low. asked.output_nodes (get_or outputs i 0) (member_of_part number outputs i low (omega (arith, asked.outputs_long)));
      }

  counted : r.luts ≡ length (luts_in arrays nodes)
  counted =
      luts_counted made.cover tables
      ∙ sym (length-map (luts_below m'.cuts m'.luts tables nodes) (listed_lut (labels_of inputs lines)))
      ∙ sym (ap (λ (l : List Lut). length l) luts_are)

  mapping_is : (table : Table) → table.k ≡ k → table.inputs ≡ inputs → length table.gates ≡ nodes - inputs → table.outputs ≡ take number outputs →
      mapping_in k inputs nodes arrays number r.depth.depth ≡ mapping_of table sheet
  mapping_is table k-is inputs_is gates-is outputs-is =
      let luts : luts_in arrays nodes ≡ map (listed_lut (labels_of table.inputs lines)) sheet.luts =
      luts_are ∙ ap (λ (n : ℕ). map (listed_lut (labels_of n lines)) sheet.luts) (sym inputs_is) in
      let all : outputs_in arrays number ≡ map (listed_output (labels_of table.inputs lines)) table.outputs =
      outputs_are ∙ (λ i. map (listed_output (labels_of (sym inputs_is i) lines)) (sym outputs-is i)) in
      λ i. record { k = sym k-is i; inputs = sym inputs_is i; gates = sym gates-is i; luts = luts i; depth = r.depth.depth; outputs = all i }

-- In the paper's numbers: the tables are `size` of the words behind the first column.

module _ {n : Numbers} {fanins rows order outputs text : List ℕ} (asked : ListAsked n fanins rows order outputs text)
    {m : Made} {roles links : List ℕ} {r : Mapping} {m' : Made} {roles' links' : List ℕ}
    (made : MappingMade n.inputs n.nodes n.k.leaves fanins rows outputs n.roots m roles links r m' roles' links')
    (map-asked : MapAsked n.inputs n.nodes n.k.leaves fanins rows order outputs n.roots m roles links)
    (size : ℕ) (fits : n.nodes ≤ size) where
  abbrev all : Arrays
  all = arrays_of m'.labels m'.cuts m'.luts (take size (drop n.nodes m'.words)) outputs

  pub mapping_asked : Held n.inputs n.nodes all n.roots
      × ((r.luts ≡ length (luts_in all n.nodes)) × (room n.nodes n.roots ≤ length text))
  mapping_asked =
      (held map-asked made size fits, (counted map-asked made size fits, omega (arith, asked.few, asked.room, asked.taken.nodes_most)))

  pub taken_listed : {written : ℕ} {after : List ℕ} →
      Wrote text (listing_of (mapping_in n.k.leaves n.inputs n.nodes all n.roots r.depth.depth)) written after →
      TakenListed n fanins rows outputs text written after
  taken_listed {written} {after} wrote =
      record {
        sheet = sheet map-asked made size fits;
        settled = settled map-asked made size fits;
        text = λ table is.
            subst (λ (x : Printed). Wrote text (listing_of x) written after)
            (mapping_is map-asked made size fits table is.k is.inputs (omega (arith, is.gates)) is.outputs_are) wrote;
      }
