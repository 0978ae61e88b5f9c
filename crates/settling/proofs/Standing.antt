-- What stage one leaves stands in the arrays, whatever lines come with it; and arrays for the largest table are what it asks.
use Prim.Native.Nat.{ℕ, ◌+◌, ◌*◌, ◌≤◌, ◌<◌}
use native.Mathlib.Nat.{one-mul}
use native.Mathlib.Omega.{arith}
use mathlib.Core.Path.{◌≡◌, ap, sym, subst, ◌∙◌}
use mathlib.Core.List.{List, []}
use lib.ListN.{length, get_or, take, drop}
use lib.Seq.{get_or-take, get_or-drop}
use Rattle.storage.specs.declared.Numbers.{Numbers}
use Rattle.storage.specs.Drawings.{net_in, tables_in}
use Rattle.storage.proofs.InColumns.{column_at}
use Rattle.theory.specs.paper.Net.{Input}
use Rattle.theory.specs.paper.Cover.{Label}
use Rattle.theory.proofs.FlowMap.{labels_at_inputs}
use Rattle.drawing.specs.paper.Limits.{most_nodes}
use Rattle.drawing.specs.Reading.{most_places}
use Rattle.walking.proofs.Orders.{drawn_ranked}
use Rattle.area.specs.Area.{label_in}
use Rattle.sheet.specs.paper.Sheet.{Line, no_line}
use Rattle.packing.specs.declared.Mapping.{Mapping}
use Rattle.packing.specs.Tables.{tables_of, TableIs, Made, made_of, MapAsked, MappingMade}
use Rattle.packing.proofs.StageOne.{all_labelled}
use Rattle.settling.specs.Arrays.{TakenAsked}
use Rattle.settling.proofs.SheetsMade.{LineSays, Standing}

-- the tables lie behind the first column of the words
pub table_at : (nodes size : ℕ) (words : List ℕ) → nodes ≤ size → (v : ℕ) → v < nodes →
    get_or (tables_of nodes words) v 0 ≡ get_or (take size (drop nodes words)) v 0
table_at nodes size words long v low =
    column_at nodes 1 words v low
    ∙ ap (λ (i : ℕ). get_or words (i + v) 0) (one-mul nodes)
    ∙ sym (get_or-take size (drop nodes words) v 0 (omega arith) ∙ get_or-drop nodes words v 0)

-- What stage one leaves stands in the arrays
module _ {inputs nodes k : ℕ} {fanins rows order outputs : List ℕ} {number : ℕ} {m : Made} {roles links : List ℕ}
    (asked : MapAsked inputs nodes k fanins rows order outputs number m roles links)
    {r : Mapping} {m' : Made} {roles' links' : List ℕ}
    (made : MappingMade inputs nodes k fanins rows outputs number m roles links r m' roles' links') where
  labelled_nodes : (v : ℕ) → v < (net_in inputs nodes fanins).nodes → Label (net_in inputs nodes fanins) k [] v (label_in m'.labels v)
  unfolding net_in
  labelled_nodes v low = (all_labelled asked made.labelled.made).label v low []

  zeros : (v : ℕ) → Input (net_in inputs nodes fanins) v → label_in m'.labels v ≡ 0
  zeros =
      labels_at_inputs asked.drawing.drawn.bounded (drawn_ranked asked.drawing.drawn asked.drawing.ordered) labelled_nodes

  pub luts_long : nodes ≤ length m'.luts
  luts_long = omega (arith, asked.luts_long, made.cover.rest.size)

  pub words_long : 2 * nodes ≤ length m'.words
  words_long = omega (arith, asked.words_long, made.tables.rest.size)

  pub standing : (tables : List ℕ) → ((v : ℕ) → v < nodes → get_or (tables_of nodes m'.words) v 0 ≡ get_or tables v 0) →
      (lines : List Line) → inputs + length lines ≡ nodes →
      ((i : ℕ) → i < length lines → LineSays m'.labels m'.cuts (inputs + i) (get_or lines i no_line)) →
      Standing inputs nodes k fanins rows m'.labels m'.cuts m'.luts tables (take number outputs) lines
  standing tables are lines gates each =
      record {
        bounded = asked.drawing.drawn.bounded;
        zeros = zeros;
        labelled = all_labelled asked made.labelled.made;
        marks = made.cover.marks;
        tables_known = λ v low.
            subst (TableIs (net_in inputs nodes fanins) (tables_in rows) m'.cuts m'.luts v) (are v low)
            (made.tables.each v low);
        outputs_low = asked.output_nodes;
        gates = gates;
        each = each;
      }

-- A table that was taken, and arrays for the largest

module _ {n : Numbers} {fanins rows order outputs : List ℕ} (asked : TakenAsked n fanins rows order outputs) where
  pub paper_arrays : {labels cuts roles links luts words : List ℕ} → most_nodes ≤ length labels → most_places ≤ length cuts →
      most_nodes ≤ length roles → 5 * most_nodes ≤ length links → most_nodes ≤ length luts → 2 * most_nodes ≤ length words →
      MapAsked n.inputs n.nodes n.k.leaves fanins rows order outputs n.roots (made_of labels cuts luts words) roles links
  paper_arrays labels cuts roles links luts words =
      let most = asked.nodes_most in
      record {
        drawing = asked.drawing;
        rows_long = asked.rows_long;
        outputs_long = asked.outputs_long;
        output_nodes = asked.output_nodes;
        room = record { labels_long = omega arith; cuts_long = omega arith };
        roles_long = omega arith;
        links_long = omega arith;
        luts_long = omega arith;
        words_long = omega arith;
      }
