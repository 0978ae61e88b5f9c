-- Stage one of the mapper: what each step asks follows from what the steps before left.
use Prim.Native.Nat.{ℕ, ◌*◌, ◌≤◌, ◌<◌}
use native.Mathlib.Omega.{arith}
use mathlib.Core.Path.{◌≡◌}
use mathlib.Core.List.{List}
use lib.ListN.{length, get_or, take}
use Rattle.storage.specs.Lists.{list_at}
use Rattle.storage.specs.Drawings.{net_in}
use Rattle.theory.specs.paper.Net.{Gate}
use Rattle.theory.specs.paper.Sound.{Ranked}
use Rattle.theory.specs.paper.Walk.{Cut}
use Rattle.theory.proofs.MappersCuts.{mappers_cut_is_cut}
use Rattle.walking.proofs.Orders.{drawn_ranked}
use Rattle.labelling.specs.Storing.{LabellingMade}
use Rattle.labelling.specs.Gates.{LabelAsked}
use Rattle.covering.specs.Covers.{CutsIn, CoverAsked, CoverMade, DepthAsked}
use Rattle.covering.proofs.Orders.{needed_gate, gate_there}
use Rattle.covering.proofs.Covered.{cuts_chosen}
use Rattle.packing.specs.Tables.{Labelled, Made, MapAsked, TablesAsked}

module _ {inputs nodes k : ℕ} {fanins rows order outputs : List ℕ} {number : ℕ} {m : Made} {roles links : List ℕ}
    (asked : MapAsked inputs nodes k fanins rows order outputs number m roles links) where
  pub label_asked : LabelAsked inputs nodes k fanins order m.labels m.cuts roles links
  label_asked = record { drawing = asked.drawing; room = asked.room; roles_long = asked.roles_long; links_long = asked.links_long }

  ranked : Ranked (net_in inputs nodes fanins)
  ranked = drawn_ranked asked.drawing.drawn asked.drawing.ordered

  module _ {labels cuts : List ℕ} (made : LabellingMade (net_in inputs nodes fanins) k m.labels m.cuts labels cuts) where
    pub all_labelled : Labelled inputs nodes k fanins labels cuts
    unfolding net_in
    all_labelled =
        record {
          labels_long = made.room.labels_long;
          cuts_long = made.room.cuts_long;
          label = made.label;
          cut = made.cut;
          six = made.six;
        }

    pub cut_made : (v : ℕ) → Gate (net_in inputs nodes fanins) v → Cut (net_in inputs nodes fanins) k v (list_at cuts v)
    cut_made v gate = mappers_cut_is_cut asked.drawing.drawn.bounded ranked gate (made.cut v gate)

    cuts_in : CutsIn inputs nodes k fanins cuts
    unfolding net_in
    cuts_in = record { cuts_long = made.room.cuts_long; six = λ g gate. made.six g gate.below; cut = cut_made }

    pub cover_asked : {room : ℕ} → nodes ≤ room → CoverAsked inputs nodes order cuts outputs number room
    cover_asked long =
        record {
          chosen = cuts_chosen inputs nodes k fanins order cuts asked.drawing cuts_in;
          outputs_long = asked.outputs_long;
          output_nodes = asked.output_nodes;
          luts_long = long;
        }

    pub depth_asked : DepthAsked labels (take number outputs)
    depth_asked v among = let long = all_labelled.labels_long in omega (arith, asked.output_nodes v among)

    module _ {before : List ℕ} {many : ℕ} {luts : List ℕ} (cover : CoverMade inputs nodes cuts (take number outputs) before many luts) where
      pub root_gate : (v : ℕ) → v < nodes → get_or luts v 0 ≡ 1 → Gate (net_in inputs nodes fanins) v
      root_gate v low one = gate_there inputs nodes cuts fanins (needed_gate (cover.marks.holds v low one))

      pub tables_asked : {words : List ℕ} → nodes ≤ length before → 2 * nodes ≤ length words →
          TablesAsked inputs nodes k fanins rows order cuts luts words
      tables_asked luts_long words_long =
          record {
            arrays =
                record {
                  drawing = asked.drawing;
                  rows_long = asked.rows_long;
                  cuts_long = all_labelled.cuts_long;
                  luts_long = omega (arith, cover.rest.size);
                  gate = root_gate;
                  cut = λ v low one. cut_made v (root_gate v low one);
                  six = all_labelled.six;
                };
            words_long = words_long;
          }
