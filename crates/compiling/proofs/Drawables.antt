-- The gate table of a text whose numbers are right is within document 01's numbers, and its bytes fit 4,096. So, where its net has no loop, `map` takes
-- its bytes.
use Prim.Native.Nat.{ℕ, ◌≤◌}
use native.Mathlib.Omega.{arith}
use mathlib.Core.Path.{sym, subst}
use mathlib.Core.List.{List, Memᴰ}
use lib.ListN.{length, length-map}
use Rattle.theory.specs.paper.Walk.{NoLoop}
use Rattle.drawing.specs.paper.Table.{GateLine, net_of}
use Rattle.drawing.specs.Lines.{SoundLine}
use Rattle.taking.specs.paper.Taken.{IsTaken}
use Rattle.tabling.specs.paper.Encoding.{encode}
use Rattle.tabling.specs.Within.{Within}
use Rattle.tabling.proofs.Lengths.{length_most}
use Rattle.tabling.proofs.RoundTrip.{reads_whole, drawn_back}
use Rattle.grammar.specs.paper.Gates.{node_at, table_for, InNumbers}
use Rattle.grammar.specs.paper.Grammar.{System}
use Rattle.grammar.proofs.Places.{inputs_some, outputs_some}
use Rattle.grammar.proofs.Sizes.{table_gates_length, table_gates_sound, table_outputs_below}
use Rattle.compiling.specs.paper.Compiles.{table_room, Typed}

module _ {s : List ℕ} {k : ℕ} {sys : System} (typed : Typed s sys) (numbers : InNumbers k sys) where
  some : 1 ≤ length sys.inputs
  some = inputs_some typed.well_formed

  -- no gate has more than two fanins, whatever K is
  few : (gate : GateLine) → Memᴰ gate (table_for s k sys).gates → length gate.fanins ≤ 2
  unfolding table_for
  few gate m = (table_gates_sound s 2 sys (omega arith) some gate m).few

  pub table_within : Within (table_for s k sys)
  unfolding table_for
  table_within =
      let nodes = table_gates_length s k sys in
      let outputs = length-map sys.outputs (node_at s sys) in
      record {
        k_least = numbers.k_least;
        k_most = numbers.k_most;
        inputs_least = some;
        inputs_most = numbers.inputs;
        nodes_most = omega (arith, numbers.nodes);
        gates = λ gate m. subst (λ (n : ℕ). SoundLine k n gate) (omega (arith, nodes)) (table_gates_sound s k sys numbers.k_least some gate m);
        outputs_some = omega (arith, outputs_some typed.well_formed);
        outputs_most = omega (arith, numbers.outputs);
        outputs = λ v m. omega (arith, nodes, table_outputs_below s k sys some v m);
      }

  pub table_fits : length (encode (table_for s k sys)) ≤ table_room
  table_fits = omega (arith, length_most (table_for s k sys) table_within few)

  pub table_taken : NoLoop (net_of (table_for s k sys)) → IsTaken (encode (table_for s k sys))
  table_taken free =
      record { whole = reads_whole (table_for s k sys) table_within; no_loop = subst NoLoop (sym (drawn_back (table_for s k sys) table_within)) free }
