-- A text that has a gate table: the table is within document 01's numbers and its bytes fit 4,096; and the counts tell whether a text's numbers are right.
use Prim.Native.Nat.{ℕ, ◌+◌, ◌*◌, ◌≤◌, ◌<◌}
use native.Mathlib.Omega.{arith}
use mathlib.Core.Path.{◌≡◌, sym, ap, ◌∙◌}
use mathlib.Core.Bool.{true}
use mathlib.Core.List.{List, map}
use lib.ListN.{length, length-append}
use lib.Dec.{leb}
use borrow.Author.Tests.{leb-true, le-leb}
use Rattle.drawing.specs.paper.Limits.{least_k, most_k, most_inputs, most_nodes, most_outputs}
use Rattle.tabling.specs.paper.Encoding.{encode}
use Rattle.tabling.specs.Within.{Within}
use Rattle.grammar.specs.paper.Gates.{all_size, InNumbers}
use Rattle.grammar.specs.paper.Text.{most_text}
use Rattle.grammar.specs.paper.Grammar.{System}
use Rattle.grammar.specs.paper.Names.{place_of, definitions}
use Rattle.grammar.proofs.Bytes.{and_both}
use Rattle.grammar.proofs.Places.{outputs_some, gates_count, places_count}
use Rattle.scanning.specs.declared.Counts.{Counts}
use Rattle.scanning.specs.Scanning.{counts_of}
use Rattle.compiling.specs.paper.Compiles.{table_room}
use Rattle.compiling.specs.Stages.{numbers_right, NamesRight, Ready, ready_table}
use Rattle.compiling.proofs.Drawables.{table_within, table_fits}

-- the test of the counts
module _ {k : ℕ} {sys : System} where
  pub numbers_right_lem : numbers_right k (counts_of sys) ≡ true → InNumbers k sys
  unfolding numbers_right
  numbers_right_lem passes =
      let (k_least, a) = and_both (leb least_k k) _ passes in
      let (k_most, b) = and_both (leb k most_k) _ a in
      let (inputs, d) = and_both (leb (length sys.inputs) most_inputs) _ b in
      let (nodes, outputs) = and_both (leb (length sys.inputs + all_size sys.equations) most_nodes) _ d in
      record {
        k_least = leb-true least_k k k_least;
        k_most = leb-true k most_k k_most;
        inputs = leb-true (length sys.inputs) most_inputs inputs;
        nodes = leb-true (length sys.inputs + all_size sys.equations) most_nodes nodes;
        outputs = leb-true (length sys.outputs) most_outputs outputs;
      }

  pub numbers_pass : InNumbers k sys → numbers_right k (counts_of sys) ≡ true
  unfolding numbers_right
  numbers_pass numbers =
      rw (
        le-leb least_k k numbers.k_least,
        le-leb k most_k numbers.k_most,
        le-leb (length sys.inputs) most_inputs numbers.inputs,
        le-leb (length sys.inputs + all_size sys.equations) most_nodes numbers.nodes,
      ) (le-leb (length sys.outputs) most_outputs numbers.outputs)

module _ {s gates names : List ℕ} {k : ℕ} {c : Counts} (ready : Ready s k gates names c) where
  pub ready_within : Within (ready_table ready)
  ready_within = table_within ready.right.scanned.typed ready.numbers

  pub ready_fits : length (encode (ready_table ready)) ≤ table_room
  ready_fits = table_fits ready.right.scanned.typed ready.numbers

-- a text whose names and counts are right has a table
module _ {s gates names : List ℕ} {c : Counts} (right : NamesRight s gates names c) where
  pub ready_of : {k : ℕ} → numbers_right k c ≡ true → Ready s k gates names c
  ready_of {k} passes = record { right = right; numbers = numbers_right_lem (ap (numbers_right k) (sym right.scanned.counts) ∙ passes) }

  pub counts_small : c.inputs + c.gates < 3 * most_text
  counts_small =
      let scanned = right.scanned in
      let whole = scanned.typed.well_formed in
      let short = scanned.typed.short in
      omega (
        arith,
        ap (λ (x : Counts). x.inputs) scanned.counts,
        ap (λ (x : Counts). x.gates) scanned.counts,
        gates_count whole,
        places_count whole,
        length-append (definitions scanned.says) scanned.says.outputs,
        length-append scanned.says.inputs (map place_of scanned.says.equations),
        outputs_some whole,
      )
