-- From what a reader of a text promises: the text is well_formed, and its gates and names were stored from the beginning of the two arrays on.
use Prim.Native.Nat.{ℕ, ◌+◌, ◌*◌, ◌≤◌}
use native.Mathlib.Omega.{arith}
use mathlib.Core.Path.{◌≡◌, ap, ◌∙◌}
use mathlib.Core.List.{List}
use lib.ListN.{length, take, drop, length-append}
use lib.Seq.{sets, sets-eq, take_at}
use Rattle.grammar.specs.paper.Text.{most_text}
use Rattle.grammar.specs.paper.Grammar.{System, WellFormed}
use Rattle.grammar.specs.paper.Gates.{all_size, nodes_of}
use Rattle.grammar.specs.Stored.{all_triples, definition_pairs, output_pairs, name_pairs}
use Rattle.grammar.proofs.Stored.{all_triples_size, pairs_size, outputs_size, nodes_size}
use Rattle.grammar.proofs.Places.{definitions_rise, use_placed, placed_inside}
use Rattle.naming.specs.Stored.{Stored}

-- an array begins with what was stored at its beginning
stored_first : (l vs : List ℕ) (n : ℕ) → length vs ≡ n → n ≤ length l → take n (sets l 0 vs) ≡ vs
stored_first l vs n size room = ap (take n) (sets-eq vs l 0 (omega arith)) ∙ take_at vs (drop (0 + length vs) l) n size

module _ (sys : System) where
  names_size : length (name_pairs sys) ≡ 2 * (length sys.inputs + length sys.equations + length sys.outputs)
  names_size = omega (
    arith,
    length-append (definition_pairs (nodes_of sys)) (output_pairs sys.outputs),
    pairs_size (nodes_of sys),
    outputs_size sys.outputs,
    nodes_size sys,
  )

pub stored_of_reading : {s : List ℕ} {sys : System} {made defined outs : ℕ} {gates names : List ℕ} → WellFormed s sys → length s ≤ most_text →
    made ≡ all_size sys.equations → defined ≡ length sys.inputs + length sys.equations → outs ≡ length sys.outputs →
    (gates₀ names₀ : List ℕ) → 3 * made ≤ length gates₀ → 2 * (defined + outs) ≤ length names₀ →
    gates ≡ sets gates₀ 0 (all_triples 0 sys.equations) → names ≡ sets names₀ 0 (name_pairs sys) → Stored s sys made defined outs gates names
stored_of_reading {sys = sys} {made = made} {defined = defined} {outs = outs} whole short made_said defined_said outs_said gates₀ names₀ gates_room
    names_room gates_stored names_stored =
    record {
      short = short;
      made_said = made_said;
      defined_said = defined_said;
      outs_said = outs_said;
      gates_stored =
          ap (take (3 * made)) gates_stored
          ∙ stored_first gates₀ (all_triples 0 sys.equations) (3 * made) (omega (arith, all_triples_size 0 sys.equations)) gates_room;
      names_stored =
          ap (take (2 * (defined + outs))) names_stored
          ∙ stored_first names₀ (name_pairs sys) (2 * (defined + outs)) (omega (arith, names_size sys)) names_room;
      within = λ p used. placed_inside (use_placed whole used);
      rising = definitions_rise whole;
    }
