-- Names by pairs: the i-th name of the array is the i-th definition, and behind the definitions stand the outputs.
use Prim.Native.Nat.{ℕ, zero, suc, ◌+◌, ◌*◌, ◌<◌}
use native.Mathlib.Nat.{le_of_suc-le-suc, not-suc-le-zero}
use native.Mathlib.Omega.{arith}
use mathlib.Core.Path.{◌≡◌, refl, ap, sym, ◌∙◌}
use mathlib.Core.List.{List, [], ◌∷◌, ◌++◌}
use lib.ListN.{length, get_or}
use lib.Seq.{get_or-take, get_or-append-add}
use Rattle.grammar.specs.paper.Grammar.{System}
use Rattle.grammar.specs.paper.Names.{definitions}
use Rattle.grammar.specs.paper.Gates.{Definition, nodes_of}
use Rattle.grammar.specs.Stored.{definition_pairs, output_pairs, name_pairs}
use Rattle.grammar.proofs.Sizes.{place_in as placeOfNode, node_places}
use Rattle.grammar.proofs.Entries.{mapped_at}
use Rattle.grammar.proofs.Stored.{pairs_size, nodes_size}
use Rattle.naming.specs.Stored.{Stored, place_in, node_in}

-- In the list of pairs

abbrev pub no_definition : Definition
no_definition = record { place = 0; node = 0 }

module _ (rest : List ℕ) where
  place_in_pairs : (ds : List Definition) (i : ℕ) → i < length ds → place_in (definition_pairs ds ++ rest) i ≡ (get_or ds i no_definition).place
  unfolding definition_pairs
  place_in_pairs [] i h = absurd (not-suc-le-zero h)
  place_in_pairs (d ∷ ds) zero h = refl
  place_in_pairs (d ∷ ds) (suc i) h =
      let e : 2 * suc i ≡ suc (suc (2 * i)) = omega arith in
      ap (λ (n : ℕ). get_or (definition_pairs (d ∷ ds) ++ rest) n 0) e ∙ place_in_pairs ds i (le_of_suc-le-suc h)

  node_in_pairs : (ds : List Definition) (i : ℕ) → i < length ds → node_in (definition_pairs ds ++ rest) i ≡ (get_or ds i no_definition).node
  unfolding definition_pairs
  node_in_pairs [] i h = absurd (not-suc-le-zero h)
  node_in_pairs (d ∷ ds) zero h = refl
  node_in_pairs (d ∷ ds) (suc i) h =
      let e : 2 * suc i + 1 ≡ suc (suc (2 * i + 1)) = omega arith in
      ap (λ (n : ℕ). get_or (definition_pairs (d ∷ ds) ++ rest) n 0) e ∙ node_in_pairs ds i (le_of_suc-le-suc h)

output_in_pairs : (ps : List ℕ) (j : ℕ) → j < length ps → place_in (output_pairs ps) j ≡ get_or ps j 0
unfolding output_pairs
output_in_pairs [] j h = absurd (not-suc-le-zero h)
output_in_pairs (p ∷ ps) zero h = refl
output_in_pairs (p ∷ ps) (suc j) h =
    let e : 2 * suc j ≡ suc (suc (2 * j)) = omega arith in
    ap (λ (n : ℕ). get_or (output_pairs (p ∷ ps)) n 0) e ∙ output_in_pairs ps j (le_of_suc-le-suc h)

-- In the array

module _ {s : List ℕ} {sys : System} {made defined outs : ℕ} {gates names : List ℕ} (stored : Stored s sys made defined outs gates names) where
  entry_in : (k : ℕ) → k < 2 * (defined + outs) → get_or names k 0 ≡ get_or (name_pairs sys) k 0
  entry_in k low = sym (get_or-take (2 * (defined + outs)) names k 0 low) ∙ ap (λ (l : List ℕ). get_or l k 0) stored.names_stored

  pub defined_size : length (nodes_of sys) ≡ defined
  defined_size = nodes_size sys ∙ sym stored.defined_said

  pub place_stored : (i : ℕ) → i < defined → place_in names i ≡ (get_or (nodes_of sys) i no_definition).place
  place_stored i low = entry_in (2 * i) (omega arith) ∙ place_in_pairs (output_pairs sys.outputs) (nodes_of sys) i (omega (arith, defined_size))

  pub node_stored : (i : ℕ) → i < defined → node_in names i ≡ (get_or (nodes_of sys) i no_definition).node
  node_stored i low = entry_in (2 * i + 1) (omega arith) ∙ node_in_pairs (output_pairs sys.outputs) (nodes_of sys) i (omega (arith, defined_size))

  pub definition_stored : (i : ℕ) → i < defined → place_in names i ≡ get_or (definitions sys) i 0
  definition_stored i low =
      place_stored i low ∙ sym (mapped_at placeOfNode no_definition 0 (nodes_of sys) i (omega (arith, defined_size))) ∙ ap (λ (l : List ℕ). get_or l i 0) (node_places sys)

  pub output_stored : (j : ℕ) → j < outs → place_in names (defined + j) ≡ get_or sys.outputs j 0
  output_stored j low =
      let ds = nodes_of sys in
      let e : 2 * (defined + j) ≡ length (definition_pairs ds) + 2 * j = omega (arith, pairs_size ds, defined_size) in
      entry_in (2 * (defined + j)) (omega arith) ∙ ap (λ (k : ℕ). get_or (name_pairs sys) k 0) e
      ∙ get_or-append-add (definition_pairs ds) (output_pairs sys.outputs) (2 * j) 0
      ∙ output_in_pairs sys.outputs j (omega (arith, stored.outs_said))
