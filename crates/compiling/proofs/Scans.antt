-- A text that its reader left in arrays: what is known of it from there on.
use Prim.Native.Nat.{ℕ, zero, suc, ◌+◌, ◌*◌, ◌≤◌}
use native.Mathlib.Omega.{arith}
use mathlib.Core.Path.{◌≡◌, refl, ap, ◌∙◌}
use mathlib.Core.List.{List}
use lib.ListN.{length, length-append, get_or, replicate}
use lib.Seq.{length-sets}
use Rattle.grammar.specs.paper.Text.{most_text}
use Rattle.grammar.specs.paper.Names.{definitions}
use Rattle.grammar.specs.paper.Gates.{all_size}
use Rattle.grammar.specs.Stored.{all_triples, name_pairs}
use Rattle.grammar.proofs.Places.{places_count, gates_count}
use Rattle.grammar.proofs.Stored.{definitions_size}
use Rattle.scanning.specs.declared.Counts.{Counts}
use Rattle.scanning.specs.Scanning.{TextRead}
use Rattle.naming.proofs.Reading.{stored_of_reading}
use Rattle.compiling.specs.Stages.{Scanned}

pub scanned : {s gates₀ names₀ gates names : List ℕ} {c : Counts} → length s ≤ most_text → 3 * most_text ≤ length gates₀ → most_text ≤ length names₀ →
    TextRead s gates₀ names₀ gates names c → Scanned s gates names c
scanned {gates₀ = gates₀} {names₀ = names₀} {gates = gates} {names = names} {c = c} short gates_room names_room read =
    let sys = read.says in
    let whole = read.well_formed in
    let gates_few = gates_count whole in
    let names_few = places_count whole in
    let listed = length-append (definitions sys) sys.outputs in
    let defined = definitions_size sys in
    let gates-same : length gates ≡ length gates₀ = ap length read.gates_stored ∙ length-sets gates₀ 0 (all_triples 0 sys.equations) in
    let names_same : length names ≡ length names₀ = ap length read.names_stored ∙ length-sets names₀ 0 (name_pairs sys) in
    let made_is : c.gates ≡ all_size sys.equations = ap (λ (x : Counts). x.gates) read.counts in
    let defined-is : c.definitions ≡ length sys.inputs + length sys.equations = ap (λ (x : Counts). x.definitions) read.counts in
    let outs-is : c.outputs ≡ length sys.outputs = ap (λ (x : Counts). x.outputs) read.counts in
    record {
      says = sys;
      typed = record { short = short; well_formed = whole };
      counts = read.counts;
      stored =
          stored_of_reading whole short made_is defined-is outs-is gates₀ names₀ (omega arith) (omega arith) read.gates_stored read.names_stored;
      gates_long = omega arith;
      names_long = omega arith;
    }

-- fresh arrays are 0 everywhere, and behind their end too
pub zeros : (n i : ℕ) → get_or {A = ℕ} (replicate n 0) i 0 ≡ 0
zeros zero i = refl
zeros (suc n) zero = refl
zeros (suc n) (suc i) = zeros n i
