-- The promise of `read_text` allows one answer and one content of each array: `scans_one`. A text says one thing at most, and where it says none its
-- longest beginning ends at one place.
use Prim.Native.Nat.{ℕ}
use mathlib.Core.Path.{◌≡◌, sym, ap, ◌∙◌}
use mathlib.Core.List.{List}
use lib.Seq.{sets}
use Rattle.grammar.specs.paper.Grammar.{System}
use Rattle.grammar.specs.Stored.{all_triples, name_pairs}
use Rattle.grammar.proofs.OneSystem.{well_formed_one}
use Rattle.grammar.proofs.Longest.{halts_is_longest, halts_not_well_formed, longest_one}
use Rattle.std.specs.Prelude.{Result, Ok, Err}
use Rattle.spelling.specs.declared.Stopped.{Stopped}
use Rattle.scanning.specs.declared.Counts.{Counts}
use Rattle.scanning.specs.Scanning.{counts_of, Scans}

module _ (s gates₀ names₀ : List ℕ) where
  pub scans_one : (gates names gates' names' : List ℕ) (r q : Result Counts Stopped) → Scans s gates₀ names₀ gates names r → Scans s gates₀ names₀ gates' names' q →
      (r ≡ q) × (gates ≡ gates') × (names ≡ names')
  scans_one gates names gates' names' (Ok c) (Ok d) a b =
      let same = well_formed_one a.well_formed b.well_formed in (
        ap Ok (a.counts ∙ ap counts_of same ∙ sym b.counts),
        a.gates_stored ∙ ap (λ (sys : System). sets gates₀ 0 (all_triples 0 sys.equations)) same ∙ sym b.gates_stored,
        a.names_stored ∙ ap (λ (sys : System). sets names₀ 0 (name_pairs sys)) same ∙ sym b.names_stored,
      )
  scans_one gates names gates' names' (Ok c) (Err q) a b = absurd (halts_not_well_formed b.halts a.says a.well_formed)
  scans_one gates names gates' names' (Err p) (Ok d) a b = absurd (halts_not_well_formed a.halts b.says b.well_formed)
  scans_one gates names gates' names' (Err p) (Err q) a b = (
    ap (λ (n : ℕ). Err (record { place = n })) (longest_one (halts_is_longest a.halts) (halts_is_longest b.halts)),
    a.gates_kept ∙ sym b.gates_kept,
    a.names_kept ∙ sym b.names_kept,
  )
