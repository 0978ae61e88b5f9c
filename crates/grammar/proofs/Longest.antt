-- Where the machine halts the longest beginning ends. What was read can be completed to a well_formed text; a well_formed text that shares more would run
-- through the same state and move on from there, but that state has no move. So nothing that halts is well_formed.
use Prim.Native.Nat.{ℕ, ◌≤◌, ◌<◌}
use native.Mathlib.Omega.{arith}
use native.Mathlib.Decide.{dec_lt}
use mathlib.Core.Path.{◌≡◌, refl, sym, ap, ◌∙◌}
use mathlib.Core.List.{List, ◌++◌}
use lib.ListN.{length, take, get_or, length-append}
use lib.Seq.{get_or-take, take_at, length-take-le}
use Rattle.grammar.specs.paper.Text.{byte_at}
use Rattle.grammar.specs.paper.Grammar.{System, WellFormed}
use Rattle.grammar.specs.paper.Longest.{Shared, Longest}
use Rattle.grammar.specs.Machine.{State, Move, move, Runs, Halts}
use Rattle.grammar.proofs.Runs.{run_within, run_passes, run_elsewhere, no_moves}
use Rattle.grammar.proofs.Forward.{text_runs}
use Rattle.grammar.proofs.Completion.{completion}
use Rattle.grammar.proofs.Texts.{run_text}

-- beginnings that are the same have the same bytes
pub same_bytes : (s t : List ℕ) (p : ℕ) → take p t ≡ take p s → (m : ℕ) → m < p → byte_at t m ≡ byte_at s m
same_bytes s t p same m low = sym (get_or-take p t m 0 low) ∙ (ap (λ l. get_or l m 0) same ∙ get_or-take p s m 0 low)

-- a run that stops or goes on
move_on : {s : List ℕ} {q q₁ : State} {i j : ℕ} → Runs s q i q₁ j → i < j → move q (byte_at s i) ≡ Move.stuck → ⊥
move_on Runs.stay further stuck = omega arith
move_on (Runs.go inside moves rest) further stuck = no_moves moves stuck

stopped : {s : List ℕ} {q q₁ : State} {i j : ℕ} → Runs s q i q₁ j → move q (byte_at s i) ≡ Move.stuck → (i ≡ j) × (q ≡ q₁)
stopped Runs.stay stuck = (refl, refl)
stopped (Runs.go inside moves rest) stuck = absurd (no_moves moves stuck)

module _ {s : List ℕ} {p : ℕ} (halts : Halts s State.before 0 p) where
  pub halts_within : p ≤ length s
  halts_within = run_within halts.run (omega arith)

  halts_shared : Shared s p
  halts_shared =
      let full = completion halts_within halts.run in
      let text = run_text full.run in
      let size : length (take p s) ≡ p = length-take-le p s halts_within in
      record {
        within = halts_within;
        text = take p s ++ full.rest;
        says = text.says;
        well_formed = text.well_formed;
        long = omega (arith, length-append (take p s) full.rest);
        same = take_at (take p s) full.rest p size;
      }

  -- a well_formed text that agrees up to p goes on from the state there
  halts_passed : {t : List ℕ} {sys : System} → WellFormed t sys → p ≤ length t → ((m : ℕ) → m < p → byte_at t m ≡ byte_at s m) →
      Runs t halts.state p State.done (length t)
  halts_passed {t} formed long same = run_passes (run_elsewhere t long (λ m _ high. same m high) halts.run) (text_runs formed) long

  none_longer : (r : ℕ) → Shared s r → p < r → ⊥
  none_longer r shared more =
      let t = shared.text in
      let same : (m : ℕ) → m < r → byte_at t m ≡ byte_at s m = same_bytes s t r shared.same in
      let long : r ≤ length t = shared.long in
      move_on (halts_passed shared.well_formed (omega arith) (λ m low. same m (omega arith))) (omega arith)
      (ap (move halts.state) (same p more) ∙ halts.no_move)

  pub halts_is_longest : Longest s p
  halts_is_longest = record { shared = halts_shared; longest = at_most }
    where
      at_most : (r : ℕ) → Shared s r → r ≤ p
      at_most r shared = by_order (dec_lt p r)
        where
          by_order : Dec (p < r) → r ≤ p
          by_order (yes more) = absurd (none_longer r shared more)
          by_order (no order) = omega arith

  pub halts_not_well_formed : (sys : System) → WellFormed s sys → ⊥
  halts_not_well_formed sys formed =
      let (at_end, finished) = stopped (halts_passed formed halts_within (λ m _. refl)) halts.no_move in
      omega (arith, halts.early finished)

-- a text has one longest beginning
pub longest_one : {s : List ℕ} {p r : ℕ} → Longest s p → Longest s r → p ≡ r
longest_one {s} {p} {r} one other = omega (arith, one.longest r other.shared, other.longest p one.shared)
