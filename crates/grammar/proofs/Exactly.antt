-- Every text is well_formed or halts: the machine goes on until there is no move. So a text halts at a place exactly if it is not well_formed and its
-- longest beginning ends there.
use Prim.Native.Nat.{ℕ, zero, suc, ◌+◌, ◌<◌}
use native.Mathlib.Omega.{arith}
use mathlib.Core.Path.{◌≡◌, refl, subst}
use mathlib.Core.Logic.{◌↔◌, ◌⊎◌, inl, inr, ⊎_elim}
use mathlib.Core.Bool.{false}
use mathlib.Core.List.{List}
use lib.ListN.{length}
use Rattle.grammar.specs.paper.Text.{byte_at}
use Rattle.grammar.specs.paper.Grammar.{System, WellFormed}
use Rattle.grammar.specs.paper.Longest.{Longest}
use Rattle.grammar.specs.Machine.{State, Move, move, Runs, Halts}
use Rattle.grammar.proofs.Runs.{run_one, is_done, not_done, done_or_not}
use Rattle.grammar.proofs.Stops.{halts_at, halts_at_end, halts_then}
use Rattle.grammar.proofs.Texts.{TextRead, run_text}
use Rattle.grammar.proofs.Longest.{halts_is_longest, halts_not_well_formed, longest_one}

abbrev pub RunsOrHalts : List ℕ → State → ℕ → Type 0
RunsOrHalts s q i = Runs s q i State.done (length s) ⊎ ((p : ℕ) × Halts s q i p)

pub runs_or_halts : (s : List ℕ) (n : ℕ) (q : State) (i : ℕ) → i + n ≡ length s → RunsOrHalts s q i
runs_or_halts s zero q i e =
    let end : i ≡ length s = omega arith in
    ⊎_elim (λ (is : q ≡ State.done). inl (rw (is, end) Runs.stay))
    (λ (other : is_done q ≡ false). inr (length s, halts_at_end (rw end Runs.stay) (not_done q other))) (done_or_not q)
runs_or_halts s (suc n) q i e = by_move (move q (byte_at s i)) refl (λ q₁. runs_or_halts s n q₁ (suc i) (omega arith))
  where
    by_move : (m : Move) → move q (byte_at s i) ≡ m → ((q₁ : State) → RunsOrHalts s q₁ (suc i)) → RunsOrHalts s q i
    by_move Move.stuck none further = inr (i, halts_at (omega arith) Runs.stay none)
    by_move (Move.to q₁) moves further =
        let inside : i < length s = omega arith in
        ⊎_elim (λ (run : Runs s q₁ (suc i) State.done (length s)). inl (Runs.go inside moves run))
        (λ (h : (p : ℕ) × Halts s q₁ (suc i) p). inr (h.0, halts_then (run_one inside moves) h.1)) (further q₁)

pub formed_or_halts : (s : List ℕ) → TextRead s ⊎ ((p : ℕ) × Halts s State.before 0 p)
formed_or_halts s =
    ⊎_elim (λ (run : Runs s State.before 0 State.done (length s)). inl (run_text run)) (λ (h : (p : ℕ) × Halts s State.before 0 p). inr h)
    (runs_or_halts s (length s) State.before 0 (omega arith))

-- a text that is not well_formed halts where its longest beginning ends
pub longest_halts : {s : List ℕ} {p : ℕ} → ((sys : System) → WellFormed s sys → ⊥) → Longest s p → Halts s State.before 0 p
longest_halts {s} {p} none longest =
    ⊎_elim (λ (read : TextRead s). absurd (none read.says read.well_formed))
    (λ (h : (r : ℕ) × Halts s State.before 0 r). subst (λ r. Halts s State.before 0 r) (longest_one (halts_is_longest h.1) longest) h.1)
    (formed_or_halts s)

pub halts_exactly : (s : List ℕ) (p : ℕ) → Halts s State.before 0 p ↔ (((sys : System) → WellFormed s sys → ⊥) × Longest s p)
halts_exactly s p =
    (λ halts. (halts_not_well_formed halts, halts_is_longest halts), λ both. longest_halts both.0 both.1)
