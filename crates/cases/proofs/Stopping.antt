-- The machine run over a text, to compute with: where it comes to no move it halts, so there the longest beginning ends.
use Prim.Native.Nat.{ℕ, zero, suc}
use mathlib.Core.Path.{◌≡◌, refl, ap, subst}
use mathlib.Core.Bool.{Bool, true, not, ◌&&◌, ◌||◌}
use mathlib.Core.List.{List}
use lib.ListN.{length}
use lib.Dec.{ltb, eqb}
use borrow.Author.Tests.{ltb-true, eqb-true}
use Rattle.theory.proofs.Tests.{decides_itself, decides_if, decides_lt}
use Rattle.grammar.specs.paper.Text.{byte_at}
use Rattle.grammar.specs.Machine.{State, Move, move, Runs, Halts}
use Rattle.grammar.proofs.Runs.{is_done}
use Rattle.cases.proofs.Tests.{both}
use Rattle.cases.proofs.Readings.{Found, Stands, stands_as, provided, provided_stands, accepts, accepted}

unfoldable onward : (i : ℕ) → State → Move → (State → Found State) → Found State
onward i q Move.stuck further = Found.up_to i q
onward i q (Move.to next) further = further next

-- the state and the place where there is no move
unfoldable run_from : (s : List ℕ) (f : ℕ) → State → (i : ℕ) → Found State
unfolding onward provided
run_from s zero q i = Found.nothing
run_from s (suc f) q i = onward i q (move q (byte_at s i)) (λ next. provided (ltb i (length s)) (run_from s f next (suc i)))

record Stuck (s : List ℕ) (q : State) (i p : ℕ) (state : State) : Type 0 where
  run : Runs s q i state p
  no_move : move state (byte_at s p) ≡ Move.stuck

run_stands : (s : List ℕ) (f : ℕ) (q : State) (i : ℕ) → Stands (Stuck s q i) (run_from s f q i)
unfolding run_from onward
run_stands s zero q i = Stands.none
run_stands s (suc f) q i = by (move q (byte_at s i)) refl (λ next. run_stands s f next (suc i))
  where
    by : (m : Move) → move q (byte_at s i) ≡ m → ((next : State) → Stands (Stuck s next (suc i)) (run_from s f next (suc i))) →
        Stands (Stuck s q i) (onward i q m (λ next. provided (ltb i (length s)) (run_from s f next (suc i))))
    by Move.stuck none further = Stands.one (record { run = Runs.stay; no_move = none })
    by (Move.to next) moves further =
        provided_stands (ltb i (length s)) (λ inside.
        stands_as (λ _ _ its. record { run = Runs.go (ltb-true i (length s) inside) moves its.run; no_move = its.no_move }) (further next))

-- it is the place, and the text goes on there if it could have ended
unfoldable halting : List ℕ → (place : ℕ) → ℕ → State → Bool
halting s place j q = eqb j place && (not (is_done q) || ltb j (length s))

unfoldable pub is_halted : List ℕ → (place : ℕ) → Bool
unfolding run_from accepts halting
is_halted s place = accepts (run_from s (suc (length s)) State.before 0) (halting s place)

pub halted : (s : List ℕ) (place : ℕ) → is_halted s place ≡ true → Halts s State.before 0 place
unfolding is_halted halting
halted s place test =
    let (j, q, its, passes) = accepted (halting s place) (run_stands s (suc (length s)) State.before 0) test in
    let (there, early) = both passes in
    subst (λ (r : ℕ). Halts s State.before 0 r) (eqb-true j place there)
    (record {
      state = q;
      run = its.run;
      no_move = its.no_move;
      early = λ done. (decides_if (decides_itself (is_done q)) (λ _. decides_lt j (length s))).holds early (ap is_done done);
    })
