-- Runs: they compose, they are deterministic, they pass to any text that agrees, and a range in which each byte has
-- its move is a run. Only `done` is the state of a whole text.
use Prim.Native.Nat.{ℕ, zero, suc, ◌+◌, ◌-◌, ◌≤◌, ◌<◌}
use native.Mathlib.Omega.{arith}
use mathlib.Core.Path.{◌≡◌, refl, sym, ap, ◌∙◌, subst}
use mathlib.Core.Logic.{◌⊎◌, inl, inr}
use mathlib.Core.Bool.{Bool, true, false, true≢false}
use mathlib.Core.List.{List}
use lib.ListN.{length}
use Rattle.grammar.specs.paper.Text.{byte_at}
use Rattle.grammar.specs.Machine.{State, Move, move, Runs}

pub run_then : {s : List ℕ} {q q₁ q₂ : State} {i j k : ℕ} → Runs s q i q₁ j → Runs s q₁ j q₂ k → Runs s q i q₂ k
run_then Runs.stay then = then
run_then (Runs.go inside moves rest) then = Runs.go inside moves (run_then rest then)

-- one move
pub run_one : {s : List ℕ} {q q₁ : State} {i : ℕ} → i < length s → move q (byte_at s i) ≡ Move.to q₁ → Runs s q i q₁ (suc i)
run_one inside moves = Runs.go inside moves Runs.stay

-- a run goes forward, and stays within the text
pub run_forward : {s : List ℕ} {q q₁ : State} {i j : ℕ} → Runs s q i q₁ j → i ≤ j
run_forward Runs.stay = omega arith
run_forward (Runs.go inside moves rest) = omega (arith, run_forward rest)

pub run_within : {s : List ℕ} {q q₁ : State} {i j : ℕ} → Runs s q i q₁ j → i ≤ length s → j ≤ length s
run_within Runs.stay low = low
run_within (Runs.go inside moves rest) low = run_within rest inside

-- a move leads to one state
pub one_move : {m : Move} {q₁ q₂ : State} → m ≡ Move.to q₁ → m ≡ Move.to q₂ → q₁ ≡ q₂
one_move e f = cc

pub no_moves : {m : Move} {q : State} → m ≡ Move.to q → m ≡ Move.stuck → ⊥
no_moves e f = let z : ◌≡◌ {A = ℕ} 0 1 = cc in omega arith

-- Of two runs from one state and place the one that goes further passes through where the other ends.
pub run_passes : {s : List ℕ} {q q₁ q₂ : State} {i j k : ℕ} → Runs s q i q₁ j → Runs s q i q₂ k → j ≤ k → Runs s q₁ j q₂ k
run_passes Runs.stay further order = further
run_passes (Runs.go inside moves rest) Runs.stay order = absurd (omega (arith, run_forward rest))
run_passes {s = s} {q₂ = q₂} {k = k} (Runs.go {q₁ = p} {i = i} inside moves rest) (Runs.go inside' moves' rest') order =
    run_passes rest (subst (λ x. Runs s x (suc i) q₂ k) (one_move moves' moves) rest') order

-- The same run in a text that has the same bytes there.
pub run_elsewhere : {s : List ℕ} {q q₁ : State} {i j : ℕ} (t : List ℕ) → j ≤ length t → ((m : ℕ) → i ≤ m → m < j → byte_at t m ≡ byte_at s m) →
    Runs s q i q₁ j → Runs t q i q₁ j
run_elsewhere t long same Runs.stay = Runs.stay
run_elsewhere {j = j} t long same (Runs.go {q = q} {i = i} inside moves rest) =
    let ahead : suc i ≤ j = run_forward rest in
    Runs.go {i = i} (omega arith) (ap (move q) (same i (omega arith) ahead) ∙ moves) (run_elsewhere t long (λ m low high. same m (omega arith) high) rest)

-- A range in which each byte leads from its state to the next one's.
steps : (s : List ℕ) (f : ℕ → State) (n i j : ℕ) → j ≡ i + n → ((m : ℕ) → i ≤ m → m < j → m < length s) →
    ((m : ℕ) → i ≤ m → m < j → move (f m) (byte_at s m) ≡ Move.to (f (suc m))) → Runs s (f i) i (f j) j
steps s f zero i j e within each = let same : j ≡ i = omega arith in rw same Runs.stay
steps s f (suc n) i j e within each =
    Runs.go (within i (omega arith) (omega arith)) (each i (omega arith) (omega arith))
    (steps s f n (suc i) j (omega arith) (λ m low high. within m (omega arith) high) (λ m low high. each m (omega arith) high))

pub run_steps : (s : List ℕ) (f : ℕ → State) (i j : ℕ) → i ≤ j → ((m : ℕ) → i ≤ m → m < j → m < length s) →
    ((m : ℕ) → i ≤ m → m < j → move (f m) (byte_at s m) ≡ Move.to (f (suc m))) → Runs s (f i) i (f j) j
run_steps s f i j ordered within each = steps s f (j - i) i j (omega arith) within each

-- Is it the state of a whole text?
abbrev pub is_done : State → Bool
is_done State.before = false
is_done State.letter_i = false
is_done State.read_in = false
is_done (State.first x) = false
is_done (State.listed x w) = false
is_done (State.next x) = false
is_done State.between_lines = false
is_done (State.left w) = false
is_done State.named = false
is_done (State.wants d) = false
is_done (State.used d w) = false
is_done (State.has d) = false
is_done State.done = true

pub not_done : (q : State) → is_done q ≡ false → q ≡ State.done → ⊥
not_done q other is = true≢false (ap is_done (sym is) ∙ other)

pub done_or_not : (q : State) → (q ≡ State.done) ⊎ (is_done q ≡ false)
done_or_not State.before = inr refl
done_or_not State.letter_i = inr refl
done_or_not State.read_in = inr refl
done_or_not (State.first x) = inr refl
done_or_not (State.listed x w) = inr refl
done_or_not (State.next x) = inr refl
done_or_not State.between_lines = inr refl
done_or_not (State.left w) = inr refl
done_or_not State.named = inr refl
done_or_not (State.wants d) = inr refl
done_or_not (State.used d w) = inr refl
done_or_not (State.has d) = inr refl
done_or_not State.done = inl refl
