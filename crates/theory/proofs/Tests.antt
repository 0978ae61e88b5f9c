-- Tests that decide: a Bool test stands for a statement if it is true exactly where the statement holds. Tests are put together as the
-- statements are (and, or, not, if, for each member of a list, for each number below a bound), so that the proof for a long test is the
-- list of its parts. A test computes; a decision (`Dec`) has one for its test, and each test is a decision.
use Prim.Native.Nat.{ℕ, zero, suc, ◌≤◌, ◌<◌}
use mathlib.Core.Path.{◌≡◌, refl, sym, subst}
use mathlib.Core.Logic.{◌⊎◌, inl, inr, ⊎_elim}
use mathlib.Core.Bool.{Bool, true, false, not, ◌&&◌, ◌||◌, decide, false≢true}
use mathlib.Mathlib.Data.Bool.Basic.{decide_true, of_decide_true}
use mathlib.Core.List.Memᴰ
use mathlib.Core.List.{List, [], ◌∷◌, Memᴰ}
use native.Mathlib.Nat.{not-suc-le-zero, le_of_suc-le-suc, eq-or-lt_of_le, le_step, le_refl}
use lib.Dec.{leb, ltb, eqb}
use borrow.Author.Tests.{leb-true, ltb-true, eqb-true, le-leb, lt-ltb, eq-eqb}
use Rattle.theory.specs.paper.Lists.{Rising, NoRepeats}
use Rattle.theory.specs.Members.{is_member}

infixl 35 ◌and_then◌
pub record Decides (test : Bool) (P : Type 0) : Type 0 where
  pub holds : test ≡ true → P
  pub passes : P → test ≡ true

-- a test for P is one for what P says in other words
pub decides_as : {test : Bool} {P Q : Type 0} → (P → Q) → (Q → P) → Decides test P → Decides test Q
decides_as to from d = record { holds = λ e. to (d.holds e); passes = λ q. d.passes (from q) }

-- where a test passes, all holds that follows from P
pub passed : {test : Bool} {P Q : Type 0} → Decides test P → (P → Q) → test ≡ true → Q
passed d to e = to (d.holds e)

pub decides_itself : (test : Bool) → Decides test (test ≡ true)
decides_itself test = record { holds = λ e. e; passes = λ e. e }

-- each test is a decision, and each decision a test
pub decided : {test : Bool} {P : Type 0} → Decides test P → Dec P
decided {test = true} d = yes (d.holds refl)
decided {test = false} d = no (λ p. false≢true (d.passes p))

pub decides_decision : {P : Type 0} (d : Dec P) → Decides (decide d) P
decides_decision d = record { holds = of_decide_true d; passes = decide_true d }

pub decides_not : {a : Bool} {P : Type 0} → Decides a P → Decides (not a) (P → ⊥)
decides_not {a = true} d = record { holds = λ e p. false≢true e; passes = λ f. absurd (f (d.holds refl)) }
decides_not {a = false} d = record { holds = λ e p. false≢true (d.passes p); passes = λ f. refl }

-- the second test is asked only where the first passes
pub ◌and_then◌ : {a b : Bool} {P Q : Type 0} → Decides a P → (P → Decides b Q) → Decides (a && b) (P × Q)
◌and_then◌ {a = true} d e = record { holds = λ h. (d.holds refl, (e (d.holds refl)).holds h); passes = λ k. (e k.0).passes k.1 }
◌and_then◌ {a = false} d e = record { holds = λ h. absurd (false≢true h); passes = λ k. d.passes k.0 }

pub decides_if : {a b : Bool} {P Q : Type 0} → Decides a P → (P → Decides b Q) → Decides (not a || b) (P → Q)
decides_if {a = true} d e = record { holds = λ h p. (e p).holds h; passes = λ f. (e (d.holds refl)).passes (f (d.holds refl)) }
decides_if {a = false} d e = record { holds = λ h p. absurd (false≢true (d.passes p)); passes = λ f. refl }

pub decides_or : {a b : Bool} {P Q : Type 0} → Decides a P → Decides b Q → Decides (a || b) (P ⊎ Q)
decides_or {a = true} d e = record { holds = λ h. inl (d.holds refl); passes = λ o. refl }
decides_or {a = false} d e = record { holds = λ h. inr (e.holds h); passes = ⊎_elim (λ p. absurd (false≢true (d.passes p))) e.passes }

pub decides_le : (a b : ℕ) → Decides (leb a b) (a ≤ b)
decides_le a b = record { holds = leb-true a b; passes = le-leb a b }

pub decides_lt : (a b : ℕ) → Decides (ltb a b) (a < b)
decides_lt a b = record { holds = ltb-true a b; passes = lt-ltb a b }

pub decides_equal : (a b : ℕ) → Decides (eqb a b) (a ≡ b)
decides_equal a b = record { holds = eqb-true a b; passes = eq-eqb a b }

pub decides_member : (v : ℕ) (us : List ℕ) → Decides (is_member v us) (Memᴰ v us)
unfolding is_member
decides_member v [] = record { holds = λ e. absurd (false≢true e); passes = λ m. absurd (Memᴰ.not-nil m) }
decides_member v (u ∷ us) = decides_as (⊎_elim Memᴰ.head Memᴰ.tail) Memᴰ.cases_cons (decides_or (decides_equal v u) (decides_member v us))

-- does each member of the list pass?
unfoldable pub every : {A : Type 0} → (A → Bool) → List A → Bool
every f [] = true
every f (x ∷ xs) = f x && every f xs

pub decides_every : {A : Type 0} {P : A → Type 0} (f : A → Bool) → ((x : A) → Decides (f x) (P x)) → (xs : List A) →
    Decides (every f xs) ((x : A) → Memᴰ x xs → P x)
unfolding every
decides_every f d [] = record { holds = λ e x m. absurd (Memᴰ.not-nil m); passes = λ h. refl }
decides_every {A} {P} f d (y ∷ ys) = decides_as
    (λ k x m. ⊎_elim (λ (e : x ≡ y). subst P (sym e) k.0) (k.1 x) (Memᴰ.cases_cons m))
    (λ h. (h y (Memᴰ.head refl), λ x m. h x (Memᴰ.tail m)))
    (d y and_then (λ _. decides_every f d ys))

-- does each number below the bound pass? does one?
unfoldable pub every_below : ℕ → (ℕ → Bool) → Bool
every_below zero f = true
every_below (suc n) f = every_below n f && f n

pub decides_below : {P : ℕ → Type 0} (n : ℕ) (f : ℕ → Bool) → ((v : ℕ) → v < n → Decides (f v) (P v)) →
    Decides (every_below n f) ((v : ℕ) → v < n → P v)
unfolding every_below
decides_below zero f d = record { holds = λ e v h. absurd (not-suc-le-zero h); passes = λ h. refl }
decides_below {P} (suc n) f d = decides_as
    (λ k v h. ⊎_elim (λ (e : v ≡ n). subst P (sym e) k.1) (k.0 v) (eq-or-lt_of_le (le_of_suc-le-suc h)))
    (λ h. (λ v l. h v (le_step l), h n (le_refl (suc n))))
    (decides_below n f (λ v h. d v (le_step h)) and_then (λ _. d n (le_refl (suc n))))

unfoldable pub some_below : ℕ → (ℕ → Bool) → Bool
some_below zero f = false
some_below (suc n) f = some_below n f || f n

pub decides_some_below : {P : ℕ → Type 0} (n : ℕ) (f : ℕ → Bool) → ((v : ℕ) → v < n → Decides (f v) (P v)) →
    Decides (some_below n f) ((v : ℕ) × (v < n) × P v)
unfolding some_below
decides_some_below zero f d = record { holds = λ e. absurd (false≢true e); passes = λ k. absurd (not-suc-le-zero k.1) }
decides_some_below {P} (suc n) f d = decides_as
    (⊎_elim (λ k. (k.0, le_step k.1, k.2)) (λ p. (n, le_refl (suc n), p)))
    (λ k. ⊎_elim (λ (e : k.0 ≡ n). inr (subst P e k.2)) (λ l. inl (k.0, l, k.2)) (eq-or-lt_of_le (le_of_suc-le-suc k.1)))
    (decides_or (decides_some_below n f (λ v h. d v (le_step h))) (d n (le_refl (suc n))))

-- does the list rise strictly?
abbrev starts_above : ℕ → List ℕ → Bool
starts_above u [] = true
starts_above u (v ∷ vs) = ltb u v

unfoldable pub is_rising : List ℕ → Bool
is_rising [] = true
is_rising (u ∷ us) = starts_above u us && is_rising us

pub decides_rising : (vs : List ℕ) → Decides (is_rising vs) (Rising vs)
unfolding is_rising
decides_rising [] = record { holds = λ e. Rising.none; passes = λ r. refl }
decides_rising (u ∷ []) = record { holds = λ e. Rising.one; passes = λ r. refl }
decides_rising (u ∷ v ∷ vs) = decides_as (λ k. Rising.more k.0 k.1) split (decides_lt u v and_then (λ _. decides_rising (v ∷ vs)))
  where
    split : Rising (u ∷ v ∷ vs) → (u < v) × Rising (v ∷ vs)
    split (Rising.more h r) = (h, r)

-- does no member stand twice?
unfoldable pub is_apart : List ℕ → Bool
is_apart [] = true
is_apart (v ∷ vs) = not (is_member v vs) && is_apart vs

pub decides_apart : (vs : List ℕ) → Decides (is_apart vs) (NoRepeats vs)
unfolding is_apart
decides_apart [] = record { holds = λ e. NoRepeats.none; passes = λ r. refl }
decides_apart (v ∷ vs) = decides_as (λ k. NoRepeats.more k.0 k.1) split (decides_not (decides_member v vs) and_then (λ _. decides_apart vs))
  where
    split : NoRepeats (v ∷ vs) → (Memᴰ v vs → ⊥) × NoRepeats vs
    split (NoRepeats.more h r) = (h, r)
