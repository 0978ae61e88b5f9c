-- Whether some cut of a node, or each, has a property is decided by trying all rising lists of at most K nodes.
use Prim.Native.Nat.{ℕ, zero, suc, ◌+◌, ◌≤◌, ◌<◌, zero-le}
use native.Mathlib.Nat.{eq-or-lt_of_le}
use native.Mathlib.Omega.{arith}
use mathlib.Core.Path.{◌≡◌, refl}
use mathlib.Core.Logic.Dec
use mathlib.Core.Logic.{◌⊎◌, inl, inr, ⊎_elim}
use mathlib.Core.Bool.{Bool, true, not, ◌&&◌, ◌||◌}
use mathlib.Core.List.Memᴰ
use mathlib.Core.List.{List, [], ◌∷◌, Memᴰ}
use lib.ListN.{length}
use Rattle.theory.specs.paper.Net.{Net}
use Rattle.theory.specs.paper.Sound.{Bounded}
use Rattle.theory.specs.paper.Lists.{Rising}
use Rattle.theory.specs.paper.Walk.{Cut}
use Rattle.theory.proofs.Tests.{Decides, decided, decides_as, decides_itself, ◌and_then◌, decides_or, decides_not}
use Rattle.theory.proofs.Members.{rising_tail, rising_above}
use Rattle.theory.proofs.Walks.{met_node}
use Rattle.theory.proofs.DecideCut.{is_cut, decides_cut}

-- does the test pass at a rising list of at most k numbers, of the `count` numbers from `at` on?
unfoldable some_rising : ℕ → ℕ → ℕ → (List ℕ → Bool) → Bool
some_rising zero at k f = f []
some_rising (suc count) at zero f = f []
some_rising (suc count) at (suc k) f = some_rising count (suc at) (suc k) f || some_rising count (suc at) k (λ l. f (at ∷ l))

record Among (count at k : ℕ) (l : List ℕ) : Type 0 where
  rising : Rising l
  few : length l ≤ k
  from : (v : ℕ) → Memᴰ v l → at ≤ v
  below : (v : ℕ) → Memᴰ v l → v < at + count

none_among : {count at k : ℕ} (l : List ℕ) → Among count at k l → (count ≡ 0) ⊎ (k ≡ 0) → [] ≡ l
none_among [] among none = refl
none_among {count} {at} {k} (x ∷ l) among none = absurd (⊎_elim
    (λ (e : count ≡ 0). omega (arith, among.from x (Memᴰ.head refl), among.below x (Memᴰ.head refl)))
    (λ (e : k ≡ 0). omega (arith, among.few))
    none)

rest_among : {count at k x : ℕ} {l : List ℕ} → at ≡ x → Among (suc count) at (suc k) (x ∷ l) → Among count (suc at) k l
rest_among e among = record {
  rising = rising_tail among.rising;
  few = omega (arith, among.few);
  from = λ v m. omega (arith, rising_above among.rising v m);
  below = λ v m. omega (arith, among.below v (Memᴰ.tail m));
}

later_among : {count at k x : ℕ} {l : List ℕ} → at < x → Among (suc count) at k (x ∷ l) → Among count (suc at) k (x ∷ l)
later_among {x = x} {l = l} h among = record {
  rising = among.rising;
  few = among.few;
  from = λ v m. ⊎_elim (λ (e : v ≡ x). omega arith) (λ (m' : Memᴰ v l). omega (arith, rising_above among.rising v m')) (Memᴰ.cases_cons m);
  below = λ v m. omega (arith, among.below v m);
}

no_members : {count at k : ℕ} → Among count at k []
no_members = record { rising = Rising.none; few = zero-le; from = λ v m. absurd (Memᴰ.not-nil m); below = λ v m. absurd (Memᴰ.not-nil m) }

-- either half of the search
decides_halves : (count at k : ℕ) (f : List ℕ → Bool) → Decides (some_rising (suc count) at (suc k) f)
    ((some_rising count (suc at) (suc k) f ≡ true) ⊎ (some_rising count (suc at) k (λ l. f (at ∷ l)) ≡ true))
unfolding some_rising
decides_halves count at k f = decides_or (decides_itself _) (decides_itself _)

found : (count at k : ℕ) (f : List ℕ → Bool) → some_rising count at k f ≡ true → (l : List ℕ) × (f l ≡ true)
unfolding some_rising
found zero at k f e = ([], e)
found (suc count) at zero f e = ([], e)
found (suc count) at (suc k) f e = ⊎_elim
    (found count (suc at) (suc k) f)
    (λ h. let (l, p) = found count (suc at) k (λ l. f (at ∷ l)) h in (at ∷ l, p))
    ((decides_halves count at k f).holds e)

tried : (count at k : ℕ) (f : List ℕ → Bool) (l : List ℕ) → Among count at k l → f l ≡ true → some_rising count at k f ≡ true
unfolding some_rising
tried zero at k f l among p = rw (none_among l among (inl refl)) p
tried (suc count) at zero f l among p = rw (none_among l among (inr refl)) p
tried (suc count) at (suc k) f [] among p = (decides_halves count at k f).passes (inl (tried count (suc at) (suc k) f [] no_members p))
tried (suc count) at (suc k) f (x ∷ l) among p = (decides_halves count at k f).passes (⊎_elim
    (λ (h : at ≡ x). inr (tried count (suc at) k (λ r. f (at ∷ r)) l (rest_among h among) (rw h p)))
    (λ (h : at < x). inl (tried count (suc at) (suc k) f (x ∷ l) (later_among h among) p))
    (eq-or-lt_of_le (among.from x (Memᴰ.head refl))))

unfoldable pub some_cut : Net → ℕ → ℕ → (List ℕ → Bool) → Bool
unfolding some_rising is_cut
some_cut net k t f = some_rising net.nodes 0 k (λ l. is_cut net k t l && f l)

unfoldable pub every_cut : Net → ℕ → ℕ → (List ℕ → Bool) → Bool
unfolding some_cut
every_cut net k t f = not (some_cut net k t (λ l. not (f l)))

module _ {net : Net} {b : ℕ} (bounded : Bounded net b) (k : ℕ) {t : ℕ} (node : t < net.nodes) where
  cut_among : {l : List ℕ} → Cut net k t l → Among net.nodes 0 k l
  cut_among cut = record {
    rising = cut.rising;
    few = cut.few;
    from = λ v m. zero-le;
    below = λ v m. omega (arith, met_node bounded node (cut.met v m));
  }

  pub decides_some_cut : {P : List ℕ → Type 0} (f : List ℕ → Bool) → ((l : List ℕ) → Decides (f l) (P l)) →
      Decides (some_cut net k t f) ((l : List ℕ) × (Cut net k t l × P l))
  unfolding some_cut
  decides_some_cut {P} f d = record {
    holds = λ e. let (l, h) = found net.nodes 0 k _ e in (l, (both l).holds h);
    passes = λ (l, p). tried net.nodes 0 k _ l (cut_among p.0) ((both l).passes p);
  }
    where
      both : (l : List ℕ) → Decides (is_cut net k t l && f l) (Cut net k t l × P l)
      both l = decides_cut bounded node k l and_then (λ _. d l)

  pub decides_every_cut : {P : List ℕ → Type 0} (f : List ℕ → Bool) → ((l : List ℕ) → Decides (f l) (P l)) →
      Decides (every_cut net k t f) ((l : List ℕ) → Cut net k t l → P l)
  unfolding every_cut
  decides_every_cut f d = decides_as
      (λ none l cut. (Dec.not-not (decided (d l))).0 (λ fails. none (l, (cut, fails))))
      (λ each (l, (cut, fails)). fails (each l cut))
      (decides_not (decides_some_cut (λ l. not (f l)) (λ l. decides_not (d l))))
