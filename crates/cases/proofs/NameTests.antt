-- Tests of names and of numbers, to compute with: a misnamed place is a use or a definition, so trying these is enough.
use Prim.Native.Nat.{ℕ, ◌+◌, ◌<◌}
use mathlib.Core.Path.{◌≡◌, refl, subst}
use mathlib.Core.Logic.{◌⊎◌, inl, inr, ⊎_elim}
use mathlib.Core.Bool.{Bool, true, false, not, ◌&&◌, ◌||◌, false≢true}
use mathlib.Core.List.Memᴰ
use mathlib.Core.List.{List, [], ◌∷◌, ◌++◌, Memᴰ}
use lib.ListN.{length}
use lib.Dec.{leb, ltb}
use Rattle.theory.specs.Members.{is_member}
use Rattle.theory.proofs.Tests.{Decides, decides_as, ◌and_then◌, decides_or, decides_not, decides_if, decides_le, decides_lt, decides_member, every, decides_every}
use Rattle.drawing.specs.paper.Limits.{least_k, most_k, most_inputs, most_nodes, most_outputs}
use Rattle.grammar.specs.paper.Text.{word_at, same_word}
use Rattle.grammar.specs.paper.Grammar.{System}
use Rattle.grammar.specs.paper.Names.{definitions, uses, Misnamed, WellNamed, FirstMisnamed}
use Rattle.grammar.specs.paper.Gates.{all_size, InNumbers}
use Rattle.grammar.proofs.NamesApart.{decides_same_word}

-- does a member of the list pass?
unfoldable is_some : (ℕ → Bool) → List ℕ → Bool
is_some f [] = false
is_some f (x ∷ xs) = f x || is_some f xs

decides_some : {P : ℕ → Type 0} (f : ℕ → Bool) → ((x : ℕ) → Decides (f x) (P x)) → (xs : List ℕ) →
    Decides (is_some f xs) ((x : ℕ) × Memᴰ x xs × P x)
unfolding is_some
decides_some f d [] = record { holds = λ e. absurd (false≢true e); passes = λ k. absurd (Memᴰ.not-nil k.1) }
decides_some {P} f d (y ∷ ys) = decides_as
    (⊎_elim (λ p. (y, Memᴰ.head refl, p)) (λ k. (k.0, Memᴰ.tail k.1, k.2)))
    (λ k. ⊎_elim (λ (e : k.0 ≡ y). inl (subst P e k.2)) (λ m. inr (k.0, m, k.2)) (Memᴰ.cases_cons k.1))
    (decides_or (d y) (decides_some f d ys))

module _ (s : List ℕ) (sys : System) where
  unfoldable is_misnamed : ℕ → Bool
  unfolding is_member every is_some
  is_misnamed p =
      (is_member p (uses sys) && every (λ d. not (same_word (word_at s d) (word_at s p))) (definitions sys)) ||
      (is_member p (definitions sys) && is_some (λ d. ltb d p && same_word (word_at s d) (word_at s p)) (definitions sys))

  abbrev Undefined : ℕ → Type 0
  Undefined p = Memᴰ p (uses sys) × ((d : ℕ) → Memᴰ d (definitions sys) → word_at s d ≡ word_at s p → ⊥)

  abbrev Again : ℕ → Type 0
  Again p = Memᴰ p (definitions sys) × ((d : ℕ) × Memᴰ d (definitions sys) × ((d < p) × (word_at s d ≡ word_at s p)))

  either_way : {p : ℕ} → Misnamed s sys p → Undefined p ⊎ Again p
  either_way (Misnamed.undefined m lacking) = inl (m, lacking)
  either_way (Misnamed.again d m n less same) = inr (m, (d, n, (less, same)))

  decides_misnamed : (p : ℕ) → Decides (is_misnamed p) (Misnamed s sys p)
  unfolding is_misnamed
  decides_misnamed p = decides_as
      (⊎_elim (λ (k : Undefined p). Misnamed.undefined k.0 k.1) (λ (k : Again p). Misnamed.again k.1.0 k.0 k.1.1 k.1.2.0 k.1.2.1))
      either_way
      (decides_or
      (decides_member p (uses sys) and_then (λ _. decides_every _ (λ d. decides_not (decides_same_word (word_at s d) (word_at s p))) (definitions sys)))
      (decides_member p (definitions sys)
      and_then (λ _. decides_some _ (λ d. decides_lt d p and_then (λ _. decides_same_word (word_at s d) (word_at s p))) (definitions sys))))

  -- the places where something can be wrong
  abbrev places : List ℕ
  places = uses sys ++ definitions sys

  misnamed_place : {p : ℕ} → Misnamed s sys p → Memᴰ p places
  misnamed_place (Misnamed.undefined m lacking) = Memᴰ.append_left (definitions sys) m
  misnamed_place (Misnamed.again d m n less same) = Memᴰ.append_right (uses sys) m

  unfoldable pub is_well_named : Bool
  unfolding every is_misnamed
  is_well_named = every (λ p. not (is_misnamed p)) places

  pub well_named : is_well_named ≡ true → WellNamed s sys
  unfolding is_well_named
  well_named test p m = (decides_every _ (λ q. decides_not (decides_misnamed q)) places).holds test p (misnamed_place m) m

  unfoldable pub is_first_misnamed : ℕ → Bool
  unfolding every is_misnamed
  is_first_misnamed p = is_misnamed p && every (λ q. not (ltb q p) || not (is_misnamed q)) places

  pub first_misnamed : (p : ℕ) → is_first_misnamed p ≡ true → FirstMisnamed s sys p
  unfolding is_first_misnamed
  first_misnamed p test =
      let (its, none) =
      (decides_misnamed p and_then (λ _. decides_every _ (λ q. decides_if (decides_lt q p) (λ _. decides_not (decides_misnamed q))) places)).holds test in
      record { misnamed = its; earliest = λ q less m. none q (misnamed_place m) less m }

unfoldable pub is_in_numbers : ℕ → System → Bool
is_in_numbers k sys =
    leb least_k k && leb k most_k && leb (length sys.inputs) most_inputs && leb (length sys.inputs + all_size sys.equations) most_nodes &&
    leb (length sys.outputs) most_outputs

pub decides_numbers : (k : ℕ) (sys : System) → Decides (is_in_numbers k sys) (InNumbers k sys)
unfolding is_in_numbers
decides_numbers k sys = decides_as
    (λ h. record { k_least = h.0.0.0.0; k_most = h.0.0.0.1; inputs = h.0.0.1; nodes = h.0.1; outputs = h.1 })
    (λ n. ((((n.k_least, n.k_most), n.inputs), n.nodes), n.outputs))
    (decides_le least_k k
    and_then (λ _. decides_le k most_k)
    and_then (λ _. decides_le (length sys.inputs) most_inputs)
    and_then (λ _. decides_le (length sys.inputs + all_size sys.equations) most_nodes)
    and_then (λ _. decides_le (length sys.outputs) most_outputs))
