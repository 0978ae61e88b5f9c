-- The least wrong place: of two answers the lesser is that of both, and so of each number below a bound, one number more at a time.
use Prim.Native.Nat.{ℕ, ◌+◌, ◌<◌}
use native.Mathlib.Decide.{dec_lt}
use native.Mathlib.Omega.{arith}
use mathlib.Core.Path.{◌≡◌, refl, ap, ap₂, sym, subst, ◌∙◌}
use mathlib.Core.Bool.{Bool, true, false, cond}
use mathlib.Core.Logic.{◌⊎◌, inl, inr, ⊎_elim}
use mathlib.Core.List.{List}
use lib.Dec.{ltb}
use borrow.Author.Tests.{ltb-true, ltb-false, lt-ltb, le-ltb}
use Rattle.grammar.specs.paper.Grammar.{System}
use Rattle.grammar.specs.paper.Names.{Misnamed}
use Rattle.std.specs.Prelude.{Option, Some, None, min}
use Rattle.std.specs.Option.{option_or}
use Rattle.naming.specs.Wrongs.{Named, LeastOf, earlier_of, OneBelow}

abbrev either : (P Q : ℕ → Type 0) → ℕ → Type 0
either P Q p = P p ⊎ Q p

module _ {P Q : ℕ → Type 0} where
  pub least_same : ((p : ℕ) → P p → Q p) → ((p : ℕ) → Q p → P p) → {r : Option ℕ} → LeastOf P r → LeastOf Q r
  least_same to from (LeastOf.at {p = p} here least) = LeastOf.at (to p here) (λ q h. least q (from q h))
  least_same to from (LeastOf.nowhere none) = LeastOf.nowhere (λ q h. none q (from q h))

  pub least_of_two : {a b : Option ℕ} → LeastOf P a → LeastOf Q b → LeastOf (either P Q) (earlier_of a b)
  unfolding earlier_of
  least_of_two (LeastOf.nowhere none) (LeastOf.nowhere no_other) = LeastOf.nowhere (λ q. ⊎_elim (none q) (no_other q))
  least_of_two (LeastOf.nowhere none) (LeastOf.at {p = p} here least) = LeastOf.at (inr here) (λ q. ⊎_elim (λ h. absurd (none q h)) (least q))
  least_of_two (LeastOf.at {p = p} here least) (LeastOf.nowhere none) = LeastOf.at (inl here) (λ q. ⊎_elim (least q) (λ h. absurd (none q h)))
  least_of_two (LeastOf.at {p = p} here least) (LeastOf.at {p = p'} here' least') = by_test (ltb p' p) refl
    where
      by_test : (t : Bool) → ltb p' p ≡ t → LeastOf (either P Q) (cond t (Some p') (Some p))
      by_test true e =
          LeastOf.at (inr here')
          (λ q. ⊎_elim (λ (h : P q). omega (arith, least q h, ltb-true p' p e)) (λ (h : Q q). least' q h))
      by_test false e =
          LeastOf.at (inl here)
          (λ q. ⊎_elim (λ (h : P q). least q h) (λ (h : Q q). omega (arith, least' q h, ltb-false p' p e)))

-- one thing said twice
pub least_twice : (W : ℕ → ℕ → Type 0) {x y : ℕ} {r : Option ℕ} → x ≡ y → LeastOf (W x) r → LeastOf (either (W x) (W y)) r
least_twice W is one = least_same (λ p h. inl h) (λ p. ⊎_elim (λ h. h) (λ h. subst (λ (n : ℕ). W n p) (sym is) h)) one

-- how the lesser is found

pub earlier_both : {a b : Option ℕ} {p q : ℕ} → a ≡ Some p → b ≡ Some q → Some (min p q) ≡ earlier_of a b
unfolding earlier_of
earlier_both {p = p} {q = q} e f = by_order (dec_lt q p) ∙ ap₂ earlier_of (sym e) (sym f)
  where
    by_order : Dec (q < p) → Some (min p q) ≡ cond (ltb q p) (Some q) (Some p)
    by_order (yes less) =
        let least : min p q ≡ q = omega arith in
        ap Some least ∙ sym (ap (λ (t : Bool). cond t (Some q) (Some p)) (lt-ltb q p less))
    by_order (no more) =
        let least : min p q ≡ p = omega (arith, more) in
        ap Some least ∙ sym (ap (λ (t : Bool). cond t (Some q) (Some p)) (le-ltb q p (omega (arith, more))))

pub earlier_only : {a b : Option ℕ} {p : ℕ} → a ≡ Some p → b ≡ None → option_or a b ≡ earlier_of a b
unfolding earlier_of
earlier_only e f = ap₂ option_or e f ∙ ap₂ earlier_of (sym e) (sym f)

pub earlier_second : {a : Option ℕ} (b : Option ℕ) → a ≡ None → option_or a b ≡ earlier_of a b
unfolding earlier_of
earlier_second b e = ap (λ (x : Option ℕ). option_or x b) e ∙ ap (λ (x : Option ℕ). earlier_of x b) (sym e)

module _ {W : ℕ → ℕ → Type 0} where
  pub least_none : LeastOf (OneBelow 0 W) None
  least_none = LeastOf.nowhere (λ q h. omega (arith, h.low))

  pub least_more : {n : ℕ} {best r : Option ℕ} → LeastOf (OneBelow n W) best → LeastOf (W n) r → LeastOf (OneBelow (n + 1) W) (earlier_of best r)
  least_more {n} so_far new = least_same to from (least_of_two so_far new)
    where
      to : (p : ℕ) → OneBelow n W p ⊎ W n p → OneBelow (n + 1) W p
      to p =
          ⊎_elim (λ (h : OneBelow n W p). record { index = h.index; low = omega (arith, h.low); holds = h.holds })
          (λ (h : W n p). record { index = n; low = omega arith; holds = h })

      by_order : (p : ℕ) (h : OneBelow (n + 1) W p) → Dec (h.index < n) → OneBelow n W p ⊎ W n p
      by_order p h (yes low) = inl (record { index = h.index; low = low; holds = h.holds })
      by_order p h (no high) =
          let last : h.index ≡ n = omega (arith, h.low, high) in
          inr (subst (λ (i : ℕ). W i p) last h.holds)

      from : (p : ℕ) → OneBelow (n + 1) W p → OneBelow n W p ⊎ W n p
      from p h = by_order p h (dec_lt h.index n)

-- the least misnamed place is what the answer says
pub named_of_least : {s : List ℕ} {sys : System} {r : Option ℕ} → LeastOf (Misnamed s sys) r → Named s sys r
named_of_least (LeastOf.at here least) = record { misnamed = here; earliest = λ q low h. omega (arith, least q h) }
named_of_least (LeastOf.nowhere none) = none
