-- Two expressions from one place, each followed by a byte that does not continue it, end at the same place with the same tree. Left to right, by
-- induction on the first; the byte at hand decides the case.
use Prim.Native.Nat.{ℕ}
use native.Mathlib.Omega.{arith}
use mathlib.Core.Path.{◌≡◌, refl, sym, ap, subst, subst₂}
use mathlib.Core.Logic.{inl, inr}
use mathlib.Core.List.{List}
use Rattle.grammar.specs.paper.Text.{byte_at}
use Rattle.grammar.specs.paper.Grammar.{Tree, Blanks, Name, Sign, Factor, MoreFactors, Term, MoreTerms, Expression}
use Rattle.grammar.proofs.ByteKinds.{BehindExpression, BehindTerm, BehindFactor, behind_no_blank, behind_no_word, term_goes_on, expression_goes_on}
use Rattle.grammar.proofs.ByteKinds.{bang_no_opening, bang_no_letter, opening_no_letter, bang_no_blank, opening_no_blank}
use Rattle.grammar.proofs.Ends.{NoBlank, NoWord, blanks_end, sign_ends, name_ends, before_blanks, name_starts, blanks_from}

pub record Same (j j' : ℕ) (e e' : Tree) : Type 0 where
  pub end : j ≡ j'
  pub tree : e ≡ e'

same_under : (f : Tree → Tree) {j j' : ℕ} {e e' : Tree} → Same j j' e e' → Same j j' (f e) (f e')
same_under f r = record { end = r.end; tree = ap f r.tree }

module _ {s : List ℕ} where
  -- What begins and what follows

  pub factor_starts : {n i j : ℕ} {e : Tree} → Factor s n i j e → NoBlank s i
  factor_starts (Factor.negated sign f) = bang_no_blank sign.here
  factor_starts (Factor.bracketed fits sign x close) = opening_no_blank sign.here
  factor_starts (Factor.named name blanks) = name_starts name

  pub term_starts : {n i j : ℕ} {e : Tree} → Term s n i j e → NoBlank s i
  term_starts (Term.factors f rest) = factor_starts f

  pub expression_starts : {n i j : ℕ} {e : Tree} → Expression s n i j e → NoBlank s i
  expression_starts (Expression.terms t rest) = term_starts t

  pub behind_factors : {n i j : ℕ} {e g : Tree} → MoreFactors s n e i j g → BehindTerm (byte_at s j) → BehindFactor (byte_at s i)
  behind_factors MoreFactors.no_factor after = inr after
  behind_factors (MoreFactors.factor sign f rest) after = inl sign.here

  pub behind_terms : {n i j : ℕ} {e g : Tree} → MoreTerms s n e i j g → BehindExpression (byte_at s j) → BehindTerm (byte_at s i)
  behind_terms MoreTerms.no_term after = inr after
  behind_terms (MoreTerms.term sign t rest) after = inl sign.here

  -- Derivations moved along equal places

  factor_from_lem : {n a a' j : ℕ} {e : Tree} → a ≡ a' → Factor s n a j e → Factor s n a' j e
  factor_from_lem {n} {j = j} {e} same f = subst (λ (x : ℕ). Factor s n x j e) same f

  term_from_lem : {n a a' j : ℕ} {e : Tree} → a ≡ a' → Term s n a j e → Term s n a' j e
  term_from_lem {n} {j = j} {e} same t = subst (λ (x : ℕ). Term s n x j e) same t

  factors_from : {n a a' j : ℕ} {e e' g : Tree} → e ≡ e' → a ≡ a' → MoreFactors s n e a j g → MoreFactors s n e' a' j g
  factors_from {n} {j = j} {g = g} tree place r = subst₂ (λ (y : Tree) (x : ℕ). MoreFactors s n y x j g) tree place r

  terms_from : {n a a' j : ℕ} {e e' g : Tree} → e ≡ e' → a ≡ a' → MoreTerms s n e a j g → MoreTerms s n e' a' j g
  terms_from {n} {j = j} {g = g} tree place r = subst₂ (λ (y : Tree) (x : ℕ). MoreTerms s n y x j g) tree place r

  pub expression_from_lem : {n m a a' j : ℕ} {e : Tree} → n ≡ m → a ≡ a' → Expression s n a j e → Expression s m a' j e
  expression_from_lem {j = j} {e} nesting place x = subst₂ (λ (y : ℕ) (z : ℕ). Expression s y z j e) nesting place x

  pub sign_from : {sign a a' j : ℕ} → a ≡ a' → Sign s sign a j → Sign s sign a' j
  sign_from {sign} {j = j} same z = subst (λ (x : ℕ). Sign s sign x j) same z

  named_one : {i a a' j j' : ℕ} → Name s i a → Name s i a' → Blanks s a j → Blanks s a' j' → NoWord s j → NoWord s j' → NoBlank s j → NoBlank s j' → j ≡ j'
  named_one name name' blanks blanks' word word' out out' =
      let same = name_ends name name' (before_blanks blanks word) (before_blanks blanks' word') in
      blanks_end blanks (blanks_from (sym same) blanks') out out'

  mutual
    pub factor_one : {n i j j' : ℕ} {e e' : Tree} → Factor s n i j e → Factor s n i j' e' → BehindFactor (byte_at s j) → BehindFactor (byte_at s j') →
        Same j j' e e'
    factor_one (Factor.negated sign f) (Factor.negated sign' f') after after' =
        same_under Tree.not (factor_one f (factor_from_lem (sign_ends sign' sign (factor_starts f') (factor_starts f)) f') after after')
    factor_one (Factor.negated sign f) (Factor.bracketed fits' sign' x' close') after after' = absurd (bang_no_opening sign.here sign'.here)
    factor_one (Factor.negated sign f) (Factor.named name' blanks') after after' = absurd (bang_no_letter sign.here name'.letter)
    factor_one (Factor.bracketed fits sign x close) (Factor.negated sign' f') after after' = absurd (bang_no_opening sign'.here sign.here)
    factor_one (Factor.bracketed {m = m} fits sign x close) (Factor.bracketed {m = m'} fits' sign' x' close') after after' =
        let nesting : m' ≡ m = omega arith in
        let inside = expression_one x
        (expression_from_lem nesting (sign_ends sign' sign (expression_starts x') (expression_starts x)) x')
        (inl close.here) (inl close'.here) in
        record {
          end = sign_ends close (sign_from (sym inside.end) close') (behind_no_blank after) (behind_no_blank after');
          tree = inside.tree;
        }
    factor_one (Factor.bracketed fits sign x close) (Factor.named name' blanks') after after' = absurd (opening_no_letter sign.here name'.letter)
    factor_one (Factor.named name blanks) (Factor.negated sign' f') after after' = absurd (bang_no_letter sign'.here name.letter)
    factor_one (Factor.named name blanks) (Factor.bracketed fits' sign' x' close') after after' = absurd (opening_no_letter sign'.here name.letter)
    factor_one (Factor.named name blanks) (Factor.named name' blanks') after after' =
        record {
          end = named_one name name' blanks blanks' (behind_no_word after) (behind_no_word after') (behind_no_blank after) (behind_no_blank after');
          tree = refl;
        }

    pub factors_one : {n i j j' : ℕ} {e g g' : Tree} → MoreFactors s n e i j g → MoreFactors s n e i j' g' →
        BehindTerm (byte_at s j) → BehindTerm (byte_at s j') → Same j j' g g'
    factors_one MoreFactors.no_factor MoreFactors.no_factor after after' = record { end = refl; tree = refl }
    factors_one MoreFactors.no_factor (MoreFactors.factor sign' f' rest') after after' = absurd (term_goes_on after sign'.here)
    factors_one (MoreFactors.factor sign f rest) MoreFactors.no_factor after after' = absurd (term_goes_on after' sign.here)
    factors_one (MoreFactors.factor {e = e} sign f rest) (MoreFactors.factor sign' f' rest') after after' =
        let first = factor_one f (factor_from_lem (sign_ends sign' sign (factor_starts f') (factor_starts f)) f')
        (behind_factors rest after) (behind_factors rest' after') in
        factors_one rest (factors_from (ap (Tree.and e) (sym first.tree)) (sym first.end) rest') after after'

    pub term_one : {n i j j' : ℕ} {e e' : Tree} → Term s n i j e → Term s n i j' e' → BehindTerm (byte_at s j) → BehindTerm (byte_at s j') → Same j j' e e'
    term_one (Term.factors f rest) (Term.factors f' rest') after after' =
        let first = factor_one f f' (behind_factors rest after) (behind_factors rest' after') in
        factors_one rest (factors_from (sym first.tree) (sym first.end) rest') after after'

    pub terms_one : {n i j j' : ℕ} {e g g' : Tree} → MoreTerms s n e i j g → MoreTerms s n e i j' g' →
        BehindExpression (byte_at s j) → BehindExpression (byte_at s j') → Same j j' g g'
    terms_one MoreTerms.no_term MoreTerms.no_term after after' = record { end = refl; tree = refl }
    terms_one MoreTerms.no_term (MoreTerms.term sign' t' rest') after after' = absurd (expression_goes_on after sign'.here)
    terms_one (MoreTerms.term sign t rest) MoreTerms.no_term after after' = absurd (expression_goes_on after' sign.here)
    terms_one (MoreTerms.term {e = e} sign t rest) (MoreTerms.term sign' t' rest') after after' =
        let first = term_one t (term_from_lem (sign_ends sign' sign (term_starts t') (term_starts t)) t')
        (behind_terms rest after) (behind_terms rest' after') in
        terms_one rest (terms_from (ap (Tree.or e) (sym first.tree)) (sym first.end) rest') after after'

    pub expression_one : {n i j j' : ℕ} {e e' : Tree} → Expression s n i j e → Expression s n i j' e' →
        BehindExpression (byte_at s j) → BehindExpression (byte_at s j') → Same j j' e e'
    expression_one (Expression.terms t rest) (Expression.terms t' rest') after after' =
        let first = term_one t t' (behind_terms rest after) (behind_terms rest' after') in
        terms_one rest (terms_from (sym first.tree) (sym first.end) rest') after after'
