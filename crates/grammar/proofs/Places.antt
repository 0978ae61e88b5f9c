-- Where the names of a well_formed text stand: each place is the first byte of a name, inside the text, and no letter or digit stands behind the
-- name. Definitions rise, outputs stand behind them, and two bytes at least go with each; each gate has a byte of its own.
use Prim.Native.Nat.{ℕ, suc, ◌+◌, ◌*◌, ◌≤◌, ◌<◌, zero-le}
use native.Mathlib.Nat.{le_refl}
use native.Mathlib.Omega.{arith}
use mathlib.Core.Path.{◌≡◌, sym, subst}
use mathlib.Core.Logic.{◌⊎◌, inl, inr, ⊎_elim}
use mathlib.Core.Bool.{true}
use mathlib.Core.List.Memᴰ
use mathlib.Core.List.{List, ◌++◌, map, flat_map, Memᴰ}
use lib.ListN.{length}
use Rattle.theory.specs.paper.Lists.{Rising}
use Rattle.grammar.specs.paper.Text.{byte_at, is_letter, word_at}
use Rattle.grammar.specs.paper.Grammar.{between, Tree, Equation, System, Name, Names, Factor, MoreFactors, Term, MoreTerms}
use Rattle.grammar.specs.paper.Grammar.{Expression, Equates, Equations, Line, WellFormed}
use Rattle.grammar.specs.paper.Names.{names_in, place_of, used_by, definitions, uses}
use Rattle.grammar.specs.paper.Gates.{size_of, equation_size, all_size}
use Rattle.grammar.proofs.Bytes.{letter_within}
use Rattle.grammar.proofs.ByteKinds.{BehindExpression, BehindTerm, BehindFactor, behind_no_word}
use Rattle.grammar.proofs.Ends.{NoWord, before_blanks, word_of_name}
use Rattle.grammar.proofs.OneTree.{behind_factors, behind_terms}
use Rattle.grammar.proofs.OneSystem.{names_gap, closed_line, closed_no_word, left_no_word}
use Rattle.grammar.proofs.Climbs.{Climbs, climbs_from, climbs_to, climbs_join, climbs_count, climbs_rise}

-- a name stands at p, from i on and up to j, and no letter or digit behind it
pub record Placed (s : List ℕ) (i j p : ℕ) : Type 0 where
  pub end : ℕ
  pub named : Name s p end
  pub apart : NoWord s end
  pub low : i ≤ p
  pub high : end ≤ j

pub equation_size_some : (e : Tree) → 1 ≤ equation_size e
unfolding equation_size size_of
equation_size_some (Tree.name p) = omega arith
equation_size_some (Tree.not e) = omega arith
equation_size_some (Tree.and e f) = omega arith
equation_size_some (Tree.or e f) = omega arith

pub equation_size_most : (e : Tree) → equation_size e ≤ suc (size_of e)
unfolding equation_size size_of
equation_size_most (Tree.name p) = omega arith
equation_size_most (Tree.not e) = omega arith
equation_size_most (Tree.and e f) = omega arith
equation_size_most (Tree.or e f) = omega arith

placed_in : {s : List ℕ} {h i j k p : ℕ} → h ≤ i → j ≤ k → Placed s i j p → Placed s h k p
placed_in low high placed =
    let from = placed.low in let to = placed.high in
    record { end = placed.end; named = placed.named; apart = placed.apart; low = omega arith; high = omega arith }

-- the names behind a sign are those of its right operand, or stand further on
either : {s : List ℕ} {i a b j p : ℕ} (before : List ℕ) {here : List ℕ} → (Memᴰ p here → Placed s a b p) → i ≤ a → b ≤ j → i ≤ b →
    Memᴰ p (before ++ here) ⊎ Placed s b j p → Memᴰ p before ⊎ Placed s i j p
either before placed low high wide (inl m) = ⊎_elim inl (λ n. inr (placed_in low high (placed n))) (Memᴰ.append_cases before m)
either before placed low high wide (inr q) = inr (placed_in wide (omega arith) q)

module _ {s : List ℕ} where
  -- Sizes

  mutual
    unfolding size_of

    pub factor_size : {n i j : ℕ} {e : Tree} → Factor s n i j e → i + size_of e < j
    factor_size (Factor.negated sign f) = let next = sign.blanks.ordered in omega (arith, factor_size f)
    factor_size (Factor.bracketed fits sign x close) =
        let next = sign.blanks.ordered in let last = close.blanks.ordered in omega (arith, expression_size x)
    factor_size (Factor.named name blanks) = let some = name.some in let next = blanks.ordered in omega arith

    pub factors_size : {n i j : ℕ} {e g : Tree} → MoreFactors s n e i j g → i + size_of g ≤ j + size_of e
    factors_size MoreFactors.no_factor = omega arith
    factors_size (MoreFactors.factor sign f rest) = let next = sign.blanks.ordered in omega (arith, factor_size f, factors_size rest)

    pub term_size : {n i j : ℕ} {e : Tree} → Term s n i j e → i + size_of e < j
    term_size (Term.factors f rest) = omega (arith, factor_size f, factors_size rest)

    pub terms_size : {n i j : ℕ} {e g : Tree} → MoreTerms s n e i j g → i + size_of g ≤ j + size_of e
    terms_size MoreTerms.no_term = omega arith
    terms_size (MoreTerms.term sign t rest) = let next = sign.blanks.ordered in omega (arith, term_size t, terms_size rest)

    pub expression_size : {n i j : ℕ} {e : Tree} → Expression s n i j e → i + size_of e < j
    expression_size (Expression.terms t rest) = omega (arith, term_size t, terms_size rest)

  factors_order : {n i j : ℕ} {e g : Tree} → MoreFactors s n e i j g → i ≤ j
  factors_order MoreFactors.no_factor = omega arith
  factors_order (MoreFactors.factor sign f rest) = let next = sign.blanks.ordered in omega (arith, factor_size f, factors_order rest)

  terms_order : {n i j : ℕ} {e g : Tree} → MoreTerms s n e i j g → i ≤ j
  terms_order MoreTerms.no_term = omega arith
  terms_order (MoreTerms.term sign t rest) = let next = sign.blanks.ordered in omega (arith, term_size t, terms_order rest)

  -- each gate has a byte of its own: its sign, or the `=` of an equation without signs
  equates_size : {i j : ℕ} {e : Tree} → Equates s i j e → i + 2 + equation_size e ≤ j
  equates_size {e = e} q =
      let some = q.named.some in let a = q.blanks.ordered in let b = q.equals_sign.blanks.ordered in let c = q.end.blanks.ordered in
      omega (arith, expression_size q.expression, equation_size_most e)

  pub equations_size : {i j : ℕ} {l : List Equation} → Equations s i j l → i + all_size l ≤ j
  unfolding all_size
  equations_size Equations.none = omega arith
  equations_size (Equations.more q rest) = omega (arith, equates_size q, equations_size rest)

  pub names_order : {i j : ℕ} {l : List ℕ} → Names s i j l → i ≤ j
  names_order (Names.one gap name) = let a = gap.some in let b = name.some in omega arith
  names_order (Names.more gap name rest) = let a = gap.some in let b = name.some in omega (arith, names_order rest)

  equations_order : {i j : ℕ} {l : List Equation} → Equations s i j l → i ≤ j
  equations_order r = omega (arith, equations_size r)

  -- Names in expressions

  mutual
    unfolding names_in

    pub factor_placed : {n i j : ℕ} {e : Tree} → Factor s n i j e → BehindFactor (byte_at s j) → {p : ℕ} → Memᴰ p (names_in e) → Placed s i j p
    factor_placed {j = j} (Factor.negated sign f) after m = let next = sign.blanks.ordered in placed_in (omega arith) (omega arith) (factor_placed f after m)
    factor_placed (Factor.bracketed fits sign x close) after m =
        let next = sign.blanks.ordered in let last = close.blanks.ordered in
        placed_in (omega arith) (omega arith) (expression_placed x (inl close.here) m)
    factor_placed {j = j} (Factor.named {i = i} name blanks) after m =
        let here = Memᴰ.eq_of_singleton m in
        subst (Placed s i j) (sym here)
        (record { end = _; named = name; apart = before_blanks blanks (behind_no_word after); low = omega arith; high = blanks.ordered })

    pub factors_placed : {n i j : ℕ} {e g : Tree} → MoreFactors s n e i j g → BehindTerm (byte_at s j) → {p : ℕ} → Memᴰ p (names_in g) →
        Memᴰ p (names_in e) ⊎ Placed s i j p
    factors_placed MoreFactors.no_factor after m = inl m
    factors_placed (MoreFactors.factor {e = e} sign f rest) after m =
        let next = sign.blanks.ordered in let whole = factor_size f in let later = factors_order rest in
        either (names_in e) (λ here. factor_placed f (behind_factors rest after) here) (omega arith) later (omega arith) (factors_placed rest after m)

    pub term_placed : {n i j : ℕ} {e : Tree} → Term s n i j e → BehindTerm (byte_at s j) → {p : ℕ} → Memᴰ p (names_in e) → Placed s i j p
    term_placed (Term.factors f rest) after m =
        let whole = factor_size f in let later = factors_order rest in
        ⊎_elim (λ here. placed_in (omega arith) later (factor_placed f (behind_factors rest after) here)) (placed_in (omega arith) (omega arith))
        (factors_placed rest after m)

    pub terms_placed : {n i j : ℕ} {e g : Tree} → MoreTerms s n e i j g → BehindExpression (byte_at s j) → {p : ℕ} → Memᴰ p (names_in g) →
        Memᴰ p (names_in e) ⊎ Placed s i j p
    terms_placed MoreTerms.no_term after m = inl m
    terms_placed (MoreTerms.term {e = e} sign t rest) after m =
        let next = sign.blanks.ordered in let whole = term_size t in let later = terms_order rest in
        either (names_in e) (λ here. term_placed t (behind_terms rest after) here) (omega arith) later (omega arith) (terms_placed rest after m)

    pub expression_placed : {n i j : ℕ} {e : Tree} → Expression s n i j e → BehindExpression (byte_at s j) → {p : ℕ} → Memᴰ p (names_in e) →
        Placed s i j p
    expression_placed (Expression.terms t rest) after m =
        let whole = term_size t in let later = terms_order rest in
        ⊎_elim (λ here. placed_in (omega arith) later (term_placed t (behind_terms rest after) here)) (placed_in (omega arith) (omega arith))
        (terms_placed rest after m)

  -- Names in lines and on the left

  pub names_placed : {i j p : ℕ} {l : List ℕ} → Names s i j l → NoWord s j → Memᴰ p l → Placed s i j p
  names_placed {i} {j} (Names.one {a = a} gap name) out m =
      let low = gap.some in
      subst (Placed s i j) (sym (Memᴰ.eq_of_singleton m)) (record { end = j; named = name; apart = out; low = omega arith; high = omega arith })
  names_placed {i} {j} {p} (Names.more {a = a} {b = b} gap name rest) out m =
      let low : i < a = gap.some in let some : a < b = name.some in let far = names_order rest in
      ⊎_elim
      (λ here. subst (Placed s i j) (sym here) (record { end = b; named = name; apart = names_gap rest; low = omega arith; high = far }))
      (λ later. placed_in (omega arith) (omega arith) (names_placed rest out later))
      (Memᴰ.cases_cons m)

  line_placed : {w : List ℕ} {i j p : ℕ} {l : List ℕ} → Line s w i j l → Memᴰ p l → Placed s i j p
  line_placed line m =
      let a = line.blanks.ordered in let b = line.end.blanks.ordered in
      placed_in (omega arith) (omega arith) (names_placed line.names (closed_no_word (closed_line line)) m)

  pub left_placed : {i j p : ℕ} {l : List Equation} → Equations s i j l → Memᴰ p (map place_of l) → Placed s i j p
  left_placed Equations.none m = absurd (Memᴰ.not-nil m)
  left_placed {i} {j} {p} (Equations.more {a = a} q rest) m =
      let here : i + 2 + equation_size _ ≤ a = equates_size q in let far : a ≤ j = equations_order rest in
      let x = q.blanks.ordered in let y = q.equals_sign.blanks.ordered in let z = q.end.blanks.ordered in let w = expression_size q.expression in
      ⊎_elim
      (λ same. subst (Placed s i j) (sym same)
      (record { end = q.name_end; named = q.named; apart = left_no_word q; low = omega arith; high = omega arith }))
      (λ later. placed_in (omega arith) (omega arith) (left_placed rest later))
      (Memᴰ.cases_cons m)

  pub used_placed : {i j p : ℕ} {l : List Equation} → Equations s i j l → Memᴰ p (flat_map used_by l) → Placed s i j p
  unfolding flat_map
  used_placed Equations.none m = absurd (Memᴰ.not-nil m)
  used_placed {i} {j} {p} (Equations.more {a = a} {e = e} q rest) m =
      let far : a ≤ j = equations_order rest in let some = q.named.some in
      let x = q.blanks.ordered in let y = q.equals_sign.blanks.ordered in let z = q.end.blanks.ordered in let w = expression_size q.expression in
      ⊎_elim
      (λ here. placed_in (omega arith) (omega arith) (expression_placed q.expression (inr q.end.here) here))
      (λ later. placed_in (omega arith) (omega arith) (used_placed rest later))
      (Memᴰ.append_cases (names_in e) m)

  -- Places that rise

  names_climb : {i j : ℕ} {l : List ℕ} → Names s i j l → Climbs (suc i) (suc j) l
  names_climb {j = j} (Names.one {a = a} gap name) =
      let some = name.some in let two : a + 2 ≤ suc j = omega arith in
      Climbs.more gap.some (Climbs.none two)
  names_climb (Names.more {a = a} {b = b} gap name rest) =
      let some = name.some in let two : a + 2 ≤ suc b = omega arith in
      Climbs.more gap.some (climbs_from two (names_climb rest))

  line_climbs : {w : List ℕ} {i j : ℕ} {l : List ℕ} → Line s w i j l → Climbs i j l
  line_climbs line =
      let a = line.blanks.ordered in let b = line.end.blanks.ordered in
      climbs_from (omega arith) (climbs_to (names_climb line.names) (omega arith))

  equations_climb : {i j : ℕ} {l : List Equation} → Equations s i j l → Climbs i j (map place_of l)
  equations_climb {i} Equations.none = Climbs.none (le_refl i)
  equations_climb {i} (Equations.more {a = a} q rest) =
      let size = equates_size q in let two : i + 2 ≤ a = omega arith in
      Climbs.more (le_refl i) (climbs_from two (equations_climb rest))

  names_some : {i j : ℕ} {l : List ℕ} → Names s i j l → 1 ≤ length l
  names_some (Names.one gap name) = omega arith
  names_some (Names.more gap name rest) = omega arith

-- The whole text

module _ {s : List ℕ} {sys : System} (whole : WellFormed s sys) where
  pub inputs_some : 1 ≤ length sys.inputs
  inputs_some = names_some whole.inputs.names

  pub outputs_some : 1 ≤ length sys.outputs
  outputs_some = names_some whole.outputs.names

  -- definitions and outputs, in the text's order
  pub places_climb : Climbs 0 (length s) (definitions sys ++ sys.outputs)
  places_climb =
      climbs_join (climbs_join (climbs_from zero-le (line_climbs whole.inputs)) (equations_climb whole.equations)) (line_climbs whole.outputs)

  pub definitions_rise : Rising (definitions sys)
  definitions_rise = climbs_rise (climbs_join (climbs_from zero-le (line_climbs whole.inputs)) (equations_climb whole.equations))

  -- each has two bytes at least
  pub places_count : 2 * length (definitions sys ++ sys.outputs) ≤ length s
  places_count = omega (arith, climbs_count places_climb)

  -- each gate has a byte
  pub gates_count : all_size sys.equations ≤ length s
  gates_count =
      let a = climbs_count (line_climbs whole.outputs) in let b = equations_size whole.equations in
      omega arith

  pub definition_placed : {p : ℕ} → Memᴰ p (definitions sys) → Placed s 0 (length s) p
  definition_placed m =
      let a = climbs_count (line_climbs whole.inputs) in let b = climbs_count (equations_climb whole.equations) in
      let c = climbs_count (line_climbs whole.outputs) in
      ⊎_elim
      (λ here. placed_in zero-le (omega arith) (line_placed whole.inputs here))
      (λ here. placed_in zero-le (omega arith) (left_placed whole.equations here))
      (Memᴰ.append_cases sys.inputs m)

  pub use_placed : {p : ℕ} → Memᴰ p (uses sys) → Placed s 0 (length s) p
  use_placed m =
      let c = climbs_count (line_climbs whole.outputs) in
      ⊎_elim
      (λ here. placed_in zero-le (omega arith) (used_placed whole.equations here))
      (λ here. placed_in zero-le (omega arith) (line_placed whole.outputs here))
      (Memᴰ.append_cases (flat_map used_by sys.equations) m)

-- what a placed name has: a letter inside the text, and its word: the word at a name's place is the name
module _ {s : List ℕ} {i j p : ℕ} (placed : Placed s i j p) where
  pub placed_letter : is_letter (byte_at s p) ≡ true
  placed_letter = placed.named.letter

  pub placed_inside : p < length s
  placed_inside = letter_within s p placed_letter

  pub placed_word : word_at s p ≡ between s p placed.end
  placed_word = word_of_name placed.named placed.apart
