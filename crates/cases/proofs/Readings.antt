-- A reader of equations to compute with: it goes through the text as the grammar does, and what it finds stands there by the grammar's definitions. That it
-- finds all that does is not needed here. A reader stops where its number of steps is used up; the text's length serves.
use Prim.Native.Nat.{ℕ, zero, suc, ◌+◌, ◌≤◌, ◌<◌}
use native.Mathlib.Omega.{arith}
use native.Mathlib.Nat.{eq-or-lt_of_le}
use mathlib.Core.Path.{◌≡◌, refl, subst}
use mathlib.Core.Logic.{⊎_elim}
use mathlib.Core.Bool.{Bool, true, false, cond, not, ◌&&◌, false≢true}
use mathlib.Core.List.{List, [], ◌∷◌}
use lib.ListN.{length}
use lib.Dec.{ltb, eqb}
use borrow.Author.Tests.{ltb-true, eqb-true}
use Rattle.theory.proofs.Tests.{decides_itself, decides_not}
use Rattle.grammar.specs.paper.Text.{byte_at, bang, star, plus, opening, closing, equals, semicolon, is_blank, is_letter, is_word_byte, word_in, word_out, same_word}
use Rattle.grammar.specs.paper.Text.{most_letters, most_brackets}
use Rattle.grammar.specs.paper.Grammar.{between, Tree, Equation, System, Blanks, Gap, Name, Names, Sign, Factor, MoreFactors, Term, MoreTerms, Expression}
use Rattle.grammar.specs.paper.Grammar.{Equates, Equations, Line, WellFormed}
use Rattle.grammar.specs.Machine.{is_keyword}
use Rattle.grammar.proofs.Bytes.{test_fails, same_word_is, not_in, not_out}
use Rattle.cases.proofs.Tests.{both}

-- What was found and where it ends, or nothing
pub data Found (A : Type 0) : Type 0 where
  nothing : Found A
  up_to : (next : ℕ) → A → Found A

-- what was found, if anything, is so
pub data Stands {A : Type 0} (P : ℕ → A → Type 0) : Found A → Type 0 where
  none : Stands P Found.nothing
  one : {j : ℕ} {a : A} → P j a → Stands P (Found.up_to j a)

-- what was found is so in other words
pub stands_as : {A : Type 0} {P Q : ℕ → A → Type 0} {x : Found A} → ((j : ℕ) (a : A) → P j a → Q j a) → Stands P x → Stands Q x
stands_as to Stands.none = Stands.none
stands_as to (Stands.one {j = j} {a = a} is) = Stands.one (to j a is)

-- something was found and passes a test
unfoldable pub accepts : {A : Type 0} → Found A → (ℕ → A → Bool) → Bool
accepts Found.nothing test = false
accepts (Found.up_to j a) test = test j a

pub accepted : {A : Type 0} {P : ℕ → A → Type 0} {x : Found A} (test : ℕ → A → Bool) → Stands P x → accepts x test ≡ true →
    (j : ℕ) × (a : A) × P j a × (test j a ≡ true)
unfolding accepts
accepted test Stands.none passes = absurd (false≢true passes)
accepted test (Stands.one {j = j} {a = a} is) passes = (j, a, is, passes)

-- reading on, and reading on where a test passes
unfoldable continue : {A B : Type 0} → Found A → (ℕ → A → Found B) → Found B
continue Found.nothing next = Found.nothing
continue (Found.up_to j a) next = next j a

unfoldable pub provided : {A : Type 0} → Bool → Found A → Found A
provided true x = x
provided false x = Found.nothing

continue_stands : {A B : Type 0} {P : ℕ → A → Type 0} {Q : ℕ → B → Type 0} {x : Found A} {next : ℕ → A → Found B} →
    Stands P x → ((j : ℕ) (a : A) → P j a → Stands Q (next j a)) → Stands Q (continue x next)
unfolding continue
continue_stands Stands.none further = Stands.none
continue_stands (Stands.one {j = j} {a = a} is) further = further j a is

pub provided_stands : {A : Type 0} {P : ℕ → A → Type 0} {x : Found A} (test : Bool) → (test ≡ true → Stands P x) → Stands P (provided test x)
unfolding provided
provided_stands true is = is refl
provided_stands false is = Stands.none

either_stands : {A : Type 0} {P : ℕ → A → Type 0} {x y : Found A} (test : Bool) → (test ≡ true → Stands P x) → Stands P y → Stands P (cond test x y)
either_stands true is other = is refl
either_stands false is other = other

-- Bytes that pass a test, from a place on, n at most

unfoldable span_end : (s : List ℕ) (test : ℕ → Bool) (n i : ℕ) → ℕ
span_end s test zero i = i
span_end s test (suc n) i = cond (test (byte_at s i)) (span_end s test n (suc i)) i

record Spans (s : List ℕ) (test : ℕ → Bool) (n i j : ℕ) : Type 0 where
  ordered : i ≤ j
  few : j ≤ i + n
  each : (m : ℕ) → i ≤ m → m < j → test (byte_at s m) ≡ true

spans : (s : List ℕ) (test : ℕ → Bool) (n i : ℕ) → Spans s test n i (span_end s test n i)
unfolding span_end
spans s test zero i = record { ordered = omega arith; few = omega arith; each = λ m low high. absurd (omega arith) }
spans s test (suc n) i = by (test (byte_at s i)) refl (spans s test n (suc i))
  where
    by : (b : Bool) → test (byte_at s i) ≡ b → Spans s test n (suc i) (span_end s test n (suc i)) →
        Spans s test (suc n) i (cond b (span_end s test n (suc i)) i)
    by true passes rest =
        record {
          ordered = omega (arith, rest.ordered);
          few = omega (arith, rest.few);
          each = λ m low high. ⊎_elim (λ (e : i ≡ m). subst (λ (k : ℕ). test (byte_at s k) ≡ true) e passes) (λ later. rest.each m later high) (eq-or-lt_of_le low);
        }
    by false fails rest = record { ordered = omega arith; few = omega arith; each = λ m low high. absurd (omega arith) }

-- behind the blanks
unfoldable skip : List ℕ → ℕ → ℕ
unfolding span_end
skip s i = span_end s is_blank (length s) i

blanks : (s : List ℕ) (i : ℕ) → Blanks s i (skip s i)
unfolding skip
blanks s i = let its = spans s is_blank (length s) i in record { ordered = its.ordered; each = its.each }

-- Names

unfoldable word_end : List ℕ → ℕ → ℕ
unfolding span_end
word_end s i = span_end s is_word_byte most_letters i

unfoldable is_named : List ℕ → ℕ → Bool
unfolding word_end
is_named s i = ltb i (word_end s i) && is_letter (byte_at s i) && not (is_keyword (between s i (word_end s i)))

named : (s : List ℕ) (i : ℕ) → is_named s i ≡ true → Name s i (word_end s i)
unfolding is_named word_end
named s i test =
    let its = spans s is_word_byte most_letters i in
    let (front, plain) = both test in
    let (some, letter) = both front in
    let word = between s i (word_end s i) in
    let other : is_keyword word ≡ false = test_fails (is_keyword word) ((decides_not (decides_itself (is_keyword word))).holds plain) in
    record {
      some = ltb-true i (word_end s i) some;
      few = its.few;
      letter = letter;
      each = its.each;
      not_in = not_in word other;
      not_out = not_out word other;
    }

-- a name that stands at a, and those behind it
unfoldable next_names : (s : List ℕ) (a j : ℕ) (rest : ℕ → Found (List ℕ)) → Found (List ℕ)
unfolding skip continue
next_names s a j rest =
    cond (eqb (byte_at s (skip s j)) semicolon) (Found.up_to j (a ∷ [])) (continue (rest j) (λ k places. Found.up_to k (a ∷ places)))

unfoldable names_from : (s : List ℕ) (f i : ℕ) → Found (List ℕ)
unfolding skip is_named word_end provided next_names
names_from s zero i = Found.nothing
names_from s (suc f) i = provided (ltb i (skip s i) && is_named s (skip s i)) (next_names s (skip s i) (word_end s (skip s i)) (names_from s f))

names_stand : (s : List ℕ) (f i : ℕ) → Stands (Names s i) (names_from s f i)
unfolding names_from next_names
names_stand s zero i = Stands.none
names_stand s (suc f) i =
    provided_stands (ltb i (skip s i) && is_named s (skip s i)) (λ test.
    let (some, name) = both test in
    let gap : Gap s i (skip s i) = record { some = ltb-true i (skip s i) some; blanks = blanks s i } in
    either_stands (eqb (byte_at s (skip s (word_end s (skip s i)))) semicolon) (λ _. Stands.one (Names.one gap (named s (skip s i) name)))
    (continue_stands (names_stand s f (word_end s (skip s i))) (λ k places more. Stands.one (Names.more gap (named s (skip s i) name) more))))

-- Signs

sign_stands : (s : List ℕ) (sign i : ℕ) → eqb (byte_at s i) sign ≡ true → Sign s sign i (skip s (suc i))
sign_stands s sign i test = record { here = eqb-true (byte_at s i) sign test; blanks = blanks s (suc i) }

unfoldable line_from : (s keyword : List ℕ) (i : ℕ) → Found (List ℕ)
unfolding skip provided continue names_from
line_from s keyword i =
    provided (same_word (between s i (i + length keyword)) keyword) (continue (names_from s (length s) (i + length keyword))
    (λ j places. provided (eqb (byte_at s (skip s j)) semicolon) (Found.up_to (skip s (suc (skip s j))) places)))

line_stands : (s keyword : List ℕ) (i : ℕ) → Stands (Line s keyword i) (line_from s keyword i)
unfolding line_from
line_stands s keyword i =
    provided_stands (same_word (between s i (i + length keyword)) keyword) (λ word.
    continue_stands (names_stand s (length s) (i + length keyword)) (λ j places its.
    provided_stands (eqb (byte_at s (skip s j)) semicolon) (λ end.
    Stands.one (record {
      names_end = j;
      stop = skip s j;
      keyword_here = same_word_is _ keyword word;
      names = its;
      blanks = blanks s j;
      end = sign_stands s semicolon (skip s j) end;
    }))))

-- Expressions

-- operands with a sign between them, grouped to the left
unfoldable chain_from : (s : List ℕ) (sign : ℕ) (join : Tree → Tree → Tree) (operand : ℕ → Found Tree) (f : ℕ) → Found Tree → Found Tree
unfolding skip continue
chain_from s sign join operand zero x = Found.nothing
chain_from s sign join operand (suc f) x =
    continue x (λ i e. cond (eqb (byte_at s i) sign)
    (chain_from s sign join operand f (continue (operand (skip s (suc i))) (λ j g. Found.up_to j (join e g)))) (Found.up_to i e))

unfoldable term_from : (s : List ℕ) (factor : ℕ → Found Tree) (f i : ℕ) → Found Tree
unfolding chain_from
term_from s factor f i = chain_from s star Tree.and factor f (factor i)

unfoldable expression_from : (s : List ℕ) (factor : ℕ → Found Tree) (f i : ℕ) → Found Tree
unfolding chain_from term_from
expression_from s factor f i = chain_from s plus Tree.or (term_from s factor f) f (term_from s factor f i)

unfoldable bracket_from : (s : List ℕ) (inner : ℕ → ℕ → Found Tree) (n i : ℕ) → Found Tree
unfolding skip continue provided
bracket_from s inner zero i = Found.nothing
bracket_from s inner (suc m) i =
    continue (inner m (skip s (suc i))) (λ b e. provided (eqb (byte_at s b) closing) (Found.up_to (skip s (suc b)) e))

-- with n brackets left to be opened
unfoldable factor_from : (s : List ℕ) (f n i : ℕ) → Found Tree
unfolding skip continue provided is_named word_end expression_from bracket_from
factor_from s zero n i = Found.nothing
factor_from s (suc f) n i =
    cond (eqb (byte_at s i) bang) (continue (factor_from s f n (skip s (suc i))) (λ j e. Found.up_to j (Tree.not e)))
    (cond (eqb (byte_at s i) opening) (bracket_from s (λ m a. expression_from s (factor_from s f m) f a) n i)
    (provided (is_named s i) (Found.up_to (skip s (word_end s i)) (Tree.name i))))

-- what is read so far is what is wanted, once the rest has been read
abbrev Pending : (Rest : Tree → (i j : ℕ) → Tree → Type 0) (Whole : ℕ → Tree → Type 0) → ℕ → Tree → Type 0
Pending Rest Whole i e = (j : ℕ) (g : Tree) → Rest e i j g → Whole j g

module _ (s : List ℕ) (sign : ℕ) (join : Tree → Tree → Tree) (Part : (i j : ℕ) → Tree → Type 0) (Rest : Tree → (i j : ℕ) → Tree → Type 0)
    (none : (i : ℕ) (e : Tree) → Rest e i i e)
    (more : (i a b j : ℕ) (e f g : Tree) → Sign s sign i a → Part a b f → Rest (join e f) b j g → Rest e i j g)
    (operand : ℕ → Found Tree) (stands : (i : ℕ) → Stands (Part i) (operand i)) {Whole : ℕ → Tree → Type 0} where
  chain_stands : (f : ℕ) (x : Found Tree) → Stands (Pending Rest Whole) x → Stands Whole (chain_from s sign join operand f x)
  unfolding chain_from
  chain_stands zero x pending = Stands.none
  chain_stands (suc f) x pending =
      continue_stands pending (λ i e before.
      either_stands (eqb (byte_at s i) sign) (λ test.
      chain_stands f _ (continue_stands (stands (skip s (suc i))) (λ b g its.
      Stands.one (λ j h rest. before j h (more i (skip s (suc i)) b j e g h (sign_stands s sign i test) its rest)))))
      (Stands.one (before i e (none i e))))

module _ (s : List ℕ) (n : ℕ) (factor : ℕ → Found Tree) (stands : (i : ℕ) → Stands (Factor s n i) (factor i)) where
  term_stands : (f i : ℕ) → Stands (Term s n i) (term_from s factor f i)
  unfolding term_from
  term_stands f i =
      chain_stands s star Tree.and (Factor s n) (MoreFactors s n) (λ _ _. MoreFactors.no_factor)
      (λ _ _ _ _ _ _ _ sign its rest. MoreFactors.factor sign its rest) factor stands f (factor i)
      (stands_as (λ _ _ its _ _ rest. Term.factors its rest) (stands i))

  expression_stands : (f i : ℕ) → Stands (Expression s n i) (expression_from s factor f i)
  unfolding expression_from
  expression_stands f i =
      chain_stands s plus Tree.or (Term s n) (MoreTerms s n) (λ _ _. MoreTerms.no_term)
      (λ _ _ _ _ _ _ _ sign its rest. MoreTerms.term sign its rest) (term_from s factor f) (term_stands f) f (term_from s factor f i)
      (stands_as (λ _ _ its _ _ rest. Expression.terms its rest) (term_stands f i))

bracket_stands : (s : List ℕ) (inner : ℕ → ℕ → Found Tree) → ((m a : ℕ) → Stands (Expression s m a) (inner m a)) → (n i : ℕ) →
    eqb (byte_at s i) opening ≡ true → Stands (Factor s n i) (bracket_from s inner n i)
unfolding bracket_from
bracket_stands s inner stands zero i test = Stands.none
bracket_stands s inner stands (suc m) i test =
    continue_stands (stands m (skip s (suc i))) (λ b e its.
    provided_stands (eqb (byte_at s b) closing) (λ end.
    Stands.one (Factor.bracketed refl (sign_stands s opening i test) its (sign_stands s closing b end))))

factor_stands : (s : List ℕ) (f n i : ℕ) → Stands (Factor s n i) (factor_from s f n i)
unfolding factor_from
factor_stands s zero n i = Stands.none
factor_stands s (suc f) n i =
    either_stands (eqb (byte_at s i) bang) (λ test.
    continue_stands (factor_stands s f n (skip s (suc i))) (λ j e its. Stands.one (Factor.negated (sign_stands s bang i test) its)))
    (either_stands (eqb (byte_at s i) opening)
    (bracket_stands s _ (λ m a. expression_stands s m (factor_from s f m) (factor_stands s f m) f a) n i)
    (provided_stands (is_named s i) (λ test. Stands.one (Factor.named (named s i test) (blanks s (word_end s i))))))

-- Equations and the whole text

unfoldable equation_from : (s : List ℕ) (i : ℕ) → Found Tree
unfolding skip is_named word_end provided continue factor_from expression_from
equation_from s i =
    provided (is_named s i && eqb (byte_at s (skip s (word_end s i))) equals)
    (continue (expression_from s (factor_from s (length s) most_brackets) (length s) (skip s (suc (skip s (word_end s i)))))
    (λ stop e. provided (eqb (byte_at s stop) semicolon) (Found.up_to (skip s (suc stop)) e)))

equation_stands : (s : List ℕ) (i : ℕ) → Stands (Equates s i) (equation_from s i)
unfolding equation_from
equation_stands s i =
    provided_stands (is_named s i && eqb (byte_at s (skip s (word_end s i))) equals) (λ test.
    let (name, sign) = both test in
    continue_stands
    (expression_stands s most_brackets (factor_from s (length s) most_brackets) (factor_stands s (length s) most_brackets) (length s) (skip s (suc (skip s (word_end s i)))))
    (λ stop e its.
    provided_stands (eqb (byte_at s stop) semicolon) (λ end.
    Stands.one (record {
      name_end = word_end s i;
      sign = skip s (word_end s i);
      start = skip s (suc (skip s (word_end s i)));
      stop = stop;
      named = named s i name;
      blanks = blanks s (word_end s i);
      equals_sign = sign_stands s equals (skip s (word_end s i)) sign;
      expression = its;
      end = sign_stands s semicolon stop end;
    }))))

unfoldable equations_from : (s : List ℕ) (f i : ℕ) → Found (List Equation)
unfolding is_named continue equation_from
equations_from s zero i = Found.nothing
equations_from s (suc f) i =
    cond (is_named s i)
    (continue (equation_from s i) (λ a e. continue (equations_from s f a) (λ j rest. Found.up_to j (record { place = i; tree = e } ∷ rest))))
    (Found.up_to i [])

equations_stand : (s : List ℕ) (f i : ℕ) → Stands (Equations s i) (equations_from s f i)
unfolding equations_from
equations_stand s zero i = Stands.none
equations_stand s (suc f) i =
    either_stands (is_named s i) (λ _.
    continue_stands (equation_stands s i) (λ a e its.
    continue_stands (equations_stand s f a) (λ j rest more. Stands.one (Equations.more its more))))
    (Stands.one Equations.none)

unfoldable pub text_from : List ℕ → Found System
unfolding skip provided continue line_from equations_from
text_from s =
    continue (line_from s word_in (skip s 0)) (λ first ins.
    continue (equations_from s (length s) first) (λ last qs.
    continue (line_from s word_out last) (λ stop outs.
    provided (eqb stop (length s)) (Found.up_to stop (record { inputs = ins; equations = qs; outputs = outs })))))

pub text_stands : (s : List ℕ) → Stands (λ _ sys. WellFormed s sys) (text_from s)
unfolding text_from
text_stands s =
    continue_stands (line_stands s word_in (skip s 0)) (λ first ins line.
    continue_stands (equations_stand s (length s) first) (λ last qs its.
    continue_stands (line_stands s word_out last) (λ stop outs end.
    provided_stands (eqb stop (length s)) (λ whole.
    Stands.one (record {
      start = skip s 0;
      first = first;
      last = last;
      blanks = blanks s 0;
      inputs = line;
      equations = its;
      outputs = subst (λ (j : ℕ). Line s word_out last j outs) (eqb-true stop (length s) whole) end;
    })))))
