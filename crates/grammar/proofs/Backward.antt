-- Backward, for expressions: a run to the end that wants an operand has one in front of it, and goes on behind it. As the readers go: a factor is read by
-- its first byte, a term and an expression by the same loop over their sign. Each step is told for runs of at most f bytes and uses shorter ones.
use Prim.Native.Nat.{ℕ, zero, suc, ◌+◌, ◌-◌, ◌≤◌, ◌<◌}
use native.Mathlib.Omega.{arith}
use mathlib.Core.Path.{◌≡◌, refl, subst}
use mathlib.Core.Bool.{true}
use mathlib.Core.List.{List, [], ◌∷◌}
use Rattle.grammar.specs.paper.Text.{byte_at, bang, star, plus, opening, closing, semicolon, is_letter, most_brackets}
use Rattle.grammar.specs.paper.Grammar.{Tree, Blanks, Sign, Factor, MoreFactors, Term, MoreTerms, Expression}
use Rattle.grammar.specs.Machine.{State, move, Runs}
use Rattle.grammar.proofs.Runs.{run_forward, not_done}
use Rattle.grammar.proofs.Moves.{Place, Waits}
use Rattle.grammar.proofs.Inversions.{WantsMove, OperandMove, wants_cases, operand_cases}
use Rattle.grammar.proofs.Passing.{Skipped, skip, word_begun, operand_name}

-- What can stand behind an expression, behind a term, behind a factor, and how the run goes on there.
pub data ExpressionEnd (s : List ℕ) (end d i : ℕ) : Type 0 where
  closes : (m : ℕ) → d ≡ suc m → byte_at s i ≡ closing → Runs s (State.has m) (suc i) State.done end → ExpressionEnd s end d i
  ends : d ≡ 0 → byte_at s i ≡ semicolon → Runs s State.between_lines (suc i) State.done end → ExpressionEnd s end d i

-- the sign that wants one more operand, or something else
pub data SignOr (Other : ℕ → Type 0) (s : List ℕ) (end sign d i : ℕ) : Type 0 where
  again : byte_at s i ≡ sign → Runs s (State.wants d) (suc i) State.done end → SignOr Other s end sign d i
  other : Other i → SignOr Other s end sign d i

abbrev pub TermEnd : (s : List ℕ) (end d i : ℕ) → Type 0
TermEnd s end d i = SignOr (ExpressionEnd s end d) s end plus d i

abbrev pub FactorEnd : (s : List ℕ) (end d i : ℕ) → Type 0
FactorEnd s end d i = SignOr (TermEnd s end d) s end star d i

-- blanks, then one of these
record OperandEnd (s : List ℕ) (end d i : ℕ) : Type 0 where
  stop : ℕ
  blanks : Blanks s i stop
  follows : FactorEnd s end d stop

operand_ends : {s : List ℕ} {end d i : ℕ} → Runs s (State.has d) i State.done end → OperandEnd s end d i
unfolding move
operand_ends {s} {end} {d} {i} run =
    let skipped = skip run Waits.has (not_done (State.has d) refl) in
    record {
      stop = skipped.stop;
      blanks = skipped.blanks;
      follows = by_move skipped (operand_cases d (byte_at s skipped.stop) skipped.next skipped.no_blank skipped.moves);
    }
  where
    by_move : (skipped : Skipped s end (State.has d) i) → OperandMove d (byte_at s skipped.stop) skipped.next → FactorEnd s end d skipped.stop
    by_move skipped (OperandMove.times here is) = SignOr.again here (rw is at skipped.rest)
    by_move skipped (OperandMove.adds here is) = SignOr.other (SignOr.again here (rw is at skipped.rest))
    by_move skipped (OperandMove.closes here m e is) = SignOr.other (SignOr.other (ExpressionEnd.closes m e here (rw is at skipped.rest)))
    by_move skipped (OperandMove.ends here e is) = SignOr.other (SignOr.other (ExpressionEnd.ends e here (rw is at skipped.rest)))

-- What was read from a place on, behind blanks, and what follows it.
pub record Read (s : List ℕ) (Is : (i j : ℕ) → Tree → Type 0) (Follows : ℕ → Type 0) (i : ℕ) : Type 0 where
  pub start : ℕ
  pub stop : ℕ
  pub tree : Tree
  pub blanks : Blanks s i start
  pub is : Is start stop tree
  pub ahead : i < stop
  pub follows : Follows stop

-- What was read behind the first operand.
record Further (Is : (j : ℕ) → Tree → Type 0) (Follows : ℕ → Type 0) (i : ℕ) : Type 0 where
  stop : ℕ
  tree : Tree
  is : Is stop tree
  ahead : i ≤ stop
  follows : Follows stop

-- Operands with a sign between them, grouped to the left: a term of factors, an expression of terms.
record Chained (s : List ℕ) (sign : ℕ) (Part Whole : (n i j : ℕ) → Tree → Type 0) : Type 1 where
  Rest : (n : ℕ) (read : Tree) (i j : ℕ) → Tree → Type 0
  join : Tree → Tree → Tree
  none : (n i : ℕ) (e : Tree) → Rest n e i i e
  more : (n i a b j : ℕ) (e f g : Tree) → Sign s sign i a → Part n a b f → Rest n (join e f) b j g → Rest n e i j g
  all : (n i a j : ℕ) (e f : Tree) → Part n i a e → Rest n e a j f → Whole n i j f

factors_chained : (s : List ℕ) → Chained s star (Factor s) (Term s)
factors_chained s =
    record {
      Rest = MoreFactors s;
      join = Tree.and;
      none = λ n i e. MoreFactors.no_factor;
      more = λ n i a b j e f g here part rest. MoreFactors.factor here part rest;
      all = λ n i a j e f part rest. Term.factors part rest;
    }

terms_chained : (s : List ℕ) → Chained s plus (Term s) (Expression s)
terms_chained s =
    record {
      Rest = MoreTerms s;
      join = Tree.or;
      none = λ n i e. MoreTerms.no_term;
      more = λ n i a b j e f g here part rest. MoreTerms.term here part rest;
      all = λ n i a j e f part rest. Expression.terms part rest;
    }

-- each run of at most f bytes has one in front
abbrev Reads : (s : List ℕ) (end : ℕ) (Is : (n i j : ℕ) → Tree → Type 0) (Follows : (d i : ℕ) → Type 0) (f : ℕ) → Type 0
Reads s end Is Follows f = (d n i : ℕ) → d + n ≡ most_brackets → end ≤ i + f → Runs s (State.wants d) i State.done end → Read s (Is n) (Follows d) i

module _ {s : List ℕ} {end sign : ℕ} {Part Whole : (n i j : ℕ) → Tree → Type 0} {Follows : (d i : ℕ) → Type 0} (chained : Chained s sign Part Whole)
    (f : ℕ) (reads : Reads s end Part (λ d. SignOr (Follows d) s end sign d) f) where
  rest_read : (g d n i : ℕ) (e : Tree) → d + n ≡ most_brackets → end ≤ i + f → end ≤ i + g → SignOr (Follows d) s end sign d i →
      Further (chained.Rest n e i) (Follows d) i
  rest_read zero d n i e sum short fuel (SignOr.other follows) =
      record { stop = i; tree = e; is = chained.none n i e; ahead = omega arith; follows = follows }
  rest_read zero d n i e sum short fuel (SignOr.again here run) = absurd (omega (arith, run_forward run))
  rest_read (suc g) d n i e sum short fuel (SignOr.other follows) =
      record { stop = i; tree = e; is = chained.none n i e; ahead = omega arith; follows = follows }
  rest_read (suc g) d n i e sum short fuel (SignOr.again here run) =
      let read = reads d n (suc i) sum (omega arith) run in
      let ahead : suc i < read.stop = read.ahead in
      let rest = rest_read g d n read.stop (chained.join e read.tree) sum (omega arith) (omega arith) read.follows in
      let further : read.stop ≤ rest.stop = rest.ahead in
      record {
        stop = rest.stop;
        tree = rest.tree;
        is =
            chained.more n i read.start read.stop rest.stop e read.tree rest.tree (record { here = here; blanks = read.blanks }) read.is
            rest.is;
        ahead = omega arith;
        follows = rest.follows;
      }

  whole_read : Reads s end Whole Follows f
  whole_read d n i sum short run =
      let read = reads d n i sum short run in
      let ahead : i < read.stop = read.ahead in
      let rest = rest_read f d n read.stop read.tree sum (omega arith) (omega arith) read.follows in
      let further : read.stop ≤ rest.stop = rest.ahead in
      record {
        start = read.start;
        stop = rest.stop;
        tree = rest.tree;
        blanks = read.blanks;
        is = chained.all n read.start read.stop rest.stop read.tree rest.tree read.is rest.is;
        ahead = omega arith;
        follows = rest.follows;
      }

module _ (s : List ℕ) (end : ℕ) where
  expressions_read : (f : ℕ) → Reads s end (Factor s) (FactorEnd s end) f → Reads s end (Expression s) (ExpressionEnd s end) f
  expressions_read f reads =
      whole_read {Follows = ExpressionEnd s end} (terms_chained s) f (whole_read {Follows = TermEnd s end} (factors_chained s) f reads)

  -- a factor by its first byte
  negated_read : (d n i : ℕ) (skipped : Skipped s end (State.wants d) i) → byte_at s skipped.stop ≡ bang →
      Read s (Factor s n) (FactorEnd s end d) (suc skipped.stop) → Read s (Factor s n) (FactorEnd s end d) i
  negated_read d n i skipped here read =
      record {
        start = skipped.stop;
        stop = read.stop;
        tree = Tree.not read.tree;
        blanks = skipped.blanks;
        is = Factor.negated (record { here = here; blanks = read.blanks }) read.is;
        ahead = omega (arith, read.ahead, skipped.blanks.ordered);
        follows = read.follows;
      }

  bracketed_read : (d n m i : ℕ) (skipped : Skipped s end (State.wants d) i) → n ≡ suc m → byte_at s skipped.stop ≡ opening →
      Read s (Expression s m) (ExpressionEnd s end (suc d)) (suc skipped.stop) → Read s (Factor s n) (FactorEnd s end d) i
  bracketed_read d n m i skipped more here read = by_end read.follows
    where
      by_end : ExpressionEnd s end (suc d) read.stop → Read s (Factor s n) (FactorEnd s end d) i
      by_end (ExpressionEnd.ends none closed run) = absurd (omega arith)
      by_end (ExpressionEnd.closes k e closed run) =
          let same : k ≡ d = omega arith in
          let behind = operand_ends (subst (λ x. Runs s (State.has x) (suc read.stop) State.done end) same run) in
          record {
            start = skipped.stop;
            stop = behind.stop;
            tree = read.tree;
            blanks = skipped.blanks;
            is =
                Factor.bracketed more (record { here = here; blanks = read.blanks }) read.is (record { here = closed; blanks = behind.blanks });
            ahead = omega (arith, read.ahead, skipped.blanks.ordered, behind.blanks.ordered);
            follows = behind.follows;
          }

  named_read : (d n i : ℕ) (skipped : Skipped s end (State.wants d) i) → is_letter (byte_at s skipped.stop) ≡ true →
      skipped.next ≡ State.used d (byte_at s skipped.stop ∷ []) → Read s (Factor s n) (FactorEnd s end d) i
  named_read d n i skipped letter is =
      let read = operand_name (word_begun (Place.operand d) skipped.inside letter is skipped.rest) in
      let behind = operand_ends read.rest in
      record {
        start = skipped.stop;
        stop = behind.stop;
        tree = Tree.name skipped.stop;
        blanks = skipped.blanks;
        is = Factor.named read.name behind.blanks;
        ahead = omega (arith, read.name.some, skipped.blanks.ordered, behind.blanks.ordered);
        follows = behind.follows;
      }

  factors_read : (f : ℕ) → Reads s end (Factor s) (FactorEnd s end) f
  factors_read zero d n i sum short run =
      let skipped = skip run Waits.wants (not_done (State.wants d) refl) in
      absurd (omega (arith, skipped.blanks.ordered, run_forward skipped.rest))
  factors_read (suc f) d n i sum short run =
      let skipped = skip run Waits.wants (not_done (State.wants d) refl) in
      by_move skipped (λ m i' sum' short' run'. factors_read f d m i' sum' short' run')
      (λ m i' sum' short' run'. expressions_read f (λ d'' m'' i'' sum'' short'' run''. factors_read f d'' m'' i'' sum'' short'' run'') (suc d) m i' sum' short' run')
      (wants_cases d (byte_at s skipped.stop) skipped.next skipped.no_blank skipped.moves)
    where
      by_move : (skipped : Skipped s end (State.wants d) i) →
          ((m i' : ℕ) → d + m ≡ most_brackets → end ≤ i' + f → Runs s (State.wants d) i' State.done end → Read s (Factor s m) (FactorEnd s end d) i') →
          ((m i' : ℕ) → suc d + m ≡ most_brackets → end ≤ i' + f → Runs s (State.wants (suc d)) i' State.done end →
          Read s (Expression s m) (ExpressionEnd s end (suc d)) i') →
          WantsMove d (byte_at s skipped.stop) skipped.next → Read s (Factor s n) (FactorEnd s end d) i
      by_move skipped factor expression (WantsMove.negates here is) =
          let low : i ≤ skipped.stop = skipped.blanks.ordered in
          negated_read d n i skipped here (factor n (suc skipped.stop) sum (omega arith) (rw is at skipped.rest))
      by_move skipped factor expression (WantsMove.opens here room is) =
          let low : i ≤ skipped.stop = skipped.blanks.ordered in
          bracketed_read d n (n - 1) i skipped (omega arith) here
          (expression (n - 1) (suc skipped.stop) (omega arith) (omega arith) (rw is at skipped.rest))
      by_move skipped factor expression (WantsMove.begins letter is) = named_read d n i skipped letter is

  -- an expression in front of any run to the end
  pub expression_read : (d n i : ℕ) → d + n ≡ most_brackets → Runs s (State.wants d) i State.done end → Read s (Expression s n) (ExpressionEnd s end d) i
  expression_read d n i sum run = expressions_read end (factors_read end) d n i sum (omega arith) run
