-- Operands with signs between them: factors with `*`, terms with `+`. The two are told once, over what an operator is.
use Prim.Native.Nat.{ℕ, suc, ◌+◌, ◌*◌, ◌≤◌, ◌<◌}
use native.Mathlib.Omega.{arith}
use mathlib.Core.Path.{◌≡◌, refl, sym, ap, subst, ◌∙◌}
use mathlib.Core.Bool.{false}
use mathlib.Core.List.{List, ◌++◌}
use lib.ListN.{length, take, length-append}
use lib.Seq.{sets, take-take}
use Rattle.grammar.specs.paper.Text.{byte_at, star, plus, is_blank, most_text}
use Rattle.grammar.specs.paper.Grammar.{Tree, Factor, MoreFactors, Term, MoreTerms, Expression, Sign}
use Rattle.grammar.specs.paper.Gates.{size_of, and_table, or_table}
use Rattle.grammar.specs.Machine.{State, Move, behind_operand, Runs}
use Rattle.grammar.specs.Stored.{operand_of, triple, triples}
use Rattle.grammar.proofs.Stored.{triples_size}
use Rattle.grammar.proofs.Bytes.{sign_within}
use Rattle.grammar.proofs.Stops.{halts_then}
use Rattle.spelling.specs.Spelling.{Skipped}
use Rattle.scanning.specs.declared.expressions.Piece.{Piece}
use Rattle.scanning.specs.Reading.{
  opened,
  Asked,
  Holds,
  Behind,
  Got,
  Stops,
  Joined,
  WholeTerm,
  WholeExpression,
  OpenTerm,
  OpenExpression,
}
use Rattle.scanning.proofs.Holding.{stored_more, held_size, held_front}
use Rattle.scanning.proofs.Ends.{sign_of, behind_run, sign_leads}

-- What an operator's sign, table and tree have in common: where the sign leads, and the gates of the tree.
pub record Operator (sign table : ℕ) (join : Tree → Tree → Tree) : Type 0 where
  pub some : 0 < sign
  pub leads : (d : ℕ) → behind_operand d sign ≡ Move.to (State.wants d)
  pub size : (e f : Tree) → size_of (join e f) ≡ suc (size_of e + size_of f)
  pub operand : (made : ℕ) (e f : Tree) → operand_of made (join e f) ≡ most_text + (made + (size_of e + size_of f))
  pub gates : (made : ℕ) (e f : Tree) →
      triples made (join e f) ≡ triples made e ++ triples (made + size_of e) f ++ triple table (operand_of made e) (operand_of (made + size_of e) f)

pub conjunction : Operator star and_table Tree.and
unfolding size_of operand_of triples behind_operand is_blank
conjunction =
    record { some = omega arith; leads = λ d. refl; size = λ e f. refl; operand = λ made e f. refl; gates = λ made e f. refl }

pub disjunction : Operator plus or_table Tree.or
unfolding size_of operand_of triples behind_operand is_blank
disjunction =
    record { some = omega arith; leads = λ d. refl; size = λ e f. refl; operand = λ made e f. refl; gates = λ made e f. refl }

-- the gate of an operator behind those of its operands
pub holds_join :
    {sign table : ℕ} {join : Tree → Tree → Tree} → Operator sign table join →
    {from before middle after : List ℕ} {made : ℕ} {e f : Tree} {left right r : Piece} → Holds from made e before left →
    Holds before left.made f middle right → Joined table left.operand right middle after r → Holds from made (join e f) after r
holds_join {table = table} {join = join} o {from} {before} {middle} {after} {made} {e} {f} {left} {right} {r} h k j =
    let lefts = triples made e in
    let rights = triples (made + size_of e) f in
    let gate = triple table (operand_of made e) (operand_of (made + size_of e) f) in
    let same_left : left.made ≡ made + size_of e = h.count in
    let second : middle ≡ sets before (3 * left.made) rights =
    k.stored ∙ ap (λ (m : ℕ). sets before (3 * left.made) (triples m f)) same_left in
    let both : middle ≡ sets from (3 * made) (lefts ++ rights) =
    stored_more from (3 * made) (3 * left.made) lefts rights h.stored (omega (arith, triples_size made e)) second in
    let third : after ≡ sets middle (3 * right.made) gate =
    j.stored
    ∙ ap (λ (x : ℕ). sets middle (3 * right.made) (triple table x right.operand)) h.operand
    ∙ ap (λ (x : ℕ). sets middle (3 * right.made) (triple table (operand_of made e) x))
    (k.operand ∙ ap (λ (m : ℕ). operand_of m f) same_left) in
    let place : 3 * right.made ≡ 3 * made + length (lefts ++ rights) =
    omega (arith, length-append lefts rights, triples_size made e, triples_size (made + size_of e) f, k.count) in
    record {
      stored = stored_more from (3 * made) (3 * right.made) (lefts ++ rights) gate both place third
          ∙ ap (sets from (3 * made)) (sym (o.gates made e f));
      operand = j.operand ∙ omega (arith, k.count, o.operand made e f);
      count = omega (arith, j.made, k.count, o.size e f);
    }

-- a front of a front that is the same
shorter_front : (m k : ℕ) (l l' : List ℕ) → m ≤ k → take (3 * k) l ≡ take (3 * k) l' → take (3 * m) l ≡ take (3 * m) l'
shorter_front m k l l' less e = sym (take-take (3 * m) (3 * k) l (omega arith)) ∙ ap (take (3 * m)) e ∙ take-take (3 * m) (3 * k) l' (omega arith)

-- Open is what was read so far, D an operand.
module _ {sign table : ℕ} {join : Tree → Tree → Tree} (o : Operator sign table join) {s : List ℕ} {n at : ℕ}
    {Open : ℕ → Tree → Type 0} {before : List ℕ} {made : ℕ} {gates : List ℕ} {left : Piece}
    (got : Got s Open n at before made gates left) (here : byte_at s left.next ≡ sign) where
  pub chain_inside : left.next < length s
  chain_inside = sign_within s left.next sign o.some here

  module _ {start : ℕ} (skipped : Skipped s (left.next + 1) start) where
    ahead : left.next + 1 ≤ start
    ahead = skipped.blanks.ordered

    here_sign : Sign s sign left.next start
    here_sign = sign_of here skipped

    leads : Runs s (State.wants (opened n)) at (State.wants (opened n)) start
    leads = sign_leads sign o.some (o.leads (opened n)) got.behind here_sign

    pub chain_asked : Asked s n at before made → Asked s n start gates left.made
    chain_asked asked =
        let inside = chain_inside in
        record {
          nested = asked.nested;
          text = asked.text;
          within = skipped.within (omega arith);
          starts = skipped.ends;
          few = omega (arith, ahead, got.slow, asked.few);
          room = omega (arith, asked.room, held_size got.holds);
        }

    pub chain_stops : {after : List ℕ} {p : ℕ} → Stops s n start gates left.made after p → Stops s n at before made after p
    chain_stops {after} {p} stops =
        record {
          halts = halts_then leads stops.halts;
          within = stops.within;
          front = shorter_front made left.made after gates (omega (arith, got.holds.count)) stops.front ∙ held_front got.holds;
        }

    module _ {D : ℕ → Tree → Type 0} {middle : List ℕ} {right : Piece} (next : Got s D n start gates left.made middle right) where
      pub chain_low : Asked s n at before made → right.made < most_text
      chain_low asked = omega (arith, ahead, next.slow, next.within, got.slow, asked.few, asked.text)

      pub chain_room : Asked s n at before made → 3 * most_text ≤ length middle
      chain_room asked = omega (arith, asked.room, held_size got.holds, held_size next.holds)

      pub chain_more : ((j : ℕ) (e f : Tree) → Open left.next e → Sign s sign left.next start → D j f → Open j (join e f)) →
          {after : List ℕ} {r : Piece} → Joined table left.operand right middle after r → Got s Open n at before made after r
      chain_more grow {after} {r} joined =
          let same = joined.next in
          let at_end = sym joined.next in
          record {
            tree = join got.tree next.tree;
            derived = subst (λ (k : ℕ). Open k (join got.tree next.tree)) at_end (grow _ _ _ got.derived here_sign next.derived);
            holds = holds_join o got.holds next.holds joined;
            slow = omega (arith, ahead, joined.made, next.slow, got.slow);
            moved = omega (arith, ahead, next.moved, got.moved);
            within = omega (arith, next.within);
            ends = subst (λ (k : ℕ). is_blank (byte_at s k) ≡ false) at_end next.ends;
            behind = subst (λ (k : ℕ). Behind s (opened n) at k) at_end (behind_run leads next.behind);
          }

-- another derivation of the same tree
pub got_as : {s : List ℕ} {D E : ℕ → Tree → Type 0} {n at : ℕ} {before : List ℕ} {made : ℕ} {after : List ℕ} {r : Piece} →
    ((e : Tree) → D r.next e → E r.next e) → Got s D n at before made after r → Got s E n at before made after r
got_as change got =
    record {
      tree = got.tree;
      derived = change got.tree got.derived;
      holds = got.holds;
      slow = got.slow;
      moved = got.moved;
      within = got.within;
      ends = got.ends;
      behind = got.behind;
    }

module _ {s : List ℕ} {n i : ℕ} where
  -- terms
  pub term_begins : {j : ℕ} {e : Tree} → Factor s n i j e → OpenTerm s n i j e
  term_begins factor = record { goes_on = λ k f more. Term.factors factor more }

  pub term_grows : {j a k : ℕ} {e f : Tree} → OpenTerm s n i j e → Sign s star j a → Factor s n a k f → OpenTerm s n i k (Tree.and e f)
  term_grows so_far sign factor = record { goes_on = λ l g more. so_far.goes_on l g (MoreFactors.factor sign factor more) }

  pub term_ends : {j : ℕ} {e : Tree} → (byte_at s j ≡ star → ⊥) → OpenTerm s n i j e → WholeTerm s n i j e
  term_ends {j} {e} no_star so_far = record { derived = so_far.goes_on j e MoreFactors.no_factor; no_star = no_star }

  -- expressions
  pub expression_begins : {j : ℕ} {e : Tree} → WholeTerm s n i j e → OpenExpression s n i j e
  expression_begins term = record { goes_on = λ k f more. Expression.terms term.derived more; no_star = term.no_star }

  pub expression_grows : {j a k : ℕ} {e f : Tree} → OpenExpression s n i j e → Sign s plus j a → WholeTerm s n a k f →
      OpenExpression s n i k (Tree.or e f)
  expression_grows so_far sign term =
      record { goes_on = λ l g more. so_far.goes_on l g (MoreTerms.term sign term.derived more); no_star = term.no_star }

  pub expression_ends : {j : ℕ} {e : Tree} → (byte_at s j ≡ plus → ⊥) → OpenExpression s n i j e → WholeExpression s n i j e
  expression_ends {j} {e} no_plus so_far =
      record { derived = so_far.goes_on j e MoreTerms.no_term; no_star = so_far.no_star; no_plus = no_plus }
