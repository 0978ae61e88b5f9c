-- `is_among` meets its contract: none of the names passed has the word.
use native.Mathlib.Omega.{arith}
use mathlib.Core.Path.{◌≡◌, ap, sym, ◌∙◌}
use mathlib.Core.Bool.{true, false, true≢false, false≢true}
use borrow.Author.Count.{below_more}
use Rattle.grammar.specs.paper.Text.{word_at, same_word}
use Rattle.naming.specs.Stored.{place_in}
use Rattle.grammar.proofs.Bytes.{same_word_is}
use Rattle.naming.proofs.Alike.{same_fails, same_turned}
use Rattle.naming.proofs.checks.is_among.Goals as goal

pub loop-i-init : goal.loop-i-init
loop-i-init c = λ k low. absurd (omega arith)

pub returns-then-is_word_at : goal.returns-then-is_word_at
returns-then-is_word_at c =
    let a = c.args in
    let s = a.equations.text.now in
    let i = c.loop-i.i in
    let here : place_in a.equations.names.now i ≡ c.place_at.result =
    sym c.place_at.ensures in
    let test : same_word (word_at s c.place_at.result) (word_at s a.place) ≡ true =
    same_turned (word_at s c.place_at.result) (word_at s a.place) ∙ sym c.is_word_at.ensures ∙ c.if-is_word_at.true in
    record {
      yes = λ e. record {
        index = i;
        low = omega arith;
        same =
            ap (word_at s) here ∙ same_word_is (word_at s c.place_at.result) (word_at s a.place) test;
      };
      no = λ e. absurd (true≢false e);
    }

pub loop-i-preserved : goal.loop-i-preserved
loop-i-preserved c =
    let a = c.args in
    let s = a.equations.text.now in
    let here : c.place_at.result ≡ place_in a.equations.names.now c.loop-i.i =
    c.place_at.ensures in
    let test : same_word (word_at s c.place_at.result) (word_at s a.place) ≡ false =
    same_turned (word_at s c.place_at.result) (word_at s a.place) ∙ sym c.is_word_at.ensures ∙ c.if-is_word_at.false in
    below_more _ _ c.loop-i.invariant (λ same. same_fails test (ap (word_at s) here ∙ same))

pub returns : goal.returns
returns c =
    let l = c.loop-i in
    record {
      yes = λ e. absurd (false≢true e);
      no = λ e among. l.invariant among.index (omega (arith, among.low)) among.same;
    }
