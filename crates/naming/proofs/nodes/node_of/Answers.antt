-- `node_of` meets its contract: what the names from here on say is what all of them do.
use Prim.Native.Nat.{ℕ, ◌+◌, ◌-◌}
use native.Mathlib.Omega.{arith}
use mathlib.Core.Path.{◌≡◌, ap, sym, ◌∙◌}
use mathlib.Core.Bool.{true, false}
use Rattle.grammar.specs.paper.Text.{word_at, same_word}
use Rattle.naming.specs.Stored.{place_in, node_from}
use Rattle.naming.proofs.NodesNamed.{node_none, node_found, node_later}
use Rattle.naming.proofs.nodes.node_of.Goals as goal

pub loop-i-init : goal.loop-i-init
loop-i-init c =
    let a = c.args in
    let all : a.equations.counts.definitions ≡ a.equations.counts.definitions - 0 = omega arith in
    ap (λ (n : ℕ). node_from a.equations.text.now a.equations.names.now 0 n (word_at a.equations.text.now a.place)) all

pub returns-then-same_word : goal.returns-then-same_word
returns-then-same_word c =
    let a = c.args in
    let s = a.equations.text.now in
    let i = c.loop-i.i in
    let test : same_word (word_at s (place_in a.equations.names.now i)) (word_at s a.place) ≡ true =
    ap (λ (p : ℕ). same_word (word_at s p) (word_at s a.place)) (sym c.place_at.ensures)
    ∙ sym c.same_word.ensures
    ∙ c.if-same_word.true in
    c.node_at.ensures
    ∙ sym
    (c.loop-i.invariant
    ∙ node_found s a.equations.names.now i (a.equations.counts.definitions - i) (word_at s a.place) (omega arith) test)

pub loop-i-preserved : goal.loop-i-preserved
loop-i-preserved c =
    let a = c.args in
    let s = a.equations.text.now in
    let i = c.loop-i.i in
    let w = word_at s a.place in
    let test : same_word (word_at s (place_in a.equations.names.now i)) w ≡ false =
    ap (λ (p : ℕ). same_word (word_at s p) w) (sym c.place_at.ensures)
    ∙ sym c.same_word.ensures
    ∙ c.if-same_word.false in
    let less : a.equations.counts.definitions - i - 1 ≡ a.equations.counts.definitions - (i + 1) = omega arith in
    c.loop-i.invariant
    ∙ node_later s a.equations.names.now i (a.equations.counts.definitions - i) w (omega arith) test
    ∙ ap (λ (n : ℕ). node_from s a.equations.names.now (i + 1) n w) less

pub returns : goal.returns
returns c =
    let l = c.loop-i in
    let a = c.args in
    sym
    (l.invariant
    ∙ node_none a.equations.text.now a.equations.names.now l.i (a.equations.counts.definitions - l.i) (word_at a.equations.text.now a.place)
    (omega arith))
