-- The three readers of expressions meet their contracts: an operand is read, and then, while the sign stands, another.
use native.Mathlib.Omega.{arith}
use mathlib.Core.Path.{sym, ◌∙◌}
use Rattle.scanning.proofs.Exits.{goes_on}
use Rattle.scanning.proofs.Factors.{too_deep, inside_stops, bracket_answer, name_answer}
use Rattle.scanning.proofs.Chains.{conjunction, disjunction, chain_asked, chain_stops, chain_low, chain_room, chain_more, got_as}
use Rattle.scanning.proofs.Chains.{term_begins, term_grows, term_ends, expression_begins, expression_grows, expression_ends}
use Rattle.scanning.proofs.expressions.+expression_factor_term.Goals as goal

pub expression-term-requires-in-loop-start : goal.expression-term-requires-in-loop-start
expression-term-requires-in-loop-start t c =
    let got = c.loop-start.invariant.1 c.args.gates.now (got_as (λ e read. expression_begins read) c.in_ok-left.ensures) in
    let sign = sym c.byte_at.ensures ∙ c.loop-start-test.true in
    (omega arith, chain_asked disjunction got sign c.skip_blanks-start.ensures c.requires)

pub expression-returns-in_err-right : goal.expression-returns-in_err-right
expression-returns-in_err-right t c =
    let got = c.loop-start.invariant.1 c.args.gates.now (got_as (λ e read. expression_begins read) c.in_ok-left.ensures) in
    let sign = sym c.byte_at.ensures ∙ c.loop-start-test.true in
    rw (goes_on c.from_residual-in_err-right.ensures.1) (chain_stops disjunction got sign c.skip_blanks-start.ensures c.in_err-right.ensures)

pub expression-put_gate-left-requires : goal.expression-put_gate-left-requires
expression-put_gate-left-requires t c =
    let got = c.loop-start.invariant.1 c.args.gates.now (got_as (λ e read. expression_begins read) c.in_ok-left.ensures) in
    let sign = sym c.byte_at.ensures ∙ c.loop-start-test.true in
    let next = c.in_ok-right.ensures in
    (chain_low disjunction got sign c.skip_blanks-start.ensures next c.requires, chain_room disjunction got sign c.skip_blanks-start.ensures next c.requires)

pub expression-loop-start-preserved : goal.expression-loop-start-preserved
expression-loop-start-preserved t c = (
  c.put_gate-left.auto.gates ∙ c.term-in-loop-start.auto.gates ∙ c.loop-start.invariant.0,
  λ before first.
      chain_more disjunction (c.loop-start.invariant.1 before first) (sym c.byte_at.ensures ∙ c.loop-start-test.true)
      c.skip_blanks-start.ensures c.in_ok-right.ensures (λ j e f so_far sign read. expression_grows so_far sign read)
      c.put_gate-left.ensures,
)

pub expression-returns : goal.expression-returns
expression-returns t c =
    let got = c.loop-start.invariant.1 c.args.gates.now (got_as (λ e read. expression_begins read) c.in_ok-left.ensures) in
    got_as (λ e so_far. expression_ends (λ sign. c.loop-start-test.false (c.byte_at.ensures ∙ sign)) so_far) got

pub factor-returns-then-nesting-eq0 : goal.factor-returns-then-nesting-eq0
factor-returns-then-nesting-eq0 t c =
    too_deep c.requires c.skip_bangs-bangs.ensures (sym c.byte_at.ensures ∙ c.if-byte_at-ne-OPENING.false) c.if-nesting-eq0.true

pub factor-returns-in_err-inner : goal.factor-returns-in_err-inner
factor-returns-in_err-inner t c =
    rw (goes_on c.from_residual.ensures.1)
    (inside_stops c.requires c.skip_bangs-bangs.ensures (sym c.byte_at.ensures ∙ c.if-byte_at-ne-OPENING.false) c.if-nesting-eq0.false c.skip_blanks-inside.ensures c.in_err-inner.ensures)

pub factor-returns : goal.factor-returns
factor-returns t c =
    bracket_answer c.requires c.skip_bangs-bangs.ensures (sym c.byte_at.ensures ∙ c.if-byte_at-ne-OPENING.false) c.if-nesting-eq0.false c.skip_blanks-inside.ensures c.in_ok-inner.ensures _
    c.close_bracket.result c.close_bracket.ensures

pub factor-returns-then-byte_at-ne-OPENING : goal.factor-returns-then-byte_at-ne-OPENING
factor-returns-then-byte_at-ne-OPENING t c =
    name_answer c.requires c.skip_bangs-bangs.ensures (λ e. c.if-byte_at-ne-OPENING.true (c.byte_at.ensures ∙ e)) _
    c.name_operand.result c.name_operand.ensures

pub term-factor-requires-in-loop-start : goal.term-factor-requires-in-loop-start
term-factor-requires-in-loop-start t c =
    let got = c.loop-start.invariant.1 c.args.gates.now (got_as (λ e read. term_begins read) c.in_ok-left.ensures) in
    let sign = sym c.byte_at.ensures ∙ c.loop-start-test.true in
    (omega arith, chain_asked conjunction got sign c.skip_blanks-start.ensures c.requires)

pub term-returns-in_err-right : goal.term-returns-in_err-right
term-returns-in_err-right t c =
    let got = c.loop-start.invariant.1 c.args.gates.now (got_as (λ e read. term_begins read) c.in_ok-left.ensures) in
    let sign = sym c.byte_at.ensures ∙ c.loop-start-test.true in
    rw (goes_on c.from_residual-in_err-right.ensures.1) (chain_stops conjunction got sign c.skip_blanks-start.ensures c.in_err-right.ensures)

pub term-put_gate-left-requires : goal.term-put_gate-left-requires
term-put_gate-left-requires t c =
    let got = c.loop-start.invariant.1 c.args.gates.now (got_as (λ e read. term_begins read) c.in_ok-left.ensures) in
    let sign = sym c.byte_at.ensures ∙ c.loop-start-test.true in
    let next = c.in_ok-right.ensures in
    (chain_low conjunction got sign c.skip_blanks-start.ensures next c.requires, chain_room conjunction got sign c.skip_blanks-start.ensures next c.requires)

pub term-loop-start-preserved : goal.term-loop-start-preserved
term-loop-start-preserved t c = (
  c.put_gate-left.auto.gates ∙ c.factor-in-loop-start.auto.gates ∙ c.loop-start.invariant.0,
  λ before first.
      chain_more conjunction (c.loop-start.invariant.1 before first) (sym c.byte_at.ensures ∙ c.loop-start-test.true)
      c.skip_blanks-start.ensures c.in_ok-right.ensures (λ j e f so_far sign read. term_grows so_far sign read)
      c.put_gate-left.ensures,
)

pub term-returns : goal.term-returns
term-returns t c =
    let got = c.loop-start.invariant.1 c.args.gates.now (got_as (λ e read. term_begins read) c.in_ok-left.ensures) in
    got_as (λ e so_far. term_ends (λ sign. c.loop-start-test.false (c.byte_at.ensures ∙ sign)) so_far) got
