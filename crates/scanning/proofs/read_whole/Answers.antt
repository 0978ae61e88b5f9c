-- `read_whole` meets its contract: blanks, `in`, and the rest.
use mathlib.Core.Path.{sym, ◌∙◌}
use Rattle.scanning.proofs.WholeTexts.{no_i, no_n, whole_text}
use Rattle.scanning.proofs.read_whole.Goals as goal

pub returns-then-byte_at-ne-LETTER_I : goal.returns-then-byte_at-ne-LETTER_I
returns-then-byte_at-ne-LETTER_I c = no_i c.skip_blanks-at.ensures (λ e. c.if-byte_at-ne-LETTER_I.true (c.byte_at.ensures ∙ e))

pub returns-then-byte_at-ne-LETTER_N : goal.returns-then-byte_at-ne-LETTER_N
returns-then-byte_at-ne-LETTER_N c =
    no_n c.skip_blanks-at.ensures
    (sym c.byte_at.ensures ∙ c.if-byte_at-ne-LETTER_I.false)
    (λ e. c.if-byte_at-ne-LETTER_N.true (c.byte_at-2.ensures ∙ e))

pub returns : goal.returns
returns c =
    let first = sym c.byte_at.ensures ∙ c.if-byte_at-ne-LETTER_I.false in
    let second = sym c.byte_at-2.ensures ∙ c.if-byte_at-ne-LETTER_N.false in
    whole_text c.args.gates.now c.args.names.now c.read_inputs.new.gates
    c.read_inputs.new.names c.read_inputs.result
    c.skip_blanks-at.ensures first second c.read_inputs.ensures
