-- `word_end` meets its contract: all before `end` are letters and digits.
use native.Mathlib.Omega.{arith}
use Rattle.std.specs.Prelude.{◌≡◌, ◌<◌, true, length}
use mathlib.Core.Path.{sym, ◌∙◌, ap}
use Rattle.grammar.specs.paper.Text.{byte_at, is_word_byte}
use Rattle.grammar.proofs.Bytes.{word_byte_within}
use Rattle.std.proofs.Common.{rules}
use Rattle.spelling.proofs.word_end.Goals as goal

pub loop-end-preserved : goal.loop-end-preserved
loop-end-preserved c =
    let s = c.args.text.now in
    let end = c.loop-end.end in
    let here : is_word_byte (byte_at s end) ≡ true = ap is_word_byte (sym c.byte_at.ensures) ∙ sym c.is_word_byte.ensures ∙ c.if-not-is_word_byte.false in
    let low : end < length s = word_byte_within s end here in
    (omega arith, search rules)
