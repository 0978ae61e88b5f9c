-- `in_word` meets its contract.
use mathlib.Core.Path.{ap, ◌∙◌}
use Rattle.grammar.specs.paper.Text.{is_word_byte}
use Rattle.naming.proofs.words.in_word.Goals as goal

pub returns : goal.returns
returns c = c.is_word_byte.ensures ∙ ap is_word_byte c.byte_at.ensures
