-- `end_of_word` meets its contract: the bytes taken are the word.
use native.Mathlib.Omega.{arith}
use Rattle.naming.proofs.Alike.{word_in_rest, none_behind}
use Rattle.naming.proofs.words.end_of_word.Goals as goal

pub returns-then-at-text : goal.returns-then-at-text
returns-then-at-text c = omega (arith, c.letters.ensures, word_in_rest c.args.text.now c.args.at)

pub returns-else-at-text : goal.returns-else-at-text
returns-else-at-text c = omega (arith, none_behind c.args.text.now c.args.at c.if-at-text.false)
