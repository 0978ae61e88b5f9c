-- `byte_at` meets its contract.
use mathlib.Core.Path.{sym}
use Rattle.spelling.proofs.Bytes.{behind}
use Rattle.spelling.proofs.byte_at.Goals as goal

pub returns-else-at-text : goal.returns-else-at-text
returns-else-at-text c = sym (behind c.args.text.now c.args.at c.if-at-text.false)
