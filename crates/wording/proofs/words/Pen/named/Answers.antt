-- `Pen::named` meets its contract.
use native.Mathlib.Omega.{arith}
use lib.ListN.{length-append}
use Rattle.wording.specs.paper.Text.{decimal, numbered}
use Rattle.wording.proofs.Puts.{put_then}
use Rattle.wording.proofs.words.Pen.named.Goals as goal

pub word-requires : goal.word-requires
unfolding numbered
word-requires c =
    omega (arith, length-append c.args.word.now (decimal c.args.n))

pub decimal-requires : goal.decimal-requires
unfolding numbered
decimal-requires c =
    omega (arith, length-append c.args.word.now (decimal c.args.n))

pub returns : goal.returns
unfolding numbered
returns c =
    put_then c.word.ensures c.decimal.ensures
