-- `plover_inspect` meets its contract: the word is that of the inspector's reply, whose place fits.
use native.Mathlib.Omega.{arith}
use Rattle.plover.proofs.Places.{inspect_place}
use Rattle.plover.proofs.Words.{word_as, inspect_fits}
use Rattle.plover.proofs.plover_inspect.Goals as goal

pub word-requires : goal.word-requires
word-requires c = let asked =
    inspect_fits c.inspect-reply.result c.number_of_inspection.ensures
    c.place_of_inspection.ensures
    (inspect_place c.args.table.now c.args.sheet.now
    (λ i. omega (arith, c.type_inv.sheet i)) _
    c.inspect-reply.ensures) in record { number_lt_half = asked.0; place_lt_half = asked.1 }

pub returns : goal.returns
returns c =
    record {
      reply = c.inspect-reply.result;
      inspects = c.inspect-reply.ensures;
      fits =
          inspect_place c.args.table.now c.args.sheet.now
          (λ i. omega (arith, c.type_inv.sheet i)) _
          c.inspect-reply.ensures;
      word =
          word_as c.number_of_inspection.ensures c.place_of_inspection.ensures
          c.word.ensures;
    }
