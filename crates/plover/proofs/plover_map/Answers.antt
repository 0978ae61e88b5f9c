-- `plover_map` meets its contract: the word is that of the mapper's reply, whose place fits.
use Rattle.plover.proofs.Places.{map_place}
use Rattle.plover.proofs.Words.{word_as, map_fits}
use Rattle.plover.proofs.plover_map.Goals as goal

pub word-requires : goal.word-requires
word-requires c = let asked =
    map_fits c.map-reply.result c.number_of_reply.ensures c.place_of_reply.ensures
    (map_place c.args.table.now c.args.sheet.now _ _ c.map-reply.ensures) in record { number_lt_half = asked.0; place_lt_half = asked.1 }

pub returns : goal.returns
returns c =
    record {
      reply = c.map-reply.result;
      maps = c.map-reply.ensures;
      fits = map_place c.args.table.now c.args.sheet.now _ _ c.map-reply.ensures;
      word =
          word_as c.number_of_reply.ensures c.place_of_reply.ensures c.word.ensures;
    }
