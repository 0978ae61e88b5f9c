-- `plover_equations` meets its contract: the word is that of the reply to the text, whose place fits.
use Rattle.plover.proofs.Places.{equations_place}
use Rattle.plover.proofs.Words.{word_as, equations_fits}
use Rattle.plover.proofs.plover_equations.Goals as goal

pub word-requires : goal.word-requires
word-requires c = let asked =
    equations_fits c.compile-reply.result c.number_of_reply-number.ensures c.place_of_reply-place.ensures
    (equations_place c.compile-reply.result c.compile-reply.ensures) in record { number_lt_half = asked.0; place_lt_half = asked.1 }

pub returns : goal.returns
returns c =
    record {
      reply = c.compile-reply.result;
      compiles = c.compile-reply.ensures;
      fits = equations_place c.compile-reply.result c.compile-reply.ensures;
      word = word_as c.number_of_reply-number.ensures c.place_of_reply-place.ensures c.word.ensures;
    }
