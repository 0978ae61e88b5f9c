-- `note_fanins` meets its contract: noting the fanins from here on gives what noting all of them gives.
use Rattle.walking.proofs.Searches.{NotesLeft}
use Rattle.walking.proofs.loops.note_fanins.Given as goal

abbrev pub invariant-loop-id : goal.invariant-loop-id
invariant-loop-id l =
    NotesLeft l.fn.numbers.inputs l.fn.numbers.nodes l.fanins l.initial.list l.initial.marks l.size l.id-items l.list l.marks l.listed l.id-index
