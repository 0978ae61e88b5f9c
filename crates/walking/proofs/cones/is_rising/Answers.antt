-- `is_rising` meets its contract: the library's test of neighbours is the definition.
use Rattle.std.proofs.Common.{rules}
use Rattle.std.proofs.lemmas.List.Sorted.{answers_always}
use lib.Dec.{ltb}
use Rattle.walking.proofs.Rises.{rising_told}
use Rattle.walking.proofs.cones.is_rising.Goals as goal

pub returns : goal.returns
returns c =
    rising_told _ _ (c.is_sorted_by.ensures.cases ltb (answers_always _ _ _ (λ f a r g called. search rules)))
