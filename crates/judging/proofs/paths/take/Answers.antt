-- `take` meets its contract: an end stays an end.
use Rattle.judging.proofs.Taking.{take_end, take_inside}
use Rattle.judging.proofs.paths.take.Goals as goal

pub returns-then-roles-v-eq-END : goal.returns-then-roles-v-eq-END
returns-then-roles-v-eq-END c =
    let a = c.args in
    take_end a.roles.now a.node.id c.if-roles-v-eq-END.true

pub returns : goal.returns
returns c =
    let a = c.args in
    take_inside a.roles.now a.node.id c.requires.id_value c.if-roles-v-eq-END.false
