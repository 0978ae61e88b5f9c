-- `is_reached` meets its contract.
use Rattle.storage.specs.Roles.{ends_in}
use Rattle.storage.proofs.InRoles.{end_role, role_of_end}
use Rattle.flow.specs.Links.{outs_in}
use Rattle.flow.proofs.Sweeping.{end_read, no_end_read}
use Rattle.flow.proofs.searching.is_reached.Goals as goal

pub returns-then-roles-i-eq-END : goal.returns-then-roles-i-eq-END
returns-then-roles-i-eq-END c =
    let a = c.args in
    let roles = a.roles.now in
    end_read (ends_in roles) (outs_in a.nodes a.links.now) a.v.id c.at.result
    (end_role roles a.v.id c.if-roles-i-eq-END.true) c.at.ensures

pub returns : goal.returns
returns c =
    let a = c.args in
    let roles = a.roles.now in
    no_end_read (ends_in roles) (outs_in a.nodes a.links.now) a.v.id
    (λ e. c.if-roles-i-eq-END.false (role_of_end roles a.v.id e (c.requires.inside e)))
