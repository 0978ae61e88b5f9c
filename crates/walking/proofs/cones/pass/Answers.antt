-- `pass` meets its contract: a gate that is not walked rests.
use native.Mathlib.Omega.{arith}
use mathlib.Core.Path.{refl}
use Rattle.walking.specs.Walking.{Turned}
use Rattle.storage.proofs.InRoles.{walked_odd}
use Rattle.walking.proofs.cones.pass.Goals as goal

pub returns-then-roles-v-eq0 : goal.returns-then-roles-v-eq0
returns-then-roles-v-eq0 c =
    let odd = walked_odd c.args.roles.now c.args.gate.id c.requires.id_bound in
    Turned.rests (λ one. omega (arith, odd, c.if-roles-v-eq0.true)) refl

pub returns : goal.returns
returns c =
    let odd = walked_odd c.args.roles.now c.args.gate.id c.requires.id_bound in
    Turned.goes (omega (arith, odd, c.if-roles-v-eq0.false)) c.meet_fanins.ensures
