-- `first_again` meets its contract: so far, the least of the names passed.
use Prim.Native.Nat.{ℕ}
use native.Mathlib.Omega.{arith}
use mathlib.Core.Path.{◌≡◌, subst}
use Rattle.naming.specs.Wrongs.{LeastOf, OneBelow, AgainAt}
use Rattle.naming.proofs.Leasts.{least_none, least_more}
use Rattle.naming.proofs.checks.first_again.Goals as goal

pub loop-i-init : goal.loop-i-init
loop-i-init c = least_none

pub loop-i-preserved : goal.loop-i-preserved
loop-i-preserved c =
    rw c.earlier-best.ensures (least_more c.loop-i.invariant c.again_at.ensures)

pub returns : goal.returns
returns c =
    let l = c.loop-i in
    let a = c.args.equations in
    let all : l.i ≡ a.counts.definitions = omega arith in
    subst (λ (n : ℕ). LeastOf (OneBelow n (AgainAt a.text.now a.names.now)) l.best) all l.invariant
