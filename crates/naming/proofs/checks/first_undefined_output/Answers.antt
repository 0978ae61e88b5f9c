-- `first_undefined_output` meets its contract: so far, the least of the outputs passed.
use Prim.Native.Nat.{ℕ}
use native.Mathlib.Omega.{arith}
use mathlib.Core.Path.{◌≡◌, subst}
use Rattle.naming.specs.Wrongs.{LeastOf, OneBelow, UndefinedOutput}
use Rattle.naming.proofs.Leasts.{least_none, least_more}
use Rattle.naming.proofs.checks.first_undefined_output.Goals as goal

pub loop-i-init : goal.loop-i-init
loop-i-init c = least_none

pub loop-i-preserved : goal.loop-i-preserved
loop-i-preserved c =
    let new = rw c.place_at-place.ensures at c.undefined_at.ensures in
    rw c.earlier-best.ensures (least_more c.loop-i.invariant new)

pub returns : goal.returns
returns c =
    let l = c.loop-i in
    let a = c.args.equations in
    let all : l.i ≡ a.counts.outputs = omega arith in
    subst
    (λ (n : ℕ). LeastOf (OneBelow n (UndefinedOutput a.text.now a.names.now a.counts.definitions)) l.best) all
    l.invariant
