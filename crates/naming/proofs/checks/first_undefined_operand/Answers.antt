-- `first_undefined_operand` meets its contract: so far, the least of the gates passed.
use Prim.Native.Nat.{ℕ}
use native.Mathlib.Omega.{arith}
use mathlib.Core.Path.{◌≡◌, subst}
use Rattle.naming.specs.Wrongs.{LeastOf, OneBelow, UndefinedInGate}
use Rattle.naming.proofs.Leasts.{least_none, least_more}
use Rattle.naming.proofs.checks.first_undefined_operand.Goals as goal

pub loop-gate-init : goal.loop-gate-init
loop-gate-init c = least_none

pub loop-gate-preserved : goal.loop-gate-preserved
loop-gate-preserved c =
    rw c.earlier-best.ensures (least_more c.loop-gate.invariant c.undefined_in_gate.ensures)

pub returns : goal.returns
returns c =
    let l = c.loop-gate in
    let a = c.args.equations in
    let all : l.gate ≡ a.counts.gates = omega arith in
    subst
    (λ (n : ℕ).
    LeastOf (OneBelow n (UndefinedInGate a.text.now a.names.now a.counts.definitions a.gates.now)) l.best)
    all l.invariant
