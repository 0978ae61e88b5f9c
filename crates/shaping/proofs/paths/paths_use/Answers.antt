-- `paths_use` meets its contract: the paths use the value up if those from here on use up what is left.
use Prim.Native.Nat.{ℕ, ◌+◌, ◌*◌, ◌-◌}
use mathlib.Core.Path.{◌≡◌, ap, sym, ◌∙◌}
use Rattle.sheet.specs.paper.Shape.{paths_use}
use Rattle.shaping.proofs.PathLists.{use_none, use_torn, use_past, use_next}
use native.Mathlib.Omega.{arith}
use Rattle.shaping.proofs.paths.paths_use.Goals as goal

pub returns-then-end-next : goal.returns-then-end-next
returns-then-end-next c =
    sym
    (c.loop.invariant.1
    ∙ use_torn c.args.sheet.now c.args.terms.form.width c.loop.next
    (c.args.count - c.loop.counter) c.args.end (omega arith) (omega arith))

pub returns-then-end-next-2 : goal.returns-then-end-next-2
returns-then-end-next-2 c =
    sym
    (c.loop.invariant.1
    ∙ use_past c.args.sheet.now c.args.terms.form.width c.loop.next (c.args.count - c.loop.counter)
    c.args.end c.small_at.ensures (omega arith) (omega arith) (omega arith))

pub loop-preserved : goal.loop-preserved
loop-preserved c =
    let fewer : c.args.count - c.loop.counter - 1 ≡ c.args.count - (c.loop.counter + 1) = omega arith in (
      omega arith,
      c.loop.invariant.1
          ∙ use_next c.args.sheet.now c.args.terms.form.width c.loop.next (c.args.count - c.loop.counter)
          c.args.end c.small_at.ensures (omega arith) (omega arith)
          ∙ ap (λ (n : ℕ). paths_use c.args.sheet.now (c.loop.next + (c.args.terms.form.width + c.small_at.result * c.args.terms.form.width)) c.args.terms.form.width n c.args.end) fewer,
    )

pub returns : goal.returns
returns c =
    sym
    (c.loop.invariant.1
    ∙ use_none c.args.sheet.now c.args.terms.form.width c.loop.next (c.args.count - c.loop.counter)
    c.args.end (omega arith))
