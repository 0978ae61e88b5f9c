-- `paths_in_range` meets its contract: what the range rules say of the paths from here on is what they say of all.
use Prim.Native.Nat.{ℕ, ◌+◌, ◌*◌, ◌-◌}
use mathlib.Core.Path.{◌≡◌, ap, sym, ◌∙◌}
use mathlib.Core.Bool.{not}
use Rattle.shaping.proofs.PathLists.{out_of_range, ends_after, ends_next, ends_inside, range_none, range_empty}
use Rattle.shaping.proofs.PathLists.{range_far, range_next}
use native.Mathlib.Omega.{arith}
use Rattle.shaping.proofs.paths.paths_in_range.Goals as goal

pub small_at-size-requires : goal.small_at-size-requires
small_at-size-requires c =
    record {
      narrow = c.args.terms.narrow;
      width_in_bounds = omega (
        arith,
        ends_inside c.args.sheet.now c.args.terms.form.width c.loop.next (c.args.count - c.loop.counter)
            (omega arith),
      );
    }

pub returns-then-size-eq0 : goal.returns-then-size-eq0
returns-then-size-eq0 c =
    ap not
    (sym
    (c.loop.invariant.1
    ∙ range_empty c.args.sheet.now c.args.terms.form.width c.args.terms.numbers.nodes c.loop.next
    (c.args.count - c.loop.counter) c.small_at-size.ensures (omega arith) (omega arith)))

pub overflow_add-next : goal.overflow_add-next
overflow_add-next c =
    omega (
      arith,
      ends_inside c.args.sheet.now c.args.terms.form.width c.loop.next (c.args.count - c.loop.counter)
          (omega arith),
    )

pub ids_below-requires : goal.ids_below-requires
ids_below-requires c =
    let s = c.args.sheet.now in
    let w = c.args.terms.form.width in
    let next = c.loop.next in
    let left = (c.args.count - c.loop.counter) in record {
      narrow = c.args.terms.narrow;
      width_in_bounds = omega (
        arith,
        ends_next s w c.args.terms.numbers.nodes next left c.small_at-size.ensures (omega arith),
        ends_after s w (next + w + c.small_at-size.result * w) (left - 1),
      );
    }

pub returns-then-not-ids_below : goal.returns-then-not-ids_below
returns-then-not-ids_below c =
    ap not
    (sym
    (c.loop.invariant.1
    ∙ range_far c.args.sheet.now c.args.terms.form.width c.args.terms.numbers.nodes c.loop.next
    (c.args.count - c.loop.counter) c.small_at-size.ensures (omega arith) c.ids_below.ensures
    c.if-not-ids_below.true))

pub overflow_add-next-in-loop : goal.overflow_add-next-in-loop
overflow_add-next-in-loop c =
    omega (
      arith,
      ends_inside c.args.sheet.now c.args.terms.form.width c.loop.next (c.args.count - c.loop.counter)
          (omega arith),
    )

pub overflow_add-next-in-loop-2 : goal.overflow_add-next-in-loop-2
overflow_add-next-in-loop-2 c =
    let s = c.args.sheet.now in
    let w = c.args.terms.form.width in
    let next = c.loop.next in
    let left = (c.args.count - c.loop.counter) in
    omega (
      arith,
      ends_next s w c.args.terms.numbers.nodes next left c.small_at-size.ensures (omega arith),
      ends_after s w (next + w + c.small_at-size.result * w) (left - 1),
    )

pub loop-preserved : goal.loop-preserved
loop-preserved c =
    let s = c.args.sheet.now in
    let w = c.args.terms.form.width in
    let next = c.loop.next in
    let left = (c.args.count - c.loop.counter) in
    let fewer : left - 1 ≡ c.args.count - (c.loop.counter + 1) = omega arith in (
      rw (sym fewer) (omega (arith, ends_next s w c.args.terms.numbers.nodes next left c.small_at-size.ensures (omega arith))),
      c.loop.invariant.1
          ∙ range_next s w c.args.terms.numbers.nodes next left c.small_at-size.ensures (omega arith)
          c.ids_below.ensures c.if-size-eq0.false
          c.if-not-ids_below.false
          ∙ ap (λ (n : ℕ). out_of_range s w c.args.terms.numbers.nodes (next + w + c.small_at-size.result * w) n) fewer,
    )

pub returns : goal.returns
returns c =
    ap not
    (sym
    (c.loop.invariant.1
    ∙ range_none c.args.sheet.now c.args.terms.form.width c.args.terms.numbers.nodes c.loop.next
    (c.args.count - c.loop.counter) (omega arith)))
