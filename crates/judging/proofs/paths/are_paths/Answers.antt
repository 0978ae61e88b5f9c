-- `are_paths` meets its contract: each turn checks one path, and leaves the answer as it was.
use native.Mathlib.Omega.{arith}
use Prim.Native.Nat.{ℕ, ◌+◌, ◌*◌, ◌-◌}
use mathlib.Core.Path.{◌≡◌, subst}
use Rattle.judging.proofs.Runs.{Passing, size_asks, path_asked, next_inside, passing_more}
use Rattle.judging.proofs.Runs.{passing_stops, passing_ends}
use Rattle.judging.proofs.paths.are_paths.Goals as goal

pub number_at-size-requires : goal.number_at-size-requires
number_at-size-requires c = let asked = size_asks c.loop.invariant.stand (omega arith) in record { size_bound = asked.0; size_in_bounds = asked.1 }

pub overflow_add-from : goal.overflow_add-from
overflow_add-from c = omega (arith, (size_asks c.loop.invariant.stand (omega arith)).1)

pub is_path-requires : goal.is_path-requires
is_path-requires c =
    path_asked c.loop.invariant (omega arith) c.number_at-size.ensures

pub returns-then-not-is_path : goal.returns-then-not-is_path
returns-then-not-is_path c =
    let l = c.loop in
    passing_stops l.invariant (omega arith) c.number_at-size.ensures (omega (arith, c.is_path.auto)) c.is_path.ensures
    c.if-not-is_path.true

pub overflow_mul-place : goal.overflow_mul-place
overflow_mul-place c =
    let l = c.loop in
    omega (arith, next_inside l.invariant (omega arith) c.number_at-size.ensures)

pub overflow_add-place : goal.overflow_add-place
overflow_add-place c =
    let l = c.loop in
    omega (arith, next_inside l.invariant (omega arith) c.number_at-size.ensures)

pub loop-preserved : goal.loop-preserved
loop-preserved c =
    let l = c.loop in
    let a = c.args in
    let fewer : a.q - l.counter - 1 ≡ a.q - (l.counter + 1) = omega arith in
    subst
    (λ (left : ℕ). Passing a.fanins.now a.inputs a.s.now a.at a.width a.q a.roles.now (l.place + a.width + c.number_at-size.result * a.width) left c.is_path.new.roles)
    fewer
    (passing_more l.invariant (omega arith) c.number_at-size.ensures (omega (arith, c.is_path.auto)) c.is_path.ensures
    c.if-not-is_path.false)

pub returns : goal.returns
returns c = passing_ends c.loop.invariant (omega arith)
