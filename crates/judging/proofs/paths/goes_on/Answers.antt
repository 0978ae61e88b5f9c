-- `goes_on` meets its contract: each turn takes one node, and leaves the answer as it was.
use native.Mathlib.Omega.{arith}
use Prim.Native.Nat.{ℕ, ◌+◌, ◌-◌}
use mathlib.Core.Path.{◌≡◌, sym, subst, ◌∙◌}
use Rattle.judging.proofs.Runs.{Going, follows_here, going_more, going_stops}
use Rattle.judging.proofs.Runs.{going_ends, id_asks}
use Rattle.judging.proofs.paths.goes_on.Goals as goal

pub id_at-next-requires : goal.id_at-next-requires
id_at-next-requires c = let asked = id_asks c.loop.invariant.room c.loop.invariant.stand (omega arith) in
    record { width_bound = asked.0; width_in_bounds = asked.1.0; width_bound_2 = asked.1.1 }

pub follows-requires : goal.follows-requires
follows-requires c = let asked =
    follows_here c.loop.invariant (omega arith) c.id_at-next.ensures in record { id_in_bounds = asked.0; id_bound = asked.1.0; id_in_bounds_2 = asked.1.1 }

pub returns-then-not-follows : goal.returns-then-not-follows
returns-then-not-follows c =
    let l = c.loop in
    going_stops l.invariant (omega arith) c.id_at-next.ensures (sym c.follows.ensures ∙ c.if-not-follows.true)

pub loop-preserved : goal.loop-preserved
loop-preserved c =
    let l = c.loop in
    let going = l.invariant in
    let a = c.args in
    let fewer : a.size - l.counter - 1 ≡ a.size - (l.counter + 1) = omega arith in
    subst
    (λ (left : ℕ). Going a.fanins.now a.node.id a.s.now a.at a.width a.size a.roles.now c.id_at-next.result.id (l.place + a.width) left c.take.new.roles)
    fewer
    (going_more going (omega arith) c.id_at-next.ensures c.take.ensures (sym c.follows.ensures ∙ c.if-not-follows.false))

pub returns : goal.returns
returns c =
    going_ends c.loop.invariant (omega arith) c.is_end.ensures
