-- `run` meets its contract: as many paths as rounds.
use native.Mathlib.Omega.{arith}
use Prim.Native.Nat.{suc}
use mathlib.Core.Path.{◌≡◌, refl, subst, ◌∙◌}
use Rattle.storage.proofs.Clears.{beyond_then}
use Rattle.flow.specs.Augments.{FlowIn}
use Rattle.flow.specs.Rounds.{Ran}
use Rattle.flow.proofs.Rounded.{run_starts, round_asked, round_more, round_full}
use Rattle.flow.proofs.rounds.run.Goals as goal

pub loop-number-init : goal.loop-number-init
loop-number-init c =
    run_starts c.requires c.clear.ensures

pub add_path-requires : goal.add_path-requires
add_path-requires c =
    round_asked c.loop-number.invariant c.requires.field

pub shape_of-links-then-not-add_path : goal.shape_of-links-then-not-add_path
shape_of-links-then-not-add_path c =
    c.add_path.ensures.beyond.size
    ∙ c.loop-number.invariant.rest.size
    ∙ c.clear.ensures.rest.size

pub returns-then-not-add_path : goal.returns-then-not-add_path
returns-then-not-add_path c =
    let f = round_full c.loop-number.invariant c.add_path.ensures.round_done
    c.if-not-add_path.true in record {
      ran = Ran.full (record { leaves = c.loop-number.number }) f.0 refl (omega (arith, c.loop-number-test.true))
          f.1 f.2 f.3;
      beyond = beyond_then c.clear.ensures.rest
          (beyond_then c.loop-number.invariant.rest c.add_path.ensures.beyond);
    }

pub loop-number-preserved : goal.loop-number-preserved
loop-number-preserved c =
    round_more c.loop-number.invariant c.add_path.ensures.round_done c.add_path.ensures.beyond
    c.if-not-add_path.false (omega (arith, c.loop-number-test.true))

pub returns : goal.returns
returns c =
    let a = c.args in
    let n = a.net.numbers in
    let all : c.loop-number.number ≡ suc n.k.leaves = omega arith in record {
      ran = Ran.many refl
          (subst (FlowIn n.inputs n.nodes a.net.fanins.now a.roles.now c.loop-number.links) all
          c.loop-number.invariant.flow);
      beyond = beyond_then c.clear.ensures.rest c.loop-number.invariant.rest;
    }
