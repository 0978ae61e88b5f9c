-- `write_leaves` meets its contract: the leaves passed stand in the array.
use native.Mathlib.Omega.{arith}
use Prim.Native.Nat.{ℕ}
use mathlib.Core.Path.{◌≡◌, ap, ◌∙◌}
use lib.Seq.{sets}
use Rattle.flow.specs.Numbers.{those}
use Rattle.flow.specs.Rounds.{leaf_in}
use Rattle.flow.proofs.Rounded.{none_written, leaf_room, leaf_turn}
use Rattle.flow.proofs.rounds.write_leaves.Goals as goal

pub loop-i-init : goal.loop-i-init
loop-i-init c =
    none_written c.args.nodes c.args.links.now
    c.args.cut.now

pub put_leaf-j-requires : goal.put_leaf-j-requires
put_leaf-j-requires c =
    let p = c.requires in
    record {
      small = p.small;
      long = p.long;
      node = c.loop-i-test.true;
      room = leaf_room c.loop-i.invariant c.loop-i-test.true p.room;
    }

pub loop-i-preserved : goal.loop-i-preserved
loop-i-preserved c =
    leaf_turn c.loop-i.invariant c.loop-i-test.true c.put_leaf-j.ensures

pub returns : goal.returns
returns c =
    let a = c.args in
    let l = c.loop-i.invariant in
    let all : c.loop-i.i ≡ a.nodes = omega arith in
    l.same ∙ ap (λ (m : ℕ). sets a.cut.now 0 (those (leaf_in a.nodes a.links.now) m)) all
