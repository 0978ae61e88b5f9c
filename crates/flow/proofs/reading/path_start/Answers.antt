-- `path_start` meets its contract: as many starts were seen as stand before.
use native.Mathlib.Omega.{arith}
use Prim.Native.Nat.{ℕ}
use mathlib.Core.Path.{◌≡◌, refl, ap}
use lib.ListN.{length}
use lib.Dec.{eqb}
use Rattle.storage.specs.Entries.{at}
use Rattle.flow.specs.Numbers.{those}
use Rattle.flow.specs.Links.{prev_in}
use Rattle.flow.specs.Paths.{starts_in}
use Rattle.flow.specs.Reads.{StartRead}
use Rattle.flow.proofs.Listing.{start_at, start_passed, one_at_most}
use Rattle.flow.proofs.reading.path_start.Goals as goal

pub loop-v-init : goal.loop-v-init
unfolding those
loop-v-init c = (refl, omega arith, omega arith)

pub starts_at-requires : goal.starts_at-requires
starts_at-requires c =
    let p = c.requires in
    record {
      small = p.small;
      long = p.links_long;
      one_of_five = omega arith;
      node = omega (arith, p.span, c.loop-v-test.true);
    }

pub overflow_add-more : goal.overflow_add-more
overflow_add-more c =
    let a = c.args in
    let few =
    one_at_most (eqb (at (prev_in a.nodes a.links.now) c.loop-v.v) 1) c.starts_at.ensures in
    omega (arith, few, c.loop-v.invariant.2, c.loop-v-test.true, c.requires.span, c.requires.small)

pub returns-then-i-more : goal.returns-then-i-more
returns-then-i-more c =
    let a = c.args in
    let l = c.loop-v.invariant in
    start_at a.nodes a.links.now c.loop-v.v l.0 c.starts_at.ensures a.inputs
    a.i _ c.loop-v-test.true refl l.1 c.if-i-more.true

pub loop-v-preserved : goal.loop-v-preserved
loop-v-preserved c =
    let a = c.args in
    let l = c.loop-v.invariant in
    let few = one_at_most (eqb (at (prev_in a.nodes a.links.now) c.loop-v.v) 1)
    c.starts_at.ensures in (
      start_passed a.nodes a.links.now c.loop-v.v l.0 c.starts_at.ensures,
      omega (arith, c.if-i-more.false),
      omega (arith, few, l.2),
    )

pub returns : goal.returns
returns c =
    let a = c.args in
    let l = c.loop-v.invariant in
    let all : c.loop-v.v ≡ a.inputs = omega arith in
    StartRead.missing refl
    (omega (arith, l.0, l.1, ap (λ (m : ℕ). length (starts_in m a.nodes a.links.now)) all))
