-- `search` meets its contract: each sweep keeps the search's invariant, and one that gives no number leaves all
-- settled.
use native.Mathlib.Omega.{arith}
use mathlib.Core.Path.{refl}
use Rattle.flow.specs.Sweeps.{SoughtSo}
use Rattle.flow.proofs.Columns.{paths_same, paths_then}
use Rattle.flow.proofs.Finding.{searched_room}
use Rattle.flow.proofs.Sweeping.{search_starts, paths_cleared, swept_reached, swept_up_to}
use Rattle.flow.proofs.searching.search.Goals as goal

pub loop-end-init : goal.loop-end-init
loop-end-init c =
    (search_starts c.requires c.clear.ensures, paths_same c.args.net.numbers.nodes _)

pub returns-in-Break : goal.returns-in-Break
returns-in-Break c =
    let kept = paths_then c.loop-end.invariant.1 c.sweep.ensures.paths_kept in
    record {
      sought_so = SoughtSo.ended _ refl (swept_reached c.sweep.ensures.swept_so c.in-Break.is);
      paths_kept = paths_then (paths_cleared (omega arith) c.clear.ensures) kept;
    }

pub returns-in-Continue : goal.returns-in-Continue
returns-in-Continue c =
    let kept = paths_then c.loop-end.invariant.1 c.sweep.ensures.paths_kept in
    let u = swept_up_to c.sweep.ensures.swept_so c.in-Continue.is in
    record {
      sought_so = SoughtSo.nothing _ refl u.0 (u.2 c.if-last-number.true);
      paths_kept = paths_then (paths_cleared (omega arith) c.clear.ensures) kept;
    }

pub loop-end-smaller : goal.loop-end-smaller
loop-end-smaller c =
    let u = swept_up_to c.sweep.ensures.swept_so c.in-Continue.is in
    omega (arith, u.1, searched_room u.0, c.if-last-number.false)

pub loop-end-preserved : goal.loop-end-preserved
loop-end-preserved c = (
  (swept_up_to c.sweep.ensures.swept_so c.in-Continue.is).0,
  paths_then c.loop-end.invariant.1 c.sweep.ensures.paths_kept,
)
