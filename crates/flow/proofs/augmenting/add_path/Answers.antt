-- `add_path` meets its contract: the walk back keeps a flow with one path more, whose start is loose until it is an
-- input.
use native.Mathlib.Omega.{arith}
use mathlib.Core.Path.{refl, subst, ◌∙◌}
use Rattle.storage.proofs.Clears.{beyond_then}
use Rattle.flow.specs.Augments.{FlowIn, RoundDone}
use Rattle.flow.proofs.Sweeping.{sought_end, sought_nothing}
use Rattle.flow.proofs.Augmented.{round_search, flow_kept, augment_asked, augment_starts}
use Rattle.flow.proofs.Augmented.{augment_adds, step_asked, augment_step, augment_ends}
use Rattle.flow.proofs.Ways.{no_node}
use Rattle.flow.proofs.augmenting.add_path.Goals as goal

pub search-sought-requires : goal.search-sought-requires
search-sought-requires c =
    round_search c.requires

pub returns-in_default : goal.returns-in_default
returns-in_default c =
    let kept = c.search-sought.ensures.paths_kept in
    let n = sought_nothing c.search-sought.ensures.sought_so c.in_default.is in
    record { round_done = RoundDone.full n.0 refl kept n.1 n.2; beyond = kept.rest }

pub free-loose-requires : goal.free-loose-requires
free-loose-requires c =
    let g = c.requires.field.ground in
    let flow = flow_kept c.requires.flow c.search-sought.ensures.paths_kept in
    let end = sought_end c.search-sought.ensures.sought_so c.in-Some.is in
    augment_asked g flow end

pub loop-v-init : goal.loop-v-init
loop-v-init c =
    let g = c.requires.field.ground in
    let flow = flow_kept c.requires.flow c.search-sought.ensures.paths_kept in
    let end = sought_end c.search-sought.ensures.sought_so c.in-Some.is in
    augment_starts g flow end c.free-loose.ensures

pub step_back-loose-requires : goal.step_back-loose-requires
step_back-loose-requires c = step_asked c.requires.field.ground c.loop-v.invariant c.in-To.ensures

pub loop-v-preserved : goal.loop-v-preserved
loop-v-preserved c = augment_step c.requires.field.ground c.loop-v.invariant c.in-To.ensures c.step_back-loose.ensures

pub shape_of-links : goal.shape_of-links
shape_of-links c =
    c.loop-v.invariant.rest.size
    ∙ c.free-loose.ensures.kept.rest.size
    ∙ c.search-sought.ensures.paths_kept.rest.size

pub returns : goal.returns
returns c =
    let g = c.requires.field.ground in
    let flow = flow_kept c.requires.flow c.search-sought.ensures.paths_kept in
    let end = sought_end c.search-sought.ensures.sought_so c.in-Some.is in
    let a = c.args in
    let adds = augment_adds g flow end c.free-loose.ensures in record {
      round_done = RoundDone.more refl
          (subst
          (FlowIn a.net.numbers.inputs a.net.numbers.nodes a.net.fanins.now a.roles.now c.loop-v.links)
          adds (augment_ends g c.loop-v.invariant (omega (arith, c.link_at.ensures, no_node c.link_at.result c.in_default-link_at.not-To))));
      beyond = beyond_then c.search-sought.ensures.paths_kept.rest
          (beyond_then c.free-loose.ensures.kept.rest c.loop-v.invariant.rest);
    }
