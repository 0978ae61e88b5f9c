-- The public answer: what the rounds leave, said of a gate and its labels. A full flow gives the mapper's cut, K + 1 paths give evidence.
use Prim.Native.Nat.{ℕ, suc, ◌*◌, ◌-◌, ◌≤◌, ◌<◌}
use native.Mathlib.Decide.{dec_lt}
use native.Mathlib.Omega.{arith}
use mathlib.Core.Path.{◌≡◌, refl, sym, ap, subst, ◌∙◌}
use mathlib.Core.List.{List}
use lib.ListN.{length, take, get_or-eq_default}
use lib.Seq.{sets, get_or-take, length-take-le}
use Rattle.theory.specs.paper.Sound.{Ranked}
use Rattle.theory.specs.paper.Evidence.{Evidence, LeastCut}
use Rattle.theory.proofs.Walks.{met_node}
use Rattle.storage.specs.declared.CutSize.{CutSize}
use Rattle.storage.specs.Drawings.{net_in, Drawn, Ordered}
use Rattle.storage.specs.Entries.{at, cleared, Beyond}
use Rattle.storage.specs.Marks.{view}
use Rattle.storage.specs.Roles.{area_in, ends_in}
use Rattle.storage.proofs.Clears.{beyond_then, cleared_used}
use Rattle.storage.proofs.Drawings.{drawn_span}
use Rattle.storage.proofs.Views.{view_size}
use Rattle.storage.proofs.InRoles.{area_at, ends_at}
use Rattle.area.specs.Area.{InArea}
use Rattle.std.specs.Prelude.{Option, None, Some}
use Rattle.flow.specs.Area.{Marked}
use Rattle.flow.specs.Paths.{paths_in, LinksIn}
use Rattle.flow.specs.Cells.{Cleared}
use Rattle.flow.specs.Turns.{Searched}
use Rattle.flow.specs.Sweeps.{Field, AllSettled}
use Rattle.flow.specs.Augments.{FlowIn}
use Rattle.flow.specs.Rounds.{Ran, RunAsked, leaf_in, leaves_in, LeavesAsked}
use Rattle.flow.specs.Answer.{AreaOf, FlowAsked, FlowAnswer}
use Rattle.flow.proofs.Sums.{those_length}
use Rattle.flow.proofs.Orders.{order_ranked, order_low, no_feeds}
use Rattle.flow.proofs.Reached.{leaves_are_paths}
use Rattle.flow.proofs.Finding.{area_low}
use Rattle.flow.proofs.Sweeping.{paths_cleared}
use Rattle.flow.proofs.Augmented.{flow_kept}
use Rattle.flow.proofs.Leasts.{search_least}
use Rattle.flow.proofs.Paths.{flow_evidence}

-- How the rounds ended tells what they left.

pub record RanFull (inputs nodes k : ℕ) (fanins roles links : List ℕ) (number : ℕ) : Type 0 where
  pub last : ℕ
  pub few : number ≤ k
  pub flow : FlowIn inputs nodes fanins roles links number
  pub searched : Searched inputs nodes fanins roles links last
  pub settled : AllSettled inputs nodes fanins roles links

module _ {inputs nodes k : ℕ} {fanins roles links : List ℕ} {r : Option CutSize} (ran : Ran inputs nodes k fanins roles r links) where
  pub ran_many : r ≡ None → FlowIn inputs nodes fanins roles links (suc k)
  ran_many e = by_end ran
    where
      by_end : Ran inputs nodes k fanins roles r links → FlowIn inputs nodes fanins roles links (suc k)
      by_end (Ran.many _ flow) = flow
      by_end (Ran.full size last f _ _ _ _) = absurd (let z : ◌≡◌ {A = ℕ} 0 1 = cc in omega arith)

  pub ran_full : {size : CutSize} → r ≡ Some size → RanFull inputs nodes k fanins roles links size.leaves
  ran_full {size} e = by_end ran
    where
      by_end : Ran inputs nodes k fanins roles r links → RanFull inputs nodes k fanins roles links size.leaves
      by_end (Ran.many f _) = absurd (let z : ◌≡◌ {A = ℕ} 0 1 = cc in omega arith)
      by_end (Ran.full m last f few flow searched settled) =
          let same : m.leaves ≡ size.leaves = cc in
          record {
            last = last;
            few = omega arith;
            flow = subst (FlowIn inputs nodes fanins roles links) same flow;
            searched = searched;
            settled = settled;
          }

-- As many leaves as paths

module _ {inputs nodes k : ℕ} {fanins order roles links : List ℕ} {number : ℕ} (field : Field inputs nodes fanins order roles)
    (full : RanFull inputs nodes k fanins roles links number) where
  leaves_number : length (leaves_in nodes links) ≡ number
  unfolding net_in
  leaves_number =
      those_length (leaf_in nodes links) nodes
      ∙ leaves_are_paths full.flow.carries (area_low field.ground) full.searched.found full.settled field.ends_inside

  pub leaves_asked : {cut : List ℕ} → k ≤ 6 → 6 ≤ length cut → LeavesAsked nodes links cut
  leaves_asked k_small room =
      record { small = field.ground.small; long = full.flow.long; room = omega (arith, leaves_number, full.few) }

-- Views of the first roles

module _ {f : ℕ → ℕ} (at-view : (roles : List ℕ) (v : ℕ) → at (view f roles) v ≡ f (at roles v)) (roles : List ℕ) (n : ℕ) (long : n ≤ length roles) where
  part_low : (v : ℕ) → at (view f (take n roles)) v ≡ 1 → v < n
  part_low v e = by_place (dec_lt v n)
    where
      by_place : Dec (v < n) → v < n
      by_place (yes low) = low
      by_place (no high) =
          absurd
          (omega (arith, get_or-eq_default (view f (take n roles)) 0 {n = v} (omega (arith, view_size f (take n roles), length-take-le n roles long))))

  part_at : (v : ℕ) → v < n → at (view f (take n roles)) v ≡ at (view f roles) v
  part_at v low = at-view (take n roles) v ∙ ap f (get_or-take n roles v 0 low) ∙ sym (at-view roles v)

-- A gate's marks

module _ {inputs nodes k : ℕ} {fanins : List ℕ} (drawn : Drawn inputs nodes k fanins) {roles : List ℕ} {lab : ℕ → ℕ} {t : ℕ}
    (of : AreaOf inputs nodes fanins roles lab t) (long : nodes ≤ length roles) where
  inside_low : {v : ℕ} → InArea (net_in inputs nodes fanins) lab t v → v < nodes
  unfolding net_in
  inside_low a = met_node drawn.bounded of.gate.below a.behind

  parts_marked : Marked (net_in inputs nodes fanins) lab t (at (area_in (take nodes roles))) (at (ends_in (take nodes roles)))
  unfolding net_in
  parts_marked =
      record {
        below = area_part;
        area_holds = λ v e. let low = area_part v e in of.area_marks.holds v low (sym (area_same v low) ∙ e);
        area_all = λ v a. let low = inside_low a in area_same v low ∙ of.area_marks.marked v low a;
        ends_holds = λ v e. let low = end_part v e in of.end_marks.holds v low (sym (end_same v low) ∙ e);
        ends_all = λ v a. let low = inside_low a.inside in end_same v low ∙ of.end_marks.marked v low a;
      }
    where
      area_part : (v : ℕ) → at (area_in (take nodes roles)) v ≡ 1 → v < nodes
      area_part = part_low area_at roles nodes long

      area_same : (v : ℕ) → v < nodes → at (area_in (take nodes roles)) v ≡ at (area_in roles) v
      area_same = part_at area_at roles nodes long

      end_part : (v : ℕ) → at (ends_in (take nodes roles)) v ≡ 1 → v < nodes
      end_part = part_low ends_at roles nodes long

      end_same : (v : ℕ) → v < nodes → at (ends_in (take nodes roles)) v ≡ at (ends_in roles) v
      end_same = part_at ends_at roles nodes long

  module _ {order : List ℕ} (ordered : Ordered (net_in inputs nodes fanins) order) where
    by_order : Ranked (net_in inputs nodes fanins)
    by_order = order_ranked drawn.bounded (no_feeds inputs nodes fanins) ordered

    -- a full flow shows the mapper's cut
    full_least : {links : List ℕ} {number : ℕ} → RanFull inputs nodes k fanins (take nodes roles) links number →
        LeastCut (net_in inputs nodes fanins) k lab t (leaves_in nodes links)
    unfolding net_in
    full_least full =
        search_least drawn.bounded by_order of.gate of.never_falls parts_marked full.flow.carries full.searched.found full.settled full.few

    -- K + 1 paths are evidence
    many_evidence : {links : List ℕ} → FlowIn inputs nodes fanins (take nodes roles) links (suc k) →
        Evidence (net_in inputs nodes fanins) k lab t (paths_in inputs nodes links)
    unfolding net_in paths_in by_order
    many_evidence flow =
        flow_evidence by_order parts_marked flow.carries (order_low drawn.bounded (no_feeds inputs nodes fanins) ordered) refl (drawn_span drawn)
        (λ some. let size = ordered.size in omega arith)

    -- and their links are those of paths
    flow_links : {links : List ℕ} {number : ℕ} → FlowIn inputs nodes fanins (take nodes roles) links number → LinksIn (net_in inputs nodes fanins) nodes links
    flow_links flow =
        let linked = flow.carries.linked in
        record {
          below = λ v used. parts_marked.below v (linked.inside v used);
          idle = linked.idle;
          fresh = linked.fresh;
          ahead = linked.ahead;
          back = linked.back;
          edge = linked.edge;
          starts = flow.carries.starts;
        }

-- The answer

module _ {inputs nodes k : ℕ} {fanins order roles links cut : List ℕ} (asked : FlowAsked inputs nodes k fanins order roles links cut) where
  pub run_asked : RunAsked inputs nodes k fanins (take (nodes - inputs) order) (take nodes roles) links
  run_asked =
      let marks = parts_marked asked.drawing.drawn asked.marks asked.roles_long in
      record {
        field = record {
          ground = record {
            k = k;
            drawn = asked.drawing.drawn;
            small = asked.drawing.small;
            roles_long = length-take-le nodes roles asked.roles_long;
          };
          ordered = asked.drawing.ordered;
          ends_inside = λ v e. marks.area_all v (marks.ends_holds v e).inside;
        };
        k_small = asked.drawing.k_small;
        long = asked.links_long;
      }

  module _ {ran : List ℕ} (rest : Beyond (5 * nodes) links ran) where
    pub answer_paths : {links' : List ℕ} → FlowIn inputs nodes fanins (take nodes roles) ran (suc k) → Cleared nodes 2 3 ran links' →
        FlowAnswer inputs nodes k fanins roles links cut None links' cut
    answer_paths flow clear =
        let after = flow_kept flow (paths_cleared (omega arith) clear) in
        let drawn = asked.drawing.drawn in
        FlowAnswer.paths refl (λ lab t of. many_evidence drawn of asked.roles_long asked.drawing.ordered after)
        (flow_links drawn asked.marks asked.roles_long asked.drawing.ordered after)
        (record {
          ins = clear.zeros 2 (omega arith) (omega arith);
          outs = clear.zeros 3 (omega arith) (omega arith);
          parent = clear.zeros 4 (omega arith) (omega arith);
          rest = beyond_then rest clear.rest;
        })
        refl

    pub answer_cut : {size : CutSize} {links' cut' : List ℕ} → RanFull inputs nodes k fanins (take nodes roles) ran size.leaves →
        links' ≡ cleared (5 * nodes) ran → cut' ≡ sets cut 0 (leaves_in nodes ran) → FlowAnswer inputs nodes k fanins roles links cut (Some size) links' cut'
    answer_cut {size} full clear written =
        FlowAnswer.cut size (leaves_in nodes ran) refl (leaves_number run_asked.field full)
        (λ lab t of. full_least asked.drawing.drawn of asked.roles_long asked.drawing.ordered full) (clear ∙ cleared_used (5 * nodes) rest) written
