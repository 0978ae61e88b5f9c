-- Augmenting: one step back from a loose node keeps a flow with one path more whose one start is loose, and the number of its in-state falls. Only
-- links that were read are stored to: what is found earlier is as it was when the search ran.
use Prim.Native.Nat.{ℕ, suc, ◌*◌, ◌≤◌, ◌<◌}
use native.Mathlib.Decide.{ℕ_discrete}
use native.Mathlib.Omega.{arith}
use mathlib.Core.Path.{◌≡◌, refl, sym, ap, subst, ◌∙◌}
use mathlib.Core.Logic.{◌⊎◌, inl, inr, ⊎_elim}
use mathlib.Core.List.{List, Memᴰ}
use lib.ListN.{length}
use Rattle.theory.specs.paper.Net.{Net}
use Rattle.storage.specs.Drawings.{net_in}
use Rattle.storage.specs.Entries.{Beyond, Upd, at}
use Rattle.storage.specs.Roles.{area_in, ends_in}
use Rattle.storage.proofs.Clears.{beyond_same, beyond_then}
use Rattle.flow.specs.Links.{next_in, prev_in, ins_in, outs_in, parent_in, link_to}
use Rattle.flow.specs.Flow.{Linked, Carries, Open, WayIn, WayOut, Freed}
use Rattle.flow.specs.Cells.{CellIn, PathsKept, StatesKept}
use Rattle.flow.specs.Turns.{Ground, Searched}
use Rattle.flow.specs.Sweeps.{SearchAsked, EndFound}
use Rattle.flow.specs.Augments.{FreeAsked, StepAsked, Stepped, FreedIn, SteppedIn, FlowIn, starts_of, RoundAsked}
use Rattle.flow.proofs.Links.{used_come, free_linked, free_starts, link_linked, link_starts, drop_linked, drop_starts}
use Rattle.flow.proofs.Orders.{held_input}
use Rattle.flow.proofs.Columns.{states_then}
use Rattle.flow.proofs.Finding.{area_low}

-- what is loose after freeing was found before
freed_found : {next found_in : ℕ → ℕ} {v loose number : ℕ} → WayOut next found_in v number → ((next v ≡ 0) × (loose ≡ v)) ⊎ (next v ≡ suc (suc loose)) →
    (1 ≤ found_in loose) × (found_in loose < number)
freed_found {found_in = found_in} (WayOut.through e some less) (inl h) = (omega (arith, ap found_in h.1), omega (arith, ap found_in h.1))
freed_found (WayOut.through e some less) (inr h) = absurd (omega arith)
freed_found (WayOut.back g e some less) (inl h) = absurd (omega (arith, h.0))
freed_found {found_in = found_in} {loose = loose} (WayOut.back g e some less) (inr h) =
    let same : loose ≡ g = omega arith in (omega (arith, ap found_in same), omega (arith, ap found_in same))

-- a node whose out-state was found does not go to the sink
out_no_sink : {next found_in : ℕ → ℕ} {v number : ℕ} → WayOut next found_in v number → next v ≡ 1 → ⊥
out_no_sink (WayOut.through e _ _) sink = omega arith
out_no_sink (WayOut.back g e _ _) sink = omega arith

-- Only v's link changes

step_others : {next prev next' prev' : ℕ → ℕ} {loose v r : ℕ} → Stepped next prev loose v r next' prev' → (w : ℕ) → (w ≡ v → ⊥) → next' w ≡ next w
step_others (Stepped.dropped m q same f out into) w apart = out.there w (λ here. apart (here ∙ sym same)) ∙ f.out.there w apart
step_others (Stepped.linked m q far f out into) w apart = out.there w apart ∙ f.out.there w apart

step_freed : {next prev next' prev' : ℕ → ℕ} {loose v r : ℕ} → Stepped next prev loose v r next' prev' →
    ((next v ≡ 0) × (r ≡ v)) ⊎ (next v ≡ suc (suc r))
step_freed (Stepped.dropped m q same f out into) = f.freed
step_freed (Stepped.linked m q far f out into) = f.freed

-- Over functions

module _ {net : Net} {area : ℕ → ℕ} (below : (v : ℕ) → area v ≡ 1 → v < net.nodes) where
  links_lead : {next prev : ℕ → ℕ} → Linked net area next prev → (v g : ℕ) → next v ≡ suc (suc g) → g < net.nodes
  links_lead l v g e = below g (l.inside g (used_come l {v = g} (omega (arith, l.ahead v g e))))

  loose_low : {next prev : ℕ → ℕ} {v loose : ℕ} → Linked net area next prev → area v ≡ 1 → ((next v ≡ 0) × (loose ≡ v)) ⊎ (next v ≡ suc (suc loose)) →
      loose < net.nodes
  loose_low {v = v} l inside (inl h) = omega (arith, below v inside, h.1)
  loose_low {v = v} {loose = loose} l inside (inr e) = links_lead l v loose e

  open_start : {ends next prev next' prev' : ℕ → ℕ} {number v loose : ℕ} → Carries net area ends next prev number → area v ≡ 1 → ends v ≡ 1 →
      Freed next prev v loose next' prev' → Open net area ends next' prev' (suc number) loose
  open_start {ends} {next} {prev} {next'} {prev'} {v = v} {loose = loose} flow inside ended f =
      record {
        linked = free_linked flow.linked f inside;
        stops = λ w e. by_stop w e (ℕ_discrete w v);
        starts = λ w e. by_start w e (ℕ_discrete w loose);
        loosened = f.«in».here;
        paths = free_starts flow.linked f (loose_low flow.linked inside f.freed) ∙ ap suc flow.paths;
      }
    where
      by_stop : (w : ℕ) → next' w ≡ 1 → Dec (w ≡ v) → ends w ≡ 1
      by_stop w e (yes same) = ap ends same ∙ ended
      by_stop w e (no apart) = flow.stops w (sym (f.out.there w apart) ∙ e)

      by_start : (w : ℕ) → prev' w ≡ 1 → Dec (w ≡ loose) → (w < net.inputs) ⊎ (w ≡ loose)
      by_start w e (yes same) = inr same
      by_start w e (no apart) = inl (flow.starts w (sym (f.«in».there w apart) ∙ e))

  module _ {ends next prev : ℕ → ℕ} {number loose v : ℕ} (o : Open net area ends next prev number loose) (inside : area v ≡ 1) where
    -- the node let go of is not the loose one
    other_loose : {m q : ℕ → ℕ} {r : ℕ} → Freed next prev v r m q → (v ≡ loose → ⊥) ⊎ (1 ≤ next v) → r ≡ loose → ⊥
    other_loose {r = r} f apart same =
        ⊎_elim
        (λ (h : (next v ≡ 0) × (r ≡ v)). ⊎_elim (λ far. far (sym h.1 ∙ same)) (λ used. omega (arith, h.0)) apart)
        (λ (h : next v ≡ suc (suc r)). omega (arith, o.linked.ahead v r h, ap prev same, o.loosened)) f.freed

    loose_comes : {m q : ℕ → ℕ} {r : ℕ} → Freed next prev v r m q → q loose ≡ 1
    loose_comes {q = q} {r = r} f = by_place (ℕ_discrete loose r)
      where
        by_place : Dec (loose ≡ r) → q loose ≡ 1
        by_place (yes same) = ap q same ∙ f.«in».here
        by_place (no apart) = f.«in».there loose apart ∙ o.loosened

    step_stops : {next' m q : ℕ → ℕ} {i x r : ℕ} → Freed next prev v r m q → Upd m i x next' → i ≡ v → (x ≡ 1 → ⊥) → (w : ℕ) → next' w ≡ 1 → ends w ≡ 1
    step_stops {next'} {i = i} f out same no_sink w e = by_place (ℕ_discrete w i)
      where
        by_place : Dec (w ≡ i) → ends w ≡ 1
        by_place (yes here) = absurd (no_sink (sym out.here ∙ ap next' (sym here) ∙ e))
        by_place (no apart) =
            o.stops w (sym (f.out.there w (λ here. apart (here ∙ sym same))) ∙ sym (out.there w apart) ∙ e)

    step_starts : {prev' m q : ℕ → ℕ} {x r : ℕ} → Freed next prev v r m q → Upd q loose x prev' → (x ≡ 1 → ⊥) → (w : ℕ) → prev' w ≡ 1 → (w < net.inputs) ⊎ (w ≡ r)
    step_starts {prev'} {q = q} {r = r} f into no_source w e = by_place (ℕ_discrete w loose) (ℕ_discrete w r)
      where
        by_place : Dec (w ≡ loose) → Dec (w ≡ r) → (w < net.inputs) ⊎ (w ≡ r)
        by_place (yes here) _ = absurd (no_source (sym into.here ∙ ap prev' (sym here) ∙ e))
        by_place (no apart) (yes there) = inr there
        by_place (no apart) (no far) =
            ⊎_elim (λ low. inl low) (λ (here : w ≡ loose). absurd (apart here))
            (o.starts w (sym (f.«in».there w far) ∙ sym (into.there w apart) ∙ e))

    loose_node : loose < net.nodes
    loose_node = below loose (o.linked.inside loose (used_come o.linked {v = loose} (omega (arith, o.loosened))))

    open_step : {next' prev' : ℕ → ℕ} {r : ℕ} → (v ≡ loose → ⊥) ⊎ (1 ≤ next v) → ((v ≡ loose → ⊥) → Memᴰ v (net.fanins loose)) → Stepped next prev loose v r next' prev' →
        Open net area ends next' prev' number r
    open_step {r = r} apart feeds (Stepped.dropped m q same f out into) =
        let l = free_linked o.linked f inside in
        let goes = ap m (sym same) ∙ f.out.here in
        let comes = loose_comes f in
        let many = free_starts o.linked f (loose_low o.linked inside f.freed) in
        let fewer = drop_starts l goes comes out into loose_node in
        record {
          linked = drop_linked l goes comes out into;
          stops = step_stops f out (sym same) (λ e. omega arith);
          starts = step_starts f into (λ e. omega arith);
          loosened = into.there r (other_loose f apart) ∙ f.«in».here;
          paths = omega (arith, o.paths);
        }
    open_step {r = r} apart feeds (Stepped.linked m q far f out into) =
        let l = free_linked o.linked f inside in
        let comes = loose_comes f in
        let many = free_starts o.linked f (loose_low o.linked inside f.freed) in
        let fewer = link_starts l f.out.here comes out into loose_node in
        record {
          linked = link_linked l f.out.here comes out into (feeds far);
          stops = step_stops f out refl (λ e. omega arith);
          starts = step_starts f into (λ e. omega arith);
          loosened = into.there r (other_loose f (inl far)) ∙ f.«in».here;
          paths = omega (arith, o.paths);
        }

  open_closed : {ends next prev : ℕ → ℕ} {number loose : ℕ} → Open net area ends next prev number loose → loose < net.inputs → Carries net area ends next prev number
  open_closed o low =
      record {
        linked = o.linked;
        stops = o.stops;
        starts = λ w e. ⊎_elim (λ less. less) (λ (same : w ≡ _). omega arith) (o.starts w e);
        paths = o.paths;
      }

-- Over the array: a walk back from the end that the search of the links `old` found. Only next and prev were stored to since.
pub record Augmenting (inputs nodes : ℕ) (fanins roles links₀ links : List ℕ) (loose : ℕ) : Type 0 where
  pub old : List ℕ
  pub last : ℕ
  pub searched : Searched inputs nodes fanins roles old last
  pub kept : StatesKept nodes old links
  pub rest : Beyond (5 * nodes) links₀ links
  pub opened : Open (net_in inputs nodes fanins) (at (area_in roles)) (at (ends_in roles)) (at (next_in nodes links)) (at (prev_in nodes links))
      (starts_of nodes links₀) loose
  pub found : 1 ≤ at (ins_in nodes old) loose
  pub unread : (v : ℕ) → 1 ≤ at (outs_in nodes old) v → at (outs_in nodes old) v < at (ins_in nodes old) loose →
      at (next_in nodes links) v ≡ at (next_in nodes old) v

module _ {inputs nodes : ℕ} {fanins roles : List ℕ} (ground : Ground inputs nodes fanins roles) where
  below : (v : ℕ) → at (area_in roles) v ≡ 1 → v < (net_in inputs nodes fanins).nodes
  unfolding net_in
  below = area_low ground

  flow_leads : {next prev : ℕ → ℕ} → Linked (net_in inputs nodes fanins) (at (area_in roles)) next prev → (v g : ℕ) → next v ≡ suc (suc g) → g < nodes
  unfolding net_in
  flow_leads l v g e = links_lead below l v g e

  free_asked : {links : List ℕ} {v : ℕ} → Linked (net_in inputs nodes fanins) (at (area_in roles)) (at (next_in nodes links)) (at (prev_in nodes links)) →
      5 * nodes ≤ length links → at (area_in roles) v ≡ 1 → (at (next_in nodes links) v ≡ 1 → ⊥) → FreeAsked nodes links v
  free_asked {v = v} l long inside no_sink =
      record { small = ground.small; long = long; node = area_low ground v inside; no_sink = no_sink; leads = λ g e. flow_leads l v g e }

  -- the parent of a state that was found can be read
  found_cell : {old links : List ℕ} {last v : ℕ} → Searched inputs nodes fanins roles old last → StatesKept nodes old links → 1 ≤ at (ins_in nodes old) v →
      CellIn nodes 4 v links
  found_cell {v = v} s kept found =
      record {
        small = ground.small;
        long = omega (arith, s.long, kept.rest.size);
        one_of_five = omega arith;
        node = area_low ground v (s.found.in_area v found);
      }

  -- Where the walk starts

  module _ {links : List ℕ} {number v : ℕ} (flow : FlowIn inputs nodes fanins roles links number) (end : EndFound inputs nodes fanins roles links v) where
    end_inside : at (area_in roles) v ≡ 1
    end_inside = end.searched.found.out_area v end.reached

    end_way : WayOut (at (next_in nodes links)) (at (ins_in nodes links)) v (at (outs_in nodes links) v)
    end_way = end.searched.found.out_way v end.reached

    pub augment_asked : FreeAsked nodes links v
    augment_asked = free_asked flow.carries.linked flow.long end_inside (out_no_sink end_way)

    module _ {links' : List ℕ} {loose : ℕ} (f : FreedIn nodes links v loose links') where
      found_loose : (1 ≤ at (ins_in nodes links) loose) × (at (ins_in nodes links) loose < at (outs_in nodes links) v)
      found_loose = freed_found end_way f.stored.freed

      pub augment_adds : starts_of nodes links' ≡ suc number
      unfolding net_in
      augment_adds = (open_start below flow.carries end_inside end.is_end f.stored).paths

      pub augment_starts : Augmenting inputs nodes fanins roles links' links' loose
      unfolding net_in
      augment_starts =
          let o = open_start below flow.carries end_inside end.is_end f.stored in
          record {
            old = links;
            last = end.last;
            searched = end.searched;
            kept = f.kept;
            rest = beyond_same (5 * nodes) links';
            opened = record { linked = o.linked; stops = o.stops; starts = o.starts; loosened = o.loosened; paths = refl };
            found = found_loose.0;
            unread = λ w some less. f.stored.out.there w (λ same. omega (arith, found_loose.1, ap (at (outs_in nodes links)) same));
          }

  -- One step

  module _ {links₀ links : List ℕ} {loose : ℕ} (a : Augmenting inputs nodes fanins roles links₀ links loose) where
    abbrev next : ℕ → ℕ
    next = at (next_in nodes links)

    abbrev was : ℕ → ℕ
    was = at (next_in nodes a.old)

    abbrev ins : ℕ → ℕ
    ins = at (ins_in nodes a.old)

    abbrev outs : ℕ → ℕ
    outs = at (outs_in nodes a.old)

    abbrev from : ℕ
    from = at (parent_in nodes a.old) loose

    -- the parent is as the search left it
    parent_kept : at (parent_in nodes links) loose ≡ from
    parent_kept = ap (λ (l : List ℕ). at l loose) a.kept.parent

    loose_here : loose < nodes
    loose_here = area_low ground loose (a.searched.found.in_area loose a.found)

    way : WayIn inputs ((net_in inputs nodes fanins).fanins loose) was outs loose from (ins loose)
    unfolding net_in
    way = a.searched.found.in_way loose a.found

    -- where the walk goes on: v's out-state was found before
    record Goes (v : ℕ) : Type 0 where
      out : 1 ≤ outs v
      less : outs v < ins loose
      feeds : (v ≡ loose → ⊥) → Memᴰ v ((net_in inputs nodes fanins).fanins loose)

    goes_by : {v : ℕ} → from ≡ suc (suc v) → WayIn inputs ((net_in inputs nodes fanins).fanins loose) was outs loose from (ins loose) → Goes v
    goes_by e (WayIn.source low f) = absurd (omega arith)
    goes_by {v} e (WayIn.own f used out less) =
        let same : v ≡ loose = omega arith in
        record { out = omega (arith, ap outs same); less = omega (arith, ap outs same); feeds = λ apart. absurd (apart same) }
    goes_by {v} e (WayIn.fanin u f feeds out less) =
        let same : u ≡ v = omega arith in
        record {
          out = omega (arith, ap outs same);
          less = omega (arith, ap outs same);
          feeds = λ apart. subst (λ (w : ℕ). Memᴰ w ((net_in inputs nodes fanins).fanins loose)) same feeds;
        }

    loose_goes : {v : ℕ} → (v ≡ loose → ⊥) ⊎ (1 ≤ next v)
    loose_goes {v} = by_place (ℕ_discrete v loose)
      where
        by_place : Dec (v ≡ loose) → (v ≡ loose → ⊥) ⊎ (1 ≤ next v)
        by_place (no apart) = inl apart
        by_place (yes same) = let used = used_come a.opened.linked {v = loose} (omega (arith, a.opened.loosened)) in inr (omega (arith, ap next same))

    module _ {v : ℕ} (e : link_to v ≡ at (parent_in nodes links) loose) where
      goes : Goes v
      goes = goes_by (sym parent_kept ∙ sym e) way

      step_inside : at (area_in roles) v ≡ 1
      step_inside = a.searched.found.out_area v goes.out

      -- v's link is as the search read it
      step_way : WayOut next ins v (outs v)
      step_way = now (a.searched.found.out_way v goes.out)
        where
          same : next v ≡ was v
          same = a.unread v goes.out goes.less

          now : WayOut was ins v (outs v) → WayOut next ins v (outs v)
          now (WayOut.through f some less) = WayOut.through (same ∙ f) some less
          now (WayOut.back g f some less) = WayOut.back g (same ∙ f) some less

      pub step_asked : StepAsked nodes links loose v
      step_asked =
          record {
            free = free_asked a.opened.linked (omega (arith, a.searched.long, a.kept.rest.size)) step_inside (out_no_sink step_way);
            loose_node = loose_here;
          }

      module _ {links' : List ℕ} {r : ℕ} (s : SteppedIn nodes links loose v r links') where
        step_found : (1 ≤ ins r) × (ins r < outs v)
        step_found = freed_found step_way (step_freed s.stored)

        pub augment_step : Augmenting inputs nodes fanins roles links₀ links' r
        augment_step =
            let before = step_found in
            let less = goes.less in
            record {
              old = a.old;
              last = a.last;
              searched = a.searched;
              kept = states_then a.kept s.kept;
              rest = beyond_then a.rest s.kept.rest;
              opened = open_step below a.opened step_inside loose_goes goes.feeds s.stored;
              found = before.0;
              unread = λ w some early. step_others s.stored w (λ same. omega (arith, ap outs same)) ∙ a.unread w some (omega arith);
            }

    -- Where it ends

    pub augment_ends : at (parent_in nodes links) loose < 2 → FlowIn inputs nodes fanins roles links (starts_of nodes links₀)
    augment_ends e = record { long = omega (arith, a.searched.long, a.kept.rest.size); carries = open_closed below a.opened (by_way way) }
      where
        by_way : WayIn inputs ((net_in inputs nodes fanins).fanins loose) was outs loose from (ins loose) → loose < (net_in inputs nodes fanins).inputs
        by_way (WayIn.source low _) = held_input inputs nodes fanins low
        by_way (WayIn.own f _ _ _) = absurd (omega (arith, parent_kept))
        by_way (WayIn.fanin u f _ _ _) = absurd (omega (arith, parent_kept))

-- A round's search can be asked for, and leaves the flow as it was

pub round_search : {inputs nodes : ℕ} {fanins order roles links : List ℕ} → RoundAsked inputs nodes fanins order roles links →
    SearchAsked inputs nodes fanins order roles links
round_search asked =
    record { field = asked.field; long = asked.flow.long; leads = flow_leads asked.field.ground asked.flow.carries.linked }

pub flow_kept : {inputs nodes : ℕ} {fanins roles links links' : List ℕ} {number : ℕ} → FlowIn inputs nodes fanins roles links number →
    PathsKept nodes links links' → FlowIn inputs nodes fanins roles links' number
flow_kept flow kept = record { long = omega (arith, flow.long, kept.rest.size); carries = rw (kept.next, kept.prev) flow.carries }
