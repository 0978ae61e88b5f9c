-- The search's invariant: a state that is found by some way gets the next number. Each state has one number, so there are at most twice as many numbers
-- as nodes, and the search ends.
use Prim.Native.Nat.{ℕ, zero, suc, ◌*◌, ◌≤◌, ◌<◌}
use native.Mathlib.Decide.{ℕ_discrete, dec_lt}
use native.Mathlib.Omega.{arith}
use mathlib.Core.Path.{◌≡◌, refl, sym, ap, subst, subst₂, ◌∙◌}
use mathlib.Core.Bool.{Bool, true}
use mathlib.Core.Logic.{◌⊎◌, inl, inr}
use mathlib.Core.List.{List, Memᴰ}
use lib.ListN.{get_or-eq_default}
use Rattle.theory.specs.paper.Net.{Net}
use Rattle.storage.specs.Drawings.{net_in}
use Rattle.storage.specs.Entries.{Upd, at}
use Rattle.storage.specs.Roles.{area_bit, area_in}
use Rattle.storage.proofs.Drawings.{fanins_in, fanin_low}
use Rattle.storage.proofs.Views.{view_size}
use Rattle.storage.proofs.Stores.{upd_then, upd_after}
use Rattle.flow.specs.Numbers.{sum}
use Rattle.flow.specs.Links.{next_in, ins_in, outs_in, parent_in}
use Rattle.flow.specs.Flow.{sign, WayIn, WayOut, Found, Calm}
use Rattle.flow.specs.Cells.{PathsKept}
use Rattle.flow.specs.Turns.{Ground, EnterAsked, LeaveAsked, Searched, Visited}
use Rattle.flow.specs.Turns.{NoWayIn, NoWayOut, Entered, Left, VisitedIn, InputEntered, VisitedOut, InputVisited}
use Rattle.flow.proofs.Sums.{sum_zero, sum_more}
use Rattle.flow.proofs.Orders.{inputs_held, nodes_room}
use Rattle.flow.proofs.Columns.{paths_same, paths_then, paths_stored}

sign_most : (c : ℕ) → sign c ≤ 1
sign_most zero = omega arith
sign_most (suc c) = omega arith

sum_ones : (f : ℕ → ℕ) (n : ℕ) → sum (λ v. sign (f v)) n ≤ n
unfolding sum
sum_ones f zero = omega arith
sum_ones f (suc n) = omega (arith, sum_ones f n, sign_most (f n))

-- one more state has a number
sign_more : {f g : ℕ → ℕ} {n v x : ℕ} → v < n → f v ≡ 0 → Upd f v (suc x) g → sum (λ w. sign (g w)) n ≡ suc (sum (λ w. sign (f w)) n)
sign_more {f} {g} {n} {v} low none u =
    sum_more (λ w. sign (f w)) (λ w. sign (g w)) n v low (omega (arith, ap sign u.here, ap sign none)) (λ j apart. ap sign (u.there j apart))

module _ {net : Net} {area next found_in found-out parent : ℕ → ℕ} {last : ℕ} (found : Found net area next found_in found-out parent last) where
  pub found_room : last ≤ 2 * net.nodes
  found_room = omega (arith, found.count, sum_ones found_in net.nodes, sum_ones found-out net.nodes)

  module _ {v from : ℕ} {found-in' parent' : ℕ → ℕ} (low : v < net.nodes) (none : found_in v ≡ 0) (inside : area v ≡ 1)
      (way : WayIn net.inputs (net.fanins v) next found-out v from (suc last))
      (stored : Upd found_in v (suc last) found-in') (kept : Upd parent v from parent') where
    -- a state with a number keeps it
    in_keeps : (w : ℕ) → 1 ≤ found_in w → found-in' w ≡ found_in w
    in_keeps w some = stored.there w (λ e. omega (arith, ap found_in e))

    out_way_in : (w : ℕ) → WayOut next found_in w (found-out w) → WayOut next found-in' w (found-out w)
    out_way_in w (WayOut.through e some less) = WayOut.through e (omega (arith, in_keeps w some)) (omega (arith, in_keeps w some))
    out_way_in w (WayOut.back g e some less) = WayOut.back g e (omega (arith, in_keeps g some)) (omega (arith, in_keeps g some))

    pub mark_in : Found net area next found-in' found-out parent' (suc last)
    mark_in =
        record {
          in_most = λ w. most w (ℕ_discrete w v);
          out_most = λ w. omega (arith, found.out_most w);
          in_area = λ w some. lies w some (ℕ_discrete w v);
          out_area = found.out_area;
          in_way = λ w some. way_in w some (ℕ_discrete w v);
          out_way = λ w some. out_way_in w (found.out_way w some);
          count = omega (arith, found.count, sign_more low none stored);
        }
      where
        most : (w : ℕ) → Dec (w ≡ v) → found-in' w ≤ suc last
        most w (yes e) = omega (arith, ap found-in' e, stored.here)
        most w (no apart) = omega (arith, stored.there w apart, found.in_most w)

        lies : (w : ℕ) → 1 ≤ found-in' w → Dec (w ≡ v) → area w ≡ 1
        lies w some (yes e) = ap area e ∙ inside
        lies w some (no apart) = found.in_area w (omega (arith, stored.there w apart))

        Way : ℕ → ℕ → ℕ → Type 0
        Way w p m = WayIn net.inputs (net.fanins w) next found-out w p m

        way_in : (w : ℕ) → 1 ≤ found-in' w → Dec (w ≡ v) → WayIn net.inputs (net.fanins w) next found-out w (parent' w) (found-in' w)
        way_in w some (yes e) =
            subst (λ (x : ℕ). WayIn net.inputs (net.fanins x) next found-out x (parent' x) (found-in' x)) (sym e)
            (subst₂ (λ (p m : ℕ). WayIn net.inputs (net.fanins v) next found-out v p m) (sym kept.here) (sym stored.here) way)
        way_in w some (no apart) =
            subst₂ (λ (p m : ℕ). WayIn net.inputs (net.fanins w) next found-out w p m) (sym (kept.there w apart)) (sym (stored.there w apart))
            (found.in_way w (omega (arith, stored.there w apart)))

  module _ {v : ℕ} {found-out' : ℕ → ℕ} (low : v < net.nodes) (none : found-out v ≡ 0) (inside : area v ≡ 1)
      (way : WayOut next found_in v (suc last)) (stored : Upd found-out v (suc last) found-out') where
    out_keeps : (w : ℕ) → 1 ≤ found-out w → found-out' w ≡ found-out w
    out_keeps w some = stored.there w (λ e. omega (arith, ap found-out e))

    in_way_out : (w p m : ℕ) → WayIn net.inputs (net.fanins w) next found-out w p m → WayIn net.inputs (net.fanins w) next found-out' w p m
    in_way_out w p m (WayIn.source low e) = WayIn.source low e
    in_way_out w p m (WayIn.own e used some less) = WayIn.own e used (omega (arith, out_keeps w some)) (omega (arith, out_keeps w some))
    in_way_out w p m (WayIn.fanin u e feeds some less) =
        WayIn.fanin u e feeds (omega (arith, out_keeps u some)) (omega (arith, out_keeps u some))

    pub mark_out : Found net area next found_in found-out' parent (suc last)
    mark_out =
        record {
          in_most = λ w. omega (arith, found.in_most w);
          out_most = λ w. most w (ℕ_discrete w v);
          in_area = found.in_area;
          out_area = λ w some. lies w some (ℕ_discrete w v);
          in_way = λ w some. in_way_out w (parent w) (found_in w) (found.in_way w some);
          out_way = λ w some. way_out w some (ℕ_discrete w v);
          count = omega (arith, found.count, sign_more low none stored);
        }
      where
        most : (w : ℕ) → Dec (w ≡ v) → found-out' w ≤ suc last
        most w (yes e) = omega (arith, ap found-out' e, stored.here)
        most w (no apart) = omega (arith, stored.there w apart, found.out_most w)

        lies : (w : ℕ) → 1 ≤ found-out' w → Dec (w ≡ v) → area w ≡ 1
        lies w some (yes e) = ap area e ∙ inside
        lies w some (no apart) = found.out_area w (omega (arith, stored.there w apart))

        way_out : (w : ℕ) → 1 ≤ found-out' w → Dec (w ≡ v) → WayOut next found_in w (found-out' w)
        way_out w some (yes e) =
            subst (λ (x : ℕ). WayOut next found_in x (found-out' x)) (sym e)
            (subst (WayOut next found_in v) (sym stored.here) way)
        way_out w some (no apart) =
            subst (WayOut next found_in w) (sym (stored.there w apart)) (found.out_way w (omega (arith, stored.there w apart)))

-- Nothing was found yet

pub none_found : {net : Net} {area next found_in found-out parent : ℕ → ℕ} → ((v : ℕ) → found_in v ≡ 0) → ((v : ℕ) → found-out v ≡ 0) →
    Found net area next found_in found-out parent 0
none_found {net} {found_in = found_in} {found-out = found-out} no-in no-out =
    record {
      in_most = λ v. omega (arith, no-in v);
      out_most = λ v. omega (arith, no-out v);
      in_area = λ v some. absurd (omega (arith, no-in v));
      out_area = λ v some. absurd (omega (arith, no-out v));
      in_way = λ v some. absurd (omega (arith, no-in v));
      out_way = λ v some. absurd (omega (arith, no-out v));
      count = omega (arith, signs_none found_in net.nodes no-in, signs_none found-out net.nodes no-out);
    }
  where
    signs_none : (f : ℕ → ℕ) (n : ℕ) → ((v : ℕ) → f v ≡ 0) → sum (λ v. sign (f v)) n ≡ 0
    signs_none f n zeros = sum_zero (λ v. sign (f v)) n (λ v low. ap sign (zeros v))

-- One node's visit

first_of : {A B : Type 0} → A ⊎ B → (B → ⊥) → A
first_of (inl a) not-b = a
first_of (inr b) not-b = absurd (not-b b)

module _ {inputs nodes : ℕ} {fanins roles : List ℕ} (ground : Ground inputs nodes fanins roles) where
  pub area_low : (v : ℕ) → at (area_in roles) v ≡ 1 → v < nodes
  area_low v inside = by_place (dec_lt v nodes)
    where
      by_place : Dec (v < nodes) → v < nodes
      by_place (yes low) = low
      by_place (no high) =
          absurd (omega (arith, get_or-eq_default (area_in roles) 0 {n = v} (omega (arith, view_size area_bit roles, ground.roles_long))))

  module _ {links : List ℕ} {last : ℕ} (s : Searched inputs nodes fanins roles links last) {v : ℕ} (inside : at (area_in roles) v ≡ 1) where
    low_node : v < nodes
    low_node = area_low v inside

    entered_way : {from : ℕ} → (from ≡ 0 → ⊥) → Entered inputs fanins (next_in nodes links) (outs_in nodes links) v from →
        WayIn inputs ((net_in inputs nodes fanins).fanins v) (at (next_in nodes links)) (at (outs_in nodes links)) v from (suc last)
    entered_way some (Entered.none e _) = absurd (some e)
    entered_way some (Entered.source e low) = WayIn.source low e
    entered_way some (Entered.own e used out) = WayIn.own e used out (omega (arith, s.found.out_most v))
    entered_way some (Entered.fanin u e feeds out) =
        WayIn.fanin u e (subst (Memᴰ u) (sym (fanins_in inputs nodes fanins v low_node)) feeds) out (omega (arith, s.found.out_most u))

    pub visit_in : {r : ℕ} {links' : List ℕ} → VisitedIn inputs nodes fanins links v last r links' → Searched inputs nodes fanins roles links' r
    unfolding net_in
    visit_in (VisitedIn.stays e same _) = subst₂ (Searched inputs nodes fanins roles) (sym same) (sym e) s
    visit_in {links' = links'} (VisitedIn.new from between e none some way into parent) =
        let next_same : next_in nodes links' ≡ next_in nodes links = parent.others 0 (λ z. omega arith) ∙ into.others 0 (λ z. omega arith) in
        let out-same : outs_in nodes links' ≡ outs_in nodes links = parent.others 3 (λ z. omega arith) ∙ into.others 3 (λ z. omega arith) in
        subst (Searched inputs nodes fanins roles links') (sym e)
        (record {
          long = omega (arith, s.long, into.rest.size, parent.rest.size);
          leads = rw next_same s.leads;
          found = rw (next_same, out-same)
              (mark_in s.found low_node none inside (entered_way some way) (upd_then into.stored (parent.others 2 (λ z. omega arith)))
              (upd_after (into.others 4 (λ z. omega arith)) parent.stored));
        })

    left_way : {b : Bool} → b ≡ true → Left (next_in nodes links) (ins_in nodes links) v b → WayOut (at (next_in nodes links)) (at (ins_in nodes links)) v (suc last)
    left_way yes-it-is (Left.none e _) = absurd (let w : ◌≡◌ {A = ℕ} 0 1 = cc in omega arith)
    left_way _ (Left.through _ idle some) = WayOut.through idle some (omega (arith, s.found.in_most v))
    left_way _ (Left.back g _ e some) = WayOut.back g e some (omega (arith, s.found.in_most g))

    visit_out : {r : ℕ} {links' : List ℕ} → VisitedOut nodes links v last r links' → Searched inputs nodes fanins roles links' r
    unfolding net_in
    visit_out (VisitedOut.stays e same _) = subst₂ (Searched inputs nodes fanins roles) (sym same) (sym e) s
    visit_out {links' = links'} (VisitedOut.new e none way out) =
        let next_same : next_in nodes links' ≡ next_in nodes links = out.others 0 (λ z. omega arith) in
        let in-same : ins_in nodes links' ≡ ins_in nodes links = out.others 2 (λ z. omega arith) in
        let parent-same : parent_in nodes links' ≡ parent_in nodes links = out.others 4 (λ z. omega arith) in
        subst (Searched inputs nodes fanins roles links') (sym e)
        (record {
          long = omega (arith, s.long, out.rest.size);
          leads = rw next_same s.leads;
          found = rw (next_same, in-same, parent-same) (mark_out s.found low_node none inside (left_way refl way) out.stored);
        })

    -- where neither state was numbered, nothing more is reached
    no_ways_calm : (1 ≤ at (ins_in nodes links) v) ⊎ NoWayIn inputs fanins (next_in nodes links) (outs_in nodes links) v →
        (1 ≤ at (outs_in nodes links) v) ⊎ NoWayOut (next_in nodes links) (ins_in nodes links) v →
        Calm (net_in inputs nodes fanins) (at (next_in nodes links)) (at (ins_in nodes links)) (at (outs_in nodes links)) v
    no_ways_calm into out =
        record {
          source = λ low. first_of into (λ n. n.source (inputs_held inputs nodes fanins low));
          fanin = λ u feeds found. first_of into (λ n. omega (arith, n.fanin u (subst (Memᴰ u) (fanins_in inputs nodes fanins v low_node) feeds)));
          own = λ used found. first_of into (λ n. omega (arith, n.own used));
          through = λ idle found. first_of out (λ n. omega (arith, n.through idle));
          back = λ g e found. first_of out (λ n. omega (arith, n.back g e));
        }

  -- What a visit leaves as it was

  in_kept : {links links' : List ℕ} {v number r : ℕ} → VisitedIn inputs nodes fanins links v number r links' → PathsKept nodes links links'
  in_kept {links} (VisitedIn.stays _ same _) = subst (PathsKept nodes links) (sym same) (paths_same nodes links)
  in_kept (VisitedIn.new _ _ _ _ _ _ into parent) = paths_then (paths_stored (omega arith) into) (paths_stored (omega arith) parent)

  out_kept : {links links' : List ℕ} {v number r : ℕ} → VisitedOut nodes links v number r links' → PathsKept nodes links links'
  out_kept {links} (VisitedOut.stays _ same _) = subst (PathsKept nodes links) (sym same) (paths_same nodes links)
  out_kept (VisitedOut.new _ _ _ out) = paths_stored (omega arith) out

  later : {links links' : List ℕ} {v number r : ℕ} → VisitedOut nodes links v number r links' → number ≤ r
  later (VisitedOut.stays e _ _) = omega arith
  later (VisitedOut.new e _ _ _) = omega arith

  module _ {links : List ℕ} {number : ℕ} (s : Searched inputs nodes fanins roles links number) {v : ℕ} where
    pub visit_none : (at (area_in roles) v ≡ 1 → ⊥) → Visited inputs nodes fanins roles links v number number links
    visit_none outside =
        record {
          searched = s;
          onward = omega arith;
          same = λ _. refl;
          calm = λ _ inside. absurd (outside inside);
          kept = paths_same nodes links;
        }

    pub visit_both : {r q : ℕ} {between links' : List ℕ} → at (area_in roles) v ≡ 1 → VisitedIn inputs nodes fanins links v number r between →
        VisitedOut nodes between v r q links' → Visited inputs nodes fanins roles links v number q links'
    visit_both {links' = links'} inside (VisitedIn.stays e same into) (VisitedOut.stays f kept out) =
        let whole : links' ≡ links = kept ∙ same in
        record {
          searched = visit_out (visit_in s inside (VisitedIn.stays e same into)) inside (VisitedOut.stays f kept out);
          onward = omega arith;
          same = λ _. whole;
          calm = λ _ _. rw whole (no_ways_calm s inside into (rw same at out));
          kept = subst (PathsKept nodes links) (sym whole) (paths_same nodes links);
        }
    visit_both inside (VisitedIn.stays e same into) (VisitedOut.new f none way out) =
        record {
          searched = visit_out (visit_in s inside (VisitedIn.stays e same into)) inside (VisitedOut.new f none way out);
          onward = omega arith;
          same = λ quiet. absurd (omega arith);
          calm = λ quiet _. absurd (omega arith);
          kept = paths_then (in_kept (VisitedIn.stays e same into)) (out_kept (VisitedOut.new f none way out));
        }
    visit_both inside (VisitedIn.new from mid e none some way into parent) out =
        let after = VisitedIn.new from mid e none some way into parent in
        let more = later out in
        record {
          searched = visit_out (visit_in s inside after) inside out;
          onward = omega arith;
          same = λ quiet. absurd (omega arith);
          calm = λ quiet _. absurd (omega arith);
          kept = paths_then (in_kept after) (out_kept out);
        }

-- An input's visit

pub entered_input : {inputs nodes : ℕ} {fanins links links' : List ℕ} {v number r : ℕ} → v < inputs → InputEntered nodes links v number r links' →
    VisitedIn inputs nodes fanins links v number r links'
entered_input low (InputEntered.stays e same some) = VisitedIn.stays e same (inl some)
entered_input low (InputEntered.new between e none into parent) =
    VisitedIn.new 1 between e none (λ z. omega arith) (Entered.source refl low) into parent

pub visited_input : {inputs nodes : ℕ} {fanins roles links links' : List ℕ} {v number r : ℕ} → Ground inputs nodes fanins roles →
    Searched inputs nodes fanins roles links number → v < inputs → InputVisited nodes roles links v number r links' →
    Visited inputs nodes fanins roles links v number r links'
visited_input {inputs} {nodes} {fanins} {roles} {links} {v = v} {number = number} ground s low (InputVisited.outside out e same) =
    subst₂ (Visited inputs nodes fanins roles links v number) (sym e) (sym same) (visit_none ground s out)
visited_input ground s low (InputVisited.inside q between inside into out) = visit_both ground s inside (entered_input low into) out

pub searched_room : {inputs nodes : ℕ} {fanins roles links : List ℕ} {number : ℕ} → Searched inputs nodes fanins roles links number → number ≤ 2 * nodes
searched_room {inputs} {nodes} {fanins} s = nodes_room inputs nodes fanins (found_room s.found)

-- What a visit asks of its two halves

module _ {inputs nodes : ℕ} {fanins roles links : List ℕ} {v number : ℕ} (ground : Ground inputs nodes fanins roles) (low : v < nodes)
    (s : Searched inputs nodes fanins roles links number) where
  pub number_room : number < 65535
  number_room = omega (arith, ground.small, searched_room s)

  pub enter_asked : inputs ≤ v → EnterAsked inputs nodes fanins links v number
  enter_asked gate =
      record {
        way = record {
          small = ground.small;
          long = s.long;
          gate = gate;
          node = low;
          fed = record {
            long = omega (arith, ground.drawn.lists.long);
            six = ground.drawn.lists.six v low;
            known = λ u feeds. fanin_low ground.drawn low feeds;
          };
        };
        number_small = number_room;
      }

  pub leave_asked : LeaveAsked nodes links v number
  leave_asked = record { way = record { small = ground.small; long = s.long; node = low; leads = s.leads v }; number_small = number_room }
