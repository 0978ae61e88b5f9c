-- A gate's turn, in the arrays of a drawing: what the functions of a turn ask is there, and each of the three ways settles
-- the gate. The ways: p is 0; the probe shows a cut outside D; the probe shows paths. And the turns one after the other,
-- along the order.
use Prim.Native.Nat.{ℕ, suc, ◌+◌, ◌*◌, ◌-◌, ◌≤◌, ◌<◌}
use native.Mathlib.Omega.{arith}
use mathlib.Core.Path.{◌≡◌, sym, ap, subst, ◌∙◌}
use mathlib.Core.List.{List}
use lib.ListN.{length, get_or, set, take}
use lib.Seq.{sets, length-sets}
use Rattle.storage.specs.Drawings.{net_in, Ordered, Arranged, Fed}
use Rattle.storage.specs.declared.CutSize.{CutSize}
use Rattle.storage.specs.Entries.{cleared}
use Rattle.storage.proofs.Clears.{cleared_used, beyond_same, beyond_then}
use Rattle.storage.proofs.Drawings.{fed_in}
use Rattle.storage.proofs.Rests.{rest_of, with_rest, rest_length, rest_kept, rest_stored}
use Rattle.storage.proofs.Stores.{sets_headed}
use Rattle.theory.specs.paper.Evidence.{peak}
use Rattle.area.specs.Area.{label_in, PeakIn}
use Rattle.std.specs.Prelude.{Option, None, Some}
use Rattle.labelling.specs.Probing.{Shown, GateProbed, ProbeAsked}
use Rattle.labelling.specs.Labelling.{Told}
use Rattle.labelling.specs.Storing.{StoredAbove, AboveRoom, BeginRoom, Begun, Labelling}
use Rattle.labelling.specs.Gates.{LabelAsked, LabelsMade}
use Rattle.labelling.specs.Turning.{TurnAsked, TurnTaken, AlongAsked, Along}
use Rattle.labelling.proofs.Along.{place_gate, never_falls_here}
use Rattle.labelling.proofs.Done.{label_fits}
use Rattle.labelling.proofs.Owed.{by_order}
use Rattle.labelling.proofs.Stored.{labelling_none, labelling_more, labelling_made}

-- One turn

module _ {inputs nodes k : ℕ} {fanins order : List ℕ} {t : ℕ} {labels cuts roles links : List ℕ}
    (asked : TurnAsked inputs nodes k fanins order t labels cuts roles links) where
  node_here : t < nodes
  unfolding net_in
  node_here = asked.gate.below

  pub list_here : 7 * t + 7 ≤ length cuts
  list_here = let low = node_here in omega (arith, asked.room.cuts_long)

  -- what `peak` asks
  pub fed_here : Fed fanins t (length labels)
  fed_here = fed_in asked.drawing.drawn t node_here (length labels) asked.room.labels_long

  module _ {p : ℕ} (known : PeakIn fanins t labels p) where
    peak_here : p ≡ peak (net_in inputs nodes fanins) (label_in labels) t
    peak_here = known inputs nodes node_here

    -- what `store_above` asks
    pub above_room : AboveRoom fanins t p labels cuts
    above_room =
        let low = node_here in
        record {
          fanins_room = record { long = fed_here.long; six = fed_here.six };
          labels_long = omega (arith, asked.room.labels_long);
          cuts_long = list_here;
          fits = omega (arith, asked.fits, peak_here);
        }

    -- what `probe_gate` asks
    pub probe_asked : ProbeAsked inputs nodes k fanins order t p labels roles links (rest_of cuts (7 * t + 1))
    probe_asked =
        record {
          drawing = asked.drawing;
          gate = asked.gate;
          peak_known = peak_here;
          never_falls = asked.never_falls;
          labels_long = asked.room.labels_long;
          roles_long = asked.roles_long;
          links_long = asked.links_long;
          cut_long = omega (arith, rest_length cuts (7 * t + 1), list_here);
        }

    pub turn_over_inputs : {labels' cuts' : List ℕ} → p ≡ 0 → StoredAbove fanins t p labels cuts labels' cuts' →
        TurnTaken inputs nodes k fanins t labels cuts roles links labels' cuts' roles links
    turn_over_inputs none above =
        record {
          settled = record {
            label = suc p;
            cut = above.cut;
            told = Told.over_inputs (sym peak_here ∙ none) (ap suc none) (above.distinct inputs nodes node_here);
            stored = above.stored;
          };
          roles_used = beyond_same nodes roles;
          links_used = beyond_same (5 * nodes) links;
        }

    module _ (some : 1 ≤ p) {r : Option CutSize} {roles' links' part : List ℕ}
        (probed : GateProbed inputs nodes k fanins t labels roles links (rest_of cuts (7 * t + 1)) r roles' links' part) where
      -- a cut that is shown stands behind the gate's size
      least_stands : (list : List ℕ) → length list ≤ k → part ≡ sets (rest_of cuts (7 * t + 1)) 0 list →
          with_rest cuts (7 * t + 1) part ≡ sets cuts (7 * t + 1) list
      least_stands list few same = rest_stored cuts (7 * t + 1) list (omega (arith, list_here, asked.drawing.k_small)) same

      -- what comes back is as long as what was lent
      pub turn_length : length (with_rest cuts (7 * t + 1) part) ≡ length cuts
      turn_length = by_show probed.shown
        where
          by_show : Shown inputs nodes k fanins t labels links (rest_of cuts (7 * t + 1)) r links' part →
              length (with_rest cuts (7 * t + 1) part) ≡ length cuts
          by_show (Shown.paths _ _ _ _ same) = ap (λ (l : List ℕ). length l) (rest_kept cuts (7 * t + 1) same)
          by_show (Shown.least _ list _ _ least same) =
              ap (λ (l : List ℕ). length l) (least_stands list least.cut.few same)
              ∙ length-sets cuts (7 * t + 1) list

      -- paths leave the gate's places alone
      paths_keep : r ≡ None → with_rest cuts (7 * t + 1) part ≡ cuts
      paths_keep e = by_show probed.shown
        where
          by_show : Shown inputs nodes k fanins t labels links (rest_of cuts (7 * t + 1)) r links' part →
              with_rest cuts (7 * t + 1) part ≡ cuts
          by_show (Shown.paths _ _ _ _ same) = rest_kept cuts (7 * t + 1) same
          by_show (Shown.least size list f _ _ _) = absurd (let z : ◌≡◌ {A = ℕ} 0 1 = cc in omega arith)

      pub paths_room : r ≡ None → AboveRoom fanins t p labels (with_rest cuts (7 * t + 1) part)
      paths_room e = subst (AboveRoom fanins t p labels) (sym (paths_keep e)) above_room

      pub turn_paths : {labels' cuts' : List ℕ} → r ≡ None →
          StoredAbove fanins t p labels (with_rest cuts (7 * t + 1) part) labels' cuts' →
          TurnTaken inputs nodes k fanins t labels cuts roles links labels' cuts' roles' links'
      turn_paths {labels'} {cuts'} e there = by_show probed.shown
        where
          above : StoredAbove fanins t p labels cuts labels' cuts'
          above = subst (λ (l : List ℕ). StoredAbove fanins t p labels l labels' cuts') (paths_keep e) there

          by_show : Shown inputs nodes k fanins t labels links (rest_of cuts (7 * t + 1)) r links' part →
              TurnTaken inputs nodes k fanins t labels cuts roles links labels' cuts' roles' links'
          by_show (Shown.paths _ evidence _ _ _) =
              record {
                settled = record {
                  label = suc p;
                  cut = above.cut;
                  told =
                      Told.paths (omega (arith, peak_here)) (ap suc peak_here) (_, evidence)
                      (above.distinct inputs nodes node_here);
                  stored = above.stored;
                };
                roles_used = probed.roles_used;
                links_used = probed.links_used;
              }
          by_show (Shown.least size list f _ _ _) = absurd (let z : ◌≡◌ {A = ℕ} 0 1 = cc in omega arith)

      pub turn_cut : {size : CutSize} {labels' cuts' : List ℕ} → r ≡ Some size → labels' ≡ set labels t p →
          cuts' ≡ set (with_rest cuts (7 * t + 1) part) (7 * t) size.leaves →
          TurnTaken inputs nodes k fanins t labels cuts roles links labels' cuts' roles' links'
      turn_cut {size} {labels'} {cuts'} e label_stored size-stored = by_show probed.shown
        where
          by_show : Shown inputs nodes k fanins t labels links (rest_of cuts (7 * t + 1)) r links' part →
              TurnTaken inputs nodes k fanins t labels cuts roles links labels' cuts' roles' links'
          by_show (Shown.paths f _ _ _ _) = absurd (let z : ◌≡◌ {A = ℕ} 0 1 = cc in omega arith)
          by_show (Shown.least other list f many least same) =
              let sizes : size ≡ other = cc in
              record {
                settled = record {
                  label = p;
                  cut = list;
                  told = Told.cut (omega (arith, peak_here)) peak_here least;
                  stored = record {
                    label_stored = label_stored;
                    cut_stored =
                        size-stored
                        ∙ ap (λ (l : List ℕ). set l (7 * t) size.leaves) (least_stands list least.cut.few same)
                        ∙ sets_headed cuts (7 * t) list (ap (λ (s : CutSize). s.leaves) sizes ∙ sym many);
                  };
                };
                roles_used = probed.roles_used;
                links_used = probed.links_used;
              }

-- The turns along the order

pub gates_number : {inputs nodes k : ℕ} {fanins order : List ℕ} → Arranged inputs nodes k fanins order →
    inputs + length (take (nodes - inputs) order) ≡ nodes
unfolding net_in
gates_number drawing = drawing.ordered.size

pub along_none : (inputs nodes k : ℕ) (fanins order labels cuts roles links : List ℕ) →
    Along inputs nodes k fanins order 0 labels cuts roles links labels cuts roles links
along_none inputs nodes k fanins order labels cuts roles links =
    record { labelling = λ labels₀ cuts₀ begun. begun; roles_used = beyond_same nodes roles; links_used = beyond_same (5 * nodes) links }

pub along_all : {inputs nodes k : ℕ} {fanins order : List ℕ} {i : ℕ}
    {labels cuts roles links labels' cuts' roles' links' : List ℕ} → i ≡ nodes - inputs →
    Along inputs nodes k fanins order i labels cuts roles links labels' cuts' roles' links' →
    Along inputs nodes k fanins order (nodes - inputs) labels cuts roles links labels' cuts' roles' links'
along_all {inputs} {nodes} {k} {fanins} {order} {labels = labels} {cuts} {roles} {links} {labels'} {cuts'} {roles'} {links'} e along =
    subst (λ (n : ℕ). Along inputs nodes k fanins order n labels cuts roles links labels' cuts' roles' links') e along

-- the arrays keep their lengths
module _ {inputs nodes k : ℕ} {fanins order labels cuts roles links : List ℕ}
    (asked : AlongAsked inputs nodes k fanins order labels cuts roles links) {i : ℕ} {labels' cuts' roles' links' : List ℕ}
    (along : Along inputs nodes k fanins order i labels cuts roles links labels' cuts' roles' links') where
  so_far : Labelling (net_in inputs nodes fanins) k (take (nodes - inputs) order) i asked.labels₀ asked.cuts₀ labels' cuts'
  so_far = along.labelling asked.labels₀ asked.cuts₀ asked.begun

  pub labels_size : length labels' ≡ length labels
  labels_size = so_far.rest.labels_beyond.size ∙ sym asked.begun.rest.labels_beyond.size

  pub cuts_size : length cuts' ≡ length cuts
  cuts_size = so_far.rest.cuts_beyond.size ∙ sym asked.begun.rest.cuts_beyond.size

module _ {inputs nodes k : ℕ} {fanins order labels cuts roles links : List ℕ}
    (asked : AlongAsked inputs nodes k fanins order labels cuts roles links) {i : ℕ} (inside : i < nodes - inputs) {labels' cuts' roles' links' : List ℕ}
    (along : Along inputs nodes k fanins order i labels cuts roles links labels' cuts' roles' links') where
  ordered : Ordered (net_in inputs nodes fanins) (take (nodes - inputs) order)
  ordered = asked.drawing.ordered

  within : i < length (take (nodes - inputs) order)
  within = omega (arith, gates_number asked.drawing)

  so_far_here : Labelling (net_in inputs nodes fanins) k (take (nodes - inputs) order) i asked.labels₀ asked.cuts₀ labels' cuts'
  so_far_here = so_far asked along

  pub turn_asked : TurnAsked inputs nodes k fanins order (get_or (take (nodes - inputs) order) i 0) labels' cuts' roles' links'
  unfolding net_in
  turn_asked =
      let bounded = asked.drawing.drawn.bounded in
      record {
        drawing = asked.drawing;
        gate = place_gate bounded ordered i within;
        never_falls = never_falls_here bounded ordered (by_order asked.drawing) so_far_here.labelled within;
        fits = label_fits bounded ordered (by_order asked.drawing) so_far_here.labelled within (omega (arith, asked.drawing.small));
        room = so_far_here.room;
        roles_long = omega (arith, along.roles_used.size, asked.roles_long);
        links_long = omega (arith, along.links_used.size, asked.links_long);
      }

  pub along_more : {labels'' cuts'' roles'' links'' : List ℕ} →
      TurnTaken inputs nodes k fanins (get_or (take (nodes - inputs) order) i 0) labels' cuts' roles' links' labels'' cuts'' roles'' links'' →
      Along inputs nodes k fanins order (i + 1) labels cuts roles links labels'' cuts'' roles'' links''
  along_more taken =
      record {
        labelling = λ labels₀ cuts₀ begun.
            labelling_more asked.drawing.drawn.bounded ordered (by_order asked.drawing) asked.drawing.k_small within
            (along.labelling labels₀ cuts₀ begun) taken.settled.told taken.settled.stored;
        roles_used = beyond_then along.roles_used taken.roles_used;
        links_used = beyond_then along.links_used taken.links_used;
      }

-- From the start to the end

module _ {inputs nodes k : ℕ} {fanins order labels cuts roles links : List ℕ}
    (asked : LabelAsked inputs nodes k fanins order labels cuts roles links) where
  -- what `begin` asks
  pub begin_room : BeginRoom inputs nodes labels cuts
  begin_room = record { span = omega (arith, gates_number asked.drawing); small = asked.drawing.small; room = asked.room }

  module _ {labels₁ cuts₁ : List ℕ} (begun : Begun inputs nodes labels cuts labels₁ cuts₁) where
    start : Labelling (net_in inputs nodes fanins) k (take (nodes - inputs) order) 0 labels cuts labels₁ cuts₁
    unfolding net_in
    start = labelling_none k asked.drawing.drawn.bounded.span asked.drawing.ordered asked.room begun

    pub along_asked : AlongAsked inputs nodes k fanins order labels₁ cuts₁ roles links
    along_asked =
        record {
          drawing = asked.drawing;
          labels₀ = labels;
          cuts₀ = cuts;
          begun = start;
          roles_long = asked.roles_long;
          links_long = asked.links_long;
        }

    pub labels_made : {labels' cuts' roles₁ links₁ roles' links' : List ℕ} →
        Along inputs nodes k fanins order (nodes - inputs) labels₁ cuts₁ roles links labels' cuts' roles₁ links₁ →
        roles' ≡ cleared nodes roles₁ → links' ≡ cleared (5 * nodes) links₁ →
        LabelsMade inputs nodes k fanins labels cuts roles links labels' cuts' roles' links'
    labels_made along roles_clear links_clear =
        record {
          made = labelling_made asked.drawing.ordered (omega (arith, gates_number asked.drawing)) (along.labelling labels cuts start);
          roles_clear = roles_clear ∙ cleared_used nodes along.roles_used;
          links_clear = links_clear ∙ cleared_used (5 * nodes) along.links_used;
        }
