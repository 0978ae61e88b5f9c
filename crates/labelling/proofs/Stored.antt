-- Labelling in arrays: it begins with labels 0 at the inputs and no leaves; each gate's label and cut are stored at its turn; at the end all stand.
use Prim.Native.Nat.{ℕ, ◌+◌, ◌*◌, ◌≤◌, ◌<◌}
use native.Mathlib.Nat.{not-suc-le-zero}
use native.Mathlib.Decide.{ℕ_discrete, dec_lt}
use native.Mathlib.Omega.{arith}
use mathlib.Core.Path.{◌≡◌, refl, sym, ap, subst, ◌∙◌}
use mathlib.Core.Logic.{◌⊎◌, inl, inr}
use mathlib.Core.List.{List, ◌∷◌}
use lib.ListN.{length, get_or, set, length-set}
use lib.Seq.{sets, get_or-set_same, get_or-set_other, drop-set-lt}
use Rattle.storage.specs.Drawings.{Ordered}
use Rattle.storage.specs.Entries.{cleared, Beyond}
use Rattle.storage.specs.Lists.{size_at, entry_at, list_at}
use Rattle.storage.proofs.Clears.{drop_same, cleared_size, cleared_low, cleared_beyond, beyond_same, beyond_then, beyond_wider}
use Rattle.storage.proofs.Entries.{member_at}
use Rattle.storage.proofs.InLists.{put_length, put_size, put_list, put_beside, put_other_size, put_other}
use Rattle.storage.proofs.Stores.{stored_beside}
use Rattle.theory.specs.paper.Net.{Net, Gate}
use Rattle.theory.specs.paper.Sound.{Bounded, Ranked}
use Rattle.theory.proofs.Walks.{gate_no_input}
use Rattle.theory.proofs.Cuts.{cut_of_fanins}
use Rattle.area.specs.Area.{label_in}
use Rattle.labelling.specs.Labelling.{Told, LabelledTo}
use Rattle.labelling.specs.Storing.{Stored, Room, Emptied, Begun, Labelling, LabellingMade}
use Rattle.labelling.proofs.Along.{apart_places, place_gate, labelled_more}
use Rattle.labelling.proofs.Done.{all_labels, all_cuts}

-- the leaves found are no more than K
told_short : {net : Net} {k : ℕ} {lab : ℕ → ℕ} {t label : ℕ} {cut : List ℕ} → Bounded net k → Ranked net → Gate net t →
    Told net k lab t label cut → length cut ≤ k
told_short bounded ranked gate (Told.over_inputs _ _ fanins) = (cut_of_fanins bounded ranked gate fanins).few
told_short bounded ranked gate (Told.cut _ _ least) = least.cut.few
told_short bounded ranked gate (Told.paths _ _ _ fanins) = (cut_of_fanins bounded ranked gate fanins).few

-- The start

pub emptied_none : (cuts : List ℕ) → Emptied 0 cuts cuts
emptied_none cuts = record { none = λ v low. absurd (not-suc-le-zero low); kept = λ v i low. refl; rest = beyond_same 0 cuts }

pub emptied_more : {cuts cuts' after : List ℕ} {many : ℕ} → 7 * many < length cuts → Emptied many cuts cuts' → after ≡ set cuts' (7 * many) 0 →
    Emptied (many + 1) cuts after
emptied_more {cuts} {cuts'} {many = many} long so_far e = rw e step
  where
    none_at : (v : ℕ) → v < many + 1 → Dec (v < many) → size_at (set cuts' (7 * many) 0) v ≡ 0
    none_at v low (yes old) = get_or-set_other cuts' (7 * many) (7 * v) 0 0 (λ same. omega arith) ∙ so_far.none v old
    none_at v low (no new) =
        let here : v ≡ many = omega arith in
        ap (size_at (set cuts' (7 * many) 0)) here ∙ get_or-set_same cuts' (7 * many) 0 0 (omega (arith, so_far.rest.size))

    more : Beyond (7 * (many + 1)) cuts' (set cuts' (7 * many) 0)
    more = record { size = length-set cuts' (7 * many) 0; beyond = drop-set-lt (7 * (many + 1)) cuts' (7 * many) 0 (omega arith) }

    step : Emptied (many + 1) cuts (set cuts' (7 * many) 0)
    step =
        record {
          none = λ v low. none_at v low (dec_lt v many);
          kept = λ v i low. get_or-set_other cuts' (7 * many) (7 * v + 1 + i) 0 0 (λ same. omega arith) ∙ so_far.kept v i low;
          rest = beyond_then (beyond_wider (omega arith) so_far.rest) more;
        }

pub emptied_all : {many nodes : ℕ} {cuts cuts' : List ℕ} → many ≡ nodes → Emptied many cuts cuts' → Emptied nodes cuts cuts'
emptied_all {cuts = cuts} {cuts'} e all = subst (λ (n : ℕ). Emptied n cuts cuts') e all

pub labelling_none : {net : Net} (k : ℕ) {order : List ℕ} {labels cuts labels' cuts' : List ℕ} → net.inputs ≤ net.nodes → Ordered net order →
    Room net.nodes labels cuts → Begun net.inputs net.nodes labels cuts labels' cuts' → Labelling net k order 0 labels cuts labels' cuts'
labelling_none {net} k {order} {labels} {cuts} {labels'} {cuts'} span ordered room begun = rw begun.labels_cleared start
  where
    empty : Emptied net.nodes cuts cuts'
    empty = begun.cuts_emptied

    long : net.inputs ≤ length labels
    long = omega (arith, room.labels_long)

    start : Labelling net k order 0 labels cuts (cleared net.inputs labels) cuts'
    start =
        record {
          room = record {
            labels_long = omega (arith, cleared_size net.inputs labels long, room.labels_long);
            cuts_long = omega (arith, empty.rest.size, room.cuts_long);
          };
          labelled = record {
            inputs = λ v i. cleared_low net.inputs labels long v i;
            label = λ j low. absurd (not-suc-le-zero low);
            cut = λ j low. absurd (not-suc-le-zero low);
          };
          six = λ v low. omega (arith, empty.none v low);
          inputs_none = λ v i. empty.none v (omega arith);
          to_come = λ j _ inside. empty.none (get_or order j 0) (ordered.gates (get_or order j 0) (member_at order j inside)).below;
          rest = record {
            labels_beyond = beyond_wider span (cleared_beyond net.inputs labels long);
            cuts_beyond = empty.rest;
            unused = λ v i low six none. empty.kept v i six;
          };
        }

-- The step

module _ {net : Net} {k : ℕ} {order : List ℕ} (bounded : Bounded net k) (ordered : Ordered net order) (ranked : Ranked net) (small : k ≤ 6)
    {i : ℕ} (inside : i < length order) {labels₀ cuts₀ labels cuts : List ℕ} (so_far : Labelling net k order i labels₀ cuts₀ labels cuts)
    {label : ℕ} {cut : List ℕ} (told : Told net k (label_in labels) (get_or order i 0) label cut) where
  abbrev t : ℕ
  t = get_or order i 0

  gate_here : Gate net t
  gate_here = place_gate bounded ordered i inside

  few : length cut ≤ 6
  few = omega (arith, told_short bounded ranked gate_here told)

  long : 7 * t + 7 ≤ length cuts
  long = omega (arith, so_far.room.cuts_long, gate_here.below)

  abbrev labels' : List ℕ
  labels' = set labels t label

  abbrev cuts' : List ℕ
  cuts' = sets cuts (7 * t) (length cut ∷ cut)

  kept : length cuts' ≡ length cuts
  kept = put_length cuts t cut long few

  other_size : {v : ℕ} → (v ≡ t → ⊥) → size_at cuts' v ≡ size_at cuts v
  other_size {v} apart = put_other_size cuts t cut long few v apart

  own_size : {v : ℕ} → v ≡ t → size_at cuts' v ≡ length cut
  own_size e = ap (size_at cuts') e ∙ put_size cuts t cut long few

  earlier : (j : ℕ) → j < i → list_at cuts' (get_or order j 0) ≡ list_at cuts (get_or order j 0)
  earlier j less =
      let g : Gate net (get_or order j 0) = place_gate bounded ordered j (omega arith) in
      put_other cuts t cut long few (get_or order j 0) (apart_places ordered.once i j inside less) (omega (arith, so_far.room.cuts_long, g.below))
      (so_far.six (get_or order j 0) g.below)

  unused_more : (v n : ℕ) → Dec (v ≡ t) → v < net.nodes → n < 6 → size_at cuts' v ≤ n → entry_at cuts' v n ≡ entry_at cuts₀ v n
  unused_more v n (yes e) low six high =
      let none : size_at cuts v ≡ 0 = ap (size_at cuts) e ∙ so_far.to_come i (omega arith) inside in
      stored_beside cuts (7 * t) (length cut ∷ cut) (7 * v + 1 + n) (inr (omega (arith, own_size e))) ∙ so_far.rest.unused v n low six (omega arith)
  unused_more v n (no apart) low six high =
      put_beside cuts t cut long few (7 * v + 1 + n) (beside (dec_lt v t)) ∙ so_far.rest.unused v n low six (omega (arith, other_size apart))
    where
      beside : Dec (v < t) → (7 * v + 1 + n < 7 * t) ⊎ (7 * t + 7 ≤ 7 * v + 1 + n)
      beside (yes less) = inl (omega arith)
      beside (no more) = let above : t < v = omega arith in inr (omega arith)

  six_more : (v : ℕ) → Dec (v ≡ t) → v < net.nodes → size_at cuts' v ≤ 6
  six_more v (yes e) low = omega (arith, own_size e, few)
  six_more v (no apart) low = omega (arith, other_size apart, so_far.six v low)

  cuts_beyond : Beyond (7 * net.nodes) cuts cuts'
  cuts_beyond =
      let below = gate_here.below in
      record {
        size = kept;
        beyond = drop_same (7 * net.nodes) cuts' cuts kept (λ v far. put_beside cuts t cut long few v (inr (omega arith)));
      }

  labels_beyond : Beyond net.nodes labels labels'
  labels_beyond = record { size = length-set labels t label; beyond = drop-set-lt net.nodes labels t label gate_here.below }

  step : Labelling net k order (i + 1) labels₀ cuts₀ labels' cuts'
  step =
      let room = so_far.room in
      record {
        room = record {
          labels_long = omega (arith, room.labels_long, length-set labels t label);
          cuts_long = omega (arith, room.cuts_long, kept);
        };
        labelled = labelled_more bounded ordered ranked so_far.labelled inside told (label_in labels') (list_at cuts')
            (get_or-set_same labels t label 0 (omega (arith, room.labels_long, gate_here.below)))
            (λ v apart. get_or-set_other labels t v label 0 apart) (put_list cuts t cut long few) earlier;
        six = λ v low. six_more v (ℕ_discrete v t) low;
        inputs_none = λ v input. other_size (λ e. gate_no_input (subst (Gate net) (sym e) gate_here) input) ∙ so_far.inputs_none v input;
        to_come = λ j late far. other_size (λ e. apart_places ordered.once j i far (omega arith) (sym e)) ∙ so_far.to_come j (omega arith) far;
        rest = record {
          labels_beyond = beyond_then so_far.rest.labels_beyond labels_beyond;
          cuts_beyond = beyond_then so_far.rest.cuts_beyond cuts_beyond;
          unused = λ v n low six high. unused_more v n (ℕ_discrete v t) low six high;
        };
      }

  pub labelling_more : {ls cs : List ℕ} → Stored t label cut labels cuts ls cs → Labelling net k order (i + 1) labels₀ cuts₀ ls cs
  labelling_more stored = rw (stored.label_stored, stored.cut_stored) step

-- The end

pub labelling_made : {net : Net} {k : ℕ} {order : List ℕ} {i : ℕ} {labels₀ cuts₀ labels cuts : List ℕ} → Ordered net order →
    i ≡ length order → Labelling net k order i labels₀ cuts₀ labels cuts → LabellingMade net k labels₀ cuts₀ labels cuts
labelling_made {net} {k} {order} {labels = labels} {cuts} ordered e all =
    let done = subst (λ (n : ℕ). LabelledTo net k order n (label_in labels) (list_at cuts)) e all.labelled in
    record {
      room = all.room;
      label = all_labels ordered done;
      cut = all_cuts ordered done;
      six = all.six;
      inputs_none = all.inputs_none;
      rest = all.rest;
    }
