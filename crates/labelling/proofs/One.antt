-- What labelling promises is one content of the arrays: labels are one number, the mapper's cut is one list, and all else is as before. What finding
-- evidence promises is one content but for the choice of paths.
use Prim.Native.Nat.{ℕ, ◌+◌, ◌*◌, ◌-◌, ◌/◌, ◌%◌, ◌≤◌, ◌<◌}
use native.Mathlib.Decide.{dec_lt, ℕ_discrete}
use native.Mathlib.Omega.{arith}
use mathlib.Core.Path.{◌≡◌, sym, ap, ◌∙◌}
use mathlib.Core.Logic.{◌⊎◌, inl, inr}
use mathlib.Core.List.{List, []}
use lib.ListN.{length, get_or}
use lib.Seq.{ext_get_or}
use Rattle.storage.specs.Drawings.{net_in}
use Rattle.storage.specs.Lists.{size_at, entry_at, list_at}
use Rattle.storage.proofs.Clears.{beyond_entry}
use Rattle.storage.proofs.InLists.{list_size, list_entry}
use Rattle.theory.specs.paper.Net.{Net, Gate, Input}
use Rattle.theory.specs.paper.Sound.{Bounded, Ranked}
use Rattle.theory.proofs.Walks.{input_or_gate}
use Rattle.theory.proofs.Labels.{label_is_one}
use Rattle.theory.proofs.MappersCuts.{mappers_cut_is_one}
use Rattle.flow.proofs.Unique.{SameLinks, links_one}
use Rattle.labelling.specs.Evidence.{EvidenceAsked, EvidenceFound}
use Rattle.labelling.specs.Storing.{LabellingMade}
use Rattle.labelling.specs.Gates.{LabelsMade}

module _ {net : Net} {k : ℕ} (bounded : Bounded net k) (ranked : Ranked net) {labels₀ cuts₀ labels cuts labels' cuts' : List ℕ}
    (a : LabellingMade net k labels₀ cuts₀ labels cuts) (b : LabellingMade net k labels₀ cuts₀ labels' cuts') where
  pub labels_one : labels ≡ labels'
  labels_one =
      ext_get_or 0 labels labels' (a.rest.labels_beyond.size ∙ sym b.rest.labels_beyond.size) (λ v _. by_place v (dec_lt v net.nodes))
    where
      by_place : (v : ℕ) → Dec (v < net.nodes) → get_or labels v 0 ≡ get_or labels' v 0
      by_place v (yes low) = label_is_one (a.label v low []) (b.label v low [])
      by_place v (no high) = beyond_entry a.rest.labels_beyond v (omega arith) ∙ sym (beyond_entry b.rest.labels_beyond v (omega arith))

  module _ (same : labels ≡ labels') where
    list_one : {v : ℕ} → Gate net v → list_at cuts v ≡ list_at cuts' v
    list_one {v} gate = mappers_cut_is_one bounded ranked gate (a.cut v gate) (rw same (b.cut v gate))

    long_a : (v : ℕ) → v < net.nodes → 7 * v + 7 ≤ length cuts
    long_a v low = omega (arith, a.room.cuts_long)

    long_b : (v : ℕ) → v < net.nodes → 7 * v + 7 ≤ length cuts'
    long_b v low = omega (arith, b.room.cuts_long)

    size_one : (v : ℕ) → v < net.nodes → size_at cuts v ≡ size_at cuts' v
    size_one v low = by_kind (input_or_gate v low)
      where
        by_kind : Input net v ⊎ Gate net v → size_at cuts v ≡ size_at cuts' v
        by_kind (inl i) = a.inputs_none v i ∙ sym (b.inputs_none v i)
        by_kind (inr gate) =
            sym (list_size cuts v (long_a v low) (a.six v low))
            ∙ ap (λ (l : List ℕ). length l) (list_one gate)
            ∙ list_size cuts' v (long_b v low) (b.six v low)

    entry_one : (v i : ℕ) → v < net.nodes → i < 6 → entry_at cuts v i ≡ entry_at cuts' v i
    entry_one v i low six = by_use (dec_lt i (size_at cuts v)) (input_or_gate v low)
      where
        by_use : Dec (i < size_at cuts v) → Input net v ⊎ Gate net v → entry_at cuts v i ≡ entry_at cuts' v i
        by_use (no more) _ =
            let e = size_one v low in
            a.rest.unused v i low six (omega arith) ∙ sym (b.rest.unused v i low six (omega arith))
        by_use (yes less) (inr gate) =
            let e = size_one v low in
            sym (list_entry cuts v (long_a v low) (a.six v low) i less)
            ∙ ap (λ (l : List ℕ). get_or l i 0) (list_one gate)
            ∙ list_entry cuts' v (long_b v low) (b.six v low) i (omega arith)
        by_use (yes less) (inl input) = let none = a.inputs_none v input in absurd (omega arith)

    pub cuts_one : cuts ≡ cuts'
    cuts_one =
        ext_get_or 0 cuts cuts' (a.rest.cuts_beyond.size ∙ sym b.rest.cuts_beyond.size)
        (λ n _. by_place n (dec_lt n (7 * net.nodes)) (ℕ_discrete (n % 7) 0))
      where
        by_place : (n : ℕ) → Dec (n < 7 * net.nodes) → Dec (n % 7 ≡ 0) → get_or cuts n 0 ≡ get_or cuts' n 0
        by_place n (yes low) (yes first) =
            let e : 7 * (n / 7) ≡ n = omega arith in
            ap (λ (w : ℕ). get_or cuts w 0) (sym e) ∙ size_one (n / 7) (omega arith) ∙ ap (λ (w : ℕ). get_or cuts' w 0) e
        by_place n (yes low) (no later) =
            let e : 7 * (n / 7) + 1 + (n % 7 - 1) ≡ n = omega arith in
            ap (λ (w : ℕ). get_or cuts w 0) (sym e) ∙ entry_one (n / 7) (n % 7 - 1) (omega arith) (omega arith) ∙ ap (λ (w : ℕ). get_or cuts' w 0) e
        by_place n (no high) _ = beyond_entry a.rest.cuts_beyond n (omega arith) ∙ sym (beyond_entry b.rest.cuts_beyond n (omega arith))

-- The promise of `label_gates`

pub record OneLabelling (labels cuts roles links labels' cuts' roles' links' : List ℕ) : Type 0 where
  pub labels_same : labels ≡ labels'
  pub cuts_same : cuts ≡ cuts'
  pub roles_same : roles ≡ roles'
  pub links_same : links ≡ links'

module _ {inputs nodes k : ℕ} {fanins : List ℕ} (bounded : Bounded (net_in inputs nodes fanins) k) (ranked : Ranked (net_in inputs nodes fanins)) where
  pub labels_made_one : {labels₀ cuts₀ roles₀ links₀ labels cuts roles links labels' cuts' roles' links' : List ℕ} →
      LabelsMade inputs nodes k fanins labels₀ cuts₀ roles₀ links₀ labels cuts roles links →
      LabelsMade inputs nodes k fanins labels₀ cuts₀ roles₀ links₀ labels' cuts' roles' links' →
      OneLabelling labels cuts roles links labels' cuts' roles' links'
  labels_made_one a b =
      let same = labels_one bounded ranked a.made b.made in
      record {
        labels_same = same;
        cuts_same = cuts_one bounded ranked a.made b.made same;
        roles_same = a.roles_clear ∙ sym b.roles_clear;
        links_same = a.links_clear ∙ sym b.links_clear;
      }

-- The promise of `find_evidence`: "any true set will do", so the paths are free; where they are the same, so are all the links.

pub record OneButPaths (inputs nodes : ℕ) (roles links roles' links' : List ℕ) : Type 0 where
  pub roles_same : roles ≡ roles'
  pub links_same : SameLinks inputs nodes links links'

pub evidence_found_one : {inputs nodes k : ℕ} {fanins order labels : List ℕ} {t : ℕ} {roles₀ links₀ roles links roles' links' : List ℕ} →
    EvidenceAsked inputs nodes k fanins order labels t roles₀ links₀ → EvidenceFound inputs nodes k fanins labels t roles₀ links₀ roles links →
    EvidenceFound inputs nodes k fanins labels t roles₀ links₀ roles' links' → OneButPaths inputs nodes roles links roles' links'
evidence_found_one asked a b =
    record {
      roles_same = a.roles_clear ∙ sym b.roles_clear;
      links_same = links_one asked.drawing asked.links_long a.links b.links a.left b.left;
    }
