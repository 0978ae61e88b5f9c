-- What a sound field says: each rule read the other way round.
use Prim.Native.Nat.{ℕ, ◌+◌, ◌-◌, ◌^◌, ◌≤◌, ◌<◌}
use mathlib.Core.Path.{◌≡◌, refl}
use mathlib.Core.Bool.{Bool, true, false, not, ◌||◌}
use mathlib.Core.List.{List, ◌++◌}
use native.Mathlib.Omega.{arith}
use borrow.Author.Tests.{ltb-false, leb-false, eqb-true, not-false}
use lib.ListN.{length, get_or}
use lib.Dec.{ltb, eqb}
use Rattle.drawing.specs.declared.TableForm.{TableForm}
use Rattle.std.specs.Prelude.{Ok}
use Rattle.drawing.specs.paper.Limits.{least_k, most_k, least_inputs, most_inputs, version, frame_size}
use Rattle.drawing.specs.paper.Bytes.{length_at, value_at, some_from}
use Rattle.drawing.specs.paper.Forms.{form_of, gates_start, gate_size, least_gate, most_gate}
use Rattle.drawing.specs.Forms.{Formed}
use Rattle.drawing.specs.paper.Fields.{frame_rules, head_rules, head_verdict, head_k, head_i, head_g}
use Rattle.drawing.specs.paper.Fields.{gate_rules, gate_verdict, gate_m, gate_ids, gate_table, output_rules, output_verdict, output_id}
use Rattle.drawing.proofs.Verdicts.{none_holds}
use Rattle.drawing.proofs.Ids.{some_id}

pub neither : (a : Bool) {b : Bool} → (a || b) ≡ false → (a ≡ false) × (b ≡ false)
neither true e = absurd (mathlib.Core.Bool.true≢false e)
neither false e = (refl, e)

-- ids have one byte
pub formed_of : (s : List ℕ) → Formed (form_of s)
formed_of s = record { narrow = record { some = omega arith; few = omega arith }; sized = omega arith }

pub record SoundHead (s : List ℕ) : Type 0 where
  pub whole : gates_start (form_of s) ≤ length s
  pub k_least : least_k ≤ head_k s
  pub k_most : head_k s ≤ most_k
  pub inputs_least : least_inputs ≤ head_i s
  pub inputs_most : head_i s ≤ most_inputs
  pub nodes_least : (form_of s).least ≤ head_i s + head_g s
  pub nodes_most : head_i s + head_g s ≤ (form_of s).most

pub head_sound : (s : List ℕ) → head_verdict s ≡ Ok tt → SoundHead s
unfolding head_verdict
head_sound s e =
    let form = form_of s in
    let nodes = head_i s + head_g s in
    let rules = none_holds (frame_rules s 0 form.head false ++ head_rules form s) tt e in
    let size = eqb-true (length_at s 0) form.size (not-false (eqb (length_at s 0) form.size) rules.1.1.1.1.0) in
    let version = neither (not (eqb (get_or s frame_size 0) version)) rules.1.1.1.1.1.0 in
    let k_least = neither (ltb (head_k s) least_k) version.1 in
    let k_most = neither (ltb most_k (head_k s)) k_least.1 in
    let inputs_least = neither (ltb (head_i s) least_inputs) k_most.1 in
    let inputs_most = neither (ltb most_inputs (head_i s)) inputs_least.1 in
    let nodes_least = neither (ltb nodes form.least) inputs_most.1 in
    record {
      whole = omega (arith, ltb-false (length s - 0) frame_size rules.0, ltb-false (length s - value_at 0) (length_at s 0) rules.1.1.1.0);
      k_least = ltb-false (head_k s) least_k k_least.0;
      k_most = ltb-false most_k (head_k s) k_most.0;
      inputs_least = ltb-false (head_i s) least_inputs inputs_least.0;
      inputs_most = ltb-false most_inputs (head_i s) inputs_most.0;
      nodes_least = ltb-false nodes form.least nodes_least.0;
      nodes_most = ltb-false form.most nodes nodes_least.1;
    }

module _ (form : TableForm) (s : List ℕ) where
  pub record SoundGate (at k nodes : ℕ) : Type 0 where
    pub whole : value_at at + length_at s at ≤ length s
    pub size : length_at s at ≡ gate_size form (gate_m s at)
    pub some : 1 ≤ gate_m s at
    pub few : gate_m s at ≤ k
    pub nodes_only : some_from nodes (gate_ids form s at) ≡ false
    pub rows : gate_table form s at < 2 ^ (2 ^ gate_m s at)

  pub gate_sound : Formed form → (at k nodes : ℕ) → at ≤ length s → gate_verdict form s at k nodes ≡ Ok tt → SoundGate at k nodes
  unfolding gate_verdict
  gate_sound formed at k nodes inside e =
      let long = length_at s at in
      let m = gate_m s at in
      let rules = none_holds (frame_rules s at form.gate false ++ gate_rules form s at k nodes) tt e in
      let least = neither (ltb long (least_gate form)) rules.1.1.1.1.0 in
      let most = neither (ltb (most_gate form) long) least.1 in
      let range = neither (ltb k m) rules.1.1.1.1.1.0 in
      let size : long ≡ gate_size form m = eqb-true long (gate_size form m) (not-false (eqb long (gate_size form m)) most.1) in
      record {
        whole = omega (arith, ltb-false (length s - at) frame_size rules.0, ltb-false (length s - value_at at) long rules.1.1.1.0);
        size = size;
        some = some_id m form.width formed.narrow.some (omega (arith, ltb-false long (least_gate form) least.0, size));
        few = ltb-false k m range.0;
        nodes_only = range.1;
        rows = leb-false (2 ^ (2 ^ m)) (gate_table form s at) rules.1.1.1.1.1.1.0;
      }

  pub record SoundOutput (at room nodes : ℕ) : Type 0 where
    pub whole : value_at at + form.width ≤ length s
    pub wanted : 1 ≤ room
    pub node : output_id form s at < nodes

  pub output_sound : (at room nodes : ℕ) → at ≤ length s → output_verdict form s at room nodes ≡ Ok tt → SoundOutput at room nodes
  unfolding output_verdict
  output_sound at room nodes inside e =
      let rules = none_holds (frame_rules s at form.output (eqb room 0) ++ output_rules form s at nodes) tt e in
      let size = eqb-true (length_at s at) form.width (not-false (eqb (length_at s at) form.width) rules.1.1.1.1.0) in
      let wanted = borrow.Author.Tests.eqb-false room 0 rules.1.1.0 in
      record {
        whole = omega (arith, ltb-false (length s - at) frame_size rules.0, ltb-false (length s - value_at at) (length_at s at) rules.1.1.1.0);
        wanted = omega arith;
        node = leb-false nodes (output_id form s at) rules.1.1.1.1.1.0;
      }
