-- The steps of `cone_table`: the row that values make, the leaves' bits, and a pass along the order, each one entry at a time. A pass keeps
-- what it has computed, since no gate reads itself or a later one.
use Prim.Native.Nat.{ℕ, ◌+◌, ◌*◌, ◌-◌, ◌%◌, ◌≤◌, ◌<◌}
use native.Mathlib.Nat.{lt_of_lt_of_le}
use native.Mathlib.Decide.{dec_lt}
use native.Mathlib.Numerals.{add-one}
use native.Mathlib.Omega.{arith}
use mathlib.Core.Path.{◌≡◌, refl, ap, sym, subst, ◌∙◌}
use mathlib.Core.Logic.{◌⊎◌, inl, inr}
use mathlib.Core.Bool.{Bool, true, false}
use mathlib.Core.List.{List, map, Memᴰ}
use lib.ListN.{length, get_or, take, drop, set, length-map, length-take, length-drop, length-set}
use lib.Seq.{take_all, drop-drop, drop-cons, drop-length, get_or-take, get_or-drop, get_or-set_same, get_or-set_other}
use lib.Pow.{pow_mono}
use Rattle.storage.specs.Lists.{size_at, list_at}
use Rattle.theory.specs.paper.Values.{bit, row_of, result_at}
use Rattle.theory.proofs.Rows.{bit_below, result_lowest, row_below}
use Rattle.theory.proofs.Picks.{map_agree}
use Rattle.covering.specs.Cones.{value_in, result_in, GateFits, GateSettled, SweepFits, Swept}
use Rattle.covering.proofs.Stores.{stored_or_kept}

-- Values

result_of_bit : (b : Bool) → result_at (bit b) 0 ≡ b
unfolding result_at
result_of_bit true = refl
result_of_bit false = refl

result_of_leaf : (b : Bool) → result_at (2 + bit b) 0 ≡ b
unfolding result_at
result_of_leaf true = refl
result_of_leaf false = refl

module _ (values : List ℕ) (v : ℕ) where
  pub value_of_gate : {b : Bool} → get_or values v 0 ≡ bit b → value_in values v ≡ b
  unfolding value_in
  value_of_gate {b} e = ap (λ (x : ℕ). result_at x 0) e ∙ result_of_bit b

  pub value_of_leaf : {b : Bool} → get_or values v 0 ≡ 2 + bit b → value_in values v ≡ b
  unfolding value_in
  value_of_leaf {b} e = ap (λ (x : ℕ). result_at x 0) e ∙ result_of_leaf b

  pub digit_of_value : get_or values v 0 % 2 ≡ bit (value_in values v)
  unfolding value_in
  digit_of_value = sym (result_lowest (get_or values v 0))

same_value : (values other : List ℕ) (v : ℕ) → get_or values v 0 ≡ get_or other v 0 → value_in values v ≡ value_in other v
unfolding value_in
same_value values other v e = ap (λ (x : ℕ). result_at x 0) e

-- Rows

pub row_small : (f : ℕ → Bool) (us : List ℕ) → length us ≤ 6 → row_of (map f us) < 64
row_small f us few = lt_of_lt_of_le (row_below (map f us)) (pow_mono {i = length (map f us)} {j = 6} (simp length-map few))

-- the row that the nodes from the i-th on make
abbrev pub row_from : List ℕ → (at many : ℕ) → List ℕ → ℕ → ℕ
row_from ids at many values i = row_of (map (value_in values) (drop i (take many (drop at ids))))

module _ (ids : List ℕ) (at many : ℕ) (values : List ℕ) (inside : at + many ≤ length ids) where
  part_long : length (take many (drop at ids)) ≡ many
  part_long = simp (length-take, length-drop) (omega arith)

  pub row_from_end : row_from ids at many values many ≡ 0
  unfolding row_of
  row_from_end = let none = drop-length (take many (drop at ids)) in let none' = rw part_long at none in rw none'

  pub row_from_more : (i : ℕ) → i < many → row_from ids at many values i ≡ 2 * row_from ids at many values (i + 1) + get_or values (get_or ids (at + i) 0) 0 % 2
  unfolding row_of
  row_from_more i h =
      let first : get_or (take many (drop at ids)) i 0 ≡ get_or ids (at + i) 0 = get_or-take many (drop at ids) i 0 h ∙ get_or-drop at ids i 0 in
      let split = drop-cons (take many (drop at ids)) i 0 (omega (arith, part_long)) in
      rw (add-one i, split, first, digit_of_value) (omega arith)

  pub row_from_small : (i : ℕ) → many ≤ 6 → row_from ids at many values i < 64
  row_from_small i few = row_small (value_in values) (drop i (take many (drop at ids))) (simp length-drop (omega (arith, part_long)))

-- One gate

module _ (fanins rows : List ℕ) (v : ℕ) (values : List ℕ) where
  abbrev pub row_at : ℕ
  row_at = row_of (map (value_in values) (list_at fanins v))

  -- the places from the gate's own on, which are lent
  abbrev gate_part : List ℕ
  gate_part = take (length fanins - 7 * v) (drop (7 * v) fanins)

  part_is : gate_part ≡ drop (7 * v) fanins
  part_is = take_all (length fanins - 7 * v) (drop (7 * v) fanins) (simp length-drop (omega arith))

  -- the row of a list whose size was read
  pub gate_row : {row size : ℕ} → row ≡ row_of (map (value_in values) (take (size % 8) (drop 1 gate_part))) → size ≡ size_at fanins v →
      size_at fanins v ≤ 6 → row ≡ row_at
  gate_row {size = size} e is few =
      let same : size % 8 ≡ size_at fanins v = omega arith in
      e ∙ ap (λ (n : ℕ). row_of (map (value_in values) (take n (drop 1 gate_part)))) same
      ∙ ap (λ (l : List ℕ). row_of (map (value_in values) (take (size_at fanins v) l))) (ap (drop 1) part_is ∙ drop-drop 1 (7 * v) fanins)

  pub gate_row_small : GateFits fanins rows v (length values) → row_at < 64
  gate_row_small fit = row_small (value_in values) (list_at fanins v) (simp length-take (omega (arith, fit.row.few)))

  pub gate_stored_lem : {row r : ℕ} → row ≡ row_at → r ≡ bit (result_at (get_or rows v 0) row) → get_or values v 0 < 2 → GateSettled fanins rows v values (set values v r)
  unfolding result_in
  gate_stored_lem e result free =
      record {
        leaf = λ large. absurd (omega arith);
        gate = λ _. ap (set values v) (result ∙ ap (λ (n : ℕ). bit (result_at (get_or rows v 0) n)) e);
      }

-- A pass along the order

module _ (fanins rows order : List ℕ) (before : List ℕ) where
  module _ (upto i : ℕ) (fit : SweepFits fanins rows order upto (length before)) (h : i < upto) {now : List ℕ} (so_far : Swept fanins rows order i before now) where
    -- the i-th gate is a leaf: nothing is stored
    swept_leaf : 2 ≤ get_or before (get_or order i 0) 0 → Swept fanins rows order (i + 1) before now
    swept_leaf leaf =
        record {
          long = so_far.long;
          leaves = so_far.leaves;
          gates = so_far.gates;
          others = λ v free. so_far.others v (λ j less. free j (omega arith));
          results = λ j less gate. so_far.results j (let other : j ≡ i → ⊥ = λ e. let same = ap (λ (n : ℕ). get_or before (get_or order n 0) 0) e in omega arith in omega arith) gate;
        }

    module _ (gate : get_or before (get_or order i 0) 0 < 2) where
      after : List ℕ
      after = set now (get_or order i 0) (bit (result_in fanins rows now (get_or order i 0)))

      room : get_or order i 0 < length now
      room = omega (arith, (fit.gates i h).values_long, so_far.long)

      kept : (v : ℕ) → (v ≡ get_or order i 0 → ⊥) → get_or after v 0 ≡ get_or now v 0
      unfolding after
      kept v apart = get_or-set_other now (get_or order i 0) v _ 0 apart

      stored : value_in after (get_or order i 0) ≡ result_in fanins rows now (get_or order i 0)
      unfolding after
      stored = value_of_gate _ (get_or order i 0) (get_or-set_same now (get_or order i 0) _ 0 room)

      -- what the gates up to here read is as it was
      same_result : (j : ℕ) → j ≤ i → result_in fanins rows after (get_or order j 0) ≡ result_in fanins rows now (get_or order j 0)
      unfolding result_in
      same_result j less =
          ap (λ (bs : List Bool). result_at (get_or rows (get_or order j 0) 0) (row_of bs))
          (map_agree (value_in after) (value_in now) (list_at fanins (get_or order j 0)) (λ u m.
          same_value after now u (kept u (λ e. fit.earlier j i less h (subst (λ (w : ℕ). Memᴰ w (list_at fanins (get_or order j 0))) e m)))))

      swept_gate : Swept fanins rows order (i + 1) before after
      unfolding after
      swept_gate =
          record {
            long = simp length-set so_far.long;
            leaves = λ v leaf. kept v (λ e. let same = ap (λ (w : ℕ). get_or before w 0) e in omega arith) ∙ so_far.leaves v leaf;
            gates = λ v free. small v free (stored_or_kept now (get_or order i 0) (bit (result_in fanins rows now (get_or order i 0))) v room);
            others = λ v free. kept v (λ e. free i (omega arith) (sym e)) ∙ so_far.others v (λ j less. free j (omega arith));
            results = λ j less free. at j less free (dec_lt j i);
          }
        where
          small : (v : ℕ) → get_or before v 0 < 2 →
              ((v ≡ get_or order i 0) × (get_or after v 0 ≡ bit (result_in fanins rows now (get_or order i 0))))
              ⊎ ((v ≡ get_or order i 0 → ⊥) × (get_or after v 0 ≡ get_or now v 0)) → get_or after v 0 < 2
          small v free (inl (e, new)) = omega (arith, new, bit_below (result_in fanins rows now (get_or order i 0)))
          small v free (inr (apart, old)) = omega (arith, old, so_far.gates v free)

          at : (j : ℕ) → j < i + 1 → get_or before (get_or order j 0) 0 < 2 → Dec (j < i) → value_in after (get_or order j 0) ≡ result_in fanins rows after (get_or order j 0)
          at j less free (yes l) =
              same_value after now (get_or order j 0) (kept (get_or order j 0) (fit.once j i l h)) ∙ so_far.results j l free ∙ sym (same_result j (omega arith))
          at j less free (no l) =
              let e : i ≡ j = omega arith in
              subst (λ (n : ℕ). value_in after (get_or order n 0) ≡ result_in fanins rows after (get_or order n 0)) e (stored ∙ sym (same_result i (omega arith)))

    pub swept_more : {next : List ℕ} → GateSettled fanins rows (get_or order i 0) now next → Swept fanins rows order (i + 1) before next
    unfolding after
    swept_more {next} settled = by (dec_lt (get_or before (get_or order i 0) 0) 2)
      where
        by : Dec (get_or before (get_or order i 0) 0 < 2) → Swept fanins rows order (i + 1) before next
        by (yes gate) = rw (settled.gate (so_far.gates (get_or order i 0) gate)) (swept_gate gate)
        by (no leaf) =
            let large : 2 ≤ get_or before (get_or order i 0) 0 = omega arith in
            rw (settled.leaf (omega (arith, so_far.leaves (get_or order i 0) large))) (swept_leaf large)
