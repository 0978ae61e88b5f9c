-- LUTs written one by one are the fields of the LUTs of all marked nodes, roots rising.
use Prim.Native.Nat.{ℕ, zero, suc, ◌+◌, ◌≤◌, ◌<◌}
use native.Mathlib.Numerals.{add-one}
use native.Mathlib.Decide.{dec_lt}
use native.Mathlib.Omega.{arith}
use mathlib.Core.Path.{◌≡◌, refl, ap, sym, ◌∙◌}
use mathlib.Core.Bool.{Bool, true, false, cond}
use mathlib.Core.List.{List, [], ◌∷◌, ◌++◌, map, flat_map, map-append, append-nil}
use lib.ListN.{length, get_or, length-append}
use borrow.Author.Tests.{eq-eqb, ne_eqb}
use Rattle.flow.specs.Numbers.{those}
use Rattle.storage.specs.Lists.{list_at}
use Rattle.sheet.specs.declared.Form.{Form}
use Rattle.sheet.specs.paper.Sheet.{lut_of}
use Rattle.sheet.specs.paper.Encoding.{lut_field}
use Rattle.sheet.specs.Writing.{Room, Written}
use Rattle.sheet.proofs.Numbers.{flat_append}
use Rattle.sheet.proofs.Writes.{then, written_as, same_size}
use Rattle.settling.specs.Arrays.{is_marked, lut_in, luts_below}
use Rattle.mapping.specs.Luts.{luts_at, LutAsked, LutsAsked}

module _ (form : Form) (cuts luts tables : List ℕ) where
  fields : ℕ → List ℕ
  fields n = flat_map (lut_field form) (luts_below cuts luts tables n)

  fields_at : ℕ → List ℕ
  fields_at v = flat_map (lut_field form) (luts_at cuts luts tables v)

  -- one node more
  map_at : (v : ℕ) (b : Bool) → map (lut_in cuts tables) (cond b (v ∷ []) []) ≡ cond b (lut_in cuts tables v ∷ []) []
  map_at v true = refl
  map_at v false = refl

  pub luts_more : (v : ℕ) → luts_below cuts luts tables (suc v) ≡ luts_below cuts luts tables v ++ luts_at cuts luts tables v
  unfolding luts_below those
  luts_more v =
      map-append (lut_in cuts tables) (those (is_marked luts) v) (cond (is_marked luts v) (v ∷ []) [])
      ∙ ap (λ l. map (lut_in cuts tables) (those (is_marked luts) v) ++ l) (map_at v (is_marked luts v))

  fields_more : (v : ℕ) → fields (suc v) ≡ fields v ++ fields_at v
  unfolding fields fields_at
  fields_more v = ap (flat_map (lut_field form)) (luts_more v) ∙ flat_append (lut_field form) (luts_below cuts luts tables v) (luts_at cuts luts tables v)

  -- earlier nodes' fields are no longer
  fields_grow : (v n : ℕ) → v ≤ n → length (fields v) ≤ length (fields n)
  fields_grow v zero low = let e : v ≡ 0 = omega arith in omega (arith, ap (λ (m : ℕ). length (fields m)) e)
  fields_grow v (suc n) low = by (dec_lt n v) (fields_grow v n)
    where
      by : Dec (n < v) → (v ≤ n → length (fields v) ≤ length (fields n)) → length (fields v) ≤ length (fields (suc n))
      by (yes high) before = let e : v ≡ suc n = omega arith in omega (arith, ap (λ (m : ℕ). length (fields m)) e)
      by (no less) before =
          omega (arith, before (omega arith), ap length (fields_more n), length-append (fields n) (fields_at n))

  -- a node's turn
  module _ (v : ℕ) where
    marked : get_or luts v 0 ≡ 1 → fields_at v ≡ lut_field form (lut_in cuts tables v)
    unfolding fields_at flat_map
    marked one = rw (eq-eqb (get_or luts v 0) 1 one) (append-nil (lut_field form (lut_in cuts tables v)))

    unmarked : (get_or luts v 0 ≡ 1 → ⊥) → fields_at v ≡ []
    unfolding fields_at flat_map
    unmarked other = rw (ne_eqb (get_or luts v 0) 1 other)

    pub lut_none : (sheet : List ℕ) (at : ℕ) → (get_or luts v 0 ≡ 1 → ⊥) → Written sheet at (flat_map (lut_field form) (luts_at cuts luts tables v)) sheet at
    unfolding fields_at
    lut_none sheet at other = written_as (sym (unmarked other)) (record { stored = refl; reached = omega arith })

    module _ (one : get_or luts v 0 ≡ 1) {leaves : List ℕ} (lent : leaves ≡ list_at cuts v) where
      lut_field_lem : lut_field form (lut_of v leaves (get_or tables v 0)) ≡ fields_at v
      lut_field_lem =
          ap (λ (l : List ℕ). lut_field form (lut_of v l (get_or tables v 0))) lent ∙ sym (marked one)

      pub lut_room_lem : {sheet : List ℕ} {at : ℕ} → LutAsked form v cuts luts tables sheet at →
          Room sheet at (lut_field form (lut_of v leaves (get_or tables v 0)))
      unfolding fields_at
      lut_room_lem asked = omega (arith, asked.room, ap length lut_field_lem)

      pub lut_one : {sheet : List ℕ} {at : ℕ} {after : List ℕ} {r : ℕ} →
          Written sheet at (lut_field form (lut_of v leaves (get_or tables v 0))) after r →
          Written sheet at (flat_map (lut_field form) (luts_at cuts luts tables v)) after r
      unfolding fields_at
      lut_one w = written_as lut_field_lem w

  -- The LUTs of the nodes below v are written.
  pub record LutsSoFar (nodes : ℕ) (before : List ℕ) (at : ℕ) (sheet : List ℕ) (next v : ℕ) : Type 0 where
    pub passed : v ≤ nodes
    pub written : Written before at (flat_map (lut_field form) (luts_below cuts luts tables v)) sheet next

  pub luts_none : (nodes : ℕ) (before : List ℕ) (at : ℕ) → LutsSoFar nodes before at before at 0
  unfolding luts_below those flat_map
  luts_none nodes before at = record { passed = omega arith; written = record { stored = refl; reached = omega arith } }

  module _ {nodes : ℕ} {before : List ℕ} {at : ℕ} {sheet : List ℕ} {next v : ℕ} (so_far : LutsSoFar nodes before at sheet next v) where
    pub lut_asked : LutsAsked form nodes cuts luts tables before at → v < nodes → LutAsked form v cuts luts tables sheet next
    unfolding fields fields_at
    lut_asked asked low =
        record {
          cuts_long = omega (arith, asked.lists.long);
          luts_long = omega (arith, asked.luts_long);
          tables_long = omega (arith, asked.tables_long);
          six = asked.lists.six v low;
          room = omega (
            arith,
            asked.room,
            same_size so_far.written,
            so_far.written.reached,
            fields_grow (suc v) nodes low,
            ap length (fields_more v),
            length-append (fields v) (fields_at v),
          );
        }

    pub luts_turn : {after : List ℕ} {r : ℕ} → v < nodes → Written sheet next (flat_map (lut_field form) (luts_at cuts luts tables v)) after r →
        LutsSoFar nodes before at after r (v + 1)
    unfolding fields fields_at
    luts_turn low w =
        record {
          passed = omega arith;
          written = written_as (sym (fields_more v) ∙ ap fields (sym (add-one v))) (then so_far.written w);
        }

    pub luts_all : nodes ≤ v → Written before at (flat_map (lut_field form) (luts_below cuts luts tables nodes)) sheet next
    unfolding fields
    luts_all done =
        let e : v ≡ nodes = omega (arith, so_far.passed) in
        written_as (ap fields e) so_far.written
