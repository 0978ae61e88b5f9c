-- A cone's function is one table. Each setting of the leaves has a valuation that obeys the gates of the cone, and two such valuations agree
-- in the cone, since what a gate of the cone reads is a leaf or in the cone. So each row has one result, and the table of the results is
-- the cone's, and the only one.
use Prim.Native.Nat.{ℕ, suc, ◌^◌, ◌<◌}
use native.Mathlib.Nat.{le_refl}
use native.Mathlib.Omega.{arith}
use mathlib.Core.Path.{◌≡◌, sym, ap, ◌∙◌}
use mathlib.Core.Logic.{◌⊎◌, inl, inr, ⊎_elim}
use mathlib.Core.Bool.{Bool, not}
use mathlib.Core.List.{List, map, Memᴰ}
use lib.ListN.{length, length-map}
use Rattle.theory.specs.paper.Net.{Net, Gate}
use Rattle.theory.specs.paper.Values.{row_of, result_at}
use Rattle.theory.specs.paper.Walk.{Walked, Cut, Cone}
use Rattle.theory.specs.paper.Lookup.{ObeysCone, ConeTable}
use Rattle.theory.specs.paper.Sound.{Ranked}
use Rattle.theory.specs.Members.{is_member}
use Rattle.theory.proofs.Tests.{decides_member, decides_not}
use Rattle.theory.proofs.Members.{rising_no_repeats}
use Rattle.theory.proofs.Picks.{map_agree, agree_of_map, setting_of, setting_written}
use Rattle.theory.proofs.Walks.{NodesFeed, StopsInputs, cone_closed, walked_no_leaf}
use Rattle.theory.proofs.Cuts.{root_no_leaf}
use Rattle.theory.proofs.Rows.{row_below, bits_of, length_bits_of, row_of_bits, bits_of_row, table_of, table_below, result_of_table, tables_agree}
use Rattle.theory.proofs.Valuations.{Follows, follows_agree, settle, settle_sets, settle_follows}

-- One valuation in the cone

module _ (net : Net) (tables : ℕ → ℕ) (feed : NodesFeed net) (leaves : List ℕ) (t : ℕ) (stops : StopsInputs net leaves t) (ranked : Ranked net)
    (x y : ℕ → Bool) (same : (v : ℕ) → Memᴰ v leaves → x v ≡ y v) where
  -- as far as both valuations obey, along the rank
  pub cone_agrees_below : (r : ℕ)
      → ((g : ℕ) → Cone net leaves t g → ranked.rank g < r → Follows net.fanins tables x g)
      → ((g : ℕ) → Cone net leaves t g → ranked.rank g < r → Follows net.fanins tables y g)
      → (g : ℕ) → Cone net leaves t g → ranked.rank g < r → x g ≡ y g
  cone_agrees_below r fx fy g cone h =
      follows_agree net.fanins tables ranked.rank Below (λ v d u m. ranked.rises u v m) x y closed
      (λ v d. fx v d.0 d.1) (λ v d. fy v d.0 d.1) g (cone, h)
    where
      Below : ℕ → Type 0
      Below v = Cone net leaves t v × (ranked.rank v < r)

      closed : (v : ℕ) → Below v → (u : ℕ) → Memᴰ u (net.fanins v) → Below u ⊎ (x u ≡ y u)
      closed v d u m = ⊎_elim (λ c. inl (c, omega (arith, d.1, ranked.rises u v m))) (λ l. inr (same u l)) (cone_closed feed stops d.0 m)

  pub cone_agrees : ObeysCone net tables leaves t x → ObeysCone net tables leaves t y → (g : ℕ) → Cone net leaves t g → x g ≡ y g
  cone_agrees ox oy g cone = cone_agrees_below (suc (ranked.rank g)) (λ v c h. ox v c) (λ v c h. oy v c) g cone (le_refl (suc (ranked.rank g)))

-- A valuation for each setting of the leaves

-- the values that a setting of the leaves gives, computed along a rank
unfoldable pub cone_value : Net → (tables rank : ℕ → ℕ) → List ℕ → (ℕ → Bool) → ℕ → Bool
cone_value net tables rank leaves setting = settle net.fanins tables rank (λ v. not (is_member v leaves)) setting

module _ (net : Net) (tables : ℕ → ℕ) (ranked : Ranked net) (leaves : List ℕ) (setting : ℕ → Bool) where
  pub cone_value_sets : (v : ℕ) → Memᴰ v leaves → cone_value net tables ranked.rank leaves setting v ≡ setting v
  unfolding cone_value
  cone_value_sets v m = settle_sets _ _ _ _ _ v (ap not ((decides_member v leaves).passes m))

  pub cone_value_obeys : (t : ℕ) → (Memᴰ t leaves → ⊥) → ObeysCone net tables leaves t (cone_value net tables ranked.rank leaves setting)
  unfolding cone_value
  cone_value_obeys t fresh g cone =
      settle_follows _ _ _ _ _ (λ v b u m. ranked.rises u v m) g ((decides_not (decides_member g leaves)).passes (walked_no_leaf fresh cone.walked))

-- One table

-- A table is the cone's if its result at each row is the value at t of some valuation that obeys the cone and has the row's bits at the leaves.
module _ (net : Net) (tables : ℕ → ℕ) (feed : NodesFeed net) (ranked : Ranked net) (leaves : List ℕ) (t : ℕ) (gate : Gate net t)
    (stops : StopsInputs net leaves t) (table : ℕ) (rows : table < 2 ^ (2 ^ length leaves)) (y : ℕ → ℕ → Bool)
    (obeys : (r : ℕ) → r < 2 ^ length leaves → ObeysCone net tables leaves t (y r))
    (sets : (r : ℕ) → r < 2 ^ length leaves → map (y r) leaves ≡ bits_of (length leaves) r)
    (results : (r : ℕ) → r < 2 ^ length leaves → result_at table r ≡ y r t) where
  pub cone_table_of_rows : ConeTable net tables leaves t table
  cone_table_of_rows = record { value = value; rows = rows }
    where
      root : Cone net leaves t t
      root = record { walked = Walked.start; gate = gate }

      value : (x : ℕ → Bool) → ObeysCone net tables leaves t x → x t ≡ result_at table (row_of (map x leaves))
      value x ox =
          let r : ℕ = row_of (map x leaves) in
          let below : r < 2 ^ length leaves = rw length-map at (row_below (map x leaves)) in
          let bits : map x leaves ≡ map (y r) leaves = sym (sets r below ∙ (rw length-map at (bits_of_row (map x leaves)))) in
          cone_agrees net tables feed leaves t stops ranked x (y r) (λ v m. agree_of_map x (y r) bits m) ox (obeys r below) t root
          ∙ sym (results r below)

-- the valuation that row r gives
unfoldable pub row_value : Net → (tables rank : ℕ → ℕ) → List ℕ → ℕ → ℕ → Bool
row_value net tables rank leaves r = cone_value net tables rank leaves (setting_of leaves (bits_of (length leaves) r))

-- t's value for each setting of the leaves
unfoldable pub cone_table_along : Net → (tables rank : ℕ → ℕ) → List ℕ → ℕ → ℕ
cone_table_along net tables rank leaves t = table_of (2 ^ length leaves) (λ r. row_value net tables rank leaves r t)

abbrev pub cone_table : (net : Net) → (tables : ℕ → ℕ) → Ranked net → List ℕ → ℕ → ℕ
cone_table net tables ranked = cone_table_along net tables ranked.rank

module _ (net : Net) (tables : ℕ → ℕ) (ranked : Ranked net) (k t : ℕ) (leaves : List ℕ) (cut : Cut net k t leaves) where
  row_obeys : (r : ℕ) → ObeysCone net tables leaves t (row_value net tables ranked.rank leaves r)
  unfolding row_value
  row_obeys r = cone_value_obeys net tables ranked leaves _ t (root_no_leaf ranked cut)

  row_sets : (r : ℕ) → map (row_value net tables ranked.rank leaves r) leaves ≡ bits_of (length leaves) r
  unfolding row_value
  row_sets r =
      map_agree _ _ leaves (cone_value_sets net tables ranked leaves _)
      ∙ setting_written _ (rising_no_repeats cut.rising) (length_bits_of (length leaves) r)

  pub cone_table_lem : NodesFeed net → Gate net t → ConeTable net tables leaves t (cone_table net tables ranked leaves t)
  unfolding cone_table_along
  cone_table_lem feed gate =
      cone_table_of_rows net tables feed ranked leaves t gate cut.stops _ (table_below _ _) (row_value net tables ranked.rank leaves)
      (λ r h. row_obeys r) (λ r h. row_sets r) (result_of_table (2 ^ length leaves) (λ r. row_value net tables ranked.rank leaves r t))

  pub cone_table_only : (a b : ℕ) → ConeTable net tables leaves t a → ConeTable net tables leaves t b → a ≡ b
  cone_table_only a b ta tb = tables_agree (2 ^ length leaves) a b ta.rows tb.rows (λ r h. sym (at_row a ta r h) ∙ at_row b tb r h)
    where
      at_row : (c : ℕ) → ConeTable net tables leaves t c → (r : ℕ) → r < 2 ^ length leaves → row_value net tables ranked.rank leaves r t ≡ result_at c r
      at_row c tc r h =
          tc.value (row_value net tables ranked.rank leaves r) (row_obeys r) ∙ ap (result_at c) (ap row_of (row_sets r) ∙ row_of_bits (length leaves) r h)

-- a cone's table rests on the tables of the gates
pub cone_table_same : {net : Net} {tables others : ℕ → ℕ} → ((v : ℕ) → Gate net v → tables v ≡ others v) →
    {leaves : List ℕ} {t x : ℕ} → ConeTable net tables leaves t x → ConeTable net others leaves t x
cone_table_same same c = record { value = λ y obeys. c.value y (λ g cone. rw (same g cone.gate) (obeys g cone)); rows = c.rows }
