-- An order of the gates gives each node a rank: 0 at an input, one more than its place at a gate. Where there is an input, ranks are below the number
-- of nodes.
use Prim.Native.Nat.{ℕ, zero, suc, ◌*◌, ◌≤◌, ◌<◌}
use native.Mathlib.Nat.{not-suc-le-zero}
use native.Mathlib.Decide.{ℕ_discrete, dec_lt}
use native.Mathlib.Omega.{arith}
use mathlib.Core.Path.{◌≡◌, sym, ap, subst, ◌∙◌}
use mathlib.Core.Bool.{Bool, cond}
use mathlib.Core.Logic.{◌⊎◌, inl, inr}
use mathlib.Core.List.Memᴰ
use mathlib.Core.List.{List, [], ◌∷◌, Memᴰ}
use lib.ListN.{length, get_or}
use lib.Dec.{eqb, ltb}
use borrow.Author.Tests.{eq-eqb, ne_eqb, lt-ltb, le-ltb}
use Rattle.storage.specs.Drawings.{net_in, Ordered}
use Rattle.storage.proofs.Drawings.{fanins_out}
pub use Rattle.storage.proofs.Entries.{member_at as place-member}
use Rattle.theory.specs.paper.Net.{Net, Gate, Input}
use Rattle.theory.specs.paper.Sound.{Bounded, Ranked}
use Rattle.theory.proofs.Walks.{input_or_gate, reader_is_gate, fanin_node}

-- the first place at which v stands
place : List ℕ → ℕ → ℕ
place [] v = 0
place (x ∷ l) v = cond (eqb x v) 0 (suc (place l v))

place_here : (x v : ℕ) (l : List ℕ) → x ≡ v → place (x ∷ l) v ≡ 0
unfolding place
place_here x v l e = ap (λ (b : Bool). cond b 0 (suc (place l v))) (eq-eqb x v e)

place_later : (x v : ℕ) (l : List ℕ) → (x ≡ v → ⊥) → place (x ∷ l) v ≡ suc (place l v)
unfolding place
place_later x v l apart = ap (λ (b : Bool). cond b 0 (suc (place l v))) (ne_eqb x v apart)

place_low : {v : ℕ} {l : List ℕ} → Memᴰ v l → place l v < length l
place_low {v} (Memᴰ.head {x = x} {xs = xs} e) = omega (arith, place_here x v xs (sym e))
place_low {v} (Memᴰ.tail {x = x} {xs = xs} m) =
    elim (ℕ_discrete x v) [
      | yes e ↦ omega (arith, place_here x v xs e)
      | no apart ↦ omega (arith, place_later x v xs apart, place_low m)
    ]

place_stands : {v : ℕ} {l : List ℕ} → Memᴰ v l → get_or l (place l v) 0 ≡ v
place_stands {v} (Memᴰ.head {x = x} {xs = xs} e) = ap (λ (i : ℕ). get_or (x ∷ xs) i 0) (place_here x v xs (sym e)) ∙ sym e
place_stands {v} (Memᴰ.tail {x = x} {xs = xs} m) =
    elim (ℕ_discrete x v) [
      | yes e ↦ ap (λ (i : ℕ). get_or (x ∷ xs) i 0) (place_here x v xs e) ∙ e
      | no apart ↦ ap (λ (i : ℕ). get_or (x ∷ xs) i 0) (place_later x v xs apart) ∙ place_stands m
    ]

place_first : (v : ℕ) (l : List ℕ) (j : ℕ) → j < length l → get_or l j 0 ≡ v → place l v ≤ j
place_first v [] j low e = absurd (not-suc-le-zero low)
place_first v (x ∷ l) zero low e = omega (arith, place_here x v l e)
place_first v (x ∷ l) (suc j) low e =
    elim (ℕ_discrete x v) [
      | yes same ↦ omega (arith, place_here x v l same)
      | no apart ↦ omega (arith, place_later x v l apart, place_first v l j (omega arith) e)
    ]

-- Ranks

module _ {net : Net} {k : ℕ} {order : List ℕ} (bounded : Bounded net k) (nodes-feed : (v : ℕ) → net.nodes ≤ v → net.fanins v ≡ []) (ordered : Ordered net order) where
  order_rank : ℕ → ℕ
  order_rank v = cond (ltb v net.inputs) 0 (suc (place order v))

  rank_input : (v : ℕ) → Input net v → order_rank v ≡ 0
  unfolding order_rank
  rank_input v low = ap (λ (b : Bool). cond b 0 (suc (place order v))) (lt-ltb v net.inputs low)

  rank_gate : (v : ℕ) → Gate net v → order_rank v ≡ suc (place order v)
  unfolding order_rank
  rank_gate v g = ap (λ (b : Bool). cond b 0 (suc (place order v))) (le-ltb v net.inputs g.above)

  rank_rises : (u g : ℕ) → Memᴰ u (net.fanins g) → order_rank u < order_rank g
  rank_rises u g feeds = by_node (dec_lt g net.nodes)
    where
      by_kind : Gate net g → Input net u ⊎ Gate net u → order_rank u < order_rank g
      by_kind gate (inl low) = omega (arith, rank_input u low, rank_gate g gate)
      by_kind gate (inr inner) =
          let m = ordered.all g gate in
          let (j, before, stood) = ordered.before (place order g) u (place_low m) (subst (λ (x : ℕ). Memᴰ u (net.fanins x)) (sym (place_stands m)) feeds) inner in
          omega (arith, rank_gate u inner, rank_gate g gate, place_first u order j (let low = place_low m in omega arith) stood)

      by_node : Dec (g < net.nodes) → order_rank u < order_rank g
      by_node (yes node) = by_kind (reader_is_gate bounded node feeds) (input_or_gate u (fanin_node bounded node feeds))
      by_node (no high) = absurd (Memᴰ.not-nil (subst (Memᴰ u) (nodes-feed g (omega arith)) feeds))

  pub order_ranked : Ranked net
  order_ranked = record { rank = order_rank; rises = rank_rises }

  pub order_low : (v : ℕ) → v < net.nodes → order_ranked.rank v < suc (length order)
  unfolding order_ranked
  order_low v node = by_kind (input_or_gate v node)
    where
      by_kind : Input net v ⊎ Gate net v → order_rank v < suc (length order)
      by_kind (inl low) = omega (arith, rank_input v low)
      by_kind (inr g) = omega (arith, rank_gate v g, place_low (ordered.all v g))

-- The net that arrays hold, seen from outside

module _ (inputs nodes : ℕ) (fanins : List ℕ) where
  pub no_feeds : (v : ℕ) → (net_in inputs nodes fanins).nodes ≤ v → (net_in inputs nodes fanins).fanins v ≡ []
  unfolding net_in
  no_feeds v high = fanins_out inputs nodes fanins v high

  pub inputs_held : {v : ℕ} → v < (net_in inputs nodes fanins).inputs → v < inputs
  unfolding net_in
  inputs_held low = low

  pub held_input : {v : ℕ} → v < inputs → v < (net_in inputs nodes fanins).inputs
  unfolding net_in
  held_input low = low

  pub nodes_room : {m : ℕ} → m ≤ 2 * (net_in inputs nodes fanins).nodes → m ≤ 2 * nodes
  unfolding net_in
  nodes_room less = less
