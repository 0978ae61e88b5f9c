-- The depth in a cover. It is one number; being within a bound is having a depth that is no greater (`Within`, which proofs use, has no
-- maximum in it); and in a cover of a ranked net every wanted node has a depth, by induction along the rank.
use Prim.Native.Nat.{ℕ, zero, suc, max, ◌≤◌, ◌<◌, zero-le}
use native.Mathlib.Nat.{not-suc-le-zero, max-le, le-max_left, le-max_right}
use native.Mathlib.Omega.{arith}
use mathlib.Core.Path.{◌≡◌, refl, sym, subst}
use mathlib.Core.Bool.{true}
use mathlib.Core.Logic.{◌↔◌, ◌⊎◌, inl, inr, ⊎_elim}
use mathlib.Core.List.Memᴰ
use mathlib.Core.List.{List, [], ◌∷◌, map, Memᴰ}
use Rattle.theory.specs.paper.Net.{Net, Gate, Input}
use Rattle.theory.specs.paper.Sound.{Ranked}
use Rattle.theory.specs.paper.Cover.{Luts, Wanted, Cover, Depth, Depths}
use Rattle.theory.specs.paper.Lists.{greatest}
use Rattle.theory.proofs.Members.{at_most_greatest, greatest_at_most}
use Rattle.theory.proofs.Walks.{NodesFeed, cone_of_walked, met_rank, input_or_gate, gate_no_input}

-- v's depth is at most e
pub data Within (net : Net) (luts : Luts) : ℕ → ℕ → Type 0 where
  input : {v e : ℕ} → Input net v → Within net luts v e
  root : {v e : ℕ} → luts.root v ≡ true → ((l : ℕ) → Memᴰ l (luts.leaves v) → Within net luts l e) → Within net luts v (suc e)

abbrev pub EachWithin : Net → Luts → List ℕ → ℕ → Type 0
EachWithin net luts vs e = (v : ℕ) → Memᴰ v vs → Within net luts v e

module _ {net : Net} {luts : Luts} where
  -- Within a bound, and the depth

  pub within_more : {v d e : ℕ} → d ≤ e → Within net luts v d → Within net luts v e
  within_more less (Within.input i) = Within.input i
  within_more {e = zero} less (Within.root r each) = absurd (not-suc-le-zero less)
  within_more {e = suc e} less (Within.root {e = d} r each) =
      let less' : d ≤ e = omega arith in
      Within.root r (λ l m. within_more less' (each l m))

  both_within : {u : ℕ} {vs : List ℕ} {d e : ℕ} → Within net luts u d → EachWithin net luts vs e → EachWithin net luts (u ∷ vs) (max d e)
  both_within {u} {vs} {d} {e} here later v m =
      ⊎_elim (λ (same : v ≡ u). subst (λ (x : ℕ). Within net luts x (max d e)) (sym same) (within_more (le-max_left d e) here))
      (λ (late : Memᴰ v vs). within_more (le-max_right d e) (later v late)) (Memᴰ.cases_cons m)

  pub within_depth : {v d : ℕ} → Depth net luts v d → Within net luts v d
  within_depth h =
      elim h as (λ v d _. Within net luts v d) (λ vs d _. EachWithin net luts vs d) [
        | Depth.input i ↦ Within.input i
        | Depth.root r (ds → each) ↦ Within.root r each
        | Depths.none ↦ λ v m. absurd (Memᴰ.not-nil m)
        | Depths.more (a → here) (rest → later) ↦ both_within here later
      ]

  pub within_depths : {vs : List ℕ} {d : ℕ} → Depths net luts vs d → EachWithin net luts vs d
  within_depths Depths.none v m = absurd (Memᴰ.not-nil m)
  within_depths (Depths.more a rest) v m = both_within (within_depth a) (λ u n. within_depths rest u n) v m

  -- a depth is the least bound that the node is within
  module _ (gates : (r : ℕ) → luts.root r ≡ true → Gate net r) where
    leaves_within : {v d e : ℕ} → luts.root v ≡ true → ((e : ℕ) → EachWithin net luts (luts.leaves v) e → d ≤ e) → Within net luts v e → suc d ≤ e
    leaves_within {v} r least (Within.input i) = absurd (gate_no_input (gates v r) i)
    leaves_within r least (Within.root {e = e} s each) = let less = least e each in omega arith

    pub depth_is_least : {v d : ℕ} → Depth net luts v d → (e : ℕ) → Within net luts v e → d ≤ e
    depth_is_least h =
        elim h as (λ v d _. (e : ℕ) → Within net luts v e → d ≤ e) (λ vs d _. (e : ℕ) → EachWithin net luts vs e → d ≤ e) [
          | Depth.input i ↦ λ e _. zero-le
          | Depth.root r (ds → least) ↦ λ e within. leaves_within r least within
          | Depths.none ↦ λ e _. zero-le
          | Depths.more {v = v} (a → here) (rest → later) ↦
              λ e each. max-le (here e (each v (Memᴰ.head refl))) (later e (λ u m. each u (Memᴰ.tail m)))
        ]

    pub depths_are_least : {vs : List ℕ} {d : ℕ} → Depths net luts vs d → (e : ℕ) → EachWithin net luts vs e → d ≤ e
    depths_are_least Depths.none e each = zero-le
    depths_are_least (Depths.more {v = v} a rest) e each =
        max-le (depth_is_least a e (each v (Memᴰ.head refl))) (depths_are_least rest e (λ u m. each u (Memᴰ.tail m)))

    -- so it is one number
    pub depth_is_one : {v d e : ℕ} → Depth net luts v d → Depth net luts v e → d ≡ e
    depth_is_one {d = d} {e = e} a b = omega (arith, depth_is_least a e (within_depth b), depth_is_least b d (within_depth a))

    pub depths_are_one : {vs : List ℕ} {d e : ℕ} → Depths net luts vs d → Depths net luts vs e → d ≡ e
    depths_are_one {d = d} {e = e} a b = omega (arith, depths_are_least a e (within_depths b), depths_are_least b d (within_depths a))

  depths_of_each : (vs : List ℕ) (e : ℕ) → ((v : ℕ) → Memᴰ v vs → (d : ℕ) × (d ≤ e) × Depth net luts v d) →
      (d : ℕ) × (d ≤ e) × Depths net luts vs d
  depths_of_each [] e each = (0, zero-le, Depths.none)
  depths_of_each (v ∷ vs) e each =
      let (d, less, here) = each v (Memᴰ.head refl) in
      let (f, least, later) = depths_of_each vs e (λ u m. each u (Memᴰ.tail m)) in
      (max d f, max-le less least, Depths.more here later)

  pub depth_within : {v e : ℕ} → Within net luts v e → (d : ℕ) × (d ≤ e) × Depth net luts v d
  depth_within (Within.input i) = (0, zero-le, Depth.input i)
  depth_within {v} (Within.root {e = e} r each) =
      let (d, less, ds) = depths_of_each (luts.leaves v) e (λ l m. depth_within (each l m)) in
      (suc d, omega arith, Depth.root r ds)

  pub within_iff : {v e : ℕ} → Within net luts v e ↔ ((d : ℕ) × (d ≤ e) × Depth net luts v d)
  within_iff = (depth_within, λ (d, less, depth). within_more less (within_depth depth))

  pub depths_within : (vs : List ℕ) (e : ℕ) → EachWithin net luts vs e → (d : ℕ) × (d ≤ e) × Depths net luts vs d
  depths_within vs e each = depths_of_each vs e (λ v m. depth_within (each v m))

-- Every wanted node of a cover has a depth

-- an input or a root
abbrev pub Placed : Net → Luts → ℕ → Type 0
Placed net luts v = Input net v ⊎ (luts.root v ≡ true)

pub wanted_placed : {net : Net} {k : ℕ} {outputs : List ℕ} {luts : Luts} → Cover net k outputs luts → {v : ℕ} → v < net.nodes →
    Wanted outputs luts v → Placed net luts v
wanted_placed {net} cover {v} node wanted =
    ⊎_elim (λ (i : Input net v). inl i) (λ (g : Gate net v). inr (cover.closed v g wanted)) (input_or_gate v node)

module _ {net : Net} {k : ℕ} {outputs : List ℕ} {luts : Luts} (feed : NodesFeed net) (cover : Cover net k outputs luts) where
  pub leaf_placed : {r l : ℕ} → luts.root r ≡ true → Memᴰ l (luts.leaves r) → Placed net luts l
  leaf_placed {r} {l} at leaf =
      let cut = cover.cuts r at in
      let met = cut.met l leaf in
      let reader = cone_of_walked feed cut.stops (cover.gates r at) met.walked in
      wanted_placed cover (feed met.reader reader.gate l met.feeds) (Wanted.leaf r at leaf)

  -- numbers that fall from each root to its leaves bound the depth
  module _ (lab : ℕ → ℕ) (falls : (r : ℕ) → luts.root r ≡ true → suc (greatest (map lab (luts.leaves r))) ≤ lab r) where
    within_bound : (e v : ℕ) → lab v ≤ e → Placed net luts v → Within net luts v e
    within_bound zero v low (inl i) = Within.input i
    within_bound zero v low (inr at) = let less = falls v at in absurd (omega arith)
    within_bound (suc e) v low (inl i) = Within.input i
    within_bound (suc e) v low (inr at) =
        let less = falls v at in
        Within.root at (λ l leaf. within_bound e l (let most = at_most_greatest lab leaf in omega arith) (leaf_placed at leaf))

    pub within_numbers : {v : ℕ} → Placed net luts v → Within net luts v (lab v)
    within_numbers {v} placed = within_bound (lab v) v (omega arith) placed

  module _ (ranked : Ranked net) where
    after_rank : ℕ → ℕ
    after_rank v = suc (ranked.rank v)

    rank_falls : (r : ℕ) → luts.root r ≡ true → suc (greatest (map after_rank (luts.leaves r))) ≤ after_rank r
    unfolding after_rank
    rank_falls r at =
        let most = greatest_at_most after_rank (luts.leaves r) (ranked.rank r) (λ l leaf. met_rank ranked ((cover.cuts r at).met l leaf)) in
        omega arith

    -- so the cover has a depth
    pub cover_depth_exists : ((v : ℕ) → Memᴰ v outputs → v < net.nodes) → (d : ℕ) × Depths net luts outputs d
    cover_depth_exists nodes =
        let each : EachWithin net luts outputs (greatest (map after_rank outputs)) =
        λ v m. within_more (at_most_greatest after_rank m) (within_numbers after_rank rank_falls (wanted_placed cover (nodes v m) (Wanted.output m))) in
        let (d, _, depths) = depths_within outputs (greatest (map after_rank outputs)) each in
        (d, depths)
