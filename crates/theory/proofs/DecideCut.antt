-- Tests for what lies behind a node, loops, walks, cones and cuts, each proved to be true exactly where the definition holds. The walk is
-- read off the table of marks: it goes from v to v's fanins if v is t or no leaf, and what it meets is what is reached from t so.
use Prim.Native.Nat.{ℕ, ◌<◌}
use mathlib.Core.Path.{◌≡◌, refl, subst}
use mathlib.Core.Logic.{◌⊎◌, inl, inr}
use mathlib.Core.Bool.{Bool, not, ◌&&◌, ◌||◌}
use mathlib.Core.List.{List, [], Memᴰ}
use lib.ListN.{length}
use lib.Dec.{leb, ltb, eqb}
use Rattle.theory.specs.paper.Net.{Net}
use Rattle.theory.specs.paper.Sound.{Bounded}
use Rattle.theory.specs.paper.Walk.{Walked, Met, Behind, Loop, LowestLoop, Cut, Cone}
use Rattle.theory.specs.Members.{is_member}
use Rattle.theory.proofs.Tests.{Decides, decides_as, ◌and_then◌, decides_or, decides_not, decides_if}
use Rattle.theory.proofs.Tests.{decides_le, decides_lt, decides_equal, decides_member, decides_every}
use Rattle.theory.proofs.Tests.{decides_below, decides_rising, every, every_below, is_rising}
use Rattle.theory.proofs.Walks.{fanin_node, met_node}
use Rattle.theory.proofs.DecideNet.{is_gate, decides_gate}
use Rattle.theory.proofs.Marks.{Way, marked, reached, decides_way}

-- one step of the walk from t, from v to what it meets next
abbrev Onward : Net → List ℕ → ℕ → ℕ → ℕ → Type 0
Onward net leaves t v u = ((v ≡ t) ⊎ (Memᴰ v leaves → ⊥)) × Memᴰ u (net.fanins v)

unfoldable goes_on : Net → List ℕ → ℕ → ℕ → ℕ → Bool
unfolding is_member
goes_on net leaves t v u = (eqb v t || not (is_member v leaves)) && is_member u (net.fanins v)

decides_onward : (net : Net) (leaves : List ℕ) (t v u : ℕ) → Decides (goes_on net leaves t v u) (Onward net leaves t v u)
unfolding goes_on
decides_onward net leaves t v u = decides_or (decides_equal v t) (decides_not (decides_member v leaves)) and_then (λ _. decides_member u (net.fanins v))

-- the table of marks of one walk, and what it says of one node
unfoldable pub walk_rows : Net → List ℕ → ℕ → List (List Bool)
unfolding reached goes_on
walk_rows net leaves t = reached net.nodes (goes_on net leaves t) net.nodes

unfoldable pub is_met_by : List (List Bool) → Net → ℕ → ℕ → Bool
unfolding marked
is_met_by rows net t v = ltb v net.nodes && marked rows t v

unfoldable pub is_met : Net → List ℕ → ℕ → ℕ → Bool
unfolding walk_rows is_met_by
is_met net leaves t v = is_met_by (walk_rows net leaves t) net t v

met_of_way : {net : Net} {leaves : List ℕ} {t u : ℕ} → Way (Onward net leaves t) t u → Met net leaves t u
met_of_way {t} (Way.one s) = record { reader = t; walked = Walked.start; feeds = s.1 }
met_of_way {net} {leaves} {t} {u} (Way.more {v = v} way s) = go (met_of_way way) s.0
  where
    go : Met net leaves t v → (v ≡ t) ⊎ (Memᴰ v leaves → ⊥) → Met net leaves t u
    go m (inl e) = record { reader = t; walked = Walked.start; feeds = subst (λ (x : ℕ). Memᴰ u (net.fanins x)) e s.1 }
    go m (inr free) = record { reader = v; walked = Walked.step m.walked m.feeds free; feeds = s.1 }

way_of_walked : {net : Net} {leaves : List ℕ} {t v : ℕ} → Walked net leaves t v → (u : ℕ) → Memᴰ u (net.fanins v) → Way (Onward net leaves t) t u
way_of_walked Walked.start u feeds = Way.one (inl refl, feeds)
way_of_walked (Walked.step {u = w} walked met free) u feeds = Way.more (way_of_walked walked w met) (inr free, feeds)

unfoldable is_walked_by : List (List Bool) → Net → List ℕ → ℕ → ℕ → Bool
unfolding is_met_by is_member
is_walked_by rows net leaves t v = eqb v t || (is_met_by rows net t v && not (is_member v leaves))

unfoldable pub is_walked : Net → List ℕ → ℕ → ℕ → Bool
unfolding is_walked_by walk_rows
is_walked net leaves t v = is_walked_by (walk_rows net leaves t) net leaves t v

unfoldable pub is_cone_by : List (List Bool) → Net → List ℕ → ℕ → ℕ → Bool
unfolding is_walked_by is_gate
is_cone_by rows net leaves t v = is_walked_by rows net leaves t v && is_gate net v

unfoldable pub is_cone : Net → List ℕ → ℕ → ℕ → Bool
unfolding is_cone_by walk_rows
is_cone net leaves t v = is_cone_by (walk_rows net leaves t) net leaves t v

unfoldable pub is_behind : Net → ℕ → ℕ → Bool
unfolding is_met
is_behind net t v = is_met net [] t v

-- is the gate on a loop?
unfoldable pub is_loop : Net → ℕ → Bool
unfolding is_behind
is_loop net g = is_behind net g g

-- and the lowest such gate?
unfoldable pub is_lowest_loop : Net → ℕ → Bool
unfolding every_below is_gate is_loop
is_lowest_loop net g = is_gate net g && is_loop net g && every_below g (λ h. not (is_gate net h) || not (is_loop net h))

unfoldable is_cut_by : List (List Bool) → Net → ℕ → ℕ → List ℕ → Bool
unfolding is_met_by every every_below is_member is_rising
is_cut_by rows net k t leaves = is_rising leaves && leb 1 (length leaves) && leb (length leaves) k && every (is_met_by rows net t) leaves &&
    every_below net.inputs (λ v. not (is_met_by rows net t v) || is_member v leaves)

unfoldable pub is_cut : Net → ℕ → ℕ → List ℕ → Bool
unfolding is_cut_by walk_rows
is_cut net k t leaves = is_cut_by (walk_rows net leaves t) net k t leaves

module _ {net : Net} {b : ℕ} (bounded : Bounded net b) {t : ℕ} (node : t < net.nodes) where
  pub decides_met : (leaves : List ℕ) (v : ℕ) → Decides (is_met net leaves t v) (Met net leaves t v)
  unfolding is_met is_met_by walk_rows
  decides_met leaves v = decides_as
      (λ k. met_of_way k.1)
      (λ m. (met_node bounded node m, way_of_walked m.walked v m.feeds))
      (decides_lt v net.nodes
      and_then (λ below. decides_way net.nodes (goes_on net leaves t) (decides_onward net leaves t) (λ g u h s. fanin_node bounded h s.1) t v node below))

  pub decides_walked : (leaves : List ℕ) (v : ℕ) → Decides (is_walked net leaves t v) (Walked net leaves t v)
  unfolding is_walked is_walked_by is_met
  decides_walked leaves v = decides_as joined split
      (decides_or (decides_equal v t) (decides_met leaves v and_then (λ _. decides_not (decides_member v leaves))))
    where
      joined : (v ≡ t) ⊎ (Met net leaves t v × (Memᴰ v leaves → ⊥)) → Walked net leaves t v
      joined (inl e) = rw e Walked.start
      joined (inr k) = Walked.step k.0.walked k.0.feeds k.1

      split : {u : ℕ} → Walked net leaves t u → (u ≡ t) ⊎ (Met net leaves t u × (Memᴰ u leaves → ⊥))
      split Walked.start = inl refl
      split (Walked.step {v = r} walked feeds free) = inr (record { reader = r; walked = walked; feeds = feeds }, free)

  pub decides_cone : (leaves : List ℕ) (v : ℕ) → Decides (is_cone net leaves t v) (Cone net leaves t v)
  unfolding is_cone is_cone_by is_walked
  decides_cone leaves v = decides_as
      (λ k. record { walked = k.0; gate = k.1 })
      (λ c. (c.walked, c.gate))
      (decides_walked leaves v and_then (λ _. decides_gate net v))

  pub decides_behind : (v : ℕ) → Decides (is_behind net t v) (Behind net t v)
  unfolding is_behind
  decides_behind v = decides_met [] v

  pub decides_loop : Decides (is_loop net t) (Loop net t)
  unfolding is_loop
  decides_loop = decides_behind t

  pub decides_cut : (k : ℕ) (leaves : List ℕ) → Decides (is_cut net k t leaves) (Cut net k t leaves)
  unfolding is_cut is_cut_by is_met
  decides_cut k leaves = decides_as
      (λ h. record { stops = λ v met input. h.1 v input met; met = h.0.1; rising = h.0.0.0.0; some = h.0.0.0.1; few = h.0.0.1 })
      (λ c. ((((c.rising, c.some), c.few), c.met), λ v input met. c.stops v met input))
      (decides_rising leaves
      and_then (λ _. decides_le 1 (length leaves))
      and_then (λ _. decides_le (length leaves) k)
      and_then (λ _. decides_every (is_met net leaves t) (decides_met leaves) leaves)
      and_then (λ _. decides_below net.inputs (λ v. not (is_met net leaves t v) || is_member v leaves)
      (λ v _. decides_if (decides_met leaves v) (λ _. decides_member v leaves))))

pub decides_lowest_loop : {net : Net} {b : ℕ} → Bounded net b → (g : ℕ) → Decides (is_lowest_loop net g) (LowestLoop net g)
unfolding is_lowest_loop
decides_lowest_loop {net} bounded g = decides_as
    (λ h. record { gate = h.0.0; loop = h.0.1; lowest = h.1 })
    (λ l. ((l.gate, l.loop), l.lowest))
    (decides_gate net g
    and_then (λ gate. decides_loop bounded gate.below)
    and_then (λ _. decides_below g _ (λ h _. decides_if (decides_gate net h) (λ gate. decides_not (decides_loop bounded gate.below)))))
