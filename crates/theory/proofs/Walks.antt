-- Walks: a walk goes on from any node that it walks, so leaves that stop it stop it from there too, and what a gate of the cone reads is a leaf
-- or in the cone. Ranks fall on the way, so a ranked net has no loop, and what is walked is decided.
use Prim.Native.Nat.{ℕ, ◌≤◌, ◌<◌}
use native.Mathlib.Decide.{dec_lt, map_dec}
use native.Mathlib.Omega.{arith}
use mathlib.Core.Path.{◌≡◌, refl, subst}
use mathlib.Core.Logic.Dec
use mathlib.Core.Logic.{◌⊎◌, inl, inr, ⊎_elim}
use mathlib.Core.List.Memᴰ
use mathlib.Core.List.{List, [], Memᴰ}
use lib.ListN.{length}
use Rattle.theory.specs.paper.Net.{Net, Gate, Input}
use Rattle.theory.specs.paper.Sound.{Bounded, Ranked}
use Rattle.theory.specs.paper.Walk.{Walked, Met, Behind, Loop, Cut, Cone}
use Rattle.theory.specs.paper.Evidence.{Outside}
use Rattle.theory.proofs.Tests.{decided}
use Rattle.theory.proofs.Decisions.{decide_member}
use Rattle.theory.proofs.DecideNet.{decides_gate}
use Rattle.theory.proofs.Leads.{Leads, decide_leads}

-- What a gate reads are nodes: the field `nodes` of `Bounded`.
abbrev pub NodesFeed : Net → Type 0
NodesFeed net = (g : ℕ) → Gate net g → (v : ℕ) → Memᴰ v (net.fanins g) → v < net.nodes

-- "the walk meets no input that is not a leaf"
abbrev pub StopsInputs : Net → List ℕ → ℕ → Type 0
StopsInputs net leaves t = (v : ℕ) → Met net leaves t v → Input net v → Memᴰ v leaves

-- The leaves stop the walk from t: a cut, but for leaves that are not met.
pub record Stops (net : Net) (k t : ℕ) (leaves : List ℕ) : Type 0 where
  pub stops : StopsInputs net leaves t
  pub few : length leaves ≤ k

-- No leaves outside D stop the walk from t.
abbrev pub Tight : Net → ℕ → (ℕ → ℕ) → ℕ → Type 0
Tight net k lab t = (leaves : List ℕ) → Stops net k t leaves → Outside net lab t leaves → ⊥

abbrev NoLeaf : List ℕ → ℕ → Type 0
NoLeaf leaves u = Memᴰ u leaves → ⊥

module _ {net : Net} where
  -- The walk goes on

  pub walk_on : {leaves : List ℕ} {t u v : ℕ} → Walked net leaves t u → Walked net leaves u v → Walked net leaves t v
  walk_on w Walked.start = w
  walk_on w (Walked.step x m out) = Walked.step (walk_on w x) m out

  pub meet_on : {leaves : List ℕ} {t u v : ℕ} → Walked net leaves t u → Met net leaves u v → Met net leaves t v
  meet_on w m = record { reader = m.reader; walked = walk_on w m.walked; feeds = m.feeds }

  -- inner cuts: what stops the walk from t stops it from each node walked
  pub inner_stops : {k t u : ℕ} {leaves : List ℕ} → Stops net k t leaves → Walked net leaves t u → Stops net k u leaves
  inner_stops s w = record { stops = λ v m. s.stops v (meet_on w m); few = s.few }

  pub cut_stops : {k t : ℕ} {leaves : List ℕ} → Cut net k t leaves → Stops net k t leaves
  cut_stops c = record { stops = c.stops; few = c.few }

  -- a fanin of a walked node is a leaf or walked
  pub leaf_or_walked : {leaves : List ℕ} {t u v : ℕ} → Walked net leaves t v → Memᴰ u (net.fanins v) →
      Memᴰ u leaves ⊎ Walked net leaves t u
  leaf_or_walked {leaves} {t} {u} w m = either (decide_member u leaves)
    where
      either : Dec (Memᴰ u leaves) → Memᴰ u leaves ⊎ Walked net leaves t u
      either (yes leaf) = inl leaf
      either (no out) = inr (Walked.step w m out)

  -- no leaf is walked if t is none
  pub walked_no_leaf : {leaves : List ℕ} {t v : ℕ} → (Memᴰ t leaves → ⊥) → Walked net leaves t v → Memᴰ v leaves → ⊥
  walked_no_leaf fresh Walked.start = fresh
  walked_no_leaf fresh (Walked.step w m out) = out

  -- Behind

  -- a walk is part of one with fewer leaves
  pub walk_fewer : {many few : List ℕ} {t v : ℕ} → ((u : ℕ) → Memᴰ u few → Memᴰ u many) → Walked net many t v → Walked net few t v
  walk_fewer lies Walked.start = Walked.start
  walk_fewer lies (Walked.step {u = u} w m out) = Walked.step (walk_fewer lies w) m (λ leaf. out (lies u leaf))

  pub walk_behind : {leaves : List ℕ} {t v : ℕ} → Walked net leaves t v → Walked net [] t v
  walk_behind w = walk_fewer (λ u m. absurd (Memᴰ.not-nil m)) w

  pub met_behind : {leaves : List ℕ} {t v : ℕ} → Met net leaves t v → Behind net t v
  met_behind m = record { reader = m.reader; walked = walk_behind m.walked; feeds = m.feeds }

  pub behind_walked : {t v : ℕ} → Behind net t v → Walked net [] t v
  behind_walked b = Walked.step b.walked b.feeds Memᴰ.not-nil

  pub behind_on : {t u v : ℕ} → Behind net t u → Walked net [] u v → Behind net t v
  behind_on b Walked.start = b
  behind_on b (Walked.step {v = v} w m _) = record { reader = v; walked = walk_on (behind_walked b) w; feeds = m }

  -- a node from which the walk goes on has a fanin
  pub walk_goes_on : {u v : ℕ} → Walked net [] u v → (v ≡ u) ⊎ ((w : ℕ) × Memᴰ w (net.fanins u))
  walk_goes_on Walked.start = inl refl
  walk_goes_on {u} (Walked.step {v = v} {u = w} way m _) = after (walk_goes_on way)
    where
      after : (v ≡ u) ⊎ ((x : ℕ) × Memᴰ x (net.fanins u)) → (w ≡ u) ⊎ ((x : ℕ) × Memᴰ x (net.fanins u))
      after (inl e) = inr (w, subst (λ (x : ℕ). Memᴰ w (net.fanins x)) e m)
      after (inr fanin) = inr fanin

  -- so has one with something behind it
  pub behind_fanin : {u v : ℕ} → Behind net u v → (w : ℕ) × Memᴰ w (net.fanins u)
  behind_fanin {u} {v} b =
      ⊎_elim (λ (e : b.reader ≡ u). (v, subst (λ (x : ℕ). Memᴰ v (net.fanins x)) e b.feeds)) (λ fanin. fanin) (walk_goes_on b.walked)

  -- Ranks

  module _ (ranked : Ranked net) where
    pub walked_rank : {leaves : List ℕ} {t v : ℕ} → Walked net leaves t v → ranked.rank v ≤ ranked.rank t
    walked_rank Walked.start = omega arith
    walked_rank (Walked.step {v = v} {u = u} w m out) = omega (arith, walked_rank w, ranked.rises u v m)

    pub met_rank : {leaves : List ℕ} {t v : ℕ} → Met net leaves t v → ranked.rank v < ranked.rank t
    met_rank {t} {v} m = omega (arith, walked_rank m.walked, ranked.rises v m.reader m.feeds)

    -- a rank means no loop
    pub no_loop : (g : ℕ) → Loop net g → ⊥
    no_loop g loop = omega (arith, met_rank loop)

  -- Gates and inputs

  pub input_or_gate : (v : ℕ) → v < net.nodes → Input net v ⊎ Gate net v
  input_or_gate v node = either (dec_lt v net.inputs)
    where
      either : Dec (Input net v) → Input net v ⊎ Gate net v
      either (yes low) = inl low
      either (no high) = inr (record { above = omega arith; below = node })

  pub gate_no_input : {v : ℕ} → Gate net v → Input net v → ⊥
  gate_no_input g i = omega arith

  pub decide_gate : (v : ℕ) → Dec (Gate net v)
  decide_gate v = decided (decides_gate net v)

  module _ {k : ℕ} (bounded : Bounded net k) where
    pub reader_is_gate : {u v : ℕ} → v < net.nodes → Memᴰ u (net.fanins v) → Gate net v
    reader_is_gate {u} {v} node m =
        ⊎_elim (λ (i : Input net v). absurd (Memᴰ.not-nil (subst (Memᴰ u) (bounded.inputs_feed v i) m))) (λ g. g) (input_or_gate v node)

    pub fanin_node : {u v : ℕ} → v < net.nodes → Memᴰ u (net.fanins v) → u < net.nodes
    fanin_node {u} {v} node m = bounded.nodes v (reader_is_gate node m) u m

    pub walked_node : {leaves : List ℕ} {t v : ℕ} → t < net.nodes → Walked net leaves t v → v < net.nodes
    walked_node node Walked.start = node
    walked_node node (Walked.step w m out) = fanin_node (walked_node node w) m

    pub met_node : {leaves : List ℕ} {t v : ℕ} → t < net.nodes → Met net leaves t v → v < net.nodes
    met_node node m = fanin_node (walked_node node m.walked) m.feeds

  -- Cones

  module _ (feed : NodesFeed net) {leaves : List ℕ} {t : ℕ} (stops : StopsInputs net leaves t) where
    -- what a gate of the cone reads is in the cone or a leaf
    pub cone_closed : {g u : ℕ} → Cone net leaves t g → Memᴰ u (net.fanins g) → Cone net leaves t u ⊎ Memᴰ u leaves
    cone_closed {g} {u} cone m = by_kind (leaf_or_walked cone.walked m) (input_or_gate u (feed g cone.gate u m))
      where
        by_kind : Memᴰ u leaves ⊎ Walked net leaves t u → Input net u ⊎ Gate net u → Cone net leaves t u ⊎ Memᴰ u leaves
        by_kind (inl leaf) _ = inr leaf
        by_kind (inr w) (inl i) = inr (stops u (record { reader = g; walked = cone.walked; feeds = m }) i)
        by_kind (inr w) (inr gate) = inl (record { walked = w; gate = gate })

    -- so what is walked from a gate are gates
    pub cone_of_walked : {v : ℕ} → Gate net t → Walked net leaves t v → Cone net leaves t v
    cone_of_walked gate Walked.start = record { walked = Walked.start; gate = gate }
    cone_of_walked gate (Walked.step w m out) = ⊎_elim (λ cone. cone) (λ leaf. absurd (out leaf)) (cone_closed (cone_of_walked gate w) m)

  -- What is walked is decided

  lead_of_walk : {leaves : List ℕ} {t v : ℕ} → Walked net leaves t v → Leads net.fanins (NoLeaf leaves) t v
  lead_of_walk Walked.start = Leads.start
  lead_of_walk (Walked.step w m out) = Leads.step (lead_of_walk w) m out

  walk_of_lead : {leaves : List ℕ} {t v : ℕ} → Leads net.fanins (NoLeaf leaves) t v → Walked net leaves t v
  walk_of_lead Leads.start = Walked.start
  walk_of_lead (Leads.step w m out) = Walked.step (walk_of_lead w) m out

  module _ (ranked : Ranked net) where
    pub decide_walked : (leaves : List ℕ) (t v : ℕ) → Dec (Walked net leaves t v)
    decide_walked leaves t v =
        map_dec walk_of_lead lead_of_walk
        (decide_leads net.fanins (NoLeaf leaves) (λ u. Dec.not (decide_member u leaves)) ranked.rank t
        (λ w u _ m _. ranked.rises u w m) v)
