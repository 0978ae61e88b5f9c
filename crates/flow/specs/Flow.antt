-- A flow, and the states that a search for one more path has found. All is over functions of nodes: `area` and `ends` are 1 at the nodes
-- behind t outside D and at those of them that feed D; `next` and `prev` are links.
use Rattle.std.specs.Prelude.{ℕ, zero, suc, ◌+◌, ◌≤◌, ◌<◌, ◌≡◌, Bool, true, false, ◌⊎◌}
use mathlib.Core.List.{List, Memᴰ}
use Rattle.storage.specs.Entries.{Upd}
use Rattle.theory.specs.paper.Net.{Net}
use Rattle.flow.specs.Numbers.{sum}
use Rattle.flow.specs.Links.{no_link, edge_of_flow, link_to}

-- 1 where the number is 1
abbrev pub one : ℕ → ℕ
one zero = 0
one (suc zero) = 1
one (suc (suc c)) = 0

-- 1 where the number is not 0
abbrev pub sign : ℕ → ℕ
sign zero = 0
sign (suc c) = 1

-- The links of a flow: a node is unused, or goes on and was come to; links run both ways, from a fanin to its reader, inside the area.
pub record Linked (net : Net) (area next prev : ℕ → ℕ) : Type 0 where
  pub inside : (v : ℕ) → 1 ≤ next v → area v ≡ 1
  pub idle : (v : ℕ) → next v ≡ no_link → prev v ≡ no_link
  pub fresh : (v : ℕ) → prev v ≡ no_link → next v ≡ no_link
  pub ahead : (v g : ℕ) → next v ≡ link_to g → prev g ≡ link_to v
  pub back : (v g : ℕ) → prev g ≡ link_to v → next v ≡ link_to g
  pub edge : (v g : ℕ) → next v ≡ link_to g → Memᴰ v (net.fanins g)

-- A flow of `number` paths: they start at inputs and stop at ends.
pub record Carries (net : Net) (area ends next prev : ℕ → ℕ) (number : ℕ) : Type 0 where
  pub linked : Linked net area next prev
  pub stops : (v : ℕ) → next v ≡ edge_of_flow → ends v ≡ 1
  pub starts : (v : ℕ) → prev v ≡ edge_of_flow → v < net.inputs
  pub paths : sum (λ v. one (prev v)) net.nodes ≡ number

-- A flow in which one path starts at a loose node, and the others at inputs.
pub record Open (net : Net) (area ends next prev : ℕ → ℕ) (number loose : ℕ) : Type 0 where
  pub linked : Linked net area next prev
  pub stops : (v : ℕ) → next v ≡ edge_of_flow → ends v ≡ 1
  pub starts : (v : ℕ) → prev v ≡ edge_of_flow → (v < net.inputs) ⊎ (v ≡ loose)
  pub loosened : prev loose ≡ edge_of_flow
  pub paths : sum (λ v. one (prev v)) net.nodes ≡ number

-- How the search came to v's in-state by its number: from the source, or from the out-state of v itself, where v is used, or of a fanin.
pub data WayIn (inputs : ℕ) (fanins : List ℕ) (next found-out : ℕ → ℕ) (v from number : ℕ) : Type 0 where
  source : v < inputs → from ≡ edge_of_flow → WayIn inputs fanins next found-out v from number
  own : from ≡ link_to v → 1 ≤ next v → 1 ≤ found-out v → found-out v < number → WayIn inputs fanins next found-out v from number
  fanin : (u : ℕ) → from ≡ link_to u → Memᴰ u fanins → 1 ≤ found-out u → found-out u < number →
      WayIn inputs fanins next found-out v from number

-- How it came to v's out-state: through v, where v is unused, or back from the node that v feeds.
pub data WayOut (next found_in : ℕ → ℕ) (v number : ℕ) : Type 0 where
  through : next v ≡ no_link → 1 ≤ found_in v → found_in v < number → WayOut next found_in v number
  back : (g : ℕ) → next v ≡ link_to g → 1 ≤ found_in g → found_in g < number → WayOut next found_in v number

-- The states found so far, numbered from 1 to `last` in the order in which they were found.
pub record Found (net : Net) (area next found_in found-out parent : ℕ → ℕ) (last : ℕ) : Type 0 where
  pub in_most : (v : ℕ) → found_in v ≤ last
  pub out_most : (v : ℕ) → found-out v ≤ last
  pub in_area : (v : ℕ) → 1 ≤ found_in v → area v ≡ 1
  pub out_area : (v : ℕ) → 1 ≤ found-out v → area v ≡ 1
  pub in_way : (v : ℕ) → 1 ≤ found_in v → WayIn net.inputs (net.fanins v) next found-out v (parent v) (found_in v)
  pub out_way : (v : ℕ) → 1 ≤ found-out v → WayOut next found_in v (found-out v)
  pub count : sum (λ v. sign (found_in v)) net.nodes + sum (λ v. sign (found-out v)) net.nodes ≡ last

-- Nothing more is reached at v.
pub record Calm (net : Net) (next found_in found-out : ℕ → ℕ) (v : ℕ) : Type 0 where
  pub source : v < net.inputs → 1 ≤ found_in v
  pub fanin : (u : ℕ) → Memᴰ u (net.fanins v) → 1 ≤ found-out u → 1 ≤ found_in v
  pub own : 1 ≤ next v → 1 ≤ found-out v → 1 ≤ found_in v
  pub through : next v ≡ no_link → 1 ≤ found_in v → 1 ≤ found-out v
  pub back : (g : ℕ) → next v ≡ link_to g → 1 ≤ found_in g → 1 ≤ found-out v

-- Nor is v an end that is reached.
pub record Settled (net : Net) (ends next found_in found-out : ℕ → ℕ) (v : ℕ) : Type 0 where
  pub calm : Calm net next found_in found-out v
  pub no_end : ends v ≡ 1 → found-out v ≡ 0

-- What was stored to free v's out-state: v, unused so far, is loose itself, or lets go of the node that it fed, which is loose then.
pub record Freed (next prev : ℕ → ℕ) (v loose : ℕ) (next' prev' : ℕ → ℕ) : Type 0 where
  pub out : Upd next v edge_of_flow next'
  pub «in» : Upd prev loose edge_of_flow prev'
  pub freed : ((next v ≡ no_link) × (loose ≡ v)) ⊎ (next v ≡ link_to loose)

-- The search's leaves: the in-state was found and the out-state was not.
abbrev pub is_leaf : ℕ → ℕ → Bool
is_leaf zero d = false
is_leaf (suc c) zero = true
is_leaf (suc c) (suc d) = false
