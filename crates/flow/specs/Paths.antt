-- The paths that stand in `next` and `prev`.
use Rattle.std.specs.Prelude.{ℕ, zero, suc, ◌≤◌, ◌<◌, ◌≡◌, eqb}
use mathlib.Core.List.{List, [], ◌∷◌, map, Memᴰ}
use Rattle.theory.specs.paper.Net.{Net}
use Rattle.storage.specs.Entries.{at}
use Rattle.flow.specs.Numbers.{those}
use Rattle.flow.specs.Links.{next_in, prev_in, no_link, edge_of_flow, link_to}

-- what follows at the node that a link leads to: nothing behind no link or the edge of the flow
abbrev pub onward : ℕ → (ℕ → List ℕ) → List ℕ
onward zero from = []
onward (suc zero) from = []
onward (suc (suc g)) from = from g

-- from v on, as far as `next` leads, at most `room` nodes
unfoldable pub follow : (ℕ → ℕ) → ℕ → ℕ → List ℕ
follow next zero v = []
follow next (suc room) v = v ∷ onward (next v) (follow next room)

-- the inputs at which paths start, rising
abbrev pub starts_in : (inputs nodes : ℕ) (links : List ℕ) → List ℕ
starts_in inputs nodes links = those (λ v. eqb (at (prev_in nodes links) v) edge_of_flow) inputs

-- The paths, by their first nodes.
unfoldable pub paths_in : (inputs nodes : ℕ) (links : List ℕ) → List (List ℕ)
paths_in inputs nodes links = map (follow (at (next_in nodes links)) nodes) (starts_in inputs nodes links)

-- The links are those of paths from inputs along fanins and of nothing else: a node on no path has none in both, and the two lead there and back.
pub record Links (net : Net) (next prev : ℕ → ℕ) : Type 0 where
  pub below : (v : ℕ) → 1 ≤ next v → v < net.nodes
  pub idle : (v : ℕ) → next v ≡ no_link → prev v ≡ no_link
  pub fresh : (v : ℕ) → prev v ≡ no_link → next v ≡ no_link
  pub ahead : (v g : ℕ) → next v ≡ link_to g → prev g ≡ link_to v
  pub back : (v g : ℕ) → prev g ≡ link_to v → next v ≡ link_to g
  pub edge : (v g : ℕ) → next v ≡ link_to g → Memᴰ v (net.fanins g)
  pub starts : (v : ℕ) → prev v ≡ edge_of_flow → v < net.inputs

-- The first two columns are such links.
abbrev pub LinksIn : (net : Net) (nodes : ℕ) (links : List ℕ) → Type 0
LinksIn net nodes links = Links net (at (next_in nodes links)) (at (prev_in nodes links))
