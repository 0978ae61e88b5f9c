-- The order of the gates: by sweeps. In a sweep the gates are taken in id order, and a gate is placed as soon as each of its fanins is an input
-- or placed, earlier in this sweep or in a sweep before. So the order is by sweep, then by id, and there is no choice in it.
use Rattle.std.specs.Prelude.{ℕ, zero, suc, ◌-◌, Bool, true, cond, ◌||◌, ◌&&◌, List, [], ◌∷◌, ◌++◌, ltb}
use Rattle.theory.specs.paper.Net.{Net}
use Rattle.theory.specs.Members.{is_member}

-- each of the nodes is an input or placed
unfoldable pub ready : Net → (placed : List ℕ) → List ℕ → Bool
ready net placed [] = true
ready net placed (u ∷ us) = (ltb u net.inputs || is_member u placed) && ready net placed us

-- gate v's turn in a sweep
unfoldable pub turn : Net → (placed : List ℕ) → ℕ → List ℕ
turn net placed v = cond (is_member v placed) placed (cond (ready net placed (net.fanins v)) (placed ++ (v ∷ [])) placed)

-- the turns of `left` gates, from gate v on
unfoldable pub turns_from : Net → (left v : ℕ) → (placed : List ℕ) → List ℕ
turns_from net zero v placed = placed
turns_from net (suc left) v placed = turns_from net left (suc v) (turn net placed v)

-- one sweep
abbrev pub swept : Net → (placed : List ℕ) → List ℕ
swept net placed = turns_from net (net.nodes - net.inputs) net.inputs placed

unfoldable pub swept_times : Net → ℕ → (placed : List ℕ) → List ℕ
swept_times net zero placed = placed
swept_times net (suc n) placed = swept_times net n (swept net placed)

-- As many sweeps as there are gates: each sweep places a gate, or none after it does.
unfoldable pub order_of : Net → List ℕ
order_of net = swept_times net (net.nodes - net.inputs) []
