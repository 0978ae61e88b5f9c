-- One turn of the walk back, as stores into the roles, and what it is in the marks of one kind.
use Rattle.std.specs.Prelude.{ℕ, ◌+◌, ◌≡◌, cond, List, [], ◌∷◌, get_or, set}
use Rattle.storage.specs.Roles.{walked_bit, walked_in}
use Rattle.theory.specs.Members.{is_member}

-- a node is met: a leaf is walked only if it was (the root may be one), any other node is walked too
abbrev pub meet_one : (leaves roles : List ℕ) → ℕ → List ℕ
meet_one leaves roles u = set roles u (cond (is_member u leaves) (2 + walked_bit (get_or roles u 0)) 3)

unfoldable pub meet_all : (leaves roles : List ℕ) → List ℕ → List ℕ
meet_all leaves roles [] = roles
meet_all leaves roles (u ∷ us) = meet_all leaves (meet_one leaves roles u) us

-- a node's mark, unless it is a leaf
abbrev pub mark_one : (leaves marks : List ℕ) → ℕ → List ℕ
mark_one leaves marks u = cond (is_member u leaves) marks (set marks u 1)

unfoldable pub mark_open : (leaves marks : List ℕ) → List ℕ → List ℕ
mark_open leaves marks [] = marks
mark_open leaves marks (u ∷ us) = mark_open leaves (mark_one leaves marks u) us

-- node v's turn: where v is walked, its fanins are met
pub data Turned (us leaves : List ℕ) (v : ℕ) (roles roles' : List ℕ) : Type 0 where
  rests : (get_or (walked_in roles) v 0 ≡ 1 → ⊥) → roles' ≡ roles → Turned us leaves v roles roles'
  goes : get_or (walked_in roles) v 0 ≡ 1 → roles' ≡ meet_all leaves roles us → Turned us leaves v roles roles'
