-- The walk over the arrays: how it begins, a turn, and what it leaves; and what the tests after it say of a cut.
use Prim.Native.Nat.{ℕ, suc, ◌-◌, ◌≤◌, ◌<◌}
use native.Mathlib.Decide.{ℕ_discrete}
use native.Mathlib.Omega.{arith}
use mathlib.Core.Path.{◌≡◌, ap, sym, subst, ◌∙◌}
use mathlib.Core.List.{List, Memᴰ}
use lib.ListN.{length, get_or, set, take, length-take, length-set}
use lib.Seq.{get_or-take, get_or-set_same, get_or-set_other, drop-set-lt}
use Rattle.storage.specs.Drawings.{net_in, Fed}
use Rattle.storage.specs.Entries.{cleared, Beyond}
use Rattle.storage.specs.Lists.{list_at}
use Rattle.storage.specs.Roles.{walked_bit, met_bit, walked_in, met_in}
use Rattle.storage.proofs.Clears.{cleared_size, cleared_low, cleared_beyond, beyond_same, beyond_then}
use Rattle.storage.proofs.Drawings.{fanins_in, fed_in}
use Rattle.storage.proofs.Entries.{member_at}
use Rattle.storage.proofs.InRoles.{walked_at, met_at}
use Rattle.theory.specs.paper.Lists.{Rising}
use Rattle.theory.specs.paper.Walk.{Walked, Cut}
use Rattle.theory.proofs.Walks.{met_node}
use Rattle.walking.specs.Walking.{Turned}
use Rattle.walking.specs.Promises.{WalkRoom, WalkMade}
use Rattle.walking.proofs.Walks.{WalkLeft, walk_turn, walk_end}

-- the state of the walk over the arrays
abbrev pub Walking : (inputs nodes : ℕ) (fanins order : List ℕ) (t : ℕ) (leaves begun : List ℕ) (i : ℕ) (roles : List ℕ) → Type 0
Walking inputs nodes fanins order t leaves begun i roles =
    WalkLeft (net_in inputs nodes fanins) leaves t (take (nodes - inputs) order) begun i roles

module _ {inputs nodes k : ℕ} {fanins order : List ℕ} {t : ℕ} {roles₀ : List ℕ} (room : WalkRoom inputs nodes k fanins order t roles₀) where
  gates_held : length (take (nodes - inputs) order) ≡ nodes - inputs
  gates_held = simp length-take (omega (arith, room.drawing.order_long))

  module _ {clear begun : List ℕ} (p : clear ≡ cleared nodes roles₀) (q : begun ≡ set clear t 1) where
    begun_rest : Beyond nodes roles₀ begun
    begun_rest =
        beyond_then (cleared_beyond nodes roles₀ room.roles_long)
        (rw (q, p) (record { size = length-set (cleared nodes roles₀) t 1; beyond = drop-set-lt nodes (cleared nodes roles₀) t 1 room.node }))

    begun_long : nodes ≤ length begun
    begun_long = omega (arith, begun_rest.size, room.roles_long)

module _ {inputs nodes k : ℕ} {fanins order : List ℕ} {t : ℕ} {leaves roles₀ : List ℕ} (room : WalkRoom inputs nodes k fanins order t roles₀) where
  module _ {clear begun : List ℕ} (p : clear ≡ cleared nodes roles₀) (q : begun ≡ set clear t 1) where
    pub walk_begins : Walking inputs nodes fanins order t leaves begun (nodes - inputs) begun
    unfolding net_in walked_bit met_bit
    walk_begins =
        record {
          walked_true = λ v low one. walked_true v low one (ℕ_discrete v t);
          met_true = λ v low one. absurd (omega (arith, unmet v low (ℕ_discrete v t)));
          start = walked_at begun t ∙ ap walked_bit at_start;
          done = λ j from low. absurd (omega (arith, gates_held room));
          most = λ v low. most v low (ℕ_discrete v t);
          rest = beyond_same nodes begun;
        }
      where
        at_start : get_or begun t 0 ≡ 1
        at_start =
            ap (λ (x : List ℕ). get_or x t 0) q
            ∙ get_or-set_same clear t 1 0 (omega (arith, ap length p, cleared_size nodes roles₀ room.roles_long, room.node, room.roles_long))

        elsewhere : (v : ℕ) → v < nodes → (v ≡ t → ⊥) → get_or begun v 0 ≡ 0
        elsewhere v low apart =
            ap (λ (x : List ℕ). get_or x v 0) q ∙ get_or-set_other clear t v 1 0 apart ∙ ap (λ (x : List ℕ). get_or x v 0) p
            ∙ cleared_low nodes roles₀ room.roles_long v low

        unmet : (v : ℕ) → v < nodes → Dec (v ≡ t) → get_or (met_in begun) v 0 ≡ 0
        unmet v low (yes e) = met_at begun v ∙ ap met_bit (ap (λ (x : ℕ). get_or begun x 0) e ∙ at_start)
        unmet v low (no apart) = met_at begun v ∙ ap met_bit (elsewhere v low apart)

        most : (v : ℕ) → v < nodes → Dec (v ≡ t) → get_or begun v 0 ≤ 3
        most v low (yes e) = omega (arith, ap (λ (x : ℕ). get_or begun x 0) e, at_start)
        most v low (no apart) = omega (arith, elsewhere v low apart)

        walked_true : (v : ℕ) → v < nodes → get_or (walked_in begun) v 0 ≡ 1 → Dec (v ≡ t) → Walked (net_in inputs nodes fanins) leaves t v
        walked_true v low one (yes e) = subst (Walked (net_in inputs nodes fanins) leaves t) (sym e) Walked.start
        walked_true v low one (no apart) = absurd (omega (arith, walked_at begun v ∙ ap walked_bit (elsewhere v low apart)))

    -- the gate whose turn it is
    module _ {i v : ℕ} {roles : List ℕ} (left : Walking inputs nodes fanins order t leaves begun i roles)
        (some : 0 < i) (high : i ≤ nodes - inputs) (here : v ≡ get_or order (i - 1) 0) where
      entry : get_or (take (nodes - inputs) order) (i - 1) 0 ≡ v
      entry = get_or-take (nodes - inputs) order (i - 1) 0 (omega arith) ∙ sym here

      turn_node : v < nodes
      unfolding net_in
      turn_node =
          let gates = take (nodes - inputs) order in
          let gate = room.drawing.ordered.gates (get_or gates (i - 1) 0) (member_at gates (i - 1) (omega (arith, gates_held room))) in
          omega (arith, gate.below, entry)

      pub turn_room : Fed fanins v (length roles) × ((v < length roles) × (get_or roles v 0 ≤ 3))
      unfolding net_in
      turn_room =
          let long : nodes ≤ length roles = omega (arith, left.rest.size, begun_long room p q) in (
            fed_in room.drawing.drawn v turn_node (length roles) long,
            (omega (arith, turn_node), left.most v turn_node),
          )

      pub walk_turns : {roles' : List ℕ} → Turned (list_at fanins v) leaves v roles roles' →
          Walking inputs nodes fanins order t leaves begun (i - 1) roles'
      unfolding net_in
      walk_turns {roles'} turned =
          let due : i ≡ suc (i - 1) = omega arith in
          walk_turn (net_in inputs nodes fanins) leaves t (take (nodes - inputs) order)
          room.drawing.drawn.bounded room.drawing.ordered (begun_long room p q)
          (subst (λ (n : ℕ). Walking inputs nodes fanins order t leaves begun n roles) due left)
          (omega (arith, gates_held room))
          (rw entry (subst (λ (us : List ℕ). Turned us leaves v roles roles') (sym (fanins_in inputs nodes fanins v turn_node)) turned))

    pub walk_made : {roles : List ℕ} → Walking inputs nodes fanins order t leaves begun 0 roles →
        WalkMade (net_in inputs nodes fanins) leaves t roles₀ roles
    unfolding net_in
    walk_made left =
        let marks = walk_end (net_in inputs nodes fanins) leaves t (take (nodes - inputs) order)
        room.drawing.drawn.bounded room.drawing.ordered (begun_long room p q) left room.node in
        record { walked_marks = marks.0; met_marks = marks.1; most = left.most; rest = beyond_then (begun_rest room p q) left.rest }

  -- A cut

  module _ {roles : List ℕ} (made : WalkMade (net_in inputs nodes fanins) leaves t roles₀ roles) where
    pub cut_met : Cut (net_in inputs nodes fanins) k t leaves →
        (v : ℕ) → Memᴰ v leaves → (v < nodes) × (get_or (met_in roles) v 0 ≡ 1)
    unfolding net_in
    cut_met cut v leaf =
        let m = cut.met v leaf in
        let low : v < nodes = met_node room.drawing.drawn.bounded room.node m in
        (low, made.met_marks.marked v low m)

    pub cut_stops : Cut (net_in inputs nodes fanins) k t leaves →
        (v : ℕ) → v < inputs → get_or (met_in roles) v 0 ≡ 1 → Memᴰ v leaves
    unfolding net_in
    cut_stops cut v low one = cut.stops v (made.met_marks.holds v (omega (arith, room.drawing.drawn.bounded.span)) one) low

    pub cut_whole : 1 ≤ length leaves → length leaves ≤ k → Rising leaves →
        ((v : ℕ) → Memᴰ v leaves → (v < nodes) × (get_or (met_in roles) v 0 ≡ 1)) →
        ((v : ℕ) → v < inputs → get_or (met_in roles) v 0 ≡ 1 → Memᴰ v leaves) →
        Cut (net_in inputs nodes fanins) k t leaves
    unfolding net_in
    cut_whole some few rising all stop =
        record {
          stops = λ v m low. stop v low (made.met_marks.marked v (omega (arith, room.drawing.drawn.bounded.span)) m);
          met = λ v leaf. let both = all v leaf in made.met_marks.holds v both.0 both.1;
          rising = rising;
          some = some;
          few = few;
        }
