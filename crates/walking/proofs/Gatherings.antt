-- A list of gates in an array, with its marks, grows by one: what a store adds, and that turns of the code are turns of the definitions.
use Prim.Native.Nat.{ℕ, ◌+◌, ◌-◌, ◌≤◌, ◌<◌}
use native.Mathlib.Decide.{dec_lt}
use native.Mathlib.Numerals.{add-one}
use native.Mathlib.Omega.{arith}
use mathlib.Core.Path.{◌≡◌, refl, sym, subst, ◌∙◌}
use mathlib.Core.Bool.{or-true}
use mathlib.Core.Logic.{◌⊎◌, inl, inr, ⊎_elim}
use mathlib.Core.List.{List, [], ◌∷◌, ◌++◌, Memᴰ}
use lib.ListN.{length, get_or, set, take, length-take, length-set}
use lib.Seq.{take-suc-set, drop-set-lt}
use lib.Dec.{ltb}
use borrow.Author.Tests.{lt-ltb, le-ltb}
use Rattle.storage.specs.Drawings.{net_in}
use Rattle.storage.specs.Marks.{Marks}
use Rattle.storage.specs.Lists.{list_at}
use Rattle.storage.proofs.Entries.{member_more, member_last, no_repeats_more, is_member_lem, no_member}
use Rattle.storage.proofs.Clears.{beyond_same, beyond_then}
use Rattle.storage.proofs.Drawings.{fanins_in, fed_in}
use Rattle.storage.proofs.InMarks.{marks_more}
use Rattle.theory.specs.paper.Lists.{NoRepeats}
use Rattle.theory.proofs.Decisions.{decide_member}
use Rattle.walking.specs.Sweeps.{turn}
use Rattle.walking.specs.Gathering.{AllMarked, AddRoom, Added, Settled, Listing, Kept, Listed, noted}
use Rattle.walking.proofs.Counting.{room_for_missing}
use Rattle.walking.proofs.Placing.{AllSettled, Turns, turn_is, Waiting, decide_ready}

-- All else is kept: of itself, and one use after another.

pub kept_same : {inputs nodes : ℕ} {list marks : List ℕ} → Kept inputs nodes list marks list marks
kept_same {inputs} {nodes} {list} {marks} = record { list_rest = beyond_same (nodes - inputs) list; marks_rest = beyond_same nodes marks }

pub kept_on : {inputs nodes : ℕ} {list marks list' marks' list'' marks'' : List ℕ} → Kept inputs nodes list marks list' marks' →
    Kept inputs nodes list' marks' list'' marks'' → Kept inputs nodes list marks list'' marks''
kept_on k n = record { list_rest = beyond_then k.list_rest n.list_rest; marks_rest = beyond_then k.marks_rest n.marks_rest }

-- Listings

module _ {inputs nodes : ℕ} {fanins list marks : List ℕ} {size : ℕ} (l : Listing inputs nodes fanins list marks size) where
  pub listing_size : length (take size list) ≡ size
  listing_size = simp length-take (omega (arith, l.few, l.list_long))

  pub listed_same : Listed inputs nodes fanins list marks list marks size (take size list)
  listed_same = record { listing = l; entries = refl; kept = kept_same }

  module _ (v : ℕ) (node : v < nodes) where
    unsettled : (get_or marks v 0 ≡ 1 → ⊥) → Settled inputs (take size list) v → ⊥
    unsettled unmarked s = unmarked (l.settled.marked v node s)

    -- an unmarked node is a gate that is missing, so there is room for it
    pub room_for : (get_or marks v 0 ≡ 1 → ⊥) → inputs + size < nodes
    room_for unmarked = either (dec_lt v inputs)
      where
        either : Dec (v < inputs) → inputs + size < nodes
        either (yes low) = absurd (unsettled unmarked (inl low))
        either (no high) =
            let few = room_for_missing inputs nodes (omega (arith, l.few)) l.gates l.once v (omega arith) node (λ m. unsettled unmarked (inr m)) in
            omega (arith, listing_size)

    pub add_room : AddRoom list marks size v
    add_room = record { list_room = λ unmarked. omega (arith, room_for unmarked, l.list_long); marks_room = omega (arith, l.marks_long) }

    pub gate_added : (get_or marks v 0 ≡ 1 → ⊥) →
        Listed inputs nodes fanins list marks (set list size v) (set marks v 1) (size + 1) (take size list ++ (v ∷ []))
    gate_added unmarked =
        let room = room_for unmarked in
        let inside : size < length list = omega (arith, l.list_long) in
        let entries : take (size + 1) (set list size v) ≡ take size list ++ (v ∷ []) = rw add-one (take-suc-set list size v inside) in
        let new : Memᴰ v (take size list) → ⊥ = λ m. unsettled unmarked (inr m) in
        let high : inputs ≤ v = gate_above (dec_lt v inputs) in
        let settled : Marks nodes (Settled inputs (take size list ++ (v ∷ []))) (set marks v 1) =
        marks_more l.settled v (omega (arith, l.marks_long))
        (λ u s. ⊎_elim (λ (low : u < inputs). inl low) (λ m. inr (mathlib.Core.List.Memᴰ.append_left (v ∷ []) m)) s)
        (inr (member_last v (take size list)))
        (λ u s.
        ⊎_elim (λ (low : u < inputs). inl (inl low))
        (λ m. ⊎_elim (λ (old : Memᴰ u (take size list)). inl (inr old)) (λ (e : u ≡ v). inr e) (member_more m)) s) in
        record {
          listing =
              record {
                drawn = l.drawn;
                small = l.small;
                list_long = omega (arith, l.list_long, length-set list size v);
                marks_long = omega (arith, l.marks_long, length-set marks v 1);
                few = omega arith;
                gates =
                    λ u m.
                    ⊎_elim (l.gates u) (λ (e : u ≡ v). omega arith) (member_more (subst (Memᴰ u) entries m));
                once = subst NoRepeats (sym entries) (no_repeats_more l.once new);
                settled = subst (λ (x : List ℕ). Marks nodes (Settled inputs x) (set marks v 1)) (sym entries) settled;
              };
          entries = entries;
          kept =
              record {
                list_rest = record { size = length-set list size v; beyond = drop-set-lt (nodes - inputs) list size v (omega arith) };
                marks_rest = record { size = length-set marks v 1; beyond = drop-set-lt nodes marks v 1 node };
              };
        }
      where
        gate_above : Dec (v < inputs) → inputs ≤ v
        gate_above (yes low) = absurd (unsettled unmarked (inl low))
        gate_above (no high) = omega arith

-- a list that is listed again
pub listed_on : {inputs nodes : ℕ} {fanins list marks list' marks' list'' marks'' : List ℕ} {size' size'' : ℕ} {l' l'' : List ℕ} →
    Listed inputs nodes fanins list marks list' marks' size' l' → Listed inputs nodes fanins list' marks' list'' marks'' size'' l'' →
    Listed inputs nodes fanins list marks list'' marks'' size'' l''
listed_on a b = record { listing = b.listing; entries = b.entries; kept = kept_on a.kept b.kept }

-- by another name of the list
pub listed_as : {inputs nodes : ℕ} {fanins list marks list' marks' : List ℕ} {size' : ℕ} {l l' : List ℕ} → l ≡ l' →
    Listed inputs nodes fanins list marks list' marks' size' l → Listed inputs nodes fanins list marks list' marks' size' l'
listed_as e a = record { listing = a.listing; entries = a.entries ∙ e; kept = a.kept }

-- a node that is added if it is not marked, and all of `us` are
pub added_ready : {us : List ℕ} {v : ℕ} {list marks : List ℕ} {size : ℕ} {list' marks' : List ℕ} {size' : ℕ} →
    (get_or marks v 0 ≡ 1 → ⊥) → AllMarked us marks → Added [] v list marks size list' marks' size' → Added us v list marks size list' marks' size'
added_ready unmarked ready (Added.marked one _ _ _) = absurd (unmarked one)
added_ready unmarked ready (Added.waits some _ _ _) = absurd (some (λ u m. absurd (mathlib.Core.List.Memᴰ.not-nil m)))
added_ready unmarked ready (Added.added new _ p q r) = Added.added new ready p q r

-- the code's turn in a sweep is the definition's
module _ {inputs nodes : ℕ} {fanins list marks : List ℕ} {size : ℕ} (l : Listing inputs nodes fanins list marks size)
    {v : ℕ} (node : v < nodes) (above : inputs ≤ v) where
  placed : Settled inputs (take size list) v → Memᴰ v (take size list)
  placed (inl low) = absurd (omega arith)
  placed (inr m) = m

  rests : (AllMarked (list_at fanins v) marks → ⊥) → turn (net_in inputs nodes fanins) (take size list) v ≡ take size list
  unfolding net_in
  rests some = either (decide_member v (take size list)) (decide_ready (net_in inputs nodes fanins) (take size list) ((net_in inputs nodes fanins).fanins v))
    where
      all : AllSettled (net_in inputs nodes fanins) (take size list) ((net_in inputs nodes fanins).fanins v) → AllMarked (list_at fanins v) marks
      all settled u m =
          l.settled.marked u ((fed_in l.drawn v node nodes (omega arith)).known u m)
          (settled u (subst (Memᴰ u) (sym (fanins_in inputs nodes fanins v node)) m))

      either : Dec (Memᴰ v (take size list)) →
          AllSettled (net_in inputs nodes fanins) (take size list) ((net_in inputs nodes fanins).fanins v)
          ⊎ Waiting (net_in inputs nodes fanins) (take size list) ((net_in inputs nodes fanins).fanins v) →
          turn (net_in inputs nodes fanins) (take size list) v ≡ take size list
      either (yes here) r = turn_is (net_in inputs nodes fanins) (Turns.placed here)
      either (no new) (inl settled) = absurd (some (all settled))
      either (no new) (inr w) = turn_is (net_in inputs nodes fanins) (Turns.waits new w)

  goes : (get_or marks v 0 ≡ 1 → ⊥) → AllMarked (list_at fanins v) marks → turn (net_in inputs nodes fanins) (take size list) v ≡ take size list ++ (v ∷ [])
  unfolding net_in
  goes unmarked ready =
      turn_is (net_in inputs nodes fanins)
      (Turns.goes (λ m. unmarked (l.settled.marked v node (inr m)))
      (λ u m.
      let here : Memᴰ u (list_at fanins v) = subst (Memᴰ u) (fanins_in inputs nodes fanins v node) m in
      l.settled.holds u ((fed_in l.drawn v node nodes (omega arith)).known u here) (ready u here)))

module _ {inputs nodes : ℕ} {fanins list marks : List ℕ} {size : ℕ} (l : Listing inputs nodes fanins list marks size)
    {list' marks' : List ℕ} {size' : ℕ} {v : ℕ} (node : v < nodes) where
  kept : {m : List ℕ} → list' ≡ list → marks' ≡ marks → size' ≡ size → take size list ≡ m → Listed inputs nodes fanins list marks list' marks' size' m
  kept p q r e = rw (p, q, r) (listed_as e (listed_same l))

  more : {m : List ℕ} → (get_or marks v 0 ≡ 1 → ⊥) → list' ≡ set list size v → marks' ≡ set marks v 1 → size' ≡ size + 1 →
      take size list ++ (v ∷ []) ≡ m → Listed inputs nodes fanins list marks list' marks' size' m
  more unmarked p q r e = rw (p, q, r) (listed_as e (gate_added l v node unmarked))

  -- in the search back
  pub note_listed : Added [] v list marks size list' marks' size' → Listed inputs nodes fanins list marks list' marks' size' (noted inputs (take size list) v)
  unfolding noted
  note_listed (Added.marked one p q r) = kept p q r (sym (settled (l.settled.holds v node one)))
    where
      settled : Settled inputs (take size list) v → noted inputs (take size list) v ≡ take size list
      settled (inl low) = rw (lt-ltb v inputs low)
      settled (inr m) = rw (is_member_lem m, or-true (ltb v inputs))
  note_listed (Added.waits some _ _ _) = absurd (some (λ u m. absurd (mathlib.Core.List.Memᴰ.not-nil m)))
  note_listed (Added.added unmarked _ p q r) = more unmarked p q r (sym (rw (le-ltb v inputs (high (dec_lt v inputs)), no_member new)))
    where
      new : Memᴰ v (take size list) → ⊥
      new m = unmarked (l.settled.marked v node (inr m))

      high : Dec (v < inputs) → inputs ≤ v
      high (yes low) = absurd (unmarked (l.settled.marked v node (inl low)))
      high (no none) = omega arith

  -- in a sweep
  pub turn_listed : inputs ≤ v → Added (list_at fanins v) v list marks size list' marks' size' →
      Listed inputs nodes fanins list marks list' marks' size' (turn (net_in inputs nodes fanins) (take size list) v)
  turn_listed above (Added.marked one p q r) =
      kept p q r (sym (turn_is (net_in inputs nodes fanins) (Turns.placed (placed l node above (l.settled.holds v node one)))))
  turn_listed above (Added.waits some p q r) = kept p q r (sym (rests l node above some))
  turn_listed above (Added.added unmarked ready p q r) = more unmarked p q r (sym (goes l node above unmarked ready))
