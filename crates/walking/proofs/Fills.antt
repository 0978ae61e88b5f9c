-- The marks at the start: the inputs, and no gate.
use Prim.Native.Nat.{ℕ, ◌-◌, ◌≤◌, ◌<◌}
use native.Mathlib.Decide.{dec_lt}
use native.Mathlib.Omega.{arith}
use mathlib.Core.Path.{◌≡◌, ◌∙◌}
use mathlib.Core.Logic.{◌⊎◌, inl, inr}
use mathlib.Core.List.Memᴰ
use mathlib.Core.List.{List, []}
use lib.ListN.{length, get_or}
use Rattle.storage.specs.Entries.{cleared, Beyond}
use Rattle.storage.specs.Marks.{Marks}
use Rattle.storage.proofs.Clears.{filled, filled_size, filled_low, filled_high, filled_beyond, cleared_size, cleared_low, cleared_beyond, beyond_same}
use Rattle.storage.proofs.Drawings.{drawn_span}
use Rattle.theory.specs.paper.Lists.{NoRepeats}
use Rattle.walking.specs.Gathering.{Settled, Listing, Kept}
use Rattle.walking.specs.Promises.{OrderRoom}

abbrev pub started : (inputs nodes : ℕ) → List ℕ → List ℕ
started inputs nodes marks = filled inputs 1 (cleared nodes marks)

module _ (inputs nodes : ℕ) (span : inputs ≤ nodes) (marks : List ℕ) (long : nodes ≤ length marks) where
  inner : inputs ≤ length (cleared nodes marks)
  inner = omega (arith, cleared_size nodes marks long)

  pub started_rest : Beyond nodes marks (started inputs nodes marks)
  started_rest =
      record {
        size = filled_size inputs 1 (cleared nodes marks) inner ∙ cleared_size nodes marks long;
        beyond = filled_beyond inputs 1 (cleared nodes marks) inner nodes span ∙ (cleared_beyond nodes marks long).beyond;
      }

  pub started_marks : Marks nodes (Settled inputs []) (started inputs nodes marks)
  started_marks = record { bit = λ v low. bit v low (dec_lt v inputs); holds = λ v low. holds v low (dec_lt v inputs); marked = λ v low. marked v }
    where
      at_input : (v : ℕ) → v < inputs → get_or (started inputs nodes marks) v 0 ≡ 1
      at_input v low = filled_low inputs 1 (cleared nodes marks) inner v low

      at_gate : (v : ℕ) → inputs ≤ v → v < nodes → get_or (started inputs nodes marks) v 0 ≡ 0
      at_gate v high low = filled_high inputs 1 (cleared nodes marks) inner v high ∙ cleared_low nodes marks long v low

      bit : (v : ℕ) → v < nodes → Dec (v < inputs) → (get_or (started inputs nodes marks) v 0 ≡ 0) ⊎ (get_or (started inputs nodes marks) v 0 ≡ 1)
      bit v low (yes input) = inr (at_input v input)
      bit v low (no high) = inl (at_gate v (omega arith) low)

      holds : (v : ℕ) → v < nodes → Dec (v < inputs) → get_or (started inputs nodes marks) v 0 ≡ 1 → Settled inputs [] v
      holds v low (yes input) one = inl input
      holds v low (no high) one = absurd (omega (arith, at_gate v (omega arith) low))

      marked : (v : ℕ) → Settled inputs [] v → get_or (started inputs nodes marks) v 0 ≡ 1
      marked v (inl input) = at_input v input
      marked v (inr m) = absurd (Memᴰ.not-nil m)

module _ {inputs nodes : ℕ} {fanins list marks : List ℕ} (room : OrderRoom inputs nodes fanins list marks) where
  -- nothing is listed yet
  pub start_listing : Listing inputs nodes fanins list (started inputs nodes marks) 0
  start_listing =
      let span = drawn_span room.drawn in
      record {
        drawn = room.drawn;
        small = room.small;
        list_long = room.order_long;
        marks_long = omega (arith, (started_rest inputs nodes span marks room.marks_long).size, room.marks_long);
        few = omega arith;
        gates = λ v m. absurd (Memᴰ.not-nil m);
        once = NoRepeats.none;
        settled = started_marks inputs nodes span marks room.marks_long;
      }

  pub kept_started : {marks' : List ℕ} → marks' ≡ started inputs nodes marks → Kept inputs nodes list marks list marks'
  kept_started e =
      record {
        list_rest = beyond_same (nodes - inputs) list;
        marks_rest = rw e (started_rest inputs nodes (drawn_span room.drawn) marks room.marks_long);
      }
