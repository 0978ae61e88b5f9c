-- p: the greatest label of a gate's fanins, one fanin more at a time.
use Prim.Native.Nat.{ℕ, max, ◌+◌, ◌<◌}
use native.Mathlib.Omega.{arith}
use mathlib.Core.Path.{◌≡◌, ap, sym, ◌∙◌}
use mathlib.Core.List.{List, [], ◌∷◌, ◌++◌, map}
use lib.ListN.{length, get_or, take}
use Rattle.theory.specs.paper.Lists.{greatest}
use Rattle.theory.specs.paper.Evidence.{peak}
use Rattle.storage.specs.Lists.{list_at}
use Rattle.storage.proofs.Entries.{next_taken}
use Rattle.storage.proofs.Drawings.{fanins_in}
use Rattle.area.specs.Area.{label_in, PeakIn}

greatest_more : (f : ℕ → ℕ) (l : List ℕ) (x : ℕ) → greatest (map f (l ++ (x ∷ []))) ≡ max (greatest (map f l)) (f x)
unfolding greatest
greatest_more f [] x = omega arith
greatest_more f (y ∷ l) x = let e = greatest_more f l x in omega arith

-- the greatest label of one fanin more
pub peak_more : (labels l : List ℕ) (i : ℕ) → i < length l → {best label more : ℕ} → best ≡ greatest (map (label_in labels) (take i l)) →
    label ≡ get_or labels (get_or l i 0) 0 → more ≡ max best label → more ≡ greatest (map (label_in labels) (take (i + 1) l))
peak_more labels l i low {best} so_far read taken =
    let top = greatest_more (label_in labels) (take i l) (get_or l i 0) in
    omega arith ∙ sym (ap (λ (x : List ℕ). greatest (map (label_in labels) x)) (next_taken l i low))

pub peak_in : (fanins : List ℕ) (gate : ℕ) (labels : List ℕ) {p : ℕ} → p ≡ greatest (map (label_in labels) (list_at fanins gate)) →
    PeakIn fanins gate labels p
unfolding peak
peak_in fanins gate labels e inputs nodes low =
    e ∙ ap (λ (l : List ℕ). greatest (map (label_in labels) l)) (sym (fanins_in inputs nodes fanins gate low))
