-- Counting gates: a list of gates without repeats has at most as many entries as there are gates, all of them if it is as long, and misses one if
-- it is shorter. By comparing it with the list of all gates.
use Prim.Native.Nat.{ℕ, zero, suc, ◌+◌, ◌-◌, ◌≤◌, ◌<◌}
use native.Mathlib.Decide.{dec_le, ℕ_discrete}
use native.Mathlib.Omega.{arith}
use mathlib.Core.Path.{◌≡◌, refl, ap}
use mathlib.Core.Logic.Dec
use mathlib.Core.Logic.{⊎_elim}
use mathlib.Core.List.Memᴰ
use mathlib.Core.List.{List, [], ◌∷◌, Memᴰ}
use lib.ListN.{length}
use Rattle.theory.specs.paper.Lists.{NoRepeats}
use Rattle.theory.proofs.Members.{no_longer}
use Rattle.theory.proofs.Decisions.{decide_both, decide_member, decide_some_below}

-- n numbers from v on
numbers : (n v : ℕ) → List ℕ
numbers zero v = []
numbers (suc n) v = v ∷ numbers n (suc v)

numbers_size : (n v : ℕ) → length (numbers n v) ≡ n
unfolding numbers
numbers_size zero v = refl
numbers_size (suc n) v = ap suc (numbers_size n (suc v))

number_between : (n v w : ℕ) → Memᴰ w (numbers n v) → (v ≤ w) × (w < v + n)
unfolding numbers
number_between zero v w m = absurd (Memᴰ.not-nil m)
number_between (suc n) v w m =
    ⊎_elim (λ (e : w ≡ v). omega arith) (λ later. let both = number_between n (suc v) w later in omega arith) (Memᴰ.cases_cons m)

between_number : (n v w : ℕ) → v ≤ w → w < v + n → Memᴰ w (numbers n v)
unfolding numbers
between_number zero v w low high = absurd (omega arith)
between_number (suc n) v w low high = either (ℕ_discrete w v) (between_number n (suc v) w)
  where
    either : Dec (w ≡ v) → (suc v ≤ w → w < suc v + n → Memᴰ w (numbers n (suc v))) → Memᴰ w (v ∷ numbers n (suc v))
    either (yes e) later = Memᴰ.head e
    either (no apart) later = Memᴰ.tail (later (omega arith) (omega arith))

numbers_once : (n v : ℕ) → NoRepeats (numbers n v)
unfolding numbers
numbers_once zero v = NoRepeats.none
numbers_once (suc n) v = NoRepeats.more (λ m. let both = number_between n (suc v) v m in omega arith) (numbers_once n (suc v))

-- every entry is a gate
abbrev pub AllGates : (inputs nodes : ℕ) → List ℕ → Type 0
AllGates inputs nodes l = (v : ℕ) → Memᴰ v l → (inputs ≤ v) × (v < nodes)

module _ (inputs nodes : ℕ) (span : inputs ≤ nodes) where
  pub at_most_gates : {l : List ℕ} → AllGates inputs nodes l → NoRepeats l → inputs + length l ≤ nodes
  at_most_gates {l} gates once =
      let few = no_longer (numbers (nodes - inputs) inputs) once (λ v m. let g = gates v m in between_number (nodes - inputs) inputs v g.0 (omega arith)) in
      omega (arith, numbers_size (nodes - inputs) inputs)

  -- there is room for one that is missing
  pub room_for_missing : {l : List ℕ} → AllGates inputs nodes l → NoRepeats l → (v : ℕ) → inputs ≤ v → v < nodes → (Memᴰ v l → ⊥) → inputs + length l < nodes
  room_for_missing {l} gates once v low high new =
      let few : inputs + length (v ∷ l) ≤ nodes =
      at_most_gates {l = v ∷ l} (λ u m. ⊎_elim (λ (e : u ≡ v). omega arith) (gates u) (Memᴰ.cases_cons m)) (NoRepeats.more new once) in
      omega arith

  pub all_listed : {l : List ℕ} → AllGates inputs nodes l → NoRepeats l → inputs + length l ≡ nodes → (v : ℕ) → inputs ≤ v → v < nodes → Memᴰ v l
  all_listed {l} gates once full v low high =
      (Dec.not-not (decide_member v l)).0 (λ new. omega (arith, room_for_missing gates once v low high new))

  pub one_missing : (l : List ℕ) → inputs + length l < nodes → (v : ℕ) × (v < nodes) × ((inputs ≤ v) × (Memᴰ v l → ⊥))
  one_missing l short = found (decide_some_below (λ v. (inputs ≤ v) × (Memᴰ v l → ⊥)) nodes (λ v. decide_both (dec_le inputs v) (λ _. Dec.not (decide_member v l))))
    where
      found : Dec ((v : ℕ) × (v < nodes) × ((inputs ≤ v) × (Memᴰ v l → ⊥))) → (v : ℕ) × (v < nodes) × ((inputs ≤ v) × (Memᴰ v l → ⊥))
      found (yes some) = some
      found (no none) =
          let long = no_longer l (numbers_once (nodes - inputs) inputs)
          (λ v m.
          let both = number_between (nodes - inputs) inputs v m in
          (Dec.not-not (decide_member v l)).0 (λ new. none (v, omega arith, (both.0, new)))) in
          absurd (omega (arith, numbers_size (nodes - inputs) inputs))
