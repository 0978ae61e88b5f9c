-- Lists of places that rise by two at least, between two bounds: a name has a byte, and a byte stands between two names.
use Prim.Native.Nat.{ℕ, ◌+◌, ◌*◌, ◌≤◌, ◌<◌}
use native.Mathlib.Nat.{le_trans}
use native.Mathlib.Omega.{arith}
use mathlib.Core.Path.{◌≡◌}
use mathlib.Core.Logic.{⊎_elim}
use mathlib.Core.List.Memᴰ
use mathlib.Core.List.{List, [], ◌∷◌, ◌++◌, Memᴰ}
use lib.ListN.{length}
use Rattle.theory.specs.paper.Lists.{Rising}

pub data Climbs : (i j : ℕ) → List ℕ → Type 0 where
  none : {i j : ℕ} → i ≤ j → Climbs i j []
  more : {i j p : ℕ} {ps : List ℕ} → i ≤ p → Climbs (p + 2) j ps → Climbs i j (p ∷ ps)

pub climbs_from : {h i j : ℕ} {l : List ℕ} → h ≤ i → Climbs i j l → Climbs h j l
climbs_from low (Climbs.none span) = Climbs.none (le_trans low span)
climbs_from low (Climbs.more here rest) = Climbs.more (le_trans low here) rest

pub climbs_join : {i j k : ℕ} {l m : List ℕ} → Climbs i j l → Climbs j k m → Climbs i k (l ++ m)
climbs_join (Climbs.none span) later = climbs_from span later
climbs_join (Climbs.more here rest) later = Climbs.more here (climbs_join rest later)

pub climbs_count : {i j : ℕ} {l : List ℕ} → Climbs i j l → i + 2 * length l ≤ j
climbs_count (Climbs.none span) = omega arith
climbs_count (Climbs.more here rest) = omega (arith, climbs_count rest)

pub climbs_to : {i j k : ℕ} {l : List ℕ} → Climbs i j l → j ≤ k → Climbs i k l
climbs_to (Climbs.none span) high = Climbs.none (le_trans span high)
climbs_to (Climbs.more here rest) high = Climbs.more here (climbs_to rest high)

pub climbs_low : {i j : ℕ} {l : List ℕ} → Climbs i j l → (p : ℕ) → Memᴰ p l → i ≤ p
climbs_low (Climbs.none span) p m = absurd (Memᴰ.not-nil m)
climbs_low {i} (Climbs.more {p = q} {ps = ps} here rest) p m =
    ⊎_elim (λ (e : p ≡ q). omega arith) (λ (later : Memᴰ p ps). omega (arith, climbs_low rest p later)) (Memᴰ.cases_cons m)

pub climbs_high : {i j : ℕ} {l : List ℕ} → Climbs i j l → (p : ℕ) → Memᴰ p l → p + 2 ≤ j
climbs_high (Climbs.none span) p m = absurd (Memᴰ.not-nil m)
climbs_high {j = j} (Climbs.more {p = q} {ps = ps} here rest) p m =
    ⊎_elim (λ (e : p ≡ q). omega (arith, climbs_count rest)) (λ (later : Memᴰ p ps). climbs_high rest p later) (Memᴰ.cases_cons m)

rising_put : {u j : ℕ} {l : List ℕ} → Climbs (u + 2) j l → Rising l → Rising (u ∷ l)
rising_put (Climbs.none span) rising = Rising.one
rising_put {u} (Climbs.more {p = p} here rest) rising = let less : u < p = omega arith in Rising.more less rising

pub climbs_rise : {i j : ℕ} {l : List ℕ} → Climbs i j l → Rising l
climbs_rise (Climbs.none span) = Rising.none
climbs_rise (Climbs.more here rest) = rising_put rest (climbs_rise rest)
