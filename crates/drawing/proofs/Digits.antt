-- Numbers of bytes, high byte first, grow by one byte at a time and stay below 2 to the number of bits.
use mathlib.Core.Path.{◌≡◌, refl, ap, sym, ◌∙◌}
use mathlib.Core.Bool.{Bool, ◌||◌, or_assoc}
use mathlib.Core.List.{List, [], ◌∷◌, ◌++◌}
use Prim.Native.Nat.{ℕ, ◌+◌, ◌-◌, ◌*◌, ◌^◌, ◌<◌, ◌≤◌}
use native.Mathlib.Omega.{arith}
use lib.Dec.{leb}
use lib.Pow.{pow-add, pow_mono}
use lib.ListN.{length, get_or, take, drop, length-take, length-drop}
use lib.Seq.{get_or-take, get_or-drop}
use Rattle.storage.proofs.Entries.{take_more}
use Rattle.drawing.specs.paper.Bytes.{high_first, number_at, some_from}

high_first_more : (n : ℕ) (bs : List ℕ) (b : ℕ) → high_first n (bs ++ (b ∷ [])) ≡ 256 * high_first n bs + b
unfolding high_first
high_first_more n [] b = refl
high_first_more n (a ∷ bs) b = high_first_more (256 * n + a) bs b

pub number_none : (s : List ℕ) (at : ℕ) → number_at s at 0 ≡ 0
unfolding number_at high_first
number_none s at = refl

pub number_more : (s : List ℕ) (at i : ℕ) → at + i < length s → number_at s at (i + 1) ≡ number_at s at i * 256 + get_or s (at + i) 0
unfolding number_at
number_more s at i h = ap (high_first 0) (take_more s at i h) ∙ high_first_more 0 (take i (drop at s)) (get_or s (at + i) 0) ∙ omega arith

-- a run of bytes: how many, and which
pub run_size : (s : List ℕ) (at size : ℕ) → at + size ≤ length s → length (take (at + size - at) (drop at s)) ≡ size
run_size s at size inside = omega (arith, length-take (at + size - at) (drop at s), length-drop at s)

pub run_byte : (s : List ℕ) (at size i : ℕ) → i < size → get_or (take (at + size - at) (drop at s)) i 0 ≡ get_or s (at + i) 0
run_byte s at size i low = get_or-take (at + size - at) (drop at s) i 0 (omega arith) ∙ get_or-drop at s i 0

pub byte_room : (n i b : ℕ) → n < 2 ^ (8 * i) → b < 256 → n * 256 + b < 2 ^ (8 * (i + 1))
byte_room n i b small byte =
    let e : 2 ^ (8 * (i + 1)) ≡ 2 ^ (8 * i) * 2 ^ 8 = ap (λ (m : ℕ). 2 ^ m) (omega arith) ∙ pow-add 2 (8 * i) 8 in
    omega arith

pub word_room : (n i : ℕ) → i ≤ 8 → n < 2 ^ (8 * i) → n < 2 ^ 64
word_room n i few small =
    let wide : 2 ^ (8 * i) ≤ 2 ^ 64 = pow_mono {i = 8 * i} {j = 64} (omega arith) in
    omega arith

pub some_from_append : (n : ℕ) (vs ws : List ℕ) → some_from n (vs ++ ws) ≡ (some_from n vs || some_from n ws)
unfolding some_from
some_from_append n [] ws = refl
some_from_append n (v ∷ vs) ws = ap (λ (b : Bool). leb n v || b) (some_from_append n vs ws) ∙ sym (or_assoc (leb n v) (some_from n vs) (some_from n ws))
