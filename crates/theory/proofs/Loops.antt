-- A net has a rank exactly where it has no loop. A rank falls along every walk; and without loops the number of nodes behind a node is one:
-- what lies behind a fanin lies behind the gate, and the fanin itself does too, but not behind itself.
use Prim.Native.Nat.{ℕ, zero, suc, ◌+◌, ◌≤◌, ◌<◌, zero-le}
use native.Mathlib.Nat.{not-suc-le-zero, le_of_suc-le-suc, eq-or-lt_of_le, le_refl, le_step}
use native.Mathlib.Omega.{arith}
use mathlib.Core.Path.{◌≡◌, refl, subst}
use mathlib.Core.Logic.{◌↔◌, ⊎_elim}
use mathlib.Core.Bool.{Bool, true, false, false≢true}
use mathlib.Core.List.Memᴰ
use mathlib.Core.List.{Memᴰ}
use Rattle.theory.specs.paper.Net.{Net, Gate}
use Rattle.theory.specs.paper.Values.{bit}
use Rattle.theory.specs.paper.Walk.{Walked, Loop}
use Rattle.theory.specs.paper.Sound.{Bounded, Ranked}
use Rattle.theory.proofs.Walks.{meet_on, behind_fanin, reader_is_gate, fanin_node, no_loop}
use Rattle.theory.proofs.DecideNet.{NothingBeyond, ranked_by}
use Rattle.theory.proofs.DecideCut.{is_behind, decides_behind}

bit_more : (a b : Bool) → (a ≡ true → b ≡ true) → bit a ≤ bit b
bit_more true true more = le_refl 1
bit_more true false more = absurd (false≢true (more refl))
bit_more false b more = zero-le

bit_one_more : (a b : Bool) → (a ≡ true → ⊥) → b ≡ true → bit a < bit b
bit_one_more true b fails passes = absurd (fails refl)
bit_one_more false true fails passes = le_refl 1
bit_one_more false false fails passes = absurd (false≢true passes)

-- how many numbers below n pass
unfoldable passing : ℕ → (ℕ → Bool) → ℕ
passing zero f = 0
passing (suc n) f = bit (f n) + passing n f

passing_more : (n : ℕ) (f g : ℕ → Bool) → ((v : ℕ) → v < n → f v ≡ true → g v ≡ true) → passing n f ≤ passing n g
unfolding passing
passing_more zero f g more = zero-le
passing_more (suc n) f g more = omega (arith, bit_more (f n) (g n) (more n (le_refl (suc n))), passing_more n f g (λ v h. more v (le_step h)))

passing_one_more : (n : ℕ) (f g : ℕ → Bool) → ((v : ℕ) → v < n → f v ≡ true → g v ≡ true) → (w : ℕ) → w < n → (f w ≡ true → ⊥) → g w ≡ true →
    passing n f < passing n g
unfolding passing
passing_one_more zero f g more w h fails passes = absurd (not-suc-le-zero h)
passing_one_more (suc n) f g more w h fails passes = ⊎_elim
    (λ (e : w ≡ n). omega (
      arith,
      bit_one_more (f n) (g n) (subst (λ (v : ℕ). f v ≡ true → ⊥) e fails) (subst (λ (v : ℕ). g v ≡ true) e passes),
      passing_more n f g (λ v l. more v (le_step l)),
    ))
    (λ (l : w < n). omega (
      arith,
      bit_more (f n) (g n) (more n (le_refl (suc n))),
      passing_one_more n f g (λ v k. more v (le_step k)) w l fails passes,
    ))
    (eq-or-lt_of_le (le_of_suc-le-suc h))

abbrev pub NoLoops : Net → Type 0
NoLoops net = (g : ℕ) → Gate net g → Loop net g → ⊥

module _ {net : Net} {k : ℕ} (bounded : Bounded net k) (nothing : NothingBeyond net) where
  -- a node on a loop is a gate, since it has a fanin
  no_loop_at : NoLoops net → {v : ℕ} → v < net.nodes → Loop net v → ⊥
  no_loop_at free {v} node loop = free v (reader_is_gate bounded node (behind_fanin loop).1) loop

  behind_rises : NoLoops net → (g : ℕ) → g < net.nodes → (u : ℕ) → Memᴰ u (net.fanins g) →
      passing net.nodes (is_behind net u) < passing net.nodes (is_behind net g)
  behind_rises free g node u feeds =
      let below : u < net.nodes = fanin_node bounded node feeds in
      passing_one_more net.nodes (is_behind net u) (is_behind net g)
      (λ v _ e. (decides_behind bounded node v).passes (meet_on (Walked.step Walked.start feeds Memᴰ.not-nil) ((decides_behind bounded below v).holds e)))
      u below
      (λ e. no_loop_at free below ((decides_behind bounded below u).holds e))
      ((decides_behind bounded node u).passes (record { reader = g; walked = Walked.start; feeds = feeds }))

  -- a net has a rank exactly where no gate reaches itself along fanins
  pub ranked_without_loops : Ranked net ↔ NoLoops net
  ranked_without_loops = (λ ranked g _. no_loop ranked g, λ free. ranked_by nothing (behind_rises free))
