-- The promises leave no choice: two outcomes that one of them allows are equal.
use Prim.Native.Nat.{ℕ, ◌-◌, ◌<◌}
use native.Mathlib.Decide.{dec_lt}
use native.Mathlib.Omega.{arith}
use mathlib.Core.Path.{◌≡◌, refl, ap, sym, ◌∙◌}
use mathlib.Core.Bool.{Bool}
use mathlib.Core.List.{List, ◌++◌}
use lib.ListN.{drop}
use Rattle.storage.proofs.Clears.{agree}
use Rattle.storage.proofs.InRoles.{walked_at, met_at, role_one}
use Rattle.storage.proofs.InMarks.{tells_one, marks_inside}
use Rattle.theory.specs.paper.Net.{Net}
use Rattle.theory.specs.paper.Walk.{LowestLoop, NoLoop}
use Rattle.std.specs.Prelude.{⊤, Result, Err}
use Rattle.storage.specs.declared.Node.{Node}
use Rattle.walking.specs.Promises.{LoopRuling, OrderMade, entries_of, WalkMade, CutRuled}

-- one lowest gate on a loop
pub lowest_one : {net : Net} {g h : ℕ} → LowestLoop net g → LowestLoop net h → g ≡ h
lowest_one {g = g} {h = h} a b = same (dec_lt g h) (dec_lt h g)
  where
    same : Dec (g < h) → Dec (h < g) → g ≡ h
    same (yes low) other = absurd (b.lowest g low a.gate a.loop)
    same (no high) (yes low) = absurd (a.lowest h low b.gate b.loop)
    same (no high) (no low) = omega arith

pub some_loop : {net : Net} {g : ℕ} → NoLoop net → LowestLoop net g → ⊥
some_loop {g = g} none a = none g a.gate a.loop

-- one ruling on loops
pub ruling_one : {net : Net} {r s : Result ⊤ Node} → LoopRuling net r → LoopRuling net s → r ≡ s
ruling_one (LoopRuling.none a) (LoopRuling.none b) = refl
ruling_one (LoopRuling.none a) (LoopRuling.lowest b) = absurd (some_loop a b)
ruling_one (LoopRuling.lowest a) (LoopRuling.none b) = absurd (some_loop b a)
ruling_one (LoopRuling.lowest a) (LoopRuling.lowest b) = ap (λ (i : ℕ). Err (record { id = i })) (lowest_one a b)

pub order_one : {net : Net} {order₀ marks₀ : List ℕ} {r s : Result ⊤ Node} {order marks order' marks' : List ℕ} →
    OrderMade net order₀ marks₀ r order marks → OrderMade net order₀ marks₀ s order' marks' → (r ≡ s) × (order ≡ order') × (marks ≡ marks')
order_one {net} {order₀} a b =
    let same = ruling_one a.reply b.reply in
    (same, a.entries ∙ ap (λ (x : Result ⊤ Node). entries_of net x ++ drop (net.nodes - net.inputs) order₀) same ∙ sym b.entries, a.cleared ∙ sym b.cleared)

pub walk_one : {net : Net} {leaves : List ℕ} {t : ℕ} {roles₀ roles roles' : List ℕ} →
    WalkMade net leaves t roles₀ roles → WalkMade net leaves t roles₀ roles' → roles ≡ roles'
walk_one {roles = roles} {roles' = roles'} a b =
    agree a.rest b.rest
    (λ v low.
    role_one (a.most v low) (b.most v low)
    (sym (walked_at roles v) ∙ marks_inside a.walked_marks b.walked_marks v low ∙ walked_at roles' v)
    (sym (met_at roles v) ∙ marks_inside a.met_marks b.met_marks v low ∙ met_at roles' v))

pub cut_one : {net : Net} {k : ℕ} {leaves : List ℕ} {t : ℕ} {roles₀ : List ℕ} {r s : Bool} {roles roles' : List ℕ} →
    CutRuled net k leaves t roles₀ r roles → CutRuled net k leaves t roles₀ s roles' → (r ≡ s) × (roles ≡ roles')
cut_one {r = r} {s = s} a b = (tells_one r s a.reply b.reply, walk_one a.walk b.walk)
