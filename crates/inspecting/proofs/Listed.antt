-- LUTs in a list, roots rising, and the set of LUTs that the list and the arrays stand for.
use Prim.Native.Nat.{ℕ, ◌≤◌, ◌<◌}
use native.Mathlib.Decide.{dec_lt}
use native.Mathlib.Omega.{arith}
use mathlib.Core.Path.{◌≡◌, refl, sym, subst, fun_ext, ◌∙◌}
use mathlib.Core.Bool.{Bool, true, false, cond, ◌||◌}
use mathlib.Core.Logic.{◌⊎◌, inl, inr}
use mathlib.Core.List.{List, [], ◌∷◌}
use lib.ListN.{get_or, take, length-take, get_or-eq_default}
use lib.Seq.{get_or-take}
use lib.Dec.{eqb}
use Rattle.storage.specs.Drawings.{net_in}
use Rattle.storage.proofs.Drawings.{fanins_in, fanins_out}
use Rattle.storage.proofs.Entries.{false_not_true}
use Rattle.theory.specs.paper.Values.{bit}
use Rattle.covering.specs.Covers.{is_root, luts_in}
use Rattle.sheet.specs.paper.Sheet.{Lut, Roots}
use Rattle.sheet.specs.paper.Rules.{is_listed, leaves_listed, luts_of}
use Rattle.sheet.specs.Arrays.{HoldsLuts}
use Rattle.sheet.proofs.Listed.{listed_lut_lem, root_gate}
use Rattle.weighing.specs.Laid.{LutsLaid}

pub unlisted_leaves : (luts : List Lut) (v : ℕ) → is_listed luts v ≡ false → leaves_listed luts v ≡ []
unfolding is_listed leaves_listed
unlisted_leaves [] v none = refl
unlisted_leaves (x ∷ luts) v none = either (eqb x.root v) none (unlisted_leaves luts v)
  where
    either : (b : Bool) → (b || is_listed luts v) ≡ false → (is_listed luts v ≡ false → leaves_listed luts v ≡ []) → cond b x.leaves (leaves_listed luts v) ≡ []
    either true none later = absurd (false_not_true none refl)
    either false none later = later none

-- The arrays stand for the list

eqb_bit : (b : Bool) → eqb (bit b) 1 ≡ b
eqb_bit true = refl
eqb_bit false = refl

module _ {inputs nodes : ℕ} {luts : List Lut} (rise : Roots nodes inputs luts) where
  listed_gate : (v : ℕ) → is_listed luts v ≡ true → (inputs ≤ v) × (v < nodes)
  listed_gate v at =
      let found = listed_lut_lem luts v at in
      subst (λ (w : ℕ). (inputs ≤ w) × (w < nodes)) found.root_is (root_gate rise found.lut found.member)

  pub listed_below : (v : ℕ) → is_listed luts v ≡ true → v < nodes
  listed_below v at = (listed_gate v at).1

  listed_above : (v : ℕ) → is_listed luts v ≡ true → inputs ≤ v
  listed_above v at = (listed_gate v at).0

  unlisted_beyond : (v : ℕ) → nodes ≤ v → is_listed luts v ≡ false
  unlisted_beyond v out = by (is_listed luts v) refl
    where
      by : (b : Bool) → is_listed luts v ≡ b → b ≡ false
      by true e = absurd (omega (arith, listed_below v e))
      by false e = refl

  module _ {roots cuts tables : List ℕ} (h : HoldsLuts nodes luts roots cuts tables) where
    root_held : (v : ℕ) → is_root nodes roots v ≡ is_listed luts v
    unfolding is_root
    root_held v = by (dec_lt v nodes)
      where
        by : Dec (v < nodes) → eqb (get_or (take nodes roots) v 0) 1 ≡ is_listed luts v
        by (yes low) = rw (get_or-take nodes roots v 0 low, h.root v low) (eqb_bit (is_listed luts v))
        by (no high) =
            let out : nodes ≤ v = omega arith in
            let none : get_or (take nodes roots) v 0 ≡ 0 = get_or-eq_default (take nodes roots) 0 {n = v} (simp length-take (omega arith)) in
            rw (none, unlisted_beyond v out)

    leaves_held : (v : ℕ) → (net_in inputs nodes cuts).fanins v ≡ leaves_listed luts v
    leaves_held v = by (dec_lt v nodes)
      where
        by : Dec (v < nodes) → (net_in inputs nodes cuts).fanins v ≡ leaves_listed luts v
        by (yes low) = fanins_in inputs nodes cuts v low ∙ h.cut v low
        by (no high) =
            let out : nodes ≤ v = omega arith in
            fanins_out inputs nodes cuts v out ∙ sym (unlisted_leaves luts v (unlisted_beyond v out))

    pub luts_held : luts_in inputs nodes cuts roots ≡ luts_of luts
    luts_held = λ i. record { root = fun_ext root_held i; leaves = fun_ext leaves_held i }

    pub luts_laid : LutsLaid inputs nodes roots cuts
    luts_laid =
        record {
          marks = record { inside = h.roots_long; bits = λ v low. bits v low (is_listed luts v) (h.root v low) };
          gates = λ r at. listed_above r (sym (root_held r) ∙ at);
          lists = record { long = h.cuts_long; six = h.six };
        }
      where
        bits : (v : ℕ) → v < nodes → (b : Bool) → get_or roots v 0 ≡ bit b → (get_or roots v 0 ≡ 0) ⊎ (get_or roots v 0 ≡ 1)
        bits v low true e = inr e
        bits v low false e = inl e
