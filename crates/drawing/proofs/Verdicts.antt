-- Rulings by a list of rules: what a frame that is sound, or refused, means for the whole field; and that one reply comes first.
use Prim.Native.Nat.{ℕ, ◌+◌, ◌-◌, ◌≤◌}
use mathlib.Core.Path.{◌≡◌, refl, ap, sym, ◌∙◌}
use mathlib.Core.Bool.{Bool, true, false}
use mathlib.Core.List.{List, [], ◌∷◌, ◌++◌}
use native.Mathlib.Omega.{arith}
use borrow.Author.Tests.{ltb-false}
use lib.ListN.{length}
use Rattle.drawing.specs.declared.Refusal.{Refusal}
use Rattle.drawing.specs.paper.Fields.{Verdict}
use Rattle.std.specs.Prelude.{Ok, Err}
use Rattle.drawing.specs.paper.Limits.{frame_size}
use Rattle.drawing.specs.paper.Rules.{Rule, ◌⇒◌, first}
use Rattle.drawing.specs.Rules.{First}
use Rattle.drawing.specs.paper.Bytes.{length_at, value_at}
use Rattle.drawing.specs.paper.Fields.{frame_rules}

-- The reply that is worked out is that of the first rule that holds, and no other is.
pub first_is_first : {R : Type 0} (done : R) (rules : List (Rule R)) → First done rules (first done rules)
first_is_first done [] = First.none
first_is_first done ((true ⇒ r) ∷ rules) = First.here
first_is_first done ((false ⇒ r) ∷ rules) = First.later (first_is_first done rules)

pub first_is_one : {R : Type 0} {done r : R} {rules : List (Rule R)} → First done rules r → r ≡ first done rules
first_is_one First.none = refl
first_is_one First.here = refl
first_is_one (First.later f) = first_is_one f

-- Every reply of the list refuses.
abbrev pub Refusing : List (Rule Verdict) → Type 0
Refusing [] = Unit {0}
Refusing ((b ⇒ Ok _) ∷ rules) = ⊥
Refusing ((b ⇒ Err r) ∷ rules) = Refusing rules

-- No rule of the list holds.
abbrev pub NoneHolds : List (Rule Verdict) → Type 0
NoneHolds [] = Unit {0}
NoneHolds ((b ⇒ v) ∷ rules) = (b ≡ false) × NoneHolds rules

pub not_sound : (r : Refusal) → ◌≡◌ {A = Verdict} (Err r) (Ok tt) → ⊥
not_sound r e = let z : ◌≡◌ {A = ℕ} 0 1 = cc in omega arith

pub none_holds : (rules : List (Rule Verdict)) → Refusing rules → first (Ok tt) rules ≡ Ok tt → NoneHolds rules
none_holds [] t e = tt
none_holds ((b ⇒ Ok _) ∷ rules) t e = absurd t
none_holds ((true ⇒ Err r) ∷ rules) t e = absurd (not_sound r e)
none_holds ((false ⇒ Err r) ∷ rules) t e = (refl, none_holds rules t e)

abbrev pub and_then : Verdict → Verdict → Verdict
and_then (Ok _) v = v
and_then (Err r) v = Err r

-- rules that refuse, and then others
pub first_then :
    (rules rest : List (Rule Verdict)) → Refusing rules → first (Ok tt) (rules ++ rest) ≡ and_then (first (Ok tt) rules) (first (Ok tt) rest)
first_then [] rest t = refl
first_then ((b ⇒ Ok _) ∷ rules) rest t = absurd t
first_then ((true ⇒ Err r) ∷ rules) rest t = refl
first_then ((false ⇒ Err r) ∷ rules) rest t = first_then rules rest t

-- a field whose frame is sound lies within the bytes
pub frame_fits :
    (s : List ℕ) (at due : ℕ) (surplus : Bool) → at ≤ length s → first (Ok tt) (frame_rules s at due surplus) ≡ Ok tt →
    value_at at + length_at s at ≤ length s
frame_fits s at due surplus inside e =
    let rules = none_holds (frame_rules s at due surplus) tt e in
    omega (arith, ltb-false (length s - at) frame_size rules.0, ltb-false (length s - value_at at) (length_at s at) rules.1.1.1.0)

module _ (rules rest : List (Rule Verdict)) (t : Refusing rules) {v : Verdict} (ruled : v ≡ first (Ok tt) rules) where
  pub refused_first : {r : Refusal} → v ≡ Err r → Err r ≡ first (Ok tt) (rules ++ rest)
  refused_first {r} e = sym (first_then rules rest t ∙ ap (λ (w : Verdict). and_then w (first (Ok tt) rest)) (sym ruled ∙ e))

  pub sound_first : {w : Verdict} → v ≡ Ok tt → w ≡ first (Ok tt) rest → w ≡ first (Ok tt) (rules ++ rest)
  sound_first {w} e later = later ∙ sym (first_then rules rest t ∙ ap (λ (u : Verdict). and_then u (first (Ok tt) rest)) (sym ruled ∙ e))
