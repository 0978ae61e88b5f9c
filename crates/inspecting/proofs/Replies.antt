-- One promise allows one reply, and a sheet is accepted exactly if it keeps all the rules.
use Rattle.std.specs.Prelude.{Ok, Err}
use Prim.Native.Nat.{ℕ}
use native.Mathlib.Omega.{arith}
use mathlib.Core.Path.{◌≡◌, refl, ap}
use mathlib.Core.List.{List}
use Rattle.walking.proofs.Unique.{lowest_one, some_loop}
use Rattle.sheet.specs.paper.Rules.{Rule, Found}
use Rattle.inspecting.specs.declared.InspectError.TheVariants.{LoopAt}
use Rattle.inspecting.specs.paper.Inspecting.{Inspection, reply_of, sheet_in, Inspects, KeepsAll}
use Rattle.sheet.proofs.Firsts.{first_is_one, none_keeps, keeps_none}

module _ (s t : List ℕ) where
  pub one_reply : {r r' : Inspection} → Inspects s t r → Inspects s t r' → r ≡ r'
  one_reply (Inspects.refused p) (Inspects.refused q) = cc
  one_reply (Inspects.refused p) (Inspects.loop q _) = let z : ◌≡◌ {A = ℕ} 0 1 = cc in absurd (omega arith)
  one_reply (Inspects.refused p) (Inspects.faulty d _) = let z : ◌≡◌ {A = ℕ} 0 1 = cc d.whole in absurd (omega arith)
  one_reply (Inspects.refused p) (Inspects.ruled d _ _) = let z : ◌≡◌ {A = ℕ} 0 1 = cc d.whole in absurd (omega arith)
  one_reply (Inspects.loop p _) (Inspects.refused q) = let z : ◌≡◌ {A = ℕ} 0 1 = cc in absurd (omega arith)
  one_reply (Inspects.loop p l) (Inspects.loop q m) = ap (λ (i : ℕ). Err (LoopAt (record { id = i }))) (lowest_one l m)
  one_reply (Inspects.loop p l) (Inspects.faulty d _) = absurd (some_loop d.no_loop l)
  one_reply (Inspects.loop p l) (Inspects.ruled d _ _) = absurd (some_loop d.no_loop l)
  one_reply (Inspects.faulty d _) (Inspects.refused q) = let z : ◌≡◌ {A = ℕ} 0 1 = cc d.whole in absurd (omega arith)
  one_reply (Inspects.faulty d _) (Inspects.loop q m) = absurd (some_loop d.no_loop m)
  one_reply (Inspects.faulty d f) (Inspects.faulty e g) = cc
  one_reply (Inspects.faulty d f) (Inspects.ruled e g _) = let z : ◌≡◌ {A = ℕ} 0 1 = cc in absurd (omega arith)
  one_reply (Inspects.ruled d _ _) (Inspects.refused q) = let z : ◌≡◌ {A = ℕ} 0 1 = cc d.whole in absurd (omega arith)
  one_reply (Inspects.ruled d _ _) (Inspects.loop q m) = absurd (some_loop d.no_loop m)
  one_reply (Inspects.ruled d f _) (Inspects.faulty e g) = let z : ◌≡◌ {A = ℕ} 0 1 = cc in absurd (omega arith)
  one_reply (Inspects.ruled d f x) (Inspects.ruled e g y) = ap (reply_of (sheet_in s t).depth) (first_is_one x y)

  pub keeps_accepted : KeepsAll s t → Inspects s t (Ok (record { depth = (sheet_in s t).depth }))
  keeps_accepted k = Inspects.ruled k.taken k.sound (keeps_none _ k.each)

  -- whatever is accepted keeps all the rules
  accepted_keeps : {r : Inspection} {depth : ℕ} → Inspects s t r → r ≡ Ok (record { depth = depth }) → KeepsAll s t
  accepted_keeps (Inspects.refused p) e = let z : ◌≡◌ {A = ℕ} 0 1 = cc in absurd (omega arith)
  accepted_keeps (Inspects.loop p l) e = let z : ◌≡◌ {A = ℕ} 0 1 = cc in absurd (omega arith)
  accepted_keeps (Inspects.faulty d f) e = let z : ◌≡◌ {A = ℕ} 0 1 = cc in absurd (omega arith)
  accepted_keeps (Inspects.ruled {x = Found.none} d f x) e = record { taken = d; sound = f; each = none_keeps x }
  accepted_keeps (Inspects.ruled {x = Found.broken (Rule.cut gate leaves)} d f x) e = let z : ◌≡◌ {A = ℕ} 0 1 = cc in absurd (omega arith)
  accepted_keeps (Inspects.ruled {x = Found.broken (Rule.label gate)} d f x) e = let z : ◌≡◌ {A = ℕ} 0 1 = cc in absurd (omega arith)
  accepted_keeps (Inspects.ruled {x = Found.broken (Rule.paths gate)} d f x) e = let z : ◌≡◌ {A = ℕ} 0 1 = cc in absurd (omega arith)
  accepted_keeps (Inspects.ruled {x = Found.broken (Rule.function lut)} d f x) e = let z : ◌≡◌ {A = ℕ} 0 1 = cc in absurd (omega arith)
  accepted_keeps (Inspects.ruled {x = Found.broken (Rule.cover gate)} d f x) e = let z : ◌≡◌ {A = ℕ} 0 1 = cc in absurd (omega arith)
  accepted_keeps (Inspects.ruled {x = Found.broken Rule.depth} d f x) e = let z : ◌≡◌ {A = ℕ} 0 1 = cc in absurd (omega arith)

  -- "accepts or refuses": accepted exactly if the sheet keeps all the rules
  pub accepted_exactly : {depth : ℕ} → Inspects s t (Ok (record { depth = depth })) → KeepsAll s t
  accepted_exactly i = accepted_keeps i refl
