-- The test of a fanin by the library's search of a slice.
use Prim.Native.Nat.{ℕ}
use mathlib.Core.Path.{◌≡◌, refl, ap, sym, ◌∙◌}
use mathlib.Core.Bool.{Bool, true, false, ◌||◌}
use mathlib.Core.List.{List, [], ◌∷◌}
use borrow.Author.Tests.{eqb-true, eqb-false, eq-eqb, ne_eqb}
use lib.Dec.{eqb}
use Rattle.std.specs.List.{list_any}
use Rattle.theory.specs.Members.{is_member}

swapped : (u v : ℕ) (same : Bool) → eqb v u ≡ same → eqb u v ≡ same
swapped u v true e = eq-eqb u v (sym (eqb-true v u e))
swapped u v false e = ne_eqb u v (λ s. eqb-false v u e (sym s))

pub found_in : (v : ℕ) (us : List ℕ) → list_any (λ u. eqb u v) us ≡ is_member v us
unfolding is_member
found_in v [] = refl
found_in v (u ∷ us) =
    ap (λ (b : Bool). b || list_any (λ w. eqb w v) us) (swapped u v (eqb v u) refl) ∙ ap (λ (b : Bool). eqb v u || b) (found_in v us)
