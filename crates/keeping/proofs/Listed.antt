-- Members of the lists that rules are tried along, and the line of a node.
use Prim.Native.Nat.{ℕ, ◌+◌, ◌-◌, ◌<◌}
use native.Mathlib.Omega.{arith}
use mathlib.Core.Path.{◌≡◌, refl, ap, ◌∙◌, subst}
use mathlib.Core.Logic.{◌⊎◌, inl, inr}
use mathlib.Core.Bool.{Bool, cond}
use mathlib.Core.List.Memᴰ
use mathlib.Core.List.{List, [], ◌∷◌, map, flat_map, Memᴰ}
use borrow.Author.Tests.{lt-ltb, le-ltb}
use lib.ListN.{get_or}
use Rattle.sheet.specs.paper.Sheet.{Line, no_line}
use Rattle.sheet.specs.paper.Rules.{line_of_node, labels_of}

module _ {A B : Type 0} (f : A → List B) where
  pub member_flat : {b : B} {a : A} {l : List A} → Memᴰ a l → Memᴰ b (f a) → Memᴰ b (flat_map f l)
  unfolding flat_map
  member_flat {b} (Memᴰ.head {xs = l} e) m = Memᴰ.append_left (flat_map f l) (subst (λ y. Memᴰ b (f y)) e m)
  member_flat (Memᴰ.tail {x = x} t) m = Memᴰ.append_right (f x) (member_flat t m)

pub member_map : {A B : Type 0} (f : A → B) {a : A} {l : List A} → Memᴰ a l → Memᴰ (f a) (map f l)
member_map f (Memᴰ.head e) = Memᴰ.head (ap f e)
member_map f (Memᴰ.tail m) = Memᴰ.tail (member_map f m)

-- The line of a node

pub label_at_input : (inputs : ℕ) (lines : List Line) (v : ℕ) → v < inputs → labels_of inputs lines v ≡ 0
unfolding line_of_node
label_at_input inputs lines v low = ap (λ (b : Bool). (cond b no_line (get_or lines (v - inputs) no_line)).label) (lt-ltb v inputs low)

-- that of the i-th gate
pub line_at : (inputs : ℕ) (lines : List Line) (i : ℕ) → line_of_node inputs lines (inputs + i) ≡ get_or lines i no_line
unfolding line_of_node
line_at inputs lines i =
    ap (λ (b : Bool). cond b no_line (get_or lines (inputs + i - inputs) no_line)) (le-ltb (inputs + i) inputs (omega arith))
    ∙ ap (λ (j : ℕ). get_or lines j no_line) (omega arith)

-- The other way round: what is a member of such a list

pub flat_member : {A B : Type 0} (f : A → List B) {b : B} (l : List A) → Memᴰ b (flat_map f l) → (a : A) × (Memᴰ a l × Memᴰ b (f a))
unfolding flat_map
flat_member f [] m = absurd (Memᴰ.not-nil m)
flat_member {A} {B} f {b} (x ∷ l) m = at (flat_member f l) (Memᴰ.append_cases (f x) m)
  where
    at : (Memᴰ b (flat_map f l) → (a : A) × (Memᴰ a l × Memᴰ b (f a))) → Memᴰ b (f x) ⊎ Memᴰ b (flat_map f l) →
        (a : A) × (Memᴰ a (x ∷ l) × Memᴰ b (f a))
    at later (inl here) = (x, (Memᴰ.head refl, here))
    at later (inr there) = let (a, (member, on)) = later there in (a, (Memᴰ.tail member, on))

pub map_member : {A B : Type 0} (f : A → B) {b : B} (l : List A) → Memᴰ b (map f l) → (a : A) × (Memᴰ a l × (b ≡ f a))
map_member f [] m = absurd (Memᴰ.not-nil m)
map_member {A} {B} f {b} (x ∷ l) m = at (map_member f l) (Memᴰ.cases_cons m)
  where
    at : (Memᴰ b (map f l) → (a : A) × (Memᴰ a l × (b ≡ f a))) → (b ≡ f x) ⊎ Memᴰ b (map f l) →
        (a : A) × (Memᴰ a (x ∷ l) × (b ≡ f a))
    at later (inl e) = (x, (Memᴰ.head refl, e))
    at later (inr there) = let (a, (member, on)) = later there in (a, (Memᴰ.tail member, on))
