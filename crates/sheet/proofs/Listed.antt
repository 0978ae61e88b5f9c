-- The LUT that a list of LUTs has for a root: where the roots rise, it is the only one.
use Prim.Native.Nat.{ℕ, suc, ◌≤◌, ◌<◌}
use native.Mathlib.Decide.{ℕ_discrete}
use native.Mathlib.Omega.{arith}
use mathlib.Core.Path.{◌≡◌, refl, sym, ap, ◌∙◌, subst}
use mathlib.Core.Logic.{◌⊎◌, inl, inr}
use mathlib.Core.Bool.{Bool, true, false, cond, ◌||◌, false≢true}
use mathlib.Core.List.Memᴰ
use mathlib.Core.List.{List, [], ◌∷◌, Memᴰ}
use borrow.Author.Tests.{eq-eqb, ne_eqb}
use lib.Dec.{eqb}
use Rattle.sheet.specs.paper.Sheet.{Lut, Roots}
use Rattle.sheet.specs.paper.Rules.{is_listed, leaves_listed, table_listed}

pub record ListedLut (luts : List Lut) (v : ℕ) : Type 0 where
  pub lut : Lut
  pub member : Memᴰ lut luts
  pub root_is : lut.root ≡ v
  pub leaves_are : leaves_listed luts v ≡ lut.leaves
  pub table_is : table_listed luts v ≡ lut.table

pub listed_lut_lem : (luts : List Lut) (v : ℕ) → is_listed luts v ≡ true → ListedLut luts v
unfolding is_listed leaves_listed table_listed
listed_lut_lem [] v listed = absurd (false≢true listed)
listed_lut_lem (lut ∷ luts) v listed = at (listed_lut_lem luts v) (ℕ_discrete lut.root v)
  where
    at : (is_listed luts v ≡ true → ListedLut luts v) → Dec (lut.root ≡ v) → ListedLut (lut ∷ luts) v
    at later (yes e) =
        record {
          lut = lut;
          member = Memᴰ.head refl;
          root_is = e;
          leaves_are = rw (eq-eqb lut.root v e) refl;
          table_is = rw (eq-eqb lut.root v e) refl;
        }
    at later (no other) =
        let off : eqb lut.root v ≡ false = ne_eqb lut.root v other in
        let rest : ListedLut luts v = later (sym (ap (λ (b : Bool). b || is_listed luts v) off) ∙ listed) in
        record {
          lut = rest.lut;
          member = Memᴰ.tail rest.member;
          root_is = rest.root_is;
          leaves_are = ap (λ (b : Bool). cond b lut.leaves (leaves_listed luts v)) off ∙ rest.leaves_are;
          table_is = ap (λ (b : Bool). cond b lut.table (table_listed luts v)) off ∙ rest.table_is;
        }

-- where the roots are gates and rise
pub root_gate : {nodes least : ℕ} {luts : List Lut} → Roots nodes least luts → (lut : Lut) → Memᴰ lut luts → (least ≤ lut.root) × (lut.root < nodes)
root_gate Roots.none lut m = absurd (Memᴰ.not-nil m)
root_gate {nodes} {least} (Roots.more {lut = lut} {luts = luts} low high rest) other m = at (root_gate rest other) (Memᴰ.cases_cons m)
  where
    at : (Memᴰ other luts → (suc lut.root ≤ other.root) × (other.root < nodes)) → (other ≡ lut) ⊎ Memᴰ other luts →
        (least ≤ other.root) × (other.root < nodes)
    at later (inl e) = subst (λ (l : Lut). (least ≤ l.root) × (l.root < nodes)) (sym e) (low, high)
    at later (inr t) = let (above, below) = later t in (omega arith, below)

-- and each of them is the LUT listed for its root
pub record Listed (luts : List Lut) (lut : Lut) : Type 0 where
  pub listed : is_listed luts lut.root ≡ true
  pub leaves_are : leaves_listed luts lut.root ≡ lut.leaves
  pub table_is : table_listed luts lut.root ≡ lut.table

pub member_listed : {nodes least : ℕ} {luts : List Lut} → Roots nodes least luts → (lut : Lut) → Memᴰ lut luts → Listed luts lut
unfolding is_listed leaves_listed table_listed
member_listed Roots.none lut m = absurd (Memᴰ.not-nil m)
member_listed {nodes} (Roots.more {lut = lut} {luts = luts} low high rest) other m = at (member_listed rest other) (root_gate rest other) (Memᴰ.cases_cons m)
  where
    here : Listed (lut ∷ luts) lut
    here =
        let on : eqb lut.root lut.root ≡ true = eq-eqb lut.root lut.root refl in
        record {
          listed = ap (λ (b : Bool). b || is_listed luts lut.root) on;
          leaves_are = ap (λ (b : Bool). cond b lut.leaves (leaves_listed luts lut.root)) on;
          table_is = ap (λ (b : Bool). cond b lut.table (table_listed luts lut.root)) on;
        }

    at : (Memᴰ other luts → Listed luts other) → (Memᴰ other luts → (suc lut.root ≤ other.root) × (other.root < nodes)) →
        (other ≡ lut) ⊎ Memᴰ other luts → Listed (lut ∷ luts) other
    at later gate (inl e) = subst (Listed (lut ∷ luts)) (sym e) here
    at later gate (inr t) =
        let (above, below) = gate t in
        let off : eqb lut.root other.root ≡ false = ne_eqb lut.root other.root (λ e. omega arith) in
        record {
          listed = ap (λ (b : Bool). b || is_listed luts other.root) off ∙ (later t).listed;
          leaves_are = ap (λ (b : Bool). cond b lut.leaves (leaves_listed luts other.root)) off ∙ (later t).leaves_are;
          table_is = ap (λ (b : Bool). cond b lut.table (table_listed luts other.root)) off ∙ (later t).table_is;
        }
