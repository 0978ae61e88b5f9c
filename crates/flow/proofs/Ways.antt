-- The ways into and out of a node, as the code reads them.
use Prim.Native.Nat.{ℕ, zero, suc, ◌≤◌, ◌<◌}
use native.Mathlib.Omega.{arith}
use mathlib.Core.Path.{◌≡◌, refl, sym, ap, ◌∙◌}
use mathlib.Core.Bool.{Bool, true, false, not}
use mathlib.Core.Logic.{◌⊎◌, inl, inr, ⊎_elim}
use mathlib.Core.List.{List}
use lib.Dec.{eqb}
use borrow.Author.Tests.{ne_eqb, eqb-true, eqb-false, not-true, not-false}
use Rattle.storage.specs.Entries.{at}
use Rattle.storage.specs.declared.Node.{Node}
use Rattle.flow.specs.declared.cells.Link.{Link}
use Rattle.flow.specs.declared.cells.Link.TheVariants.{Nowhere, Edge, To}
use Rattle.flow.specs.Links.{link_to, code_of}
use Rattle.flow.specs.Turns.{FaninFound, NoWayIn, NoWayOut, Entered, Left}

-- a test for 0
nonzero : (x : ℕ) → ((x ≡ 0) × (not (eqb x 0) ≡ false)) ⊎ ((1 ≤ x) × (not (eqb x 0) ≡ true))
nonzero zero = inl (refl, refl)
nonzero (suc x) = inr (omega arith, ap not (ne_eqb (suc x) 0 (λ e. omega arith)))

-- a link that is no way, and one that leads to no node
pub some_link : (link : Link) → (link ≡ Nowhere → ⊥) → 1 ≤ code_of link
some_link Nowhere some = absurd (some refl)
some_link Edge some = omega arith
some_link (To v) some = omega arith

pub no_node : (link : Link) → ((v : Node) → link ≡ To v → ⊥) → code_of link < 2
no_node Nowhere none = omega arith
no_node Edge none = omega arith
no_node (To v) none = absurd (none v refl)

-- Out

pub left_through : (next ins : List ℕ) (v x : ℕ) → at next v ≡ 0 → x ≡ at ins v → Left next ins v (not (eqb x 0))
left_through next ins v x idle e =
    ⊎_elim
    (λ (h : (x ≡ 0) × (not (eqb x 0) ≡ false)).
    Left.none h.1 (record { through = λ _. omega (arith, h.0); back = λ g f. absurd (omega arith) }))
    (λ (h : (1 ≤ x) × (not (eqb x 0) ≡ true)). Left.through h.1 idle (omega (arith, h.0))) (nonzero x)

pub left_sink : (next ins : List ℕ) (v : ℕ) → at next v ≡ 1 → Left next ins v false
left_sink next ins v e = Left.none refl (record { through = λ f. absurd (omega arith); back = λ g f. absurd (omega arith) })

pub left_back : (next ins : List ℕ) (v g x : ℕ) → at next v ≡ link_to g → x ≡ at ins g → Left next ins v (not (eqb x 0))
left_back next ins v g x leads f =
    ⊎_elim
    (λ (h : (x ≡ 0) × (not (eqb x 0) ≡ false)).
    Left.none h.1
    (record { through = λ idle. absurd (omega arith); back = λ u goes. omega (arith, h.0, ap (at ins) (same u goes)) }))
    (λ (h : (1 ≤ x) × (not (eqb x 0) ≡ true)). Left.back g h.1 leads (omega (arith, h.0))) (nonzero x)
  where
    same : (u : ℕ) → at next v ≡ link_to u → u ≡ g
    same u goes = omega arith

-- In

pub enter_fanin : (inputs : ℕ) (fanins next outs : List ℕ) (v : ℕ) {r : ℕ} → FaninFound fanins outs v r → (r ≡ 0 → ⊥) →
    Entered inputs fanins next outs v r
enter_fanin inputs fanins next outs v (FaninFound.none e _) some = absurd (some e)
enter_fanin inputs fanins next outs v (FaninFound.some u feeds e found) some = Entered.fanin u e feeds found

pub enter_none : (inputs : ℕ) (fanins next outs : List ℕ) (v : ℕ) {r : ℕ} → FaninFound fanins outs v r → r ≡ 0 → inputs ≤ v →
    (1 ≤ at next v → at outs v ≡ 0) → Entered inputs fanins next outs v 0
enter_none inputs fanins next outs v (FaninFound.none _ none) e high own =
    Entered.none refl (record { source = λ low. omega arith; own = own; fanin = none })
enter_none inputs fanins next outs v (FaninFound.some u feeds f found) e high own = absurd (omega arith)

pub entered_none : {inputs : ℕ} {fanins next outs : List ℕ} {v r : ℕ} → Entered inputs fanins next outs v r → r ≡ 0 →
    NoWayIn inputs fanins next outs v
entered_none (Entered.none _ none) e = none
entered_none (Entered.source f _) e = absurd (omega arith)
entered_none (Entered.own f _ _) e = absurd (omega arith)
entered_none (Entered.fanin u f _ _) e = absurd (omega arith)

pub left_none : {next ins : List ℕ} {v : ℕ} {r : Bool} → Left next ins v r → r ≡ false → NoWayOut next ins v
left_none (Left.none _ none) e = none
left_none (Left.through f _ _) e = absurd (let w : ◌≡◌ {A = ℕ} 0 1 = cc in omega arith)
left_none (Left.back g f _ _) e = absurd (let w : ◌≡◌ {A = ℕ} 0 1 = cc in omega arith)

-- a mark, tested
pub marked : {b : Bool} (x : ℕ) → b ≡ eqb x 1 → not b ≡ false → x ≡ 1
marked {b} x e test = eqb-true x 1 (sym e ∙ not-false b test)

pub unmarked : {b : Bool} (x : ℕ) → b ≡ eqb x 1 → not b ≡ true → x ≡ 1 → ⊥
unmarked {b} x e test = eqb-false x 1 (sym e ∙ not-true b test)
