-- A text in a lent buffer: its answer counts bytes at the buffer's front, and a kind of which there is one text fills a buffer in one way.
use Prim.Native.Nat.{ℕ, ◌≤◌}
use native.Mathlib.Omega.{arith}
use mathlib.Core.Path.{◌≡◌, ap, sym, subst, ◌∙◌}
use mathlib.Core.List.{List, ◌++◌}
use lib.ListN.{length, drop, length-append}
use lib.Seq.{length-take-le}
use Rattle.wording.specs.paper.Text.{refused_line}
use Rattle.wording.specs.paper.Puts.{Wrote}
use Rattle.wording.specs.paper.Filled.{Filled, Front}

-- Fronts

pub at_front : {r : ℕ} (text : List ℕ) → r ≤ length text → Front r text
at_front {r} text fits = (fits, sym (length-take-le r text fits))

pub wrote_fits : {before bytes : List ℕ} {r : ℕ} {after : List ℕ} → Wrote before bytes r after → r ≤ length after
wrote_fits {before} {bytes} wrote =
    omega (arith, wrote.size, ap (λ (l : List ℕ). length l) wrote.text, length-append bytes (drop (length bytes) before))

module _ {most : ℕ} {Text : List ℕ → Type 0} {before : List ℕ} {r : ℕ} {after : List ℕ} where
  fits : Filled most Text before r after → r ≤ length after
  fits (Filled.short low is same) = omega arith
  fits (Filled.written text high kind wrote) = wrote_fits wrote

  pub front : Filled most Text before r after → Filled most Text before r after × Front r after
  front filled = (filled, at_front after (fits filled))

-- A refusal's line, from words for its number and its place

pub refused_as : {number place a b : ℕ} {before : List ℕ} {r : ℕ} {after : List ℕ} → a ≡ number → b ≡ place → Wrote before (refused_line a b) r after →
    Wrote before (refused_line number place) r after
refused_as {before = before} {r} {after} number_is place_is wrote =
    subst (λ (l : List ℕ). Wrote before l r after) (λ i. refused_line (number_is i) (place_is i)) wrote

-- One text

pub wrote_one : {before x y : List ℕ} {r q : ℕ} {a b : List ℕ} → Wrote before x r a → Wrote before y q b → x ≡ y → (r ≡ q) × (a ≡ b)
wrote_one {before} w v e =
    (w.size ∙ ap (λ (l : List ℕ). length l) e ∙ sym v.size, w.text ∙ ap (λ (l : List ℕ). l ++ drop (length l) before) e ∙ sym v.text)

pub filled_one : {most : ℕ} {Text : List ℕ → Type 0} → ((x y : List ℕ) → Text x → Text y → x ≡ y) → {before : List ℕ} {r q : ℕ} {a b : List ℕ} →
    Filled most Text before r a → Filled most Text before q b → (r ≡ q) × (a ≡ b)
filled_one one (Filled.short low r e) (Filled.short low' q f) = (r ∙ sym q, e ∙ sym f)
filled_one one (Filled.short low r e) (Filled.written y high t w) = absurd (omega arith)
filled_one one (Filled.written x high t w) (Filled.short low q f) = absurd (omega arith)
filled_one one (Filled.written x high t w) (Filled.written y high' u v) = wrote_one w v (one x y t u)
