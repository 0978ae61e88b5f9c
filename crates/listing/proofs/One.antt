-- One promise allows one text; and what is listed of a table is listed of every mapper's sheet of it.
use Prim.Native.Nat.{ℕ}
use mathlib.Core.Path.{◌≡◌, ap}
use mathlib.Core.List.{List}
use Rattle.drawing.specs.paper.Fields.{head_k}
use Rattle.drawing.specs.paper.Table.{net_of, tables_of}
use Rattle.drawing.specs.paper.Reading.{found, table_of}
use Rattle.taking.specs.paper.Taken.{IsTaken}
use Rattle.taking.specs.paper.Says.{Taking, Says, number, place}
use Rattle.taking.proofs.Judged.{says_one}
use Rattle.sheet.specs.paper.Sheet.{Sheet}
use Rattle.wording.specs.paper.Text.{listing_of, refused_line}
use Rattle.wording.proofs.Filled.{filled_one}
use Rattle.keeping.specs.paper.Mappers.{SheetWith, MappersSheet}
use Rattle.keeping.specs.paper.Printed.{mapping_of}
use Rattle.keeping.proofs.One.{mappers_sheet_is_one, mapping_one}
use Rattle.keeping.proofs.Tables.{bounded, outputs_are_nodes, table_ranked}
use Rattle.listing.specs.paper.Lists.{Listing, Lists}

-- sheets that differ in their evidence at most
module _ {s : List ℕ} (taken : IsTaken s) {Asked Other : (ℕ → ℕ) → ℕ → List (List ℕ) → Type 0} {a b : Sheet} where
  settled_one : SheetWith Asked (net_of (table_of s)) (tables_of (table_of s)) (head_k s) (found s).outputs a →
      SheetWith Other (net_of (table_of s)) (tables_of (table_of s)) (head_k s) (found s).outputs b →
      listing_of (mapping_of (table_of s) a) ≡ listing_of (mapping_of (table_of s) b)
  unfolding net_of
  settled_one x y =
      let whole = taken.whole in
      ap listing_of
      (mapping_one (table_of s) a b
      (mappers_sheet_is_one (net_of (table_of s)) (tables_of (table_of s)) (head_k s) (found s).outputs a b (bounded s whole)
      (table_ranked s whole taken.no_loop) (outputs_are_nodes s whole) x y))

-- a table that is taken is not refused
not_both : {s : List ℕ} {r : Taking} {A : Type 0} → Says s r → (number r ≡ 0 → ⊥) → IsTaken s → A
not_both says some taken = absurd (some (ap number (says_one says (Says.taken taken))))

listing_one : {s : List ℕ} (x y : List ℕ) → Listing s x → Listing s y → x ≡ y
listing_one _ _ (Listing.refused p _) (Listing.refused q _) = ap (λ (r : Taking). refused_line (number r) (place r)) (says_one p q)
listing_one _ _ (Listing.refused p some) (Listing.listed _ q _ _) = not_both p some q
listing_one _ _ (Listing.listed _ p _ _) (Listing.refused q some) = not_both q some p
listing_one _ _ (Listing.listed a p x _) (Listing.listed b q y _) = settled_one p x y

pub lists_one : {s before : List ℕ} {r q : ℕ} {a b : List ℕ} → Lists s before r a → Lists s before q b → (r ≡ q) × (a ≡ b)
lists_one = filled_one listing_one

-- the text is that of any sheet that the mapper may make of the table
pub lists_mapped : {s : List ℕ} {x : List ℕ} {sheet : Sheet} → Listing s x → IsTaken s →
    MappersSheet (net_of (table_of s)) (tables_of (table_of s)) (head_k s) (found s).outputs sheet → x ≡ listing_of (mapping_of (table_of s) sheet)
lists_mapped (Listing.refused p some) taken to = not_both p some taken
lists_mapped (Listing.listed a p x _) taken to = settled_one taken x to
