-- The promise allows one answer, one table and one text: `tells_one`.
use Rattle.std.specs.Prelude.{Result}
use Prim.Native.Nat.{ℕ}
use native.Mathlib.Omega.{arith}
use mathlib.Core.Path.{◌≡◌, ap, sym, subst, ◌∙◌}
use mathlib.Core.List.{List}
use lib.ListN.{take}
use Rattle.wording.specs.paper.Text.{refused_line}
use Rattle.wording.proofs.Filled.{wrote_one}
use Rattle.listing.specs.paper.Lists.{Lists}
use Rattle.listing.proofs.One.{lists_one}
use Rattle.compiling.specs.declared.CompileError.{CompileError}
use Rattle.compiling.specs.paper.Compiles.{number, place}
use Rattle.compiling.proofs.One.{compiles_one}
use Rattle.telling.specs.declared.Lengths.{Lengths}
use Rattle.telling.specs.paper.Tells.{Tells}

lengths : {r q : Lengths} → r.table ≡ q.table → r.lines ≡ q.lines → r ≡ q
lengths tables lines i = record { table = tables i; lines = lines i }

pub tells_one : {s : List ℕ} {k : ℕ} {table lines : List ℕ} {r q : Lengths} {a b t u : List ℕ} → Tells s k table lines r a t → Tells s k table lines q b u →
    (r ≡ q) × (a ≡ b) × (t ≡ u)
tells_one (Tells.short low p o a t) (Tells.short low' p' o' b u) = (lengths (p ∙ sym p') (o ∙ sym o'), a ∙ sym b, t ∙ sym u)
tells_one (Tells.short low p o a t) (Tells.refused reply room x some p' b w) = absurd (omega arith)
tells_one (Tells.short low p o a t) (Tells.listed room x l) = absurd (omega arith)
tells_one (Tells.refused reply room x some p a w) (Tells.short low p' o b u) = absurd (omega arith)
tells_one (Tells.refused reply room x some p a w) (Tells.refused other room' y some' p' b v) =
    let (is, tables) = compiles_one x y in
    let (sizes, texts) = wrote_one w v (ap (λ (z : Result ℕ CompileError). refused_line (number z) (place z)) is) in
    (lengths (p ∙ sym p') sizes, tables, texts)
tells_one (Tells.refused reply room x some p a w) (Tells.listed room' y l) = absurd (some (ap number (compiles_one x y).0))
tells_one (Tells.listed room x l) (Tells.short low p o b u) = absurd (omega arith)
tells_one (Tells.listed room x l) (Tells.refused reply room' y some p b w) = absurd (some (ap number (compiles_one y x).0))
tells_one {lines = lines} {r} {q} {a} {b} {t} {u} (Tells.listed room x l) (Tells.listed room' y m) =
    let (is, tables) = compiles_one x y in
    let length_is : r.table ≡ q.table = ap place is in
    let same : take r.table a ≡ take q.table b = λ i. take (length_is i) (tables i) in
    let (sizes, texts) = lists_one l (subst (λ (z : List ℕ). Lists z lines q.lines u) (sym same) m) in
    (lengths length_is sizes, tables, texts)
