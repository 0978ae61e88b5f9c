-- One promise allows one text; and of the mapper's program one line, and one sheet but for its evidence and what follows from it, its length.
use Prim.Native.Nat.{ℕ}
use native.Mathlib.Omega.{arith}
use mathlib.Core.Path.{◌≡◌, ap, sym, ◌∙◌}
use mathlib.Core.List.{List}
use lib.ListN.{length}
use Rattle.sheet.specs.paper.Sheet.{Sheet}
use Rattle.sheet.specs.paper.Encoding.{narrow, encode}
use Rattle.wording.proofs.Filled.{wrote_one, filled_one}
use Rattle.mapping.specs.paper.Maps.{MapsTo}
use Rattle.mapping.proofs.Mapped.{with_sheet, OneReply, maps_one}
use Rattle.inspecting.proofs.Replies.{one_reply}
use Rattle.std.specs.Prelude.{Result, Ok}
use Rattle.mapping.specs.declared.MapError.{MapError}
use Rattle.printing.specs.paper.Reports.{line_of, Report, Reports}
use Rattle.printing.specs.paper.Draws.{shown_of, refusal_of, Draws}

report_one : {s t : List ℕ} (x y : List ℕ) → Report s t x → Report s t y → x ≡ y
report_one {s} {t} _ _ a b = a.is ∙ ap line_of (one_reply s t a.inspects b.inspects) ∙ sym b.is

pub reports_one : {s t before : List ℕ} {r q : ℕ} {a b : List ℕ} → Reports s t before r a → Reports s t before q b → (r ≡ q) × (a ≡ b)
reports_one = filled_one report_one

-- the answer and both buffers
pub data OneDrawn (s before text : List ℕ) (r q : Result ℕ ℕ) (a b t u : List ℕ) : Type 0 where
  same : r ≡ q → a ≡ b → t ≡ u → OneDrawn s before text r q a b t u
  sheets : (x y : Sheet) → MapsTo s x → MapsTo s y → r ≡ Ok (length (encode narrow x)) → q ≡ Ok (length (encode narrow y)) →
      a ≡ with_sheet x before → b ≡ with_sheet y before → t ≡ u → OneDrawn s before text r q a b t u

pub draws_one : {s before text : List ℕ} {r q : Result ℕ ℕ} {a b t u : List ℕ} → Draws s before text r a t → Draws s before text q b u →
    OneDrawn s before text r q a b t u
draws_one (Draws.short low r a t) (Draws.short low' q b u) = OneDrawn.same (r ∙ sym q) (a ∙ sym b) (t ∙ sym u)
draws_one (Draws.short low r a t) (Draws.drawn reply line high maps q wrote) = absurd (omega arith)
draws_one (Draws.drawn reply line high maps r wrote) (Draws.short low q b u) = absurd (omega arith)
draws_one {s} {before} {text} {r} {q} {a} {b} {t} {u} (Draws.drawn x line high maps is wrote) (Draws.drawn y line' high' maps' is' wrote') =
    by (maps_one maps maps')
  where
    by : OneReply s before x y a b → OneDrawn s before text r q a b t u
    by (OneReply.same e buffer) =
        let texts = wrote_one wrote wrote' (ap refusal_of e) in
        OneDrawn.same (is ∙ (λ i. shown_of (e i) (texts.0 i)) ∙ sym is') buffer texts.1
    by (OneReply.sheets a-sheet b-sheet to to' e e' front front') =
        let texts = wrote_one wrote wrote' (ap refusal_of e ∙ sym (ap refusal_of e')) in
        OneDrawn.sheets a-sheet b-sheet to to' (is ∙ ap (λ (z : Result ℕ MapError). shown_of z line) e) (is' ∙ ap (λ (z : Result ℕ MapError). shown_of z line') e') front front' texts.1
