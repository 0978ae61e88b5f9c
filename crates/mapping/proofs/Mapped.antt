-- From a table taken to the promise. And one promise allows one reply.
use Prim.Native.Nat.{ℕ}
use native.Mathlib.Omega.{arith}
use mathlib.Core.Path.{◌≡◌, refl, ap, sym, subst, ◌∙◌}
use mathlib.Core.List.{List, ◌++◌}
use lib.ListN.{length, drop}
use Rattle.std.specs.Prelude.{Result, Ok, Err}
use Rattle.storage.specs.declared.Numbers.{Numbers}
use Rattle.theory.specs.paper.Net.{Net}
use Rattle.drawing.specs.paper.Fields.{head_k}
use Rattle.drawing.specs.paper.Reading.{numbers_of}
use Rattle.taking.specs.declared.TakeError.{TakeError}
use Rattle.taking.specs.declared.TakeError.TheVariants as taking
use Rattle.taking.specs.paper.Says.{Taking, Says}
use Rattle.taking.specs.Judged.{Ready}
use Rattle.taking.proofs.Judged.{says_one}
use Rattle.sheet.specs.paper.Sheet.{Sheet}
use Rattle.sheet.specs.paper.Encoding.{narrow, encode}
use Rattle.sheet.specs.paper.Rules.{PathsKept}
use Rattle.sheet.proofs.Joins.{front_written}
use Rattle.mapping.specs.declared.MapError.{MapError}
use Rattle.mapping.specs.declared.MapError.TheVariants.{Refused, LoopAt, Room}
use Rattle.settling.proofs.Tables.{sheet_of_table}
use Rattle.mapping.specs.Sheets.{TakenMapped, error_of}
use Rattle.mapping.specs.paper.Maps.{MapsTo, Maps}

module _ {s fanins rows outputs order : List ℕ} (ready : Ready s fanins rows outputs order) where
  maps_here : {before : List ℕ} {r : Result ℕ MapError} {after : List ℕ} → TakenMapped (numbers_of s) fanins rows outputs before r after →
      Maps s before r after
  maps_here (TakenMapped.room short is same) = Maps.room ready.taken short is same
  maps_here (TakenMapped.mapped long is done) =
      let front = front_written done.written done.fits in
      Maps.mapped done.sheet ready.taken long (sheet_of_table ready (λ (net : Net). PathsKept net (head_k s)) done.mappers) (is ∙ ap Ok front.1)
      front.0

  pub maps_taken : {n : Numbers} {before : List ℕ} {r : Result ℕ MapError} {after : List ℕ} → n ≡ numbers_of s →
      TakenMapped n fanins rows outputs before r after → Maps s before r after
  maps_taken {before = before} {r = r} {after = after} is done =
      maps_here (subst (λ (m : Numbers). TakenMapped m fanins rows outputs before r after) is done)

-- a table that is not taken is refused for what is said of it
pub maps_untaken : {s before : List ℕ} {t : TakeError} {e : MapError} → e ≡ error_of t → Says s (Err t) → Maps s before (Err e) before
maps_untaken {s} {before} {t} {e} is said = by said refl
  where
    by : {u : Taking} → Says s u → u ≡ Err t → Maps s before (Err e) before
    by (Says.refused {x = x} faulty) same = let z : t ≡ taking.Refused x = cc in Maps.refused faulty (ap Err (is ∙ ap error_of z)) refl
    by (Says.loop {g = g} whole loop) same = let z : t ≡ taking.LoopAt g = cc in Maps.loop whole loop (ap Err (is ∙ ap error_of z)) refl
    by (Says.taken _) same = let z : ◌≡◌ {A = ℕ} 0 1 = cc in absurd (omega arith)

-- Two replies that the promise allows are equal, and so is the buffer, but for the evidence of a sheet and what follows from it, its length.

-- the buffer with a sheet at its front
abbrev pub with_sheet : Sheet → List ℕ → List ℕ
with_sheet x before = encode narrow x ++ drop (length (encode narrow x)) before

pub data OneReply (s before : List ℕ) (r q : Result ℕ MapError) (a b : List ℕ) : Type 0 where
  same : r ≡ q → a ≡ b → OneReply s before r q a b
  sheets : (x y : Sheet) → MapsTo s x → MapsTo s y → r ≡ Ok (length (encode narrow x)) → q ≡ Ok (length (encode narrow y)) →
      a ≡ with_sheet x before → b ≡ with_sheet y before → OneReply s before r q a b

refusal_of_lem : Taking → Result ℕ MapError
refusal_of_lem (Ok n) = Err Room
refusal_of_lem (Err (taking.Refused x)) = Err (Refused x)
refusal_of_lem (Err (taking.LoopAt g)) = Err (LoopAt g)
refusal_of_lem (Err taking.TooShort) = Err Room

kind_of : Taking → ℕ
kind_of (Ok n) = 0
kind_of (Err (taking.Refused x)) = 1
kind_of (Err (taking.LoopAt g)) = 2
kind_of (Err taking.TooShort) = 3

apart : {s : List ℕ} {t u : Taking} {A : Type 0} → Says s t → Says s u → (kind_of t ≡ kind_of u → ⊥) → A
apart t u differ = absurd (differ (ap kind_of (says_one t u)))

pub maps_one : {s before : List ℕ} {r q : Result ℕ MapError} {a b : List ℕ} → Maps s before r a → Maps s before q b → OneReply s before r q a b
unfolding refusal_of_lem kind_of
maps_one (Maps.refused x r e) (Maps.refused y q f) = OneReply.same (r ∙ ap refusal_of_lem (says_one (Says.refused x) (Says.refused y)) ∙ sym q) (e ∙ sym f)
maps_one (Maps.refused x r e) (Maps.loop w l q f) = apart (Says.refused x) (Says.loop w l) (λ z. omega arith)
maps_one (Maps.refused x r e) (Maps.room t short q f) = apart (Says.refused x) (Says.taken t) (λ z. omega arith)
maps_one (Maps.refused x r e) (Maps.mapped sheet t long to q f) = apart (Says.refused x) (Says.taken t) (λ z. omega arith)
maps_one (Maps.loop w l r e) (Maps.refused y q f) = apart (Says.loop w l) (Says.refused y) (λ z. omega arith)
maps_one (Maps.loop w l r e) (Maps.loop v m q f) = OneReply.same (r ∙ ap refusal_of_lem (says_one (Says.loop w l) (Says.loop v m)) ∙ sym q) (e ∙ sym f)
maps_one (Maps.loop w l r e) (Maps.room t short q f) = apart (Says.loop w l) (Says.taken t) (λ z. omega arith)
maps_one (Maps.loop w l r e) (Maps.mapped sheet t long to q f) = apart (Says.loop w l) (Says.taken t) (λ z. omega arith)
maps_one (Maps.room t short r e) (Maps.refused y q f) = apart (Says.taken t) (Says.refused y) (λ z. omega arith)
maps_one (Maps.room t short r e) (Maps.loop w l q f) = apart (Says.taken t) (Says.loop w l) (λ z. omega arith)
maps_one (Maps.room t short r e) (Maps.room u short' q f) = OneReply.same (r ∙ sym q) (e ∙ sym f)
maps_one (Maps.room t short r e) (Maps.mapped sheet u long to q f) = absurd (omega arith)
maps_one (Maps.mapped sheet t long to r e) (Maps.refused y q f) = apart (Says.taken t) (Says.refused y) (λ z. omega arith)
maps_one (Maps.mapped sheet t long to r e) (Maps.loop w l q f) = apart (Says.taken t) (Says.loop w l) (λ z. omega arith)
maps_one (Maps.mapped sheet t long to r e) (Maps.room u short q f) = absurd (omega arith)
maps_one (Maps.mapped sheet t long to r e) (Maps.mapped sheet' u long' to' q f) = OneReply.sheets sheet sheet' to to' r q e f
