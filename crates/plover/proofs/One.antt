-- A word says its number and its place; and one promise allows one word, but for the mapper's evidence and with it the sheet's length.
use Prim.Native.Nat.{ℕ, ◌/◌, ◌%◌, ◌<◌}
use native.Mathlib.Omega.{arith}
use mathlib.Core.Path.{◌≡◌, ap, sym, ◌∙◌}
use mathlib.Core.List.{List}
use lib.ListN.{length}
use Rattle.std.specs.Prelude.{Result}
use Rattle.sheet.specs.paper.Sheet.{Sheet}
use Rattle.sheet.specs.paper.Encoding.{narrow, encode}
use Rattle.mapping.specs.declared.MapError.{MapError}
use Rattle.mapping.specs.paper.Maps as mapper
use Rattle.mapping.specs.paper.Maps.{MapsTo}
use Rattle.mapping.proofs.Mapped.{with_sheet, OneReply, maps_one}
use Rattle.inspecting.specs.paper.Inspecting.{Inspection}
use Rattle.inspecting.specs.paper.Inspecting as inspector
use Rattle.inspecting.proofs.Replies.{one_reply}
use Rattle.compiling.specs.declared.CompileError.{CompileError}
use Rattle.compiling.specs.paper.Compiles as compiler
use Rattle.compiling.proofs.One.{compiles_one}
use Rattle.plover.specs.paper.Words.{half, word_of, MapsAs, InspectsAs, CompilesAs}

-- the halves of a word
parts : (number place w : ℕ) → place < half → w ≡ word_of number place → (w / half ≡ number) × (w % half ≡ place)
parts number place w fits e = (omega (arith, fits, e), omega (arith, fits, e))

pub map_word_says : {s before : List ℕ} {w : ℕ} {after : List ℕ} (m : MapsAs s before w after) →
    (w / half ≡ mapper.number m.reply) × (w % half ≡ mapper.place m.reply)
map_word_says {w = w} m = parts (mapper.number m.reply) (mapper.place m.reply) w m.fits m.word

pub inspect_word_says : {s t : List ℕ} {w : ℕ} (m : InspectsAs s t w) →
    (w / half ≡ inspector.number m.reply) × (w % half ≡ inspector.place m.reply)
inspect_word_says {w = w} m = parts (inspector.number m.reply) (inspector.place m.reply) w m.fits m.word

pub equations_word_says : {s : List ℕ} {k : ℕ} {before : List ℕ} {w : ℕ} {after : List ℕ} (m : CompilesAs s k before w after) →
    (w / half ≡ compiler.number m.reply) × (w % half ≡ compiler.place m.reply)
equations_word_says {w = w} m = parts (compiler.number m.reply) (compiler.place m.reply) w m.fits m.word

pub data OneWord (s before : List ℕ) (w v : ℕ) (a b : List ℕ) : Type 0 where
  same : w ≡ v → a ≡ b → OneWord s before w v a b
  sheets : (x y : Sheet) → MapsTo s x → MapsTo s y → w ≡ length (encode narrow x) → v ≡ length (encode narrow y) →
      a ≡ with_sheet x before → b ≡ with_sheet y before → OneWord s before w v a b

abbrev map_word : Result ℕ MapError → ℕ
map_word r = word_of (mapper.number r) (mapper.place r)

pub map_word_one : {s before : List ℕ} {w v : ℕ} {a b : List ℕ} → MapsAs s before w a → MapsAs s before v b → OneWord s before w v a b
map_word_one {s} {before} {w} {v} {a} {b} m n = by (maps_one m.maps n.maps)
  where
    by : OneReply s before m.reply n.reply a b → OneWord s before w v a b
    by (OneReply.same e buffer) = OneWord.same (m.word ∙ ap map_word e ∙ sym n.word) buffer
    by (OneReply.sheets x y to to' is is' front front') =
        OneWord.sheets x y to to' (omega (arith, m.word, ap map_word is)) (omega (arith, n.word, ap map_word is')) front front'

abbrev inspect_word : Inspection → ℕ
inspect_word r = word_of (inspector.number r) (inspector.place r)

pub inspect_word_one : {s t : List ℕ} {w v : ℕ} → InspectsAs s t w → InspectsAs s t v → w ≡ v
inspect_word_one {s} {t} m n = m.word ∙ ap inspect_word (one_reply s t m.inspects n.inspects) ∙ sym n.word

abbrev equations_word : Result ℕ CompileError → ℕ
equations_word r = word_of (compiler.number r) (compiler.place r)

pub equations_word_one : {s : List ℕ} {k : ℕ} {before : List ℕ} {w v : ℕ} {a b : List ℕ} → CompilesAs s k before w a → CompilesAs s k before v b →
    (w ≡ v) × (a ≡ b)
equations_word_one m n =
    let (is, tables) = compiles_one m.compiles n.compiles in
    (m.word ∙ ap equations_word is ∙ sym n.word, tables)
