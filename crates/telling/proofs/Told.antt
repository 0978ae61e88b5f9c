-- What becomes of a reply of `compile`: a table lies at its buffer's front; every other reply has its line, and leaves the table's buffer as it was.
use Rattle.std.specs.Prelude.{Result, Ok, Err}
use Prim.Native.Nat.{ℕ, ◌≤◌, ◌<◌}
use native.Mathlib.Omega.{arith}
use mathlib.Core.Path.{◌≡◌, refl, ap, sym, subst, ◌∙◌}
use mathlib.Core.List.{List}
use lib.ListN.{length, take, drop, length-append}
use Rattle.tabling.specs.paper.Encoding.{encode}
use Rattle.grammar.specs.paper.Gates.{table_for}
use Rattle.wording.specs.paper.Text.{refused_line}
use Rattle.wording.specs.paper.Puts.{Wrote}
use Rattle.wording.specs.paper.Filled.{Front}
use Rattle.wording.proofs.Filled.{at_front, wrote_fits, refused_as}
use Rattle.listing.specs.paper.Lists.{text_room, Lists}
use Rattle.compiling.specs.declared.CompileError.{CompileError}
use Rattle.compiling.specs.declared.CompileError.TheVariants.{Text, Name, Numbers, LoopAt, Room}
use Rattle.compiling.specs.paper.Compiles.{number, place, Compiles}
use Rattle.telling.specs.paper.Tells.{Tells}

-- each refusal has a number
some_number : (e : CompileError) → number (Err e) ≡ 0 → ⊥
some_number (Text at) zero = omega arith
some_number (Name at) zero = omega arith
some_number Numbers zero = omega arith
some_number (LoopAt gate) zero = omega arith
some_number Room zero = omega arith

-- both lengths count bytes at the front of their buffers
abbrev pub Told : (s : List ℕ) (k : ℕ) (table lines : List ℕ) (n m : ℕ) (table' lines' : List ℕ) → Type 0
Told s k table lines n m table' lines' =
    Tells s k table lines (record { table = n; lines = m }) table' lines' × (Front n table' × Front m lines')

module _ {s : List ℕ} {k : ℕ} {table table' : List ℕ} where
  table_fits : {n : ℕ} → Compiles s k table (Ok n) table' → n ≤ length table'
  table_fits (Compiles.long long is same) = absurd (omega (arith, ap number is))
  table_fits (Compiles.ungrammatical short none longest is same) = absurd (omega (arith, ap number is))
  table_fits (Compiles.misnamed typed first is same) = absurd (omega (arith, ap number is))
  table_fits (Compiles.outside typed named outside is same) = absurd (omega (arith, ap number is))
  table_fits (Compiles.loop drawable lowest is same) = absurd (omega (arith, ap number is))
  table_fits (Compiles.room drawable none short is same) = absurd (omega (arith, ap number is))
  table_fits (Compiles.compiled {sys} drawable none long is same) =
      let bytes = encode (table_for s k sys) in
      omega (arith, ap place is, ap (λ (l : List ℕ). length l) same, length-append bytes (drop (length bytes) table))

  pub compiled_as : {r : Result ℕ CompileError} {n : ℕ} → r ≡ Ok n → Compiles s k table r table' → Compiles s k table (Ok n) table'
  compiled_as is compiles = subst (λ (x : Result ℕ CompileError). Compiles s k table x table') is compiles

  pub table_front : {n : ℕ} → Compiles s k table (Ok n) table' → Front n table'
  table_front compiles = at_front table' (table_fits compiles)

  untouched : {r : Result ℕ CompileError} → Compiles s k table r table' → (number r ≡ 0 → ⊥) → table' ≡ table
  untouched (Compiles.long long is same) some = same
  untouched (Compiles.ungrammatical short none longest is same) some = same
  untouched (Compiles.misnamed typed first is same) some = same
  untouched (Compiles.outside typed named outside is same) some = same
  untouched (Compiles.loop drawable lowest is same) some = same
  untouched (Compiles.room drawable none short is same) some = same
  untouched (Compiles.compiled drawable none long is same) some = absurd (some (ap number is))

  module _ {lines lines' : List ℕ} {m : ℕ} (room : text_room ≤ length lines) where
    pub told_table : {n : ℕ} → Compiles s k table (Ok n) table' → Lists (take n table') lines m lines' × Front m lines' →
        Told s k table lines n m table' lines'
    told_table compiles (lists, front) = (Tells.listed room compiles lists, (table_front compiles, front))

    pub told_refusal : (reply : Result ℕ CompileError) {e : CompileError} {a b : ℕ} → reply ≡ Err e → Compiles s k table reply table' → a ≡ number reply →
        b ≡ place reply → Wrote lines (refused_line a b) m lines' → Told s k table lines 0 m table' lines'
    told_refusal reply {e} is compiles number_is place_is wrote =
        let some : number reply ≡ 0 → ⊥ = λ zero. some_number e (sym (ap number is) ∙ zero) in (
          Tells.refused reply room compiles some refl (untouched compiles some) (refused_as number_is place_is wrote),
          (at_front table' (omega arith), at_front lines' (wrote_fits wrote)),
        )

pub told_nothing : {s : List ℕ} {k : ℕ} {table lines : List ℕ} → length lines < text_room → Told s k table lines 0 0 table lines
told_nothing {table = table} {lines} low = (Tells.short low refl refl refl refl, (at_front table (omega arith), at_front lines (omega arith)))
