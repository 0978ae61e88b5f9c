-- From what the stages answer to the promise of `compile`.
use Rattle.std.specs.Prelude.{Result, Err}
use Prim.Native.Nat.{ℕ, ◌≤◌}
use native.Mathlib.Omega.{arith}
use mathlib.Core.Path.{◌≡◌, refl, sym, ap, ◌∙◌}
use mathlib.Core.Bool.{false, true≢false}
use mathlib.Core.List.{List}
use lib.ListN.{length, take}
use Rattle.drawing.specs.paper.Table.{Table}
use Rattle.taking.specs.declared.TakeError.{TakeError}
use Rattle.taking.specs.declared.TakeError.TheVariants as taking
use Rattle.taking.specs.paper.Says.{Taking}
use Rattle.tabling.specs.Judged.{Judged}
use Rattle.tabling.specs.paper.Encoding.{encode}
use Rattle.tabling.proofs.Joins.{table_stands}
use Rattle.sheet.specs.Writing.{Room, Written}
use Rattle.sheet.proofs.Writes.{same_size}
use Rattle.grammar.specs.paper.Text.{most_text}
use Rattle.grammar.specs.paper.Names.{FirstMisnamed}
use Rattle.grammar.specs.Machine.{State, Halts}
use Rattle.grammar.proofs.Longest.{halts_is_longest, halts_not_well_formed}
use Rattle.scanning.specs.declared.Counts.{Counts}
use Rattle.compiling.specs.declared.CompileError.{CompileError}
use Rattle.compiling.specs.declared.CompileError.TheVariants.{Text, Name, Numbers}
use Rattle.compiling.specs.paper.Compiles.{table_room, Drawable, Compiles}
use Rattle.compiling.specs.Stages.{numbers_right, error_of, Scanned, NamesRight, Ready, ready_table, TableHere, Kept}
use Rattle.compiling.proofs.Readied.{numbers_pass, ready_within, ready_fits}

pub ungrammatical : {s : List ℕ} {k : ℕ} {before : List ℕ} {p : ℕ} → length s ≤ most_text → Halts s State.before 0 p → Compiles s k before (Err (Text p)) before
ungrammatical short halts = Compiles.ungrammatical short (halts_not_well_formed halts) (halts_is_longest halts) refl refl

pub misnamed : {s gates names : List ℕ} {k : ℕ} {c : Counts} {before : List ℕ} {p : ℕ} (scanned : Scanned s gates names c) → FirstMisnamed s scanned.says p →
    Compiles s k before (Err (Name p)) before
misnamed scanned first = Compiles.misnamed scanned.typed first refl refl

pub outside : {s gates names : List ℕ} {k : ℕ} {c : Counts} {before : List ℕ} → NamesRight s gates names c → numbers_right k c ≡ false →
    Compiles s k before (Err Numbers) before
outside {k = k} right fails =
    Compiles.outside right.scanned.typed right.named
    (λ numbers. true≢false (sym (ap (numbers_right k) right.scanned.counts ∙ numbers_pass numbers) ∙ fails)) refl refl

-- a table that is not taken has a loop
pub kept_untaken : {table : Table} {t : TakeError} {e : CompileError} {bytes before : List ℕ} → e ≡ error_of t → Judged table (Err t) →
    Kept table bytes before (Err e) before
kept_untaken {table} {t} {e} {bytes} {before} is judged = by judged refl
  where
    by : {u : Taking} → Judged table u → u ≡ Err t → Kept table bytes before (Err e) before
    by (Judged.loop {g = g} lowest) same = let z : t ≡ taking.LoopAt g = cc in Kept.loop lowest (ap Err (is ∙ ap error_of z)) refl
    by (Judged.taken _) same = let z : ◌≡◌ {A = ℕ} 0 1 = cc in absurd (omega arith)

-- the table of a text that has one
module _ {s gates names : List ℕ} {k : ℕ} {c : Counts} (ready : Ready s k gates names c) where
  drawable : Drawable s k ready.right.scanned.says
  drawable = record { typed = ready.right.scanned.typed; named = ready.right.named; numbers = ready.numbers }

  pub kept_compiles : {before : List ℕ} {r : Result ℕ CompileError} {after : List ℕ} → Kept (ready_table ready) (encode (ready_table ready)) before r after → Compiles s k before r after
  kept_compiles (Kept.loop lowest is same) = Compiles.loop drawable lowest is same
  kept_compiles (Kept.room none short is same) = Compiles.room drawable none short is same
  kept_compiles (Kept.stored none long is same) = Compiles.compiled drawable none long is same

  module _ {before after : List ℕ} {next : ℕ} (room : table_room ≤ length before) (written : Written before 0 (encode (ready_table ready)) after next) where
    fits : Room before 0 (encode (ready_table ready))
    fits = omega (arith, ready_fits ready)

    pub stands : take next after ≡ encode (ready_table ready)
    stands = table_stands (ready_table ready) written fits

    pub next_low : next ≤ length after
    next_low = omega (arith, written.reached, same_size written, ready_fits ready)

    pub table_here : TableHere (take next after)
    table_here =
        record {
          table = ready_table ready;
          within = ready_within ready;
          is = stands;
          fits = omega (arith, ap length stands, ready_fits ready);
        }
