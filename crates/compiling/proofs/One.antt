-- The promise of `compile` allows one reply and one buffer: `compiles_one`. What a text gets is told in three steps, each by cases that exclude each
-- other: too long, not in the grammar, or a text of one system; of this system, misnamed, outside the numbers, or a gate table; of this table, a loop,
-- too short a buffer, or its bytes.
use Rattle.std.specs.Prelude.{Result, Err}
use Prim.Native.Nat.{ℕ, ◌≤◌, ◌<◌}
use native.Mathlib.Omega.{arith}
use mathlib.Core.Path.{◌≡◌, refl, sym, ap, subst, ◌∙◌}
use mathlib.Core.List.{List}
use lib.ListN.{length}
use Rattle.walking.proofs.Unique.{lowest_one, some_loop}
use Rattle.drawing.specs.paper.Table.{Table}
use Rattle.tabling.specs.paper.Encoding.{encode}
use Rattle.grammar.specs.paper.Text.{most_text}
use Rattle.grammar.specs.paper.Grammar.{System, WellFormed}
use Rattle.grammar.specs.paper.Longest.{Longest}
use Rattle.grammar.specs.paper.Names.{WellNamed, FirstMisnamed}
use Rattle.grammar.specs.paper.Gates.{table_for, InNumbers}
use Rattle.grammar.proofs.OneSystem.{well_formed_one}
use Rattle.grammar.proofs.Longest.{longest_one}
use Rattle.naming.proofs.One.{misnamed_one}
use Rattle.compiling.specs.declared.CompileError.{CompileError}
use Rattle.compiling.specs.declared.CompileError.TheVariants.{Text, Name, Numbers, LoopAt}
use Rattle.compiling.specs.paper.Compiles.{Typed, Compiles}
use Rattle.compiling.specs.Stages.{Kept}

-- one system
pub typed_one : {s : List ℕ} {sys other : System} → Typed s sys → Typed s other → sys ≡ other
typed_one a b = well_formed_one a.well_formed b.well_formed

-- a reply and a buffer, twice
abbrev Same : (r q : Result ℕ CompileError) (a b : List ℕ) → Type 0
Same r q a b = (r ≡ q) × (a ≡ b)

same : {r q x y : Result ℕ CompileError} {a b c : List ℕ} → x ≡ y → r ≡ x → q ≡ y → a ≡ c → b ≡ c → Same r q a b
same is p o e f = (p ∙ is ∙ sym o, e ∙ sym f)

-- of a table
kept_one : {table : Table} {bytes before : List ℕ} {r q : Result ℕ CompileError} {a b : List ℕ} → Kept table bytes before r a → Kept table bytes before q b → Same r q a b
kept_one (Kept.loop l p e) (Kept.loop m o f) = same (ap (λ (i : ℕ). Err (LoopAt (record { id = i }))) (lowest_one l m)) p o e f
kept_one (Kept.loop l p e) (Kept.room free short o f) = absurd (some_loop free l)
kept_one (Kept.loop l p e) (Kept.stored free long o f) = absurd (some_loop free l)
kept_one (Kept.room free short p e) (Kept.loop m o f) = absurd (some_loop free m)
kept_one (Kept.room free short p e) (Kept.room _ short' o f) = same refl p o e f
kept_one (Kept.room free short p e) (Kept.stored _ long o f) = absurd (omega arith)
kept_one (Kept.stored free long p e) (Kept.loop m o f) = absurd (some_loop free m)
kept_one (Kept.stored free long p e) (Kept.room _ short o f) = absurd (omega arith)
kept_one (Kept.stored free long p e) (Kept.stored _ long' o f) = same refl p o e f

-- of a system
data Named (s : List ℕ) (k : ℕ) (sys : System) (before : List ℕ) (r : Result ℕ CompileError) (after : List ℕ) : Type 0 where
  misnamed : {p : ℕ} → FirstMisnamed s sys p → r ≡ Err (Name p) → after ≡ before → Named s k sys before r after
  outside : WellNamed s sys → (InNumbers k sys → ⊥) → r ≡ Err Numbers → after ≡ before → Named s k sys before r after
  drawn : WellNamed s sys → InNumbers k sys → Kept (table_for s k sys) (encode (table_for s k sys)) before r after → Named s k sys before r after

named_one : {s : List ℕ} {k : ℕ} {sys : System} {before : List ℕ} {r q : Result ℕ CompileError} {a b : List ℕ} → Named s k sys before r a → Named s k sys before q b →
    Same r q a b
named_one (Named.misnamed x p e) (Named.misnamed y o f) = same (ap (λ (p : ℕ). Err (Name p)) (misnamed_one x y)) p o e f
named_one (Named.misnamed {p = at} x p e) (Named.outside named _ o f) = absurd (named at x.misnamed)
named_one (Named.misnamed {p = at} x p e) (Named.drawn named _ _) = absurd (named at x.misnamed)
named_one (Named.outside named _ p e) (Named.misnamed {p = at} y o f) = absurd (named at y.misnamed)
named_one (Named.outside named _ p e) (Named.outside _ _ o f) = same refl p o e f
named_one (Named.outside named out p e) (Named.drawn _ numbers _) = absurd (out numbers)
named_one (Named.drawn named _ _) (Named.misnamed {p = at} y o f) = absurd (named at y.misnamed)
named_one (Named.drawn named numbers _) (Named.outside _ out o f) = absurd (out numbers)
named_one (Named.drawn named _ x) (Named.drawn _ _ y) = kept_one x y

-- of a text
data Read (s : List ℕ) (k : ℕ) (before : List ℕ) (r : Result ℕ CompileError) (after : List ℕ) : Type 0 where
  long : most_text < length s → r ≡ Err (Text most_text) → after ≡ before → Read s k before r after
  ungrammatical : {p : ℕ} → length s ≤ most_text → ((sys : System) → WellFormed s sys → ⊥) → Longest s p → r ≡ Err (Text p) → after ≡ before → Read s k before r after
  typed : {sys : System} → Typed s sys → Named s k sys before r after → Read s k before r after

read_one : {s : List ℕ} {k : ℕ} {before : List ℕ} {r q : Result ℕ CompileError} {a b : List ℕ} → Read s k before r a → Read s k before q b → Same r q a b
read_one (Read.long over p e) (Read.long _ o f) = same refl p o e f
read_one (Read.long over p e) (Read.ungrammatical short _ _ o f) = absurd (omega arith)
read_one (Read.long over p e) (Read.typed t _) = absurd (omega (arith, t.short))
read_one (Read.ungrammatical short _ _ p e) (Read.long over o f) = absurd (omega arith)
read_one (Read.ungrammatical short _ x p e) (Read.ungrammatical _ _ y o f) = same (ap (λ (p : ℕ). Err (Text p)) (longest_one x y)) p o e f
read_one (Read.ungrammatical short none _ p e) (Read.typed {sys = sys} t _) = absurd (none sys t.well_formed)
read_one (Read.typed t _) (Read.long over o f) = absurd (omega (arith, t.short))
read_one (Read.typed {sys = sys} t _) (Read.ungrammatical _ none _ o f) = absurd (none sys t.well_formed)
read_one {s} {k} {before} {q = q} {b = b} (Read.typed t x) (Read.typed u y) =
    named_one x (subst (λ (z : System). Named s k z before q b) (typed_one u t) y)

-- the promise's cases, step by step
read_of : {s : List ℕ} {k : ℕ} {before : List ℕ} {r : Result ℕ CompileError} {a : List ℕ} → Compiles s k before r a → Read s k before r a
read_of (Compiles.long over p e) = Read.long over p e
read_of (Compiles.ungrammatical short none x p e) = Read.ungrammatical short none x p e
read_of (Compiles.misnamed t x p e) = Read.typed t (Named.misnamed x p e)
read_of (Compiles.outside t named out p e) = Read.typed t (Named.outside named out p e)
read_of (Compiles.loop d l p e) = Read.typed d.typed (Named.drawn d.named d.numbers (Kept.loop l p e))
read_of (Compiles.room d free short p e) = Read.typed d.typed (Named.drawn d.named d.numbers (Kept.room free short p e))
read_of (Compiles.compiled d free enough p e) = Read.typed d.typed (Named.drawn d.named d.numbers (Kept.stored free enough p e))

-- one text, one K and one buffer: one reply
pub compiles_one : {s : List ℕ} {k : ℕ} {before : List ℕ} {r q : Result ℕ CompileError} {a b : List ℕ} → Compiles s k before r a → Compiles s k before q b → (r ≡ q) × (a ≡ b)
compiles_one x y = read_one (read_of x) (read_of y)
