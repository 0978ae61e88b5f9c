-- The demands on typed equations, from the promises of `compile`, `map` and `inspect`. Each refusal is a reply that the promise of `compile` allows, and it allows
-- one. A compiled table's bytes read back (tabling's round trip), so demands 2 and 3 speak of them; their LUTs have the gates' values at the outputs, and the
-- gates the equations'.
use Rattle.std.specs.Prelude.{Result, Ok, Err}
use Prim.Native.Nat.{ℕ, ◌≤◌, ◌<◌}
use native.Mathlib.Omega.{arith}
use mathlib.Core.Path.{◌≡◌, refl, sym, ap, ◌∙◌, subst}
use mathlib.Core.Logic.{◌⊎◌, inl, inr}
use mathlib.Core.Bool.{Bool}
use mathlib.Core.List.{List, ◌++◌}
use lib.ListN.{length, get_or, take, drop, length-append}
use lib.Seq.{drop_at}
use Rattle.theory.specs.paper.Walk.{NoLoop}
use Rattle.theory.specs.paper.Lookup.{ObeysLuts}
use Rattle.storage.proofs.Entries.{member_at}
use Rattle.drawing.specs.paper.Fields.{head_k}
use Rattle.drawing.specs.paper.Table.{Table, net_of, tables_of}
use Rattle.drawing.specs.paper.Reading.{table_of, roots_of}
use Rattle.walking.specs.paper.Loops.{loop_number}
use Rattle.taking.specs.paper.Taken.{drawn, IsTaken}
use Rattle.sheet.specs.paper.Limits.{sheet_room}
use Rattle.sheet.specs.paper.Sheet.{Sheet}
use Rattle.sheet.specs.paper.Shape.{Reading}
use Rattle.sheet.specs.paper.Rules.{luts_of, table_listed}
use Rattle.tabling.specs.paper.Encoding.{encode}
use Rattle.tabling.proofs.RoundTrip.{table_back}
use Rattle.grammar.specs.paper.Text.{most_text, word_at}
use Rattle.grammar.specs.paper.Grammar.{System, WellFormed}
use Rattle.grammar.specs.paper.Gates.{table_for}
use Rattle.grammar.specs.paper.Meaning.{Solves}
use Rattle.grammar.specs.paper.Faithful.{Faithful}
use Rattle.grammar.specs.paper.Circles.{Circular}
use Rattle.grammar.proofs.OneSystem.{well_formed_one}
use Rattle.grammar.proofs.Solutions.{table_faithful}
use Rattle.grammar.proofs.Circling.{no_loop_no_circle, circle_is_loop}
use Rattle.compiling.specs.declared.CompileError.{CompileError}
use Rattle.compiling.specs.declared.CompileError.TheVariants.{Text, Name, Numbers, LoopAt, Room}
use Rattle.compiling.specs.paper.Compiles.{Compiles, Typed, Drawable, table_room, said, number, place}
use Rattle.compiling.proofs.Drawables.{table_within, table_taken}
use Rattle.compiling.proofs.One.{compiles_one}
use Rattle.keeping.specs.paper.Right.{Right}
use Rattle.mapping.specs.declared.MapError.{MapError}
use Rattle.mapping.specs.paper.Maps as mapping
use Rattle.mapping.specs.paper.Maps.{Maps}
use Rattle.inspecting.specs.paper.Inspecting.{sheet_in}
use Rattle.demands.specs.paper.Equations.{CompilerRefuses, CompilerReplies, Serves, TableWritten, DemandEquations}
use Rattle.demands.proofs.Mapper.{front, demand_1, demand_2}
use Rattle.demands.proofs.Inspector.{demand_3_right}

-- Loops and circles

module _ {s : List ℕ} {k : ℕ} {sys : System} (d : Drawable s k sys) where
  free_of_loops : (Circular s sys → ⊥) → NoLoop (net_of (table_for s k sys))
  free_of_loops none = (no_loop_no_circle k d.typed.well_formed d.named).1 none

  free_of_circles : NoLoop (net_of (table_for s k sys)) → Circular s sys → ⊥
  free_of_circles free = (no_loop_no_circle k d.typed.well_formed d.named).0 free

-- a text that is too long or not in the grammar says nothing
abbrev NoText : List ℕ → Type 0
NoText s = (most_text < length s) ⊎ ((sys : System) → WellFormed s sys → ⊥)

no_text_typed : {s : List ℕ} {sys : System} {A : Type 0} → NoText s → Typed s sys → A
no_text_typed (inl over) typed = absurd (omega (arith, over, typed.short))
no_text_typed {sys = sys} (inr none) typed = absurd (none sys typed.well_formed)

-- Refusals

module _ (s : List ℕ) (k : ℕ) (before : List ℕ) where
  -- a refusal is a reply that the promise allows, and its number is not 0
  record Refusing (x : ℕ × ℕ) : Type 0 where
    reply : Result ℕ CompileError
    compiles : Compiles s k before reply before
    says : said reply ≡ x
    some : number reply ≡ 0 → ⊥

  refusing : {x : ℕ × ℕ} → CompilerRefuses s k before x → Refusing x
  refusing (CompilerRefuses.long over) =
      record { reply = Err (Text most_text); compiles = Compiles.long over refl refl; says = refl; some = λ n. omega (arith, n) }
  refusing (CompilerRefuses.ungrammatical {p = p} short none longest) =
      record { reply = Err (Text p); compiles = Compiles.ungrammatical short none longest refl refl; says = refl; some = λ n. omega (arith, n) }
  refusing (CompilerRefuses.misnamed {p = p} typed first) =
      record { reply = Err (Name p); compiles = Compiles.misnamed typed first refl refl; says = refl; some = λ n. omega (arith, n) }
  refusing (CompilerRefuses.outside typed named out) =
      record { reply = Err Numbers; compiles = Compiles.outside typed named out refl refl; says = refl; some = λ n. omega (arith, n) }
  refusing (CompilerRefuses.loop {g = g} d lowest) =
      record { reply = Err (LoopAt (record { id = g })); compiles = Compiles.loop d lowest refl refl; says = refl; some = λ n. omega (arith, n) }
  refusing (CompilerRefuses.room d none short) =
      record { reply = Err Room; compiles = Compiles.room d (free_of_loops d none) short refl refl; says = refl; some = λ n. omega (arith, n) }

  module _ (r : Result ℕ CompileError) (after : List ℕ) where
    said_refused : Compiles s k before r after → (x : ℕ × ℕ) → said r ≡ x → (x.0 ≡ 0 → ⊥) → CompilerRefuses s k before x
    said_refused (Compiles.long over p a) x is some = subst (CompilerRefuses s k before) (sym (ap said p) ∙ is) (CompilerRefuses.long over)
    said_refused (Compiles.ungrammatical short none longest p a) x is some =
        subst (CompilerRefuses s k before) (sym (ap said p) ∙ is) (CompilerRefuses.ungrammatical short none longest)
    said_refused (Compiles.misnamed typed first p a) x is some =
        subst (CompilerRefuses s k before) (sym (ap said p) ∙ is) (CompilerRefuses.misnamed typed first)
    said_refused (Compiles.outside typed named out p a) x is some =
        subst (CompilerRefuses s k before) (sym (ap said p) ∙ is) (CompilerRefuses.outside typed named out)
    said_refused (Compiles.loop d lowest p a) x is some = subst (CompilerRefuses s k before) (sym (ap said p) ∙ is) (CompilerRefuses.loop d lowest)
    said_refused (Compiles.room d free short p a) x is some =
        subst (CompilerRefuses s k before) (sym (ap said p) ∙ is) (CompilerRefuses.room d (free_of_circles d free) short)
    said_refused (Compiles.compiled d free enough p a) x is some = absurd (some (sym (ap (λ (y : ℕ × ℕ). y.0) (sym (ap said p) ∙ is))))

    -- 41, 7 and 0, by the reply

    untyped : Compiles s k before r after → number r ≡ 41 → NoText s
    untyped (Compiles.long over p a) n = inl over
    untyped (Compiles.ungrammatical short none longest p a) n = inr none
    untyped (Compiles.misnamed typed first p a) n = absurd (omega (arith, ap number p, n))
    untyped (Compiles.outside typed named out p a) n = absurd (omega (arith, ap number p, n))
    untyped (Compiles.loop d lowest p a) n = absurd (omega (arith, ap number p, n))
    untyped (Compiles.room d free short p a) n = absurd (omega (arith, ap number p, n))
    untyped (Compiles.compiled d free enough p a) n = absurd (omega (arith, ap number p, n))

    looped : Compiles s k before r after → number r ≡ loop_number → (sys : System) × Drawable s k sys × Circular s sys
    looped (Compiles.long over p a) n = absurd (omega (arith, ap number p, n))
    looped (Compiles.ungrammatical short none longest p a) n = absurd (omega (arith, ap number p, n))
    looped (Compiles.misnamed typed first p a) n = absurd (omega (arith, ap number p, n))
    looped (Compiles.outside typed named out p a) n = absurd (omega (arith, ap number p, n))
    looped (Compiles.loop {sys = sys} {g = g} d lowest p a) n =
        (sys, d, (circle_is_loop k d.typed.well_formed d.named d.numbers.k_least).1 (g.id, lowest))
    looped (Compiles.room d free short p a) n = absurd (omega (arith, ap number p, n))
    looped (Compiles.compiled d free enough p a) n = absurd (omega (arith, ap number p, n))

    -- what is known of a text compiled
    record IsCompiled : Type 0 where
      sys : System
      drawable : Drawable s k sys
      free : NoLoop (net_of (table_for s k sys))
      enough : table_room ≤ length before
      replied : r ≡ Ok (length (encode (table_for s k sys)))
      stored : after ≡ encode (table_for s k sys) ++ drop (length (encode (table_for s k sys))) before

    is_compiled : Compiles s k before r after → number r ≡ 0 → IsCompiled
    is_compiled (Compiles.long over p a) n = absurd (omega (arith, ap number p, n))
    is_compiled (Compiles.ungrammatical short none longest p a) n = absurd (omega (arith, ap number p, n))
    is_compiled (Compiles.misnamed typed first p a) n = absurd (omega (arith, ap number p, n))
    is_compiled (Compiles.outside typed named out p a) n = absurd (omega (arith, ap number p, n))
    is_compiled (Compiles.loop d lowest p a) n = absurd (omega (arith, ap number p, n))
    is_compiled (Compiles.room d free short p a) n = absurd (omega (arith, ap number p, n))
    is_compiled (Compiles.compiled {sys = sys} d free enough p a) n =
        record { sys = sys; drawable = d; free = free; enough = enough; replied = p; stored = a }

    untouched : Compiles s k before r after → (number r ≡ 0 → ⊥) → after ≡ before
    untouched (Compiles.long over p a) some = a
    untouched (Compiles.ungrammatical short none longest p a) some = a
    untouched (Compiles.misnamed typed first p a) some = a
    untouched (Compiles.outside typed named out p a) some = a
    untouched (Compiles.loop d lowest p a) some = a
    untouched (Compiles.room d free short p a) some = a
    untouched (Compiles.compiled d free enough p a) some = absurd (some (ap number p))

    forty_one : Compiles s k before r after → NoText s → number r ≡ 41
    forty_one (Compiles.long over p a) no_text = ap number p
    forty_one (Compiles.ungrammatical short none longest p a) no_text = ap number p
    forty_one (Compiles.misnamed typed first p a) no_text = no_text_typed no_text typed
    forty_one (Compiles.outside typed named out p a) no_text = no_text_typed no_text typed
    forty_one (Compiles.loop d lowest p a) no_text = no_text_typed no_text d.typed
    forty_one (Compiles.room d free short p a) no_text = no_text_typed no_text d.typed
    forty_one (Compiles.compiled d free enough p a) no_text = no_text_typed no_text d.typed

    seven : Compiles s k before r after → {sys : System} → Drawable s k sys → Circular s sys → number r ≡ loop_number
    seven compiles d circular =
        let (g, lowest) = (circle_is_loop k d.typed.well_formed d.named d.numbers.k_least).0 circular in
        ap number (compiles_one compiles (Compiles.loop {g = record { id = g }} d lowest refl refl)).0

    zero_of : Compiles s k before r after → {sys : System} → Drawable s k sys → (Circular s sys → ⊥) → table_room ≤ length before → number r ≡ 0
    zero_of compiles d none enough = ap number (compiles_one compiles (Compiles.compiled d (free_of_loops d none) enough refl refl)).0

    module _ (c : IsCompiled) where
      abbrev table : Table
      table = table_for s k c.sys

      abbrev size : ℕ
      size = length (encode table)

      bytes_front : take (place r) after ≡ encode table
      bytes_front = ap (λ (n : ℕ). take n after) (ap place c.replied) ∙ ap (take size) c.stored ∙ front (encode table) before

      bytes_rest : drop (place r) after ≡ drop (place r) before
      bytes_rest =
          ap (λ (n : ℕ). drop n after) (ap place c.replied) ∙ ap (drop size) c.stored ∙ drop_at (encode table) (drop size before) size refl
          ∙ ap (λ (n : ℕ). drop n before) (sym (ap place c.replied))

      bytes_inside : place r ≤ length after
      bytes_inside =
          omega (arith, ap place c.replied, ap (λ (l : List ℕ). length l) c.stored, length-append (encode table) (drop size before))

    replies : Compiles s k before r after → CompilerReplies s k before r after
    replies compiles =
        record {
          one = λ q after' other. compiles_one compiles other;
          refused = λ x. (
            λ refuses.
                let known = refusing refuses in
                let same : r ≡ known.reply = (compiles_one compiles known.compiles).0 in
                (ap said same ∙ known.says, λ zero. known.some (ap (λ (y : ℕ × ℕ). y.0) known.says ∙ zero)),
            λ (is, some). said_refused compiles x is some,
          );
          text = (untyped compiles, forty_one compiles);
          circle = (looped compiles, λ (sys, d, circular). seven compiles d circular);
          compiled = (
            λ n. let c = is_compiled compiles n in (c.sys, c.drawable, free_of_circles c.drawable c.free, c.enough),
            λ (sys, d, none, enough). zero_of compiles d none enough,
          );
          untouched = untouched compiles;
          rest = λ n. bytes_rest (is_compiled compiles n);
        }

-- Tables

-- what is right for a table is right for the equations that it is faithful to
abbrev RightFor : Sheet → Table → Type 0
RightFor sheet t = Right (net_of t) (tables_of t) t.k t.outputs sheet

module _ (s : List ℕ) (k : ℕ) (sys : System) (faithful : Faithful s sys (table_for s k sys)) (sheet : Sheet) where
  answers : RightFor sheet (table_for s k sys) → (setting x : ℕ → Bool) (value : List ℕ → Bool) → ((i : ℕ) → i < length sys.inputs → x i ≡ setting i) →
      ObeysLuts (luts_of sheet.luts) (table_listed sheet.luts) x → Solves s sys setting value →
      (j : ℕ) → j < length sys.outputs → x (get_or (table_for s k sys).outputs j 0) ≡ value (word_at s (get_or sys.outputs j 0))
  unfolding net_of
  answers right setting x value at_inputs obeys solves j low =
      let t = table_for s k sys in
      let (gates, valued) = right.computes.gates_valued setting in
      right.computes.agree setting gates x valued (λ v input. at_inputs v (omega (arith, input, faithful.inputs))) obeys (get_or t.outputs j 0)
      (member_at t.outputs j (omega (arith, low, faithful.outputs)))
      ∙ faithful.computed setting gates value valued solves j low

  serves_here : RightFor sheet (table_for s k sys) → Serves s k sys sheet
  unfolding table_for
  serves_here right = record { right = right; answers = answers right }

  serves : (bytes : List ℕ) → table_of bytes ≡ table_for s k sys → Right (drawn bytes) (tables_of (table_of bytes)) (head_k bytes) (roots_of bytes) sheet →
      Serves s k sys sheet
  serves bytes same right = serves_here (subst (RightFor sheet) same right)

module _ {s : List ℕ} {k : ℕ} {sys : System} (d : Drawable s k sys) (free : NoLoop (net_of (table_for s k sys))) (bytes : List ℕ)
    (same : bytes ≡ encode (table_for s k sys)) where
  faithful : Faithful s sys (table_for s k sys)
  faithful = table_faithful k d.typed.well_formed d.named d.numbers.k_least free

  taken : IsTaken bytes
  taken = subst IsTaken (sym same) (table_taken d.typed d.numbers free)

  reads : table_of bytes ≡ table_for s k sys
  reads = ap table_of same ∙ table_back (table_for s k sys) (table_within d.typed d.numbers)

  mapped : (before : List ℕ) (q : Result ℕ MapError) (after : List ℕ) → Maps bytes before q after → sheet_room ≤ length before →
      (mapping.number q ≡ 0) × Serves s k sys (sheet_in bytes (take (mapping.place q) after))
  mapped before q after maps enough =
      let zero = (demand_1 bytes before q after maps).mapped.1 (taken, enough) in
      let written = demand_2 bytes before q after maps zero in
      let sheet-same : sheet_in bytes (take (mapping.place q) after) ≡ written.sheet = ap (λ (x : Reading). x.sheet) written.read in
      (zero, subst (Serves s k sys) (sym sheet-same) (serves s k sys faithful written.sheet bytes reads written.right))

  table_written : TableWritten s k bytes
  table_written =
      record {
        says = sys;
        drawable = d;
        alone = λ other formed. well_formed_one formed d.typed.well_formed;
        taken = taken;
        table = reads;
        faithful = faithful;
        mapped = mapped;
        inspected = λ sheet depth accepted. serves s k sys faithful (sheet_in bytes sheet) bytes reads (demand_3_right bytes sheet depth accepted).0;
      }

pub demand_equations : DemandEquations
demand_equations s k before r after compiles =
    record {
      replies = replies s k before r after compiles;
      inside = λ n. bytes_inside s k before r after (is_compiled s k before r after compiles n);
      written = λ n.
          let c = is_compiled s k before r after compiles n in
          table_written c.drawable c.free (take (place r) after) (bytes_front s k before r after c);
    }
