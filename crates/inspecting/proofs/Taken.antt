-- From the table taken to the promise: refusals and loops are the reply; else the arrays hold the table, and what is said of the sheet by the
-- arrays is said of it by the bytes.
use Prim.Native.Nat.{ℕ}
use native.Mathlib.Omega.{arith}
use mathlib.Core.Path.{◌≡◌, refl, ap, sym, subst, ◌∙◌}
use mathlib.Core.List.{List, Memᴰ}
use lib.ListN.{length, take}
use Rattle.std.specs.Prelude.{Err}
use Rattle.storage.specs.declared.Numbers.{Numbers}
use Rattle.storage.specs.Drawings.{net_in, tables_in}
use Rattle.theory.specs.paper.Net.{Net, Gate}
use Rattle.theory.proofs.Cones.{cone_table_same}
use Rattle.drawing.specs.paper.Fields.{head_k, head_i}
use Rattle.drawing.specs.paper.Table.{net_of, tables_of}
use Rattle.drawing.specs.paper.Reading.{found, table_of, nodes_of}
use Rattle.drawing.specs.Reading.{arrays_of}
use Rattle.drawing.proofs.SoundTables.{table_sound}
use Rattle.taking.specs.declared.TakeError.{TakeError}
use Rattle.taking.specs.declared.TakeError.TheVariants as taking
use Rattle.taking.specs.paper.Says.{Taking, Says}
use Rattle.taking.specs.Judged.{Ready}
use Rattle.taking.proofs.Judged.{TakenAs}
use Rattle.sheet.specs.paper.Sheet.{Sheet}
use Rattle.sheet.specs.paper.Rules.{Rule, Keeps, rules_of}
use Rattle.inspecting.specs.declared.InspectError.{InspectError}
use Rattle.inspecting.specs.paper.Inspecting.{Inspection, sheet_in, Inspects}
use Rattle.inspecting.specs.Holding.{take_error, Replies, TableLaid, SheetRuled}
use Rattle.sheet.proofs.Firsts.{first_as}

-- Refusals and loops

pub says_untaken : (t : List ℕ) {s : List ℕ} {u : TakeError} {e : InspectError} → e ≡ take_error u → Says s (Err u) → Inspects s t (Err e)
says_untaken t {s} {u} {e} is said = by said refl
  where
    by : {r : Taking} → Says s r → r ≡ Err u → Inspects s t (Err e)
    by (Says.refused {x = x} faulty) same =
        let z : u ≡ taking.Refused x = cc in subst (λ (y : InspectError). Inspects s t (Err y)) (sym (is ∙ ap take_error z)) (Inspects.refused faulty)
    by (Says.loop {g = g} whole loop) same =
        let z : u ≡ taking.LoopAt g = cc in subst (λ (y : InspectError). Inspects s t (Err y)) (sym (is ∙ ap take_error z)) (Inspects.loop whole loop)
    by (Says.taken _) same = let z : ◌≡◌ {A = ℕ} 0 1 = cc in absurd (omega arith)

-- A table taken

module _ {s fanins rows outputs order : List ℕ} {n : Numbers} (taken : TakenAs s n (arrays_of fanins rows outputs) order) where
  pub table_laid : TableLaid n.k.leaves n.inputs n.nodes n.roots fanins rows outputs order
  table_laid =
      let ready = taken.ready in
      let sound = table_sound s ready.taken.whole in
      subst (λ (m : Numbers). TableLaid m.k.leaves m.inputs m.nodes m.roots fanins rows outputs order) (sym taken.numbers_are)
      (record {
        drawing = ready.drawing;
        most = sound.head.nodes_most;
        rows_long = ready.rows_long;
        outputs_long = ready.outputs_long;
        output_nodes = λ v m. sound.nodes_only v (subst (Memᴰ v) ready.outputs_held m);
      })

-- From arrays to bytes

keeps_tables : {net : Net} {tables tables' : ℕ → ℕ} (k : ℕ) (outputs : List ℕ) (sheet : Sheet) → ((v : ℕ) → Gate net v → tables v ≡ tables' v) →
    (r : Rule) → Keeps net tables k outputs sheet r → Keeps net tables' k outputs sheet r
unfolding Keeps
keeps_tables k outputs sheet same (Rule.cut gate leaves) kept = kept
keeps_tables k outputs sheet same (Rule.label gate) kept = kept
keeps_tables k outputs sheet same (Rule.paths gate) kept = kept
keeps_tables k outputs sheet same (Rule.function lut) kept = cone_table_same same kept
keeps_tables k outputs sheet same (Rule.cover gate) kept = kept
keeps_tables k outputs sheet same Rule.depth kept = kept

-- the first rule broken, for a net, its tables and its outputs
abbrev Said : (s t : List ℕ) → Net → (ℕ → ℕ) → List ℕ → Inspection → Type 0
Said s t net tables outputs r = Replies (Keeps net tables (head_k s) outputs (sheet_in s t)) (rules_of net (sheet_in s t)) (sheet_in s t).depth r

module _ (s t : List ℕ) {fanins rows outputs order : List ℕ} (ready : Ready s fanins rows outputs order) where
  replies_bytes : {r : Inspection} →
      Said s t (net_in (head_i s) (nodes_of s) fanins) (tables_in rows) (take (length (found s).outputs) outputs) r →
      Said s t (net_of (table_of s)) (tables_of (table_of s)) (found s).outputs r
  replies_bytes {r} p =
      let q = subst (λ (net : Net). Said s t net (tables_in rows) (take (length (found s).outputs) outputs) r) ready.net p in
      let q' = subst (λ (outs : List ℕ). Said s t (net_of (table_of s)) (tables_in rows) outs r) ready.outputs_held q in
      let kept = keeps_tables (head_k s) (found s).outputs (sheet_in s t) ready.tables in
      let back = keeps_tables (head_k s) (found s).outputs (sheet_in s t) (λ v gate. sym (ready.tables v gate)) in
      record { found = q'.found; first = first_as kept back q'.first; reply = q'.reply }

  says_sheet : {r : Inspection} → SheetRuled (head_k s) (head_i s) (nodes_of s) fanins rows (take (length (found s).outputs) outputs) t r → Inspects s t r
  says_sheet (SheetRuled.faulty e) = Inspects.faulty ready.taken e
  says_sheet (SheetRuled.ruled sound p) = let q = replies_bytes p in rw q.reply (Inspects.ruled ready.taken sound q.first)

pub says_taken : (t : List ℕ) {s fanins rows outputs order : List ℕ} {n : Numbers} → TakenAs s n (arrays_of fanins rows outputs) order →
    {r : Inspection} → SheetRuled n.k.leaves n.inputs n.nodes fanins rows (take n.roots outputs) t r → Inspects s t r
says_taken t {s} {fanins} {rows} {outputs} taken {r} said =
    says_sheet s t taken.ready
    (subst (λ (m : Numbers). SheetRuled m.k.leaves m.inputs m.nodes fanins rows (take m.roots outputs) t r) taken.numbers_are said)
