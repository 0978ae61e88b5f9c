-- Passes two to four on a sheet that is loaded: the first rule broken is that of the first pass that finds one.
use Rattle.std.specs.Prelude.{Ok, Err}
use Prim.Native.Nat.{ℕ, ◌≤◌, ◌<◌}
use native.Mathlib.Omega.{arith}
use mathlib.Core.Path.{◌≡◌, refl, ap, ◌∙◌, sym, subst}
use mathlib.Core.List.{List, ◌++◌, flat_map, append_assoc}
use lib.ListN.{length, get_or, take}
use Rattle.theory.specs.paper.Net.{Net}
use Rattle.storage.specs.Drawings.{net_in, tables_in}
use Rattle.storage.proofs.Drawings.{drawn_span}
use Rattle.sheet.specs.paper.Sheet.{Sheet}
use Rattle.sheet.specs.paper.Encoding.{narrow}
use Rattle.sheet.specs.paper.Shape.{reading}
use Rattle.sheet.specs.paper.Rules.{Rule, Found, FirstBroken, Keeps, gate_rules, gates, rules_of}
use Rattle.sheet.specs.Arrays.{HoldsLines}
use Rattle.sheet.proofs.Firsts.{first_before, first_after}
use Rattle.shaping.specs.Loading.{LineArrays, LutArrays, LineRoom, LutRoom, Loadable, Loaded}
use Rattle.shaping.proofs.Holding.{holds_lines, holds_places, holds_luts}
use Rattle.judging.specs.Gates.{Judged}
use Rattle.judging.specs.declared.Broken.{Broken}
use Rattle.judging.specs.declared.Broken.TheVariants as broken
use Rattle.judging.specs.Gates.{lined_of, HoldsSheet, JudgeAsked, JudgesHeld, found_of}
use Rattle.inspecting.specs.declared.InspectError.{InspectError}
use Rattle.inspecting.specs.paper.Inspecting.{Inspection, reply_of}
use Rattle.inspecting.specs.Holding.{gate_error, SheetHeld, last_rules, LastAsked, LastRuled, SheetRuled, RulesAsked, due_for}
use Rattle.inspecting.proofs.Sound.{roots_rise, sheet_short}

rules_split : (net : Net) (sheet : Sheet) → rules_of net sheet ≡ flat_map (gate_rules net.inputs sheet.lines) (gates net) ++ last_rules net sheet
rules_split net sheet = simp append_assoc

-- From the bytes into the arrays

module _ {k inputs nodes number : ℕ} {fanins rows outputs order t : List ℕ} (p : RulesAsked k inputs nodes number fanins rows outputs order t)
    (bytes : (i : ℕ) → get_or t i 0 < 256) where
  pub loadable : Loadable (due_for k inputs nodes) t
  loadable =
      record {
        narrow = record { some = omega arith; few = omega arith };
        few = p.laid.drawing.k_small;
        gates = drawn_span p.laid.drawing.drawn;
        nodes = p.laid.drawing.small;
        short = sheet_short (due_for k inputs nodes) t bytes (omega (arith, p.laid.most)) p.sound;
        sound = p.sound;
      }

  -- What the later passes know: a table and a sheet of sound shape, and the arrays hold the sheet.
  module _ {a a' : LineArrays} {b b' : LutArrays} {head : ℕ} (loaded : Loaded (due_for k inputs nodes) t a b head a' b')
      (line_room_lem : LineRoom nodes a) (lut_room_lem : LutRoom nodes b) where
    abbrev net : Net
    net = net_in inputs nodes fanins

    abbrev outs : List ℕ
    outs = take number outputs

    abbrev sheet : Sheet
    sheet = (reading (due_for k inputs nodes) t).sheet

    abbrev Ruled : Inspection → Type 0
    Ruled r = SheetRuled k inputs nodes fanins rows outs t r

    lines_held : HoldsLines inputs nodes sheet.lines a'.labels a'.cuts
    lines_held = holds_lines loadable loaded line_room_lem

    holds_sheet : HoldsSheet k inputs nodes (lined_of narrow a'.labels a'.cuts a'.places t) 191 sheet.lines
    holds_sheet = record { in_arrays = lines_held; in_bytes = holds_places loadable loaded line_room_lem }

    pub judge_asked : {roles : List ℕ} → nodes ≤ length roles →
        JudgeAsked k inputs nodes fanins order (lined_of narrow a'.labels a'.cuts a'.places t) roles
    judge_asked long =
        record { drawing = p.laid.drawing; narrow = omega arith; most = 191; lines = sheet.lines; holds = holds_sheet; roles_long = long }

    sheet_held : SheetHeld inputs nodes a'.labels b'.luts b'.cuts b'.tables head sheet
    sheet_held =
        record {
          label = lines_held.label;
          luts = holds_luts loadable loaded lut_room_lem;
          rise = roots_rise (due_for k inputs nodes) t p.sound;
          depth = loaded.depth;
        }

    pub last_asked : {roles : List ℕ} → nodes ≤ length roles →
        LastAsked k inputs nodes number fanins rows outputs order a'.labels b'.luts b'.cuts b'.tables head roles
    last_asked long = record { laid = p.laid; labels_long = lines_held.labels_long; sheet = sheet; held = sheet_held; roles_long = long }

    module _ (r : Judged) (judges : JudgesHeld k inputs nodes fanins (lined_of narrow a'.labels a'.cuts a'.places t) (gates net) r) where
      first_gates : FirstBroken (Keeps net (tables_in rows) k outs sheet) (flat_map (gate_rules net.inputs sheet.lines) (gates net))
          (found_of net.inputs sheet.lines r)
      first_gates = judges 191 sheet.lines holds_sheet (tables_in rows) outs sheet refl

      -- pass two breaks off
      gates_rule : {rule : Rule} → found_of net.inputs sheet.lines r ≡ Found.broken rule → Ruled (reply_of sheet.depth (Found.broken rule))
      gates_rule {rule} e =
          SheetRuled.ruled p.sound
          (record {
            found = Found.broken rule;
            first = rw (rules_split net sheet) (first_before (last_rules net sheet) (rw e at first_gates));
            reply = refl;
          })

      pub gates_broken : {b : Broken} {e : InspectError} → e ≡ gate_error b → r ≡ Err b → Ruled (Err e)
      gates_broken {b} named e = subst (λ (x : InspectError). Ruled (Err x)) (sym named) (by b e)
        where
          by : (b : Broken) → r ≡ Err b → Ruled (Err (gate_error b))
          by (broken.Cut g) e = gates_rule (ap (found_of net.inputs sheet.lines) e)
          by (broken.Label g) e = gates_rule (ap (found_of net.inputs sheet.lines) e)
          by (broken.Paths g) e = gates_rule (ap (found_of net.inputs sheet.lines) e)

      -- or not
      pub gates_kept : r ≡ Ok tt → {x : Inspection} →
          LastRuled k inputs nodes fanins rows outs a'.labels b'.luts b'.cuts b'.tables head x → Ruled x
      gates_kept e {x} last =
          let right = last.right sheet sheet_held in
          SheetRuled.ruled p.sound
          (record {
            found = right.found;
            first = rw (rules_split net sheet) (first_after (rw e at first_gates) right.first);
            reply = right.reply ∙ ap (λ (d : ℕ). reply_of d right.found) loaded.depth;
          })
