-- Passes three and four together, from arrays.
use Prim.Native.Nat.{ℕ, ◌≤◌}
use native.Mathlib.Omega.{arith}
use mathlib.Core.Path.{◌≡◌, refl, ap, subst, ◌∙◌}
use mathlib.Core.Bool.{true}
use mathlib.Core.List.{List, [], ◌∷◌, ◌++◌, map, flat_map, Memᴰ}
use lib.ListN.{length, get_or, take}
use Rattle.theory.specs.paper.Net.{Net}
use Rattle.theory.specs.paper.Lists.{greatest}
use Rattle.theory.specs.paper.Walk.{Cut}
use Rattle.theory.specs.paper.Cover.{Luts}
use Rattle.storage.specs.Entries.{cleared}
use Rattle.storage.specs.Drawings.{net_in, tables_in}
use Rattle.storage.proofs.Clears.{cleared_size}
use Rattle.storage.proofs.Drawings.{drawn_span}
use Rattle.covering.specs.Covers.{luts_in}
use Rattle.sheet.specs.paper.Sheet.{Sheet}
use Rattle.sheet.specs.paper.Rules.{Rule, FirstBroken, Keeps, luts_of, lut_rules, labels_of, gates}
use Rattle.std.specs.Prelude.{⊤, Result, Ok, Err}
use Rattle.weighing.specs.declared.luts.LutFault.{LutFault}
use Rattle.weighing.specs.declared.luts.LutFault.TheVariants as lut-fault
use Rattle.weighing.specs.declared.whole.WholeFault.{WholeFault}
use Rattle.weighing.specs.declared.whole.WholeFault.TheVariants as whole-fault
use Rattle.weighing.specs.PassThree.{LutsRuled, LutsAsked}
use Rattle.weighing.specs.PassFour.{WholeRuled, WholeAsked}
use Rattle.inspecting.specs.declared.InspectError.{InspectError}
use Rattle.inspecting.specs.paper.Inspecting.{Inspection, reply_of}
use Rattle.inspecting.specs.Holding.{lut_error, whole_error, SheetHeld, LastAsked, LastRuled}
use Rattle.sheet.proofs.Firsts.{first_before, first_after}
use Rattle.inspecting.proofs.Listed.{luts_held, luts_laid, listed_below}
use Rattle.inspecting.proofs.Passes.{found_luts, luts_found, found_whole, whole_found, luts_chosen}

-- labels that agree at the nodes have the same greatest over outputs
greatest_same : (a b : ℕ → ℕ) (vs : List ℕ) → ((v : ℕ) → Memᴰ v vs → a v ≡ b v) → greatest (map a vs) ≡ greatest (map b vs)
unfolding greatest
greatest_same a b [] each = refl
greatest_same a b (v ∷ vs) each = rw (each v (Memᴰ.head refl), greatest_same a b vs (λ u m. each u (Memᴰ.tail m)))

module _ {k inputs nodes number : ℕ} {fanins rows outputs order labels roots cuts tables : List ℕ} {head : ℕ} {roles : List ℕ}
    (p : LastAsked k inputs nodes number fanins rows outputs order labels roots cuts tables head roles) where
  pub luts_asked : {values : List ℕ} → nodes ≤ length values → LutsAsked inputs nodes k fanins rows order roots cuts tables roles values
  luts_asked room =
      record {
        drawing = p.laid.drawing;
        laid = luts_laid p.held.rise p.held.luts;
        rows_long = p.laid.rows_long;
        tables_long = p.held.luts.tables_long;
        roles_long = p.roles_long;
        values_long = room;
      }

  abbrev net : Net
  net = net_in inputs nodes fanins

  abbrev outs : List ℕ
  outs = take number outputs

  -- what pass three says, what pass four says, and what both say
  abbrev Third : Result ⊤ LutFault → Type 0
  Third r = LutsRuled net (tables_in rows) k (luts_in inputs nodes cuts roots) (tables_in tables) r

  abbrev Fourth : Result ⊤ WholeFault → Type 0
  Fourth r = WholeRuled (net_in inputs nodes cuts) outs (luts_in inputs nodes cuts roots) (λ v. get_or labels v 0) head r

  abbrev Both : Inspection → Type 0
  Both r = LastRuled k inputs nodes fanins rows outs labels roots cuts tables head r

  module _ (sheet : Sheet) (h : SheetHeld inputs nodes labels roots cuts tables head sheet) where
    ruled_luts : {r : Result ⊤ LutFault} → Third r → LutsRuled net (tables_in rows) k (luts_of sheet.luts) (tables_in tables) r
    ruled_luts {r} ruled = subst (λ (l : Luts). LutsRuled net (tables_in rows) k l (tables_in tables) r) (luts_held h.rise h.luts) ruled

    first_luts : {r : Result ⊤ LutFault} → Third r → FirstBroken (Keeps net (tables_in rows) k outs sheet) (flat_map lut_rules sheet.luts) (found_luts sheet.luts r)
    first_luts ruled =
        luts_found net (tables_in rows) k outs sheet sheet.luts h.rise (tables_in tables)
        (λ v at. h.luts.table v (listed_below h.rise v at)) (ruled_luts ruled)

    labels_same : greatest (map (λ v. get_or labels v 0) outs) ≡ greatest (map (labels_of net.inputs sheet.lines) outs)
    unfolding net_in
    labels_same = greatest_same (λ v. get_or labels v 0) (labels_of inputs sheet.lines) outs (λ v m. h.label v (p.laid.output_nodes v m))

    first_whole : {r : Result ⊤ WholeFault} → Fourth r →
        FirstBroken (Keeps net (tables_in rows) k outs sheet) (map Rule.cover (gates net) ++ (Rule.depth ∷ [])) (found_whole r)
    unfolding net_in
    first_whole {r} ruled =
        let held = subst (λ (l : Luts). WholeRuled (net_in inputs nodes cuts) outs l (λ v. get_or labels v 0) head r) (luts_held h.rise h.luts) ruled in
        let deep = subst (λ (d : ℕ). WholeRuled (net_in inputs nodes cuts) outs (luts_of sheet.luts) (λ v. get_or labels v 0) d r) h.depth held in
        whole_found net (net_in inputs nodes cuts) (tables_in rows) k outs sheet (drawn_span p.laid.drawing.drawn) refl refl (λ v. get_or labels v 0)
        labels_same deep

  -- Pass three breaks off

  abbrev rest : List Rule
  rest = map Rule.cover (gates net) ++ (Rule.depth ∷ [])

  pub last_luts : {f : LutFault} {e : InspectError} → e ≡ lut_error f → Third (Err f) → Both (Err e)
  last_luts {f = lut-fault.Cut g} is ruled =
      record {
        right =
            λ sheet h.
            record { found = found_luts sheet.luts (Err (lut-fault.Cut g)); first = first_before rest (first_luts sheet h ruled); reply = ap Err is };
      }
  last_luts {f = lut-fault.Function g} is ruled =
      record {
        right =
            λ sheet h.
            record { found = found_luts sheet.luts (Err (lut-fault.Function g)); first = first_before rest (first_luts sheet h ruled); reply = ap Err is };
      }

  -- It does not

  module _ (kept : Third (Ok tt)) where
    cuts_of : {luts : Luts} → LutsRuled net (tables_in rows) k luts (tables_in tables) (Ok tt) → (r : ℕ) → luts.root r ≡ true →
        Cut net k r (luts.leaves r)
    cuts_of (LutsRuled.kept each) r at = (each r at).cut

    pub whole_asked : {wanted depths : List ℕ} → wanted ≡ cleared nodes roles → nodes ≤ length depths →
        WholeAsked inputs nodes order roots cuts outputs number labels wanted depths
    whole_asked clear depths_long =
        let laid = luts_laid p.held.rise p.held.luts in
        record {
          chosen =
              luts_chosen p.sheet.luts p.laid.drawing laid (luts_held p.held.rise p.held.luts)
              (cuts_of (ruled_luts p.sheet p.held kept));
          small = p.laid.drawing.small;
          marks = laid.marks;
          gates = laid.gates;
          outputs_long = p.laid.outputs_long;
          output_nodes = p.laid.output_nodes;
          labels_long = p.labels_long;
          wanted_long = omega (arith, p.roles_long, ap (λ (l : List ℕ). length l) clear, cleared_size nodes roles p.roles_long);
          depths_long = depths_long;
        }

    pub last_whole : {r : Result ⊤ WholeFault} {reply : Inspection} → reply ≡ reply_of head (found_whole r) → Fourth r → Both reply
    last_whole {r} e ruled =
        record { right = λ sheet h. record { found = found_whole r; first = first_after (first_luts sheet h kept) (first_whole sheet h ruled); reply = e } }

    -- pass four breaks off
    pub last_broken : {f : WholeFault} {e : InspectError} → e ≡ whole_error f → Fourth (Err f) → Both (Err e)
    last_broken {f} is ruled = last_whole (ap Err is ∙ whole_reply f) ruled
      where
        whole_reply : (f : WholeFault) → Err (whole_error f) ≡ reply_of head (found_whole (Err f))
        whole_reply (whole-fault.Cover g) = refl
        whole_reply whole-fault.Depth = refl
