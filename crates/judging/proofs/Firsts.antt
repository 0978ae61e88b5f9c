-- The first rule that is not kept, gate by gate.
use Rattle.std.specs.Prelude.{Ok, Err}
use Prim.Native.Nat.{ℕ}
use mathlib.Core.Path.{◌≡◌, refl, sym, subst}
use mathlib.Core.List.{List, [], ◌∷◌, flat_map}
use Rattle.storage.specs.declared.Node.{Node}
use Rattle.theory.specs.paper.Net.{Net}
use Rattle.theory.specs.paper.Walk.{Cut}
use Rattle.sheet.specs.paper.Sheet.{Line, Lut}
use Rattle.sheet.specs.paper.Rules.{FirstBroken, Keeps, LabelKept, PathsKept, labels_of, line_of_node, gate_rules}
use Rattle.sheet.proofs.Firsts.{first_before, first_after}
use Rattle.judging.specs.Gates.{Judged}
use Rattle.judging.specs.declared.Broken.TheVariants as broken
use Rattle.judging.specs.Gates.{Judges, found_of}

-- One gate

module _ (net : Net) (k : ℕ) (lines : List Line) (node : Node) where
  abbrev CutHere : Type 0
  CutHere = Cut net k node.id (line_of_node net.inputs lines node.id).leaves

  abbrev LabelHere : Type 0
  LabelHere = LabelKept net (labels_of net.inputs lines) (line_of_node net.inputs lines node.id).leaves node.id

  abbrev PathsHere : Type 0
  PathsHere = PathsKept net k (labels_of net.inputs lines) node.id (line_of_node net.inputs lines node.id).paths

  -- the rules of a sheet with these lines
  at_lines : (r : Judged) →
      ((tables : ℕ → ℕ) (outputs : List ℕ) (depth : ℕ) (luts : List Lut) →
      FirstBroken (Keeps net tables k outputs (record { depth = depth; lines = lines; luts = luts })) (flat_map (gate_rules net.inputs lines) (node.id ∷ []))
      (found_of net.inputs lines r)) →
      Judges net k lines (node.id ∷ []) r
  at_lines r first tables outputs sheet e =
      subst
      (λ (ls : List Line).
      FirstBroken (Keeps net tables k outputs (record { depth = sheet.depth; lines = ls; luts = sheet.luts }))
      (flat_map (gate_rules net.inputs lines) (node.id ∷ [])) (found_of net.inputs lines r))
      (sym e) (first tables outputs sheet.depth sheet.luts)

  pub cut_broken : (CutHere → ⊥) → Judges net k lines (node.id ∷ []) (Err (broken.Cut node))
  unfolding flat_map Keeps
  cut_broken none = at_lines (Err (broken.Cut node)) (λ tables outputs depth luts. FirstBroken.here none)

  pub label_broken : CutHere → (LabelHere → ⊥) → Judges net k lines (node.id ∷ []) (Err (broken.Label node))
  unfolding flat_map Keeps
  label_broken cut none = at_lines (Err (broken.Label node)) (λ tables outputs depth luts. FirstBroken.later cut (FirstBroken.here none))

  pub paths_broken : CutHere → LabelHere → (PathsHere → ⊥) → Judges net k lines (node.id ∷ []) (Err (broken.Paths node))
  unfolding flat_map Keeps
  paths_broken cut label none = at_lines (Err (broken.Paths node)) (λ tables outputs depth luts. FirstBroken.later cut (FirstBroken.later label (FirstBroken.here none)))

  pub gate_kept : CutHere → LabelHere → PathsHere → Judges net k lines (node.id ∷ []) (Ok tt)
  unfolding flat_map Keeps
  gate_kept cut label paths =
      at_lines (Ok tt) (λ tables outputs depth luts. FirstBroken.later cut (FirstBroken.later label (FirstBroken.later paths FirstBroken.kept)))

-- One gate after the other

module _ (net : Net) (k : ℕ) (lines : List Line) where
  pub none_judged : Judges net k lines [] (Ok tt)
  unfolding flat_map
  none_judged tables outputs sheet e = FirstBroken.kept

  pub kept_first : (t : ℕ) (ts : List ℕ) (r : Judged) → Judges net k lines (t ∷ []) (Ok tt) → Judges net k lines ts r → Judges net k lines (t ∷ ts) r
  unfolding flat_map
  kept_first t ts r here later tables outputs sheet e = first_after (here tables outputs sheet e) (later tables outputs sheet e)

  pub broken_first : (t : ℕ) (ts : List ℕ) (r : Judged) → (r ≡ Ok tt → ⊥) → Judges net k lines (t ∷ []) r → Judges net k lines (t ∷ ts) r
  unfolding flat_map
  broken_first t ts (Ok tt) not-kept here = absurd (not-kept refl)
  broken_first t ts (Err (broken.Cut gate)) not-kept here = λ tables outputs sheet e. first_before (flat_map (gate_rules net.inputs lines) ts) (here tables outputs sheet e)
  broken_first t ts (Err (broken.Label gate)) not-kept here = λ tables outputs sheet e. first_before (flat_map (gate_rules net.inputs lines) ts) (here tables outputs sheet e)
  broken_first t ts (Err (broken.Paths gate)) not-kept here = λ tables outputs sheet e. first_before (flat_map (gate_rules net.inputs lines) ts) (here tables outputs sheet e)
