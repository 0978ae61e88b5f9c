-- 28 from arrays: the marks are at the gates wanted, and where they agree with the luts the rule is kept.
use Prim.Native.Nat.{ℕ, ◌+◌, ◌*◌, ◌≤◌, ◌<◌}
use native.Mathlib.Decide.{ℕ_discrete}
use native.Mathlib.Nat.{zero-add}
use native.Mathlib.Omega.{arith}
use mathlib.Core.Path.{◌≡◌, ap, sym, subst, ◌∙◌}
use mathlib.Core.Bool.{true}
use mathlib.Core.Logic.{◌⊎◌, inl, inr, ⊎_elim}
use mathlib.Core.List.{List, Memᴰ}
use lib.ListN.{length, get_or, take, drop, length-drop}
use lib.Seq.{get_or-drop}
use Rattle.std.specs.Prelude.{Option}
use Rattle.storage.specs.declared.Node.{Node}
use Rattle.storage.specs.Entries.{cleared, Beyond}
use Rattle.storage.specs.Marks.{Marks}
use Rattle.storage.specs.Lists.{size_at, entry_at, list_at}
use Rattle.storage.specs.Drawings.{net_in}
use Rattle.storage.proofs.Entries.{member_of_part, part_place}
use Rattle.storage.proofs.Clears.{cleared_low, cleared_beyond, cleared_used, beyond_same, beyond_then}
use Rattle.storage.proofs.InLists.{list_member}
use Rattle.storage.proofs.Drawings.{fanins_in, gate_of_lem, gate_above, gate_below}
use Rattle.theory.specs.paper.Net.{Gate}
use Rattle.theory.specs.paper.Cover.{Luts, Wanted}
use Rattle.covering.specs.Covers.{luts_in, GatesFit, GateAmong, GatesMarked, LeavesFit, LeavesMarked, MarksFit}
use Rattle.covering.proofs.Marking.{marked_beyond}
use Rattle.covering.proofs.Covered.{root_marked, marked_root}
use Rattle.sheet.specs.paper.Rules.{CoverKept}
use Rattle.weighing.specs.PassFour.{CoverRuled, CoverAsked, GateWanted, WantedMarked, Compared, CoverTold}

-- Marks that grow

module _ {nodes : ℕ} where
  marks_none : (before : List ℕ) {after : List ℕ} → nodes ≤ length before → after ≡ cleared nodes before → Marks nodes (λ _. ⊥) after
  marks_none before {after} long e =
      record { bit = λ v low. inl (zero_at v low); holds = λ v low one. omega (arith, zero_at v low); marked = λ v low none. absurd none }
    where
      zero_at : (v : ℕ) → v < nodes → get_or after v 0 ≡ 0
      zero_at v low = rw e (cleared_low nodes before long v low)

  marks_as : {P Q : ℕ → Type 0} {marks : List ℕ} → ((v : ℕ) → v < nodes → P v → Q v) → ((v : ℕ) → v < nodes → Q v → P v) → Marks nodes P marks → Marks nodes Q marks
  marks_as to back m = record { bit = m.bit; holds = λ v low one. to v low (m.holds v low one); marked = λ v low q. m.marked v low (back v low q) }

module _ (ids : List ℕ) (at many inputs : ℕ) where
  among_member : at + many ≤ length ids → {v : ℕ} → GateAmong ids at many inputs v → Memᴰ v (take many (drop at ids))
  among_member inside {v} a =
      subst (λ (w : ℕ). Memᴰ w (take many (drop at ids))) (get_or-drop at ids a.place 0 ∙ a.there)
      (member_of_part many (drop at ids) a.place a.low (simp length-drop (omega (arith, a.low))))

  member_among : {v : ℕ} → inputs ≤ v → Memᴰ v (take many (drop at ids)) → GateAmong ids at many inputs v
  member_among gate m =
      let p = part_place many (drop at ids) m in
      record { place = p.at; low = p.low; there = sym (get_or-drop at ids p.at 0) ∙ p.entry; gate = gate }

  module _ {nodes : ℕ} {P : ℕ → Type 0} {before after : List ℕ} (marks : Marks nodes P before) (more : GatesMarked ids at many inputs before after) where
    marks_more : Marks nodes (λ v. P v ⊎ GateAmong ids at many inputs v) after
    marks_more = record { bit = λ v low. bit v low (more.others v); holds = λ v low one. holds v low one (more.others v); marked = λ v low. marked v low (more.others v) }
      where
        Either : ℕ → Type 0
        Either v = (get_or after v 0 ≡ get_or before v 0) ⊎ GateAmong ids at many inputs v

        bit : (v : ℕ) → v < nodes → Either v → (get_or after v 0 ≡ 0) ⊎ (get_or after v 0 ≡ 1)
        bit v low (inl e) = ⊎_elim (λ (z : get_or before v 0 ≡ 0). inl (e ∙ z)) (λ (o : get_or before v 0 ≡ 1). inr (e ∙ o)) (marks.bit v low)
        bit v low (inr a) = inr (more.marked v a)

        holds : (v : ℕ) → v < nodes → get_or after v 0 ≡ 1 → Either v → P v ⊎ GateAmong ids at many inputs v
        holds v low one (inl e) = inl (marks.holds v low (sym e ∙ one))
        holds v low one (inr a) = inr a

        marked : (v : ℕ) → v < nodes → Either v → P v ⊎ GateAmong ids at many inputs v → get_or after v 0 ≡ 1
        marked v low e (inr a) = more.marked v a
        marked v low (inr a) (inl p) = more.marked v a
        marked v low (inl e) (inl p) = e ∙ marks.marked v low p

-- The outputs, then the leaves of one LUT after the other

-- a gate that is an output, or a leaf of a root below `upto`
pub data WantedBelow (inputs : ℕ) (outputs : List ℕ) (luts : Luts) (upto v : ℕ) : Type 0 where
  output : inputs ≤ v → Memᴰ v outputs → WantedBelow inputs outputs luts upto v
  leaf : inputs ≤ v → (r : ℕ) → r < upto → luts.root r ≡ true → Memᴰ v (luts.leaves r) → WantedBelow inputs outputs luts upto v

pub record WantedUpto (inputs nodes : ℕ) (luts cuts outputs before : List ℕ) (v : ℕ) (after : List ℕ) : Type 0 where
  pub marks : Marks nodes (WantedBelow inputs outputs (luts_in inputs nodes cuts luts) v) after
  pub rest : Beyond nodes before after

module _ {inputs nodes : ℕ} {luts cuts outputs : List ℕ} {number room : ℕ} (p : CoverAsked inputs nodes luts cuts outputs number room) where
  outputs_inside : 0 + number ≤ length outputs
  outputs_inside = omega (arith, p.outputs_long)

  pub outputs_fit : GatesFit outputs 0 number room
  outputs_fit =
      record {
        inside = outputs_inside;
        nodes = λ i low.
            let low_node = p.output_nodes (get_or outputs i 0) (member_of_part number outputs i low (omega (arith, p.outputs_long))) in
            rw (zero-add i) (omega (arith, p.wanted_long));
      }

  pub wanted_begin : (before : List ℕ) {clean after : List ℕ} → length before ≡ room → clean ≡ cleared nodes before →
      GatesMarked outputs 0 number inputs clean after → WantedUpto inputs nodes luts cuts (take number outputs) after inputs after
  wanted_begin before {clean} {after} long e more =
      record {
        marks = marks_as to back (marks_more outputs 0 number inputs (marks_none before (omega (arith, p.wanted_long)) e) more);
        rest = beyond_same nodes after;
      }
    where
      to : (v : ℕ) → v < nodes → ⊥ ⊎ GateAmong outputs 0 number inputs v → WantedBelow inputs (take number outputs) (luts_in inputs nodes cuts luts) inputs v
      to v low (inl none) = absurd none
      to v low (inr a) = WantedBelow.output a.gate (among_member outputs 0 number inputs outputs_inside a)

      back : (v : ℕ) → v < nodes → WantedBelow inputs (take number outputs) (luts_in inputs nodes cuts luts) inputs v → ⊥ ⊎ GateAmong outputs 0 number inputs v
      back v low (WantedBelow.output gate m) = inr (member_among outputs 0 number inputs gate m)
      back v low (WantedBelow.leaf gate r less at m) = absurd (omega (arith, p.gates r at))

  module _ {v : ℕ} (above : inputs ≤ v) (below : v < nodes) where
    gate_at_lem : Gate (net_in inputs nodes cuts) v
    gate_at_lem = gate_of_lem inputs nodes cuts above below

    leaves_at : (net_in inputs nodes cuts).fanins v ≡ list_at cuts v
    leaves_at = fanins_in inputs nodes cuts v below

    leaf_node : (u : ℕ) → Memᴰ u (list_at cuts v) → u < nodes
    leaf_node u m = p.leaf_nodes v gate_at_lem u (rw leaves_at m)

    few : size_at cuts v ≤ 6
    few = p.six v gate_at_lem

    places : 7 * v + 7 ≤ length cuts
    places = omega (arith, p.cuts_long)

    inside : 7 * v + 1 + size_at cuts v ≤ length cuts
    inside = omega (arith, places, few)

    pub leaves_fit : LeavesFit cuts v room
    leaves_fit =
        record {
          inside = inside;
          nodes = λ i low. omega (arith, leaf_node (entry_at cuts v i) (list_member cuts v places few i low), p.wanted_long);
        }

    module _ {before now : List ℕ} (so_far : WantedUpto inputs nodes luts cuts (take number outputs) before v now) where
      abbrev Before : ℕ → Type 0
      Before u = WantedBelow inputs (take number outputs) (luts_in inputs nodes cuts luts) v u

      abbrev After : ℕ → Type 0
      After u = WantedBelow inputs (take number outputs) (luts_in inputs nodes cuts luts) (v + 1) u

      widen : (u : ℕ) → Before u → After u
      widen u (WantedBelow.output gate m) = WantedBelow.output gate m
      widen u (WantedBelow.leaf gate r less at m) = WantedBelow.leaf gate r (omega arith) at m

      pub wanted_root : {after : List ℕ} → get_or luts v 0 ≡ 1 → LeavesMarked cuts v inputs now after →
          WantedUpto inputs nodes luts cuts (take number outputs) before (v + 1) after
      wanted_root one more =
          record {
            marks = marks_as to back (marks_more cuts (7 * v + 1) (size_at cuts v) inputs so_far.marks more);
            rest = beyond_then so_far.rest (marked_beyond more (λ u a. leaf_node u (among_member cuts (7 * v + 1) (size_at cuts v) inputs inside a)));
          }
        where
          to : (u : ℕ) → u < nodes → Before u ⊎ GateAmong cuts (7 * v + 1) (size_at cuts v) inputs u → After u
          to u low (inl w) = widen u w
          to u low (inr a) =
              WantedBelow.leaf a.gate v (omega arith) (marked_root nodes luts v below one)
              (rw leaves_at (among_member cuts (7 * v + 1) (size_at cuts v) inputs inside a))

          back : (u : ℕ) → u < nodes → After u → Before u ⊎ GateAmong cuts (7 * v + 1) (size_at cuts v) inputs u
          back u low (WantedBelow.output gate m) = inl (WantedBelow.output gate m)
          back u low (WantedBelow.leaf gate r less at m) = here (ℕ_discrete r v)
            where
              here : Dec (r ≡ v) → Before u ⊎ GateAmong cuts (7 * v + 1) (size_at cuts v) inputs u
              here (yes e) =
                  let m' = subst (λ (w : ℕ). Memᴰ u ((net_in inputs nodes cuts).fanins w)) e m in
                  inr (member_among cuts (7 * v + 1) (size_at cuts v) inputs gate (rw leaves_at at m'))
              here (no apart) = inl (WantedBelow.leaf gate r (omega arith) at m)

      pub wanted_other : (get_or luts v 0 ≡ 1 → ⊥) → WantedUpto inputs nodes luts cuts (take number outputs) before (v + 1) now
      wanted_other other =
          record {
            marks = marks_as (λ u low. widen u) back so_far.marks;
            rest = so_far.rest;
          }
        where
          back : (u : ℕ) → u < nodes → After u → Before u
          back u low (WantedBelow.output gate m) = WantedBelow.output gate m
          back u low (WantedBelow.leaf gate r less at m) = here (ℕ_discrete r v)
            where
              here : Dec (r ≡ v) → Before u
              here (yes e) = absurd (other (ap (λ (w : ℕ). get_or luts w 0) (sym e) ∙ (root_marked nodes luts r at).1))
              here (no apart) = WantedBelow.leaf gate r (omega arith) at m

  pub wanted_all : (before : List ℕ) {clean begun after : List ℕ} {v : ℕ} → length before ≡ room → clean ≡ cleared nodes before →
      GatesMarked outputs 0 number inputs clean begun → nodes ≤ v → WantedUpto inputs nodes luts cuts (take number outputs) begun v after →
      WantedMarked inputs nodes luts cuts (take number outputs) before after
  wanted_all before {clean} {v = v} long e more all w =
      let wiped : Beyond nodes before clean = rw e (cleared_beyond nodes before (omega (arith, p.wanted_long))) in
      let outputs-marked = marked_beyond more (λ u a. p.output_nodes u (among_member outputs 0 number inputs outputs_inside a)) in
      record { marks = marks_as to back w.marks; rest = beyond_then wiped (beyond_then outputs-marked w.rest) }
    where
      to : (u : ℕ) → u < nodes → WantedBelow inputs (take number outputs) (luts_in inputs nodes cuts luts) v u →
          GateWanted inputs (take number outputs) (luts_in inputs nodes cuts luts) u
      to u low (WantedBelow.output gate m) = record { gate = gate; wanted = Wanted.output m }
      to u low (WantedBelow.leaf gate r less at m) = record { gate = gate; wanted = Wanted.leaf r at m }

      back : (u : ℕ) → u < nodes → GateWanted inputs (take number outputs) (luts_in inputs nodes cuts luts) u →
          WantedBelow inputs (take number outputs) (luts_in inputs nodes cuts luts) v u
      back u low g = by g.wanted
        where
          by : Wanted (take number outputs) (luts_in inputs nodes cuts luts) u → WantedBelow inputs (take number outputs) (luts_in inputs nodes cuts luts) v u
          by (Wanted.output m) = WantedBelow.output g.gate m
          by (Wanted.leaf r at m) = WantedBelow.leaf g.gate r (omega (arith, (root_marked nodes luts r at).0)) at m

-- Marks against luts

-- the gates below v are marked exactly if they are luts
abbrev pub SameBelow : (inputs : ℕ) (luts wanted : List ℕ) → ℕ → Type 0
SameBelow inputs luts wanted v = (w : ℕ) → inputs ≤ w → w < v → get_or luts w 0 ≡ get_or wanted w 0

pub same_more : (inputs : ℕ) (luts wanted : List ℕ) (v : ℕ) → SameBelow inputs luts wanted v → get_or luts v 0 ≡ get_or wanted v 0 → SameBelow inputs luts wanted (v + 1)
same_more inputs luts wanted v so_far here w above low = by (ℕ_discrete w v)
  where
    by : Dec (w ≡ v) → get_or luts w 0 ≡ get_or wanted w 0
    by (yes e) = rw e here
    by (no apart) = so_far w above (omega arith)

module _ (inputs nodes : ℕ) (luts cuts outputs wanted : List ℕ) (fit : MarksFit luts nodes)
    (marks : Marks nodes (GateWanted inputs outputs (luts_in inputs nodes cuts luts)) wanted) (v : ℕ) (above : inputs ≤ v) (below : v < nodes) where
  agreed : get_or luts v 0 ≡ get_or wanted v 0 → CoverKept outputs (luts_in inputs nodes cuts luts) v
  agreed same =
      record {
        wanted = λ w. marked_root nodes luts v below (same ∙ marks.marked v below (record { gate = above; wanted = w }));
        root = λ at. (marks.holds v below (sym same ∙ (root_marked nodes luts v at).1)).wanted;
      }

  differed : (get_or luts v 0 ≡ get_or wanted v 0 → ⊥) → CoverKept outputs (luts_in inputs nodes cuts luts) v → ⊥
  differed other kept = by (fit.bits v below) (marks.bit v below)
    where
      by : (get_or luts v 0 ≡ 0) ⊎ (get_or luts v 0 ≡ 1) → (get_or wanted v 0 ≡ 0) ⊎ (get_or wanted v 0 ≡ 1) → ⊥
      by (inl a) (inl b) = other (a ∙ sym b)
      by (inr a) (inr b) = other (a ∙ sym b)
      by (inl a) (inr b) = let one = (root_marked nodes luts v (kept.wanted (marks.holds v below b).wanted)).1 in omega arith
      by (inr a) (inl b) = let one = marks.marked v below (record { gate = above; wanted = kept.root (marked_root nodes luts v below a) }) in omega arith

cover_ruled : (inputs nodes : ℕ) (luts cuts outputs wanted : List ℕ) → MarksFit luts nodes →
    Marks nodes (GateWanted inputs outputs (luts_in inputs nodes cuts luts)) wanted → {r : Option Node} → Compared inputs nodes luts wanted r →
    CoverRuled (net_in inputs nodes cuts) outputs (luts_in inputs nodes cuts luts) r
cover_ruled inputs nodes luts cuts outputs wanted fit marks (Compared.same each) =
    CoverRuled.kept
    (λ g gate.
    let above = gate_above inputs nodes cuts gate in
    let below = gate_below inputs nodes cuts gate in
    agreed inputs nodes luts cuts outputs wanted fit marks g above below (each g above below))
cover_ruled inputs nodes luts cuts outputs wanted fit marks (Compared.differ {v = v} above below each other) =
    CoverRuled.cover (gate_of_lem inputs nodes cuts above below)
    (λ g gate less.
    let high = gate_above inputs nodes cuts gate in
    agreed inputs nodes luts cuts outputs wanted fit marks g high (gate_below inputs nodes cuts gate) (each g high less))
    (differed inputs nodes luts cuts outputs wanted fit marks v above below other)

pub cover_told : {inputs nodes : ℕ} {luts cuts outputs : List ℕ} {number room : ℕ} → CoverAsked inputs nodes luts cuts outputs number room →
    {before wanted after : List ℕ} {r : Option Node} → WantedMarked inputs nodes luts cuts (take number outputs) before wanted →
    Compared inputs nodes luts wanted r → after ≡ cleared nodes wanted → CoverTold inputs nodes luts cuts (take number outputs) before r after
cover_told {inputs} {nodes} {luts} {cuts} {outputs} {number} p {wanted = wanted} marked compared last =
    record {
      reply = cover_ruled inputs nodes luts cuts (take number outputs) wanted p.marks marked.marks compared;
      clear = last ∙ cleared_used nodes marked.rest;
    }
