-- Evidence of a gate that owes it: no cut lies outside D, or the label would be p; so the probe shows paths.
use Prim.Native.Nat.{ℕ, ◌≤◌, ◌<◌}
use mathlib.Core.Path.{◌≡◌, ◌∙◌}
use mathlib.Core.List.{List, []}
use lib.ListN.{length}
use Rattle.storage.specs.Drawings.{net_in, Fed}
use Rattle.storage.specs.Entries.{cleared}
use Rattle.storage.proofs.Clears.{cleared_used}
use Rattle.storage.proofs.Drawings.{fed_in}
use Rattle.theory.specs.paper.Sound.{Ranked}
use Rattle.theory.proofs.FlowMap.{labels_never_fall}
use Rattle.area.specs.Area.{label_in, PeakIn}
use Rattle.std.specs.Prelude.{Option}
use Rattle.storage.specs.declared.CutSize.{CutSize}
use Rattle.labelling.specs.Evidence.{TrueLabel, EvidenceAsked, EvidenceFound}
use Rattle.labelling.specs.Probing.{ProbeAsked, Shown, GateProbed}
use Rattle.labelling.proofs.Owed.{owes_no_cut, by_order}

module _ {inputs nodes k : ℕ} {fanins order labels : List ℕ} {t : ℕ} {roles₀ links₀ : List ℕ}
    (asked : EvidenceAsked inputs nodes k fanins order labels t roles₀ links₀) where
  node_here : t < nodes
  unfolding net_in
  node_here = asked.gate.below

  ranked : Ranked (net_in inputs nodes fanins)
  ranked = by_order asked.drawing

  true_here : (v : ℕ) → v < (net_in inputs nodes fanins).nodes → TrueLabel (net_in inputs nodes fanins) k v (label_in labels v)
  unfolding net_in
  true_here = asked.labelled

  -- what `peak` asks
  pub evidence_fed : Fed fanins t (length labels)
  evidence_fed = fed_in asked.drawing.drawn t node_here (length labels) asked.labels_long

  -- what `probe_gate` asks
  pub evidence_asked : {p : ℕ} (cut : List ℕ) → PeakIn fanins t labels p → 6 ≤ length cut →
      ProbeAsked inputs nodes k fanins order t p labels roles₀ links₀ cut
  evidence_asked cut known room =
      record {
        drawing = asked.drawing;
        gate = asked.gate;
        peak_known = known inputs nodes node_here;
        never_falls =
            labels_never_fall {outputs = []} {lab = label_in labels} asked.drawing.drawn.bounded ranked
            (λ v node. true_here v node []) asked.gate.below;
        labels_long = asked.labels_long;
        roles_long = asked.roles_long;
        links_long = asked.links_long;
        cut_long = room;
      }

  pub evidence_found : {r : Option CutSize} {cut cut' roles links roles' : List ℕ} →
      GateProbed inputs nodes k fanins t labels roles₀ links₀ cut r roles links cut' → roles' ≡ cleared nodes roles →
      EvidenceFound inputs nodes k fanins labels t roles₀ links₀ roles' links
  evidence_found {r} {cut} {cut'} {roles} {links} {roles'} probed clear = by_show probed.shown
    where
      by_show : Shown inputs nodes k fanins t labels links₀ cut r links cut' →
          EvidenceFound inputs nodes k fanins labels t roles₀ links₀ roles' links
      by_show (Shown.paths _ evidence true-links left _) =
          record { evidence = evidence; links = true-links; left = left; roles_clear = clear ∙ cleared_used nodes probed.roles_used }
      by_show (Shown.least _ _ _ _ least _) =
          absurd (owes_no_cut asked.drawing.drawn.bounded ranked true_here asked.gate asked.owes least)
