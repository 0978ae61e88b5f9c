-- `find_evidence` meets its contract: the probe of a gate that owes evidence shows paths.
use native.Mathlib.Omega.{arith}
use Rattle.labelling.proofs.Evidences.{evidence_fed, evidence_asked, evidence_found}
use Rattle.labelling.proofs.evidence.find_evidence.Goals as goal

pub peak-p-requires : goal.peak-p-requires
peak-p-requires c =
    evidence_fed c.requires

pub probe_gate-requires : goal.probe_gate-requires
probe_gate-requires c =
    evidence_asked c.requires _ c.peak-p.ensures (omega arith)

pub returns : goal.returns
returns c =
    evidence_found c.requires c.probe_gate.ensures c.fill.ensures
