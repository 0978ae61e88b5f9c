-- `write_line` meets its contract: without paths where no evidence is due, else with those that were found.
use native.Mathlib.Omega.{arith}
use mathlib.Core.List.{[]}
use Rattle.sheet.specs.Longest.{Backed}
use Rattle.mapping.proofs.LinesWritten.{owes_so, owes_not, gate_low, line_fed, cut_places, cut_asked}
use Rattle.mapping.proofs.LinesWritten.{bare_written, proven_written, evidence_asked, proven_asked}
use Rattle.mapping.proofs.lines.write_line.Goals as goal

pub list_at-leaves-requires : goal.list_at-leaves-requires
list_at-leaves-requires c =
    let places = cut_places c.requires in
    record { id_in_bounds = omega (arith, places.0); size_bound = places.1 }

pub label_of-label-requires : goal.label_of-label-requires
label_of-label-requires c =
    omega (arith, gate_low c.requires, c.requires.arrays.labelled.labels_long)

pub peak-p-requires : goal.peak-p-requires
peak-p-requires c =
    line_fed c.requires

pub write_bare-requires : goal.write_bare-requires
write_bare-requires c =
    cut_asked c.requires c.label_of-label.result.depth c.list_at-leaves.ensures [] Backed.bare

pub returns-then-not-owes_evidence : goal.returns-then-not-owes_evidence
returns-then-not-owes_evidence c =
    let p = c.requires in
    let known = c.peak-p.ensures c.args.net.numbers.inputs c.args.net.numbers.nodes (gate_low p) in
    let none = owes_not c.label_of-label.ensures known c.owes_evidence.ensures
    c.if-not-owes_evidence.true in
    bare_written p c.label_of-label.result.depth c.list_at-leaves.ensures c.label_of-label.ensures none
    c.write_bare.ensures

pub find_evidence-requires : goal.find_evidence-requires
find_evidence-requires c =
    let p = c.requires in
    let known = c.peak-p.ensures c.args.net.numbers.inputs c.args.net.numbers.nodes (gate_low p) in
    let owes = owes_so c.label_of-label.ensures known c.owes_evidence.ensures
    c.if-not-owes_evidence.false in
    evidence_asked p owes

pub write_proven-requires : goal.write_proven-requires
write_proven-requires c =
    let p = c.requires in
    let known = c.peak-p.ensures c.args.net.numbers.inputs c.args.net.numbers.nodes (gate_low p) in
    let owes = owes_so c.label_of-label.ensures known c.owes_evidence.ensures
    c.if-not-owes_evidence.false in
    proven_asked p c.label_of-label.result.depth c.list_at-leaves.ensures owes
    c.find_evidence.ensures

pub returns : goal.returns
returns c =
    let p = c.requires in
    let known = c.peak-p.ensures c.args.net.numbers.inputs c.args.net.numbers.nodes (gate_low p) in
    let owes = owes_so c.label_of-label.ensures known c.owes_evidence.ensures
    c.if-not-owes_evidence.false in
    proven_written p c.label_of-label.result.depth c.list_at-leaves.ensures c.label_of-label.ensures owes
    c.find_evidence.ensures.evidence c.write_proven.ensures
