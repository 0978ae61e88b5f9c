-- `keeps_paths` meets its contract: whether evidence is due, how many paths are given, and whether they are true.
use native.Mathlib.Omega.{arith}
use mathlib.Core.Path.{◌≡◌, sym, ap, ◌∙◌}
use Prim.Native.Nat.{ℕ, ◌+◌, ◌≤◌}
use lib.ListN.{length}
use lib.Dec.{eqb}
use Rattle.storage.proofs.Clears.{beyond_same}
use Rattle.drawing.specs.paper.Bytes.{number_at}
use Rattle.judging.specs.Gates.{paths_place}
use Rattle.judging.proofs.Lines.{place_asks, q_inside_bytes}
use Rattle.judging.proofs.Kept.{label_inside, evidence_asked, not_due_told, miscounted, due_told, q_read}
use Rattle.judging.proofs.rules.keeps_paths.Goals as goal

pub paths_place-place-requires : goal.paths_place-place-requires
paths_place-place-requires c = let asked =
    place_asks c.requires.line in record { width_in_bounds = asked.0; at_in_bounds = asked.1 }

pub number_at-q-requires : goal.number_at-q-requires
number_at-q-requires c =
    let asked = c.requires in
    record { size_bound = omega arith; size_in_bounds = rw c.paths_place-place.ensures (q_inside_bytes asked.line) }

pub owes-requires : goal.owes-requires
owes-requires c =
    label_inside c.requires.at_gate

pub returns-then-not-owes : goal.returns-then-not-owes
returns-then-not-owes c =
    let asked = c.requires in
    let a = c.args in
    let s = a.sheet.now in
    let place = paths_place a.form s a.at in
    let peak_known = asked.at_gate.peak_known in
    let q : c.number_at-q.result ≡ number_at s place 1 =
    q_read s c.paths_place-place.ensures c.number_at-q.ensures in
    let none = c.owes.ensures.no c.if-not-owes.true in
    record {
      reply =
          not_due_told a.net.numbers.k.leaves peak_known s (place + 1) a.form.width (number_at s place 1) none
          (ap (λ (n : ℕ). eqb n 0) q);
      rest = beyond_same a.net.numbers.nodes a.roles.now;
    }

pub returns-then-q-k : goal.returns-then-q-k
returns-then-q-k c =
    let asked = c.requires in
    let a = c.args in
    let s = a.sheet.now in
    let place = paths_place a.form s a.at in
    let peak_known = asked.at_gate.peak_known in
    let q : c.number_at-q.result ≡ number_at s place 1 =
    q_read s c.paths_place-place.ensures c.number_at-q.ensures in
    let due = c.owes.ensures.yes c.if-not-owes.false in
    record {
      reply =
          miscounted a.net.numbers.k.leaves peak_known s (place + 1) a.form.width (number_at s place 1) due
          (λ e. c.if-q-k.true (q ∙ e));
      rest = beyond_same a.net.numbers.nodes a.roles.now;
    }

pub overflow_add-place : goal.overflow_add-place
overflow_add-place c =
    let a = c.args in
    let asked = c.requires in
    let inside : c.paths_place-place.result + 1 ≤ length a.sheet.now = rw c.paths_place-place.ensures (q_inside_bytes asked.line) in
    omega (arith, c.well_formed)

pub has_evidence-requires : goal.has_evidence-requires
has_evidence-requires c =
    let asked = c.requires in
    let a = c.args in
    let s = a.sheet.now in
    let place = paths_place a.form s a.at in
    let q : c.number_at-q.result ≡ number_at s place 1 =
    q_read s c.paths_place-place.ensures c.number_at-q.ensures in
    rw (q, c.paths_place-place.ensures) (evidence_asked asked)

pub returns : goal.returns
returns c =
    let asked = c.requires in
    let a = c.args in
    let s = a.sheet.now in
    let place = paths_place a.form s a.at in
    let peak_known = asked.at_gate.peak_known in
    let q : c.number_at-q.result ≡ number_at s place 1 =
    q_read s c.paths_place-place.ensures c.number_at-q.ensures in
    let told = rw (q, c.paths_place-place.ensures) at c.has_evidence.ensures in
    let due = c.owes.ensures.yes c.if-not-owes.false in
    record {
      reply =
          due_told a.net.numbers.k.leaves peak_known s (place + 1) a.form.width (number_at s place 1) due
          (sym q ∙ c.if-q-k.false) told.reply;
      rest = told.rest;
    }
