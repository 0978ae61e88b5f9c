-- `read_gate` meets its contract: a sound gate fits, and is stored; a refused one stores nothing.
use native.Mathlib.Omega.{arith}
use mathlib.Core.Path.{sym, ◌∙◌}
use Rattle.drawing.proofs.SoundFields.{gate_sound}
use Rattle.drawing.proofs.filling.read_gate.Goals as goal

pub put_gate-requires : goal.put_gate-requires
put_gate-requires c =
    let a = c.args in
    let p = c.requires in
    let ruled = sym c.gate_ruling.ensures ∙ c.in_ok-gate_ruling.was in
    let sound = gate_sound a.form a.s.now p.formed a.at a.numbers.k.leaves a.numbers.nodes p.inside ruled in
    record { formed = p.formed; whole = omega arith; few = omega arith; fanins = p.fanins; rows = p.rows }

pub length_at-requires : goal.length_at-requires
length_at-requires c =
    let a = c.args in
    let ruled = sym c.gate_ruling.ensures ∙ c.in_ok-gate_ruling.was in
    let sound = gate_sound a.form a.s.now c.requires.formed a.at a.numbers.k.leaves a.numbers.nodes c.requires.inside ruled in
    omega arith

pub overflow_add-result-2 : goal.overflow_add-result-2
overflow_add-result-2 c =
    let a = c.args in
    let ruled = sym c.gate_ruling.ensures ∙ c.in_ok-gate_ruling.was in
    let sound = gate_sound a.form a.s.now c.requires.formed a.at a.numbers.k.leaves a.numbers.nodes c.requires.inside ruled in
    omega (arith, c.length_at.ensures)
