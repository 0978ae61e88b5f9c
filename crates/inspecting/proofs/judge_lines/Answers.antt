-- `judge_lines` meets its contract: the form is the paper's, and there is a role for each node.
use native.Mathlib.Omega.{arith}
use Rattle.inspecting.proofs.judge_lines.Goals as goal

pub judge_gates-requires : goal.judge_gates-requires
judge_gates-requires c =
    rw c.narrow_form-form.ensures (c.requires.by_index _ (omega (arith, c.requires.nodes_le_most_nodes)))

pub returns : goal.returns
returns c =
    rw c.narrow_form-form.ensures at c.judge_gates.ensures.reply
