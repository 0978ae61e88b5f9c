-- Forms that the code can read by.
use Rattle.std.specs.Prelude.{◌+◌, ◌≤◌}
use Rattle.drawing.specs.declared.TableForm.{TableForm}
use Rattle.drawing.specs.paper.Limits.{frame_size}
use Rattle.drawing.specs.Bytes.{Narrow}
use Rattle.drawing.specs.paper.Forms.{gates_start}

-- ids have one byte or two, and a head's value has room for its numbers
-- No ghost field of `TableForm`: the paper's `gates_from` and `encode` speak of every form, and `narrow_table` would have to hold the proof.
pub record Formed (form : TableForm) : Type 0 where
  pub narrow : Narrow form.width
  pub sized : frame_size + 3 + form.width ≤ gates_start form
