-- Number and place of the reply on a drawing's loops.
use Rattle.std.specs.Prelude.{ℕ, ⊤, Result, Ok, Err}
use Rattle.storage.specs.declared.Node.{Node}

-- "7 Loop"
abbrev pub loop_number : ℕ
loop_number = 7

-- "lowest such gate"; 0 and 0 where there is no loop
abbrev pub said : Result ⊤ Node → ℕ × ℕ
said (Ok _) = (0, 0)
said (Err g) = (loop_number, g.id)
