-- `write_table` meets its contract: the gates, then the outputs.

use Rattle.compiling.proofs.tables.write_table.Goals as goal

pub write_outputs-requires : goal.write_outputs-requires
write_outputs-requires c =
    record {
      k = c.args.k.leaves;
      gates = c.args.equations.gates.now;
      ready = c.requires.ready;
      before = c.args.table.now;
      room = c.requires.table_room_in_bounds;
      written = c.write_gates-start.ensures c.requires.ready;
    }

pub returns : goal.returns
returns c =
    λ ready.
    c.write_outputs.ensures
    (record {
      k = c.args.k.leaves;
      gates = c.args.equations.gates.now;
      ready = ready;
      before = c.args.table.now;
      room = c.requires.table_room_in_bounds;
      written = c.write_gates-start.ensures ready;
    })
