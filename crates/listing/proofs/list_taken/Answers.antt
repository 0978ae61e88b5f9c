-- `list_taken` meets its contract: what stage one leaves in the arrays is listed.
use native.Mathlib.Omega.{arith}
use Prim.Native.Nat.{◌-◌}
use Rattle.settling.proofs.Standing.{paper_arrays}
use Rattle.listing.proofs.Listed.{mapping_asked, taken_listed}
use Rattle.listing.proofs.list_taken.Goals as goal

pub map_gates-made-requires : goal.map_gates-made-requires
map_gates-made-requires c =
    paper_arrays c.requires.taken (omega arith) (omega arith) (omega arith) (omega arith) (omega arith) (omega arith)

pub list_mapping-requires : goal.list_mapping-requires
list_mapping-requires c = let asked =
    mapping_asked c.requires c.map_gates-made.ensures
    (paper_arrays c.requires.taken (omega arith) (omega arith) (omega arith) (omega arith) (omega arith)
    (omega arith))
    (384 - c.args.net.numbers.nodes) (omega (arith, c.requires.taken.nodes_most)) in record { held = asked.0; many_value = asked.1.0; roots_in_bounds = asked.1.1 }

pub returns : goal.returns
returns c =
    taken_listed c.requires c.map_gates-made.ensures
    (paper_arrays c.requires.taken (omega arith) (omega arith) (omega arith) (omega arith) (omega arith)
    (omega arith))
    (384 - c.args.net.numbers.nodes) (omega (arith, c.requires.taken.nodes_most))
    c.list_mapping.ensures
