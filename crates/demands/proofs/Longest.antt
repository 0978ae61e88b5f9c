-- An accepted sheet has at most 43,554 bytes: they are as many as its encoding's, and a sheet that keeps the rules has no longer one.
use Prim.Native.Nat.{ℕ, ◌+◌, ◌≤◌}
use native.Mathlib.Omega.{arith}
use mathlib.Core.Path.{◌≡◌}
use mathlib.Core.List.{List}
use lib.ListN.{length}
use Rattle.drawing.specs.paper.Fields.{head_k}
use Rattle.drawing.specs.paper.Table.{tables_of}
use Rattle.drawing.specs.paper.Reading.{found, table_of}
use Rattle.sheet.proofs.Longest.{no_longer_than}
use Rattle.shaping.proofs.Lengths.{lines_counted, luts_few, read_length}
use Rattle.keeping.proofs.Longest.{rules_bound}
use Rattle.keeping.proofs.Tables.{inputs_are, bounded, nodes_few, nodes_are, k_few, drawing}
use Rattle.inspecting.specs.paper.Inspecting.{KeepsAll, due_in, sheet_in}
use Rattle.inspecting.proofs.Replies.{accepted_exactly}
use Rattle.taking.specs.paper.Taken.{drawn}
use Rattle.demands.specs.paper.Demands.{Demand3Length}

-- the mapper's own sheet is one of these (`demand_3_mapper`)
kept_length : (s t : List ℕ) → KeepsAll s t → length t ≤ 43554
kept_length s t kept =
    let whole = kept.taken.whole in
    let counted = lines_counted (due_in s) t kept.sound in
    let gates : (drawn s).inputs + length (sheet_in s t).lines ≡ (drawn s).nodes =
    omega (arith, counted, inputs_are s, nodes_are s whole, (bounded s whole).span) in
    let few : length (sheet_in s t).luts ≤ length (sheet_in s t).lines = omega (arith, luts_few (due_in s) t kept.sound, counted) in
    let bound = rules_bound (drawn s) (tables_of (table_of s)) (head_k s) (found s).outputs (sheet_in s t) gates few kept.each in
    let longest = no_longer_than (drawing s whole kept.taken.no_loop) bound (k_few s whole) (nodes_few s whole) in
    omega (arith, read_length (due_in s) t kept.sound, longest)

pub demand_3_length : Demand3Length
demand_3_length s t depth accepted = kept_length s t (accepted_exactly s t accepted)
