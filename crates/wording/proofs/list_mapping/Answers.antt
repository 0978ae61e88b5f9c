-- `list_mapping` meets its contract: the head, the LUTs and the outputs are the listing, and fit the room.
use native.Mathlib.Omega.{arith}
use Rattle.std.proofs.Common.{rules}
use Prim.Native.Nat.{ℕ, ◌-◌, ◌≤◌, ◌<◌, ◌^◌}
use mathlib.Core.List.{List, ◌++◌}
use mir.Val.{Fits}
use mir.Syntax.{w16}
use mathlib.Core.Path.{refl}
use lib.ListN.{length, get_or, take, length-append}
use Rattle.wording.specs.paper.Text.{each, head_line}
use Rattle.wording.specs.paper.Rooms.{room}
use Rattle.wording.specs.Arrays.{Arrays, Held, arrays_of, lut_text, output_text, marked_from}
use Rattle.wording.proofs.Puts.{put_then, put_wrote}
use Rattle.wording.proofs.Listed.{listing_parts}
use Rattle.wording.proofs.Rooms.{Small, listing_room}
use Rattle.wording.proofs.list_mapping.Goals as goal

abbrev parts : (h : Arrays) (k inputs nodes number luts depth : ℕ) → List ℕ
parts h k inputs nodes number luts depth =
    head_line k inputs (nodes - inputs) luts depth
    ++ each (lut_text h.labels h.cuts h.tables) (marked_from 0 (take nodes h.luts))
    ++ each (output_text h.labels) (take number h.outputs)

-- the three parts fit where each entry has 16 bits
fits :
    {labels cuts luts tables outputs : List ℕ} {inputs nodes number place : ℕ} (k many depth : ℕ) →
    ((i : ℕ) → Fits w16 (get_or labels i 0)) → ((i : ℕ) → Fits w16 (get_or cuts i 0)) → ((i : ℕ) → Fits w16 (get_or outputs i 0)) →
    Held inputs nodes (arrays_of labels cuts luts tables outputs) number → k < 256 → many < 2 ^ 64 → depth < 65536 → room nodes number ≤ place →
    length (parts (arrays_of labels cuts luts tables outputs) k inputs nodes number many depth) ≤ place
fits {labels} {cuts} {luts} {tables} {outputs} {inputs} {nodes} {number} k many depth l c o held few count shallow long =
    let small : Small (arrays_of labels cuts luts tables outputs) = record { labels = λ i. (l i).fits; cuts = λ i. (c i).fits; outputs = λ i. (o i).fits } in
    omega (arith, listing_room (arrays_of labels cuts luts tables outputs) small k inputs nodes number many depth held few count shallow, long)

pub put_head-requires : goal.put_head-requires
put_head-requires c =
    let a = c.args in
    let n = a.numbers in
    let t = c.type_inv in
    let whole = fits n.k.leaves a.many a.depth.depth t.labels t.cuts t.outputs c.requires.held (omega arith) (omega arith) (omega arith) c.requires.roots_in_bounds in
    omega (arith, simp length-append at whole)

pub put_all-requires-clause-luts_in_bounds : goal.put_all-requires-clause-luts_in_bounds
put_all-requires-clause-luts_in_bounds c =
    let a = c.args in
    let n = a.numbers in
    let t = c.type_inv in
    let whole = fits n.k.leaves a.many a.depth.depth t.labels t.cuts t.outputs c.requires.held (omega arith) (omega arith) (omega arith) c.requires.roots_in_bounds in
    omega (arith, simp length-append at whole)

pub put_outputs-requires-clause-outputs_in_bounds : goal.put_outputs-requires-clause-outputs_in_bounds
put_outputs-requires-clause-outputs_in_bounds c =
    let a = c.args in
    let n = a.numbers in
    let t = c.type_inv in
    let whole = fits n.k.leaves a.many a.depth.depth t.labels t.cuts t.outputs c.requires.held (omega arith) (omega arith) (omega arith) c.requires.roots_in_bounds in
    omega (arith, simp length-append at whole)

pub returns : goal.returns
returns c =
    let a = c.args in
    let n = a.numbers in
    let t = c.type_inv in
    let whole = fits n.k.leaves a.many a.depth.depth t.labels t.cuts t.outputs c.requires.held (omega arith) (omega arith) (omega arith) c.requires.roots_in_bounds in
    rw (listing_parts n.k.leaves n.inputs n.nodes (arrays_of a.labels.now a.cuts.now a.luts.now a.tables.now a.outputs.now) n.roots a.depth.depth c.requires.many_value)
    (put_wrote refl whole (put_then (put_then c.put_head.ensures c.put_all.ensures) c.put_outputs.ensures) (search rules))
