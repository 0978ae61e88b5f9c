-- `compile_named` meets its contract: right numbers make a table, which is written and kept.
use native.Mathlib.Omega.{arith}
use mathlib.Core.Path.{sym, subst, ◌∙◌}
use mathlib.Core.List.{List}
use Prim.Native.Nat.{ℕ}
use lib.Seq.{length-take-le}
use Rattle.compiling.specs.Stages.{ready_table, Kept}
use Rattle.compiling.proofs.Readied.{ready_of, counts_small, ready_within}
use Rattle.compiling.proofs.Outcomes.{outside, kept_compiles, next_low, stands, table_here}
use Rattle.compiling.proofs.compile_named.Goals as goal

pub in_numbers-requires : goal.in_numbers-requires
in_numbers-requires c =
    counts_small c.requires

pub returns-then-not-in_numbers : goal.returns-then-not-in_numbers
returns-then-not-in_numbers c =
    outside c.requires (sym c.in_numbers.ensures ∙ c.if-not-in_numbers.true)

pub overflow_cast-size : goal.overflow_cast-size
overflow_cast-size c =
    let ready = ready_of c.requires (sym c.in_numbers.ensures ∙ c.if-not-in_numbers.false) in
    omega (arith, ready.numbers.k_most)

pub write_table-length-requires : goal.write_table-length-requires
write_table-length-requires c =
    record { ready = ready_of c.requires (sym c.in_numbers.ensures ∙ c.if-not-in_numbers.false); table_room_in_bounds = omega arith }

pub slice_bounds-bytes-end : goal.slice_bounds-bytes-end
slice_bounds-bytes-end c =
    let ready = ready_of c.requires (sym c.in_numbers.ensures ∙ c.if-not-in_numbers.false) in
    next_low ready (omega arith) (c.write_table-length.ensures ready)

pub slice_bounds-store_table-end : goal.slice_bounds-store_table-end
slice_bounds-store_table-end c =
    let ready = ready_of c.requires (sym c.in_numbers.ensures ∙ c.if-not-in_numbers.false) in
    sym
    (length-take-le c.write_table-length.result
    c.write_table-length.new.table
    (next_low ready (omega arith) (c.write_table-length.ensures ready)))

pub store_table-requires : goal.store_table-requires
store_table-requires c =
    let ready = ready_of c.requires (sym c.in_numbers.ensures ∙ c.if-not-in_numbers.false) in
    table_here ready (omega arith) (c.write_table-length.ensures ready)

pub returns : goal.returns
returns c =
    let ready = ready_of c.requires (sym c.in_numbers.ensures ∙ c.if-not-in_numbers.false) in
    let here = stands ready (omega arith) (c.write_table-length.ensures ready) in
    kept_compiles ready
    (subst
    (λ (l : List ℕ).
    Kept (ready_table ready) l c.args.table.now c.store_table.result
    c.store_table.new.table)
    here (c.store_table.ensures (ready_table ready) (ready_within ready) here))
