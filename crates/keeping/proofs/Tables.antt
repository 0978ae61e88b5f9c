-- A table that reads whole and has no loop is a drawing: K-bounded, in the paper's numbers, with a rank no greater than the number of gates.
use Prim.Native.Nat.{ℕ, ◌-◌, ◌≤◌, ◌<◌}
use native.Mathlib.Omega.{arith}
use mathlib.Core.Path.{◌≡◌, refl, ap, ◌∙◌}
use mathlib.Core.Logic.{⊎_elim}
use mathlib.Core.Bool.{Bool, true, cond}
use mathlib.Core.List.{List, [], Memᴰ}
use borrow.Author.Tests.{le-ltb}
use lib.ListN.{get_or, replicate, get_or-eq_default}
use Rattle.storage.specs.Drawings.{Ordered}
use Rattle.storage.proofs.Entries.{place_of}
use Rattle.storage.specs.Lists.{Place}
use Rattle.theory.specs.paper.Net.{Gate, Input}
use Rattle.theory.specs.paper.Walk.{NoLoop}
use Rattle.theory.specs.paper.Sound.{Bounded, Ranked}
use Rattle.theory.proofs.Walks.{input_or_gate, no_loop}
use Rattle.std.specs.Prelude.{Ok}
use Rattle.drawing.specs.paper.Fields.{head_k, head_i}
use Rattle.drawing.specs.paper.Table.{GateLine, net_of, no_gate}
use Rattle.drawing.specs.paper.Reading.{found, table_of, nodes_of}
use Rattle.drawing.specs.Reading.{Arrays, arrays_of, enough}
use Rattle.drawing.proofs.SoundTables.{SoundTable, table_sound}
use Rattle.drawing.proofs.Held.{whole_holds}
use Rattle.walking.specs.Sweeps.{order_of}
use Rattle.walking.proofs.Orders.{order_whole, rank_in, rank_input, rank_at, ranked}
use Rattle.sheet.specs.Longest.{Drawing}

some_arrays : Arrays
some_arrays = arrays_of (replicate 1344 0) (replicate 192 0) (replicate 64 0)

some_enough : enough some_arrays ≡ true
unfolding some_arrays
some_enough = refl

pub inputs_are : (s : List ℕ) → head_i s ≡ (net_of (table_of s)).inputs
unfolding net_of
inputs_are s = refl

module _ (s : List ℕ) (whole : (found s).verdict ≡ Ok tt) where
  pub bounded : Bounded (net_of (table_of s)) (head_k s)
  bounded = (whole_holds some_arrays s some_enough whole).bounded

  sound : SoundTable s (found s)
  sound = table_sound s whole

  pub nodes_are : (net_of (table_of s)).nodes ≡ nodes_of s
  unfolding net_of
  nodes_are = omega (arith, sound.size)

  pub outputs_are_nodes : (v : ℕ) → Memᴰ v (found s).outputs → v < (net_of (table_of s)).nodes
  outputs_are_nodes v m = omega (arith, sound.nodes_only v m, nodes_are)

  pub nodes_few : (net_of (table_of s)).nodes ≤ 192
  nodes_few = omega (arith, sound.head.nodes_most, nodes_are)

  inputs_some : 1 ≤ (net_of (table_of s)).inputs
  unfolding net_of
  inputs_some = sound.head.inputs_least

  pub k_few : head_k s ≤ 6
  k_few = sound.head.k_most

  pub out : (v : ℕ) → (net_of (table_of s)).nodes ≤ v → (net_of (table_of s)).fanins v ≡ []
  unfolding net_of
  out v beyond =
      ap (λ (b : Bool). (cond b no_gate (get_or (found s).gates (v - head_i s) no_gate)).fanins) (le-ltb v (head_i s) (omega arith))
      ∙ ap (λ (g : GateLine). g.fanins) (get_or-eq_default (found s).gates no_gate (omega arith))

  module _ (none : NoLoop (net_of (table_of s))) where
    ordered : Ordered (net_of (table_of s)) (order_of (net_of (table_of s)))
    ordered = order_whole bounded none

    pub table_ranked : Ranked (net_of (table_of s))
    table_ranked = ranked ordered bounded out

    pub drawing : Drawing (net_of (table_of s)) (head_k s)
    unfolding net_of
    drawing = record { bounded = bounded; some = sound.head.inputs_least; no_loop = no_loop table_ranked }

    pub rank_most : (v : ℕ) → v < (net_of (table_of s)).nodes → table_ranked.rank v ≤ 191
    unfolding table_ranked ranked
    rank_most v node = ⊎_elim at_input at_gate (input_or_gate v node)
      where
        at_input : Input (net_of (table_of s)) v → rank_in (net_of (table_of s)) (order_of (net_of (table_of s))) v ≤ 191
        at_input i = omega (arith, rank_input (net_of (table_of s)) (order_of (net_of (table_of s))) v i)

        at_gate : Gate (net_of (table_of s)) v → rank_in (net_of (table_of s)) (order_of (net_of (table_of s))) v ≤ 191
        at_gate gate =
            let p : Place v (order_of (net_of (table_of s))) = place_of (ordered.all v gate) in
            omega (arith, rank_at ordered p.at p.inside, ap (rank_in (net_of (table_of s)) (order_of (net_of (table_of s)))) p.entry, p.inside, ordered.size, nodes_few, inputs_some)
