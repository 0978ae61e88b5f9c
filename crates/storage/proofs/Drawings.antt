-- The fanins of a drawing in arrays, and what every drawing's arrays have.
use Prim.Native.Nat.{ℕ, ◌≤◌, ◌<◌}
use native.Mathlib.Omega.{arith}
use mathlib.Core.Path.{◌≡◌, ap, sym, subst}
use mathlib.Core.List.{List, [], Memᴰ}
use lib.ListN.{length, get_or}
use borrow.Author.Tests.{lt-ltb, le-ltb}
use Rattle.theory.specs.paper.Net.{Gate}
use Rattle.theory.proofs.Walks.{fanin_node}
use Rattle.storage.specs.Lists.{list_at}
use Rattle.storage.specs.Drawings.{net_in, Drawn, Fed}
use Rattle.storage.proofs.Entries.{member_at}
use Rattle.storage.proofs.InLists.{list_size}

module _ (inputs nodes : ℕ) (fanins : List ℕ) where
  pub fanins_in : (v : ℕ) → v < nodes → (net_in inputs nodes fanins).fanins v ≡ list_at fanins v
  unfolding net_in
  fanins_in v node = rw (lt-ltb v nodes node)

  pub fanins_out : (v : ℕ) → nodes ≤ v → (net_in inputs nodes fanins).fanins v ≡ []
  unfolding net_in
  fanins_out v out = rw (le-ltb v nodes out)

  module _ {v : ℕ} where
    pub gate_of_lem : inputs ≤ v → v < nodes → Gate (net_in inputs nodes fanins) v
    unfolding net_in
    gate_of_lem above below = record { above = above; below = below }

    pub gate_above : Gate (net_in inputs nodes fanins) v → inputs ≤ v
    unfolding net_in
    gate_above g = g.above

    pub gate_below : Gate (net_in inputs nodes fanins) v → v < nodes
    unfolding net_in
    gate_below g = g.below

module _ {inputs nodes k : ℕ} {fanins : List ℕ} (drawn : Drawn inputs nodes k fanins) where
  pub drawn_span : inputs ≤ nodes
  unfolding net_in
  drawn_span = drawn.bounded.span

  -- a node's fanins are nodes
  pub fanin_low : {v u : ℕ} → v < nodes → Memᴰ u (list_at fanins v) → u < nodes
  unfolding net_in
  fanin_low {v} {u} node m =
      fanin_node drawn.bounded {u = u} {v = v} node (subst (Memᴰ u) (sym (fanins_in inputs nodes fanins v node)) m)

  pub fed_in : (v : ℕ) → v < nodes → (size : ℕ) → nodes ≤ size → Fed fanins v size
  fed_in v low size long =
      record {
        long = omega (arith, drawn.lists.long);
        six = drawn.lists.six v low;
        known = λ u m. omega (arith, fanin_low {v = v} {u = u} low m);
      }

-- what stands in the gate's list has an entry
pub fed_entry : {fanins items : List ℕ} {v size i : ℕ} → Fed fanins v size → items ≡ list_at fanins v → i < length items → get_or items i 0 < size
fed_entry fed is low = fed.known _ (subst (Memᴰ _) is (member_at _ _ low))

pub fed_wider : {fanins : List ℕ} {v size more : ℕ} → Fed fanins v size → size ≤ more → Fed fanins v more
fed_wider fed wide = record { long = fed.long; six = fed.six; known = λ u m. let less = fed.known u m in omega arith }

-- Arrays that are drawn at any K are drawn at six, since six fanins a node is what they have room for.
pub drawn_six : {inputs nodes k : ℕ} {fanins : List ℕ} → Drawn inputs nodes k fanins → Drawn inputs nodes 6 fanins
unfolding net_in
drawn_six {inputs} {nodes} {k} {fanins} d =
    record {
      lists = d.lists;
      bounded =
          record {
            span = d.bounded.span;
            inputs_feed = d.bounded.inputs_feed;
            fed = d.bounded.fed;
            few =
                λ g gate.
                let low : g < nodes = gate.below in
                omega (
                  arith,
                  ap length (fanins_in inputs nodes fanins g low),
                  list_size fanins g (omega (arith, d.lists.long)) (d.lists.six g low),
                  d.lists.six g low,
                );
            nodes = d.bounded.nodes;
          };
    }
