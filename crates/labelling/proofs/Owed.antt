-- A gate that owes evidence has no cut outside D, by the true labels; and an order ranks the net.
use Prim.Native.Nat.{ℕ, ◌<◌}
use native.Mathlib.Omega.{arith}
use mathlib.Core.List.{List, []}
use Rattle.storage.specs.Drawings.{net_in, Arranged}
use Rattle.theory.specs.paper.Net.{Net, Gate}
use Rattle.theory.specs.paper.Sound.{Bounded, Ranked}
use Rattle.theory.specs.paper.Evidence.{LeastCut, Owes}
use Rattle.theory.proofs.FlowMap.{Labels, label_at_peak}
use Rattle.flow.proofs.Orders.{order_ranked, no_feeds}
use Rattle.labelling.specs.Evidence.{TrueLabel}

pub by_order : {inputs nodes k : ℕ} {fanins order : List ℕ} → Arranged inputs nodes k fanins order →
    Ranked (net_in inputs nodes fanins)
by_order {inputs} {nodes} {fanins = fanins} drawing =
    order_ranked drawing.drawn.bounded (no_feeds inputs nodes fanins) drawing.ordered

module _ {net : Net} {k : ℕ} {lab : ℕ → ℕ} (bounded : Bounded net k) (ranked : Ranked net)
    (labels : (v : ℕ) → v < net.nodes → TrueLabel net k v (lab v)) {t : ℕ} (gate : Gate net t) where
  labelled : Labels net k [] lab
  labelled v node = labels v node []

  pub owes_no_cut : {leaves : List ℕ} → Owes net lab t → LeastCut net k lab t leaves → ⊥
  owes_no_cut {leaves} owes least =
      let e = (label_at_peak bounded ranked labelled gate owes.some).1 (leaves, least.cut, least.outside) in
      let f = owes.above in
      omega arith
