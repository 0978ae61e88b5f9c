-- The order: the sweeps come to rest; without a loop every gate is then placed, since gates that wait for each other make a trail back that must
-- meet itself; and a gate's place in an order, fanins first, is a rank.
use Prim.Native.Nat.{ℕ, zero, suc, ◌+◌, ◌-◌, ◌≤◌, ◌<◌}
use native.Mathlib.Decide.{dec_lt}
use native.Mathlib.Nat.{not-suc-le-zero, le_of_suc-le-suc}
use native.Mathlib.Omega.{arith}
use mathlib.Core.Path.{◌≡◌, refl, ap, sym, subst, ◌∙◌}
use mathlib.Core.Bool.{Bool, true, false, cond}
use mathlib.Core.Logic.{◌⊎◌, inl, inr, ⊎_elim}
use mathlib.Core.List.Memᴰ
use mathlib.Core.List.{List, [], ◌∷◌, Memᴰ}
use lib.ListN.{length, get_or}
use lib.Dec.{ltb, eqb}
use borrow.Author.Tests.{lt-ltb, le-ltb, eq-eqb, eqb-true}
use Rattle.storage.specs.Drawings.{net_in, Drawn, Ordered}
use Rattle.storage.proofs.Entries.{place_of, member_at, one_place}
use Rattle.storage.proofs.Drawings.{fanins_out}
use Rattle.storage.specs.Lists.{Place}
use Rattle.theory.specs.paper.Net.{Net, Gate, Input}
use Rattle.theory.specs.paper.Lists.{NoRepeats}
use Rattle.theory.specs.paper.Sound.{Bounded, Ranked}
use Rattle.theory.specs.paper.Walk.{Walked, Loop}
use Rattle.theory.proofs.Walks.{input_or_gate, reader_is_gate}
use Rattle.walking.specs.Sweeps.{swept, swept_times, order_of}
use Rattle.walking.proofs.Counting.{at_most_gates, all_listed, one_missing}
use Rattle.walking.proofs.Placing.{grown_same, turns_grown, turns_still, Placed, swept_placed, order_placed, none_placed}

module _ (net : Net) (span : net.inputs ≤ net.nodes) where
  -- The sweeps come to rest.

  pub placed_few : {l : List ℕ} → Placed net l → net.inputs + length l ≤ net.nodes
  placed_few p = at_most_gates net.inputs net.nodes span (λ v m. let g = p.gates v m in (g.above, g.below)) p.once

  -- a sweep that places none
  swept_same : (l : List ℕ) → length (swept net l) ≤ length l → swept net l ≡ l
  swept_same l short = grown_same net (turns_grown net (net.nodes - net.inputs) net.inputs l) short

  pub times_still : (l : List ℕ) → swept net l ≡ l → (n : ℕ) → swept_times net n l ≡ l
  unfolding swept_times
  times_still l still zero = refl
  times_still l still (suc n) = rw still (times_still l still n)

  -- where all gates are placed a sweep places none
  pub full_still : (l : List ℕ) → Placed net l → net.nodes ≤ net.inputs + length l → swept net l ≡ l
  full_still l p full = swept_same l (omega (arith, placed_few (swept_placed net span l p)))

  times_rest : (n : ℕ) (l : List ℕ) → Placed net l → net.nodes ≤ net.inputs + length l + n → swept net (swept_times net n l) ≡ swept_times net n l
  unfolding swept_times
  times_rest zero l p enough = full_still l p (omega arith)
  times_rest (suc n) l p enough = either (dec_lt (length l) (length (swept net l))) (times_rest n (swept net l) (swept_placed net span l p))
    where
      either : Dec (length l < length (swept net l)) →
          (net.nodes ≤ net.inputs + length (swept net l) + n → swept net (swept_times net n (swept net l)) ≡ swept_times net n (swept net l)) →
          swept net (swept_times net n (swept net l)) ≡ swept_times net n (swept net l)
      either (yes more) later = later (omega arith)
      either (no none) later =
          let still : swept net l ≡ l = swept_same l (omega arith) in
          let rest : swept_times net n (swept net l) ≡ l = ap (swept_times net n) still ∙ times_still l still n in
          ap (swept net) rest ∙ still ∙ sym rest

  pub order_rests : swept net (order_of net) ≡ order_of net
  unfolding order_of
  order_rests = times_rest (net.nodes - net.inputs) [] (none_placed net) (omega arith)

  -- The trail back

  module _ {k : ℕ} (bounded : Bounded net k) (l : List ℕ) (still : swept net l ≡ l) (loops : (g : ℕ) → Gate net g → Loop net g → ⊥) where
    -- a gate that is not placed has a fanin that is one
    next : (v : ℕ) → Gate net v → (Memᴰ v l → ⊥) → (u : ℕ) × Memᴰ u (net.fanins v) × (Gate net u × (Memᴰ u l → ⊥))
    next v gate new =
        let w = turns_still net (net.nodes - net.inputs) net.inputs l still v gate.above (omega (arith, gate.below, gate.above)) new in
        (w.fanin, w.feeds, (record { above = w.above; below = bounded.nodes v gate w.fanin w.feeds }, w.unplaced))

    record Trail (n : ℕ) : Type 0 where
      list : List ℕ
      size : length list ≡ suc n
      once : NoRepeats list
      gates : (v : ℕ) → Memᴰ v list → Gate net v
      last : ℕ
      gate : Gate net last
      new : Memᴰ last l → ⊥
      back : (v : ℕ) → Memᴰ v list → Walked net [] v last

    trail : (v : ℕ) → Gate net v → (Memᴰ v l → ⊥) → (n : ℕ) → Trail n
    trail v gate new zero =
        record {
          list = v ∷ [];
          size = refl;
          once = NoRepeats.more Memᴰ.not-nil NoRepeats.none;
          gates = λ u m. subst (Gate net) (sym (Memᴰ.eq_of_singleton m)) gate;
          last = v;
          gate = gate;
          new = new;
          back = λ u m. subst (λ (x : ℕ). Walked net [] x v) (sym (Memᴰ.eq_of_singleton m)) Walked.start;
        }
    trail v gate new (suc n) = longer (trail v gate new n)
      where
        longer : Trail n → Trail (suc n)
        longer t =
            let (u, feeds, both) = next t.last t.gate t.new in
            record {
              list = u ∷ t.list;
              size = ap suc t.size;
              once = NoRepeats.more (λ m. loops u both.0 (record { reader = t.last; walked = t.back u m; feeds = feeds })) t.once;
              gates = λ w m. ⊎_elim (λ (e : w ≡ u). subst (Gate net) (sym e) both.0) (t.gates w) (Memᴰ.cases_cons m);
              last = u;
              gate = both.0;
              new = both.1;
              back =
                  λ w m.
                  ⊎_elim (λ (e : w ≡ u). subst (λ (x : ℕ). Walked net [] x u) (sym e) Walked.start)
                  (λ later. Walked.step (t.back w later) feeds Memᴰ.not-nil) (Memᴰ.cases_cons m);
            }

    pub none_missing : net.inputs + length l < net.nodes → ⊥
    none_missing short =
        let (v, node, both) = one_missing net.inputs net.nodes span l short in
        let t = trail v (record { above = both.0; below = node }) both.1 net.nodes in
        let few = at_most_gates net.inputs net.nodes span (λ u m. let g = t.gates u m in (g.above, g.below)) t.once in
        omega (arith, t.size)

  -- every gate is placed
  pub full_ordered : (l : List ℕ) → Placed net l → net.inputs + length l ≡ net.nodes → Ordered net l
  full_ordered l p full =
      record {
        size = full;
        gates = p.gates;
        all = λ v g. all_listed net.inputs net.nodes span (λ u m. let h = p.gates u m in (h.above, h.below)) p.once full v g.above g.below;
        once = p.once;
        before = p.before;
      }

  pub order_ordered : net.inputs + length (order_of net) ≡ net.nodes → Ordered net (order_of net)
  order_ordered full = full_ordered (order_of net) (order_placed net span) full

  pub order_few : net.inputs + length (order_of net) ≤ net.nodes
  order_few = placed_few (order_placed net span)

-- Without a loop the order is whole.
pub order_whole : {net : Net} {k : ℕ} → Bounded net k → ((g : ℕ) → Gate net g → Loop net g → ⊥) → Ordered net (order_of net)
order_whole {net} bounded loops = either (dec_lt (net.inputs + length (order_of net)) net.nodes)
  where
    either : Dec (net.inputs + length (order_of net) < net.nodes) → Ordered net (order_of net)
    either (yes short) = absurd (none_missing net bounded.span bounded (order_of net) (order_rests net bounded.span) loops short)
    either (no long) = order_ordered net bounded.span (omega (arith, order_few net bounded.span))

-- A gate's place is a rank.

unfoldable pub place_in : List ℕ → ℕ → ℕ
place_in [] v = 0
place_in (u ∷ l) v = cond (eqb v u) 0 (suc (place_in l v))

place_first : (l : List ℕ) (v j : ℕ) → j < length l → get_or l j 0 ≡ v → place_in l v ≤ j
unfolding place_in
place_first [] v j inside e = absurd (not-suc-le-zero inside)
place_first (u ∷ l) v zero inside e = rw (eq-eqb v u (sym e)) (omega arith)
place_first (u ∷ l) v (suc j) inside e = either (eqb v u) (place_first l v j (le_of_suc-le-suc inside) e)
  where
    either : (b : Bool) → place_in l v ≤ j → cond b 0 (suc (place_in l v)) ≤ suc j
    either true later = omega arith
    either false later = omega arith

-- an entry's place holds it
place_holds : (l : List ℕ) (v j : ℕ) → j < length l → get_or l j 0 ≡ v → get_or l (place_in l v) 0 ≡ v
unfolding place_in
place_holds [] v j inside e = absurd (not-suc-le-zero inside)
place_holds (u ∷ l) v zero inside e = rw (eq-eqb v u (sym e)) e
place_holds (u ∷ l) v (suc j) inside e = either (eqb v u) refl (place_holds l v j (le_of_suc-le-suc inside) e)
  where
    either : (b : Bool) → eqb v u ≡ b → get_or l (place_in l v) 0 ≡ v → get_or (u ∷ l) (cond b 0 (suc (place_in l v))) 0 ≡ v
    either true same later = sym (eqb-true v u same)
    either false other later = later

-- 0 at inputs, the place in the order and 1 more at gates
unfoldable pub rank_in : Net → List ℕ → ℕ → ℕ
rank_in net order v = cond (ltb v net.inputs) 0 (suc (place_in order v))

pub rank_input : (net : Net) (order : List ℕ) (v : ℕ) → Input net v → rank_in net order v ≡ 0
unfolding rank_in
rank_input net order v low = rw (lt-ltb v net.inputs low)

module _ {net : Net} {order : List ℕ} (ordered : Ordered net order) where
  pub rank_at : (i : ℕ) → i < length order → rank_in net order (get_or order i 0) ≡ suc i
  unfolding rank_in
  rank_at i low =
      let v = get_or order i 0 in
      let gate = ordered.gates v (member_at order i low) in
      let first = place_first order v i low refl in
      let same : place_in order v ≡ i = one_place ordered.once (place_in order v) i (omega arith) low (place_holds order v i low refl) in
      rw (le-ltb v net.inputs gate.above, same)

  module _ {k : ℕ} (bounded : Bounded net k) (out : (v : ℕ) → net.nodes ≤ v → net.fanins v ≡ []) where
    pub rank_rises : (u g : ℕ) → Memᴰ u (net.fanins g) → rank_in net order u < rank_in net order g
    rank_rises u g m = with_place (place_of (ordered.all g gate))
      where
        node : Dec (g < net.nodes) → g < net.nodes
        node (yes low) = low
        node (no high) = absurd (Memᴰ.not-nil (subst (Memᴰ u) (out g (omega arith)) m))

        gate : Gate net g
        gate = reader_is_gate bounded (node (dec_lt g net.nodes)) m

        either : (p : Place g order) → Input net u ⊎ Gate net u → rank_in net order u < rank_in net order g
        either p (inl low) = omega (arith, rank_input net order u low, rank_at p.at p.inside, ap (rank_in net order) p.entry)
        either p (inr high) =
            let (j, less, entry) = ordered.before p.at u p.inside (subst (λ (x : ℕ). Memᴰ u (net.fanins x)) (sym p.entry) m) high in
            omega (arith, rank_at p.at p.inside, ap (rank_in net order) p.entry, rank_at j (omega (arith, p.inside)), ap (rank_in net order) entry)

        with_place : Place g order → rank_in net order u < rank_in net order g
        with_place p = either p (input_or_gate u (bounded.nodes g gate u m))

    unfoldable pub ranked : Ranked net
    ranked = record { rank = rank_in net order; rises = rank_rises }

module _ {inputs nodes k : ℕ} {fanins : List ℕ} (drawn : Drawn inputs nodes k fanins) where
  pub drawn_ranked : {order : List ℕ} → Ordered (net_in inputs nodes fanins) order → Ranked (net_in inputs nodes fanins)
  unfolding net_in
  drawn_ranked ordered = ranked ordered drawn.bounded (fanins_out inputs nodes fanins)
