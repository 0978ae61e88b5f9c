-- What the loops of the sweeps keep: the turns from here on give what all turns give, and the sweeps from here on what all sweeps give.
use Prim.Native.Nat.{ℕ, suc, ◌+◌, ◌-◌, ◌≤◌, ◌<◌}
use native.Mathlib.Numerals.{add-one}
use native.Mathlib.Omega.{arith}
use mathlib.Core.Path.{◌≡◌, refl, ap, sym, subst, ◌∙◌}
use mathlib.Core.List.{List}
use lib.ListN.{length, take}
use Rattle.storage.specs.Drawings.{net_in}
use Rattle.storage.specs.Lists.{list_at}
use Rattle.walking.specs.Sweeps.{turn, turns_from, swept, swept_times, order_of}
use Rattle.walking.specs.Gathering.{Added, Listing, Listed}
use Rattle.walking.proofs.Placing.{Placed, none_placed, turns_grown, swept_placed, grown_longer, grown_same}
use Rattle.walking.proofs.Gatherings.{listing_size, listed_same, listed_on, listed_as, turn_listed}
use Rattle.walking.proofs.Orders.{times_still, full_still}

-- In a sweep

pub record SweepLeft (inputs nodes : ℕ) (fanins order₀ marks₀ : List ℕ) (size : ℕ) (order marks : List ℕ) (placed v : ℕ) : Type 0 where
  pub low : inputs ≤ v
  pub high : v ≤ nodes
  pub listed : Listed inputs nodes fanins order₀ marks₀ order marks placed (take placed order)
  pub same :
      turns_from (net_in inputs nodes fanins) (nodes - v) v (take placed order) ≡ swept (net_in inputs nodes fanins) (take size order₀)

module _ {inputs nodes : ℕ} {fanins order₀ marks₀ : List ℕ} {size : ℕ} where
  pub sweep_start : Listing inputs nodes fanins order₀ marks₀ size →
      SweepLeft inputs nodes fanins order₀ marks₀ size order₀ marks₀ size inputs
  unfolding net_in
  sweep_start l = record { low = omega arith; high = omega (arith, l.few); listed = listed_same l; same = refl }

  module _ {order marks : List ℕ} {placed v : ℕ} (left : SweepLeft inputs nodes fanins order₀ marks₀ size order marks placed v) where
    pub sweep_turn : {order' marks' : List ℕ} {placed' : ℕ} → v < nodes →
        Added (list_at fanins v) v order marks placed order' marks' placed' →
        SweepLeft inputs nodes fanins order₀ marks₀ size order' marks' placed' (v + 1)
    unfolding turns_from
    sweep_turn {order'} {marks'} {placed'} node put =
        let now = turn_listed left.listed.listing node left.low put in
        let due : nodes - v ≡ suc (nodes - suc v) = omega arith in
        let step :
        turns_from (net_in inputs nodes fanins) (nodes - v) v (take placed order)
        ≡ turns_from (net_in inputs nodes fanins) (nodes - suc v) (suc v) (turn (net_in inputs nodes fanins) (take placed order) v) =
        ap (λ (n : ℕ). turns_from (net_in inputs nodes fanins) n v (take placed order)) due in
        record {
          low = omega (arith, left.low);
          high = omega arith;
          listed = listed_as (sym now.entries) (listed_on left.listed now);
          same = rw (now.entries, add-one v) (sym step ∙ left.same);
        }

    pub sweep_end : nodes ≤ v → Listed inputs nodes fanins order₀ marks₀ order marks placed (swept (net_in inputs nodes fanins) (take size order₀))
    unfolding turns_from
    sweep_end all =
        let none : nodes - v ≡ 0 = omega arith in
        listed_as (sym (ap (λ (n : ℕ). turns_from (net_in inputs nodes fanins) n v (take placed order)) none) ∙ left.same) left.listed

-- Sweep after sweep

pub record SweepsLeft (inputs nodes : ℕ) (fanins order₀ marks₀ order marks : List ℕ) (placed : ℕ) : Type 0 where
  pub listed : Listed inputs nodes fanins order₀ marks₀ order marks placed (take placed order)
  pub left : ℕ
  pub enough : nodes ≤ inputs + placed + left
  pub sound : Placed (net_in inputs nodes fanins) (take placed order)
  pub same : swept_times (net_in inputs nodes fanins) left (take placed order) ≡ order_of (net_in inputs nodes fanins)

module _ {inputs nodes : ℕ} {fanins order₀ marks₀ : List ℕ} where
  pub sweeps_start : Listing inputs nodes fanins order₀ marks₀ 0 → SweepsLeft inputs nodes fanins order₀ marks₀ order₀ marks₀ 0
  unfolding order_of net_in
  sweeps_start l =
      record { listed = listed_same l; left = nodes - inputs; enough = omega (arith, l.few); sound = none_placed (net_in inputs nodes fanins); same = refl }

  module _ {order marks : List ℕ} {placed : ℕ} (left : SweepsLeft inputs nodes fanins order₀ marks₀ order marks placed) where
    span : inputs ≤ nodes
    span = omega (arith, left.listed.listing.few)

    net_span : (net_in inputs nodes fanins).inputs ≤ (net_in inputs nodes fanins).nodes
    unfolding net_in
    net_span = span

    held : length (take placed order) ≡ placed
    held = listing_size left.listed.listing

    pub sweeps_end : nodes ≤ inputs + placed → Listed inputs nodes fanins order₀ marks₀ order marks placed (order_of (net_in inputs nodes fanins))
    unfolding net_in
    sweeps_end full =
        let still = full_still (net_in inputs nodes fanins) net_span (take placed order) left.sound (omega (arith, held)) in
        listed_as (sym (times_still (net_in inputs nodes fanins) net_span (take placed order) still left.left) ∙ left.same) left.listed

    module _ {order' marks' : List ℕ} {next : ℕ}
        (now : Listed inputs nodes fanins order marks order' marks' next (swept (net_in inputs nodes fanins) (take placed order))) where
      next_held : length (swept (net_in inputs nodes fanins) (take placed order)) ≡ next
      next_held = ap length (sym now.entries) ∙ listing_size now.listing

      pub sweeps_grow : placed ≤ next
      sweeps_grow =
          omega (
            arith,
            held,
            next_held,
            grown_longer (net_in inputs nodes fanins)
                (turns_grown (net_in inputs nodes fanins) ((net_in inputs nodes fanins).nodes - (net_in inputs nodes fanins).inputs) (net_in inputs nodes fanins).inputs (take placed order)),
          )

      pub sweeps_stop : next ≡ placed → Listed inputs nodes fanins order₀ marks₀ order' marks' placed (order_of (net_in inputs nodes fanins))
      sweeps_stop none =
          let still : swept (net_in inputs nodes fanins) (take placed order) ≡ take placed order =
          grown_same (net_in inputs nodes fanins)
          (turns_grown (net_in inputs nodes fanins) ((net_in inputs nodes fanins).nodes - (net_in inputs nodes fanins).inputs) (net_in inputs nodes fanins).inputs (take placed order))
          (omega (arith, held, next_held)) in
          let rest = sym (times_still (net_in inputs nodes fanins) net_span (take placed order) still left.left) ∙ left.same in
          subst (λ (n : ℕ). Listed inputs nodes fanins order₀ marks₀ order' marks' n (order_of (net_in inputs nodes fanins))) none
          (listed_as (still ∙ rest) (listed_on left.listed now))

      pub sweeps_turn : inputs + placed < nodes → (next ≡ placed → ⊥) → SweepsLeft inputs nodes fanins order₀ marks₀ order' marks' next
      unfolding swept_times
      sweeps_turn short some =
          let due : left.left ≡ suc (left.left - 1) = omega (arith, left.enough) in
          record {
            listed = listed_as (sym now.entries) (listed_on left.listed now);
            left = left.left - 1;
            enough = omega (arith, left.enough, sweeps_grow);
            sound = subst (Placed (net_in inputs nodes fanins)) (sym now.entries) (swept_placed (net_in inputs nodes fanins) net_span (take placed order) left.sound);
            same = rw now.entries (sym (ap (λ (n : ℕ). swept_times (net_in inputs nodes fanins) n (take placed order)) due) ∙ left.same);
          }
