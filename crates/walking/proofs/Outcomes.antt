-- What `order_gates` leaves: all gates placed and no loop, or a loop and zeros.
use Prim.Native.Nat.{ℕ, ◌-◌}
use native.Mathlib.Omega.{arith}
use mathlib.Core.Path.{◌≡◌, refl, ap, sym, subst, ◌∙◌}
use mathlib.Core.List.{List, ◌++◌}
use lib.ListN.{length, take, drop, take-append-drop}
use lib.Seq.{take_at}
use Rattle.storage.specs.Drawings.{net_in, Drawn, Ordered}
use Rattle.storage.specs.Entries.{cleared, Beyond}
use Rattle.storage.proofs.Clears.{cleared_used, beyond_then}
use Rattle.storage.proofs.Drawings.{drawn_span}
use Rattle.theory.specs.paper.Walk.{NoLoop, LowestLoop}
use Rattle.theory.proofs.Walks.{no_loop}
use Rattle.std.specs.Prelude.{⊤, Option, None, Some, IsSome, MatchOption, Result, Ok, Err}
use Rattle.std.proofs.lemmas.Option.{MatchOption-at_some}
use Rattle.storage.specs.declared.Node.{Node}
use Rattle.walking.specs.Sweeps.{order_of}
use Rattle.walking.specs.Gathering.{Listed}
use Rattle.walking.specs.Promises.{OrderRoom, OrderMade, LoopRuling, entries_of}
use Rattle.walking.specs.Searching.{LowestFound}
use Rattle.walking.proofs.Fills.{started, kept_started}
use Rattle.walking.proofs.Gatherings.{listing_size}
use Rattle.walking.proofs.Orders.{order_ordered, order_whole, drawn_ranked}

module _ {inputs nodes : ℕ} {fanins order₀ marks₀ : List ℕ} (room : OrderRoom inputs nodes fanins order₀ marks₀)
    {marks₁ order₂ marks₂ : List ℕ} {placed : ℕ} (start : marks₁ ≡ started inputs nodes marks₀)
    (listed : Listed inputs nodes fanins order₀ marks₁ order₂ marks₂ placed (order_of (net_in inputs nodes fanins))) where
  used : Beyond nodes marks₀ marks₂
  used = beyond_then (kept_started room start).marks_rest listed.kept.marks_rest

  placed_size : length (order_of (net_in inputs nodes fanins)) ≡ placed
  placed_size = ap length (sym listed.entries) ∙ listing_size listed.listing

  pub made_whole : {marks₃ : List ℕ} → placed ≡ nodes - inputs → marks₃ ≡ cleared nodes marks₂ →
      OrderMade (net_in inputs nodes fanins) order₀ marks₀ (Ok tt) order₂ marks₃
  unfolding net_in
  made_whole {marks₃} full fill =
      record {
        reply = LoopRuling.none (λ g gate loop. no_loop (drawn_ranked room.drawn ordered) g loop);
        entries =
            sym (take-append-drop placed order₂)
            ∙ ap (λ (x : List ℕ). x ++ drop placed order₂) listed.entries
            ∙ ap (λ (x : List ℕ). order_of (net_in inputs nodes fanins) ++ x) (ap (λ (n : ℕ). drop n order₂) full ∙ listed.kept.list_rest.beyond);
        cleared = fill ∙ cleared_used nodes used;
      }
    where
      ordered : Ordered (net_in inputs nodes fanins) (order_of (net_in inputs nodes fanins))
      ordered = order_ordered (net_in inputs nodes fanins) room.drawn.bounded.span (omega (arith, placed_size, drawn_span room.drawn))

  module _ {found : Option Node} {order₃ marks₃ : List ℕ} (lowest : LowestFound inputs nodes fanins order₂ marks₂ found order₃ marks₃) where
    -- gates that are left over show a loop
    pub loop_found : (placed ≡ nodes - inputs → ⊥) → IsSome found
    unfolding net_in
    loop_found short = shown found lowest.reply
      where
        shown : (r : Option Node) → MatchOption r (NoLoop (net_in inputs nodes fanins)) (λ g. LowestLoop (net_in inputs nodes fanins) g.id) → IsSome r
        shown None loops = absurd (short (omega (arith, (order_whole room.drawn.bounded loops).size, placed_size)))
        shown (Some g) loop = refl

    pub made_loop : {g : Node} {order₄ marks₄ : List ℕ} → found ≡ Some g → order₄ ≡ cleared (nodes - inputs) order₃ → marks₄ ≡ cleared nodes marks₃ →
        OrderMade (net_in inputs nodes fanins) order₀ marks₀ (Err g) order₄ marks₄
    unfolding net_in
    made_loop is clear fill =
        record {
          reply = LoopRuling.lowest (MatchOption-at_some (NoLoop (net_in inputs nodes fanins)) (λ g. LowestLoop (net_in inputs nodes fanins) g.id) _ is lowest.reply);
          entries = clear ∙ cleared_used (nodes - inputs) (beyond_then listed.kept.list_rest lowest.kept.list_rest);
          cleared = fill ∙ cleared_used nodes (beyond_then used lowest.kept.marks_rest);
        }

-- the order, as the first entries of the array
module _ {inputs nodes k : ℕ} {fanins order₀ marks₀ order marks : List ℕ} {r : Result ⊤ Node} (drawn : Drawn inputs nodes k fanins)
    (made : OrderMade (net_in inputs nodes fanins) order₀ marks₀ r order marks) (told : r ≡ Ok tt) where
  pub order_taken : Ordered (net_in inputs nodes fanins) (take (nodes - inputs) order)
  unfolding net_in
  order_taken = subst (Ordered (net_in inputs nodes fanins)) (sym first) ordered
    where
      none : LoopRuling (net_in inputs nodes fanins) (Ok tt) → NoLoop (net_in inputs nodes fanins)
      none (LoopRuling.none loops) = loops

      ordered : Ordered (net_in inputs nodes fanins) (order_of (net_in inputs nodes fanins))
      ordered = order_whole drawn.bounded (none (subst (LoopRuling (net_in inputs nodes fanins)) told made.reply))

      size : length (order_of (net_in inputs nodes fanins)) ≡ nodes - inputs
      size = omega (arith, ordered.size)

      first : take (nodes - inputs) order ≡ order_of (net_in inputs nodes fanins)
      first =
          ap (take (nodes - inputs)) (made.entries ∙ ap (λ (x : Result ⊤ Node). entries_of (net_in inputs nodes fanins) x ++ drop (nodes - inputs) order₀) told)
          ∙ take_at (order_of (net_in inputs nodes fanins)) (drop (nodes - inputs) order₀) (nodes - inputs) size
