-- A factor: signs `!`, and then a name or a bracket.
use Prim.Native.Nat.{ℕ, suc, ◌+◌, ◌-◌, ◌*◌, ◌≤◌, ◌<◌}
use native.Mathlib.Omega.{arith}
use mathlib.Core.Path.{◌≡◌, refl, sym, ap, subst, ◌∙◌}
use mathlib.Core.List.{List}
use lib.ListN.{length, take}
use Rattle.grammar.specs.paper.Text.{byte_at, opening, closing, most_brackets}
use Rattle.grammar.specs.paper.Grammar.{Tree, Factor, Sign}
use Rattle.grammar.specs.paper.Gates.{size_of}
use Rattle.grammar.specs.Machine.{State, Runs, Halts}
use Rattle.grammar.proofs.Bytes.{sign_within}
use Rattle.grammar.proofs.Runs.{run_then}
use Rattle.grammar.proofs.Moves.{run_opening}
use Rattle.grammar.proofs.Stops.{halts_then}
use Rattle.spelling.specs.Spelling.{Skipped, Unnamed}
use Rattle.scanning.specs.declared.expressions.Piece.{Piece}
use Rattle.std.specs.Prelude.{Result, Ok, Err}
use Rattle.spelling.specs.declared.Stopped.{Stopped}
use Rattle.scanning.specs.declared.operands.Bangs.{Bangs}
use Rattle.scanning.specs.Reading.{opened, Asked, Behind, Got, Stops, WholeExpression, Banged, BracketClosed, BracketOpen, Closed, NameTaken, NameMissing, NameRead, FactorAnswer, nots}
use Rattle.scanning.proofs.Holding.{held_front, nots_size}
use Rattle.scanning.proofs.Ends.{sign_of, behind_name_lem, behind_run, behind_bracket, halts_unnamed, halts_deep, halts_unclosed}

name_size : (count p : ℕ) → size_of (nots count (Tree.name p)) ≡ count
unfolding size_of
name_size count p = nots_size count (Tree.name p) ∙ omega arith

module _ {s : List ℕ} {n at : ℕ} {gates : List ℕ} {made : ℕ} (asked : Asked s n at gates made) {bangs : Bangs} (b : Banged s at bangs) where
  pub factor_named : {after : List ℕ} {r : Piece} → NameTaken s bangs.next bangs.count gates made after r →
      Got s (Factor s n at) n at gates made after r
  factor_named {after} {r} taken =
      let start = bangs.next in
      let some : start < taken.end = taken.named.name.some in
      let ordered : taken.end ≤ r.next = taken.skipped.blanks.ordered in
      let size = name_size bangs.count start in
      record {
        tree = nots bangs.count (Tree.name start);
        derived = b.negates n r.next (Tree.name start) (Factor.named taken.named.name taken.skipped.blanks);
        holds = taken.holds;
        slow = omega (arith, taken.holds.count, b.few);
        moved = omega (arith, b.few);
        within = taken.skipped.within taken.named.within;
        ends = taken.skipped.ends;
        behind = behind_run (b.run (opened n)) (behind_name_lem taken.named taken.skipped);
      }

  unnamed_within : {p : ℕ} → Unnamed s bangs.next p → p ≤ length s
  unnamed_within (Unnamed.no_letter same no_letter) = omega (arith, b.within, same)
  unnamed_within (Unnamed.keyword k) = k.within

  pub factor_unnamed : {after : List ℕ} {p : ℕ} → (byte_at s bangs.next ≡ opening → ⊥) → NameMissing s bangs.next gates after p →
      Stops s n at gates made after p
  factor_unnamed no-opening missing =
      record {
        halts = halts_then (b.run (opened n)) (halts_unnamed missing.unnamed b.ends b.no_bang no-opening);
        within = unnamed_within missing.unnamed;
        front = ap (take (3 * made)) missing.kept;
      }

  -- A bracket
  module _ (here : byte_at s bangs.next ≡ opening) where
    pub opening_inside : bangs.next < length s
    opening_inside = sign_within s bangs.next opening (omega arith) here

    pub too_deep : n ≡ 0 → Stops s n at gates made gates bangs.next
    too_deep none =
        record {
          halts = halts_then (b.run (opened n)) (halts_deep here (omega arith));
          within = b.within;
          front = refl;
        }

    module _ (some : n ≡ 0 → ⊥) {inside : ℕ} (skipped : Skipped s (bangs.next + 1) inside) where
      sign : Sign s opening bangs.next inside
      sign = sign_of here skipped

      deeper : opened (n - 1) ≡ suc (opened n)
      deeper = let most = asked.nested in omega arith

      low : opened n < most_brackets
      low = omega arith

      leads : Runs s (State.wants (opened n)) at (State.wants (opened (n - 1))) inside
      leads =
          subst (λ (d : ℕ). Runs s (State.wants (opened n)) at (State.wants d) inside) (sym deeper)
          (run_then (b.run (opened n)) (run_opening low sign))

      pub inside_stops : {after : List ℕ} {p : ℕ} → Stops s (n - 1) inside gates made after p → Stops s n at gates made after p
      inside_stops stops = record { halts = halts_then leads stops.halts; within = stops.within; front = stops.front }

      module _ {middle : List ℕ} {piece : Piece} (got : Got s (WholeExpression s (n - 1) inside) (n - 1) inside gates made middle piece) where
        ahead : bangs.next + 1 ≤ inside
        ahead = skipped.blanks.ordered

        inner_behind : Behind s (suc (opened n)) inside piece.next
        inner_behind = subst (λ (d : ℕ). Behind s d inside piece.next) deeper got.behind

        pub factor_bracketed : {after : List ℕ} {r : Piece} → BracketClosed s bangs.count piece middle after r →
            Got s (Factor s n at) n at gates made after r
        factor_bracketed {after} {r} closed =
            let count = bangs.count in
            let close : Sign s closing piece.next r.next = sign_of closed.here closed.skipped in
            let holds = closed.holds gates made got.tree got.holds in
            let ordered : piece.next + 1 ≤ r.next = closed.skipped.blanks.ordered in
            let low_end : piece.next < length s = sign_within s piece.next closing (omega arith) closed.here in
            record {
              tree = nots count got.tree;
              derived = b.negates n r.next got.tree (Factor.bracketed {m = n - 1} (omega arith) sign got.derived.derived close);
              holds = holds;
              slow = omega (arith, ahead, holds.count, nots_size count got.tree, got.holds.count, got.slow, b.few);
              moved = omega (arith, ahead, got.moved, b.few);
              within = closed.skipped.within (omega arith);
              ends = closed.skipped.ends;
              behind = behind_run (b.run (opened n)) (behind_bracket low sign inner_behind close);
            }

        pub bracket_stops : {after : List ℕ} {p : ℕ} → BracketOpen s piece middle after p → Stops s n at gates made after p
        bracket_stops {after} {p} unclosed =
            let halts : Halts s (State.wants (suc (opened n))) inside piece.next =
            halts_unclosed inner_behind got.ends got.derived.no_star got.derived.no_plus
            (λ e. unclosed.no_closing (ap (byte_at s) unclosed.place ∙ e)) in
            record {
              halts = halts_then leads
                  (subst (λ (k : ℕ). Halts s (State.wants (opened (n - 1))) inside k) (sym unclosed.place)
                  (subst (λ (d : ℕ). Halts s (State.wants d) inside piece.next) (sym deeper) halts));
              within = omega (arith, unclosed.place, got.within);
              front = ap (take (3 * made)) unclosed.kept ∙ held_front got.holds;
            }

        pub bracket_answer : (after : List ℕ) (r : Result Piece Stopped) → Closed s bangs.count piece middle after r → FactorAnswer s n at gates made after r
        bracket_answer after (Ok r) closed = factor_bracketed closed
        bracket_answer after (Err p) unclosed = bracket_stops unclosed

-- a name, or none
pub name_answer : {s : List ℕ} {n at : ℕ} {gates : List ℕ} {made : ℕ} → Asked s n at gates made → {bangs : Bangs} → Banged s at bangs →
    (byte_at s bangs.next ≡ opening → ⊥) → (after : List ℕ) (r : Result Piece Stopped) → NameRead s bangs.next bangs.count gates made after r →
    FactorAnswer s n at gates made after r
name_answer asked b no-opening after (Ok r) taken = factor_named asked b taken
name_answer asked b no-opening after (Err p) missing = factor_unnamed asked b no-opening missing
