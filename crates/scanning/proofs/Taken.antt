-- What the readers of a name and of a closing bracket leave, once the signs `!` before it have their gates.
use Prim.Native.Nat.{ℕ, ◌+◌}
use mathlib.Core.Path.{◌≡◌, refl, sym, subst}
use mathlib.Core.List.{List}
use Rattle.grammar.specs.paper.Text.{byte_at, closing}
use Rattle.grammar.specs.paper.Grammar.{Tree}
use Rattle.spelling.specs.Spelling.{Skipped, Named}
use Rattle.scanning.specs.declared.expressions.Piece.{Piece}
use Rattle.scanning.specs.Reading.{Negated, BracketClosed, NameTaken}
use Rattle.scanning.proofs.Holding.{holds_name}

-- a piece with another place behind it is the same tree
pub closed : {s before after : List ℕ} {count j : ℕ} {piece r : Piece} → byte_at s piece.next ≡ closing → Skipped s (piece.next + 1) j →
    Negated count (record { next = j; operand = piece.operand; made = piece.made }) before after r → BracketClosed s count piece before after r
closed {s} {before} {after} {count} {j} {piece} {r} here skipped negated =
    record {
      here = here;
      skipped = subst (λ (k : ℕ). Skipped s (piece.next + 1) k) (sym negated.next) skipped;
      holds = λ from made e h. negated.holds from made e (record { stored = h.stored; operand = h.operand; count = h.count });
    }

pub name_taken : {s before after : List ℕ} {at count made end j : ℕ} {r : Piece} → Named s at end → Skipped s end j →
    Negated count (record { next = j; operand = at; made = made }) before after r → NameTaken s at count before made after r
name_taken {s} {before} {after} {at} {count} {made} {end} {j} {r} named skipped negated =
    record {
      end = end;
      named = named;
      skipped = subst (λ (k : ℕ). Skipped s end k) (sym negated.next) skipped;
      holds = negated.holds before made (Tree.name at) (holds_name before made (record { next = j; operand = at; made = made }) at refl refl);
    }
