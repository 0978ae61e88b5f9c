-- The lines of the inspector's replies and of the mapper's.
use Prim.Native.Nat.{ℕ, ◌≤◌}
use mathlib.Core.Path.{◌≡◌, refl, ap, sym, subst, ◌∙◌}
use mathlib.Core.List.{List}
use Rattle.std.specs.Prelude.{Result, Ok, Err}
use lib.ListN.{length}
use Rattle.wording.specs.paper.Text.{refused_line}
use Rattle.wording.specs.paper.Puts.{Wrote}
use Rattle.wording.specs.paper.Rooms.{line_room}
use Rattle.wording.specs.paper.Filled.{Filled}
use Rattle.wording.proofs.Filled.{refused_as}
use Rattle.mapping.specs.declared.MapError.{MapError}
use Rattle.mapping.specs.paper.Maps as mapper
use Rattle.mapping.specs.paper.Maps.{Maps}
use Rattle.inspecting.specs.paper.Inspecting.{Inspection, Inspects}
use Rattle.printing.specs.paper.Reports.{line_of, Reports}
use Rattle.printing.specs.paper.Draws.{shown_of, refusal_of, Draws}

pub reported : {before : List ℕ} {r : ℕ} {after s t : List ℕ} {reply : Inspection} → line_room ≤ length before → Inspects s t reply →
    Wrote before (line_of reply) r after → Reports s t before r after
reported {reply = reply} long inspects wrote = Filled.written (line_of reply) long (record { reply = reply; inspects = inspects; is = refl }) wrote

-- The mapper's

module _ {s before text : List ℕ} (long : line_room ≤ length text) {reply : Result ℕ MapError} {after : List ℕ} (maps : Maps s before reply after) where
  pub drew_sheet : {n : ℕ} → reply ≡ Ok n → Draws s before text (Ok n) after text
  drew_sheet is =
      Draws.drawn reply 0 long maps (sym (ap (λ (x : Result ℕ MapError). shown_of x 0) is))
      (subst (λ (x : Result ℕ MapError). Wrote text (refusal_of x) 0 text) (sym is) (record { size = refl; text = refl }))

  pub drew_line : {e : MapError} {a b line : ℕ} {text' : List ℕ} → reply ≡ Err e → a ≡ mapper.number reply → b ≡ mapper.place reply →
      Wrote text (refused_line a b) line text' → Draws s before text (Err line) after text'
  drew_line {e} {a} {b} {line} {text'} is number_is place_is wrote =
      Draws.drawn reply line long maps (sym (ap (λ (x : Result ℕ MapError). shown_of x line) is))
      (subst (λ (x : Result ℕ MapError). Wrote text (refusal_of x) line text') (sym is)
      (refused_as (number_is ∙ ap mapper.number is) (place_is ∙ ap mapper.place is) wrote))
