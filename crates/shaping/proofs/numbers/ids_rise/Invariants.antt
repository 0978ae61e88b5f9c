-- `ids_rise` meets its contract: the ids rise if the last one read and those from here on do.
use Prim.Native.Nat.{◌+◌, ◌*◌, ◌-◌}
use mathlib.Core.Path.{◌≡◌}
use mathlib.Core.List.{◌∷◌}
use Rattle.drawing.specs.paper.Bytes.{ids_at}
use Rattle.sheet.specs.paper.Shape.{rising}
use Rattle.shaping.proofs.numbers.ids_rise.Given as goal

abbrev pub invariant-loop-i : goal.invariant-loop-i
invariant-loop-i l =
    rising (ids_at l.sheet l.at l.terms.form.width l.count) ≡ rising (l.before.id ∷ ids_at l.sheet (l.at + l.i * l.terms.form.width) l.terms.form.width (l.count - l.i))
