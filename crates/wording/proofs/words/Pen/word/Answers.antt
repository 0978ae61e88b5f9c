-- `Pen::word` meets its contract: what stands from the place on is the word, as a run of stores leaves it.
use native.Mathlib.Omega.{arith}
use Prim.Native.Nat.{ℕ, ◌+◌, ◌-◌}
use mathlib.Core.Path.{◌≡◌, refl, ap, sym, ◌∙◌}
use mathlib.Core.List.{List, ◌++◌, append_assoc}
use lib.ListN.{length, take, drop}
use borrow.Rule.Slice.PartMut.{put_mid}
use lib.Seq.{sets, length-sets, sets-eq, drop-drop}
use Rattle.wording.proofs.words.Pen.word.Goals as goal

pub returns : goal.returns
returns c =
    let pen = c.args.self.now in
    let w = c.args.word.now in
    let t = pen.text.now in
    let end : pen.at + (pen.at + length w - pen.at) ≡ pen.at + length w = omega arith in
    let same : put_mid pen.at (pen.at + length w - pen.at) t c.copy_from_slice.new.self ≡ sets t pen.at w =
    ap (λ (l : List ℕ). take pen.at t ++ (l ++ drop (pen.at + length w - pen.at) (drop pen.at t))) c.copy_from_slice.ensures.after
    ∙ ap (λ (l : List ℕ). take pen.at t ++ (w ++ l)) (drop-drop (pen.at + length w - pen.at) pen.at t ∙ ap (λ (n : ℕ). drop n t) end)
    ∙ sym (sets-eq w t pen.at c.requires ∙ append_assoc (take pen.at t) w (drop (pen.at + length w) t)) in
    record {
      lent = refl;
      size = ap length same ∙ length-sets t pen.at w;
      next = refl;
      stored = same;
    }
