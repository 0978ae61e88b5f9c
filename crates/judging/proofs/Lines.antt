-- What a line that is in shape says: each rule of shape read the other way round.
use Rattle.std.specs.Prelude.{Ok, Err}
use Prim.Native.Nat.{ℕ, ◌+◌, ◌-◌, ◌≤◌}
use native.Mathlib.Omega.{arith}
use mathlib.Core.Path.{◌≡◌, refl}
use mathlib.Core.Bool.{Bool, true, false, not, cond, ◌||◌}
use mathlib.Core.Logic.{⊎_elim}
use mathlib.Core.List.Memᴰ
use mathlib.Core.List.{List, [], ◌∷◌, Memᴰ}
use lib.ListN.{length}
use lib.Dec.{ltb, leb, eqb}
use borrow.Author.Tests.{ltb-false, leb-false, not-false}
use Rattle.theory.specs.paper.Evidence.{joined}
use Rattle.drawing.specs.paper.Bytes.{tag_at, length_at, value_at, number_at, some_from}
use Rattle.drawing.proofs.SoundFields.{neither}
use Rattle.sheet.specs.declared.Form.{Form}
use Rattle.sheet.specs.declared.Fault.{Fault}
use Rattle.sheet.specs.paper.Shape.{Ruling}
use Rattle.sheet.specs.paper.Shape.{Due, end_at, rising, paths_use, some_empty, leaves_range, line_cut, line_paths, line_at, line_length_wrong, line_range, line_ruling}
use Rattle.sheet.specs.Shape.{Below, due_from}
use Rattle.judging.specs.Paths.{PathsStand}
use Rattle.judging.specs.Gates.{paths_place, LineStands}

none_from : (n : ℕ) (vs : List ℕ) → some_from n vs ≡ false → Below n vs
unfolding some_from
none_from n [] e v m = absurd (Memᴰ.not-nil m)
none_from n (u ∷ vs) e v m =
    let both = neither (leb n u) e in
    ⊎_elim (λ (same : v ≡ u). let low = leb-false n u both.0 in omega arith) (λ (later : Memᴰ v vs). none_from n vs both.1 v later) (Memᴰ.cases_cons m)

-- a rule that refuses did not hold
passed : (b : Bool) (f : Fault) (rest : Ruling) → cond b (Err f) rest ≡ Ok tt → (b ≡ false) × (rest ≡ Ok tt)
passed true f rest e = absurd (let z : ◌≡◌ {A = ℕ} 0 1 = cc in omega arith)
passed false f rest e = (refl, e)

pub record SoundLine (due : Due) (s : List ℕ) (at : ℕ) : Type 0 where
  pub whole : end_at s at ≤ length s
  pub cut_inside : line_cut due s at + 1 ≤ end_at s at
  pub q_inside : line_paths due s at + 1 ≤ end_at s at
  pub used : paths_use s (line_paths due s at + 1) due.form.width (number_at s (line_paths due s at) 1) (end_at s at) ≡ true
  pub leaves_below : Below due.nodes (line_at due s at).leaves
  pub filled : some_empty (line_at due s at).paths ≡ false
  pub ids_below : Below due.nodes (joined (line_at due s at).paths)

pub line_sound : (due : Due) (s : List ℕ) (at : ℕ) → line_ruling due s at ≡ Ok tt → SoundLine due s at
unfolding line_ruling
line_sound due s at e =
    let begun = passed (ltb (length s - at) 3) _ _ e in
    let tagged = passed (not (eqb (tag_at s at) due.form.line)) _ _ begun.1 in
    let ended = passed (ltb (length s - value_at at) (length_at s at)) _ _ tagged.1 in
    let sized = passed (line_length_wrong due s at) _ _ ended.1 in
    let ranged = passed (line_range due (line_at due s at)) _ _ sized.1 in
    let cut = neither (ltb (end_at s at) (line_cut due s at + 1)) sized.0 in
    let paths = neither (ltb (end_at s at) (line_paths due s at + 1)) cut.1 in
    let line = line_at due s at in
    let least = neither (ltb line.label 1) ranged.0 in
    let most = neither (ltb due.most line.label) least.1 in
    let leaves = neither (leaves_range due line.leaves) most.1 in
    let counted = neither (not (eqb (length line.paths) 0 || eqb (length line.paths) (due.k + 1))) leaves.1 in
    let filled = neither (some_empty line.paths) counted.1 in
    let some = neither (ltb (length line.leaves) 1) leaves.0 in
    let few = neither (ltb due.k (length line.leaves)) some.1 in
    let rise = neither (not (rising line.leaves)) few.1 in
    record {
      whole = omega (arith, ltb-false (length s - at) 3 begun.0, ltb-false (length s - value_at at) (length_at s at) ended.0);
      cut_inside = ltb-false (end_at s at) (line_cut due s at + 1) cut.0;
      q_inside = ltb-false (end_at s at) (line_paths due s at + 1) paths.0;
      used = not-false _ paths.1;
      leaves_below = none_from due.nodes line.leaves rise.1;
      filled = filled.0;
      ids_below = none_from due.nodes (joined line.paths) filled.1;
    }

-- what reading the paths asks
module _ {form : Form} {k inputs nodes : ℕ} {s : List ℕ} {at : ℕ} (line : LineStands form k inputs nodes s at) where
  sound_here : SoundLine (due_from form line.most k inputs nodes) s at
  sound_here = line_sound (due_from form line.most k inputs nodes) s at line.sound

  pub place_asks : (at + 3 + form.width + 1 ≤ length s) × (paths_place form s at ≤ length s)
  place_asks = let l = sound_here in (omega (arith, l.cut_inside, l.whole), omega (arith, l.q_inside, l.whole))

  pub q_inside_bytes : paths_place form s at + 1 ≤ length s
  q_inside_bytes = let l = sound_here in omega (arith, l.q_inside, l.whole)

  pub paths_stand : PathsStand nodes s (paths_place form s at + 1) form.width (number_at s (paths_place form s at) 1)
  paths_stand =
      let l = sound_here in
      record {
        narrow = line.narrow;
        end = end_at s at;
        inside = l.whole;
        used = l.used;
        filled = l.filled;
        below = l.ids_below;
      }
