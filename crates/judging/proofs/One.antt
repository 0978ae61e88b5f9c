-- Two answers that the promise of pass two allows are equal.
use Rattle.std.specs.Prelude.{Ok, Err}
use Prim.Native.Nat.{ℕ}
use mathlib.Core.Path.{◌≡◌, refl, sym, ap, ◌∙◌}
use mathlib.Core.List.{List, []}
use Rattle.storage.specs.Drawings.{net_in}
use Rattle.sheet.specs.paper.Sheet.{Line, Sheet}
use Rattle.sheet.specs.paper.Rules.{Rule, Found}
use Rattle.sheet.proofs.Firsts.{first_is_one}
use Rattle.judging.specs.Gates.{Judged}
use Rattle.judging.specs.declared.Broken.TheVariants as broken
use Rattle.judging.specs.Gates.{found_of, Lined, JudgeAsked, GatesJudged}

-- the reply that names a rule
abbrev reply_of : Found → Judged
reply_of Found.none = Ok tt
reply_of (Found.broken (Rule.cut gate leaves)) = Err (broken.Cut (record { id = gate }))
reply_of (Found.broken (Rule.label gate)) = Err (broken.Label (record { id = gate }))
reply_of (Found.broken (Rule.paths gate)) = Err (broken.Paths (record { id = gate }))
reply_of (Found.broken (Rule.function lut)) = Ok tt
reply_of (Found.broken (Rule.cover gate)) = Ok tt
reply_of (Found.broken Rule.depth) = Ok tt

reply_back : (inputs : ℕ) (lines : List Line) (r : Judged) → reply_of (found_of inputs lines r) ≡ r
reply_back inputs lines (Ok tt) = refl
reply_back inputs lines (Err (broken.Cut gate)) = refl
reply_back inputs lines (Err (broken.Label gate)) = refl
reply_back inputs lines (Err (broken.Paths gate)) = refl

module _ {k inputs nodes : ℕ} {fanins order : List ℕ} {l : Lined} {roles : List ℕ} (asked : JudgeAsked k inputs nodes fanins order l roles)
    {r q : Judged} {roles' roles'' : List ℕ} (a : GatesJudged k inputs nodes fanins l roles r roles') (b : GatesJudged k inputs nodes fanins l roles q roles'') where
  pub reply_once : r ≡ q
  unfolding net_in
  reply_once =
      let sheet : Sheet = record { depth = 0; lines = asked.lines; luts = [] } in
      let first = a.reply asked.most asked.lines asked.holds (λ v. 0) [] sheet refl in
      let second = b.reply asked.most asked.lines asked.holds (λ v. 0) [] sheet refl in
      sym (reply_back inputs asked.lines r) ∙ ap reply_of (first_is_one first second) ∙ reply_back inputs asked.lines q

  pub roles_once : roles' ≡ roles''
  roles_once = a.roles_clear ∙ sym b.roles_clear
