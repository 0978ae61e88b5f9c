-- `Pen::digits` meets its contract: the digits still to put are those in front.
use native.Mathlib.Omega.{arith}
use Prim.Native.Nat.{ℕ, suc, ◌+◌, ◌-◌}
use mathlib.Core.Path.{◌≡◌, refl, ap, sym, ◌∙◌}
use lib.ListN.{length-set}
use lib.Seq.{sets}
use Rattle.wording.specs.paper.Text.{digits}
use Rattle.wording.proofs.Numbers.{digits_size, digits_turn, remainder_small}
use Rattle.wording.proofs.words.Pen.digits.Goals as goal

pub loop-i-init : goal.loop-i-init
loop-i-init c = (refl, refl, refl, refl)

pub digit_byte-requires : goal.digit_byte-requires
digit_byte-requires c =
    remainder_small c.loop-i.rest c.args.base c.requires.base_nonzero.0 c.requires.base_nonzero.1

pub loop-i-preserved : goal.loop-i-preserved
loop-i-preserved c =
    let s = c.loop-i in
    let base = c.args.base in
    let before : suc (s.i - 1) ≡ s.i = omega arith in (
      s.invariant.0,
      s.invariant.1,
      simp length-set s.invariant.2,
      digits_turn s.self.text.now s.self.at base (s.i - 1) s.rest c.digit_byte.ensures
          ∙ ap (λ (m : ℕ). sets s.self.text.now s.self.at (digits base m s.rest)) before
          ∙ s.invariant.3,
    )

pub returns : goal.returns
unfolding digits
returns c =
    let pen = c.args.self.now in
    let s = c.loop-i in
    let none : s.i ≡ 0 = omega arith in
    record {
      lent = s.invariant.0;
      size = s.invariant.2;
      next = ap (λ (m : ℕ). m + c.args.count) s.invariant.1 ∙ ap (λ (m : ℕ). pen.at + m) (sym (digits_size c.args.base c.args.count c.args.n));
      stored = sym (ap (λ (m : ℕ). sets s.self.text.now s.self.at (digits c.args.base m s.rest)) none) ∙ s.invariant.3;
    }
