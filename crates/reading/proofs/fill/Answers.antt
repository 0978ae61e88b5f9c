-- What a read puts behind the bytes at the front joins them.
use Rattle.std.proofs.Common.{◌≡◌, ℕ, ◌+◌, ◌≤◌, List, ◌++◌, rules, length, take, sym, ap, subst, ◌∙◌, length-take-le}
use Rattle.std.proofs.Math.Seq.{take-append-add, take-append-le}
use Rattle.std.proofs.KnownBytes.{Consumes-trans}
use Rattle.std.specs.Io.KnownBytes.{Consumes}
use borrow.Rule.Slice.PartMut.{put_mid, post_of}
use Rattle.reading.proofs.fill.Goals as goal

take-put_mid_more : (at k n : ℕ) (bytes read : List ℕ) → at ≤ length bytes → n ≤ length read → take (at + n) (put_mid at k bytes read) ≡ take at bytes ++ take n read
take-put_mid_more at k n bytes read within fits =
    let rest = read ++ post_of at k bytes in
    ap (λ m. take (m + n) (take at bytes ++ rest)) (sym (length-take-le at bytes within)) ∙ take-append-add (take at bytes) rest n
    ∙ ap (λ l. take at bytes ++ l) (take-append-le n read (post_of at k bytes) fits)

pub loop-count-preserved : goal.loop-count-preserved
loop-count-preserved g c =
    let joined = take-put_mid_more c.loop-count.count _ c.in-Ok.n c.loop-count.buffer c.read.new.buf c.loop-count.invariant.1 c.in-Ok.ensures.bound.0 in
    (search rules, search rules, subst (Consumes _ _) (sym joined) (Consumes-trans _ _ _ _ _ c.loop-count.invariant.2 c.in-Ok.ensures.bytes.0))
