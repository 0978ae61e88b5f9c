-- Each promise has one answer: two replies that it allows are equal, and so are the later contents of what is lent.
use Prim.Native.Nat.{ℕ}
use mathlib.Core.Path.{◌≡◌, ap, sym, ◌∙◌}
use mathlib.Core.Logic.{◌⊎◌, inl, inr}
use mathlib.Core.List.{List}
use lib.ListN.{get_or}
use lib.Seq.{ext_get_or}
use Rattle.storage.specs.Drawings.{net_in, tables_in}
use Rattle.storage.proofs.Clears.{agree}
use Rattle.storage.proofs.InMarks.{marks_inside}
use Rattle.theory.proofs.Cones.{cone_table_only}
use Rattle.walking.proofs.Orders.{drawn_ranked}
use Rattle.covering.specs.Cones.{ConeAsked, ConeAnswered}
use Rattle.covering.specs.Covers.{is_root, lut_count, CoverMade, GateAmong, GatesMarked}

pub cone_answer_once : {inputs nodes k : ℕ} {fanins rows order : List ℕ} {t : ℕ} {leaves : List ℕ} {room : ℕ} →
    ConeAsked inputs nodes k fanins rows order t leaves room → {before after after' : List ℕ} {r r' : ℕ} →
    ConeAnswered inputs nodes fanins rows t leaves before r after → ConeAnswered inputs nodes fanins rows t leaves before r' after' →
    (r ≡ r') × (after ≡ after')
cone_answer_once {inputs} {nodes} {k} {fanins} {rows} {t = t} {leaves} asked {r = r} {r'} p q =
    let ranked = drawn_ranked asked.drawing.drawn asked.drawing.ordered in (
      cone_table_only (net_in inputs nodes fanins) (tables_in rows) ranked k t leaves asked.cut r r' p.table_is q.table_is,
      p.values ∙ sym q.values,
    )

pub cover_answer_once : {inputs nodes : ℕ} {cuts outputs before after after' : List ℕ} {r r' : ℕ} →
    CoverMade inputs nodes cuts outputs before r after → CoverMade inputs nodes cuts outputs before r' after' → (r ≡ r') × (after ≡ after')
cover_answer_once {nodes = nodes} {after = after} {after'} p q =
    let same : after ≡ after' = agree p.rest q.rest (marks_inside p.marks q.marks) in
    (p.count ∙ ap (λ (l : List ℕ). lut_count (is_root nodes l) nodes) same ∙ sym q.count, same)

pub gates_marked_once : {ids : List ℕ} {at many inputs : ℕ} {before after after' : List ℕ} → GatesMarked ids at many inputs before after →
    GatesMarked ids at many inputs before after' → after ≡ after'
gates_marked_once {ids} {at} {many} {inputs} {before} {after} {after'} p q =
    ext_get_or 0 after after' (p.long ∙ sym q.long) (λ v _. by v (p.others v) (q.others v))
  where
    by : (v : ℕ) → (get_or after v 0 ≡ get_or before v 0) ⊎ GateAmong ids at many inputs v →
        (get_or after' v 0 ≡ get_or before v 0) ⊎ GateAmong ids at many inputs v → get_or after v 0 ≡ get_or after' v 0
    by v (inl x) (inl y) = x ∙ sym y
    by v (inl x) (inr gate) = p.marked v gate ∙ sym (q.marked v gate)
    by v (inr gate) other = p.marked v gate ∙ sym (q.marked v gate)
