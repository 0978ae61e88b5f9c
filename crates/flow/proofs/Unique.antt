-- The promise of `find` settles its reply: two answers that it allows are equal, and so are the buffers, but for the evidence. Where two leave the same
-- evidence, their links are the same too.
use Prim.Native.Nat.{ℕ, zero, suc, ◌+◌, ◌*◌, ◌-◌, ◌≤◌, ◌<◌}
use native.Mathlib.Omega.{arith}
use mathlib.Core.Path.{◌≡◌, sym, ap, ◌∙◌}
use mathlib.Core.List.{List}
use lib.ListN.{length, take}
use lib.Seq.{sets, ext_get_or}
use Rattle.theory.specs.paper.Evidence.{Evidence, LeastCut}
use Rattle.theory.proofs.Walks.{cut_stops}
use Rattle.theory.proofs.Cuts.{same_cone_same_cut}
use Rattle.theory.proofs.Duality.{evidence_is_tight}
use Rattle.storage.specs.Columns.{column}
use Rattle.storage.specs.Entries.{at}
use Rattle.storage.specs.Drawings.{net_in, Arranged}
use Rattle.storage.proofs.InColumns.{column_size, columns_whole}
use Rattle.std.specs.Prelude.{Option, Some}
use Rattle.storage.specs.declared.CutSize.{CutSize}
use Rattle.flow.specs.Paths.{paths_in, LinksIn}
use Rattle.flow.specs.Answer.{FlowAsked, FlowLeft, FlowAnswer}
use Rattle.flow.proofs.Orders.{order_ranked, order_low, no_feeds}
use Rattle.flow.proofs.Leads.{next_same, prev_same}

-- The paths tell the links: where the paths are the same, so are the links.
abbrev pub SameLinks : (inputs nodes : ℕ) (links links' : List ℕ) → Type 0
SameLinks inputs nodes links links' = paths_in inputs nodes links ≡ paths_in inputs nodes links' → links ≡ links'

-- columns of one length with the same entries are the same
column_one : (n c : ℕ) (l m : List ℕ) → c * n + n ≤ length l → length l ≡ length m → ((v : ℕ) → at (column n c l) v ≡ at (column n c m) v) → column n c l ≡ column n c m
column_one n c l m long size same =
    ext_get_or 0 (column n c l) (column n c m) (column_size n c l long ∙ sym (column_size n c m (omega arith))) (λ v _. same v)

pub links_one : {inputs nodes k : ℕ} {fanins order : List ℕ} → Arranged inputs nodes k fanins order → {links₀ links links' : List ℕ} →
    5 * nodes ≤ length links₀ → LinksIn (net_in inputs nodes fanins) nodes links → LinksIn (net_in inputs nodes fanins) nodes links' →
    FlowLeft nodes links₀ links → FlowLeft nodes links₀ links' → SameLinks inputs nodes links links'
unfolding net_in paths_in
links_one {inputs} {nodes} {fanins = fanins} {order = order} drawing {links₀} {links} {links'} long a b left left' same =
    let ordered = drawing.ordered in
    let bounded = drawing.drawn.bounded in
    let ranked = order_ranked bounded (no_feeds inputs nodes fanins) ordered in
    let low = order_low bounded (no_feeds inputs nodes fanins) ordered in
    let fits : 1 ≤ inputs → suc (length (take (nodes - inputs) order)) ≤ nodes = λ some. let size = ordered.size in omega arith in
    let size : length links ≡ length links' = left.rest.size ∙ sym left'.rest.size in
    let room : 5 * nodes ≤ length links = omega (arith, left.rest.size) in
    let next = column_one nodes 0 links links' (omega arith) size (next_same ranked low a b fits same) in
    let prev = column_one nodes 1 links links' (omega arith) size (prev_same ranked low a b fits same) in
    columns_whole nodes 5 links links' (by_column next prev) (left.rest.beyond ∙ sym left'.rest.beyond)
  where
    by_column : column nodes 0 links ≡ column nodes 0 links' → column nodes 1 links ≡ column nodes 1 links' → (c : ℕ) → c < 5 → column nodes c links ≡ column nodes c links'
    by_column next prev zero _ = next
    by_column next prev (suc zero) _ = prev
    by_column next prev (suc (suc zero)) _ = left.ins ∙ sym left'.ins
    by_column next prev (suc (suc (suc zero))) _ = left.outs ∙ sym left'.outs
    by_column next prev (suc (suc (suc (suc zero)))) _ = left.parent ∙ sym left'.parent
    by_column next prev (suc (suc (suc (suc (suc c))))) low = absurd (omega arith)

-- one reply, and one content of each buffer; of the links where the paths are the same
pub record OneAnswer (inputs nodes : ℕ) (r q : Option CutSize) (links' cut' links'' cut'' : List ℕ) : Type 0 where
  pub links_same : SameLinks inputs nodes links' links''
  pub reply : r ≡ q
  pub cut_one : cut' ≡ cut''

module _ {inputs nodes k : ℕ} {fanins order roles links cut : List ℕ} (asked : FlowAsked inputs nodes k fanins order roles links cut) where
  least_one : {list other : List ℕ} → LeastCut (net_in inputs nodes fanins) k asked.lab asked.t list →
      LeastCut (net_in inputs nodes fanins) k asked.lab asked.t other → list ≡ other
  least_one {list} {other} a b =
      let same : length list ≡ length other = omega (arith, a.fewest other b.cut b.outside, b.fewest list a.cut a.outside) in
      let bounded = asked.drawing.drawn.bounded in
      same_cone_same_cut bounded (order_ranked bounded (no_feeds inputs nodes fanins) asked.drawing.ordered) asked.marks.gate
      a.cut b.cut (b.largest list a.cut a.outside same) (a.largest other b.cut b.outside (omega arith))

  never : {paths : List (List ℕ)} {list : List ℕ} → Evidence (net_in inputs nodes fanins) k asked.lab asked.t paths →
      LeastCut (net_in inputs nodes fanins) k asked.lab asked.t list → ⊥
  never {list = list} evidence least =
      evidence_is_tight asked.marks.never_falls asked.drawing.drawn.bounded asked.marks.gate.below evidence list
      (cut_stops least.cut) least.outside

  pub answer_is_one : {r q : Option CutSize} {links' cut' links'' cut'' : List ℕ} → FlowAnswer inputs nodes k fanins roles links cut r links' cut' →
      FlowAnswer inputs nodes k fanins roles links cut q links'' cut'' → OneAnswer inputs nodes r q links' cut' links'' cut''
  answer_is_one (FlowAnswer.paths e _ stand left same) (FlowAnswer.paths f _ stand' left' same') =
      record {
        links_same = links_one asked.drawing asked.links_long stand stand' left left';
        reply = e ∙ sym f;
        cut_one = same ∙ sym same';
      }
  answer_is_one (FlowAnswer.cut size list e size_is least clear same) (FlowAnswer.cut size' list' f size-is' least' clear' same') =
      let alike : list ≡ list' = least_one (least asked.lab asked.t asked.marks) (least' asked.lab asked.t asked.marks) in
      let sizes : size ≡ size' = λ j. record { leaves = (sym size_is ∙ ap length alike ∙ size-is') j } in
      record {
        links_same = λ _. clear ∙ sym clear';
        reply = e ∙ ap Some sizes ∙ sym f;
        cut_one = same ∙ ap (sets cut 0) alike ∙ sym same';
      }
  answer_is_one (FlowAnswer.paths e evidence _ _ _) (FlowAnswer.cut size list f _ least _ _) =
      absurd (never (evidence asked.lab asked.t asked.marks) (least asked.lab asked.t asked.marks))
  answer_is_one (FlowAnswer.cut size list f _ least _ _) (FlowAnswer.paths e evidence _ _ _) =
      absurd (never (evidence asked.lab asked.t asked.marks) (least asked.lab asked.t asked.marks))
