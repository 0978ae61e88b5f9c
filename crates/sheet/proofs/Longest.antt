-- No acceptable sheet is longer than 43,554 bytes. The paths of a line have no node twice, and avoid t and a fanin of t that is in D, so they
-- have n - 2 ids at most; the rest is counting.
use Prim.Native.Nat.{ℕ, zero, suc, ◌+◌, ◌*◌, ◌-◌, ◌<◌, ◌≤◌}
use native.Mathlib.Nat.{mul-le-mul, mul-le-mul_right, not-suc-le-zero}
use native.Mathlib.Decide.{dec_lt}
use native.Mathlib.Omega.{arith}
use mathlib.Core.Path.{◌≡◌, refl, ap}
use mathlib.Core.Logic.{◌⊎◌, inl, inr, ⊎_elim}
use mathlib.Core.List.Memᴰ
use mathlib.Core.List.{List, [], ◌∷◌, ◌++◌, flat_map, Memᴰ}
use lib.ListN.{length, get_or, length-append}
use Rattle.theory.specs.paper.Net.{Net, Gate, Input}
use Rattle.theory.specs.paper.Lists.{NoRepeats}
use Rattle.theory.specs.paper.Walk.{Walked, Cut}
use Rattle.theory.specs.paper.Evidence.{peak, InD, joined, Evidence}
use Rattle.theory.proofs.Members.{no_longer, greatest_stands}
use Rattle.theory.proofs.Walks.{met_node, fanin_node, input_or_gate}
use Rattle.sheet.specs.declared.Form.{Form}
use Rattle.sheet.specs.paper.Sheet.{Line, Sheet, no_line}
use Rattle.sheet.specs.paper.Encoding.{narrow, head_field, line_field, lut_field, encode}
use Rattle.sheet.specs.Longest.{Backed, Drawing, Kept, line_most, lut_most, sheet_most, no_lut}
use Rattle.sheet.proofs.Lengths.{length_head, length_line, length_lut, flat_most}

-- all nodes
unfoldable below : ℕ → List ℕ
below zero = []
below (suc n) = n ∷ below n

length_below : (n : ℕ) → length (below n) ≡ n
unfolding below
length_below zero = refl
length_below (suc n) = ap suc (length_below n)

below_all : (n v : ℕ) → v < n → Memᴰ v (below n)
unfolding below
below_all zero v h = absurd (not-suc-le-zero h)
below_all (suc n) v h = by_order (dec_lt v n) (below_all n v)
  where
    by_order : Dec (v < n) → (v < n → Memᴰ v (below n)) → Memᴰ v (n ∷ below n)
    by_order (yes low) lower = Memᴰ.tail (lower low)
    by_order (no high) lower = Memᴰ.head {x = n} (omega arith)

-- a member of all paths joined is on one of them
abbrev pub OnPath : List (List ℕ) → ℕ → Type 0
OnPath paths v = (path : List ℕ) × Memᴰ path paths × Memᴰ v path

pub on_a_path : (paths : List (List ℕ)) (v : ℕ) → Memᴰ v (joined paths) → OnPath paths v
unfolding joined
on_a_path [] v m = absurd (Memᴰ.not-nil m)
on_a_path (path ∷ paths) v m = by_place (Memᴰ.append_cases path m) (on_a_path paths v)
  where
    by_place : Memᴰ v path ⊎ Memᴰ v (joined paths) → (Memᴰ v (joined paths) → OnPath paths v) → OnPath (path ∷ paths) v
    by_place (inl here) rest = (path, Memᴰ.head refl, here)
    by_place (inr later) rest = let (other, among, on) = rest later in (other, Memᴰ.tail among, on)

module _ {net : Net} {k : ℕ} (drawing : Drawing net k) {lab : ℕ → ℕ} (inputs_zero : (v : ℕ) → Input net v → lab v ≡ 0) {t : ℕ} (gate : Gate net t) where
  -- a fanin of t that is in D, where p is at least 1
  record InnerFanin : Type 0 where
    node : ℕ
    fanin : Memᴰ node (net.fanins t)
    inside : InD net lab t node

  inner_fanin : 1 ≤ peak net lab t → InnerFanin
  unfolding peak
  inner_fanin due =
      let (u, fanin, stands) = greatest_stands lab (net.fanins t) due in
      let is_gate_lem : Gate net u =
      ⊎_elim (λ (input : Input net u). absurd (omega (arith, inputs_zero u input, stands))) (λ (g : Gate net u). g)
      (input_or_gate u (fanin_node drawing.bounded gate.below fanin)) in
      record { node = u; fanin = fanin; inside = InD.behind is_gate_lem (record { reader = t; walked = Walked.start; feeds = fanin }) stands }

  -- "No node is on two paths or twice on one", and no path passes t or that fanin: two nodes at least are on none.
  pub ids_few : {paths : List (List ℕ)} → 1 ≤ peak net lab t → Evidence net k lab t paths → 2 + length (joined paths) ≤ net.nodes
  ids_few {paths} due evidence =
      let inner : InnerFanin = inner_fanin due in
      let u = inner.node in
      let off : (v : ℕ) → InD net lab t v → Memᴰ v (joined paths) → ⊥ =
      λ v member m. let (path, among, on) = on_a_path paths v m in (evidence.each path among).outside v on member in
      let apart : t ≡ u → ⊥ =
      λ e. drawing.no_loop t (record { reader = t; walked = Walked.start; feeds = Memᴰ.cast e inner.fanin }) in
      let all : NoRepeats (t ∷ u ∷ joined paths) =
      NoRepeats.more
      (λ m. ⊎_elim (λ (e : t ≡ u). apart e) (λ (later : Memᴰ t (joined paths)). off t InD.self later) (Memᴰ.cases_cons m))
      (NoRepeats.more (off u inner.inside) evidence.apart) in
      let node : (v : ℕ) → Memᴰ v (joined paths) → v < net.nodes =
      λ v m. let (path, among, on) = on_a_path paths v m in met_node drawing.bounded gate.below ((evidence.each path among).behind v on) in
      let nodes : (v : ℕ) → Memᴰ v (t ∷ u ∷ joined paths) → Memᴰ v (below net.nodes) =
      λ v m. below_all net.nodes v
      (⊎_elim (λ (e : v ≡ t). omega (arith, gate.below))
      (λ (later : Memᴰ v (u ∷ joined paths)).
      ⊎_elim (λ (e : v ≡ u). omega (arith, fanin_node drawing.bounded gate.below inner.fanin)) (λ (last : Memᴰ v (joined paths)). node v last) (Memᴰ.cases_cons later))
      (Memᴰ.cases_cons m)) in
      omega (arith, no_longer (below net.nodes) all nodes, length_below net.nodes)

  numbers_few : {paths : List (List ℕ)} → 2 ≤ net.nodes → Backed net k lab t paths → length paths + length (joined paths) ≤ k + net.nodes - 1
  unfolding joined
  numbers_few two Backed.bare = omega arith
  numbers_few two (Backed.proven due evidence) = omega (arith, evidence.count, ids_few due evidence)

  pub line_short : (form : Form) (line : Line) → Cut net k t line.leaves → Backed net k lab t line.paths →
      length (line_field form line) ≤ line_most form.width k net.nodes
  line_short form line cut backed =
      let two : 2 ≤ net.nodes = omega (arith, drawing.some, gate.above, gate.below) in
      omega (
        arith,
        length_line form line,
        mul-le-mul_right form.width cut.few,
        mul-le-mul_right form.width (numbers_few two backed),
      )

module _ {net : Net} {k : ℕ} (drawing : Drawing net k) {lab : ℕ → ℕ} {sheet : Sheet} (kept : Kept net k lab sheet) (form : Form) where
  line_gate : (i : ℕ) → i < length sheet.lines → Gate net (net.inputs + i)
  line_gate i inside = record { above = omega arith; below = omega (arith, kept.gates) }

  pub lines_short : length (flat_map (line_field form) sheet.lines) ≤ length sheet.lines * line_most form.width k net.nodes
  lines_short =
      flat_most (line_field form) no_line (line_most form.width k net.nodes) sheet.lines
      (λ i inside. line_short drawing kept.inputs (line_gate i inside) form (get_or sheet.lines i no_line) (kept.cuts i inside) (kept.backed i inside))

  pub luts_short : length (flat_map (lut_field form) sheet.luts) ≤ length sheet.luts * lut_most form.width k
  luts_short =
      flat_most (lut_field form) no_lut (lut_most form.width k) sheet.luts
      (λ i inside. omega (
        arith,
        length_lut form (get_or sheet.luts i no_lut),
        mul-le-mul_right form.width (kept.lut_cuts i inside).few,
      ))

  pub sheet_short : length (encode form sheet) ≤ sheet_most form.width k net.nodes (length sheet.lines)
  unfolding encode
  sheet_short =
      omega (
        arith,
        length-append (head_field form sheet.depth (length sheet.luts) ++ flat_map (line_field form) sheet.lines) (flat_map (lut_field form) sheet.luts),
        length-append (head_field form sheet.depth (length sheet.luts)) (flat_map (line_field form) sheet.lines),
        length_head form sheet.depth (length sheet.luts),
        lines_short,
        luts_short,
        mul-le-mul_right (lut_most form.width k) kept.few,
      )

-- the bound grows with K, the nodes and the gates
pub most_grows : (width : ℕ) {k k' n n' g g' : ℕ} → k ≤ k' → n ≤ n' → g ≤ g' → sheet_most width k n g ≤ sheet_most width k' n' g'
most_grows width {k} {k'} {n} {n'} {g} {g'} ks ns gs =
    let leaves : k * width ≤ k' * width = mul-le-mul_right width ks in
    let numbers : (k + n - 1) * width ≤ (k' + n' - 1) * width = mul-le-mul_right width (omega arith) in
    let line : line_most width k n ≤ line_most width k' n' = omega arith in
    let lut : lut_most width k ≤ lut_most width k' = omega arith in
    omega (arith, mul-le-mul gs line, mul-le-mul gs lut)

-- "no acceptable sheet is longer than 43,554": the drawings that document 01 takes have at most 192 nodes, and K is at most 6.
pub no_longer_than : {net : Net} {k : ℕ} → Drawing net k → {lab : ℕ → ℕ} {sheet : Sheet} → Kept net k lab sheet →
    k ≤ 6 → net.nodes ≤ 192 → length (encode narrow sheet) ≤ 43554
no_longer_than {net} {k} drawing {sheet = sheet} kept few nodes =
    let gates : length sheet.lines ≤ 191 = omega (arith, drawing.some, kept.gates) in
    omega (arith, sheet_short drawing kept narrow, most_grows 1 few nodes gates)
