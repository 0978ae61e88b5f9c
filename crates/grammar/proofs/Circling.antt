-- The net of a text has a loop exactly if some name depends on itself. From names to gates: what an equation uses lies behind its last gate. From gates
-- to names: every gate belongs to one equation, and what it reads is a gate of that equation with a lower number, an input, or the last gate of an
-- equation whose name is used; so a walk that comes back to its gate has left the equation, and comes back along names.
use Prim.Native.Nat.{ℕ, zero, suc, ◌+◌, ◌-◌, ◌≤◌, ◌<◌}
use native.Mathlib.Decide.{dec_lt}
use native.Mathlib.Omega.{arith}
use mathlib.Core.Path.{◌≡◌, refl, sym, ap, subst, ◌∙◌}
use mathlib.Core.Logic.{◌⊎◌, inl, inr, ⊎_elim, ◌↔◌}
use mathlib.Core.Bool.{Bool, cond}
use mathlib.Core.List.Memᴰ
use mathlib.Core.List.{List, [], ◌∷◌, Memᴰ}
use lib.ListN.{length, get_or}
use borrow.Author.Tests.{lt-ltb}
use Rattle.theory.specs.paper.Net.{Net, Gate}
use Rattle.theory.specs.paper.Walk.{Walked, Behind, Loop, LowestLoop, NoLoop}
use Rattle.theory.specs.paper.Sound.{Bounded}
use Rattle.theory.proofs.Tests.{decided}
use Rattle.theory.proofs.Decisions.{decide_both, decide_some_below}
use Rattle.theory.proofs.DecideCut.{decides_loop}
use Rattle.theory.proofs.Walks.{behind_on, behind_walked, decide_gate}
use Rattle.drawing.specs.paper.Table.{GateLine, no_gate, line_of, net_of}
use Rattle.grammar.specs.paper.Text.{word_at}
use Rattle.grammar.specs.paper.Grammar.{Equation, System, WellFormed}
use Rattle.grammar.specs.paper.Names.{names_in, WellNamed}
use Rattle.grammar.specs.paper.Gates.{equation_size, equation_gates, all_size, Definition, input_nodes, equation_nodes, nodes_of, node_among, node_at, table_for}
use Rattle.grammar.specs.paper.Circles.{Reads, DependsOn, Circular}
use Rattle.grammar.specs.paper.Faithful.{Faithful}
use Rattle.grammar.proofs.Places.{inputs_some, equation_size_some}
use Rattle.grammar.proofs.Sizes.{Begins, last_of, definition_at, begins_somewhere, begins_member, begins_low, begins_high, begins_defined}
use Rattle.grammar.proofs.Sizes.{defined_begins, defined_input, equation_gates_length, table_gates_length}
use Rattle.grammar.proofs.NamesApart.{node_of_definition, use_defined}
use Rattle.grammar.proofs.Values.{equation_behind}
use Rattle.grammar.proofs.Numbered.{numbered_at, Read, equation_gate_reads}
use Rattle.grammar.proofs.Solutions.{used_in, equation_stands, table_inputs, table_bounded, table_faithful}

-- Dependence

pub depends_member : {s : List ℕ} {sys : System} {q r : Equation} → DependsOn s sys q r → Memᴰ r sys.equations
depends_member (DependsOn.reads m r) = m
depends_member (DependsOn.further d m r) = m

depends_on : {s : List ℕ} {sys : System} {q r z : Equation} → DependsOn s sys q r → DependsOn s sys r z → DependsOn s sys q z
depends_on d (DependsOn.reads m r) = DependsOn.further d m r
depends_on d (DependsOn.further e m r) = DependsOn.further (depends_on d e) m r

-- Each gate belongs to one equation

pub record Owned (n : ℕ) (qs : List Equation) (v : ℕ) (q : Equation) : Type 0 where
  pub start : ℕ
  pub begins : Begins n qs start q
  pub low : start ≤ v
  pub high : v < start + equation_size q.tree

owner : (n : ℕ) (qs : List Equation) (v : ℕ) → n ≤ v → v < n + all_size qs → (q : Equation) × Owned n qs v q
unfolding all_size
owner n [] v low high = absurd (omega arith)
owner n (q ∷ qs) v low high =
    by (dec_lt v (n + equation_size q.tree)) (λ far. owner (n + equation_size q.tree) qs v far (omega arith))
  where
    by : Dec (v < n + equation_size q.tree) →
        (n + equation_size q.tree ≤ v → (r : Equation) × Owned (n + equation_size q.tree) qs v r) → (r : Equation) × Owned n (q ∷ qs) v r
    by (yes near) rest = (q, record { start = n; begins = Begins.first; low = low; high = near })
    by (no far) rest =
        let (r, o) = rest (omega arith) in
        (r, record { start = o.start; begins = Begins.later o.begins; low = o.low; high = o.high })

one_owner : {n m m' v : ℕ} {qs : List Equation} {q q' : Equation} → Begins n qs m q → Begins n qs m' q' →
    m ≤ v → v < m + equation_size q.tree → m' ≤ v → v < m' + equation_size q'.tree → q ≡ q'
one_owner Begins.first Begins.first low high low' high' = refl
one_owner Begins.first (Begins.later b) low high low' high' = absurd (omega (arith, begins_low b))
one_owner (Begins.later b) Begins.first low high low' high' = absurd (omega (arith, begins_low b))
one_owner (Begins.later b) (Begins.later b') low high low' high' = one_owner b b' low high low' high'

-- Where the walk back from a gate g of equation q, whose gates begin at `start`, has come to
pub data Reached (s : List ℕ) (sys : System) (g start : ℕ) (q : Equation) (u : ℕ) : Type 0 where
  inside : start ≤ u → u < g → Reached s sys g start q u
  input : u < length sys.inputs → Reached s sys g start q u
  beyond : (r : Equation) → Owned (length sys.inputs) sys.equations u r → DependsOn s sys q r → Reached s sys g start q u

module _ {s : List ℕ} (k : ℕ) {sys : System} (whole : WellFormed s sys) (named : WellNamed s sys) where
  abbrev net : Net
  net = net_of (table_for s k sys)

  -- From names to gates

  reads_behind : {m m' : ℕ} {q r : Equation} → Begins (length sys.inputs) sys.equations m q → Begins (length sys.inputs) sys.equations m' r →
      Reads s q r → Behind net (last_of m q) (last_of m' r)
  reads_behind {m} {m'} {q} {r} b b' reads =
      let its : node_at s sys reads.place ≡ last_of m' r =
      ap (node_among s (nodes_of sys)) reads.named
      ∙ node_of_definition whole named (definition_at m' r) (Memᴰ.append_right (input_nodes 0 sys.inputs) (begins_defined b')) in
      subst (Behind net (last_of m q)) its (equation_behind (table_for s k sys) (node_at s sys) m q.tree (equation_stands s k sys b) reads.used)

  depends_behind : {m : ℕ} {q : Equation} {m' : ℕ} {r : Equation} → Begins (length sys.inputs) sys.equations m q →
      Begins (length sys.inputs) sys.equations m' r → DependsOn s sys q r → Behind net (last_of m q) (last_of m' r)
  depends_behind b b' (DependsOn.reads member reads) = reads_behind b b' reads
  depends_behind {m = m} {q = q} {m' = m'} b b' (DependsOn.further {r = r} {z = z} d member reads) =
      let middle = begins_somewhere (length sys.inputs) (depends_member d) in
      behind_on (depends_behind {m' = middle.0} b middle.1 d) (behind_walked (reads_behind middle.1 b' reads))

  last_gate : {m : ℕ} {q : Equation} → Begins (length sys.inputs) sys.equations m q → Gate net (last_of m q)
  unfolding net_of
  last_gate {m} {q} b =
      let some = equation_size_some q.tree in let low = begins_low b in let high = begins_high b in
      let count = table_gates_length s k sys in let ins = table_inputs s k sys in
      record { above = omega arith; below = omega arith }

  pub circular_loops : Circular s sys → (g : ℕ) × Gate net g × Loop net g
  circular_loops c =
      let (start, b) = begins_somewhere (length sys.inputs) c.member in
      (last_of start c.equation, last_gate b, depends_behind b b c.circle)

  -- From gates to names

  abbrev OwnedHere : ℕ → Equation → Type 0
  OwnedHere v q = Owned (length sys.inputs) sys.equations v q

  -- the node of a name that an equation uses is an input or the last gate of an equation
  name_reached : {v start : ℕ} {q : Equation} (p : ℕ) → Memᴰ q sys.equations → Memᴰ p (names_in q.tree) →
      Reached s sys v start q (node_at s sys p)
  name_reached {v} {start} {q} p member used =
      let (d, among, same) = use_defined named p (Memᴰ.append_left sys.outputs (used_in member used)) in
      let its : d.node ≡ node_at s sys p = sym (node_of_definition whole named d among) ∙ ap (node_among s (nodes_of sys)) same in
      subst (Reached s sys v start q) its
      (⊎_elim (at_input d) (at_equation d same) (Memᴰ.append_cases (input_nodes 0 sys.inputs) among))
    where
      at_input : (d : Definition) → Memᴰ d (input_nodes 0 sys.inputs) → Reached s sys v start q d.node
      at_input d m = let (i, low, e) = defined_input 0 sys.inputs m in Reached.input (omega (arith, ap (λ (x : Definition). x.node) e))

      at_equation : (d : Definition) → word_at s d.place ≡ word_at s p → Memᴰ d (equation_nodes (length sys.inputs) sys.equations) →
          Reached s sys v start q d.node
      at_equation d same m =
          let b = defined_begins (length sys.inputs) sys.equations m in
          let node : d.node ≡ last_of b.start b.equation = ap (λ (x : Definition). x.node) b.same in
          let some = equation_size_some b.equation.tree in
          Reached.beyond b.equation
          (record { start = b.start; begins = b.begins; low = omega arith; high = omega arith })
          (DependsOn.reads (begins_member b.begins)
          (record { place = p; used = used; named = sym same ∙ ap (λ (x : Definition). word_at s x.place) b.same }))

  -- what a gate reads
  fanin_reached : {v u : ℕ} {q : Equation} (o : OwnedHere v q) → Memᴰ u (net.fanins v) → Reached s sys v o.start q u
  unfolding net_of
  fanin_reached {v} {u} {q} o m =
      let low = o.low in let high = o.high in
      let stands = equation_stands s k sys o.begins in
      let size = equation_gates_length (node_at s sys) o.start q.tree in
      let inner : v - o.start < length (equation_gates (node_at s sys) o.start q.tree) = omega arith in
      let back : o.start + (v - o.start) ≡ v = omega arith in
      let line : line_of (table_for s k sys) v ≡ get_or (equation_gates (node_at s sys) o.start q.tree) (v - o.start) no_gate =
      ap (line_of (table_for s k sys)) (sym back) ∙ stands.each (v - o.start) inner in
      by (equation_gate_reads (node_at s sys) o.start q.tree
      (numbered_at o.start (equation_gates (node_at s sys) o.start q.tree) (v - o.start) inner)
      (subst (λ (x : GateLine). Memᴰ u x.fanins) line m))
    where
      by : Read (node_at s sys) o.start (o.start + (v - o.start)) (names_in q.tree) u → Reached s sys v o.start q u
      by (inl (from, to)) = let low = o.low in Reached.inside from (omega arith)
      by (inr (p, used, same)) = subst (Reached s sys v o.start q) (sym same) (name_reached p (begins_member o.begins) used)

  input_reads_nothing : {v u : ℕ} → v < length sys.inputs → Memᴰ u (net.fanins v) → ⊥
  unfolding net_of
  input_reads_nothing {v} {u} low m =
      Memᴰ.not-nil (subst (Memᴰ u) (ap (λ (b : Bool). (cond b no_gate (get_or (table_for s k sys).gates (v - (table_for s k sys).inputs) no_gate)).fanins)
      (lt-ltb v (table_for s k sys).inputs (subst (λ (n : ℕ). v < n) (sym (table_inputs s k sys)) low))) m)

  module _ {g : ℕ} {q : Equation} (o : OwnedHere g q) where
    -- one step further back
    step_reached : {w u : ℕ} → (w ≡ g) ⊎ Reached s sys g o.start q w → Memᴰ u (net.fanins w) → Reached s sys g o.start q u
    step_reached {w} {u} (inl e) m = fanin_reached o (subst (λ (x : ℕ). Memᴰ u (net.fanins x)) e m)
    step_reached {w} {u} (inr (Reached.inside low high)) m = inner (fanin_reached here m)
      where
        here : OwnedHere w q
        here = let top = o.high in record { start = o.start; begins = o.begins; low = low; high = omega arith }

        inner : Reached s sys w o.start q u → Reached s sys g o.start q u
        inner (Reached.inside from to) = Reached.inside from (omega arith)
        inner (Reached.input at) = Reached.input at
        inner (Reached.beyond r at d) = Reached.beyond r at d
    step_reached (inr (Reached.input low)) m = absurd (input_reads_nothing low m)
    step_reached {w} {u} (inr (Reached.beyond r at d)) m = outer (fanin_reached at m)
      where
        outer : Reached s sys w at.start r u → Reached s sys g o.start q u
        outer (Reached.inside from to) =
            let top = at.high in Reached.beyond r (record { start = at.start; begins = at.begins; low = from; high = omega arith }) d
        outer (Reached.input there) = Reached.input there
        outer (Reached.beyond z there e) = Reached.beyond z there (depends_on d e)

    walk_reached : {w : ℕ} → Walked net [] g w → (w ≡ g) ⊎ Reached s sys g o.start q w
    walk_reached Walked.start = inl refl
    walk_reached (Walked.step walk m _) = inr (step_reached (walk_reached walk) m)

    -- a gate that is reached from itself belongs to an equation that depends on itself
    back_again : Reached s sys g o.start q g → Circular s sys
    back_again (Reached.inside low high) = absurd (omega arith)
    back_again (Reached.input low) = absurd (omega (arith, o.low, begins_low o.begins))
    back_again (Reached.beyond r at d) =
        let same : r ≡ q = one_owner at.begins o.begins at.low at.high o.low o.high in
        record { equation = q; member = begins_member o.begins; circle = subst (DependsOn s sys q) same d }

  pub loop_circular : (g : ℕ) → Gate net g → Loop net g → Circular s sys
  unfolding net_of
  loop_circular g gate loop =
      let count = table_gates_length s k sys in let ins = table_inputs s k sys in
      let high = gate.below in let low = gate.above in
      let (q, o) = owner (length sys.inputs) sys.equations g (omega arith) (omega arith) in
      back_again o (step_reached o (walk_reached o loop.walked) loop.feeds)

  -- The net has no loop exactly if no name depends on itself.
  pub no_loop_no_circle : NoLoop net ↔ (Circular s sys → ⊥)
  no_loop_no_circle =
      (λ free c. let (g, gate, loop) = circular_loops c in free g gate loop, λ free g gate loop. free (loop_circular g gate loop))

-- The lowest gate of a loop

least : (P : ℕ → Type 0) → ((v : ℕ) → Dec (P v)) → (n g : ℕ) → g < n → P g → (h : ℕ) × P h × ((w : ℕ) → w < h → P w → ⊥)
least P decide zero g low holds = absurd (omega arith)
least P decide (suc n) g low holds = by (decide_some_below P g decide) (λ h less also. least P decide n h (omega arith) also)
  where
    by : Dec ((v : ℕ) × (v < g) × P v) → ((h : ℕ) → h < g → P h → (m : ℕ) × P m × ((w : ℕ) → w < m → P w → ⊥)) →
        (h : ℕ) × P h × ((w : ℕ) → w < h → P w → ⊥)
    by (yes (h, less, also)) below = below h less also
    by (no lacking) below = (g, holds, λ w less also. lacking (w, less, also))

lowest_loop : {net : Net} {k g : ℕ} → Bounded net k → Gate net g → Loop net g → (h : ℕ) × LowestLoop net h
lowest_loop {net} {k} {g} bounded gate loop =
    let (h, (its, round), first) = least (λ v. Gate net v × Loop net v)
    (λ v. decide_both (decide_gate v) (λ its. decided (decides_loop bounded its.below))) (suc g) g (omega arith) (gate, loop) in
    (h, record { gate = its; loop = round; lowest = λ w less other around. first w less (other, around) })

-- A loop is named exactly if some name depends on itself.
pub circle_is_loop : {s : List ℕ} (k : ℕ) {sys : System} → WellFormed s sys → WellNamed s sys → 2 ≤ k →
    Circular s sys ↔ ((g : ℕ) × LowestLoop (net_of (table_for s k sys)) g)
circle_is_loop {s} k {sys} whole named two = (
  λ c. let (g, gate, loop) = circular_loops k whole named c in lowest_loop (table_bounded s k sys two (inputs_some whole)) gate loop,
  λ some. loop_circular k whole named some.0 some.1.gate some.1.loop,
)

-- So the table computes what the equations say, if no name depends on itself.
pub faithful_without_circles : {s : List ℕ} (k : ℕ) {sys : System} → WellFormed s sys → WellNamed s sys → 2 ≤ k → (Circular s sys → ⊥) →
    Faithful s sys (table_for s k sys)
faithful_without_circles k whole named two free = table_faithful k whole named two ((no_loop_no_circle k whole named).1 free)
