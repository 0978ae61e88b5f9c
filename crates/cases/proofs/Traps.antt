-- Readings of the paper that go wrong, each with a drawing on which it would differ from the definitions. A trap is a drawing, a gate of it, and
-- a statement about that gate that holds or fails; one computed test shows all of them.
use Prim.Native.Nat.{ℕ, ◌-◌, ◌<◌}
use mathlib.Core.Path.{◌≡◌, refl}
use mathlib.Core.Bool.{Bool, true, not, cond, ◌&&◌}
use mathlib.Core.List.{List, [], ◌∷◌, Memᴰ}
use lib.ListN.{get_or}
use lib.Dec.{ltb}
use Rattle.theory.specs.paper.Net.{Net}
use Rattle.theory.specs.paper.Sound.{Bounded}
use Rattle.theory.specs.paper.Walk.{Cut, Loop}
use Rattle.theory.specs.paper.Cover.{Cover}
use Rattle.theory.specs.Members.{luts_of}
use Rattle.theory.specs.paper.Evidence.{InD, Evidence, MappersCut}
use Rattle.theory.specs.Lines.{Line}
use Rattle.theory.proofs.Tests.{Decides, passed, decides_itself, ◌and_then◌, decides_not, decides_every, every}
use Rattle.theory.proofs.DecideNet.{is_bounded, decides_bounded, is_gate, decides_gate}
use Rattle.theory.proofs.DecideCut.{is_cut, decides_cut, is_loop, decides_loop}
use Rattle.theory.proofs.DecideEvidence.{is_in_d, decides_in_d, is_evidence, decides_evidence}
use Rattle.theory.proofs.DecideLabels.{is_line, decides_line}
use Rattle.theory.proofs.DecideMapper.{is_mappers_cut, decides_mappers_cut}
use Rattle.theory.proofs.DecideCover.{is_cover, decides_cover}
use Rattle.drawing.specs.paper.Table.{GateLine, Table, net_of}
use Rattle.cases.specs.paper.Cases.{and, or, inverse}
use Rattle.cases.specs.paper.Drawings.{p1, p3, p4, p5, p6, p8, p9}

-- the v-th of a list that begins after the inputs
abbrev pub of_gate : {A : Type 0} → ℕ → A → List A → ℕ → A
of_gate inputs none gates v = cond (ltb v inputs) none (get_or gates (v - inputs) none)

-- `labels` and `leaves` are those of the gates, in id order.
pub data Statement : Type 0 where
  loop : Statement
  cut : (k : ℕ) (leaves : List ℕ) → Statement
  in_d : (labels : List ℕ) (v : ℕ) → Statement
  evidence : (k : ℕ) (labels : List ℕ) (paths : List (List ℕ)) → Statement
  mappers_cut : (k : ℕ) (labels leaves : List ℕ) → Statement
  line : (k : ℕ) (labels leaves : List ℕ) (paths : List (List ℕ)) → Statement
  cover : (k : ℕ) (outputs roots : List ℕ) (leaves : List (List ℕ)) → Statement

pub data Trap : Type 0 where
  holds : (drawing : Table) (gate : ℕ) → Statement → Trap
  fails : (drawing : Table) (gate : ℕ) → Statement → Trap

abbrev pub Says : Net → ℕ → Statement → Type 0
Says net t loop = Loop net t
Says net t (cut k leaves) = Cut net k t leaves
Says net t (in_d labels v) = InD net (of_gate net.inputs 0 labels) t v
Says net t (evidence k labels paths) = Evidence net k (of_gate net.inputs 0 labels) t paths
Says net t (mappers_cut k labels leaves) = MappersCut net k (of_gate net.inputs 0 labels) t leaves
Says net t (line k labels leaves paths) = Line net k (of_gate net.inputs 0 labels) t leaves paths
Says net t (cover k outputs roots leaves) = Cover net k outputs (luts_of roots (of_gate net.inputs [] leaves))

unfoldable is_so : Net → ℕ → Statement → Bool
unfolding is_loop is_cut is_in_d is_evidence is_mappers_cut is_line is_cover
is_so net t loop = is_loop net t
is_so net t (cut k leaves) = is_cut net k t leaves
is_so net t (in_d labels v) = is_in_d net (of_gate net.inputs 0 labels) t v
is_so net t (evidence k labels paths) = is_evidence net k (of_gate net.inputs 0 labels) t paths
is_so net t (mappers_cut k labels leaves) = is_mappers_cut net k (of_gate net.inputs 0 labels) t leaves
is_so net t (line k labels leaves paths) = is_line net k (of_gate net.inputs 0 labels) t leaves paths
is_so net t (cover k outputs roots leaves) = is_cover net k outputs roots (of_gate net.inputs [] leaves)

decides_statement : {net : Net} {b : ℕ} → Bounded net b → {t : ℕ} → t < net.nodes → (s : Statement) → Decides (is_so net t s) (Says net t s)
unfolding is_so
decides_statement {net} bounded node loop = decides_loop bounded node
decides_statement {net} bounded node (cut k leaves) = decides_cut bounded node k leaves
decides_statement {net} bounded node (in_d labels v) = decides_in_d bounded (of_gate net.inputs 0 labels) node v
decides_statement {net} bounded node (evidence k labels paths) = decides_evidence bounded (of_gate net.inputs 0 labels) node k paths
decides_statement {net} bounded node (mappers_cut k labels leaves) = decides_mappers_cut bounded k (of_gate net.inputs 0 labels) node leaves
decides_statement {net} bounded node (line k labels leaves paths) = decides_line bounded k (of_gate net.inputs 0 labels) node leaves paths
decides_statement {net} bounded node (cover k outputs roots leaves) = decides_cover bounded k outputs roots (of_gate net.inputs [] leaves)

abbrev pub Avoided : Trap → Type 0
Avoided (holds drawing gate s) = Says (net_of drawing) gate s
Avoided (fails drawing gate s) = Says (net_of drawing) gate s → ⊥

unfoldable is_avoided : Trap → Bool
unfolding net_of is_bounded is_gate is_so
is_avoided (holds drawing gate s) = is_bounded (net_of drawing) 2 && is_gate (net_of drawing) gate && is_so (net_of drawing) gate s
is_avoided (fails drawing gate s) = is_bounded (net_of drawing) 2 && is_gate (net_of drawing) gate && not (is_so (net_of drawing) gate s)

avoided : (trap : Trap) → is_avoided trap ≡ true → Avoided trap
unfolding is_avoided
avoided (holds drawing gate s) = passed
    (decides_bounded (net_of drawing) 2 and_then (λ _. decides_gate (net_of drawing) gate) and_then (λ h. decides_statement h.0 h.1.below s))
    (λ h. h.1)
avoided (fails drawing gate s) = passed
    (decides_bounded (net_of drawing) 2 and_then (λ _. decides_gate (net_of drawing) gate) and_then (λ h. decides_not (decides_statement h.0 h.1.below s)))
    (λ h. h.1)

-- Drawings that are not the paper's; a trap names K and outputs itself where they matter.
abbrev drawn : (inputs : ℕ) → List GateLine → Table
drawn inputs gates = record { k = 2; inputs = inputs; gates = gates; outputs = [] }

-- the labels of p4's gates
abbrev l4 : List ℕ
l4 = 1 ∷ 1 ∷ 1 ∷ 1 ∷ 2 ∷ 2 ∷ []

-- p1 with an inverse of 4
abbrev aside : Table
aside = drawn 4 (and 0 1 ∷ and 2 3 ∷ or 4 5 ∷ inverse 4 ∷ [])

-- a chain of ands of four inputs, and its inverse
abbrev chain : Table
chain = drawn 4 (and 0 1 ∷ and 4 2 ∷ and 5 3 ∷ inverse 6 ∷ [])

-- gate 1 reads the input, 2 and 3 each other
abbrev apart : Table
apart = drawn 1 (inverse 0 ∷ inverse 3 ∷ inverse 2 ∷ [])

unfoldable pub traps : List Trap
traps =
    -- Edges across a cut counted for nodes: three edges come into the cone of 3, from two nodes.
    holds p3.table 3 (cut 2 (0 ∷ 1 ∷ [])) ∷
    -- A repeated fanin counted twice; a leaf written twice.
    holds p6.table 1 (cut 1 (0 ∷ [])) ∷
    fails p6.table 1 (cut 2 (0 ∷ 0 ∷ [])) ∷
    -- A gate as its own leaf, the walk stopping before it starts.
    fails p3.table 2 (cut 2 (2 ∷ [])) ∷
    fails p3.table 3 (cut 3 (0 ∷ 2 ∷ 3 ∷ [])) ∷
    -- A leaf that the walk does not meet: 1 is behind the leaf 2; 2 is not behind 4.
    holds p3.table 3 (cut 3 (0 ∷ 2 ∷ [])) ∷
    fails p3.table 3 (cut 3 (0 ∷ 1 ∷ 2 ∷ [])) ∷
    fails p1.table 4 (cut 3 (0 ∷ 1 ∷ 2 ∷ [])) ∷
    -- An input that is met and is no leaf (3); too many leaves; leaves that do not rise.
    holds p1.table 6 (cut 3 (0 ∷ 1 ∷ 5 ∷ [])) ∷
    fails p1.table 6 (cut 3 (0 ∷ 1 ∷ 2 ∷ [])) ∷
    holds p1.table 6 (cut 4 (0 ∷ 1 ∷ 2 ∷ 3 ∷ [])) ∷
    fails p1.table 6 (cut 3 (0 ∷ 1 ∷ 2 ∷ 3 ∷ [])) ∷
    fails p1.table 6 (cut 3 (5 ∷ 4 ∷ [])) ∷
    -- A cut without leaves: the walk from 2 meets no input.
    fails p9.table 2 (cut 2 []) ∷
    -- Inputs taken into D when p is 0: then no cut of 4 would lie outside D.
    holds p1.table 4 (in_d (1 ∷ 1 ∷ 2 ∷ []) 4) ∷
    fails p1.table 4 (in_d (1 ∷ 1 ∷ 2 ∷ []) 0) ∷
    -- Gates of label p taken into D that are not behind the gate: 5 is not behind 7.
    holds aside 7 (in_d (1 ∷ 1 ∷ 2 ∷ 1 ∷ []) 4) ∷
    fails aside 7 (in_d (1 ∷ 1 ∷ 2 ∷ 1 ∷ []) 5) ∷
    -- A gate left out of its D for its label: 8 has p + 1.
    holds p4.table 8 (in_d l4 8) ∷
    -- A path through D: 4 is in D of 8.
    holds p4.table 8 (evidence 2 l4 ((0 ∷ []) ∷ (1 ∷ []) ∷ (2 ∷ []) ∷ [])) ∷
    fails p4.table 8 (evidence 2 l4 ((0 ∷ 4 ∷ []) ∷ (1 ∷ []) ∷ (2 ∷ []) ∷ [])) ∷
    -- Two paths that share a node; K paths for K + 1; more than K + 1.
    holds p5.table 4 (evidence 2 (1 ∷ 2 ∷ []) ((0 ∷ []) ∷ (1 ∷ []) ∷ (2 ∷ []) ∷ [])) ∷
    fails p5.table 4 (evidence 2 (1 ∷ 2 ∷ []) ((0 ∷ []) ∷ (0 ∷ []) ∷ (2 ∷ []) ∷ [])) ∷
    fails p5.table 4 (evidence 2 (1 ∷ 2 ∷ []) ((0 ∷ []) ∷ (1 ∷ []) ∷ [])) ∷
    fails p5.table 4 (evidence 1 (1 ∷ 2 ∷ []) ((0 ∷ []) ∷ (1 ∷ []) ∷ (2 ∷ []) ∷ [])) ∷
    -- Paths that start at a gate, skip a gate, end before a fanin of D, or are empty.
    holds p4.table 9 (evidence 1 l4 ((0 ∷ 4 ∷ 6 ∷ []) ∷ (2 ∷ 5 ∷ 7 ∷ []) ∷ [])) ∷
    fails p4.table 9 (evidence 1 l4 ((6 ∷ []) ∷ (2 ∷ 5 ∷ 7 ∷ []) ∷ [])) ∷
    fails p4.table 9 (evidence 1 l4 ((0 ∷ 6 ∷ []) ∷ (2 ∷ 5 ∷ 7 ∷ []) ∷ [])) ∷
    fails p4.table 9 (evidence 1 l4 ((0 ∷ 4 ∷ []) ∷ (2 ∷ 5 ∷ 7 ∷ []) ∷ [])) ∷
    fails p4.table 9 (evidence 1 l4 ([] ∷ (2 ∷ 5 ∷ 7 ∷ []) ∷ [])) ∷
    -- The nearest of the cuts of two leaves taken, not the one with the largest cone; a cut inside D.
    holds p4.table 9 (mappers_cut 2 l4 (4 ∷ 5 ∷ [])) ∷
    fails p4.table 9 (mappers_cut 2 l4 (6 ∷ 7 ∷ [])) ∷
    fails p4.table 9 (mappers_cut 2 l4 (8 ∷ [])) ∷
    -- The largest cone taken before the fewest leaves: 2 3 4 is the only cut of three leaves outside D of 7.
    holds chain 7 (mappers_cut 3 (1 ∷ 1 ∷ 2 ∷ 2 ∷ []) (3 ∷ 5 ∷ [])) ∷
    fails chain 7 (mappers_cut 3 (1 ∷ 1 ∷ 2 ∷ 2 ∷ []) (2 ∷ 3 ∷ 4 ∷ [])) ∷
    -- At p + 1: fanins in the table's order, not all of them, or more than them.
    holds p5.table 4 (mappers_cut 2 (1 ∷ 2 ∷ []) (2 ∷ 3 ∷ [])) ∷
    fails p5.table 4 (mappers_cut 2 (1 ∷ 2 ∷ []) (3 ∷ 2 ∷ [])) ∷
    fails p5.table 4 (mappers_cut 2 (1 ∷ 2 ∷ []) (3 ∷ [])) ∷
    fails p5.table 4 (mappers_cut 2 (1 ∷ 2 ∷ []) (0 ∷ 2 ∷ 3 ∷ [])) ∷
    -- A label p + 1 without evidence; evidence asked for where p is 0.
    holds p3.table 3 (line 2 (1 ∷ 1 ∷ []) (0 ∷ 1 ∷ []) []) ∷
    fails p3.table 3 (line 2 (1 ∷ 2 ∷ []) (0 ∷ 2 ∷ []) []) ∷
    holds p1.table 4 (line 3 (1 ∷ 1 ∷ 2 ∷ []) (0 ∷ 1 ∷ []) []) ∷
    -- A label that is not 1 + the greatest leaf label; one below p.
    fails p1.table 4 (line 3 (0 ∷ 1 ∷ 2 ∷ []) (0 ∷ 1 ∷ []) []) ∷
    holds p1.table 6 (line 4 (1 ∷ 1 ∷ 1 ∷ []) (0 ∷ 1 ∷ 2 ∷ 3 ∷ []) []) ∷
    fails p1.table 6 (line 4 (2 ∷ 1 ∷ 1 ∷ []) (0 ∷ 1 ∷ 2 ∷ 3 ∷ []) []) ∷
    -- A needless LUT (4); a missing one (5); leaves that are no cut; an output that is no root.
    holds p1.table 6 (cover 3 (6 ∷ []) (5 ∷ 6 ∷ []) ([] ∷ (2 ∷ 3 ∷ []) ∷ (0 ∷ 1 ∷ 5 ∷ []) ∷ [])) ∷
    fails p1.table 6 (cover 3 (6 ∷ []) (4 ∷ 5 ∷ 6 ∷ []) ((0 ∷ 1 ∷ []) ∷ (2 ∷ 3 ∷ []) ∷ (0 ∷ 1 ∷ 5 ∷ []) ∷ [])) ∷
    fails p1.table 6 (cover 3 (6 ∷ []) (4 ∷ 6 ∷ []) ((0 ∷ 1 ∷ []) ∷ (2 ∷ 3 ∷ []) ∷ (4 ∷ 5 ∷ []) ∷ [])) ∷
    fails p1.table 6 (cover 3 (6 ∷ []) (4 ∷ 6 ∷ []) ((0 ∷ 1 ∷ []) ∷ (2 ∷ 3 ∷ []) ∷ (4 ∷ []) ∷ [])) ∷
    fails p1.table 6 (cover 3 (6 ∷ 4 ∷ []) (5 ∷ 6 ∷ []) ((0 ∷ 1 ∷ []) ∷ (2 ∷ 3 ∷ []) ∷ (0 ∷ 1 ∷ 5 ∷ []) ∷ [])) ∷
    -- A LUT asked for at an output that is an input, or given there; an output named twice.
    holds p3.table 3 (cover 2 (0 ∷ 3 ∷ 3 ∷ []) (3 ∷ []) ([] ∷ (0 ∷ 1 ∷ []) ∷ [])) ∷
    holds p3.table 3 (cover 2 (1 ∷ []) [] []) ∷
    fails p3.table 3 (cover 2 (0 ∷ 3 ∷ []) (0 ∷ 3 ∷ []) ([] ∷ (0 ∷ 1 ∷ []) ∷ [])) ∷
    -- Loops sought only behind outputs: with output 1 the loop of 2 and 3 would be missed.
    holds apart 2 loop ∷
    fails apart 1 loop ∷
    -- A gate that reads a loop named as on it (1); ways that part and meet again taken for a loop.
    fails p9.table 1 loop ∷
    holds p9.table 2 loop ∷
    holds p9.table 3 loop ∷
    fails p3.table 3 loop ∷
    -- On a loop a gate meets itself and may be its own leaf: cuts are spoken of only where loops have been refused.
    holds p8.table 1 loop ∷
    holds p8.table 1 (cut 2 (0 ∷ 1 ∷ [])) ∷ []

all_avoided : every is_avoided traps ≡ true
unfolding every is_avoided traps
all_avoided = refl

pub traps_avoided : (trap : Trap) → Memᴰ trap traps → Avoided trap
traps_avoided trap m = avoided trap ((decides_every is_avoided (λ other. decides_itself (is_avoided other)) traps).holds all_avoided trap m)
