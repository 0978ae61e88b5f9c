-- Rules 25, 26 and 27 at the gates: what each test asks and tells, and pass two.
use Rattle.std.specs.Prelude.{Result, ℕ, suc, ◌+◌, ◌*◌, ◌≤◌, ◌<◌, ◌≡◌, Bool, ◌⊎◌, length, Ok, Err}
use mathlib.Core.List.{List, map, flat_map, Memᴰ}
use Rattle.theory.specs.paper.Net.{Net, Gate}
use Rattle.theory.specs.paper.Lists.{NoRepeats, greatest}
use Rattle.theory.specs.paper.Evidence.{peak, TruePath, joined}
use Rattle.storage.specs.Entries.{cleared, Beyond}
use Rattle.storage.specs.Marks.{Tells}
use Rattle.storage.specs.Lists.{size_at, list_at}
use Rattle.storage.specs.Drawings.{net_in, Arranged}
use Rattle.drawing.specs.paper.Bytes.{number_at}
use Rattle.walking.specs.Promises.{WalkRoom}
use Rattle.area.specs.Area.{label_in}
use Rattle.sheet.specs.declared.Form.{Form}
use Rattle.sheet.specs.paper.Sheet.{Line, Sheet}
use Rattle.sheet.specs.paper.Shape.{paths_at, line_paths, line_ruling}
use Rattle.sheet.specs.Shape.{due_from}
use Rattle.sheet.specs.paper.Rules.{Rule, Found, FirstBroken, Keeps, line_of_node, gate_rules, gates}
use Rattle.sheet.specs.Arrays.{HoldsLines, HoldsPlaces}
use Rattle.judging.specs.declared.Broken.{Broken}
use Rattle.judging.specs.declared.Broken.TheVariants as broken
use Rattle.judging.specs.Paths.{PathsStand}

-- where the line at `at` has its q, and the paths behind it; K, I and n have no part in that
abbrev pub paths_place : Form → List ℕ → ℕ → ℕ
paths_place form s at = line_paths (due_from form 0 0 0 0) s at

abbrev pub line_paths_in : Form → List ℕ → ℕ → List (List ℕ)
line_paths_in form s at = paths_at s (paths_place form s at + 1) form.width (number_at s (paths_place form s at) 1)

-- Rule 25: the cut

pub record CutAsked (inputs nodes k : ℕ) (fanins order : List ℕ) (t : ℕ) (cuts roles : List ℕ) : Type 0 where
  pub walk : WalkRoom inputs nodes k fanins order t roles
  pub long : 7 * t + 7 ≤ length cuts
  pub six : size_at cuts t ≤ 6

-- Rule 26: the label

pub record LabelAsked (labels cuts : List ℕ) (t : ℕ) : Type 0 where
  pub labelled : t < length labels
  pub long : 7 * t + 7 ≤ length cuts
  pub six : size_at cuts t ≤ 6
  pub leaves_labelled : (v : ℕ) → Memᴰ v (list_at cuts t) → v < length labels

-- "1 + the greatest leaf label", and p or p + 1
pub record LabelRight (lab : ℕ → ℕ) (leaves : List ℕ) (p t : ℕ) : Type 0 where
  pub shown : lab t ≡ suc (greatest (map lab leaves))
  pub near : (lab t ≡ p) ⊎ (lab t ≡ suc p)

-- Rule 27: the evidence

-- A gate of a drawing with its order, its p by the labels that an array holds, and room for roles.
pub record AtGate (inputs nodes k : ℕ) (fanins order : List ℕ) (t : ℕ) (labels : List ℕ) (p : ℕ) (roles : List ℕ) : Type 0 where
  pub drawing : Arranged inputs nodes k fanins order
  pub gate : Gate (net_in inputs nodes fanins) t
  pub labels_long : nodes ≤ length labels
  pub peak_known : p ≡ peak (net_in inputs nodes fanins) (label_in labels) t
  pub roles_long : nodes ≤ length roles

pub record EvidenceAsked (inputs nodes k : ℕ) (fanins order : List ℕ) (t : ℕ) (labels : List ℕ) (p : ℕ) (bytes : List ℕ) (at width q : ℕ)
    (roles : List ℕ) : Type 0 where
  pub at_gate : AtGate inputs nodes k fanins order t labels p roles
  pub stand : PathsStand nodes bytes at width q

-- each is a true path, and "No node is on two paths or twice on one."
pub record TruePaths (net : Net) (lab : ℕ → ℕ) (t : ℕ) (paths : List (List ℕ)) : Type 0 where
  pub each : (path : List ℕ) → Memᴰ path paths → TruePath net lab t path
  pub apart : NoRepeats (joined paths)

pub record Told (nodes : ℕ) (P : Type 0) (roles : List ℕ) (r : Bool) (roles' : List ℕ) : Type 0 where
  pub reply : Tells P r
  pub rest : Beyond nodes roles roles'

-- the line at `at` is in shape, and its numbers have at most eight bytes
pub record LineStands (form : Form) (k inputs nodes : ℕ) (bytes : List ℕ) (at : ℕ) : Type 0 where
  pub most : ℕ
  pub narrow : form.width ≤ 8
  pub sound : line_ruling (due_from form most k inputs nodes) bytes at ≡ Ok tt

pub record PathsRuleAsked (form : Form) (inputs nodes k : ℕ) (fanins order : List ℕ) (t : ℕ) (labels : List ℕ) (p : ℕ) (bytes : List ℕ) (at : ℕ)
    (roles : List ℕ) : Type 0 where
  pub at_gate : AtGate inputs nodes k fanins order t labels p roles
  pub line : LineStands form k inputs nodes bytes at

-- Pass two

-- the reply: all rules are kept, or the first that is not
abbrev pub Judged : Type 0
Judged = Result (Unit {0}) Broken

-- the rule that a reply names
abbrev pub found_of : (inputs : ℕ) → List Line → Judged → Found
found_of inputs lines (Ok tt) = Found.none
found_of inputs lines (Err (broken.Cut gate)) = Found.broken (Rule.cut gate.id (line_of_node inputs lines gate.id).leaves)
found_of inputs lines (Err (broken.Label gate)) = Found.broken (Rule.label gate.id)
found_of inputs lines (Err (broken.Paths gate)) = Found.broken (Rule.paths gate.id)

-- "Pass two tries 25, 26, 27 on each gate": the reply names the first rule that is not kept at these gates, in every sheet with these lines.
abbrev pub Judges : Net → (k : ℕ) → List Line → List ℕ → Judged → Type 0
Judges net k lines ts r =
    (tables : ℕ → ℕ) (outputs : List ℕ) (sheet : Sheet) → sheet.lines ≡ lines →
    FirstBroken (Keeps net tables k outputs sheet) (flat_map (gate_rules net.inputs lines) ts) (found_of net.inputs lines r)

-- A sheet's lines, its bytes, and the arrays that hold the lines' labels, cuts and places.
pub record Lined : Type 0 where
  pub form : Form
  pub labels : List ℕ
  pub cuts : List ℕ
  pub places : List ℕ
  pub bytes : List ℕ

abbrev pub lined_of : Form → (labels cuts places bytes : List ℕ) → Lined
lined_of form labels cuts places bytes = record { form = form; labels = labels; cuts = cuts; places = places; bytes = bytes }

pub record HoldsSheet (k inputs nodes : ℕ) (l : Lined) (most : ℕ) (lines : List Line) : Type 0 where
  pub in_arrays : HoldsLines inputs nodes lines l.labels l.cuts
  pub in_bytes : HoldsPlaces (due_from l.form most k inputs nodes) l.bytes lines l.places

-- A drawing with its order, some lines of a sheet in the arrays, and room for roles.
pub record JudgeAsked (k inputs nodes : ℕ) (fanins order : List ℕ) (l : Lined) (roles : List ℕ) : Type 0 where
  pub drawing : Arranged inputs nodes k fanins order
  pub narrow : l.form.width ≤ 8
  pub most : ℕ
  pub lines : List Line
  pub holds : HoldsSheet k inputs nodes l most lines
  pub roles_long : nodes ≤ length roles

pub record GateAsked (k inputs nodes : ℕ) (fanins order : List ℕ) (l : Lined) (t : ℕ) (roles : List ℕ) : Type 0 where
  pub asked : JudgeAsked k inputs nodes fanins order l roles
  pub gate : Gate (net_in inputs nodes fanins) t

-- the reply is right for all lines that the arrays and the bytes hold
abbrev pub JudgesHeld : (k inputs nodes : ℕ) (fanins : List ℕ) (l : Lined) (ts : List ℕ) → Judged → Type 0
JudgesHeld k inputs nodes fanins l ts r =
    (most : ℕ) (lines : List Line) → HoldsSheet k inputs nodes l most lines → Judges (net_in inputs nodes fanins) k lines ts r

pub record GatesTried (k inputs nodes : ℕ) (fanins : List ℕ) (l : Lined) (ts roles : List ℕ) (r : Judged) (roles' : List ℕ) : Type 0 where
  pub reply : JudgesHeld k inputs nodes fanins l ts r
  pub rest : Beyond nodes roles roles'

-- The reply on all gates, and the roles are left at 0.
pub record GatesJudged (k inputs nodes : ℕ) (fanins : List ℕ) (l : Lined) (roles : List ℕ) (r : Judged) (roles' : List ℕ) : Type 0 where
  pub reply : JudgesHeld k inputs nodes fanins l (gates (net_in inputs nodes fanins)) r
  pub roles_clear : roles' ≡ cleared nodes roles
