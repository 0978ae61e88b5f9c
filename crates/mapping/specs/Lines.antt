-- Lines of the sheet from arrays: what the functions that write them ask and leave.
use Rattle.std.specs.Prelude.{ℕ, suc, ◌+◌, ◌*◌, ◌-◌, ◌≤◌, ◌<◌, ◌≡◌, length, get_or}
use mathlib.Core.List.{List, [], flat_map}
use Rattle.storage.specs.Drawings.{net_in, Arranged}
use Rattle.storage.specs.Lists.{list_at}
use Rattle.drawing.specs.paper.Limits.{most_k}
use Rattle.theory.specs.paper.Net.{Net, Gate}
use Rattle.area.specs.Area.{label_in}
use Rattle.flow.specs.Paths.{paths_in}
use Rattle.flow.specs.Reads.{ReadAsked}
use Rattle.sheet.specs.declared.Form.{Form}
use Rattle.sheet.specs.paper.Sheet.{Line, line_of, no_line}
use Rattle.sheet.specs.paper.Encoding.{path_bytes, line_field}
use Rattle.sheet.specs.Writing.{Room, Written}
use Rattle.sheet.specs.Longest.{line_most}
use Rattle.sheet.specs.paper.Rules.{PathsKept}
use Rattle.packing.specs.Tables.{Labelled}

-- The i-th of the paths that stand in the links can be read, and has room.
pub record PathAsked (width inputs nodes i : ℕ) (links sheet : List ℕ) (at : ℕ) : Type 0 where
  pub read : ReadAsked inputs nodes links
  pub room : Room sheet at (path_bytes width (get_or (paths_in inputs nodes links) i []))

-- `many` paths stand in the links, and they have room.
pub record PathsAsked (width inputs nodes many : ℕ) (links sheet : List ℕ) (at : ℕ) : Type 0 where
  pub read : ReadAsked inputs nodes links
  pub count : many ≡ length (paths_in inputs nodes links)
  pub room : Room sheet at (flat_map (path_bytes width) (paths_in inputs nodes links))

-- The K + 1 paths that stand in the links are the line's evidence, and the line has room.
pub record ProvenAsked (form : Form) (inputs nodes k label : ℕ) (leaves links sheet : List ℕ) (at : ℕ) : Type 0 where
  pub read : ReadAsked inputs nodes links
  pub few : k ≤ most_k
  pub count : length (paths_in inputs nodes links) ≡ suc k
  pub room : Room sheet at (line_field form (line_of label leaves (paths_in inputs nodes links)))

-- What lines are written from: a labelled drawing, and roles and links for the search for evidence.
pub record LinesFrom (inputs nodes k : ℕ) (fanins order labels cuts roles links : List ℕ) : Type 0 where
  pub drawing : Arranged inputs nodes k fanins order
  pub some : 1 ≤ inputs
  pub labelled : Labelled inputs nodes k fanins labels cuts
  pub roles_long : nodes ≤ length roles
  pub links_long : 5 * nodes ≤ length links

pub record LineAsked (form : Form) (inputs nodes k : ℕ) (fanins order : List ℕ) (t : ℕ) (labels cuts roles links sheet : List ℕ)
    (at : ℕ) : Type 0 where
  pub arrays : LinesFrom inputs nodes k fanins order labels cuts roles links
  pub gate : Gate (net_in inputs nodes fanins) t
  pub room : at + line_most form.width k nodes ≤ length sheet

pub record LinesAsked (form : Form) (inputs nodes k : ℕ) (fanins order labels cuts roles links sheet : List ℕ) (at : ℕ) : Type 0 where
  pub arrays : LinesFrom inputs nodes k fanins order labels cuts roles links
  pub room : at + (nodes - inputs) * line_most form.width k nodes ≤ length sheet

-- A gate's line has its label and its cut, and evidence where it is due.
pub record LineOf (net : Net) (k : ℕ) (labels cuts : List ℕ) (t : ℕ) (line : Line) : Type 0 where
  pub label : line.label ≡ label_in labels t
  pub cut : line.leaves ≡ list_at cuts t
  pub paths : PathsKept net k (label_in labels) t line.paths

pub record LineWritten (form : Form) (net : Net) (k : ℕ) (labels cuts : List ℕ) (t : ℕ) (before : List ℕ) (at : ℕ) (after : List ℕ)
    (next : ℕ) : Type 0 where
  pub line : Line
  pub is : LineOf net k labels cuts t line
  pub short : length (line_field form line) ≤ line_most form.width k net.nodes
  pub written : Written before at (line_field form line) after next

-- "for each gate in id order": the lines of the gates below v, one after the other
pub record LinesWritten (form : Form) (net : Net) (k : ℕ) (labels cuts : List ℕ) (v : ℕ) (before : List ℕ) (at : ℕ) (after : List ℕ)
    (next : ℕ) : Type 0 where
  pub lines : List Line
  pub count : net.inputs + length lines ≡ v
  pub each : (i : ℕ) → i < length lines → LineOf net k labels cuts (net.inputs + i) (get_or lines i no_line)
  pub short : length (flat_map (line_field form) lines) ≤ length lines * line_most form.width k net.nodes
  pub written : Written before at (flat_map (line_field form) lines) after next
