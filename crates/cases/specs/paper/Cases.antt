-- What document 01 says of a small drawing, from its bytes to the lister's lines, and what it is that all of it is so.
use Rattle.std.specs.Prelude.{ℕ, ◌+◌, ◌≤◌, ◌<◌, ◌≡◌, length, Ok, Err, Result}
use Prim.Native.String.{String}
use mathlib.Core.List.{List, [], ◌∷◌, ◌++◌, Memᴰ}
use Rattle.theory.specs.paper.Net.{Gate}
use Rattle.theory.specs.paper.Sound.{Bounded, Ranked}
use Rattle.theory.specs.paper.Walk.{LowestLoop}
use Rattle.storage.specs.declared.Numbers.{Numbers}
use Rattle.drawing.specs.paper.Table.{GateLine, Table, net_of, tables_of}
use Rattle.drawing.specs.paper.Reading.{table_of}
use Rattle.taking.specs.declared.TakeError.TheVariants.{LoopAt}
use Rattle.taking.specs.paper.Says.{Taking, Says, said}
use Rattle.sheet.specs.paper.Limits.{sheet_room}
use Rattle.sheet.specs.paper.Sheet.{Line, Sheet, line_of}
use Rattle.sheet.specs.paper.Encoding.{narrow, encode}
use Rattle.sheet.specs.paper.Rules.{line_of_node}
use Rattle.keeping.specs.paper.Right.{KeepsRules, Right}
use Rattle.keeping.specs.paper.Mappers.{MappersSheet}
use Rattle.keeping.specs.paper.Same.{SameButEvidence}
use Rattle.keeping.specs.paper.Printed.{mapping_of, DepthsListed}
use Rattle.wording.specs.paper.Text as text
use Rattle.mapping.specs.declared.MapError.{MapError}
use Rattle.mapping.specs.paper.Maps.{Maps}
use Rattle.mapping.specs.paper.Maps as mapper
use Rattle.listing.specs.paper.Lists.{Listing}

-- What comes of a table: the mapping sheet, with one choice of evidence, and how many bytes it has; or a refusal for a loop, at a gate.
pub data Outcome : Type 0 where
  maps : (sheet : Sheet) (size : ℕ) → Outcome
  loops : (lowest : ℕ) → Outcome

-- A drawing: its bytes and how many they are, the table that they are, what comes of it, and the lines that the lister prints.
pub record Case : Type 0 where
  pub bytes : List ℕ
  pub count : ℕ
  pub table : Table
  pub outcome : Outcome
  pub prints : List String

abbrev pub and : ℕ → ℕ → GateLine
and a b = record { fanins = a ∷ b ∷ []; table = 0x8 }

abbrev pub or : ℕ → ℕ → GateLine
or a b = record { fanins = a ∷ b ∷ []; table = 0xE }

abbrev pub inverse : ℕ → GateLine
inverse a = record { fanins = a ∷ []; table = 0x1 }

-- a gate's line in which no evidence is due
abbrev pub plain : (label : ℕ) → (leaves : List ℕ) → Line
plain label leaves = line_of label leaves []

abbrev pub numbers_for : Table → Numbers
numbers_for table =
    record { k = record { leaves = table.k }; inputs = table.inputs; nodes = table.inputs + length table.gates; roots = length table.outputs }

abbrev pub SheetOf : Table → Sheet → Type 0
SheetOf table = MappersSheet (net_of table) (tables_of table) table.k table.outputs

-- lines as they are printed
abbrev pub printed : List String → List ℕ
printed lines = text.each (λ line. text.bytes line ++ text.newline) lines

-- As many paths, "of one input each"
abbrev pub OneInput : (inputs : ℕ) → List ℕ → Type 0
OneInput inputs path = (v : ℕ) × (v < inputs) × (path ≡ v ∷ [])

pub record SingleInputs (inputs : ℕ) (paths others : List (List ℕ)) : Type 0 where
  pub as_many : length paths ≡ length others
  pub single : (path : List ℕ) → Memᴰ path others → OneInput inputs path

-- Another sheet of the table has the depth, the labels, the leaves and the LUTs of the sheet given, as many paths, as many bytes, and the listing;
-- "depths are LUT depths".
pub record SameSheet (table : Table) (sheet : Sheet) (size : ℕ) (prints : List String) (other : Sheet) : Type 0 where
  pub same : SameButEvidence table.inputs sheet other
  pub evidence : (v : ℕ) → Gate (net_of table) v →
      SingleInputs table.inputs (line_of_node table.inputs sheet.lines v).paths (line_of_node table.inputs other.lines v).paths
  pub bytes : length (encode narrow other) ≡ size
  pub listing : text.listing_of (mapping_of table other) ≡ printed prints
  pub depths : DepthsListed table other

-- The bytes are taken; the sheet given is the mapper's, keeps the rules and is right, and every mapper's sheet is that one but for evidence. What
-- `list` prints and what `map` replies, where the buffer has room, follows.
pub record MapsAs (bytes : List ℕ) (table : Table) (sheet : Sheet) (size : ℕ) (prints : List String) : Type 0 where
  pub taken : Says bytes (Ok (numbers_for table))
  pub bounded : Bounded (net_of table) table.k
  pub ranked : Ranked (net_of table)
  pub mappers : SheetOf table sheet
  pub keeps : KeepsRules (net_of table) (tables_of table) table.k table.outputs sheet
  pub right : Right (net_of table) (tables_of table) table.k table.outputs sheet
  pub only : (other : Sheet) → SheetOf table other → SameSheet table sheet size prints other
  pub lists : (listing : List ℕ) → Listing bytes listing → listing ≡ printed prints
  pub replies : (before : List ℕ) (r : Result ℕ MapError) (after : List ℕ) → Maps bytes before r after → sheet_room ≤ length before → mapper.said r ≡ (0, size)

abbrev pub loop_at : (gate : ℕ) → Taking
loop_at gate = Err (LoopAt (record { id = gate }))

-- The bytes are refused for the loop, at its lowest gate, by `list` and by `map`. "A refusal prints one line".
pub record LoopsAs (bytes : List ℕ) (table : Table) (lowest : ℕ) (prints : List String) : Type 0 where
  pub refused : Says bytes (loop_at lowest)
  pub bounded : Bounded (net_of table) table.k
  pub loop : LowestLoop (net_of table) lowest
  pub lists : (listing : List ℕ) → Listing bytes listing → listing ≡ printed prints
  pub replies : (before : List ℕ) (r : Result ℕ MapError) (after : List ℕ) → Maps bytes before r after → mapper.said r ≡ said (loop_at lowest)

abbrev pub Comes : Case → Outcome → Type 0
Comes c (Outcome.maps sheet size) = MapsAs c.bytes c.table sheet size c.prints
Comes c (Outcome.loops lowest) = LoopsAs c.bytes c.table lowest c.prints

-- The bytes are as many as is said and read as the table; the rest is said of that table.
pub record Holds (c : Case) : Type 0 where
  pub many : length c.bytes ≡ c.count
  pub reads : table_of c.bytes ≡ c.table
  pub comes : Comes c c.outcome
