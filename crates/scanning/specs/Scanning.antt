-- What reading a text whole promises: the arrays hold what the text says; or the machine halts, and the arrays are as before.
use Rattle.std.specs.Prelude.{ℕ, ◌+◌, ◌-◌, ◌*◌, ◌≤◌, ◌≡◌, true, false, List, length, get_or, Result, Ok, Err}
use Rattle.std.proofs.lemmas.List.Edits.{sets}
use Rattle.grammar.specs.paper.Text.{byte_at, is_word_byte, most_text}
use Rattle.grammar.specs.paper.Grammar.{System, WellFormed}
use Rattle.grammar.specs.paper.Gates.{all_size}
use Rattle.grammar.specs.Machine.{State, Halts}
use Rattle.grammar.specs.Stored.{all_triples, name_pairs}
use Rattle.spelling.specs.declared.Stopped.{Stopped}
use Rattle.scanning.specs.declared.Counts.{Counts}
use Rattle.scanning.specs.declared.equations.Stage.{Stage}
use Rattle.scanning.specs.Lines.{LineRead, LineStopped}
use Rattle.scanning.specs.Equations.{Empty, EquationsOut, LinesStopped}

-- how many inputs, definitions, gates and outputs a system has
abbrev pub counts_of : System → Counts
counts_of sys =
    record {
      inputs = length sys.inputs;
      definitions = length sys.inputs + length sys.equations;
      gates = all_size sys.equations;
      outputs = length sys.outputs;
    }

-- Behind `out`.
pub record OutputsAsked (s : List ℕ) (stage : Stage) (names : List ℕ) : Type 0 where
  pub short : length s ≤ most_text
  pub within : stage.next ≤ length s
  pub room : most_text ≤ length names
  pub few : 2 * stage.listed ≤ stage.next
  pub ends : is_word_byte (byte_at s stage.next) ≡ false

pub record OutputsRead (s : List ℕ) (stage : Stage) (inputs : ℕ) (names₀ names : List ℕ) (c : Counts) : Type 0 where
  pub count : ℕ
  pub line : LineRead s true stage.next stage.listed names₀ names (length s) count
  pub counts : c ≡ record { inputs = inputs; definitions = stage.listed; gates = stage.made; outputs = count - stage.listed }

abbrev pub OutputsOf : (s : List ℕ) (stage : Stage) (inputs : ℕ) (names₀ names : List ℕ) → Result Counts Stopped → Type 0
OutputsOf s stage inputs names₀ names (Ok c) = OutputsRead s stage inputs names₀ names c
OutputsOf s stage inputs names₀ names (Err stopped) = LineStopped s true stage.next names₀ names stopped.place

-- Behind the line of inputs.
pub record EquatedRead (s : List ℕ) (at : ℕ) (gates₀ names₀ : List ℕ) (inputs : ℕ) (gates names : List ℕ) (c : Counts) : Type 0 where
  pub names₁ : List ℕ
  pub stage : Stage
  pub equated : EquationsOut s at gates₀ names₀ inputs gates names₁ stage.next stage.made stage.listed
  pub outputs : OutputsRead s stage inputs names₁ names c

abbrev pub EquatedOf : (s : List ℕ) (at : ℕ) (gates₀ names₀ : List ℕ) (inputs : ℕ) (gates names : List ℕ) → Result Counts Stopped → Type 0
EquatedOf s at gates₀ names₀ inputs gates names (Ok c) = EquatedRead s at gates₀ names₀ inputs gates names c
EquatedOf s at gates₀ names₀ inputs gates names (Err stopped) = LinesStopped s at gates₀ names₀ gates names stopped.place

-- What is asked of the arrays: room, and zeros.
pub record ScanAsked (s gates names : List ℕ) : Type 0 where
  pub short : length s ≤ most_text
  pub gates_room : 3 * most_text ≤ length gates
  pub names_room : most_text ≤ length names
  pub gates_empty : Empty gates 0
  pub names_empty : (i : ℕ) → get_or names i 0 ≡ 0

-- Where the reading stops, so does the machine; the arrays' lengths are kept.
pub record HaltsFrom (s : List ℕ) (q : State) (at : ℕ) (gates₀ names₀ gates names : List ℕ) (p : ℕ) : Type 0 where
  pub halts : Halts s q at p
  pub gates_size : length gates ≡ length gates₀
  pub names_size : length names ≡ length names₀

-- Behind `in`.
pub record InputsRead (s : List ℕ) (at : ℕ) (gates₀ names₀ gates names : List ℕ) (c : Counts) : Type 0 where
  pub names₁ : List ℕ
  pub next : ℕ
  pub count : ℕ
  pub line : LineRead s false at 0 names₀ names₁ next count
  pub rest : EquatedRead s next gates₀ names₁ count gates names c

abbrev pub InputsOf : (s : List ℕ) (at : ℕ) (gates₀ names₀ gates names : List ℕ) → Result Counts Stopped → Type 0
InputsOf s at gates₀ names₀ gates names (Ok c) = InputsRead s at gates₀ names₀ gates names c
InputsOf s at gates₀ names₀ gates names (Err stopped) = HaltsFrom s State.read_in at gates₀ names₀ gates names stopped.place

-- A text in the grammar, with what it says in the arrays.
pub record TextRead (s gates₀ names₀ gates names : List ℕ) (c : Counts) : Type 0 where
  pub says : System
  pub well_formed : WellFormed s says
  pub counts : c ≡ counts_of says
  pub gates_stored : gates ≡ sets gates₀ 0 (all_triples 0 says.equations)
  pub names_stored : names ≡ sets names₀ 0 (name_pairs says)

abbrev pub TextOf : (s gates₀ names₀ gates names : List ℕ) → Result Counts Stopped → Type 0
TextOf s gates₀ names₀ gates names (Ok c) = TextRead s gates₀ names₀ gates names c
TextOf s gates₀ names₀ gates names (Err stopped) = HaltsFrom s State.before 0 gates₀ names₀ gates names stopped.place

-- No text in the grammar: the machine halts at p, and the arrays are as before.
pub record NoText (s gates₀ names₀ gates names : List ℕ) (p : ℕ) : Type 0 where
  pub halts : Halts s State.before 0 p
  pub gates_kept : gates ≡ gates₀
  pub names_kept : names ≡ names₀

abbrev pub Scans : (s gates₀ names₀ gates names : List ℕ) → Result Counts Stopped → Type 0
Scans s gates₀ names₀ gates names (Ok c) = TextRead s gates₀ names₀ gates names c
Scans s gates₀ names₀ gates names (Err stopped) = NoText s gates₀ names₀ gates names stopped.place
