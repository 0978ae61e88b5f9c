-- What the arrays that a caller lends hold after a reading.
use Rattle.std.specs.Prelude.{ℕ, zero, suc, ◌*◌, ◌≡◌, Bool, cond, ◌&&◌, List, [], ◌∷◌, length, set, leb, Result, Ok, Err}
use Rattle.std.proofs.lemmas.List.Edits.{sets}
use Rattle.storage.specs.declared.Numbers.{Numbers}
use Rattle.drawing.specs.declared.ReadError.{ReadError}
use Rattle.drawing.specs.declared.ReadError.TheVariants.{Refused, TooShort}
use Rattle.drawing.specs.paper.Limits.{most_nodes, most_outputs}
use Rattle.drawing.specs.paper.Table.{GateLine}
use Rattle.drawing.specs.paper.Fields.{Verdict, head_verdict, head_i}
use Rattle.drawing.specs.paper.Reading.{Found, found, numbers_with}

-- the places of the largest table's fanins, seven a node
abbrev pub most_places : ℕ
most_places = 7 * most_nodes

-- The arrays for the gates' lines that a caller lends: seven places a node for the number of its fanins and their ids, and one for its table.
pub record Lines : Type 0 where
  pub fanins : List ℕ
  pub rows : List ℕ

pub record Arrays : Type 0 where
  pub lines : Lines
  pub outputs : List ℕ

abbrev pub lines_of : (fanins rows : List ℕ) → Lines
lines_of fanins rows = record { fanins = fanins; rows = rows }

abbrev pub arrays_of : (fanins rows outputs : List ℕ) → Arrays
arrays_of fanins rows outputs = record { lines = lines_of fanins rows; outputs = outputs }

-- long enough for the largest table
abbrev pub enough : Arrays → Bool
enough a =
    leb most_places (length a.lines.fanins) && (leb most_nodes (length a.lines.rows) && leb most_outputs (length a.outputs))

-- an input has no fanins: 0 where the number of its fanins is
unfoldable pub no_fanins : List ℕ → ℕ → List ℕ
no_fanins fanins zero = fanins
no_fanins fanins (suc v) = set (no_fanins fanins v) (7 * v) 0

abbrev pub with_inputs : Lines → ℕ → Lines
with_inputs a inputs = record { fanins = no_fanins a.fanins inputs; rows = a.rows }

-- a gate's line at node v: how many fanins and their ids at its seven places, and its table
abbrev pub put_gate : Lines → ℕ → GateLine → Lines
put_gate a v g =
    record { fanins = sets a.fanins (7 * v) (length g.fanins ∷ g.fanins); rows = set a.rows v g.table }

-- lines of gates at the nodes from v on
unfoldable pub put_gates : Lines → ℕ → List GateLine → Lines
put_gates a v [] = a
put_gates a v (g ∷ gs) = put_gates (put_gate a v g) (suc v) gs

-- What a reading answers: the numbers of a whole table, or why there are none.
abbrev pub Reading : Type 0
Reading = Result Numbers ReadError

abbrev pub reply_of : List ℕ → Found → Verdict → Reading
reply_of s f (Ok tt) = Ok (numbers_with s (length f.outputs))
reply_of s f (Err r) = Err (Refused r)

-- The reply to a table's bytes, which are looked at only where the arrays are long enough.
unfoldable pub reading : Arrays → List ℕ → Reading
reading a s = cond (enough a) (reply_of s (found s) (found s).verdict) (Err TooShort)

-- What is read whole stands in the arrays: once the head is sound an input has no fanins, and each gate and output read whole has its
-- entries, whether or not a fault comes later. All else is as before.
abbrev pub stored_by : Arrays → List ℕ → Verdict → Arrays
stored_by a s (Ok _) =
    record {
      lines = put_gates (with_inputs a.lines (head_i s)) (head_i s) (found s).gates;
      outputs = sets a.outputs 0 (found s).outputs;
    }
stored_by a s (Err r) = a

unfoldable pub filled : Arrays → List ℕ → Arrays
filled a s = cond (enough a) (stored_by a s (head_verdict s)) a

-- The promise of a reading: the reply, and what the lent arrays hold afterwards.
pub record Reads (before : Arrays) (s : List ℕ) (r : Reading) (after : Arrays) : Type 0 where
  pub reply : r ≡ reading before s
  pub arrays : after ≡ filled before s
