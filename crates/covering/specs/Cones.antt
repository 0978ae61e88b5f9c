-- The cone's function from arrays: what `cone_table` asks and answers; below, what its steps do.
use Rattle.std.specs.Prelude.{ℕ, ◌+◌, ◌*◌, ◌≤◌, ◌<◌, ◌≡◌, Bool, length, get_or, set}
use mathlib.Core.List.{List, map, Memᴰ}
use Rattle.storage.specs.Entries.{cleared}
use Rattle.storage.specs.Lists.{size_at, list_at}
use Rattle.storage.specs.Drawings.{net_in, tables_in, Arranged}
use Rattle.theory.specs.paper.Net.{Gate}
use Rattle.theory.specs.paper.Walk.{Cut}
use Rattle.theory.specs.paper.Values.{bit, row_of, result_at}
use Rattle.theory.specs.paper.Lookup.{ConeTable}

-- The arrays hold a drawing with its tables and an order of its gates; t is a gate and the leaves are a cut of it; and there is a
-- word a node for the values.
pub record ConeAsked (inputs nodes k : ℕ) (fanins rows order : List ℕ) (t : ℕ) (leaves : List ℕ) (room : ℕ) : Type 0 where
  pub drawing : Arranged inputs nodes k fanins order
  pub rows_long : nodes ≤ length rows
  pub gate : Gate (net_in inputs nodes fanins) t
  pub cut : Cut (net_in inputs nodes fanins) k t leaves
  pub values_long : nodes ≤ room

-- The answer is the cone's table, and the values' first `nodes` words are left at 0.
pub record ConeAnswered (inputs nodes : ℕ) (fanins rows : List ℕ) (t : ℕ) (leaves before : List ℕ) (table : ℕ) (after : List ℕ) : Type 0 where
  pub table_is : ConeTable (net_in inputs nodes fanins) (tables_in rows) leaves t table
  pub values : after ≡ cleared nodes before

-- The steps

-- the value of a node is its entry's lowest bit: a gate's stands as 0 or 1, a leaf's as 2 or 3
unfoldable pub value_in : List ℕ → ℕ → Bool
value_in values v = result_at (get_or values v 0) 0

-- the result of gate v's table for the values of its fanins
unfoldable pub result_in : (fanins rows values : List ℕ) → ℕ → Bool
result_in fanins rows values v = result_at (get_or rows v 0) (row_of (map (value_in values) (list_at fanins v)))

-- up to six ids from place `at` on, each with a value
pub record RowFits (ids : List ℕ) (at many room : ℕ) : Type 0 where
  pub inside : at + many ≤ length ids
  pub few : many ≤ 6
  pub nodes : (i : ℕ) → i < many → get_or ids (at + i) 0 < room

pub record GateFits (fanins rows : List ℕ) (v room : ℕ) : Type 0 where
  pub row : RowFits fanins (7 * v + 1) (size_at fanins v) room
  pub rows_long : v < length rows
  pub values_long : v < room

-- a leaf stays as it is, any other gate gets its result
pub record GateSettled (fanins rows : List ℕ) (v : ℕ) (before after : List ℕ) : Type 0 where
  pub leaf : 2 ≤ get_or before v 0 → after ≡ before
  pub gate : get_or before v 0 < 2 → after ≡ set before v (bit (result_in fanins rows before v))

-- The first `upto` gates of the order stand there once, and none reads itself or a later one.
pub record SweepFits (fanins rows order : List ℕ) (upto room : ℕ) : Type 0 where
  pub inside : upto ≤ length order
  pub gates : (i : ℕ) → i < upto → GateFits fanins rows (get_or order i 0) room
  pub once : (i j : ℕ) → i < j → j < upto → get_or order i 0 ≡ get_or order j 0 → ⊥
  pub earlier : (i j : ℕ) → i ≤ j → j < upto → Memᴰ (get_or order j 0) (list_at fanins (get_or order i 0)) → ⊥

-- Each of them that is no leaf has its result, and nothing else has changed.
pub record Swept (fanins rows order : List ℕ) (upto : ℕ) (before after : List ℕ) : Type 0 where
  pub long : length after ≡ length before
  pub leaves : (v : ℕ) → 2 ≤ get_or before v 0 → get_or after v 0 ≡ get_or before v 0
  pub gates : (v : ℕ) → get_or before v 0 < 2 → get_or after v 0 < 2
  pub others : (v : ℕ) → ((i : ℕ) → i < upto → get_or order i 0 ≡ v → ⊥) → get_or after v 0 ≡ get_or before v 0
  pub results : (i : ℕ) → i < upto → get_or before (get_or order i 0) 0 < 2 →
      value_in after (get_or order i 0) ≡ result_in fanins rows after (get_or order i 0)

pub record LeavesFit (leaves : List ℕ) (room : ℕ) : Type 0 where
  pub few : length leaves ≤ 6
  pub nodes : (i : ℕ) → i < length leaves → get_or leaves i 0 < room
  pub once : (i j : ℕ) → i < j → j < length leaves → get_or leaves i 0 ≡ get_or leaves j 0 → ⊥

-- of the first `many` leaves, leaf i has bit i of the row
pub record LeavesSet (leaves : List ℕ) (many row : ℕ) (before after : List ℕ) : Type 0 where
  pub long : length after ≡ length before
  pub bits : (i : ℕ) → i < many → get_or after (get_or leaves i 0) 0 ≡ 2 + bit (result_at row i)
  pub others : (v : ℕ) → ((i : ℕ) → i < many → get_or leaves i 0 ≡ v → ⊥) → get_or after v 0 ≡ get_or before v 0

-- the first place at which v stands
pub record FirstPlace (order : List ℕ) (v place : ℕ) : Type 0 where
  pub there : get_or order place 0 ≡ v
  pub first : (j : ℕ) → get_or order j 0 ≡ v → place ≤ j
