-- Tables stored node by node: a root's is its cone's, any other's is 0.
use Prim.Native.Nat.{ℕ, ◌+◌, ◌*◌, ◌≤◌, ◌<◌}
use native.Mathlib.Decide.{ℕ_discrete}
use native.Mathlib.Nat.{zero-mul}
use native.Mathlib.Omega.{arith}
use mathlib.Core.Path.{◌≡◌, refl, ap, sym, subst, ◌∙◌}
use mathlib.Core.List.{List, ◌++◌}
use lib.ListN.{length, get_or, take, drop, set, replicate, length-set, length-replicate, take-append-drop}
use lib.Seq.{take_at, drop-set-lt, get_or-set_same, get_or-set_other}
use Rattle.storage.specs.Entries.{cleared, Beyond}
use Rattle.storage.specs.Lists.{list_at}
use Rattle.storage.specs.Columns.{column}
use Rattle.storage.specs.Drawings.{net_in, tables_in}
use Rattle.storage.proofs.Clears.{cleared_size, filled_beyond, beyond_same, beyond_then}
use Rattle.storage.proofs.InColumns.{column_size, column_set, column_before}
use Rattle.theory.specs.paper.Walk.{Cut}
use Rattle.theory.specs.paper.Lookup.{ConeTable}
use Rattle.covering.specs.Cones.{ConeAsked, ConeAnswered}
use Rattle.packing.specs.Tables.{values_of, tables_of, TableAsked, TableIs, TableAnswered, TablesAsked, TablesMade}

-- The first column, cleared

first_column : (n : ℕ) (l : List ℕ) → column n 0 l ≡ take n l
unfolding column
first_column n l = ap (λ (k : ℕ). take n (drop k l)) (zero-mul n)

column_cleared : (n : ℕ) (l : List ℕ) → column n 0 (cleared n l) ≡ replicate n 0
column_cleared n l = first_column n (cleared n l) ∙ take_at (replicate n 0) (drop n l) n (length-replicate n 0)

cleared_column : (n : ℕ) (l : List ℕ) → column n 0 l ≡ replicate n 0 → cleared n l ≡ l
cleared_column n l zeros = ap (λ (x : List ℕ). x ++ drop n l) (sym zeros ∙ first_column n l) ∙ take-append-drop n l

-- One table

module _ {inputs nodes k : ℕ} {fanins rows order : List ℕ} {v : ℕ} {cuts luts words : List ℕ}
    (asked : TableAsked inputs nodes k fanins rows order v cuts luts words) (one : get_or luts v 0 ≡ 1) {leaves : List ℕ} (lent : leaves ≡ list_at cuts v) where
  pub cone_asked : ConeAsked inputs nodes k fanins rows order v leaves (length words)
  cone_asked =
      let a = asked.arrays in
      record {
        drawing = a.drawing;
        rows_long = a.rows_long;
        gate = a.gate v asked.low one;
        cut = subst (Cut (net_in inputs nodes fanins) k v) (sym lent) (a.cut v asked.low one);
        values_long = asked.words_long;
      }

  pub cone_answered : {table : ℕ} {words' : List ℕ} → ConeAnswered inputs nodes fanins rows v leaves words table words' →
      TableAnswered inputs nodes fanins rows cuts luts v words table words'
  cone_answered {table} answer =
      record {
        is =
            record {
              root = λ _. subst (λ (cut : List ℕ). ConeTable (net_in inputs nodes fanins) (tables_in rows) cut v table) lent answer.table_is;
              other = λ none. absurd (none one);
            };
        kept = answer.values ∙ cleared_column nodes words asked.clear;
      }

pub no_table : (inputs nodes : ℕ) (fanins rows cuts luts : List ℕ) (v : ℕ) (words : List ℕ) → (get_or luts v 0 ≡ 1 → ⊥) →
    TableAnswered inputs nodes fanins rows cuts luts v words 0 words
no_table inputs nodes fanins rows cuts luts v words none =
    record { is = record { root = λ one. absurd (none one); other = λ _. refl }; kept = refl }

-- The nodes below v have their tables.
pub record TablesSoFar (inputs nodes : ℕ) (fanins rows cuts luts words₀ words : List ℕ) (v : ℕ) : Type 0 where
  pub passed : v ≤ nodes
  pub each : (u : ℕ) → u < v → TableIs (net_in inputs nodes fanins) (tables_in rows) cuts luts u (tables_in (tables_of nodes words) u)
  pub clear : values_of nodes words ≡ replicate nodes 0
  pub rest : Beyond (2 * nodes) words₀ words

module _ {inputs nodes k : ℕ} {fanins rows order cuts luts entry : List ℕ}
    (asked : TablesAsked inputs nodes k fanins rows order cuts luts entry) {words₀ : List ℕ} (first : words₀ ≡ cleared nodes entry) where
  pub tables_none : TablesSoFar inputs nodes fanins rows cuts luts words₀ words₀ 0
  tables_none =
      record {
        passed = omega arith;
        each = λ u low. absurd (omega arith);
        clear = ap (values_of nodes) first ∙ column_cleared nodes entry;
        rest = beyond_same (2 * nodes) words₀;
      }

  cleared_rest : Beyond (2 * nodes) entry words₀
  cleared_rest =
      let long : nodes ≤ length entry = omega (arith, asked.words_long) in
      rw first (record { size = cleared_size nodes entry long; beyond = filled_beyond nodes 0 entry long (2 * nodes) (omega arith) })

  module _ {words : List ℕ} {v : ℕ} (so_far : TablesSoFar inputs nodes fanins rows cuts luts words₀ words v) where
    pub words_room : 2 * nodes ≤ length words
    words_room = omega (arith, asked.words_long, cleared_rest.size, so_far.rest.size)

    pub table_asked : v < nodes → TableAsked inputs nodes k fanins rows order v cuts luts words
    table_asked low = record { arrays = asked.arrays; low = low; words_long = omega (arith, words_room); clear = so_far.clear }

    pub tables_turn : v < nodes → {table : ℕ} {words' : List ℕ} → TableAnswered inputs nodes fanins rows cuts luts v words table words' →
        TablesSoFar inputs nodes fanins rows cuts luts words₀ (set words' (nodes + v) table) (v + 1)
    tables_turn low {table} {words'} answer =
        rw answer.kept
        (record {
          passed = omega arith;
          each = λ u below. rw stored (by u below (ℕ_discrete u v));
          clear = column_before nodes 0 words (nodes + v) table (omega arith) ∙ so_far.clear;
          rest = beyond_then so_far.rest beside;
        })
      where
        beside : Beyond (2 * nodes) words (set words (nodes + v) table)
        beside =
            record {
              size = length-set words (nodes + v) table;
              beyond = drop-set-lt (2 * nodes) words (nodes + v) table (omega arith);
            }

        stored : tables_of nodes (set words (nodes + v) table) ≡ set (tables_of nodes words) v table
        stored =
            let e : nodes + v ≡ 1 * nodes + v = omega arith in
            ap (λ (i : ℕ). tables_of nodes (set words i table)) e ∙ column_set nodes 1 words v table low

        by : (u : ℕ) → u < v + 1 → Dec (u ≡ v) → TableIs (net_in inputs nodes fanins) (tables_in rows) cuts luts u (get_or (set (tables_of nodes words) v table) u 0)
        by u below (yes e) =
            let room : v < length (tables_of nodes words) = omega (arith, column_size nodes 1 words (omega (arith, words_room))) in
            rw (e, get_or-set_same (tables_of nodes words) v table 0 room) answer.is
        by u below (no other) = rw (get_or-set_other (tables_of nodes words) v u table 0 other) (so_far.each u (omega arith))

    pub tables_all : nodes ≤ v → TablesMade inputs nodes fanins rows cuts luts entry words
    tables_all done =
        record {
          each = λ u low. so_far.each u (omega arith);
          clear = so_far.clear;
          rest = beyond_then cleared_rest so_far.rest;
        }
