-- Cells and columns of the links: a store and a clear in terms of columns, and what is kept by them.
use Prim.Native.Nat.{ℕ, suc, ◌+◌, ◌*◌, ◌-◌, ◌≤◌, ◌<◌}
use native.Mathlib.Nat.{mul-le-mul_right}
use native.Mathlib.Numerals.{add-one}
use native.Mathlib.Omega.{arith}
use mathlib.Core.Path.{◌≡◌, refl, sym, subst, ◌∙◌}
use mathlib.Core.Logic.{◌⊎◌, inl, inr}
use mathlib.Core.List.{List, ◌++◌}
use lib.ListN.{length, get_or, set, take, drop, length-set}
use lib.Seq.{get_or-take, get_or-drop}
use lib.Seq.{drop-set-lt}
use Rattle.storage.specs.Columns.{column}
use Rattle.storage.specs.Entries.{cleared, Upd, at}
use Rattle.storage.proofs.InColumns.{column_size, column_at, column_set, before_next, column_other, column_same, column_zeros}
use Rattle.storage.proofs.Clears.{drop_same, beyond_same, beyond_then, gap_size, gap_low, gap_in, gap_high}
use Rattle.storage.proofs.Stores.{set_upd, upd_then, upd_after}
use Rattle.storage.proofs.Rests.{rest_of, with_rest, rest_set, rest_cleared}
use Rattle.flow.specs.Links.{next_in, prev_in}
use Rattle.flow.specs.Cells.{CellIn, Stored, ColumnsIn, Cleared, PathsKept, StatesKept}

pub cell_low : {nodes c v : ℕ} {links : List ℕ} → CellIn nodes c v links → c * nodes + v < length links
cell_low {nodes} cell = omega (arith, before_next nodes cell.one_of_five, cell.long, cell.node)

pub columns_fit : {nodes first many : ℕ} {links : List ℕ} → ColumnsIn nodes first many links → first * nodes + many * nodes ≤ 5 * nodes
columns_fit {nodes} {first} {many} all = let most : (first + many) * nodes ≤ 5 * nodes = mul-le-mul_right nodes all.of_five in omega arith

-- A store

-- A column's places lie in the rest of the links from its start on

-- a store there
pub set_stored : {nodes c v : ℕ} {links : List ℕ} (x : ℕ) → CellIn nodes c v links →
    Stored nodes c v x links
    (with_rest links (c * nodes) (set (rest_of links (c * nodes)) v x))
set_stored {nodes} {c} {v} {links} x cell =
    let ends = before_next nodes cell.one_of_five in
    let size : length (column nodes c links) ≡ nodes = column_size nodes c links (omega (arith, ends, cell.long)) in
    subst (Stored nodes c v x links) (sym (rest_set links (c * nodes) v x))
    (record {
      stored =
          subst (λ (l : List ℕ). Upd (at (column nodes c links)) v x (at l)) (sym (column_set nodes c links v x cell.node))
          (set_upd (column nodes c links) v x (omega (arith, cell.node)));
      others = λ d apart. column_other nodes c d links v x cell.node apart;
      rest = record {
        size = length-set links (c * nodes + v) x;
        beyond = drop-set-lt (5 * nodes) links (c * nodes + v) x (omega (arith, ends, cell.node));
      };
    })

-- an entry of the column, read from there
pub rest_entry : {nodes c v : ℕ} {links : List ℕ} → CellIn nodes c v links →
    get_or (rest_of links (c * nodes)) v 0 ≡ get_or (column nodes c links) v 0
rest_entry {nodes} {c} {v} {links} cell =
    let low = cell_low cell in
    get_or-take (length links - c * nodes) (drop (c * nodes) links) v 0 (omega arith) ∙ get_or-drop (c * nodes) links v 0
    ∙ sym (column_at nodes c links v cell.node)

-- the next number, and a link to a node, as the code adds them up
pub stored_next : {nodes c v n : ℕ} {l m : List ℕ} → Stored nodes c v (n + 1) l m → Stored nodes c v (suc n) l m
stored_next {nodes} {c} {v} {n} {l} {m} s = subst (λ (x : ℕ). Stored nodes c v x l m) (add-one n) s

-- A clear

pub clear_columns : {nodes first many : ℕ} {links part : List ℕ} → ColumnsIn nodes first many links →
    part ≡ cleared (many * nodes) (rest_of links (first * nodes)) →
    Cleared nodes first many links (with_rest links (first * nodes) part)
clear_columns {nodes} {first} {many} {links} all e =
    let most = columns_fit all in
    let fits : first * nodes + many * nodes ≤ length links = omega (arith, all.long) in
    let size = gap_size links (first * nodes) (many * nodes) fits in
    subst (Cleared nodes first many links) (sym (rest_cleared links (first * nodes) (many * nodes) e))
    (record {
      zeros = λ d high low.
          let ends = before_next nodes low in
          let starts : first * nodes ≤ d * nodes = mul-le-mul_right nodes high in
          column_zeros nodes d _ (omega arith) (λ v node. gap_in links (first * nodes) (many * nodes) fits (d * nodes + v) (omega arith) (omega arith));
      others = λ d apart. column_same nodes d links _ size (λ v node. beside d v node apart);
      rest = record { size = size; beyond = drop_same (5 * nodes) _ links size (λ v far. gap_high links (first * nodes) (many * nodes) fits v (omega arith)) };
    })
  where
    beside : (d v : ℕ) → v < nodes → (d < first) ⊎ (first + many ≤ d) →
        get_or (take (first * nodes) links ++ cleared (many * nodes) (drop (first * nodes) links)) (d * nodes + v) 0 ≡ get_or links (d * nodes + v) 0
    beside d v node (inl less) =
        let most = columns_fit all in
        gap_low links (first * nodes) (many * nodes) (omega (arith, all.long)) (d * nodes + v) (omega (arith, before_next nodes less))
    beside d v node (inr more) =
        let most = columns_fit all in
        let starts : (first + many) * nodes ≤ d * nodes = mul-le-mul_right nodes more in
        gap_high links (first * nodes) (many * nodes) (omega (arith, all.long)) (d * nodes + v) (omega arith)

-- What is kept by nothing, by one after another, and by stores in other columns

pub paths_same : (nodes : ℕ) (links : List ℕ) → PathsKept nodes links links
paths_same nodes links = record { next = refl; prev = refl; rest = beyond_same (5 * nodes) links }

pub paths_then : {nodes : ℕ} {l m k : List ℕ} → PathsKept nodes l m → PathsKept nodes m k → PathsKept nodes l k
paths_then a b = record { next = b.next ∙ a.next; prev = b.prev ∙ a.prev; rest = beyond_then a.rest b.rest }

pub paths_stored : {nodes c v x : ℕ} {l m : List ℕ} → 2 ≤ c → Stored nodes c v x l m → PathsKept nodes l m
paths_stored high s = record { next = s.others 0 (λ e. omega arith); prev = s.others 1 (λ e. omega arith); rest = s.rest }

pub states_then : {nodes : ℕ} {l m k : List ℕ} → StatesKept nodes l m → StatesKept nodes m k → StatesKept nodes l k
states_then a b =
    record { ins = b.ins ∙ a.ins; outs = b.outs ∙ a.outs; parent = b.parent ∙ a.parent; rest = beyond_then a.rest b.rest }

-- a store of next and one of prev
pub record BothStored (nodes v x w y : ℕ) (l m : List ℕ) : Type 0 where
  pub next : Upd (at (next_in nodes l)) v x (at (next_in nodes m))
  pub prev : Upd (at (prev_in nodes l)) w y (at (prev_in nodes m))
  pub kept : StatesKept nodes l m

pub both_stored : {nodes v x w y : ℕ} {l k m : List ℕ} → Stored nodes 0 v x l k → Stored nodes 1 w y k m → BothStored nodes v x w y l m
both_stored a b =
    record {
      next = upd_then a.stored (b.others 0 (λ e. omega arith));
      prev = upd_after (a.others 1 (λ e. omega arith)) b.stored;
      kept = record {
        ins = b.others 2 (λ e. omega arith) ∙ a.others 2 (λ e. omega arith);
        outs = b.others 3 (λ e. omega arith) ∙ a.others 3 (λ e. omega arith);
        parent = b.others 4 (λ e. omega arith) ∙ a.others 4 (λ e. omega arith);
        rest = beyond_then a.rest b.rest;
      };
    }
