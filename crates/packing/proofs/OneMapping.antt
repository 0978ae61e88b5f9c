-- What stage one promises is one outcome: labels and cuts are, so the gates needed are, so their tables are.
use Prim.Native.Nat.{ℕ, ◌+◌, ◌*◌, ◌-◌, ◌<◌}
use native.Mathlib.Decide.{ℕ_discrete, dec_lt}
use native.Mathlib.Omega.{arith}
use mathlib.Core.Path.{◌≡◌, ap, sym, subst, ◌∙◌}
use mathlib.Core.List.{List, map}
use lib.ListN.{get_or, take}
use Rattle.storage.specs.Lists.{list_at}
use Rattle.storage.specs.Columns.{column}
use Rattle.storage.specs.Drawings.{net_in, tables_in}
use Rattle.storage.proofs.InColumns.{column_at}
use Rattle.storage.proofs.Clears.{agree}
use Rattle.theory.specs.paper.Lists.{greatest}
use Rattle.theory.proofs.Cones.{cone_table_only}
use Rattle.walking.proofs.Orders.{drawn_ranked}
use Rattle.area.specs.Area.{label_in}
use Rattle.labelling.proofs.One.{labels_made_one}
use Rattle.covering.specs.Covers.{CoverMade}
use Rattle.covering.proofs.Answers.{cover_answer_once}
use Rattle.packing.specs.declared.Mapping.{Mapping}
use Rattle.packing.specs.Tables.{TablesFrom, TableIs, TablesMade, Made, MapAsked, MappingMade}
use Rattle.packing.proofs.StageOne.{tables_asked}

-- an entry of the first two columns
columns_one : (nodes : ℕ) (a b : List ℕ) → column nodes 0 a ≡ column nodes 0 b →
    ((v : ℕ) → v < nodes → get_or (column nodes 1 a) v 0 ≡ get_or (column nodes 1 b) v 0) → (i : ℕ) → i < 2 * nodes → get_or a i 0 ≡ get_or b i 0
columns_one nodes a b zeroth first i low = by (dec_lt i nodes)
  where
    here : (c v : ℕ) → v < nodes → i ≡ c * nodes + v → get_or (column nodes c a) v 0 ≡ get_or (column nodes c b) v 0 → get_or a i 0 ≡ get_or b i 0
    here c v below e same = rw e (sym (column_at nodes c a v below) ∙ same ∙ column_at nodes c b v below)

    by : Dec (i < nodes) → get_or a i 0 ≡ get_or b i 0
    by (yes below) = here 0 i below (omega arith) (ap (λ (l : List ℕ). get_or l i 0) zeroth)
    by (no high) = let below : i - nodes < nodes = omega arith in here 1 (i - nodes) below (omega arith) (first (i - nodes) below)

module _ {inputs nodes k : ℕ} {fanins rows order cuts luts : List ℕ} (from : TablesFrom inputs nodes k fanins rows order cuts luts) where
  table_one : (v : ℕ) → v < nodes → {a b : ℕ} → TableIs (net_in inputs nodes fanins) (tables_in rows) cuts luts v a →
      TableIs (net_in inputs nodes fanins) (tables_in rows) cuts luts v b → a ≡ b
  table_one v low {a} {b} x y = by (ℕ_discrete (get_or luts v 0) 1)
    where
      by : Dec (get_or luts v 0 ≡ 1) → a ≡ b
      by (yes one) =
          cone_table_only (net_in inputs nodes fanins) (tables_in rows) (drawn_ranked from.drawing.drawn from.drawing.ordered) k v (list_at cuts v)
          (from.cut v low one) a b (x.root one) (y.root one)
      by (no other) = x.other other ∙ sym (y.other other)

  tables_one : {words words' words'' : List ℕ} → TablesMade inputs nodes fanins rows cuts luts words words' →
      TablesMade inputs nodes fanins rows cuts luts words words'' → words' ≡ words''
  tables_one {words} {words'} {words''} a b =
      agree a.rest b.rest (columns_one nodes words' words'' (a.clear ∙ sym b.clear) (λ v low. table_one v low (a.each v low) (b.each v low)))

pub record OneMapping (r q : Mapping) (m m' : Made) (roles roles' links links' : List ℕ) : Type 0 where
  pub reply : r ≡ q
  pub arrays : m ≡ m'
  pub roles_same : roles ≡ roles'
  pub links_same : links ≡ links'

module _ {inputs nodes k : ℕ} {fanins rows order outputs : List ℕ} {number : ℕ} {m₀ : Made} {roles₀ links₀ : List ℕ}
    (asked : MapAsked inputs nodes k fanins rows order outputs number m₀ roles₀ links₀) where
  pub mapping_one : {r q : Mapping} {m m' : Made} {roles roles' links links' : List ℕ} →
      MappingMade inputs nodes k fanins rows outputs number m₀ roles₀ links₀ r m roles links →
      MappingMade inputs nodes k fanins rows outputs number m₀ roles₀ links₀ q m' roles' links' → OneMapping r q m m' roles roles' links links'
  mapping_one {r} {q} {m} {m'} a b =
      let ranked = drawn_ranked asked.drawing.drawn asked.drawing.ordered in
      let same = labels_made_one asked.drawing.drawn.bounded ranked a.labelled b.labelled in
      let cover : CoverMade inputs nodes m.cuts (take number outputs) m₀.luts q.luts m'.luts =
      subst (λ (l : List ℕ). CoverMade inputs nodes l (take number outputs) m₀.luts q.luts m'.luts) (sym same.cuts_same) b.cover in
      let covers = cover_answer_once a.cover cover in
      let tables : TablesMade inputs nodes fanins rows m.cuts m.luts m₀.words m'.words =
      subst (λ (l : List ℕ). TablesMade inputs nodes fanins rows l m.luts m₀.words m'.words) (sym same.cuts_same)
      (subst (λ (l : List ℕ). TablesMade inputs nodes fanins rows m'.cuts l m₀.words m'.words) (sym covers.1) b.tables) in
      let from = tables_asked asked a.labelled.made a.cover {words = m₀.words} asked.luts_long asked.words_long in
      let words = tables_one from.arrays a.tables tables in
      let deep : r.depth.depth ≡ q.depth.depth =
      a.depth ∙ ap (λ (l : List ℕ). greatest (map (label_in l) (take number outputs))) same.labels_same ∙ sym b.depth in
      record {
        reply = λ j. record { luts = covers.0 j; depth = record { depth = deep j } };
        arrays = λ j. record { labels = same.labels_same j; cuts = same.cuts_same j; luts = covers.1 j; words = words j };
        roles_same = same.roles_same;
        links_same = same.links_same;
      }
