-- Pass three from arrays: the rulings on a root's leaves and table, on a node, and on the nodes in turn.
use Prim.Native.Nat.{ℕ, ◌+◌, ◌*◌, ◌≤◌, ◌<◌}
use native.Mathlib.Decide.{ℕ_discrete}
use native.Mathlib.Omega.{arith}
use mathlib.Core.Path.{◌≡◌, sym, subst, ◌∙◌}
use mathlib.Core.Bool.{Bool, true, false}
use mathlib.Core.List.{List}
use lib.ListN.{length, get_or}
use lib.Dec.{eqb}
use borrow.Author.Tests.{eqb-true, eq-eqb}
use Rattle.storage.specs.Entries.{cleared, Beyond}
use Rattle.storage.specs.Lists.{list_at}
use Rattle.storage.specs.Drawings.{net_in, tables_in}
use Rattle.storage.proofs.Entries.{false_not_true}
use Rattle.storage.proofs.Clears.{cleared_beyond, cleared_used, beyond_same, beyond_then}
use Rattle.storage.proofs.Drawings.{fanins_in, gate_of_lem}
use Rattle.theory.specs.paper.Net.{Net}
use Rattle.theory.specs.paper.Walk.{Cut}
use Rattle.theory.specs.paper.Cover.{Luts}
use Rattle.theory.specs.paper.Lookup.{ConeTable}
use Rattle.theory.proofs.Cones.{cone_table_only}
use Rattle.walking.specs.Promises.{WalkRoom, CutRuled}
use Rattle.walking.proofs.Orders.{drawn_ranked}
use Rattle.covering.specs.Cones.{ConeAsked, ConeAnswered}
use Rattle.covering.specs.Covers.{luts_in}
use Rattle.covering.proofs.Covered.{root_marked, marked_root}
use Rattle.std.specs.Prelude.{⊤, Result, Ok, Err}
use Rattle.weighing.specs.declared.luts.LutFault.{LutFault}
use Rattle.weighing.specs.declared.luts.LutFault.TheVariants as fault
use Rattle.weighing.specs.PassThree.{LutKept, KeptBelow, LutsRuled, NodeRuled, LutsAsked, LutsAnswered, CutAsked, CutTold, FunctionAsked, FunctionTold, NodeAsked, NodeJudged, FirstJudged}

-- A root's leaves

module _ {inputs nodes k : ℕ} {fanins order cuts roles : List ℕ} {v : ℕ} (asked : CutAsked inputs nodes k fanins order cuts roles v) where
  pub walk_room : WalkRoom inputs nodes k fanins order v roles
  walk_room =
      record {
        drawing = asked.drawing;
        node = asked.below;
        roles_long = asked.roles_long;
      }

  pub cut_told : {leaves : List ℕ} → leaves ≡ list_at cuts v → {r : Bool} {roles' : List ℕ} → CutRuled (net_in inputs nodes fanins) k leaves v roles r roles' →
      CutTold inputs nodes k fanins cuts v roles r roles'
  unfolding net_in
  cut_told lent ruled = record { reply = rw lent at ruled.reply; rest = ruled.walk.rest }

-- A root's table

module _ {inputs nodes k : ℕ} {fanins rows order cuts tables values : List ℕ} {v : ℕ}
    (asked : FunctionAsked inputs nodes k fanins rows order cuts tables values v) {leaves : List ℕ} (lent : leaves ≡ list_at cuts v) where
  pub cone_asked : ConeAsked inputs nodes k fanins rows order v leaves (length values)
  cone_asked =
      record {
        drawing = asked.drawing;
        rows_long = asked.rows_long;
        gate = asked.gate;
        cut = subst (Cut (net_in inputs nodes fanins) k v) (sym lent) asked.cut;
        values_long = asked.values_long;
      }

  pub function_told : {table : ℕ} {values' : List ℕ} → ConeAnswered inputs nodes fanins rows v leaves values table values' →
      FunctionTold inputs nodes fanins rows cuts tables v values (eqb table (get_or tables v 0)) values'
  function_told {table} answered =
      record {
        reply = record { yes = λ same. listed (eqb-true table (get_or tables v 0) same); no = λ other right. false_not_true other (eq-eqb table (get_or tables v 0) (only right)) };
        rest = rw answered.values (cleared_beyond nodes values asked.values_long);
      }
    where
      of_cone : ConeTable (net_in inputs nodes fanins) (tables_in rows) (list_at cuts v) v table
      of_cone = subst (λ (cut : List ℕ). ConeTable (net_in inputs nodes fanins) (tables_in rows) cut v table) lent answered.table_is

      listed : table ≡ get_or tables v 0 → ConeTable (net_in inputs nodes fanins) (tables_in rows) (list_at cuts v) v (get_or tables v 0)
      listed same = subst (ConeTable (net_in inputs nodes fanins) (tables_in rows) (list_at cuts v) v) same of_cone

      only : ConeTable (net_in inputs nodes fanins) (tables_in rows) (list_at cuts v) v (get_or tables v 0) → table ≡ get_or tables v 0
      only right =
          cone_table_only (net_in inputs nodes fanins) (tables_in rows) (drawn_ranked asked.drawing.drawn asked.drawing.ordered) k v (list_at cuts v)
          asked.cut table (get_or tables v 0) of_cone right

-- A node

module _ (net : Net) (tables : ℕ → ℕ) (k inputs nodes : ℕ) (luts cuts : List ℕ) (table : ℕ → ℕ) (v : ℕ) (below : v < nodes) where
  leaves_at : (luts_in inputs nodes cuts luts).leaves v ≡ list_at cuts v
  leaves_at = fanins_in inputs nodes cuts v below

  pub node_none : (get_or luts v 0 ≡ 1 → ⊥) → NodeRuled net tables k (luts_in inputs nodes cuts luts) table v (Ok tt)
  node_none other = NodeRuled.kept (λ at. absurd (other (root_marked nodes luts v at).1))

  pub node_cut : get_or luts v 0 ≡ 1 → (Cut net k v (list_at cuts v) → ⊥) →
      NodeRuled net tables k (luts_in inputs nodes cuts luts) table v (Err (fault.Cut (record { id = v })))
  node_cut one none = NodeRuled.cut (marked_root nodes luts v below one) (λ cut. none (rw leaves_at at cut))

  pub node_function : get_or luts v 0 ≡ 1 → Cut net k v (list_at cuts v) → (ConeTable net tables (list_at cuts v) v (table v) → ⊥) →
      NodeRuled net tables k (luts_in inputs nodes cuts luts) table v (Err (fault.Function (record { id = v })))
  node_function one cut none = NodeRuled.function (marked_root nodes luts v below one) (rw leaves_at cut) (λ right. none (rw leaves_at at right))

  pub node_kept : Cut net k v (list_at cuts v) → ConeTable net tables (list_at cuts v) v (table v) →
      NodeRuled net tables k (luts_in inputs nodes cuts luts) table v (Ok tt)
  node_kept cut right = NodeRuled.kept (λ _. record { cut = rw leaves_at cut; function = rw leaves_at right })

module _ {inputs nodes k : ℕ} {fanins rows order luts cuts tables roles values : List ℕ} {v : ℕ}
    (p : NodeAsked inputs nodes k fanins rows order luts cuts tables roles values v) where
  places : 7 * v + 7 ≤ length cuts
  places = omega (arith, p.below, p.asked.laid.lists.long)

  pub cut_asked : CutAsked inputs nodes k fanins order cuts roles v
  cut_asked =
      record {
        drawing = p.asked.drawing;
        cuts_long = places;
        six = p.asked.laid.lists.six v p.below;
        roles_long = p.asked.roles_long;
        below = p.below;
      }

  pub function_asked : Cut (net_in inputs nodes fanins) k v (list_at cuts v) → FunctionAsked inputs nodes k fanins rows order cuts tables values v
  function_asked cut =
      record {
        drawing = p.asked.drawing;
        cuts_long = places;
        six = p.asked.laid.lists.six v p.below;
        rows_long = p.asked.rows_long;
        table_long = omega (arith, p.below, p.asked.tables_long);
        values_long = p.asked.values_long;
        gate = gate_of_lem inputs nodes fanins p.above p.below;
        cut = cut;
      }

  pub judged_none : (get_or luts v 0 ≡ 1 → ⊥) → NodeJudged inputs nodes k fanins rows luts cuts tables v roles values (Ok tt) roles values
  judged_none other =
      record {
        reply = node_none (net_in inputs nodes fanins) (tables_in rows) k inputs nodes luts cuts (tables_in tables) v p.below other;
        roles_rest = beyond_same nodes roles;
        values_rest = beyond_same nodes values;
      }

  module _ (one : get_or luts v 0 ≡ 1) {a : Bool} {roles' : List ℕ} (cut : CutTold inputs nodes k fanins cuts v roles a roles') where
    pub judged_cut : a ≡ false → NodeJudged inputs nodes k fanins rows luts cuts tables v roles values (Err (fault.Cut (record { id = v }))) roles' values
    judged_cut none =
        record {
          reply = node_cut (net_in inputs nodes fanins) (tables_in rows) k inputs nodes luts cuts (tables_in tables) v p.below one (cut.reply.no none);
          roles_rest = cut.rest;
          values_rest = beyond_same nodes values;
        }

    module _ (is_cut : a ≡ true) {b : Bool} {values' : List ℕ} (told : FunctionTold inputs nodes fanins rows cuts tables v values b values') where
      pub judged_function : b ≡ false →
          NodeJudged inputs nodes k fanins rows luts cuts tables v roles values (Err (fault.Function (record { id = v }))) roles' values'
      judged_function none =
          record {
            reply =
                node_function (net_in inputs nodes fanins) (tables_in rows) k inputs nodes luts cuts (tables_in tables) v p.below one (cut.reply.yes is_cut)
                (told.reply.no none);
            roles_rest = cut.rest;
            values_rest = told.rest;
          }

      pub judged_kept : b ≡ true → NodeJudged inputs nodes k fanins rows luts cuts tables v roles values (Ok tt) roles' values'
      judged_kept right =
          record {
            reply =
                node_kept (net_in inputs nodes fanins) (tables_in rows) k inputs nodes luts cuts (tables_in tables) v p.below (cut.reply.yes is_cut)
                (told.reply.yes right);
            roles_rest = cut.rest;
            values_rest = told.rest;
          }

-- The nodes in turn

module _ {net : Net} {tables : ℕ → ℕ} {k : ℕ} {luts : Luts} {table : ℕ → ℕ} where
  pub kept_none : (inputs : ℕ) → ((r : ℕ) → luts.root r ≡ true → inputs ≤ r) → KeptBelow net tables k luts table inputs
  kept_none inputs gates r low at = absurd (omega (arith, gates r at))

  pub kept_more : (v : ℕ) → KeptBelow net tables k luts table v → NodeRuled net tables k luts table v (Ok tt) → KeptBelow net tables k luts table (v + 1)
  kept_more v so_far (NodeRuled.kept here) r low at = by (ℕ_discrete r v)
    where
      by : Dec (r ≡ v) → LutKept net tables k luts table r
      by (yes e) = subst (LutKept net tables k luts table) (sym e) (here (subst (λ (w : ℕ). luts.root w ≡ true) e at))
      by (no apart) = so_far r (omega arith) at

  pub ruled_here : {v : ℕ} {f : LutFault} → KeptBelow net tables k luts table v → NodeRuled net tables k luts table v (Err f) → LutsRuled net tables k luts table (Err f)
  ruled_here so_far (NodeRuled.cut at none) = LutsRuled.cut at so_far none
  ruled_here so_far (NodeRuled.function at cut none) = LutsRuled.function at so_far cut none

pub record NodesPassed (inputs nodes k : ℕ) (fanins rows luts cuts tables roles₀ values₀ : List ℕ) (v : ℕ) (roles values : List ℕ) : Type 0 where
  pub kept : KeptBelow (net_in inputs nodes fanins) (tables_in rows) k (luts_in inputs nodes cuts luts) (tables_in tables) v
  pub roles_rest : Beyond nodes roles₀ roles
  pub values_rest : Beyond nodes values₀ values

module _ {inputs nodes k : ℕ} {fanins rows order luts cuts tables roles₀ values₀ : List ℕ}
    (p : LutsAsked inputs nodes k fanins rows order luts cuts tables roles₀ values₀) where
  pub nodes_begin : NodesPassed inputs nodes k fanins rows luts cuts tables roles₀ values₀ inputs roles₀ values₀
  nodes_begin =
      record {
        kept = kept_none inputs p.laid.gates;
        roles_rest = beyond_same nodes roles₀;
        values_rest = beyond_same nodes values₀;
      }

  module _ {v : ℕ} {roles values : List ℕ} (i : NodesPassed inputs nodes k fanins rows luts cuts tables roles₀ values₀ v roles values) where
    pub node_asked : inputs ≤ v → v < nodes → NodeAsked inputs nodes k fanins rows order luts cuts tables roles values v
    node_asked above below =
        record {
          asked =
              record {
                drawing = p.drawing;
                laid = p.laid;
                rows_long = p.rows_long;
                tables_long = p.tables_long;
                roles_long = omega (arith, p.roles_long, i.roles_rest.size);
                values_long = omega (arith, p.values_long, i.values_rest.size);
              };
          above = above;
          below = below;
        }

    pub nodes_stop : {f : LutFault} {roles' values' : List ℕ} → NodeJudged inputs nodes k fanins rows luts cuts tables v roles values (Err f) roles' values' →
        FirstJudged inputs nodes k fanins rows luts cuts tables roles₀ values₀ (Err f) roles' values'
    nodes_stop here =
        record {
          reply = ruled_here i.kept here.reply;
          roles_rest = beyond_then i.roles_rest here.roles_rest;
          values_rest = beyond_then i.values_rest here.values_rest;
        }

    pub nodes_more : {roles' values' : List ℕ} → NodeJudged inputs nodes k fanins rows luts cuts tables v roles values (Ok tt) roles' values' →
        NodesPassed inputs nodes k fanins rows luts cuts tables roles₀ values₀ (v + 1) roles' values'
    nodes_more here =
        record {
          kept = kept_more v i.kept here.reply;
          roles_rest = beyond_then i.roles_rest here.roles_rest;
          values_rest = beyond_then i.values_rest here.values_rest;
        }

    pub nodes_all : nodes ≤ v → FirstJudged inputs nodes k fanins rows luts cuts tables roles₀ values₀ (Ok tt) roles values
    nodes_all all =
        record {
          reply = LutsRuled.kept (λ r at. i.kept r (omega (arith, (root_marked nodes luts r at).0)) at);
          roles_rest = i.roles_rest;
          values_rest = i.values_rest;
        }

pub luts_answered : {inputs nodes k : ℕ} {fanins rows luts cuts tables roles₀ values₀ : List ℕ} {r : Result ⊤ LutFault} {roles values roles' values' : List ℕ} →
    FirstJudged inputs nodes k fanins rows luts cuts tables roles₀ values₀ r roles values → roles' ≡ cleared nodes roles → values' ≡ cleared nodes values →
    LutsAnswered inputs nodes k fanins rows luts cuts tables roles₀ values₀ r roles' values'
luts_answered {nodes = nodes} first roles-last values-last =
    record {
      reply = first.reply;
      roles_clear = roles-last ∙ cleared_used nodes first.roles_rest;
      values_clear = values-last ∙ cleared_used nodes first.values_rest;
    }
