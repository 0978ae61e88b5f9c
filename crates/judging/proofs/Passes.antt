-- Pass two: from gate t on the answer is that from the first gate on; and the roles are cleared at the end.
use Rattle.std.specs.Prelude.{Ok, Err}
use Prim.Native.Nat.{ℕ, ◌+◌, ◌-◌, ◌≤◌, ◌<◌}
use native.Mathlib.Omega.{arith}
use mathlib.Core.Path.{◌≡◌, sym, subst, ◌∙◌}
use mathlib.Core.List.{List, [], ◌∷◌}
use Rattle.storage.specs.declared.Node.{Node}
use Rattle.storage.specs.Entries.{cleared, Beyond}
use Rattle.storage.specs.Drawings.{net_in}
use Rattle.storage.proofs.Clears.{beyond_same, beyond_then, cleared_used}
use Rattle.storage.proofs.Drawings.{drawn_span, gate_of_lem}
use Rattle.sheet.specs.paper.Rules.{from, gates}
use Rattle.judging.specs.Gates.{Judged}
use Rattle.judging.specs.declared.Broken.{Broken}
use Rattle.judging.specs.Gates.{Lined, JudgeAsked, GateAsked, JudgesHeld, GatesTried, GatesJudged}
use Rattle.judging.proofs.Firsts.{none_judged, kept_first, broken_first}
use Rattle.sheet.proofs.Firsts.{from_more, from_none}

broken_not_kept : {b : Broken} → ◌≡◌ {A = Judged} (Err b) (Ok tt) → ⊥
broken_not_kept e = let z : ◌≡◌ {A = ℕ} 0 1 = cc in omega arith

-- all gates before t keep their rules
pub record Trying (k inputs nodes : ℕ) (fanins : List ℕ) (l : Lined) (roles : List ℕ) (t : ℕ) (roles' : List ℕ) : Type 0 where
  pub above : inputs ≤ t
  pub below : t ≤ nodes
  pub on : (r : Judged) → JudgesHeld k inputs nodes fanins l (from t (nodes - t)) r → JudgesHeld k inputs nodes fanins l (from inputs (nodes - inputs)) r
  pub rest : Beyond nodes roles roles'

module _ {k inputs nodes : ℕ} {fanins order : List ℕ} {l : Lined} {roles : List ℕ} (asked : JudgeAsked k inputs nodes fanins order l roles) where
  pub trying_starts : Trying k inputs nodes fanins l roles inputs roles
  trying_starts =
      record { above = omega arith; below = drawn_span asked.drawing.drawn; on = λ r judges. judges; rest = beyond_same nodes roles }

  module _ {t : ℕ} {roles' : List ℕ} (trying : Trying k inputs nodes fanins l roles t roles') where
    pub gate_asked : (node : Node) → node.id ≡ t → t < nodes → GateAsked k inputs nodes fanins order l node.id roles'
    gate_asked node e low =
        record {
          asked = record {
            drawing = asked.drawing;
            narrow = asked.narrow;
            most = asked.most;
            lines = asked.lines;
            holds = asked.holds;
            roles_long = omega (arith, trying.rest.size, asked.roles_long);
          };
          gate = gate_of_lem inputs nodes fanins (omega (arith, trying.above)) (omega arith);
        }

    module _ {r : Judged} {roles'' : List ℕ} (tried : GatesTried k inputs nodes fanins l (t ∷ []) roles' r roles'') where
      pub trying_more : t < nodes → r ≡ Ok tt → Trying k inputs nodes fanins l roles (t + 1) roles''
      trying_more low kept =
          record {
            above = omega (arith, trying.above);
            below = omega arith;
            on = λ next judges.
                trying.on next (subst (λ (ts : List ℕ). JudgesHeld k inputs nodes fanins l ts next) (sym (from_more t nodes low))
                (λ most lines holds.
                kept_first (net_in inputs nodes fanins) k lines t (from (t + 1) (nodes - (t + 1))) next
                (subst (λ (x : Judged). JudgesHeld k inputs nodes fanins l (t ∷ []) x) kept tried.reply most lines holds) (judges most lines holds)));
            rest = beyond_then trying.rest tried.rest;
          }

      pub trying_stops : t < nodes → {b : Broken} → r ≡ Err b →
          GatesTried k inputs nodes fanins l (gates (net_in inputs nodes fanins)) roles (Err b) roles''
      unfolding net_in
      trying_stops low {b} fails =
          let as_told = subst (λ (x : Judged). JudgesHeld k inputs nodes fanins l (t ∷ []) x) fails tried.reply in
          record {
            reply =
                trying.on (Err b) (subst (λ (ts : List ℕ). JudgesHeld k inputs nodes fanins l ts (Err b)) (sym (from_more t nodes low))
                (λ most lines holds.
                broken_first (net_in inputs nodes fanins) k lines t (from (t + 1) (nodes - (t + 1))) (Err b) broken_not_kept (as_told most lines holds)));
            rest = beyond_then trying.rest tried.rest;
          }

    pub trying_ends : nodes ≤ t → GatesTried k inputs nodes fanins l (gates (net_in inputs nodes fanins)) roles (Ok tt) roles'
    unfolding net_in
    trying_ends all =
        record {
          reply =
              trying.on (Ok tt) (subst (λ (ts : List ℕ). JudgesHeld k inputs nodes fanins l ts (Ok tt)) (sym (from_none t nodes all))
              (λ most lines holds. none_judged (net_in inputs nodes fanins) k lines));
          rest = trying.rest;
        }

-- Pass two: the roles are cleared at the end, whatever the gates used them for.
pub all_judged : {k inputs nodes : ℕ} {fanins : List ℕ} {l : Lined} {roles roles' roles'' : List ℕ} {r : Judged} →
    GatesTried k inputs nodes fanins l (gates (net_in inputs nodes fanins)) roles r roles' → roles'' ≡ cleared nodes roles' →
    GatesJudged k inputs nodes fanins l roles r roles''
all_judged {nodes = nodes} tried clear = record { reply = tried.reply; roles_clear = clear ∙ cleared_used nodes tried.rest }
