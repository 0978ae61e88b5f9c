-- The rounds keep a flow with as many paths as rounds; leaves are written one behind the other.
use Prim.Native.Nat.{ℕ, zero, suc, ◌+◌, ◌*◌, ◌≤◌, ◌<◌}
use native.Mathlib.Numerals.{add-one}
use native.Mathlib.Omega.{arith}
use mathlib.Core.Path.{◌≡◌, refl, sym, ap, subst, ◌∙◌}
use mathlib.Core.Bool.{Bool, true, false}
use mathlib.Core.List.{List, [], ◌∷◌, ◌++◌}
use lib.ListN.{length, set, length-append}
use lib.Seq.{sets, length-sets}
use Rattle.theory.specs.paper.Net.{Net}
use Rattle.storage.specs.Drawings.{net_in}
use Rattle.storage.specs.Entries.{Beyond}
use Rattle.storage.proofs.Clears.{beyond_same, beyond_then}
use Rattle.storage.proofs.Stores.{sets_more}
use Rattle.flow.specs.Numbers.{those}
use Rattle.flow.specs.Flow.{one, is_leaf, Carries}
use Rattle.flow.specs.Cells.{Cleared}
use Rattle.flow.specs.Turns.{Searched}
use Rattle.flow.specs.Sweeps.{Field, AllSettled}
use Rattle.flow.specs.Augments.{FlowIn, starts_of, RoundAsked, RoundDone}
use Rattle.flow.specs.Rounds.{RunAsked, leaf_in, leaves_in, LeafPut}
use Rattle.flow.proofs.Sums.{sum_zero, those_yes, those_no, those_grow}
use Rattle.flow.proofs.Sweeping.{zeros_in}
use Rattle.flow.proofs.Augmented.{flow_kept}

-- No path yet

no_flow : {net : Net} {area ends next prev : ℕ → ℕ} → ((v : ℕ) → next v ≡ 0) → ((v : ℕ) → prev v ≡ 0) → Carries net area ends next prev 0
no_flow {net} {prev = prev} no-next no-prev =
    record {
      linked = record {
        inside = λ v used. absurd (omega (arith, no-next v));
        idle = λ v _. no-prev v;
        fresh = λ v _. no-next v;
        ahead = λ v g e. absurd (omega (arith, no-next v));
        back = λ v g e. absurd (omega (arith, no-prev g));
        edge = λ v g e. absurd (omega (arith, no-next v));
      };
      stops = λ v e. absurd (omega (arith, no-next v));
      starts = λ v e. absurd (omega (arith, no-prev v));
      paths = sum_zero (λ v. one (prev v)) net.nodes (λ v low. ap one (no-prev v));
    }

-- A flow of `number` paths, and no more of them than may be.
pub record Running (inputs nodes k : ℕ) (fanins roles links₀ links : List ℕ) (number : ℕ) : Type 0 where
  pub flow : FlowIn inputs nodes fanins roles links number
  pub rest : Beyond (5 * nodes) links₀ links

module _ {inputs nodes k : ℕ} {fanins roles : List ℕ} where
  pub run_starts : {order links links' : List ℕ} → RunAsked inputs nodes k fanins order roles links → Cleared nodes 0 2 links links' →
      Running inputs nodes k fanins roles links' links' 0
  run_starts asked clear =
      record {
        flow = record {
          long = omega (arith, asked.long, clear.rest.size);
          carries = no_flow (zeros_in nodes (clear.zeros 0 (omega arith) (omega arith))) (zeros_in nodes (clear.zeros 1 (omega arith) (omega arith)));
        };
        rest = beyond_same (5 * nodes) _;
      }

  module _ {links₀ links : List ℕ} {number : ℕ} (r : Running inputs nodes k fanins roles links₀ links number) where
    starts_number : starts_of nodes links ≡ number
    unfolding net_in
    starts_number = r.flow.carries.paths

    pub round_asked : {order : List ℕ} → Field inputs nodes fanins order roles → RoundAsked inputs nodes fanins order roles links
    round_asked field = record { field = field; flow = subst (FlowIn inputs nodes fanins roles links) (sym starts_number) r.flow }

    pub round_more : {b : Bool} {links' : List ℕ} → RoundDone inputs nodes fanins roles links b links' → Beyond (5 * nodes) links links' → b ≡ true →
        number ≤ k → Running inputs nodes k fanins roles links₀ links' (number + 1)
    round_more {links' = links'} (RoundDone.more _ flow) rest yes-it-is low =
        record {
          flow = subst (FlowIn inputs nodes fanins roles links') (ap suc starts_number ∙ sym (add-one number)) flow;
          rest = beyond_then r.rest rest;
        }
    round_more (RoundDone.full _ e _ _ _) rest f low = absurd (let w : ◌≡◌ {A = ℕ} 0 1 = cc in omega arith)

    pub round_full : {b : Bool} {links' : List ℕ} → RoundDone inputs nodes fanins roles links b links' → b ≡ false →
        (last : ℕ) × FlowIn inputs nodes fanins roles links' number × Searched inputs nodes fanins roles links' last × AllSettled inputs nodes fanins roles links'
    round_full (RoundDone.more e _) f = absurd (let w : ◌≡◌ {A = ℕ} 0 1 = cc in omega arith)
    round_full (RoundDone.full last _ kept searched settled) f = (last, flow_kept r.flow kept, searched, settled)

-- Leaves

-- the leaves written so far
pub record Written (nodes : ℕ) (links cut₀ cut : List ℕ) (j i : ℕ) : Type 0 where
  pub count : j ≡ length (those (leaf_in nodes links) i)
  pub same : cut ≡ sets cut₀ 0 (those (leaf_in nodes links) i)

module _ {nodes : ℕ} {links cut₀ cut : List ℕ} {j i : ℕ} (w : Written nodes links cut₀ cut j i) where
  abbrev some : ℕ → List ℕ
  some n = those (leaf_in nodes links) n

  pub cut_size : length cut ≡ length cut₀
  cut_size = ap length w.same ∙ length-sets cut₀ 0 (some i)

  pub leaf_room : i < nodes → length (leaves_in nodes links) ≤ length cut₀ → leaf_in nodes links i ≡ true → j < length cut
  leaf_room low room e =
      omega (
        arith,
        w.count,
        those_grow (leaf_in nodes links) (suc i) nodes low,
        ap length (those_yes (leaf_in nodes links) i e),
        length-append (some i) (i ∷ []),
        cut_size,
      )

  pub leaf_turn : {r : ℕ} {cut' : List ℕ} → i < nodes → LeafPut nodes links i j cut r cut' → Written nodes links cut₀ cut' r (i + 1)
  leaf_turn low (LeafPut.put e f g) =
      let more : some (i + 1) ≡ some i ++ (i ∷ []) = ap some (add-one i) ∙ those_yes (leaf_in nodes links) i e in
      record {
        count = omega (arith, w.count, ap length more, length-append (some i) (i ∷ []));
        same = g ∙ ap (λ (l : List ℕ). set l j i) w.same ∙ ap (λ (m : ℕ). set (sets cut₀ 0 (some i)) m i) (omega (arith, w.count))
            ∙ sets_more cut₀ 0 (some i) i ∙ ap (sets cut₀ 0) (sym more);
      }
  leaf_turn low (LeafPut.none e f g) =
      let still : some (i + 1) ≡ some i = ap some (add-one i) ∙ those_no (leaf_in nodes links) i e in
      record {
        count = omega (arith, w.count, ap length still);
        same = g ∙ w.same ∙ ap (sets cut₀ 0) (sym still);
      }

pub none_written : (nodes : ℕ) (links cut : List ℕ) → Written nodes links cut cut 0 0
unfolding those
none_written nodes links cut = record { count = refl; same = refl }

-- the test of a leaf, by what is read of its states
module _ {c s d t : ℕ} (in-read : c ≡ s) (out-read : d ≡ t) where
  pub is_leaf_lem : (c ≡ 0 → ⊥) → d ≡ 0 → is_leaf s t ≡ true
  is_leaf_lem some none = told s t (λ zero. some (in-read ∙ zero)) (sym out-read ∙ none)
    where
      told : (s t : ℕ) → (s ≡ 0 → ⊥) → t ≡ 0 → is_leaf s t ≡ true
      told zero t some none = absurd (some refl)
      told (suc s) zero some none = refl
      told (suc s) (suc t) some none = absurd (omega arith)
