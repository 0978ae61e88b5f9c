-- Lines of gates that stand in a table from some node on: parts of them stand too, each is its node's line in the net, and it reads what it names.
use Prim.Native.Nat.{ℕ, ◌+◌, ◌-◌, ◌≤◌, ◌<◌}
use native.Mathlib.Nat.{add-zero}
use native.Mathlib.Omega.{arith}
use mathlib.Core.Path.{◌≡◌, sym, ap, subst, ◌∙◌}
use mathlib.Core.Bool.{Bool, cond}
use mathlib.Core.List.{List, [], ◌∷◌, ◌++◌, map, Memᴰ}
use lib.ListN.{length, get_or, length-append, get_or-append, get_or-eq_default}
use lib.Seq.{get_or-append-add}
use borrow.Author.Tests.{le-ltb, lt-ltb}
use Rattle.theory.specs.paper.Net.{Gate}
use Rattle.theory.specs.paper.Values.{row_of, result_at, Obeys}
use Rattle.theory.specs.paper.Walk.{Walked, Behind}
use Rattle.theory.specs.paper.Sound.{Bounded}
use Rattle.theory.proofs.DecideNet.{NothingBeyond}
use Rattle.theory.proofs.Walks.{behind_on}
use Rattle.drawing.specs.paper.Table.{GateLine, Table, no_gate, line_of, net_of, tables_of}
use Rattle.drawing.specs.Lines.{SoundLine}
use Rattle.grammar.proofs.Entries.{entry_member}

pub record Stands (t : Table) (n : ℕ) (ls : List GateLine) : Type 0 where
  pub above : t.inputs ≤ n
  pub below : n + length ls ≤ t.inputs + length t.gates
  pub each : (i : ℕ) → i < length ls → line_of t (n + i) ≡ get_or ls i no_gate

pub gate_line : (t : Table) (i : ℕ) → line_of t (t.inputs + i) ≡ get_or t.gates i no_gate
gate_line t i =
    let back : t.inputs + i - t.inputs ≡ i = omega arith in
    ap (λ (b : Bool). cond b no_gate (get_or t.gates (t.inputs + i - t.inputs) no_gate)) (le-ltb (t.inputs + i) t.inputs (omega arith))
    ∙ ap (λ (x : ℕ). get_or t.gates x no_gate) back

pub gates_stand : (t : Table) → Stands t t.inputs t.gates
gates_stand t = record { above = omega arith; below = omega arith; each = λ i low. gate_line t i }

module _ {t : Table} {n : ℕ} where
  pub stands_first : (l m : List GateLine) → Stands t n (l ++ m) → Stands t n l
  stands_first l m st =
      let below : n + length (l ++ m) ≤ t.inputs + length t.gates = st.below in
      let long = length-append l m in
      record { above = st.above; below = omega arith; each = λ i low. st.each i (omega arith) ∙ get_or-append l m no_gate i low }

  pub stands_after : (l m : List GateLine) {a : ℕ} → length l ≡ a → Stands t n (l ++ m) → Stands t (n + a) m
  stands_after l m {a} size st =
      let above : t.inputs ≤ n = st.above in
      let below : n + length (l ++ m) ≤ t.inputs + length t.gates = st.below in
      let long = length-append l m in
      record {
        above = omega arith;
        below = omega arith;
        each = λ i low.
            let there : n + a + i ≡ n + (length l + i) = omega arith in
            ap (line_of t) there ∙ st.each (length l + i) (omega arith) ∙ get_or-append-add l m i no_gate;
      }

-- those of two operands and the gate behind them
pub record Operands (t : Table) (n a b : ℕ) (l m : List GateLine) (g : GateLine) : Type 0 where
  pub left : Stands t n l
  pub right : Stands t (n + a) m
  pub last : Stands t (n + (a + b)) (g ∷ [])

pub operands_stand : {t : Table} {n a b : ℕ} (l m : List GateLine) {g : GateLine} → length l ≡ a → length m ≡ b → Stands t n (l ++ m ++ (g ∷ [])) →
    Operands t n a b l m g
operands_stand {t} {n} {a} {b} l m {g} first second st =
    let both : Stands t n (l ++ m) = stands_first (l ++ m) (g ∷ []) st in
    record {
      left = stands_first l m both;
      right = stands_after l m first both;
      last = stands_after (l ++ m) (g ∷ []) (length-append l m ∙ (λ i. first i + second i)) st;
    }

-- One gate

module _ {t : Table} {n : ℕ} {g : GateLine} (st : Stands t n (g ∷ [])) where
  pub line_here : line_of t n ≡ g
  line_here = ap (line_of t) (sym (add-zero n)) ∙ st.each 0 (omega arith)

  pub gate_here : Gate (net_of t) n
  unfolding net_of
  gate_here = let below = st.below in record { above = st.above; below = omega arith }

  pub fanins_here : (net_of t).fanins n ≡ g.fanins
  unfolding net_of
  fanins_here = ap (λ (l : GateLine). l.fanins) line_here

  -- where the gates are obeyed, it has its table's bit
  pub value_here : (x : ℕ → Bool) → Obeys (net_of t) (tables_of t) x → x n ≡ result_at g.table (row_of (map x g.fanins))
  unfolding net_of
  value_here x obeys = obeys n gate_here ∙ ap (λ (l : GateLine). result_at l.table (row_of (map x l.fanins))) line_here

  -- what is walked from a fanin lies behind it
  pub behind_here : {u v : ℕ} → Memᴰ u g.fanins → Walked (net_of t) [] u v → Behind (net_of t) n v
  behind_here {u} reads walked =
      behind_on (record { reader = n; walked = Walked.start; feeds = subst (Memᴰ u) (sym fanins_here) reads }) walked

-- The net of a table of sound lines

pub nothing_beyond : (t : Table) → NothingBeyond (net_of t)
unfolding net_of
nothing_beyond t g far =
    ap (λ (b : Bool). (cond b no_gate (get_or t.gates (g - t.inputs) no_gate)).fanins) (le-ltb g t.inputs (omega arith))
    ∙ ap (λ (l : GateLine). l.fanins) (get_or-eq_default t.gates no_gate (omega arith))

module _ (t : Table) (k : ℕ) (sound : (g : GateLine) → Memᴰ g t.gates → SoundLine k (t.inputs + length t.gates) g) where
  sound_at : (v : ℕ) → Gate (net_of t) v → SoundLine k (t.inputs + length t.gates) (line_of t v)
  unfolding net_of
  sound_at v gate =
      let high = gate.above in let low = gate.below in
      let there : t.inputs + (v - t.inputs) ≡ v = omega arith in
      subst (λ (w : ℕ). SoundLine k (t.inputs + length t.gates) (line_of t w)) there
      (subst (SoundLine k (t.inputs + length t.gates)) (sym (gate_line t (v - t.inputs)))
      (sound (get_or t.gates (v - t.inputs) no_gate) (entry_member no_gate t.gates (v - t.inputs) (omega arith))))

  pub sound_bounded : Bounded (net_of t) k
  unfolding net_of
  sound_bounded =
      record {
        span = omega arith;
        inputs_feed = λ v input. ap (λ (b : Bool). (cond b no_gate (get_or t.gates (v - t.inputs) no_gate)).fanins) (lt-ltb v t.inputs input);
        fed = λ g gate. (sound_at g gate).some;
        few = λ g gate. (sound_at g gate).few;
        nodes = λ g gate v m. (sound_at g gate).nodes_only v m;
      }
