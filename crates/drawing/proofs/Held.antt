-- After a whole reading the arrays hold the net and the tables of the table that was read, and that net is K-bounded.
-- Each store of a line lands in its own places, seven a node, and leaves those of the others; an input's line is the empty list.
use Prim.Native.Nat.{ℕ, zero, suc, ◌+◌, ◌*◌, ◌-◌, ◌≤◌, ◌<◌}
use mathlib.Core.Path.{◌≡◌, refl, ap, sym, subst, fun_ext, ◌∙◌}
use mathlib.Core.Bool.{Bool, true, false, cond}
use mathlib.Core.List.{List, [], ◌∷◌, map}
use native.Mathlib.Nat.{le_of_suc-le-suc, not-suc-le-zero}
use native.Mathlib.Decide.{dec_lt}
use native.Mathlib.Omega.{arith}
use borrow.Author.Tests.{lt-ltb, le-ltb, ltb-true, ltb-false}
use lib.Dec.{ltb}
use lib.ListN.{length, get_or, take, length-map, get_or-map, get_or-eq_default}
use lib.Seq.{sets, length-sets}
use Rattle.theory.specs.paper.Net.{Gate}
use Rattle.theory.specs.paper.Sound.{Bounded}
use Rattle.storage.specs.Lists.{size_at, list_at, ListsIn}
use Rattle.storage.specs.Drawings.{net_in, tables_in}
use Rattle.storage.proofs.Stores.{stored_at, stored_run}
use Rattle.storage.proofs.InLists.{put_size, put_list, put_other_size, put_other}
use Rattle.drawing.specs.paper.Fields.{Verdict}
use Rattle.std.specs.Prelude.{Ok, Err}
use Rattle.drawing.specs.paper.Limits.{most_k, most_nodes}
use Rattle.drawing.specs.paper.Table.{GateLine, Table, no_gate, line_of, net_of, tables_of}
use Rattle.drawing.specs.paper.Fields.{head_k, head_i, head_verdict}
use Rattle.drawing.specs.paper.Reading.{found, after_head, nodes_of, table_of}
use Rattle.drawing.specs.Reading.{Lines, Arrays, enough, no_fanins, with_inputs, put_gate, put_gates, filled}
use Rattle.drawing.proofs.Verdicts.{not_sound}
use Rattle.drawing.specs.Lines.{SoundLine}
use Rattle.drawing.proofs.SoundTables.{SoundLines, table_sound}
use Rattle.drawing.proofs.Filled.{no_fanins_length}
use Rattle.drawing.proofs.Wholes.{long_enough}

-- ---- a node's list in an array: how many ids, and which

record Listed (lists : List ℕ) (v : ℕ) (ids : List ℕ) : Type 0 where
  pub size : size_at lists v ≡ length ids
  pub list : list_at lists v ≡ ids

module _ (lists : List ℕ) (t : ℕ) (ids : List ℕ) (long : 7 * t + 7 ≤ length lists) (few : length ids ≤ most_k) where
  listed_here : Listed (sets lists (7 * t) (length ids ∷ ids)) t ids
  listed_here = record { size = put_size lists t ids long few; list = put_list lists t ids long few }

  -- a list stored elsewhere
  listed_beside : {v : ℕ} {js : List ℕ} → (v ≡ t → ⊥) → 7 * v + 7 ≤ length lists → length js ≤ most_k → Listed lists v js →
      Listed (sets lists (7 * t) (length ids ∷ ids)) v js
  listed_beside {v} {js} apart room small is =
      record {
        size = put_other_size lists t ids long few v apart ∙ is.size;
        list = put_other lists t ids long few v apart room (omega (arith, is.size)) ∙ is.list;
      }

-- the inputs' lists are empty
inputs_listed : (fanins : List ℕ) (inputs : ℕ) → 7 * inputs ≤ length fanins → (v : ℕ) → v < inputs → Listed (no_fanins fanins inputs) v []
unfolding no_fanins
inputs_listed fanins zero long v low = absurd (not-suc-le-zero low)
inputs_listed fanins (suc u) long v low = by (dec_lt v u) (inputs_listed fanins u (omega arith) v)
  where
    size : length (no_fanins fanins u) ≡ length fanins
    size = no_fanins_length fanins u

    by : Dec (v < u) → (v < u → Listed (no_fanins fanins u) v []) → Listed (no_fanins fanins (suc u)) v []
    by (yes below) before =
        listed_beside (no_fanins fanins u) u [] (omega (arith, size)) (omega arith) (omega arith) (omega (arith, size)) (omega arith) (before below)
    by (no above) before =
        let last : v ≡ u = omega arith in
        subst (λ (w : ℕ). Listed (no_fanins fanins (suc u)) w []) (sym last)
        (listed_here (no_fanins fanins u) u [] (omega (arith, size)) (omega arith))

-- ---- the lines of gates from node v on

rows_run : (a : Lines) (v : ℕ) (gs : List GateLine) → (put_gates a v gs).rows ≡ sets a.rows v (map (λ (g : GateLine). g.table) gs)
unfolding put_gates
rows_run a v [] = refl
rows_run a v (g ∷ gs) = rows_run (put_gate a v g) (suc v) gs

run_length : (a : Lines) (v : ℕ) (gs : List GateLine) → length (put_gates a v gs).fanins ≡ length a.fanins
unfolding put_gates
run_length a v [] = refl
run_length a v (g ∷ gs) = run_length (put_gate a v g) (suc v) gs ∙ length-sets a.fanins (7 * v) (length g.fanins ∷ g.fanins)

module _ {k nodes : ℕ} (six : k ≤ most_k) where
  -- the lists of nodes before them are as they were
  run_before : (a : Lines) (v : ℕ) (gs : List GateLine) → SoundLines k nodes gs → 7 * (v + length gs) ≤ length a.fanins →
      {w : ℕ} {js : List ℕ} → w < v → length js ≤ most_k → Listed a.fanins w js → Listed (put_gates a v gs).fanins w js
  unfolding put_gates
  run_before a v [] sound long low small is = is
  run_before a v (g ∷ gs) (SoundLines.more line sound) long {w} {js} low small is =
      let few : length g.fanins ≤ most_k = omega (arith, line.few) in
      let room : 7 * (suc v + length gs) ≤ length (sets a.fanins (7 * v) (length g.fanins ∷ g.fanins)) = rw length-sets (omega arith) in
      run_before (put_gate a v g) (suc v) gs sound room (omega arith) small
      (listed_beside a.fanins v g.fanins (omega arith) few (omega arith) (omega arith) small is)

  run_at : (a : Lines) (v : ℕ) (gs : List GateLine) → SoundLines k nodes gs → 7 * (v + length gs) ≤ length a.fanins →
      (i : ℕ) → i < length gs → Listed (put_gates a v gs).fanins (v + i) (get_or gs i no_gate).fanins
  unfolding put_gates
  run_at a v [] sound long i low = absurd (not-suc-le-zero low)
  run_at a v (g ∷ gs) (SoundLines.more line sound) long zero low =
      let few : length g.fanins ≤ most_k = omega (arith, line.few) in
      let room : 7 * (suc v + length gs) ≤ length (sets a.fanins (7 * v) (length g.fanins ∷ g.fanins)) = rw length-sets (omega arith) in
      let here : v + 0 ≡ v = omega arith in
      rw here
      (run_before (put_gate a v g) (suc v) gs sound room (omega arith) few (listed_here a.fanins v g.fanins (omega arith) few))
  run_at a v (g ∷ gs) (SoundLines.more line sound) long (suc i) low =
      let room : 7 * (suc v + length gs) ≤ length (sets a.fanins (7 * v) (length g.fanins ∷ g.fanins)) = rw length-sets (omega arith) in
      let there : v + suc i ≡ suc v + i = omega arith in
      rw there (run_at (put_gate a v g) (suc v) gs sound room i (le_of_suc-le-suc low))

line_of_lem : {k nodes : ℕ} (gs : List GateLine) → SoundLines k nodes gs → (i : ℕ) → i < length gs → SoundLine k nodes (get_or gs i no_gate)
line_of_lem [] sound i h = absurd (not-suc-le-zero h)
line_of_lem (g ∷ gs) (SoundLines.more line sound) zero h = line
line_of_lem (g ∷ gs) (SoundLines.more line sound) (suc i) h = line_of_lem gs sound i (le_of_suc-le-suc h)

module _ (a : Lines) (k inputs : ℕ) (gs : List GateLine) (sound : SoundLines k (inputs + length gs) gs) (six : k ≤ most_k)
    (fanins-long : 7 * (inputs + length gs) ≤ length a.fanins) (rows_long : inputs + length gs ≤ length a.rows) (outputs : List ℕ) where
  after : Lines
  after = put_gates (with_inputs a inputs) inputs gs

  table : Table
  table = record { k = k; inputs = inputs; gates = gs; outputs = outputs }

  begun_long : 7 * (inputs + length gs) ≤ length (no_fanins a.fanins inputs)
  begun_long = omega (arith, no_fanins_length a.fanins inputs)

  line_listed : (v : ℕ) → v < inputs + length gs → Listed after.fanins v (line_of table v).fanins
  unfolding after table
  line_listed v node = by (ltb v inputs) refl
    where
      by : (b : Bool) → ltb v inputs ≡ b → Listed after.fanins v (cond b no_gate (get_or gs (v - inputs) no_gate)).fanins
      by true e =
          let low : v < inputs = ltb-true v inputs e in
          run_before six (with_inputs a inputs) inputs gs sound begun_long low (omega arith) (inputs_listed a.fanins inputs (omega arith) v low)
      by false e =
          let high : inputs ≤ v = ltb-false v inputs e in
          let back : inputs + (v - inputs) ≡ v = omega arith in
          subst (λ (w : ℕ). Listed after.fanins w (get_or gs (v - inputs) no_gate).fanins) back
          (run_at six (with_inputs a inputs) inputs gs sound begun_long (v - inputs) (omega arith))

  line_few : (v : ℕ) → v < inputs + length gs → length (line_of table v).fanins ≤ most_k
  unfolding table
  line_few v node = by (ltb v inputs) refl
    where
      by : (b : Bool) → ltb v inputs ≡ b → length (cond b no_gate (get_or gs (v - inputs) no_gate)).fanins ≤ most_k
      by true e = omega arith
      by false e =
          let high : inputs ≤ v = ltb-false v inputs e in
          omega (arith, (line_of_lem gs sound (v - inputs) (omega arith)).few)

  lists_held : ListsIn (inputs + length gs) after.fanins
  unfolding after
  lists_held =
      record {
        long = omega (arith, run_length (with_inputs a inputs) inputs gs, begun_long);
        six = λ v node. omega (arith, (line_listed v node).size, line_few v node);
      }

  -- by whether v is a node
  fanins_held : (v : ℕ) → (net_in inputs (inputs + length gs) after.fanins).fanins v ≡ (net_of table).fanins v
  unfolding net_in net_of table
  fanins_held v = by (ltb v (inputs + length gs)) refl
    where
      by : (c : Bool) → ltb v (inputs + length gs) ≡ c → cond c (list_at after.fanins v) [] ≡ (line_of table v).fanins
      by true f = (line_listed v (ltb-true v (inputs + length gs) f)).list
      by false f =
          let above : inputs + length gs ≤ v = ltb-false v (inputs + length gs) f in
          let none : get_or gs (v - inputs) no_gate ≡ no_gate = get_or-eq_default gs no_gate (omega arith) in
          sym
          (ap (λ (b : Bool). (cond b no_gate (get_or gs (v - inputs) no_gate)).fanins) (le-ltb v inputs (omega arith))
          ∙ ap (λ (g : GateLine). g.fanins) none)

  net_held : net_in inputs (inputs + length gs) after.fanins ≡ net_of table
  unfolding net_in net_of table
  net_held = λ i. record { inputs = inputs; nodes = inputs + length gs; fanins = fun_ext fanins_held i }

  gate_rows : (i : ℕ) → i < length gs → get_or after.rows (inputs + i) 0 ≡ (get_or gs i no_gate).table
  unfolding after
  gate_rows i h =
      ap (λ (r : List ℕ). get_or r (inputs + i) 0) (rows_run (with_inputs a inputs) inputs gs)
      ∙ stored_at a.rows inputs (map (λ (g : GateLine). g.table) gs) i (rw length-map h) (rw length-map rows_long)
      ∙ get_or-map (λ (g : GateLine). g.table) gs i no_gate

  tables_held : (v : ℕ) → Gate (net_of table) v → tables_in after.rows v ≡ tables_of table v
  unfolding net_of table
  tables_held v gate =
      let inside : v - inputs < length gs = omega (arith, gate.above, gate.below) in
      let same : v ≡ inputs + (v - inputs) = omega (arith, gate.above) in
      ap (λ (w : ℕ). get_or after.rows w 0) same
      ∙ gate_rows (v - inputs) inside
      ∙ sym (ap (λ (b : Bool). (cond b no_gate (get_or gs (v - inputs) no_gate)).table) (le-ltb v inputs gate.above))

  line_at : (v : ℕ) → Gate (net_of table) v → SoundLine k (inputs + length gs) (line_of table v)
  unfolding net_of table
  line_at v gate =
      subst (λ (b : Bool). SoundLine k (inputs + length gs) (cond b no_gate (get_or gs (v - inputs) no_gate))) (sym (le-ltb v inputs gate.above))
      (line_of_lem gs sound (v - inputs) (omega (arith, gate.above, gate.below)))

  net_bounded : Bounded (net_of table) k
  unfolding net_of table
  net_bounded =
      record {
        span = omega arith;
        inputs_feed = λ v h. ap (λ (b : Bool). (cond b no_gate (get_or gs (v - inputs) no_gate)).fanins) (lt-ltb v inputs h);
        fed = λ g gate. (line_at g gate).some;
        few = λ g gate. (line_at g gate).few;
        nodes = λ g gate v m. (line_at g gate).nodes_only v m;
      }

sound_head_of : (s : List ℕ) → (found s).verdict ≡ Ok tt → head_verdict s ≡ Ok tt
unfolding found
sound_head_of s e = by (head_verdict s) e
  where
    by : (v : Verdict) → (after_head s v).verdict ≡ Ok tt → v ≡ Ok tt
    by (Ok _) e = refl
    by (Err r) e = absurd (not_sound r e)

-- What the arrays hold after a whole reading: the table's net, its tables and its outputs; other entries of `outputs` are as before.
pub record Holds (s : List ℕ) (after : Arrays) : Type 0 where
  pub net : net_in (head_i s) (nodes_of s) after.lines.fanins ≡ net_of (table_of s)
  pub tables : (v : ℕ) → Gate (net_of (table_of s)) v → tables_in after.lines.rows v ≡ tables_of (table_of s) v
  pub outputs : take (length (found s).outputs) after.outputs ≡ (found s).outputs
  pub bounded : Bounded (net_of (table_of s)) (head_k s)
  pub lists : ListsIn (nodes_of s) after.lines.fanins

pub whole_holds : (a : Arrays) (s : List ℕ) → enough a ≡ true → (found s).verdict ≡ Ok tt → Holds s (filled a s)
unfolding filled after table
whole_holds a s long ruled =
    let sound = table_sound s ruled in
    let room = long_enough a long in
    let inputs = head_i s in
    let gs = (found s).gates in
    let outs = (found s).outputs in
    let lines = put_gates (with_inputs a.lines inputs) inputs gs in
    let nodes : inputs + length gs ≡ nodes_of s = ap (λ (g : ℕ). head_i s + g) sound.size in
    let kept : SoundLines (head_k s) (inputs + length gs) gs = subst (λ (n : ℕ). SoundLines (head_k s) n gs) (sym nodes) sound.lines in
    let six = sound.head.k_most in
    let few : inputs + length gs ≤ most_nodes = omega (arith, sound.head.nodes_most) in
    let fanins-long : 7 * (inputs + length gs) ≤ length a.lines.fanins = omega (arith, room.fanins) in
    let rows_long : inputs + length gs ≤ length a.lines.rows = omega (arith, room.rows) in
    let is : filled a s ≡ record { lines = lines; outputs = sets a.outputs 0 outs } = rw (long, sound_head_of s ruled) in
    rw is
    (record {
      net =
          subst (λ (n : ℕ). net_in inputs n lines.fanins ≡ net_of (table_of s)) nodes
          (net_held a.lines (head_k s) inputs gs kept six fanins-long rows_long outs);
      tables = tables_held a.lines (head_k s) inputs gs kept six fanins-long rows_long outs;
      outputs = stored_run a.outputs 0 outs (omega (arith, room.outputs, sound.few));
      bounded = net_bounded a.lines (head_k s) inputs gs kept six fanins-long rows_long outs;
      lists =
          subst (λ (n : ℕ). ListsIn n lines.fanins) nodes
          (lists_held a.lines (head_k s) inputs gs kept six fanins-long rows_long outs);
    })
