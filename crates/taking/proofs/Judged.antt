-- What `take_table` answers is what the bytes say, where the arrays are long enough; and the arrays of a table taken are ready.
use Prim.Native.Nat.{ℕ, ◌≤◌}
use mathlib.Core.Path.{◌≡◌, refl, ap, sym, subst, ◌∙◌}
use mathlib.Core.Bool.{Bool, true, false, cond, true≢false}
use mathlib.Core.List.{List}
use native.Mathlib.Omega.{arith}
use lib.ListN.{length}
use Rattle.std.specs.Prelude.{⊤, Result, Ok, Err}
use borrow.Author.Tests.{le-leb}
use Rattle.theory.specs.paper.Net.{Net}
use Rattle.theory.specs.paper.Walk.{NoLoop}
use Rattle.storage.specs.declared.Node.{Node}
use Rattle.storage.specs.declared.Numbers.{Numbers}
use Rattle.storage.specs.Drawings.{Arranged}
use Rattle.drawing.specs.declared.Refusal.{Refusal}
use Rattle.drawing.specs.declared.Refusal.TheVariants as refusal
use Rattle.drawing.specs.Refusals as table
use Rattle.drawing.specs.paper.Fields.{Verdict}
use Rattle.drawing.specs.declared.ReadError.TheVariants as read
use Rattle.drawing.specs.paper.Limits.{most_nodes, most_outputs}
use Rattle.drawing.specs.paper.Table.{net_of}
use Rattle.drawing.specs.paper.Fields.{head_k, head_i}
use Rattle.drawing.specs.paper.Reading.{found, table_of, nodes_of, numbers_of}
use Rattle.drawing.specs.Reading.{Arrays, arrays_of, reading, reply_of, filled, enough, most_places}
use Rattle.drawing.proofs.SoundTables.{SoundTable, table_sound}
use Rattle.drawing.proofs.Held.{Holds, whole_holds}
use Rattle.drawing.proofs.Wholes.{enough_long}
use Rattle.walking.specs.Promises.{LoopRuling, OrderMade}
use Rattle.walking.proofs.Outcomes.{order_taken}
use Rattle.walking.proofs.Unique.{lowest_one, some_loop}
use Rattle.taking.specs.declared.TakeError.TheVariants.{Refused, LoopAt, TooShort}
use Rattle.taking.specs.Taking.{roomy, after_order, After, Takes}
use Rattle.taking.specs.paper.Taken.{drawn, ReadsWhole}
use Rattle.taking.specs.paper.Says.{Taking, Says}
use Rattle.taking.specs.Judged.{Ready}
use Rattle.taking.proofs.Takings.{holds_drawn}

abbrev is_sound : Verdict → Bool
is_sound (Ok _) = true
is_sound (Err x) = false

-- one table, one reply
pub says_one : {s : List ℕ} {r q : Taking} → Says s r → Says s q → r ≡ q
says_one {s} (Says.refused {x = x} e) (Says.refused {x = y} f) = ap refusal (sym e ∙ f)
  where
    refusal : Verdict → Taking
    refusal (Err z) = Err (Refused z)
    refusal (Ok _) = Err TooShort
says_one (Says.refused e) (Says.loop f _) = absurd (true≢false (ap is_sound (sym f ∙ e)))
says_one (Says.refused e) (Says.taken t) = absurd (true≢false (ap is_sound (sym t.whole ∙ e)))
says_one (Says.loop f _) (Says.refused e) = absurd (true≢false (ap is_sound (sym f ∙ e)))
says_one (Says.loop _ a) (Says.loop _ b) = ap (λ (i : ℕ). Err (LoopAt (record { id = i }))) (lowest_one a b)
says_one (Says.loop _ a) (Says.taken t) = absurd (some_loop t.no_loop a)
says_one (Says.taken t) (Says.refused e) = absurd (true≢false (ap is_sound (sym t.whole ∙ e)))
says_one (Says.taken t) (Says.loop _ b) = absurd (some_loop t.no_loop b)
says_one (Says.taken _) (Says.taken _) = refl

-- a table that reads whole, once its order is made
after_order_lem : {s : List ℕ} {o : Result ⊤ Node} → ReadsWhole s → LoopRuling (drawn s) o → Says s (after_order (numbers_of s) o)
after_order_lem whole (LoopRuling.none free) = Says.taken (record { whole = whole; no_loop = free })
after_order_lem whole (LoopRuling.lowest loop) = Says.loop whole loop

module _ (a : Arrays) (order₀ marks₀ s : List ℕ) (long : enough a ≡ true) where
  reading_is : reading a s ≡ reply_of s (found s) (found s).verdict
  unfolding reading
  reading_is = ap (λ (b : Bool). cond b (reply_of s (found s) (found s).verdict) (Err read.TooShort)) long

  after_says : {r : Taking} {order marks : List ℕ} (v : Verdict) → (found s).verdict ≡ v →
      After s order₀ marks₀ r order marks (reply_of s (found s) v) → Says s r
  after_says (Ok _) e (After.ordered o p made) = subst (Says s) (sym p) (after_order_lem e made.reply)
  after_says (Err x) e (After.refused p _ _) = subst (Says s) (sym p) (Says.refused e)

  pub takes_says : {r : Taking} {b : Arrays} {order marks : List ℕ} → roomy order₀ marks₀ ≡ true →
      Takes a order₀ marks₀ s r b order marks → Says s r
  takes_says roomy-true (Takes.short e _ _ _ _) = absurd (true≢false (sym roomy-true ∙ e))
  takes_says {r} {b} {order} {marks} roomy-true (Takes.long _ _ after) =
      after_says (found s).verdict refl (subst (After s order₀ marks₀ r order marks) reading_is after)

abbrev taken_numbers : Numbers → Taking → Numbers
taken_numbers n (Ok m) = m
taken_numbers n (Err (Refused x)) = n
taken_numbers n (Err (LoopAt g)) = n
taken_numbers n (Err TooShort) = n

abbrev is_taken : Taking → Bool
is_taken (Ok n) = true
is_taken (Err (Refused x)) = false
is_taken (Err (LoopAt g)) = false
is_taken (Err TooShort) = false

-- What is known of a table that was taken: its numbers, and its arrays.
pub record TakenAs (s : List ℕ) (n : Numbers) (b : Arrays) (order : List ℕ) : Type 0 where
  pub numbers_are : n ≡ numbers_of s
  pub ready : Ready s b.lines.fanins b.lines.rows b.outputs order

loop_free : {net : Net} → LoopRuling net (Ok tt) → NoLoop net
loop_free (LoopRuling.none free) = free

module _ (a : Arrays) (order₀ marks₀ s : List ℕ) (long : enough a ≡ true) (b : Arrays) (order marks : List ℕ) (n : Numbers)
    (rows_long : most_nodes ≤ length b.lines.rows) (outputs_long : most_outputs ≤ length b.outputs) (order_long : most_nodes ≤ length order) where
  ready_whole : b ≡ filled a s → (found s).verdict ≡ Ok tt → (made : OrderMade (net_of (table_of s)) order₀ marks₀ (Ok tt) order marks) →
      Ready s b.lines.fanins b.lines.rows b.outputs order
  ready_whole is sound order-made =
      let holds : Holds s b = subst (Holds s) (sym is) (whole_holds a s long sound) in
      let table : SoundTable s (found s) = table_sound s sound in
      let most = (table).head.nodes_most in
      let drawn = holds_drawn holds in
      let drawing : Arranged (head_i s) (nodes_of s) (head_k s) b.lines.fanins order =
      record {
        drawn = drawn;
        order_long = omega arith;
        ordered = order_taken drawn (subst (λ (net : Net). OrderMade net order₀ marks₀ (Ok tt) order marks) (sym holds.net) order-made) refl;
        small = omega arith;
        k_small = (table).head.k_most;
      } in
      record {
        taken = record { whole = sound; no_loop = loop_free order-made.reply };
        net = holds.net;
        drawing = drawing;
        rows_long = omega arith;
        tables = holds.tables;
        outputs_long = omega (arith, (table).few);
        outputs_held = holds.outputs;
      }

  after_ready : (v : Verdict) → (found s).verdict ≡ v → b ≡ filled a s → After s order₀ marks₀ (Ok n) order marks (reply_of s (found s) v) →
      TakenAs s n b order
  after_ready (Ok _) e is (After.ordered (Ok _) p order-made) =
      record { numbers_are = ap (taken_numbers n) p; ready = ready_whole is e order-made }
  after_ready (Ok _) e is (After.ordered (Err g) p order-made) = absurd (true≢false (ap is_taken p))
  after_ready (Err x) e is (After.refused p _ _) = absurd (true≢false (ap is_taken p))

  pub taken_ready : Takes a order₀ marks₀ s (Ok n) b order marks → TakenAs s n b order
  taken_ready (Takes.short e p _ _ _) = absurd (true≢false (ap is_taken p))
  taken_ready (Takes.long _ is after) =
      after_ready (found s).verdict refl is (subst (After s order₀ marks₀ (Ok n) order marks) (reading_is a order₀ marks₀ s long) after)

pub roomy_long : (order marks : List ℕ) → most_nodes ≤ length order → most_nodes ≤ length marks → roomy order marks ≡ true
roomy_long order marks order_long marks_long = simp (le-leb most_nodes (length order) order_long, le-leb most_nodes (length marks) marks_long)

-- What `take_table` answers with arrays that are long enough.
module _ {fanins₀ rows₀ outputs₀ order₀ marks₀ s fanins rows outputs order marks : List ℕ} {t : Taking}
    (takes : Takes (arrays_of fanins₀ rows₀ outputs₀) order₀ marks₀ s t (arrays_of fanins rows outputs) order marks)
    (fanins-long : most_places ≤ length fanins₀) (rows_long : most_nodes ≤ length rows₀) (outputs_long : most_outputs ≤ length outputs₀)
    (order_long : most_nodes ≤ length order₀) (marks_long : most_nodes ≤ length marks₀) where
  long_enough : enough (arrays_of fanins₀ rows₀ outputs₀) ≡ true
  long_enough = enough_long (arrays_of fanins₀ rows₀ outputs₀) (record { fanins = fanins-long; rows = rows_long; outputs = outputs_long })

  pub says : Says s t
  says = takes_says (arrays_of fanins₀ rows₀ outputs₀) order₀ marks₀ s long_enough (roomy_long order₀ marks₀ order_long marks_long) takes

  pub table_taken : {n : Numbers} → t ≡ Ok n → length rows ≡ length rows₀ → length outputs ≡ length outputs₀ → length order ≡ length order₀ →
      TakenAs s n (arrays_of fanins rows outputs) order
  table_taken {n} is rows_same outputs-same order_same =
      taken_ready (arrays_of fanins₀ rows₀ outputs₀) order₀ marks₀ s long_enough (arrays_of fanins rows outputs) order marks n (omega arith) (omega arith)
      (omega arith)
      (subst (λ (u : Taking). Takes (arrays_of fanins₀ rows₀ outputs₀) order₀ marks₀ s u (arrays_of fanins rows outputs) order marks) is takes)

  -- the arrays are never too short
  pub never_short : t ≡ Err TooShort → ⊥
  never_short is = says_not_short (subst (Says s) is says) refl
    where
      says_not_short : {u : Taking} → Says s u → u ≡ Err TooShort → ⊥
      says_not_short (Says.refused e) same = let z : ◌≡◌ {A = ℕ} 0 1 = cc in omega arith
      says_not_short (Says.loop _ _) same = let z : ◌≡◌ {A = ℕ} 0 1 = cc in omega arith
      says_not_short (Says.taken _) same = let z : ◌≡◌ {A = ℕ} 0 1 = cc in omega arith

-- the paper's numbers of a table's refusals are 1 to 6
pub refusal_number : (x : Refusal) → (1 ≤ table.number x) × (table.number x ≤ 6)
refusal_number (refusal.Torn at) = (omega arith, omega arith)
refusal_number (refusal.Tag at) = (omega arith, omega arith)
refusal_number (refusal.Length at) = (omega arith, omega arith)
refusal_number (refusal.Range at) = (omega arith, omega arith)
refusal_number (refusal.Rows at) = (omega arith, omega arith)
refusal_number (refusal.Outputs at) = (omega arith, omega arith)
