-- A test of a text, `is_answered`, and the lemma that carries it to the definitions: the machine halts at the place, or the reader finds what the text says
-- and the rest is tried.
use Prim.Native.Nat.{ℕ}
use mathlib.Core.Path.{◌≡◌, refl}
use mathlib.Core.Bool.{Bool, true, not, ◌&&◌, ◌||◌}
use mathlib.Core.List.{List}
use lib.ListN.{length}
use lib.Dec.{leb}
use borrow.Author.Tests.{leb-true}
use Rattle.theory.specs.paper.Net.{Net}
use Rattle.theory.specs.paper.Walk.{LowestLoop, NoLoop}
use Rattle.theory.proofs.Tests.{◌and_then◌, passed, decides_not, decides_if, decides_below, every_below}
use Rattle.theory.proofs.DecideNet.{is_gate, decides_gate, is_bounded, decides_bounded}
use Rattle.theory.proofs.DecideCut.{is_loop, decides_loop, is_lowest_loop, decides_lowest_loop}
use Rattle.drawing.specs.paper.Table.{Table, net_of}
use Rattle.tabling.specs.paper.Encoding.{encode, encode_in}
use Rattle.wording.specs.paper.Text.{bytes}
use Rattle.grammar.specs.paper.Text.{most_text}
use Rattle.grammar.specs.paper.Grammar.{System, WellFormed}
use Rattle.grammar.specs.paper.Gates.{table_for}
use Rattle.grammar.proofs.Longest.{halts_is_longest, halts_not_well_formed}
use Rattle.cases.specs.paper.Cases.{Outcome}
use Rattle.cases.specs.paper.Answers.{Answer, Typed, Gives, Ends, Answers, Answered}
use Rattle.cases.proofs.Tests.{both, is_same_numbers, same_numbers, is_same_table, same_table}
use Rattle.cases.proofs.Readings.{text_from, text_stands, accepts, accepted}
use Rattle.cases.proofs.Stopping.{is_halted, halted}
use Rattle.cases.proofs.NameTests.{is_well_named, well_named, is_first_misnamed, first_misnamed, is_in_numbers, decides_numbers}

-- A text that reads, and passes a test of what it says

record Read (s : List ℕ) (test : System → Bool) : Type 0 where
  says : System
  well_formed : WellFormed s says
  passes : test says ≡ true

unfoldable reads : List ℕ → (System → Bool) → Bool
unfolding text_from accepts
reads s test = accepts (text_from s) (λ _ sys. test sys)

read : (s : List ℕ) (test : System → Bool) → reads s test ≡ true → Read s test
unfolding reads
read s test e =
    let (_, sys, whole, passes) = accepted (λ _ sys. test sys) (text_stands s) e in
    record { says = sys; well_formed = whole; passes = passes }

-- Loops: a gate has at most K fanins, and none is on a loop, or the one given is the lowest that is

unfoldable is_free : (k : ℕ) → Net → Bool
unfolding every_below is_gate is_loop is_bounded
is_free k net = is_bounded net k && every_below net.nodes (λ g. not (is_gate net g) || not (is_loop net g))

free : (k : ℕ) (net : Net) → is_free k net ≡ true → NoLoop net
unfolding is_free
free k net = passed
    (decides_bounded net k
    and_then (λ bounded. decides_below net.nodes _ (λ g _. decides_if (decides_gate net g) (λ gate. decides_not (decides_loop bounded gate.below)))))
    (λ h g gate. h.1 g gate.below gate)

unfoldable is_looped : (k : ℕ) → Net → (gate : ℕ) → Bool
unfolding is_bounded is_lowest_loop
is_looped k net gate = is_bounded net k && is_lowest_loop net gate

looped : (k : ℕ) (net : Net) (gate : ℕ) → is_looped k net gate ≡ true → LowestLoop net gate
unfolding is_looped
looped k net gate = passed (decides_bounded net k and_then (λ bounded. decides_lowest_loop bounded gate)) (λ h. h.1)

unfoldable is_ending : (k : ℕ) → Net → Outcome → Bool
unfolding is_free is_looped
is_ending k net (Outcome.maps sheet size) = is_free k net
is_ending k net (Outcome.loops lowest) = is_looped k net lowest

ends : (k : ℕ) (net : Net) (outcome : Outcome) → is_ending k net outcome ≡ true → Ends net outcome
unfolding is_ending
ends k net (Outcome.maps sheet size) test = free k net test
ends k net (Outcome.loops lowest) test = looped k net lowest test

-- Gate tables

unfoldable is_given : (s : List ℕ) (k : ℕ) → Table → System → Bool
unfolding is_well_named is_in_numbers is_same_table table_for
is_given s k t sys = is_well_named s sys && is_in_numbers k sys && is_same_table (table_for s k sys) t

given : (s : List ℕ) (k : ℕ) (t : Table) → Read s (is_given s k t) → Gives s k t
unfolding is_given
given s k t r =
    let (front, same) = both r.passes in
    let (named, numbers) = both front in
    record {
      says = r.says;
      well_formed = r.well_formed;
      well_named = well_named s r.says named;
      numbers = (decides_numbers k r.says).holds numbers;
      table = same_table (table_for s k r.says) t same;
    }

-- All answers

unfoldable is_answer : (s : List ℕ) (k : ℕ) → Answer → Bool
unfolding is_halted reads is_first_misnamed is_well_named is_in_numbers is_given net_of table_for is_looped is_free is_ending is_same_numbers encode_in
is_answer s k (Answer.ungrammatical p) = is_halted s p
is_answer s k (Answer.misnamed p) = reads s (λ sys. is_first_misnamed s sys p)
is_answer s k Answer.outside = reads s (λ sys. is_well_named s sys && not (is_in_numbers k sys))
is_answer s k (Answer.loops gate) = reads s (λ sys. is_well_named s sys && is_in_numbers k sys && is_looped k (net_of (table_for s k sys)) gate)
is_answer s k (Answer.becomes t) = reads s (is_given s k t) && is_free k (net_of t)
is_answer s k (Answer.draws c) =
    reads s (is_given s k c.table) && is_same_numbers (encode c.table) c.bytes && is_ending k (net_of c.table) c.outcome

answers : (s : List ℕ) (k : ℕ) (answer : Answer) → is_answer s k answer ≡ true → Answers s k answer
unfolding is_answer
answers s k (Answer.ungrammatical p) test =
    let halts = halted s p test in record { never = halts_not_well_formed halts; longest = halts_is_longest halts }
answers s k (Answer.misnamed p) test =
    let r = read s _ test in record { says = r.says; well_formed = r.well_formed; first = first_misnamed s r.says p r.passes }
answers s k Answer.outside test =
    let r = read s _ test in
    let (named, exceeds) = both r.passes in
    record {
      says = r.says;
      well_formed = r.well_formed;
      well_named = well_named s r.says named;
      exceeds = (decides_not (decides_numbers k r.says)).holds exceeds;
    }
answers s k (Answer.loops gate) test =
    let r = read s _ test in
    let (front, loop) = both r.passes in
    let (named, numbers) = both front in (
      table_for s k r.says,
      record {
        says = r.says;
        well_formed = r.well_formed;
        well_named = well_named s r.says named;
        numbers = (decides_numbers k r.says).holds numbers;
        table = refl;
      },
      looped k (net_of (table_for s k r.says)) gate loop,
    )
answers s k (Answer.becomes t) test = let (gives, none) = both test in (given s k t (read s _ gives), free k (net_of t) none)
answers s k (Answer.draws c) test =
    let (front, ending) = both test in
    let (gives, same) = both front in
    record {
      gives = given s k c.table (read s _ gives);
      bytes = same_numbers (encode c.table) c.bytes same;
      ends = ends k (net_of c.table) c.outcome ending;
    }

unfoldable pub is_answered : Typed → Bool
unfolding is_answer
is_answered t = leb (length (bytes t.text)) most_text && is_answer (bytes t.text) t.k t.answer

pub answered : (t : Typed) → is_answered t ≡ true → Answered t
unfolding is_answered
answered t test =
    let (short, answer) = both test in
    record { short = leb-true (length (bytes t.text)) most_text short; answers = answers (bytes t.text) t.k t.answer answer }
