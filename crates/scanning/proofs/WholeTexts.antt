-- A text whole: its lines one after the other are a well_formed text, what is kept of them is what the text says, and where one of them stops the machine
-- halts from the text's beginning on.
use Prim.Native.Nat.{ℕ, suc, ◌+◌, ◌*◌, ◌-◌, ◌≤◌}
use native.Mathlib.Omega.{arith}
use native.Mathlib.Numerals.{add-one}
use mathlib.Core.Path.{◌≡◌, refl, sym, ap, ap₂, ◌∙◌, subst}
use mathlib.Core.Bool.{true, false}
use mathlib.Core.List.{List, [], ◌∷◌, ◌++◌}
use lib.ListN.{length, length-append}
use lib.Seq.{sets, length-sets}
use borrow.Author.Tests.{ne_eqb}
use Rattle.storage.proofs.Stores.{sets_append}
use Rattle.grammar.specs.paper.Text.{byte_at, is_blank, word_in, word_out, same_word}
use Rattle.grammar.specs.paper.Grammar.{between, System, Names, Line}
use Rattle.grammar.specs.paper.Gates.{Definition, input_nodes, equation_nodes}
use Rattle.grammar.specs.Machine.{State, Move, Runs, move, in_word, end_of}
use Rattle.grammar.specs.Stored.{definition_pairs, output_pairs, name_pairs}
use Rattle.grammar.proofs.Bytes.{sign_within}
use Rattle.grammar.proofs.Stored.{pairs_append, pairs_size, input_nodes_size, equation_nodes_size}
use Rattle.grammar.proofs.Words.{between_grows, between_none}
use Rattle.grammar.proofs.Moves.{Waits, run_blanks}
use Rattle.grammar.proofs.Runs.{run_then, run_one}
use Rattle.grammar.proofs.Stops.{done_stuck, before_stuck, letter_i_stuck, halts_then, halts_at}
use Rattle.std.specs.Prelude.{Result, Ok, Err}
use Rattle.spelling.specs.declared.Stopped.{Stopped}
use Rattle.spelling.specs.Spelling.{Skipped}
use Rattle.scanning.specs.declared.Counts.{Counts}
use Rattle.scanning.specs.declared.equations.Stage.{Stage}
use Rattle.scanning.specs.Lines.{which_of, start_of, behind_word, pairs_from, LineAsked, LineRead, LineStopped}
use Rattle.scanning.specs.Equations.{EquationsAsked, EquationsOut}
use Rattle.scanning.specs.Scanning.{counts_of, OutputsAsked, OutputsOf, EquatedOf, ScanAsked, HaltsFrom, InputsRead, InputsOf, TextRead, TextOf}
use Rattle.scanning.proofs.EquationLines.{sofar_gates_size, sofar_names_size}

-- the line of outputs
pub outputs_asked : {s : List ℕ} {stage : Stage} {names : List ℕ} → OutputsAsked s stage names → LineAsked s true stage.next stage.listed names
unfolding which_of start_of behind_word move in_word same_word
outputs_asked {s} {stage} asked =
    record {
      within = asked.within;
      short = asked.short;
      room = asked.room;
      few = asked.few;
      takes = rw asked.ends;
    }

-- bytes behind the last line, none of them a blank
pub behind_last : {s : List ℕ} {at listed : ℕ} {names₀ names : List ℕ} {next count : ℕ} → LineRead s true at listed names₀ names next count →
    (next ≡ length s → ⊥) → LineStopped s true at names₀ names next
unfolding which_of start_of end_of
behind_last {s} {at} {listed} {names₀} {names} {next} line more =
    record {
      halts = halts_at (omega (arith, line.within)) line.run (done_stuck (byte_at s next) line.solid);
      size = ap length line.stored ∙ length-sets names₀ (2 * listed) (pairs_from true listed line.places);
    }

pub equated : {s : List ℕ} {at inputs : ℕ} {gates₀ names₀ gates names₁ : List ℕ} {stage : Stage} (names : List ℕ) (r : Result Counts Stopped) → EquationsAsked s at gates₀ names₀ inputs →
    EquationsOut s at gates₀ names₀ inputs gates names₁ stage.next stage.made stage.listed → OutputsOf s stage inputs names₁ names r →
    EquatedOf s at gates₀ names₀ inputs gates names r
unfolding which_of start_of
equated {names₁ = names₁} {stage = stage} names (Ok c) asked out outputs = record { names₁ = names₁; stage = stage; equated = out; outputs = outputs }
equated names (Err p) asked out stopped =
    record {
      halts = halts_then (run_then out.sofar.run out.out.run) stopped.halts;
      gates_size = sofar_gates_size asked out.sofar;
      names_size = stopped.size ∙ sofar_names_size asked out.sofar;
    }

-- the line of inputs, and what follows
pub inputs_asked : {s gates names : List ℕ} {at : ℕ} → ScanAsked s gates names → at ≤ length s → LineAsked s false at 0 names
unfolding which_of start_of behind_word move
inputs_asked asked within = record { within = within; short = asked.short; room = asked.names_room; few = omega arith; takes = refl }

pub inputs_read : {s names₀ names₁ : List ℕ} {at next count : ℕ} (gates₀ gates names : List ℕ) (r : Result Counts Stopped) → LineRead s false at 0 names₀ names₁ next count →
    EquatedOf s next gates₀ names₁ count gates names r → InputsOf s at gates₀ names₀ gates names r
unfolding which_of start_of end_of
inputs_read {names₁ = names₁} {next = next} {count = count} gates₀ gates names (Ok c) line rest =
    record { names₁ = names₁; next = next; count = count; line = line; rest = rest }
inputs_read {names₀ = names₀} gates₀ gates names (Err p) line stopped =
    record {
      halts = halts_then line.run stopped.halts;
      gates_size = stopped.gates_size;
      names_size = stopped.names_size ∙ ap length line.stored ∙ length-sets names₀ 0 (pairs_from false 0 line.places);
    }

pub inputs_stop : {s names₀ names : List ℕ} {at p : ℕ} (gates : List ℕ) → LineStopped s false at names₀ names p → HaltsFrom s State.read_in at gates names₀ gates names p
unfolding which_of start_of
inputs_stop gates stopped = record { halts = stopped.halts; gates_size = refl; names_size = stopped.size }

-- what is kept of the names behind `in` and behind `out`
pairs_in : (n : ℕ) (ps : List ℕ) → pairs_from false n ps ≡ definition_pairs (input_nodes n ps)
unfolding pairs_from definition_pairs input_nodes
pairs_in n [] = refl
pairs_in n (p ∷ ps) = ap (λ (l : List ℕ). p ∷ n ∷ l) (pairs_in (suc n) ps)

pairs_out : (n : ℕ) (ps : List ℕ) → pairs_from true n ps ≡ output_pairs ps
unfolding pairs_from output_pairs
pairs_out n [] = refl
pairs_out n (p ∷ ps) = ap (λ (l : List ℕ). p ∷ 0 ∷ l) (pairs_out (suc n) ps)

module _ {s : List ℕ} {start : ℕ} (skipped : Skipped s 0 start) where
  to_start : Runs s State.before 0 State.before start
  to_start = run_blanks Waits.before skipped.blanks

  pub no_i : {gates₀ names₀ : List ℕ} → (byte_at s start ≡ 105 → ⊥) → HaltsFrom s State.before 0 gates₀ names₀ gates₀ names₀ start
  no_i differ =
      record {
        halts =
            record {
              state = State.before;
              run = to_start;
              no_move = before_stuck (byte_at s start) skipped.ends (ne_eqb (byte_at s start) 105 differ);
              early = λ e. let z : ◌≡◌ {A = ℕ} 0 1 = cc in omega arith;
            };
        gates_size = refl;
        names_size = refl;
      }

  module _ (letter : byte_at s start ≡ 105) where
    unfolding_i : move State.before 105 ≡ Move.to State.letter_i
    unfolding move is_blank
    unfolding_i = refl

    to_i : Runs s State.before 0 State.letter_i (start + 1)
    to_i =
        run_then to_start
        (subst (Runs s State.before start State.letter_i) (sym (add-one start))
        (run_one (sign_within s start 105 (omega arith) letter) (ap (move State.before) letter ∙ unfolding_i)))

    pub no_n : {gates₀ names₀ : List ℕ} → (byte_at s (start + 1) ≡ 110 → ⊥) → HaltsFrom s State.before 0 gates₀ names₀ gates₀ names₀ (start + 1)
    no_n differ =
        record {
          halts =
              record {
                state = State.letter_i;
                run = to_i;
                no_move = letter_i_stuck (byte_at s (start + 1)) (ne_eqb (byte_at s (start + 1)) 110 differ);
                early = λ e. let z : ◌≡◌ {A = ℕ} 0 1 = cc in omega arith;
              };
          gates_size = refl;
          names_size = refl;
        }

    module _ (second : byte_at s (start + 1) ≡ 110) where
      pub in_within : start + 1 + 1 ≤ length s
      in_within = omega (arith, sign_within s (start + 1) 110 (omega arith) second)

      unfolding_n : move State.letter_i 110 ≡ Move.to State.read_in
      unfolding move
      unfolding_n = refl

      to_in : Runs s State.before 0 State.read_in (start + 1 + 1)
      to_in =
          run_then to_i
          (subst (Runs s State.letter_i (start + 1) State.read_in) (sym (add-one (start + 1)))
          (run_one (sign_within s (start + 1) 110 (omega arith) second) (ap (move State.letter_i) second ∙ unfolding_n)))

      in_here : between s start (start + 1 + 1) ≡ word_in
      in_here =
          let inside = in_within in
          ap (between s start) (add-one (start + 1))
          ∙ between_grows s start (start + 1) (omega arith) (omega arith)
          ∙ ap₂ (λ (l : List ℕ) (b : ℕ). l ++ (b ∷ []))
          (ap (between s start) (add-one start) ∙ between_grows s start start (omega arith) (omega arith) ∙ ap₂ (λ (l : List ℕ) (b : ℕ). l ++ (b ∷ [])) (between_none s start) letter)
          second

      pub whole_stops : {gates₀ names₀ gates names : List ℕ} {p : ℕ} → HaltsFrom s State.read_in (start + 1 + 1) gates₀ names₀ gates names p →
          HaltsFrom s State.before 0 gates₀ names₀ gates names p
      whole_stops stopped =
          record { halts = halts_then to_in stopped.halts; gates_size = stopped.gates_size; names_size = stopped.names_size }

      pub whole_read : {gates₀ names₀ gates names : List ℕ} {c : Counts} → InputsRead s (start + 1 + 1) gates₀ names₀ gates names c → TextRead s gates₀ names₀ gates names c
      whole_read {gates₀} {names₀} {gates} {names} {c} read =
          record {
            says = sys;
            well_formed =
                record {
                  start = start;
                  first = read.next;
                  last = out.last;
                  blanks = skipped.blanks;
                  inputs = inputs;
                  equations = out.sofar.equating;
                  outputs = outputs;
                };
            counts = counts;
            gates_stored = out.sofar.gates_stored;
            names_stored = names_stored;
          }
        where
          out : EquationsOut s read.next gates₀ read.names₁ read.count gates read.rest.names₁ read.rest.stage.next read.rest.stage.made read.rest.stage.listed
          out = read.rest.equated

          ins : LineRead s false (start + 1 + 1) 0 names₀ read.names₁ read.next read.count
          ins = read.line

          outs : LineRead s true read.rest.stage.next read.rest.stage.listed read.rest.names₁ names (length s) read.rest.outputs.count
          outs = read.rest.outputs.line

          sys : System
          sys = record { inputs = ins.places; equations = out.sofar.equations; outputs = outs.places }

          two : start + 1 + 1 ≡ start + 2
          two = omega arith

          inputs : Line s word_in start read.next ins.places
          inputs =
              record {
                names_end = ins.names_end;
                stop = ins.stop;
                keyword_here = ap (between s start) (sym two) ∙ in_here;
                names = subst (λ (i : ℕ). Names s i ins.names_end ins.places) two ins.names_here;
                blanks = ins.blanks;
                end = ins.end;
              }

          outputs : Line s word_out out.last (length s) outs.places
          outputs =
              record {
                names_end = outs.names_end;
                stop = outs.stop;
                keyword_here = out.out.keyword;
                names = subst (λ (i : ℕ). Names s i outs.names_end outs.places) out.out.size outs.names_here;
                blanks = outs.blanks;
                end = outs.end;
              }

          inputs_counted : read.count ≡ length ins.places
          inputs_counted = ins.counted ∙ omega arith

          definitions_counted : read.rest.stage.listed ≡ length ins.places + length out.sofar.equations
          definitions_counted = omega (arith, out.sofar.listed_is, inputs_counted)

          counts : c ≡ counts_of sys
          counts = read.rest.outputs.counts ∙ cc (inputs_counted, definitions_counted, out.sofar.made_is, outputs_counted)
            where
              outputs_counted : read.rest.outputs.count - read.rest.stage.listed ≡ length outs.places
              outputs_counted = omega (arith, outs.counted)

          defined : List Definition
          defined = input_nodes 0 ins.places ++ equation_nodes (length ins.places) out.sofar.equations

          names_stored : names ≡ sets names₀ 0 (name_pairs sys)
          names_stored =
              outs.stored
              ∙ ap (λ (l : List ℕ). sets l (2 * read.rest.stage.listed) (pairs_from true read.rest.stage.listed outs.places)) defined_stored
              ∙ ap₂ (λ (i : ℕ) (l : List ℕ). sets (sets names₀ 0 (definition_pairs defined)) i l) place (pairs_out read.rest.stage.listed outs.places)
              ∙ sets_append names₀ 0 (definition_pairs defined) (output_pairs outs.places)
            where
              defined_stored : read.rest.names₁ ≡ sets names₀ 0 (definition_pairs defined)
              defined_stored =
                  out.sofar.names_stored
                  ∙ ap₂ (λ (l : List ℕ) (n : ℕ). sets l (2 * n) (definition_pairs (equation_nodes n out.sofar.equations)))
                  (ins.stored ∙ ap (sets names₀ 0) (pairs_in 0 ins.places)) inputs_counted
                  ∙ ap (λ (i : ℕ). sets (sets names₀ 0 (definition_pairs (input_nodes 0 ins.places))) i (definition_pairs (equation_nodes (length ins.places) out.sofar.equations)))
                  (omega (arith, pairs_size (input_nodes 0 ins.places), input_nodes_size 0 ins.places))
                  ∙ sets_append names₀ 0 (definition_pairs (input_nodes 0 ins.places)) (definition_pairs (equation_nodes (length ins.places) out.sofar.equations))
                  ∙ ap (sets names₀ 0) (sym (pairs_append (input_nodes 0 ins.places) (equation_nodes (length ins.places) out.sofar.equations)))

              place : 2 * read.rest.stage.listed ≡ 0 + length (definition_pairs defined)
              place =
                  omega (
                    arith,
                    definitions_counted,
                    pairs_size defined,
                    length-append (input_nodes 0 ins.places) (equation_nodes (length ins.places) out.sofar.equations),
                    input_nodes_size 0 ins.places,
                    equation_nodes_size (length ins.places) out.sofar.equations,
                  )

pub whole_text : {s : List ℕ} {start : ℕ} (gates₀ names₀ gates names : List ℕ) (r : Result Counts Stopped) → Skipped s 0 start → byte_at s start ≡ 105 → byte_at s (start + 1) ≡ 110 →
    InputsOf s (start + 1 + 1) gates₀ names₀ gates names r → TextOf s gates₀ names₀ gates names r
whole_text gates₀ names₀ gates names (Ok c) skipped letter second read = whole_read skipped letter second read
whole_text gates₀ names₀ gates names (Err p) skipped letter second stopped = whole_stops skipped letter second stopped
