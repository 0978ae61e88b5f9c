-- Forward: what is in the grammar runs. Each notion of the grammar leads from the state in which it is due to a state behind it, by induction on how it
-- was read; an expression in which n brackets may be open is read with d open where d + n is 32.
use Prim.Native.Nat.{ℕ, suc, ◌+◌}
use native.Mathlib.Omega.{arith}
use mathlib.Core.Path.{◌≡◌, refl}
use mathlib.Core.List.{List}
use lib.ListN.{length}
use Rattle.grammar.specs.paper.Text.{word_in, word_out, most_brackets}
use Rattle.grammar.specs.paper.Grammar.{
  Tree,
  Equation,
  System,
  Blanks,
  Gap,
  Names,
  Factor,
  MoreFactors,
  Term,
  MoreTerms,
  Expression,
  Equates,
  Equations,
  Line,
  WellFormed,
}
use Rattle.grammar.specs.Machine.{Which, State, Runs}
use Rattle.grammar.proofs.Runs.{run_then}
use Rattle.grammar.proofs.Moves.{
  Place,
  Due,
  Ended,
  Waits,
  Reached,
  run_blanks,
  run_blanks_ended,
  run_gap_ended,
  run_gap_in,
  run_gap_out,
  run_name,
  run_name_blanks,
  run_in,
  run_out,
  run_bang,
  run_opening,
  run_star,
  run_plus,
  run_closing,
  run_semicolon,
  run_equals,
  run_end_ins,
  run_end_outs,
}

-- what is reached behind a run
pub reached_behind : {s : List ℕ} {c : Place} {q q₁ : State} {i j k : ℕ} → Runs s q i q₁ j → Reached s c q₁ j k → Reached s c q i k
reached_behind run further = record { state = further.state; ended = further.ended; run = run_then run further.run }

-- an operand is read
abbrev pub OperandRun : List ℕ → (d i j : ℕ) → Type 0
OperandRun s d i j = Reached s (Place.operand d) (State.wants d) i j

-- what follows an operand is read
abbrev pub FurtherRun : List ℕ → (d i j : ℕ) → Type 0
FurtherRun s d i j = (q : State) → Ended (Place.operand d) q → Reached s (Place.operand d) q i j

further_run : {s : List ℕ} {d i j k : ℕ} → OperandRun s d i j → FurtherRun s d j k → OperandRun s d i k
further_run read further = reached_behind read.run (further read.state read.ended)

nothing_further : {s : List ℕ} {d i : ℕ} → FurtherRun s d i i
nothing_further q ended = record { state = q; ended = ended; run = Runs.stay }

mutual
  pub factor_runs : {s : List ℕ} {n i j : ℕ} {e : Tree} (d : ℕ) → d + n ≡ most_brackets → Factor s n i j e → OperandRun s d i j
  factor_runs d sum (Factor.negated sign factor) = reached_behind (run_bang sign) (factor_runs d sum factor)
  factor_runs d sum (Factor.bracketed {m = m} more sign expression end) =
      let read = expression_runs (suc d) (omega arith) expression in
      record {
        state = State.has d;
        ended = Ended.behind refl;
        run = run_then (run_opening (omega arith) sign) (run_then read.run (run_closing read.ended end));
      }
  factor_runs d sum (Factor.named name blanks) = run_name_blanks Due.wants name blanks

  pub more_factors_run : {s : List ℕ} {n i j : ℕ} {e f : Tree} (d : ℕ) → d + n ≡ most_brackets → MoreFactors s n e i j f → FurtherRun s d i j
  more_factors_run d sum MoreFactors.no_factor = nothing_further
  more_factors_run d sum (MoreFactors.factor sign factor more) =
      λ q ended. reached_behind (run_star ended sign) (further_run (factor_runs d sum factor) (more_factors_run d sum more))

  pub term_runs : {s : List ℕ} {n i j : ℕ} {e : Tree} (d : ℕ) → d + n ≡ most_brackets → Term s n i j e → OperandRun s d i j
  term_runs d sum (Term.factors factor more) = further_run (factor_runs d sum factor) (more_factors_run d sum more)

  pub more_terms_run : {s : List ℕ} {n i j : ℕ} {e f : Tree} (d : ℕ) → d + n ≡ most_brackets → MoreTerms s n e i j f → FurtherRun s d i j
  more_terms_run d sum MoreTerms.no_term = nothing_further
  more_terms_run d sum (MoreTerms.term sign term more) =
      λ q ended. reached_behind (run_plus ended sign) (further_run (term_runs d sum term) (more_terms_run d sum more))

  pub expression_runs : {s : List ℕ} {n i j : ℕ} {e : Tree} (d : ℕ) → d + n ≡ most_brackets → Expression s n i j e → OperandRun s d i j
  expression_runs d sum (Expression.terms term more) = further_run (term_runs d sum term) (more_terms_run d sum more)

-- a state that a gap leads out of, to where a name of a line is due
abbrev pub Leads : List ℕ → Which → State → Type 0
Leads s x q = (q₁ : State) × Due (Place.line x) q₁ × ((i j : ℕ) → Gap s i j → Runs s q i q₁ j)

module _ {s : List ℕ} where
  -- "name = expression;" leads from between lines to between lines
  pub equation_runs : {i j : ℕ} {e : Tree} → Equates s i j e → Runs s State.between_lines i State.between_lines j
  equation_runs equates =
      let name = run_name_blanks Due.between_lines equates.named equates.blanks in
      let read = expression_runs 0 (omega arith) equates.expression in
      run_then name.run (run_then (run_equals name.ended equates.equals_sign) (run_then read.run (run_semicolon read.ended equates.end)))

  pub equations_run : {i j : ℕ} {list : List Equation} → Equations s i j list → Runs s State.between_lines i State.between_lines j
  equations_run Equations.none = Runs.stay
  equations_run (Equations.more equates rest) = run_then (equation_runs equates) (equations_run rest)

  pub names_run : {x : Which} {q : State} {i j : ℕ} {places : List ℕ} → Leads s x q → Names s i j places → Reached s (Place.line x) q i j
  names_run {x = x} {q = q} leads (Names.one {i = i} {a = a} gap name) = reached_behind (leads.2 i a gap) (run_name leads.1 name)
  names_run {x = x} {q = q} leads (Names.more {i = i} {a = a} gap name rest) =
      let first = run_name leads.1 name in
      reached_behind (leads.2 i a gap) (reached_behind first.run
      (names_run {q = first.state} (State.next x, Due.next, λ k m between-names. run_gap_ended first.ended between-names) rest))

  -- a name's line but for the keyword and `;`
  pub line_runs : {x : Which} {q : State} {i a j : ℕ} {places : List ℕ} → Leads s x q → Names s i a places → Blanks s a j → Reached s (Place.line x) q i j
  line_runs leads names blanks =
      let read = names_run leads names in
      reached_behind read.run (run_blanks_ended read.ended blanks)

  pub inputs_run : {i j : ℕ} {places : List ℕ} → Line s word_in i j places → Runs s State.before i State.between_lines j
  inputs_run line =
      let read = line_runs (State.first Which.ins, Due.first, λ k m gap. run_gap_in gap) line.names line.blanks in
      run_then (run_in line.keyword_here) (run_then read.run (run_end_ins read.ended line.end))

  pub outputs_run : {i j : ℕ} {places : List ℕ} → Line s word_out i j places → Runs s State.between_lines i State.done j
  outputs_run line =
      let read = line_runs (State.first Which.outs, Due.first, λ k m gap. run_gap_out gap) line.names line.blanks in
      run_then (run_out line.keyword_here) (run_then read.run (run_end_outs read.ended line.end))

  pub text_runs : {sys : System} → WellFormed s sys → Runs s State.before 0 State.done (length s)
  text_runs text =
      run_then (run_blanks Waits.before text.blanks) (run_then (inputs_run text.inputs)
      (run_then (equations_run text.equations) (outputs_run text.outputs)))
