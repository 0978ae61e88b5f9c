-- A text says one thing at most: `well_formed_one`. Its lines and equations one after the other, left to right; an equation's left name is told from
-- the word `out` by its end, where no letter and no digit stands.
use Prim.Native.Nat.{ℕ, zero, suc, ◌+◌, ◌-◌, ◌≤◌, ◌<◌}
use native.Mathlib.Nat.{add-zero}
use native.Mathlib.Omega.{arith}
use mathlib.Core.Path.{◌≡◌, refl, sym, ap, ap₂, subst, ◌∙◌}
use mathlib.Core.Logic.{inr}
use mathlib.Core.Bool.{true}
use mathlib.Core.List.{List, [], ◌∷◌}
use lib.ListN.{length, get_or}
use Rattle.grammar.specs.paper.Text.{byte_at, is_word_byte, is_letter, semicolon, word_in, word_out}
use Rattle.grammar.specs.paper.Grammar.{between, Tree, Equation, System, Blanks, Gap, Name, Names}
use Rattle.grammar.specs.paper.Grammar.{Equates, Equations, Line, WellFormed}
use Rattle.grammar.proofs.Bytes.{letter_in_word, letter_no_blank}
use Rattle.grammar.proofs.Words.{between_at}
use Rattle.grammar.proofs.ByteKinds.{behind_no_blank, behind_no_word, semicolon_no_letter, equals_no_blank, equals_no_word}
use Rattle.grammar.proofs.Ends.{NoBlank, NoWord, one_end, blanks_end, sign_ends, name_ends, before_blanks, gap_no_word, name_starts, blanks_from}
use Rattle.grammar.proofs.OneTree.{Same, expression_starts, expression_one, expression_from_lem, sign_from}

-- blanks and `;` behind the last name of a line
pub record Closed (s : List ℕ) (i : ℕ) : Type 0 where
  pub stop : ℕ
  pub blanks : Blanks s i stop
  pub here : byte_at s stop ≡ semicolon

record SameNames (j j' : ℕ) (l l' : List ℕ) : Type 0 where
  end : j ≡ j'
  places : l ≡ l'

record SameLine (s : List ℕ) (j j' : ℕ) (l l' : List ℕ) : Type 0 where
  end : NoBlank s j → NoBlank s j' → j ≡ j'
  places : l ≡ l'

record SameEquations (j j' : ℕ) (l l' : List Equation) : Type 0 where
  end : j ≡ j'
  equations : l ≡ l'

-- Keywords

-- it has a letter, and no byte that is none
record Lettered (w : List ℕ) : Type 0 where
  some : 0 < length w
  each : (m : ℕ) → m < length w → is_letter (get_or w m 0) ≡ true

each_in : (m : ℕ) → m < length word_in → is_letter (get_or word_in m 0) ≡ true
unfolding is_letter
each_in zero less = refl
each_in (suc zero) less = refl
each_in (suc (suc m)) less = absurd (omega arith)

each_out : (m : ℕ) → m < length word_out → is_letter (get_or word_out m 0) ≡ true
unfolding is_letter
each_out zero less = refl
each_out (suc zero) less = refl
each_out (suc (suc zero)) less = refl
each_out (suc (suc (suc m))) less = absurd (omega arith)

lettered_in : Lettered word_in
lettered_in = record { some = omega arith; each = each_in }

lettered_out : Lettered word_out
lettered_out = record { some = omega arith; each = each_out }

letter_between : (s : List ℕ) {w : List ℕ} → Lettered w → (i : ℕ) → between s i (i + length w) ≡ w → (m : ℕ) → m < length w → is_letter (byte_at s (i + m)) ≡ true
letter_between s {w} lettered i here m less = ap is_letter (between_at s i (i + length w) m w here less) ∙ lettered.each m less

module _ {s : List ℕ} where
  -- Names in a line

  pub closed_no_word : {i : ℕ} → Closed s i → NoWord s i
  closed_no_word c = before_blanks c.blanks (behind_no_word (inr (inr (inr c.here))))

  closed_no_gap : {i j a : ℕ} → i ≡ j → Closed s i → Gap s j a → is_letter (byte_at s a) ≡ true → ⊥
  closed_no_gap {a = a} same c g letter =
      let there = blanks_end c.blanks (blanks_from (sym same) g.blanks) (behind_no_blank (inr (inr (inr c.here)))) (letter_no_blank (byte_at s a) letter) in
      semicolon_no_letter (sym (ap (byte_at s) there) ∙ c.here) letter

  pub names_gap : {i j : ℕ} {places : List ℕ} → Names s i j places → NoWord s i
  names_gap (Names.one g n) = gap_no_word g
  names_gap (Names.more g n rest) = gap_no_word g

  gap_ends : {i a a' b b' : ℕ} → Gap s i a → Gap s i a' → Name s a b → Name s a' b' → a ≡ a'
  gap_ends g g' n n' = blanks_end g.blanks g'.blanks (name_starts n) (name_starts n')

  name_from : {a a' b : ℕ} → a ≡ a' → Name s a b → Name s a' b
  name_from {b = b} same n = subst (λ (x : ℕ). Name s x b) same n

  names_from_lem : {i i' j : ℕ} {places : List ℕ} → i ≡ i' → Names s i j places → Names s i' j places
  names_from_lem {j = j} {places} same n = subst (λ (x : ℕ). Names s x j places) same n

  -- the next gap, in a line whose names are at an end
  no_more_names : {i j b : ℕ} {places : List ℕ} → i ≡ b → Closed s i → Names s b j places → ⊥
  no_more_names same c (Names.one g n) = closed_no_gap same c g n.letter
  no_more_names same c (Names.more g n rest) = closed_no_gap same c g n.letter

  names_one : {i j j' : ℕ} {l l' : List ℕ} → Names s i j l → Names s i j' l' → Closed s j → Closed s j' → SameNames j j' l l'
  names_one (Names.one g n) (Names.one g' n') c c' =
      let first = gap_ends g g' n n' in
      record { end = name_ends n (name_from (sym first) n') (closed_no_word c) (closed_no_word c'); places = ap {B = List ℕ} (λ p. p ∷ []) first }
  names_one (Names.one g n) (Names.more g' n' rest') c c' =
      let first = gap_ends g g' n n' in
      absurd (no_more_names (name_ends n (name_from (sym first) n') (closed_no_word c) (names_gap rest')) c rest')
  names_one (Names.more g n rest) (Names.one g' n') c c' =
      let first = gap_ends g g' n n' in
      absurd (no_more_names (sym (name_ends n (name_from (sym first) n') (names_gap rest) (closed_no_word c'))) c' rest)
  names_one (Names.more g n rest) (Names.more g' n' rest') c c' =
      let first = gap_ends g g' n n' in
      let next = name_ends n (name_from (sym first) n') (names_gap rest) (names_gap rest') in
      let later = names_one rest (names_from_lem (sym next) rest') c c' in
      record { end = later.end; places = ap₂ {C = List ℕ} ◌∷◌ first later.places }

  pub closed_line : {keyword : List ℕ} {i j : ℕ} {places : List ℕ} → (line : Line s keyword i j places) → Closed s line.names_end
  closed_line line = record { stop = line.stop; blanks = line.blanks; here = line.end.here }

  line_one : {keyword : List ℕ} {i j j' : ℕ} {l l' : List ℕ} → Line s keyword i j l → Line s keyword i j' l' → SameLine s j j' l l'
  line_one line line' =
      let both = names_one line.names line'.names (closed_line line) (closed_line line') in
      let out = behind_no_blank (inr (inr (inr line.end.here))) in
      let out' = behind_no_blank (inr (inr (inr line'.end.here))) in
      let stops = blanks_end line.blanks (blanks_from (sym both.end) line'.blanks) out out' in
      record { end = λ next next'. sign_ends line.end (sign_from (sym stops) line'.end) next next'; places = both.places }

  line_starts : {w : List ℕ} {i j : ℕ} {places : List ℕ} → Lettered w → Line s w i j places → NoBlank s i
  line_starts {i = i} lettered line =
      subst (NoBlank s) (add-zero i) (letter_no_blank (byte_at s (i + 0)) (letter_between s lettered i line.keyword_here 0 lettered.some))

  pub out_starts : {i j : ℕ} {places : List ℕ} → Line s word_out i j places → NoBlank s i
  out_starts line = line_starts lettered_out line

  pub in_starts : {i j : ℕ} {places : List ℕ} → Line s word_in i j places → NoBlank s i
  in_starts line = line_starts lettered_in line

  -- the word `out` before blanks is no name
  out_no_name : {i j a : ℕ} {places : List ℕ} → Line s word_out i j places → Name s i a → NoWord s a → ⊥
  out_no_name {i} {a = a} line name out = name.not_out (subst (λ (x : ℕ). between s i x ≡ word_out) same line.keyword_here)
    where
      some : i < a
      some = name.some

      word : (m : ℕ) → i ≤ m → m < i + length word_out → is_word_byte (byte_at s m) ≡ true
      word m low high =
          let there : i + (m - i) ≡ m = omega arith in
          subst (λ (x : ℕ). is_word_byte (byte_at s x) ≡ true) there
          (letter_in_word (byte_at s (i + (m - i))) (letter_between s lettered_out i line.keyword_here (m - i) (omega arith)))

      same : i + length word_out ≡ a
      same = one_end (λ m. is_word_byte (byte_at s m)) {i = i} (omega arith) (omega arith) word name.each (names_gap line.names) out

  -- Equations

  pub left_no_word : {i j : ℕ} {e : Tree} (q : Equates s i j e) → NoWord s q.name_end
  left_no_word q = before_blanks q.blanks (equals_no_word q.equals_sign.here)

  equates_one : {i j j' : ℕ} {e e' : Tree} → Equates s i j e → Equates s i j' e' → NoBlank s j → NoBlank s j' → Same j j' e e'
  equates_one q q' next next' =
      let names = name_ends q.named q'.named (left_no_word q) (left_no_word q') in
      let signs = blanks_end q.blanks (blanks_from (sym names) q'.blanks) (equals_no_blank q.equals_sign.here) (equals_no_blank q'.equals_sign.here) in
      let starts = sign_ends q.equals_sign (sign_from (sym signs) q'.equals_sign) (expression_starts q.expression) (expression_starts q'.expression) in
      let both = expression_one q.expression (expression_from_lem refl (sym starts) q'.expression) (inr q.end.here) (inr q'.end.here) in
      record { end = sign_ends q.end (sign_from (sym both.end) q'.end) next next'; tree = both.tree }

  pub equations_start : {i j k : ℕ} {l : List Equation} {places : List ℕ} → Equations s i j l → Line s word_out j k places → NoBlank s i
  equations_start Equations.none line = out_starts line
  equations_start (Equations.more q rest) line = name_starts q.named

  equations_from_lem : {i i' j : ℕ} {l : List Equation} → i ≡ i' → Equations s i j l → Equations s i' j l
  equations_from_lem {j = j} {l} same r = subst (λ (x : ℕ). Equations s x j l) same r

  equations_one : {i j j' k k' : ℕ} {l l' : List Equation} {p p' : List ℕ} → Equations s i j l → Equations s i j' l' →
      Line s word_out j k p → Line s word_out j' k' p' → SameEquations j j' l l'
  equations_one Equations.none Equations.none line line' = record { end = refl; equations = refl }
  equations_one Equations.none (Equations.more q' rest') line line' = absurd (out_no_name line q'.named (left_no_word q'))
  equations_one (Equations.more q rest) Equations.none line line' = absurd (out_no_name line' q.named (left_no_word q))
  equations_one (Equations.more {i = i} q rest) (Equations.more q' rest') line line' =
      let first = equates_one q q' (equations_start rest line) (equations_start rest' line') in
      let later = equations_one rest (equations_from_lem (sym first.end) rest') line line' in
      record {
        end = later.end;
        equations = ap₂ {C = List Equation} (λ (e : Tree) (l : List Equation). record { place = i; tree = e } ∷ l) first.tree later.equations;
      }

  line_from_lem : {w : List ℕ} {i i' j : ℕ} {places : List ℕ} → i ≡ i' → Line s w i j places → Line s w i' j places
  line_from_lem {w} {j = j} {places} same line = subst (λ (x : ℕ). Line s w x j places) same line

  pub well_formed_one : {sys sys' : System} → WellFormed s sys → WellFormed s sys' → sys ≡ sys'
  well_formed_one {sys} {sys'} w w' =
      let starts = blanks_end w.blanks w'.blanks (in_starts w.inputs) (in_starts w'.inputs) in
      let ins = line_one w.inputs (line_from_lem (sym starts) w'.inputs) in
      let firsts = ins.end (equations_start w.equations w.outputs) (equations_start w'.equations w'.outputs) in
      let middle = equations_one w.equations (equations_from_lem (sym firsts) w'.equations) w.outputs w'.outputs in
      let outs = line_one w.outputs (line_from_lem (sym middle.end) w'.outputs) in
      λ i. record { inputs = ins.places i; equations = middle.equations i; outputs = outs.places i }
