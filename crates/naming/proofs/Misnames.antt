-- The wrong names of a system are those that stand in the arrays: definitions with one before them of the same word, and names in expressions and
-- behind `out` whose word no definition has.
use Prim.Native.Nat.{ℕ, zero, suc, ◌*◌, ◌<◌}
use native.Mathlib.Nat.{le_of_suc-le-suc, not-suc-le-zero}
use native.Mathlib.Decide.{dec_lt}
use native.Mathlib.Omega.{arith}
use mathlib.Core.Path.{◌≡◌, ap, sym, ◌∙◌}
use mathlib.Core.Logic.{◌⊎◌, inl, inr, ⊎_elim}
use mathlib.Core.List.Memᴰ
use mathlib.Core.List.{List, [], ◌∷◌, flat_map, Memᴰ}
use lib.ListN.{length, get_or, take}
use Rattle.theory.specs.paper.Lists.{Rising}
use Rattle.theory.proofs.Members.{rising_tail, rising_above}
use Rattle.grammar.specs.paper.Text.{most_text, word_at}
use Rattle.grammar.specs.paper.Grammar.{System}
use Rattle.grammar.specs.paper.Names.{used_by, definitions, uses, Misnamed}
use Rattle.grammar.proofs.Entries.{entry_member, member_place}
use Rattle.grammar.proofs.Stored.{definitions_size}
use Rattle.naming.specs.Stored.{Stored, place_in}
use Rattle.naming.specs.Lines.{Three, three_in}
use Rattle.std.specs.Prelude.{Option}
use Rattle.naming.specs.Wrongs.{Named, LeastOf, earlier_of, OneBelow, Among, AgainAt, UndefinedOperand, UndefinedInGate, UndefinedOutput}
use Rattle.naming.proofs.Leasts.{least_same, least_of_two, named_of_least}
use Rattle.naming.proofs.Threes.{flat, all_threes, flat_all, all_threes_size, three_at, no_three}
use Rattle.naming.proofs.Pairs.{definition_stored, output_stored}
use Rattle.naming.proofs.Uses.{HeldIn, all_used_held, all_held_used}

-- In a rising list what is less stands before

rising_at : {l : List ℕ} → Rising l → (i j : ℕ) → i < j → j < length l → get_or l i 0 < get_or l j 0
rising_at {l = []} r i j before inside = absurd (not-suc-le-zero inside)
rising_at {l = u ∷ l} r i zero before inside = absurd (not-suc-le-zero before)
rising_at {l = u ∷ l} r zero (suc j) before inside = rising_above r (get_or l j 0) (entry_member 0 l j (le_of_suc-le-suc inside))
rising_at {l = u ∷ l} r (suc i) (suc j) before inside =
    rising_at (rising_tail r) i j (le_of_suc-le-suc before) (le_of_suc-le-suc inside)

rising_order : {l : List ℕ} → Rising l → (i j : ℕ) → i < length l → j < length l → get_or l i 0 < get_or l j 0 → i < j
rising_order {l} r i j first second less = by_order (dec_lt i j) (dec_lt j i)
  where
    by_order : Dec (i < j) → Dec (j < i) → i < j
    by_order (yes before) d = before
    by_order (no later) (yes after) = absurd (omega (arith, rising_at r j i after first))
    by_order (no later) (no earlier) =
        let e : i ≡ j = omega (arith, later, earlier) in
        let same : get_or l i 0 ≡ get_or l j 0 = ap (λ (k : ℕ). get_or l k 0) e in
        absurd (omega arith)

module _ {s : List ℕ} {sys : System} {made defined outs : ℕ} {gates names : List ℕ} (stored : Stored s sys made defined outs gates names) where
  -- The definitions

  definitions_long : length (definitions sys) ≡ defined
  definitions_long = definitions_size sys ∙ sym stored.defined_said

  name_defined : (i : ℕ) → i < defined → Memᴰ (place_in names i) (definitions sys)
  name_defined i low = Memᴰ.cast (definition_stored stored i low) (entry_member 0 (definitions sys) i (omega (arith, definitions_long)))

  -- where a definition stands in the array
  record NameAt (d : ℕ) : Type 0 where
    at : ℕ
    low : at < defined
    here : place_in names at ≡ d
    listed : get_or (definitions sys) at 0 ≡ d

  name_at : {d : ℕ} → Memᴰ d (definitions sys) → NameAt d
  name_at m =
      let p = member_place 0 m in
      let low : p.at < defined = omega (arith, p.inside, definitions_long) in
      record { at = p.at; low = low; here = definition_stored stored p.at low ∙ p.entry; listed = p.entry }

  among_none : {w : List ℕ} → ((d : ℕ) → Memᴰ d (definitions sys) → word_at s d ≡ w → ⊥) → Among s names defined w → ⊥
  among_none none a = none (place_in names a.index) (name_defined a.index a.low) a.same

  none_among : {w : List ℕ} → (Among s names defined w → ⊥) → (d : ℕ) → Memᴰ d (definitions sys) → word_at s d ≡ w → ⊥
  none_among none d m same =
      let n = name_at m in
      none (record { index = n.at; low = n.low; same = ap (word_at s) n.here ∙ same })

  -- Defined again

  again_stands : {p d : ℕ} → Memᴰ p (definitions sys) → Memᴰ d (definitions sys) → d < p → word_at s d ≡ word_at s p →
      OneBelow defined (AgainAt s names) p
  again_stands {p} {d} mp md less same =
      let here = name_at mp in
      let other = name_at md in
      let before : other.at < here.at =
      rising_order stored.rising other.at here.at (omega (arith, other.low, definitions_long))
      (omega (arith, here.low, definitions_long)) (omega (arith, other.listed, here.listed, less)) in
      record {
        index = here.at;
        low = here.low;
        holds =
            record {
              here = sym here.here;
              before = record { index = other.at; low = before; same = ap (word_at s) other.here ∙ same };
            };
      }

  again_misnamed : {p : ℕ} → OneBelow defined (AgainAt s names) p → Misnamed s sys p
  again_misnamed {p} h =
      let i = h.index in
      let k = h.holds.before.index in
      let before : k < i = h.holds.before.low in
      let low : k < defined = omega (arith, h.low, before) in
      let less : get_or (definitions sys) k 0 < get_or (definitions sys) i 0 =
      rising_at stored.rising k i before (omega (arith, h.low, definitions_long)) in
      Misnamed.again (place_in names k) (Memᴰ.cast h.holds.here (name_defined i h.low)) (name_defined k low)
      (omega (arith, less, definition_stored stored k low, definition_stored stored i h.low, h.holds.here))
      h.holds.before.same

  -- Used in an expression

  abbrev pub threes : List Three
  threes = all_threes 0 sys.equations

  pub threes_long : length threes ≡ made
  threes_long = all_threes_size 0 sys.equations ∙ sym stored.made_said

  threes_stored : take (3 * made) gates ≡ flat threes
  threes_stored = stored.gates_stored ∙ sym (flat_all 0 sys.equations)

  pub three_stored : (j : ℕ) → j < made → three_in gates j ≡ get_or threes j no_three
  three_stored = three_at gates made threes threes_stored threes_long

  operand_stands : {p : ℕ} → Memᴰ p (flat_map used_by sys.equations) → (Among s names defined (word_at s p) → ⊥) →
      OneBelow made (UndefinedInGate s names defined gates) p
  operand_stands {p} m none =
      let inside : p < length s = stored.within p (Memᴰ.append_left sys.outputs m) in
      let low : p < most_text = omega (arith, stored.short) in
      let held = all_used_held low 0 sys.equations m in
      let place = member_place no_three held.member in
      let j-low : place.at < made = omega (arith, place.inside, threes_long) in
      let gate : three_in gates place.at ≡ held.gate = three_stored place.at j-low ∙ place.entry in
      let undefined : (operand : ℕ) → p ≡ operand → UndefinedOperand s names defined operand p =
      λ operand e. record { name = low; undefined = record { here = e; nowhere = none } } in
      record {
        index = place.at;
        low = j-low;
        holds =
            ⊎_elim (λ (e : p ≡ held.gate.left). inl (undefined _ (e ∙ sym (ap (λ (t : Three). t.left) gate))))
            (λ (e : p ≡ held.gate.right). inr (undefined _ (e ∙ sym (ap (λ (t : Three). t.right) gate)))) held.operand;
      }

  -- the j-th gate of the array is one of the system's
  pub gate_held : {p : ℕ} (j : ℕ) → j < made → (p ≡ (three_in gates j).left) ⊎ (p ≡ (three_in gates j).right) → HeldIn p threes
  gate_held j low operand =
      record {
        gate = three_in gates j;
        member = Memᴰ.cast (three_stored j low) (entry_member no_three threes j (omega (arith, threes_long)));
        operand = operand;
      }

  undefined_misnamed : {p : ℕ} → Memᴰ p (uses sys) → (Among s names defined (word_at s p) → ⊥) → Misnamed s sys p
  undefined_misnamed m none = Misnamed.undefined m (none_among none)

  operand_misnamed : {p : ℕ} → OneBelow made (UndefinedInGate s names defined gates) p → Misnamed s sys p
  operand_misnamed {p} h = ⊎_elim (λ l. by_operand _ (λ e. inl e) l) (λ r. by_operand _ (λ e. inr e) r) h.holds
    where
      by_operand : (operand : ℕ) → (p ≡ operand → (p ≡ (three_in gates h.index).left) ⊎ (p ≡ (three_in gates h.index).right)) →
          UndefinedOperand s names defined operand p → Misnamed s sys p
      by_operand operand side u =
          let held = gate_held h.index h.low (side u.undefined.here) in
          undefined_misnamed (Memᴰ.append_left sys.outputs (all_held_used u.name 0 sys.equations held)) u.undefined.nowhere

  -- Used behind `out`

  output_stands : {p : ℕ} → Memᴰ p sys.outputs → (Among s names defined (word_at s p) → ⊥) → OneBelow outs (UndefinedOutput s names defined) p
  output_stands m none =
      let place = member_place 0 m in
      let low : place.at < outs = omega (arith, place.inside, stored.outs_said) in
      record {
        index = place.at;
        low = low;
        holds = record { here = sym (output_stored stored place.at low ∙ place.entry); nowhere = none };
      }

  output_misnamed : {p : ℕ} → OneBelow outs (UndefinedOutput s names defined) p → Misnamed s sys p
  output_misnamed h =
      let member = entry_member 0 sys.outputs h.index (omega (arith, h.low, stored.outs_said)) in
      undefined_misnamed
      (Memᴰ.append_right (flat_map used_by sys.equations) (Memᴰ.cast (h.holds.here ∙ output_stored stored h.index h.low) member))
      h.holds.nowhere

  -- All of them

  abbrev wrong_use : ℕ → Type 0
  wrong_use p = OneBelow made (UndefinedInGate s names defined gates) p ⊎ OneBelow outs (UndefinedOutput s names defined) p

  misnamed_stands : (p : ℕ) → Misnamed s sys p → OneBelow defined (AgainAt s names) p ⊎ wrong_use p
  misnamed_stands p (Misnamed.undefined m none) =
      inr
      (⊎_elim (λ (l : Memᴰ p (flat_map used_by sys.equations)). inl (operand_stands l (among_none none)))
      (λ (r : Memᴰ p sys.outputs). inr (output_stands r (among_none none)))
      (Memᴰ.append_cases (flat_map used_by sys.equations) m))
  misnamed_stands p (Misnamed.again d mp md less same) = inl (again_stands mp md less same)

  stands_misnamed : (p : ℕ) → OneBelow defined (AgainAt s names) p ⊎ wrong_use p → Misnamed s sys p
  stands_misnamed p = ⊎_elim again_misnamed (⊎_elim operand_misnamed output_misnamed)

  -- so the least of the three answers is the least misnamed place
  pub least_named : {again operand output : Option ℕ} → LeastOf (OneBelow defined (AgainAt s names)) again →
      LeastOf (OneBelow made (UndefinedInGate s names defined gates)) operand → LeastOf (OneBelow outs (UndefinedOutput s names defined)) output →
      Named s sys (earlier_of again (earlier_of operand output))
  least_named a b c = named_of_least (least_same stands_misnamed misnamed_stands (least_of_two a (least_of_two b c)))
