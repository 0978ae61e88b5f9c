-- What is read where a name is due is one answer: `spelled_one`. Two words from one place that go on no further end at one place.
use Prim.Native.Nat.{ℕ, ◌+◌, ◌≤◌, ◌<◌}
use native.Mathlib.Decide.{dec_lt}
use native.Mathlib.Omega.{arith}
use mathlib.Core.Path.{◌≡◌, sym, ap, ◌∙◌}
use mathlib.Core.Logic.{inl, inr}
use mathlib.Core.Bool.{true, true≢false}
use mathlib.Core.List.{List}
use Rattle.grammar.specs.paper.Text.{byte_at, is_word_byte, most_letters}
use Rattle.grammar.specs.paper.Grammar.{between}
use Rattle.grammar.specs.Machine.{is_keyword}
use Rattle.std.specs.Prelude.{Result, Ok, Err}
use Rattle.spelling.specs.declared.Stopped.{Stopped}
use Rattle.spelling.specs.Spelling.{Ends, Named, Unnamed, Spelled}

module _ (s : List ℕ) {i : ℕ} where
  -- a word that goes on no further is as long as any other there
  longest : {j k : ℕ} → i < j → k ≤ i + most_letters → ((m : ℕ) → i ≤ m → m < k → is_word_byte (byte_at s m) ≡ true) → Ends s i j → j < k → ⊥
  longest {j} some few each (inl no_word) more = true≢false (sym (each j (omega arith) more) ∙ no_word)
  longest some few each (inr full) more = omega arith

  ends_one : {j k : ℕ} → i < j → i < k → j ≤ i + most_letters → k ≤ i + most_letters → ((m : ℕ) → i ≤ m → m < j → is_word_byte (byte_at s m) ≡ true) →
      ((m : ℕ) → i ≤ m → m < k → is_word_byte (byte_at s m) ≡ true) → Ends s i j → Ends s i k → j ≡ k
  ends_one {j} {k} j-some k-some j-few k_few j-each k-each j-ends k-ends = same (dec_lt j k) (dec_lt k j)
    where
      same : Dec (j < k) → Dec (k < j) → j ≡ k
      same (yes low) other = absurd (longest j-some k_few k-each j-ends low)
      same (no high) (yes low) = absurd (longest k-some j-few j-each k-ends low)
      same (no high) (no low) = omega arith

  no_name_there : {j p : ℕ} {A : Type 0} → Named s i j → Unnamed s i p → A
  no_name_there named (Unnamed.no_letter is no_letter) = absurd (true≢false (sym named.name.letter ∙ no_letter))
  no_name_there {j} {p} named (Unnamed.keyword k) =
      let same = ends_one named.name.some k.some named.name.few k.few named.name.each k.each named.ends (inl k.ends) in
      absurd (true≢false (sym (ap (λ (n : ℕ). is_keyword (between s i n)) same ∙ k.keyword) ∙ named.plain))

  unnamed_one : {p q : ℕ} → Unnamed s i p → Unnamed s i q → p ≡ q
  unnamed_one (Unnamed.no_letter is no_letter) (Unnamed.no_letter also again) = is ∙ sym also
  unnamed_one (Unnamed.no_letter is no_letter) (Unnamed.keyword k) = absurd (true≢false (sym k.letter ∙ no_letter))
  unnamed_one (Unnamed.keyword k) (Unnamed.no_letter is no_letter) = absurd (true≢false (sym k.letter ∙ no_letter))
  unnamed_one (Unnamed.keyword k) (Unnamed.keyword l) =
      ends_one k.some l.some k.few l.few k.each l.each (inl k.ends) (inl l.ends)

pub spelled_one : (s : List ℕ) (i : ℕ) (r q : Result ℕ Stopped) → Spelled s i r → Spelled s i q → r ≡ q
spelled_one s i (Ok j) (Ok k) a b = ap Ok (ends_one s a.name.some b.name.some a.name.few b.name.few a.name.each b.name.each a.ends b.ends)
spelled_one s i (Ok j) (Err q) a b = no_name_there s a b
spelled_one s i (Err p) (Ok k) a b = no_name_there s b a
spelled_one s i (Err p) (Err q) a b = ap (λ (n : ℕ). Err (record { place = n })) (unnamed_one s a b)
