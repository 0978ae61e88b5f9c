-- The names in a system's expressions are the operands of its gates that are places: an expression's name is its own operand or stands in its gates,
-- and what stands there is a name or a gate's number.
use Prim.Native.Nat.{ℕ, ◌+◌, ◌<◌}
use native.Mathlib.Omega.{arith}
use mathlib.Core.Path.{◌≡◌, refl, subst}
use mathlib.Core.Logic.{◌⊎◌, inl, inr, ⊎_elim}
use mathlib.Core.List.Memᴰ
use mathlib.Core.List.{List, [], ◌∷◌, ◌++◌, flat_map, Memᴰ}
use Rattle.grammar.specs.paper.Text.{most_text}
use Rattle.grammar.specs.paper.Grammar.{Tree, Equation}
use Rattle.grammar.specs.paper.Names.{names_in, used_by}
use Rattle.grammar.specs.paper.Gates.{size_of, equation_size, all_size, not_table, and_table, or_table}
use Rattle.grammar.specs.Stored.{operand_of}
use Rattle.naming.specs.Lines.{Three, three}
use Rattle.naming.proofs.Threes.{threes_of, equation_threes, all_threes}

-- an operand of one of the gates
pub record HeldIn (p : ℕ) (ts : List Three) : Type 0 where
  pub gate : Three
  pub member : Memᴰ gate ts
  pub operand : (p ≡ gate.left) ⊎ (p ≡ gate.right)

-- p is the operand that an expression is, or stands in its gates
abbrev Stands : (p made : ℕ) (e : Tree) → Type 0
Stands p made e = (p ≡ operand_of made e) ⊎ HeldIn p (threes_of made e)

module _ {p : ℕ} where
  held_left : {a : List Three} (b : List Three) → HeldIn p a → HeldIn p (a ++ b)
  held_left b h = record { gate = h.gate; member = Memᴰ.append_left b h.member; operand = h.operand }

  held_right : (a : List Three) {b : List Three} → HeldIn p b → HeldIn p (a ++ b)
  held_right a h = record { gate = h.gate; member = Memᴰ.append_right a h.member; operand = h.operand }

  held_cases : (a : List Three) {b : List Three} → HeldIn p (a ++ b) → HeldIn p a ⊎ HeldIn p b
  held_cases a {b} h =
      ⊎_elim (λ (m : Memᴰ h.gate a). inl (record { gate = h.gate; member = m; operand = h.operand }))
      (λ (m : Memᴰ h.gate b). inr (record { gate = h.gate; member = m; operand = h.operand }))
      (Memᴰ.append_cases a h.member)

  held_none : HeldIn p [] → ⊥
  held_none h = Memᴰ.not-nil h.member

  held_last : (t : Three) → (p ≡ t.left) ⊎ (p ≡ t.right) → HeldIn p (t ∷ [])
  held_last t operand = record { gate = t; member = Memᴰ.head refl; operand = operand }

  held_one : {t : Three} → HeldIn p (t ∷ []) → (p ≡ t.left) ⊎ (p ≡ t.right)
  held_one h = subst (λ (t : Three). (p ≡ t.left) ⊎ (p ≡ t.right)) (Memᴰ.eq_of_singleton h.member) h.operand

  -- an operand of the gate on top is one of that gate, or stands below
  module _ (a : List Three) (t : Three) where
    on_top : (p ≡ t.left) ⊎ (p ≡ t.right) → HeldIn p (a ++ (t ∷ []))
    on_top operand = held_right a (held_last t operand)

    below_or_top : HeldIn p (a ++ (t ∷ [])) → HeldIn p a ⊎ ((p ≡ t.left) ⊎ (p ≡ t.right))
    below_or_top h = ⊎_elim (λ (below : HeldIn p a). inl below) (λ (top : HeldIn p (t ∷ [])). inr (held_one top)) (held_cases a h)

  -- so with two operands
  module _ (a b : List Three) (t : Three) where
    in_first : (p ≡ t.left) ⊎ HeldIn p a → HeldIn p (a ++ b ++ (t ∷ []))
    in_first = ⊎_elim (λ e. on_top (a ++ b) t (inl e)) (λ h. held_left (t ∷ []) (held_left b h))

    in_second : (p ≡ t.right) ⊎ HeldIn p b → HeldIn p (a ++ b ++ (t ∷ []))
    in_second = ⊎_elim (λ e. on_top (a ++ b) t (inr e)) (λ h. held_left (t ∷ []) (held_right a h))

    in_either : HeldIn p (a ++ b ++ (t ∷ [])) → ((p ≡ t.left) ⊎ HeldIn p a) ⊎ ((p ≡ t.right) ⊎ HeldIn p b)
    in_either h =
        ⊎_elim
        (λ (below : HeldIn p (a ++ b)). ⊎_elim (λ (x : HeldIn p a). inl (inr x)) (λ (y : HeldIn p b). inr (inr y)) (held_cases a below))
        (λ (top : (p ≡ t.left) ⊎ (p ≡ t.right)).
        ⊎_elim (λ (e : p ≡ t.left). inl (inl e)) (λ (e : p ≡ t.right). inr (inl e)) top)
        (below_or_top (a ++ b) t h)

  -- and with one
  module _ (a : List Three) (table o : ℕ) where
    in_only : (p ≡ o) ⊎ HeldIn p a → HeldIn p (a ++ (three table o o ∷ []))
    in_only = ⊎_elim (λ e. on_top a (three table o o) (inl e)) (held_left (three table o o ∷ []))

    only_in : HeldIn p (a ++ (three table o o ∷ [])) → (p ≡ o) ⊎ HeldIn p a
    only_in h =
        ⊎_elim (λ (below : HeldIn p a). inr below)
        (λ (top : (p ≡ o) ⊎ (p ≡ o)). ⊎_elim (λ (e : p ≡ o). inl e) (λ (e : p ≡ o). inl e) top) (below_or_top a (three table o o) h)

  -- A name is held

  used_stands : (made : ℕ) (e : Tree) → Memᴰ p (names_in e) → Stands p made e
  unfolding names_in operand_of threes_of
  used_stands made (Tree.name q) m = inl (Memᴰ.eq_of_singleton m)
  used_stands made (Tree.not e) m = inr (in_only (threes_of made e) not_table (operand_of made e) (used_stands made e m))
  used_stands made (Tree.and e f) m =
      inr
      (⊎_elim (λ (l : Memᴰ p (names_in e)). in_first (threes_of made e) (threes_of (made + size_of e) f) _ (used_stands made e l))
      (λ (r : Memᴰ p (names_in f)). in_second (threes_of made e) (threes_of (made + size_of e) f) _ (used_stands (made + size_of e) f r))
      (Memᴰ.append_cases (names_in e) m))
  used_stands made (Tree.or e f) m =
      inr
      (⊎_elim (λ (l : Memᴰ p (names_in e)). in_first (threes_of made e) (threes_of (made + size_of e) f) _ (used_stands made e l))
      (λ (r : Memᴰ p (names_in f)). in_second (threes_of made e) (threes_of (made + size_of e) f) _ (used_stands (made + size_of e) f r))
      (Memᴰ.append_cases (names_in e) m))

  -- What is held is a name

  module _ (low : p < most_text) where
    stands_used : (made : ℕ) (e : Tree) → Stands p made e → Memᴰ p (names_in e)
    unfolding names_in operand_of threes_of
    stands_used made (Tree.name q) (inl same) = Memᴰ.head same
    stands_used made (Tree.name q) (inr h) = absurd (held_none h)
    stands_used made (Tree.not e) (inl same) = absurd (omega arith)
    stands_used made (Tree.not e) (inr h) = stands_used made e (only_in (threes_of made e) not_table (operand_of made e) h)
    stands_used made (Tree.and e f) (inl same) = absurd (omega arith)
    stands_used made (Tree.and e f) (inr h) =
        ⊎_elim (λ l. Memᴰ.append_left (names_in f) (stands_used made e l))
        (λ r. Memᴰ.append_right (names_in e) (stands_used (made + size_of e) f r))
        (in_either (threes_of made e) (threes_of (made + size_of e) f) (three and_table (operand_of made e) (operand_of (made + size_of e) f)) h)
    stands_used made (Tree.or e f) (inl same) = absurd (omega arith)
    stands_used made (Tree.or e f) (inr h) =
        ⊎_elim (λ l. Memᴰ.append_left (names_in f) (stands_used made e l))
        (λ r. Memᴰ.append_right (names_in e) (stands_used (made + size_of e) f r))
        (in_either (threes_of made e) (threes_of (made + size_of e) f) (three or_table (operand_of made e) (operand_of (made + size_of e) f)) h)

    -- Of an equation, and of all

    -- an operator's own operand is no name
    held_only : (made : ℕ) (e : Tree) → (p ≡ operand_of made e → ⊥) → Memᴰ p (names_in e) → HeldIn p (threes_of made e)
    held_only made e above m = ⊎_elim (λ same. absurd (above same)) (λ held. held) (used_stands made e m)

    equation_used_held : (made : ℕ) (e : Tree) → Memᴰ p (names_in e) → HeldIn p (equation_threes made e)
    unfolding names_in operand_of equation_threes
    equation_used_held made (Tree.name q) m = held_last _ (inl (Memᴰ.eq_of_singleton m))
    equation_used_held made (Tree.not e) m = held_only made (Tree.not e) (λ same. omega arith) m
    equation_used_held made (Tree.and e f) m = held_only made (Tree.and e f) (λ same. omega arith) m
    equation_used_held made (Tree.or e f) m = held_only made (Tree.or e f) (λ same. omega arith) m

    equation_held_used : (made : ℕ) (e : Tree) → HeldIn p (equation_threes made e) → Memᴰ p (names_in e)
    unfolding names_in equation_threes
    equation_held_used made (Tree.name q) h = ⊎_elim Memᴰ.head Memᴰ.head (held_one h)
    equation_held_used made (Tree.not e) h = stands_used made (Tree.not e) (inr h)
    equation_held_used made (Tree.and e f) h = stands_used made (Tree.and e f) (inr h)
    equation_held_used made (Tree.or e f) h = stands_used made (Tree.or e f) (inr h)

    pub all_used_held : (made : ℕ) (qs : List Equation) → Memᴰ p (flat_map used_by qs) → HeldIn p (all_threes made qs)
    unfolding flat_map all_threes
    all_used_held made [] m = absurd (Memᴰ.not-nil m)
    all_used_held made (q ∷ qs) m =
        let next = made + equation_size q.tree in
        ⊎_elim (λ (l : Memᴰ p (names_in q.tree)). held_left (all_threes next qs) (equation_used_held made q.tree l))
        (λ (r : Memᴰ p (flat_map used_by qs)). held_right (equation_threes made q.tree) (all_used_held next qs r))
        (Memᴰ.append_cases (names_in q.tree) m)

    pub all_held_used : (made : ℕ) (qs : List Equation) → HeldIn p (all_threes made qs) → Memᴰ p (flat_map used_by qs)
    unfolding flat_map all_threes
    all_held_used made [] h = absurd (held_none h)
    all_held_used made (q ∷ qs) h =
        let next = made + equation_size q.tree in
        ⊎_elim (λ (l : HeldIn p (equation_threes made q.tree)). Memᴰ.append_left (flat_map used_by qs) (equation_held_used made q.tree l))
        (λ (r : HeldIn p (all_threes next qs)). Memᴰ.append_right (names_in q.tree) (all_held_used next qs r))
        (held_cases (equation_threes made q.tree) h)

-- An operand is a name, or the number of a gate made so far

abbrev pub NamesLow : List ℕ → Type 0
NamesLow names = (p : ℕ) → Memᴰ p names → p < most_text

pub low_first : {a : List ℕ} (b : List ℕ) → NamesLow (a ++ b) → NamesLow a
low_first b low p m = low p (Memᴰ.append_left b m)

pub low_second : (a : List ℕ) {b : List ℕ} → NamesLow (a ++ b) → NamesLow b
low_second a low p m = low p (Memᴰ.append_right a m)

module _ {p : ℕ} where
  stands_low : (made : ℕ) (e : Tree) → NamesLow (names_in e) → Stands p made e → p < most_text + (made + size_of e)
  unfolding names_in operand_of size_of threes_of
  stands_low made (Tree.name q) low (inl same) = omega (arith, low q (Memᴰ.head refl))
  stands_low made (Tree.name q) low (inr h) = absurd (held_none h)
  stands_low made (Tree.not e) low (inl same) = omega arith
  stands_low made (Tree.not e) low (inr h) = omega (arith, stands_low made e low (only_in (threes_of made e) not_table (operand_of made e) h))
  stands_low made (Tree.and e f) low (inl same) = omega arith
  stands_low made (Tree.and e f) low (inr h) =
      ⊎_elim (λ (l : Stands p made e). omega (arith, stands_low made e (low_first (names_in f) low) l))
      (λ (r : Stands p (made + size_of e) f). omega (arith, stands_low (made + size_of e) f (low_second (names_in e) low) r))
      (in_either (threes_of made e) (threes_of (made + size_of e) f) (three and_table (operand_of made e) (operand_of (made + size_of e) f)) h)
  stands_low made (Tree.or e f) low (inl same) = omega arith
  stands_low made (Tree.or e f) low (inr h) =
      ⊎_elim (λ (l : Stands p made e). omega (arith, stands_low made e (low_first (names_in f) low) l))
      (λ (r : Stands p (made + size_of e) f). omega (arith, stands_low (made + size_of e) f (low_second (names_in e) low) r))
      (in_either (threes_of made e) (threes_of (made + size_of e) f) (three or_table (operand_of made e) (operand_of (made + size_of e) f)) h)

  equation_low : (made : ℕ) (e : Tree) → NamesLow (names_in e) → HeldIn p (equation_threes made e) → p < most_text + (made + equation_size e)
  unfolding names_in equation_threes equation_size
  equation_low made (Tree.name q) low h =
      let here = low q (Memᴰ.head refl) in
      ⊎_elim (λ (same : p ≡ q). omega arith) (λ (same : p ≡ q). omega arith) (held_one h)
  equation_low made (Tree.not e) low h = stands_low made (Tree.not e) low (inr h)
  equation_low made (Tree.and e f) low h = stands_low made (Tree.and e f) low (inr h)
  equation_low made (Tree.or e f) low h = stands_low made (Tree.or e f) low (inr h)

  pub all_low : (made : ℕ) (qs : List Equation) → NamesLow (flat_map used_by qs) → HeldIn p (all_threes made qs) → p < most_text + (made + all_size qs)
  unfolding flat_map all_threes all_size
  all_low made [] low h = absurd (held_none h)
  all_low made (q ∷ qs) low h =
      let next = made + equation_size q.tree in
      ⊎_elim
      (λ (l : HeldIn p (equation_threes made q.tree)). omega (arith, equation_low made q.tree (low_first (flat_map used_by qs) low) l))
      (λ (r : HeldIn p (all_threes next qs)). omega (arith, all_low next qs (low_second (names_in q.tree) low) r))
      (held_cases (equation_threes made q.tree) h)
