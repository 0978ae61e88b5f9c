-- Lines numbered from some node on, and what the gates of an expression read: a gate of the same expression with a lower number, or the node of one of
-- its names.
use Prim.Native.Nat.{ℕ, zero, suc, ◌+◌, ◌≤◌, ◌<◌}
use native.Mathlib.Nat.{add-zero}
use native.Mathlib.Omega.{arith}
use mathlib.Core.Path.{◌≡◌, refl, sym, subst, ◌∙◌}
use mathlib.Core.Logic.{◌⊎◌, inl, inr, ⊎_elim}
use mathlib.Core.List.Memᴰ
use mathlib.Core.List.{List, [], ◌∷◌, ◌++◌, Memᴰ}
use lib.ListN.{length, get_or, length-append}
use Rattle.drawing.specs.paper.Table.{GateLine, no_gate}
use Rattle.grammar.specs.paper.Grammar.{Tree}
use Rattle.grammar.specs.paper.Names.{names_in}
use Rattle.grammar.specs.paper.Gates.{size_of, root_of, gate, gates_of, equation_gates, not_table, and_table, or_table}
use Rattle.grammar.proofs.Sizes.{gates_length}

-- among lines numbered from n on, g has the number v
pub data Numbered : (n : ℕ) → List GateLine → (v : ℕ) → GateLine → Type 0 where
  here : {n : ℕ} {g : GateLine} {ls : List GateLine} → Numbered n (g ∷ ls) n g
  there : {n v : ℕ} {g h : GateLine} {ls : List GateLine} → Numbered (suc n) ls v g → Numbered n (h ∷ ls) v g

pub numbered_at : (n : ℕ) (ls : List GateLine) (i : ℕ) → i < length ls → Numbered n ls (n + i) (get_or ls i no_gate)
numbered_at n [] i low = absurd (omega arith)
numbered_at n (g ∷ ls) zero low = subst (λ (v : ℕ). Numbered n (g ∷ ls) v g) (sym (add-zero n)) Numbered.here
numbered_at n (g ∷ ls) (suc i) low =
    let same : suc n + i ≡ n + suc i = omega arith in
    subst (λ (v : ℕ). Numbered n (g ∷ ls) v (get_or ls i no_gate)) same (Numbered.there (numbered_at (suc n) ls i (omega arith)))

numbered_split : {n v : ℕ} {g : GateLine} (l : List GateLine) {m : List GateLine} {a : ℕ} → length l ≡ a → Numbered n (l ++ m) v g →
    Numbered n l v g ⊎ Numbered (n + a) m v g
numbered_split {n} {v} {g} [] {m} {a} size at =
    let same : n ≡ n + a = omega arith in
    inr (subst (λ (x : ℕ). Numbered x m v g) same at)
numbered_split (h ∷ l) size Numbered.here = inl Numbered.here
numbered_split {n} {v} {g} (h ∷ l) {m} {a} size (Numbered.there at) =
    let same : suc n + length l ≡ n + a = omega arith in
    ⊎_elim (λ first. inl (Numbered.there first)) (λ second. inr (subst (λ (x : ℕ). Numbered x m v g) same second)) (numbered_split l refl at)

numbered_one : {n v : ℕ} {g h : GateLine} → Numbered n (h ∷ []) v g → (v ≡ n) × (g ≡ h)
numbered_one Numbered.here = (refl, refl)
numbered_one {n = n} {v = v} {g = g} {h = h} (Numbered.there x) = elim x [ ]

module _ (node : ℕ → ℕ) where
  -- u is a number from n on and below v, or the node of a name
  abbrev pub Read : (n v : ℕ) → List ℕ → ℕ → Type 0
  Read n v names u = ((n ≤ u) × (u < v)) ⊎ ((p : ℕ) × Memᴰ p names × (u ≡ node p))

  root_read : (n : ℕ) (e : Tree) → Read n (n + size_of e) (names_in e) (root_of node n e)
  unfolding root_of size_of names_in
  root_read n (Tree.name p) = inr (p, Memᴰ.head refl, refl)
  root_read n (Tree.not e) = inl (omega arith, omega arith)
  root_read n (Tree.and e f) = inl (omega arith, omega arith)
  root_read n (Tree.or e f) = inl (omega arith, omega arith)

  read_as : {n n' v v' u : ℕ} {l l' : List ℕ} → n' ≤ n → v ≤ v' → ((p : ℕ) → Memᴰ p l → Memᴰ p l') → Read n v l u → Read n' v' l' u
  read_as low high more (inl (from, to)) = inl (omega arith, omega arith)
  read_as low high more (inr (p, m, same)) = inr (p, more p m, same)

  -- what the gate behind two operands reads
  two_read : {n v u : ℕ} (e f : Tree) (table : ℕ) {g : GateLine} → (v ≡ n + (size_of e + size_of f)) ×
      (g ≡ gate (root_of node n e ∷ root_of node (n + size_of e) f ∷ []) table) → Memᴰ u g.fanins → Read n v (names_in e ++ names_in f) u
  two_read {n} {v} {u} e f table (number, line) m = ⊎_elim
      (λ (same : u ≡ root_of node n e). subst (Read n v (names_in e ++ names_in f)) (sym same)
      (read_as (omega arith) (omega arith) (λ p k. Memᴰ.append_left (names_in f) k) (root_read n e)))
      (λ later. subst (Read n v (names_in e ++ names_in f)) (sym (Memᴰ.eq_of_singleton later))
      (read_as (omega arith) (omega arith) (λ p k. Memᴰ.append_right (names_in e) k) (root_read (n + size_of e) f)))
      (Memᴰ.cases_cons (subst (λ (x : GateLine). Memᴰ u x.fanins) line m))

  one_read : {n v u : ℕ} (e : Tree) (table : ℕ) {g : GateLine} → (v ≡ n + size_of e) × (g ≡ gate (root_of node n e ∷ []) table) →
      Memᴰ u g.fanins → Read n v (names_in e) u
  one_read {n} {v} {u} e table (number, line) m =
      subst (Read n v (names_in e)) (sym (Memᴰ.eq_of_singleton (subst (λ (x : GateLine). Memᴰ u x.fanins) line m)))
      (read_as (omega arith) (omega arith) (λ p k. k) (root_read n e))

  both_length : (n : ℕ) (e f : Tree) → length (gates_of node n e ++ gates_of node (n + size_of e) f) ≡ size_of e + size_of f
  both_length n e f = length-append (gates_of node n e) (gates_of node (n + size_of e) f) ∙ (λ i. gates_length node n e i + gates_length node (n + size_of e) f i)

  -- so do the gates of two operands and the one behind them
  two_gates_read : (n : ℕ) (e f : Tree) (table : ℕ) {v u : ℕ} {g : GateLine} →
      (Numbered n (gates_of node n e) v g → Read n v (names_in e) u) →
      (Numbered (n + size_of e) (gates_of node (n + size_of e) f) v g → Read (n + size_of e) v (names_in f) u) →
      Numbered n (gates_of node n e ++ gates_of node (n + size_of e) f ++ (gate (root_of node n e ∷ root_of node (n + size_of e) f ∷ []) table ∷ [])) v g →
      Memᴰ u g.fanins → Read n v (names_in e ++ names_in f) u
  two_gates_read n e f table left right at m = ⊎_elim
      (λ before. ⊎_elim
      (λ first. read_as (omega arith) (omega arith) (λ p k. Memᴰ.append_left (names_in f) k) (left first))
      (λ second. read_as (omega arith) (omega arith) (λ p k. Memᴰ.append_right (names_in e) k) (right second))
      (numbered_split (gates_of node n e) (gates_length node n e) before))
      (λ last. two_read e f table (numbered_one last) m)
      (numbered_split (gates_of node n e ++ gates_of node (n + size_of e) f) (both_length n e f) at)

  pub gate_reads : (n : ℕ) (e : Tree) {v u : ℕ} {g : GateLine} → Numbered n (gates_of node n e) v g → Memᴰ u g.fanins → Read n v (names_in e) u
  unfolding gates_of names_in
  gate_reads n (Tree.name p) at m = elim at [ ]
  gate_reads n (Tree.not e) at m = ⊎_elim
      (λ first. gate_reads n e first m)
      (λ last. one_read e not_table (numbered_one last) m)
      (numbered_split (gates_of node n e) (gates_length node n e) at)
  gate_reads n (Tree.and e f) at m =
      two_gates_read n e f and_table (λ first. gate_reads n e first m) (λ second. gate_reads (n + size_of e) f second m) at m
  gate_reads n (Tree.or e f) at m =
      two_gates_read n e f or_table (λ first. gate_reads n e first m) (λ second. gate_reads (n + size_of e) f second m) at m

  -- and those of an equation
  pub equation_gate_reads : (n : ℕ) (e : Tree) {v u : ℕ} {g : GateLine} → Numbered n (equation_gates node n e) v g → Memᴰ u g.fanins →
      Read n v (names_in e) u
  unfolding equation_gates names_in
  equation_gate_reads n (Tree.name p) {v} {u} at m =
      let (number, line) = numbered_one at in
      inr (p, Memᴰ.head refl, Memᴰ.eq_of_singleton (subst (λ (x : GateLine). Memᴰ u x.fanins) line m))
  equation_gate_reads n (Tree.not e) at m = gate_reads n (Tree.not e) at m
  equation_gate_reads n (Tree.and e f) at m = gate_reads n (Tree.and e f) at m
  equation_gate_reads n (Tree.or e f) at m = gate_reads n (Tree.or e f) at m
