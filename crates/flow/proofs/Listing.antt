-- Reading paths off the links: the i-th number that passes a test, and a path written node by node.
use Prim.Native.Nat.{ℕ, zero, suc, ◌+◌, ◌*◌, ◌-◌, ◌≤◌, ◌<◌}
use native.Mathlib.Nat.{not-suc-le-zero}
use native.Mathlib.Numerals.{add-one}
use native.Mathlib.Decide.{ℕ_discrete}
use native.Mathlib.Omega.{arith}
use mathlib.Core.Path.{◌≡◌, refl, sym, ap, ◌∙◌}
use mathlib.Core.Bool.{Bool, true, false, cond}
use mathlib.Core.Logic.{◌⊎◌}
use mathlib.Core.List.{List, [], ◌∷◌, ◌++◌, map, append_assoc, append-nil}
use lib.ListN.{length, get_or, set, length-append, length-map, get_or-append, get_or-eq_default}
use lib.Seq.{sets, length-sets, get_or-append_seam}
use lib.Dec.{eqb}
use Rattle.theory.specs.paper.Net.{Net}
use Rattle.storage.specs.declared.Node.{Node}
use Rattle.storage.specs.Entries.{at, Beyond}
use Rattle.storage.proofs.Stores.{sets_more, stored_beside}
use Rattle.storage.proofs.Clears.{drop_same}
use Rattle.storage.proofs.InColumns.{column_sets}
use Rattle.std.specs.Prelude.{Option, None, Some}
use Rattle.flow.specs.Numbers.{those}
use Rattle.flow.specs.Links.{next_in, prev_in, link_to}
use Rattle.flow.specs.Paths.{onward, follow, starts_in, paths_in, LinksIn}
use Rattle.flow.specs.Reads.{StartRead, Listed, PathRead}
use Rattle.flow.proofs.Sums.{those_yes}

module _ (test : ℕ → Bool) where
  -- one more number: one more that passes, or none
  pub those_count : (v : ℕ) → length (those test (suc v)) ≡ length (those test v) + cond (test v) 1 0
  unfolding those
  those_count v = length-append (those test v) (cond (test v) (v ∷ []) []) ∙ ap (λ (m : ℕ). length (those test v) + m) (last (test v))
    where
      last : (b : Bool) → length (cond b (v ∷ []) []) ≡ cond b 1 0
      last true = refl
      last false = refl

  those_at : (v n : ℕ) → v < n → test v ≡ true → (length (those test v) < length (those test n)) × (get_or (those test n) (length (those test v)) 0 ≡ v)
  unfolding those
  those_at v zero low e = absurd (not-suc-le-zero low)
  those_at v (suc n) low e =
      elim (ℕ_discrete v n) [
        | yes same ↦
            let all : those test (suc n) ≡ those test n ++ (n ∷ []) = those_yes test n (ap test (sym same) ∙ e) in
            let here : length (those test v) ≡ length (those test n) = ap (λ (m : ℕ). length (those test m)) same in (
              omega (arith, ap length all, length-append (those test n) (n ∷ [])),
              ap (λ (l : List ℕ). get_or l (length (those test v)) 0) all ∙ ap (λ (m : ℕ). get_or (those test n ++ (n ∷ [])) m 0) here
                  ∙ get_or-append_seam (those test n) n [] 0 ∙ sym same,
            )
        | no apart ↦
            let h = those_at v n (omega arith) e in (
              omega (arith, h.0, length-append (those test n) (cond (test n) (n ∷ []) [])),
              get_or-append (those test n) (cond (test n) (n ∷ []) []) 0 (length (those test v)) h.0 ∙ h.1,
            )
      ]

-- Reading a path stores into the third column, so that the paths stay as they are.

module _ (nodes : ℕ) (links ids : List ℕ) where
  pub read_keeps_next : next_in nodes (sets links (2 * nodes) ids) ≡ next_in nodes links
  read_keeps_next = column_sets nodes 0 links (2 * nodes) ids (omega arith)

  pub read_keeps_prev : prev_in nodes (sets links (2 * nodes) ids) ≡ prev_in nodes links
  read_keeps_prev = column_sets nodes 1 links (2 * nodes) ids (omega arith)

  pub read_keeps_paths : (inputs : ℕ) → paths_in inputs nodes (sets links (2 * nodes) ids) ≡ paths_in inputs nodes links
  unfolding paths_in
  read_keeps_paths inputs = rw (read_keeps_next, read_keeps_prev)

  pub read_keeps_links : {net : Net} → LinksIn net nodes links → LinksIn net nodes (sets links (2 * nodes) ids)
  read_keeps_links stand = rw (read_keeps_next, read_keeps_prev) stand

  -- and what lies behind the columns is as before
  pub read_keeps_rest : length ids ≤ nodes → Beyond (5 * nodes) links (sets links (2 * nodes) ids)
  read_keeps_rest few =
      record {
        size = length-sets links (2 * nodes) ids;
        beyond = drop_same (5 * nodes) (sets links (2 * nodes) ids) links (length-sets links (2 * nodes) ids)
            (λ v far. stored_beside links (2 * nodes) ids v (◌⊎◌.inr (omega arith)));
      }

-- Starts

test_true : (b : Bool) {m i more : ℕ} → more ≡ m + cond b 1 0 → m ≤ i → i < more → (b ≡ true) × (i ≡ m)
test_true true e low high = (refl, omega arith)
test_true false e low high = absurd (omega arith)

pub one_at_most : (b : Bool) {found : ℕ} → found ≡ cond b 1 0 → found ≤ 1
one_at_most true e = omega arith
one_at_most false e = omega arith

module _ (nodes : ℕ) (links : List ℕ) (v : ℕ) {seen found : ℕ} (count : seen ≡ length (starts_in v nodes links))
    (e : found ≡ cond (eqb (at (prev_in nodes links) v) 1) 1 0) where
  abbrev begins : ℕ → Bool
  begins u = eqb (at (prev_in nodes links) u) 1

  pub start_at : (inputs i : ℕ) (r : Node) → v < inputs → r.id ≡ v → seen ≤ i → i < seen + found → StartRead inputs nodes links i (Some r)
  start_at inputs i r low id passed high =
      let t : (begins v ≡ true) × (i ≡ length (starts_in v nodes links)) =
      test_true (begins v) {m = length (starts_in v nodes links)} {more = seen + found} (omega arith) (omega arith) high in
      let h = those_at begins v inputs low t.0 in
      StartRead.starts r refl (omega (arith, h.0, t.1)) (ap (λ (m : ℕ). get_or (starts_in inputs nodes links) m 0) t.1 ∙ h.1 ∙ sym id)

  pub start_passed : seen + found ≡ length (starts_in (v + 1) nodes links)
  start_passed = omega (arith, those_count begins v, ap (λ (m : ℕ). length (starts_in m nodes links)) (add-one v))

-- Paths

-- a path written so far: what stands in the third column, and what is still to follow
pub record Following (nodes first : ℕ) (links₀ links : List ℕ) (v j : ℕ) : Type 0 where
  pub done : List ℕ
  pub count : j ≡ length done
  pub same : links ≡ sets links₀ (2 * nodes) done
  pub rest : follow (at (next_in nodes links₀)) nodes first ≡ done ++ follow (at (next_in nodes links₀)) (nodes - j) v

module _ {nodes first : ℕ} {links₀ links : List ℕ} {v j : ℕ} (f : Following nodes first links₀ links v j) where
  abbrev next : ℕ → ℕ
  next = at (next_in nodes links₀)

  pub follow_full : j ≡ nodes → Listed (follow (at (next_in nodes links₀)) nodes first) nodes links₀ nodes links
  unfolding follow
  follow_full end =
      let left : nodes - j ≡ 0 = omega arith in
      let all : follow next nodes first ≡ f.done = f.rest ∙ ap (λ (m : ℕ). f.done ++ follow next m v) left ∙ append-nil f.done in
      record { written = f.same ∙ ap (sets links₀ (2 * nodes)) (sym all); count = sym end ∙ f.count ∙ ap length (sym all) }

  module _ (low : j < nodes) where
    abbrev more : List ℕ
    more = f.done ++ (v ∷ [])

    stored : set links (2 * nodes + j) v ≡ sets links₀ (2 * nodes) more
    stored =
        ap (λ (l : List ℕ). set l (2 * nodes + j) v) f.same
        ∙ ap (λ (m : ℕ). set (sets links₀ (2 * nodes) f.done) (2 * nodes + m) v) f.count ∙ sets_more links₀ (2 * nodes) f.done v

    -- the link that is read behind a store is as it was before
    pub next_kept : next_in nodes (set links (2 * nodes + j) v) ≡ next_in nodes links₀
    next_kept = ap (next_in nodes) stored ∙ read_keeps_next nodes links₀ more

    counted : j + 1 ≡ length more
    counted = omega (arith, f.count, length-append f.done (v ∷ []))

    split : follow next nodes first ≡ more ++ onward (next v) (follow next (nodes - (j + 1)))
    unfolding follow
    split =
        let left : nodes - j ≡ suc (nodes - (j + 1)) = omega arith in
        f.rest ∙ ap (λ (m : ℕ). f.done ++ follow next m v) left ∙ sym (append_assoc f.done (v ∷ []) (onward (next v) (follow next (nodes - (j + 1)))))

    onward_none : (c : ℕ) (from : ℕ → List ℕ) → c < 2 → onward c from ≡ []
    onward_none zero from less = refl
    onward_none (suc zero) from less = refl
    onward_none (suc (suc g)) from less = absurd (omega arith)

    module _ {to : ℕ} (e : to ≡ at (next_in nodes (set links (2 * nodes + j) v)) v) where
      link : to ≡ next v
      link = e ∙ ap (λ (l : List ℕ). at l v) next_kept

      pub follow_stops : to < 2 → Listed (follow (at (next_in nodes links₀)) nodes first) nodes links₀ (j + 1) (set links (2 * nodes + j) v)
      follow_stops less =
          let all : follow next nodes first ≡ more =
          split ∙ ap (λ (l : List ℕ). more ++ l) (onward_none (next v) (follow next (nodes - (j + 1))) (omega (arith, link))) ∙ append-nil more in
          record { written = stored ∙ ap (sets links₀ (2 * nodes)) (sym all); count = counted ∙ ap length (sym all) }

      pub follow_turn : {g : ℕ} → to ≡ link_to g → Following nodes first links₀ (set links (2 * nodes + j) v) g (j + 1)
      follow_turn {g} leads =
          record {
            done = more;
            count = counted;
            same = stored;
            rest = split
                ∙ ap (λ (l : List ℕ). more ++ l)
                (ap (λ (c : ℕ). onward c (follow next (nodes - (j + 1)))) (sym link ∙ leads));
          }

-- One of the paths

get_d_map : (f : ℕ → List ℕ) (l : List ℕ) (i : ℕ) → i < length l → get_or (map f l) i [] ≡ f (get_or l i 0)
get_d_map f [] i low = absurd (not-suc-le-zero low)
get_d_map f (x ∷ l) zero low = refl
get_d_map f (x ∷ l) (suc i) low = get_d_map f l i (omega arith)

module _ (inputs nodes : ℕ) (links : List ℕ) (i : ℕ) {r : Option Node} (read : StartRead inputs nodes links i r) where
  pub path_read : {first : Node} {links' : List ℕ} {m : ℕ} → r ≡ Some first →
      Listed (follow (at (next_in nodes links)) nodes first.id) nodes links m links' → PathRead inputs nodes links i m links'
  unfolding paths_in
  path_read {first} {links'} {m} f l = by_start read
    where
      by_start : StartRead inputs nodes links i r → PathRead inputs nodes links i m links'
      by_start (StartRead.starts v e low stood) =
          let same : v ≡ first = cc in
          let here : get_or (starts_in inputs nodes links) i 0 ≡ first.id = stood ∙ ap (λ (u : Node). u.id) same in
          let ids : get_or (paths_in inputs nodes links) i [] ≡ follow (at (next_in nodes links)) nodes first.id =
          get_d_map (follow (at (next_in nodes links)) nodes) (starts_in inputs nodes links) i low ∙ ap (follow (at (next_in nodes links)) nodes) here in
          record { written = l.written ∙ ap (sets links (2 * nodes)) (sym ids); count = l.count ∙ ap length (sym ids) }
      by_start (StartRead.missing e high) = absurd (let z : ◌≡◌ {A = ℕ} 0 1 = cc in omega arith)

  pub no_path_read : r ≡ None → PathRead inputs nodes links i 0 links
  unfolding paths_in
  no_path_read f = by_start read
    where
      by_start : StartRead inputs nodes links i r → PathRead inputs nodes links i 0 links
      by_start (StartRead.starts v e low stood) = absurd (let z : ◌≡◌ {A = ℕ} 0 1 = cc in omega arith)
      by_start (StartRead.missing e high) =
          let ids : get_or (paths_in inputs nodes links) i [] ≡ [] =
          get_or-eq_default (paths_in inputs nodes links) [] {n = i}
          (omega (arith, length-map (starts_in inputs nodes links) (follow (at (next_in nodes links)) nodes))) in
          record { written = ap (sets links (2 * nodes)) (sym ids); count = ap length (sym ids) }
