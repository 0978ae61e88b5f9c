-- The walk back along the order: what is marked is walked or met; where a gate had its turn, its fanins are marked; and at the end that is all.
use Prim.Native.Nat.{ℕ, suc, ◌+◌, ◌≤◌, ◌<◌}
use native.Mathlib.Decide.{ℕ_discrete}
use native.Mathlib.Omega.{arith}
use mathlib.Core.Path.{◌≡◌, refl, ap, sym, subst, ◌∙◌}
use mathlib.Core.Logic.{◌⊎◌, inl, inr, ⊎_elim}
use mathlib.Core.List.Memᴰ
use mathlib.Core.List.{List, [], ◌∷◌, Memᴰ}
use lib.ListN.{length, get_or, set, drop, length-set}
use lib.Seq.{drop-cons, drop-length, get_or-set_same, get_or-set_other}
use native.Mathlib.Numerals.{add-one}
use Rattle.storage.specs.Drawings.{Ordered}
use Rattle.storage.specs.Entries.{Beyond}
use Rattle.storage.specs.Marks.{Marks}
use Rattle.storage.specs.Roles.{walked_bit, met_bit, walked_in, met_in}
use Rattle.storage.proofs.Clears.{beyond_then}
use Rattle.storage.proofs.Views.{view_size}
use Rattle.storage.proofs.Entries.{place_of, member_at, one_place, is_member_lem, no_member}
use Rattle.storage.proofs.InRoles.{walked_bit_lem, met_bit_lem}
use Rattle.theory.specs.paper.Net.{Net, Gate}
use Rattle.theory.specs.paper.Sound.{Bounded}
use Rattle.theory.specs.paper.Walk.{Walked, Met}
use Rattle.theory.proofs.Walks.{reader_is_gate, walked_node}
use Rattle.theory.proofs.Decisions.{decide_member}
use Rattle.walking.specs.Walking.{meet_one, meet_all, mark_one, mark_open, Turned}
use Rattle.walking.proofs.WalkRoles.{walked_meets, met_meets, meets_most, meets_rest}

-- Marks at the nodes of a list that are no leaves

-- entry v is as before, or a new mark at one of the nodes that is no leaf
abbrev Only : (leaves us marks marks' : List ℕ) (v : ℕ) → Type 0
Only leaves us marks marks' v = (get_or marks' v 0 ≡ get_or marks v 0) ⊎ ((get_or marks' v 0 ≡ 1) × (Memᴰ v us) × (Memᴰ v leaves → ⊥))

pub record Opened (leaves us marks marks' : List ℕ) : Type 0 where
  pub size : length marks' ≡ length marks
  pub stays : (v : ℕ) → get_or marks v 0 ≡ 1 → get_or marks' v 0 ≡ 1
  pub opens : (u : ℕ) → Memᴰ u us → (Memᴰ u leaves → ⊥) → get_or marks' u 0 ≡ 1
  pub only : (v : ℕ) → Only leaves us marks marks' v

module _ (leaves : List ℕ) where
  none_opened : (marks : List ℕ) → Opened leaves [] marks marks
  none_opened marks = record { size = refl; stays = λ v one. one; opens = λ u m out. absurd (Memᴰ.not-nil m); only = λ v. inl refl }

  one_opened : (marks : List ℕ) (u : ℕ) → u < length marks → Opened leaves (u ∷ []) marks (mark_one leaves marks u)
  one_opened marks u room = either (decide_member u leaves)
    where
      single : {v : ℕ} → Memᴰ v (u ∷ []) → v ≡ u
      single m = Memᴰ.eq_of_singleton m

      same : {v : ℕ} → v ≡ u → get_or (set marks u 1) v 0 ≡ 1
      same {v} e = rw e (get_or-set_same marks u 1 0 room)

      stays : (v : ℕ) → Dec (v ≡ u) → get_or marks v 0 ≡ 1 → get_or (set marks u 1) v 0 ≡ 1
      stays v (yes e) one = same e
      stays v (no apart) one = get_or-set_other marks u v 1 0 apart ∙ one

      only : (Memᴰ u leaves → ⊥) → (v : ℕ) → Dec (v ≡ u) → Only leaves (u ∷ []) marks (set marks u 1) v
      only out v (yes e) = inr (same e, Memᴰ.head e, λ m. out (Memᴰ.cast (sym e) m))
      only out v (no apart) = inl (get_or-set_other marks u v 1 0 apart)

      opened : (Memᴰ u leaves → ⊥) → Opened leaves (u ∷ []) marks (set marks u 1)
      opened out =
          record {
            size = length-set marks u 1;
            stays = λ v. stays v (ℕ_discrete v u);
            opens = λ v m _. same (single m);
            only = λ v. only out v (ℕ_discrete v u);
          }

      leaf : Memᴰ u leaves → Opened leaves (u ∷ []) marks marks
      leaf here =
          record {
            size = refl;
            stays = λ v one. one;
            opens = λ v m out. absurd (out (Memᴰ.cast (single m) here));
            only = λ v. inl refl;
          }

      either : Dec (Memᴰ u leaves) → Opened leaves (u ∷ []) marks (mark_one leaves marks u)
      either (yes here) = rw (is_member_lem here) (leaf here)
      either (no out) = rw (no_member out) (opened out)

  opened_on : {u : ℕ} {us marks marks' marks'' : List ℕ} → Opened leaves (u ∷ []) marks marks' → Opened leaves us marks' marks'' → Opened leaves (u ∷ us) marks marks''
  opened_on {u} {us} {marks} {marks'} {marks''} a b =
      record {
        size = b.size ∙ a.size;
        stays = λ v one. b.stays v (a.stays v one);
        opens =
            λ v m out.
            ⊎_elim (λ (e : v ≡ u). b.stays v (a.opens v (Memᴰ.head e) out)) (λ late. b.opens v late out) (Memᴰ.cases_cons m);
        only = λ v. join v (a.only v) (b.only v);
      }
    where
      join : (v : ℕ) → Only leaves (u ∷ []) marks marks' v → Only leaves us marks' marks'' v → Only leaves (u ∷ us) marks marks'' v
      join v (inl p) (inl q) = inl (q ∙ p)
      join v (inr (one, m, out)) (inl q) = inr (q ∙ one, Memᴰ.head (Memᴰ.eq_of_singleton m), out)
      join v p (inr (one, m, out)) = inr (one, Memᴰ.tail m, out)

  pub opened : (us marks : List ℕ) → ((u : ℕ) → Memᴰ u us → u < length marks) → Opened leaves us marks (mark_open leaves marks us)
  unfolding mark_open
  opened [] marks low = none_opened marks
  opened (u ∷ us) marks low =
      let first = one_opened marks u (low u (Memᴰ.head refl)) in
      opened_on first (opened us (mark_one leaves marks u) (λ v m. omega (arith, low v (Memᴰ.tail m), first.size)))

-- The walk

module _ (net : Net) (leaves : List ℕ) (t : ℕ) (order : List ℕ) where
  -- a fanin of a gate that is walked: met, and walked unless it is a leaf
  abbrev Reached : (roles : List ℕ) (u : ℕ) → Type 0
  Reached roles u = (get_or (met_in roles) u 0 ≡ 1) × (Memᴰ u leaves ⊎ (get_or (walked_in roles) u 0 ≡ 1))

  -- gates from place i on had their turn
  pub record WalkLeft (roles₀ : List ℕ) (i : ℕ) (roles : List ℕ) : Type 0 where
    pub walked_true : (v : ℕ) → v < net.nodes → get_or (walked_in roles) v 0 ≡ 1 → Walked net leaves t v
    pub met_true : (v : ℕ) → v < net.nodes → get_or (met_in roles) v 0 ≡ 1 → Met net leaves t v
    pub start : get_or (walked_in roles) t 0 ≡ 1
    pub done : (j : ℕ) → i ≤ j → j < length order → get_or (walked_in roles) (get_or order j 0) 0 ≡ 1 →
        (u : ℕ) → Memᴰ u (net.fanins (get_or order j 0)) → Reached roles u
    pub most : (v : ℕ) → v < net.nodes → get_or roles v 0 ≤ 3
    pub rest : Beyond net.nodes roles₀ roles

  module _ {k : ℕ} (bounded : Bounded net k) (ordered : Ordered net order) {roles₀ : List ℕ}
      (long : net.nodes ≤ length roles₀) where
    module _ {i : ℕ} {roles : List ℕ} (left : WalkLeft roles₀ (suc i) roles) (inside : i < length order) where
      -- the gate rests: it is not walked
      rested : (get_or (walked_in roles) (get_or order i 0) 0 ≡ 1 → ⊥) → WalkLeft roles₀ i roles
      rested out =
          record {
            walked_true = left.walked_true;
            met_true = left.met_true;
            start = left.start;
            done = λ j from low one u m. either j from low one u m (ℕ_discrete j i);
            most = left.most;
            rest = left.rest;
          }
        where
          either : (j : ℕ) → i ≤ j → j < length order → get_or (walked_in roles) (get_or order j 0) 0 ≡ 1 → (u : ℕ) → Memᴰ u (net.fanins (get_or order j 0)) →
              Dec (j ≡ i) → Reached roles u
          either j from low one u m (yes e) = absurd (out (subst (λ (x : ℕ). get_or (walked_in roles) (get_or order x 0) 0 ≡ 1) e one))
          either j from low one u m (no apart) = left.done j (omega arith) low one u m

      module _ {roles' : List ℕ} (one : get_or (walked_in roles) (get_or order i 0) 0 ≡ 1)
          (w : Opened leaves (net.fanins (get_or order i 0)) (walked_in roles) (walked_in roles'))
          (m : Opened [] (net.fanins (get_or order i 0)) (met_in roles) (met_in roles'))
          (most : (v : ℕ) → get_or roles v 0 ≤ 3 → get_or roles' v 0 ≤ 3) (rest : Beyond net.nodes roles roles') where
        gate : Gate net (get_or order i 0)
        gate = ordered.gates (get_or order i 0) (member_at order i inside)

        way : Walked net leaves t (get_or order i 0)
        way = left.walked_true (get_or order i 0) gate.below one

        -- a gate with a later place is not marked now
        earlier : (j : ℕ) → i ≤ j → j < length order → get_or (walked_in roles') (get_or order j 0) 0 ≡ 1 → get_or (walked_in roles) (get_or order j 0) 0 ≡ 1
        earlier j from low marked = either (w.only (get_or order j 0))
          where
            either : Only leaves (net.fanins (get_or order i 0)) (walked_in roles) (walked_in roles') (get_or order j 0) → get_or (walked_in roles) (get_or order j 0) 0 ≡ 1
            either (inl same) = sym same ∙ marked
            either (inr (_, feeds, _)) =
                let (h, less, entry) = ordered.before i (get_or order j 0) inside feeds (ordered.gates (get_or order j 0) (member_at order j low)) in
                absurd (omega (arith, one_place ordered.once h j (omega arith) low entry))

        went : WalkLeft roles₀ i roles'
        went =
            record {
              walked_true = λ v low marked. walked_true v low marked (w.only v);
              met_true = λ v low marked. met_true v low marked (m.only v);
              start = w.stays t left.start;
              done = λ j from low marked u feeds. done j from low marked u feeds (ℕ_discrete j i);
              most = λ v low. most v (left.most v low);
              rest = beyond_then left.rest rest;
            }
          where
            walked_true : (v : ℕ) → v < net.nodes → get_or (walked_in roles') v 0 ≡ 1 →
                Only leaves (net.fanins (get_or order i 0)) (walked_in roles) (walked_in roles') v → Walked net leaves t v
            walked_true v low marked (inl same) = left.walked_true v low (sym same ∙ marked)
            walked_true v low marked (inr (_, feeds, out)) = Walked.step way feeds out

            met_true : (v : ℕ) → v < net.nodes → get_or (met_in roles') v 0 ≡ 1 →
                Only [] (net.fanins (get_or order i 0)) (met_in roles) (met_in roles') v → Met net leaves t v
            met_true v low marked (inl same) = left.met_true v low (sym same ∙ marked)
            met_true v low marked (inr (_, feeds, _)) = record { reader = get_or order i 0; walked = way; feeds = feeds }

            leaf_or : (u : ℕ) → Memᴰ u (net.fanins (get_or order i 0)) → Dec (Memᴰ u leaves) → Memᴰ u leaves ⊎ (get_or (walked_in roles') u 0 ≡ 1)
            leaf_or u feeds (yes leaf) = inl leaf
            leaf_or u feeds (no out) = inr (w.opens u feeds out)

            done : (j : ℕ) → i ≤ j → j < length order → get_or (walked_in roles') (get_or order j 0) 0 ≡ 1 → (u : ℕ) → Memᴰ u (net.fanins (get_or order j 0)) →
                Dec (j ≡ i) → Reached roles' u
            done j from low marked u feeds (yes e) =
                let here = subst (λ (x : ℕ). Memᴰ u (net.fanins (get_or order x 0))) e feeds in
                (m.opens u here Memᴰ.not-nil, leaf_or u here (decide_member u leaves))
            done j from low marked u feeds (no apart) =
                let (met-old, walked-old) = left.done j (omega arith) low (earlier j from low marked) u feeds in
                (m.stays u met-old, ⊎_elim (λ (leaf : Memᴰ u leaves). inl leaf) (λ old. inr (w.stays u old)) walked-old)

      pub walk_turn : {roles' : List ℕ} → Turned (net.fanins (get_or order i 0)) leaves (get_or order i 0) roles roles' → WalkLeft roles₀ i roles'
      walk_turn (Turned.rests out same) = rw same (rested out)
      walk_turn (Turned.goes one met) =
          let us = net.fanins (get_or order i 0) in
          let here = ordered.gates (get_or order i 0) (member_at order i inside) in
          let low : (u : ℕ) → Memᴰ u us → u < net.nodes = bounded.nodes (get_or order i 0) here in
          let held : net.nodes ≤ length roles = omega (arith, left.rest.size) in
          rw met
          (went one
          (rw (walked_meets leaves roles us) (opened leaves us (walked_in roles) (λ u feeds. omega (arith, low u feeds, view_size walked_bit roles))))
          (rw (met_meets leaves roles us) (opened [] us (met_in roles) (λ u feeds. omega (arith, low u feeds, view_size met_bit roles))))
          (meets_most leaves roles us) (meets_rest leaves net.nodes roles us low))

    module _ {roles : List ℕ} (left : WalkLeft roles₀ 0 roles) (node : t < net.nodes) where
      fed : (v u : ℕ) → v < net.nodes → get_or (walked_in roles) v 0 ≡ 1 → Memᴰ u (net.fanins v) → Reached roles u
      fed v u low one feeds =
          let p = place_of (ordered.all v (reader_is_gate bounded low feeds)) in
          left.done p.at (omega arith) p.inside (subst (λ (x : ℕ). get_or (walked_in roles) x 0 ≡ 1) (sym p.entry) one) u
          (subst (λ (x : ℕ). Memᴰ u (net.fanins x)) (sym p.entry) feeds)

      walked_marked : {v : ℕ} → Walked net leaves t v → get_or (walked_in roles) v 0 ≡ 1
      walked_marked Walked.start = left.start
      walked_marked (Walked.step {v = v} {u = u} way feeds out) =
          ⊎_elim (λ (leaf : Memᴰ u leaves). absurd (out leaf)) (λ one. one)
          (fed v u (walked_node bounded node way) (walked_marked way) feeds).1

      pub walk_end : Marks net.nodes (Walked net leaves t) (walked_in roles) × Marks net.nodes (Met net leaves t) (met_in roles)
      walk_end = (
        record { bit = λ v low. walked_bit_lem roles v; holds = left.walked_true; marked = λ v low way. walked_marked way },
        record {
          bit = λ v low. met_bit_lem roles v;
          holds = left.met_true;
          marked = λ v low m. (fed m.reader v (walked_node bounded node m.walked) (walked_marked m.walked) m.feeds).0;
        },
      )

-- The fanins of a gate are met one after the other

pub record MeetsLeft (leaves us roles₀ roles : List ℕ) (i : ℕ) : Type 0 where
  pub low : i ≤ length us
  pub size : length roles ≡ length roles₀
  pub meets : meet_all leaves roles (drop i us) ≡ meet_all leaves roles₀ us

module _ {leaves roles₀ roles : List ℕ} (us : List ℕ) {i : ℕ} (left : MeetsLeft leaves us roles₀ roles i) where
  pub meets_turn : {roles' : List ℕ} {v : ℕ} → i < length us → v ≡ get_or us i 0 → roles' ≡ meet_one leaves roles v → MeetsLeft leaves us roles₀ roles' (i + 1)
  unfolding meet_all
  meets_turn {v = v} inside here met =
      let due : drop i us ≡ v ∷ drop (i + 1) us = rw (add-one, here) (drop-cons us i 0 inside) in
      record {
        low = omega arith;
        size = ap length met ∙ length-set roles v _ ∙ left.size;
        meets = ap (λ (x : List ℕ). meet_all leaves x (drop (i + 1) us)) met ∙ sym (ap (meet_all leaves roles) due) ∙ left.meets;
      }

  pub meets_end : length us ≤ i → roles ≡ meet_all leaves roles₀ us
  unfolding meet_all
  meets_end all =
      let last : i ≡ length us = omega (arith, left.low) in
      let none : drop i us ≡ [] = ap (λ (n : ℕ). drop n us) last ∙ drop-length us in
      sym (ap (meet_all leaves roles) none) ∙ left.meets
