-- The search back from a gate: what is listed lies behind it, what was passed has its fanins listed, so at the end all that lies behind it is
-- listed, and it reaches itself exactly if it is listed.
use Prim.Native.Nat.{ℕ, ◌+◌, ◌≤◌, ◌<◌}
use native.Mathlib.Decide.{dec_lt, ℕ_discrete}
use native.Mathlib.Numerals.{add-one}
use native.Mathlib.Omega.{arith}
use mathlib.Core.Path.{◌≡◌, refl, ap, sym, subst, ◌∙◌}
use mathlib.Core.Logic.{◌⊎◌, inl, inr, ⊎_elim}
use mathlib.Core.List.Memᴰ
use mathlib.Core.List.{List, [], ◌∷◌, ◌++◌, append_assoc, append-nil, Memᴰ}
use lib.ListN.{length, get_or, take, drop, length-append, get_or-append}
use lib.Seq.{drop-cons, get_or-take, drop-length}
use lib.Dec.{ltb}
use borrow.Author.Tests.{lt-ltb, le-ltb}
use mathlib.Core.Bool.{Bool, true, false, or-true}
use Rattle.storage.specs.Drawings.{net_in}
use Rattle.storage.specs.Marks.{Tells}
use Rattle.storage.specs.Lists.{list_at}
use Rattle.storage.proofs.Entries.{member_more, member_last, is_member_lem, no_member, member_of_part, part_place}
use Rattle.storage.proofs.Drawings.{fanins_in}
use Rattle.theory.specs.paper.Walk.{Walked, Behind, Loop}
use Rattle.theory.proofs.Walks.{behind_on}
use Rattle.theory.proofs.Decisions.{decide_member}
use Rattle.walking.specs.Gathering.{Settled, Listing, Kept, Listed, Added, noted, noted_all}
use Rattle.walking.specs.Searching.{Searched, LowestFound}
use Rattle.std.specs.Prelude.{None, Some}
use Rattle.walking.proofs.Gatherings.{listing_size, kept_on, listed_same, listed_on, listed_as, note_listed}

-- The list of nodes noted

module _ (inputs : ℕ) where
  data Notes (l : List ℕ) (v : ℕ) : List ℕ → Type 0 where
    settled : Settled inputs l v → Notes l v l
    goes : Notes l v (l ++ (v ∷ []))

  notes : (l : List ℕ) (v : ℕ) → Notes l v (noted inputs l v)
  unfolding noted
  notes l v = either (dec_lt v inputs) (decide_member v l)
    where
      either : Dec (v < inputs) → Dec (Memᴰ v l) → Notes l v (noted inputs l v)
      either (yes low) m = rw (lt-ltb v inputs low) (Notes.settled (inl low))
      either (no high) (yes m) = rw (is_member_lem m, or-true (ltb v inputs)) (Notes.settled (inr m))
      either (no high) (no new) = rw (le-ltb v inputs (omega arith), no_member new) Notes.goes

  -- what is behind the list stays
  pub record Longer (l m : List ℕ) : Type 0 where
    pub new : List ℕ
    pub whole : m ≡ l ++ new

  note_longer : {l m : List ℕ} {v : ℕ} → Notes l v m → Longer l m
  note_longer {l} (Notes.settled s) = record { new = []; whole = sym (append-nil l) }
  note_longer {v = v} Notes.goes = record { new = v ∷ []; whole = refl }

  pub notes_longer : (l us : List ℕ) → Longer l (noted_all inputs l us)
  unfolding noted_all
  notes_longer l [] = record { new = []; whole = sym (append-nil l) }
  notes_longer l (u ∷ us) = on (note_longer (notes l u)) (notes_longer (noted inputs l u) us)
    where
      on : Longer l (noted inputs l u) → Longer (noted inputs l u) (noted_all inputs (noted inputs l u) us) → Longer l (noted_all inputs (noted inputs l u) us)
      on g h = record { new = g.new ++ h.new; whole = h.whole ∙ ap (λ (x : List ℕ). x ++ h.new) g.whole ∙ append_assoc l g.new h.new }

  pub longer_settled : {l m : List ℕ} → Longer l m → {v : ℕ} → Settled inputs l v → Settled inputs m v
  longer_settled g (inl low) = inl low
  longer_settled g {v} (inr m) = inr (subst (Memᴰ v) (sym g.whole) (Memᴰ.append_left g.new m))

  note_settles : {l m : List ℕ} {v : ℕ} → Notes l v m → Settled inputs m v
  note_settles (Notes.settled s) = s
  note_settles {l} {v = v} Notes.goes = inr (member_last v l)

  pub notes_settle : (l us : List ℕ) → (u : ℕ) → Memᴰ u us → Settled inputs (noted_all inputs l us) u
  unfolding noted_all
  notes_settle l [] u m = absurd (Memᴰ.not-nil m)
  notes_settle l (v ∷ us) u m =
      ⊎_elim
      (λ (e : u ≡ v).
      longer_settled (notes_longer (noted inputs l v) us) (subst (Settled inputs (noted inputs l v)) (sym e) (note_settles (notes l v))))
      (notes_settle (noted inputs l v) us u) (Memᴰ.cases_cons m)

  note_from : {l m : List ℕ} {v u : ℕ} → Notes l v m → Memᴰ u m → Memᴰ u l ⊎ (u ≡ v)
  note_from (Notes.settled s) m = inl m
  note_from Notes.goes m = member_more m

  pub notes_from : (l us : List ℕ) (u : ℕ) → Memᴰ u (noted_all inputs l us) → Memᴰ u l ⊎ Memᴰ u us
  unfolding noted_all
  notes_from l [] u m = inl m
  notes_from l (v ∷ us) u m =
      ⊎_elim
      (λ (old : Memᴰ u (noted inputs l v)). ⊎_elim (λ (here : Memᴰ u l). inl here) (λ (e : u ≡ v). inr (Memᴰ.head e)) (note_from (notes l v) old))
      (λ (late : Memᴰ u us). inr (Memᴰ.tail late)) (notes_from (noted inputs l v) us u m)

-- The loop over a gate's fanins

pub record NotesLeft (inputs nodes : ℕ) (fanins list₀ marks₀ : List ℕ) (size : ℕ) (us list marks : List ℕ) (listed i : ℕ) : Type 0 where
  pub low : i ≤ length us
  pub now : Listed inputs nodes fanins list₀ marks₀ list marks listed (take listed list)
  pub same : noted_all inputs (take listed list) (drop i us) ≡ noted_all inputs (take size list₀) us

module _ {inputs nodes : ℕ} {fanins list₀ marks₀ : List ℕ} {size : ℕ} (us : List ℕ) where
  pub notes_start : Listing inputs nodes fanins list₀ marks₀ size → NotesLeft inputs nodes fanins list₀ marks₀ size us list₀ marks₀ size 0
  notes_start l = record { low = omega arith; now = listed_same l; same = refl }

  module _ {list marks : List ℕ} {listed i : ℕ} (left : NotesLeft inputs nodes fanins list₀ marks₀ size us list marks listed i) where
    pub notes_turn : {list' marks' : List ℕ} {listed' : ℕ} {v : ℕ} → i < length us → v ≡ get_or us i 0 → v < nodes →
        Added [] v list marks listed list' marks' listed' → NotesLeft inputs nodes fanins list₀ marks₀ size us list' marks' listed' (i + 1)
    unfolding noted_all
    notes_turn {v = v} inside here node put =
        let step = note_listed left.now.listing node put in
        let due : drop i us ≡ v ∷ drop (i + 1) us = rw (add-one, here) (drop-cons us i 0 inside) in
        record {
          low = omega arith;
          now = listed_as (sym step.entries) (listed_on left.now step);
          same = rw step.entries (sym (ap (noted_all inputs (take listed list)) due) ∙ left.same);
        }

    pub notes_end : length us ≤ i → Listed inputs nodes fanins list₀ marks₀ list marks listed (noted_all inputs (take size list₀) us)
    unfolding noted_all
    notes_end all =
        let last : i ≡ length us = omega (arith, left.low) in
        let none : drop i us ≡ [] = ap (λ (n : ℕ). drop n us) last ∙ drop-length us in
        listed_as (sym (ap (noted_all inputs (take listed list)) none) ∙ left.same) left.now

-- The search

pub record SearchLeft (inputs nodes : ℕ) (fanins : List ℕ) (g : ℕ) (list marks : List ℕ) (size done : ℕ) : Type 0 where
  pub low : done ≤ size
  pub listing : Listing inputs nodes fanins list marks size
  pub behind : (v : ℕ) → Memᴰ v (take size list) → Behind (net_in inputs nodes fanins) g v
  pub first : (u : ℕ) → Memᴰ u ((net_in inputs nodes fanins).fanins g) → Settled inputs (take size list) u
  pub closed : (i u : ℕ) → i < done → Memᴰ u ((net_in inputs nodes fanins).fanins (get_or list i 0)) → Settled inputs (take size list) u

module _ {inputs nodes : ℕ} {fanins : List ℕ} where
  module _ (g : ℕ) (node : g < nodes) where
    pub search_start : {list marks list' marks' : List ℕ} {size' : ℕ} →
        Listed inputs nodes fanins list marks list' marks' size' (noted_all inputs [] (list_at fanins g)) →
        SearchLeft inputs nodes fanins g list' marks' size' 0
    search_start n =
        let us = fanins_in inputs nodes fanins g node in
        record {
          low = omega arith;
          listing = n.listing;
          behind =
              λ v m.
              ⊎_elim (λ (none : Memᴰ v []). absurd (Memᴰ.not-nil none))
              (λ (here : Memᴰ v (list_at fanins g)). record { reader = g; walked = Walked.start; feeds = subst (Memᴰ v) (sym us) here })
              (notes_from inputs [] (list_at fanins g) v (subst (Memᴰ v) n.entries m));
          first =
              λ u m.
              subst (λ (x : List ℕ). Settled inputs x u) (sym n.entries) (notes_settle inputs [] (list_at fanins g) u (subst (Memᴰ u) us m));
          closed = λ i u none m. absurd (omega arith);
        }

    module _ {list marks : List ℕ} {size done : ℕ} (left : SearchLeft inputs nodes fanins g list marks size done) where
      pub next_gate : done < size → (inputs ≤ get_or list done 0) × (get_or list done 0 < nodes)
      next_gate more =
          left.listing.gates (get_or list done 0)
          (member_of_part size list done more (omega (arith, left.listing.few, left.listing.list_long)))

      pub search_turn : {list' marks' : List ℕ} {size' : ℕ} {v : ℕ} → done < size → v ≡ get_or list done 0 →
          Listed inputs nodes fanins list marks list' marks' size' (noted_all inputs (take size list) (list_at fanins v)) →
          SearchLeft inputs nodes fanins g list' marks' size' (done + 1)
      search_turn {list'} {marks'} {size'} {v} more here n =
          record {
            low = omega (arith, grown);
            listing = n.listing;
            behind =
                λ u m.
                ⊎_elim (left.behind u)
                (λ (feeds : Memᴰ u (list_at fanins v)).
                behind_on now (Walked.step Walked.start (subst (Memᴰ u) (sym us) feeds) Memᴰ.not-nil))
                (notes_from inputs (take size list) (list_at fanins v) u (subst (Memᴰ u) n.entries m));
            first = λ u m. wider (left.first u m);
            closed = λ i u below m. either i u below m (ℕ_discrete i done);
          }
        where
          us : (net_in inputs nodes fanins).fanins v ≡ list_at fanins v
          us = fanins_in inputs nodes fanins v (omega (arith, next_gate more))

          longer : Longer inputs (take size list) (take size' list')
          longer = rw n.entries (notes_longer inputs (take size list) (list_at fanins v))

          held : length (take size list) ≡ size
          held = listing_size left.listing

          grown : size ≤ size'
          grown = omega (arith, held, listing_size n.listing, ap length longer.whole, length-append (take size list) longer.new)

          wider : {u : ℕ} → Settled inputs (take size list) u → Settled inputs (take size' list') u
          wider s = longer_settled inputs longer s

          now : Behind (net_in inputs nodes fanins) g v
          now = left.behind v (subst (λ (x : ℕ). Memᴰ x (take size list)) (sym here)
              (member_of_part size list done more (omega (arith, left.listing.few, left.listing.list_long))))

          old : (i : ℕ) → i < size → get_or list' i 0 ≡ get_or list i 0
          old i below =
              sym (get_or-take size' list' i 0 (omega (arith, grown)))
              ∙ ap (λ (x : List ℕ). get_or x i 0) longer.whole
              ∙ get_or-append (take size list) longer.new 0 i (omega (arith, held))
              ∙ get_or-take size list i 0 below

          settled : (u : ℕ) → Memᴰ u ((net_in inputs nodes fanins).fanins v) → Settled inputs (take size' list') u
          settled u m = subst (λ (x : List ℕ). Settled inputs x u) (sym n.entries) (notes_settle inputs (take size list) (list_at fanins v) u (subst (Memᴰ u) us m))

          either : (i u : ℕ) → i < done + 1 → Memᴰ u ((net_in inputs nodes fanins).fanins (get_or list' i 0)) → Dec (i ≡ done) → Settled inputs (take size' list') u
          either i u below m (yes e) =
              let same : get_or list' i 0 ≡ v = old i (omega arith) ∙ ap (λ (x : ℕ). get_or list x 0) e ∙ sym here in
              settled u (subst (λ (x : ℕ). Memᴰ u ((net_in inputs nodes fanins).fanins x)) same m)
          either i u below m (no apart) =
              let earlier : i < done = omega arith in
              wider (left.closed i u earlier (subst (λ (x : ℕ). Memᴰ u ((net_in inputs nodes fanins).fanins x)) (old i (omega arith)) m))

      module _ (gate : inputs ≤ g) (all : size ≤ done) where
        -- the fanins of what is listed, and of g, are settled
        on_from : (w v : ℕ) → Memᴰ v ((net_in inputs nodes fanins).fanins w) → (w ≡ g) ⊎ Settled inputs (take size list) w →
            Settled inputs (take size list) v
        unfolding net_in
        on_from w v m (inl e) = left.first v (subst (λ (x : ℕ). Memᴰ v ((net_in inputs nodes fanins).fanins x)) e m)
        on_from w v m (inr (inl low)) =
            absurd (Memᴰ.not-nil (subst (Memᴰ v) (left.listing.drawn.bounded.inputs_feed w low) m))
        on_from w v m (inr (inr here)) =
            let p = part_place size list here in
            left.closed p.at v (omega (arith, p.low))
            (subst (λ (x : ℕ). Memᴰ v ((net_in inputs nodes fanins).fanins x)) (sym p.entry) m)

        reached : {v : ℕ} → Walked (net_in inputs nodes fanins) [] g v → (v ≡ g) ⊎ Settled inputs (take size list) v
        reached Walked.start = inl refl
        reached (Walked.step {v = w} {u = v} way m _) = inr (on_from w v m (reached way))

        met_settled : (v : ℕ) → Behind (net_in inputs nodes fanins) g v → Settled inputs (take size list) v
        met_settled v b = on_from b.reader v b.feeds (reached b.walked)

        pub search_tells : {r : Bool} → Tells (get_or marks g 0 ≡ 1) r → Tells (Loop (net_in inputs nodes fanins) g) r
        search_tells t =
            record {
              yes =
                  λ e.
                  ⊎_elim (λ (low : g < inputs). absurd (omega arith)) (left.behind g)
                  (left.listing.settled.holds g node (t.yes e));
              no = λ e loop. t.no e (left.listing.settled.marked g node (met_settled g loop));
            }

-- Gate after gate

pub record LowestLeft (inputs nodes : ℕ) (fanins list₀ marks₀ list marks : List ℕ) (v : ℕ) : Type 0 where
  pub low : inputs ≤ v
  pub high : v ≤ nodes
  pub kept : Kept inputs nodes list₀ marks₀ list marks
  pub none : (h : ℕ) → inputs ≤ h → h < v → Loop (net_in inputs nodes fanins) h → ⊥

module _ {inputs nodes : ℕ} {fanins list₀ marks₀ list marks : List ℕ} {v : ℕ}
    (left : LowestLeft inputs nodes fanins list₀ marks₀ list marks v) where
  pub lowest_none : nodes ≤ v → LowestFound inputs nodes fanins list₀ marks₀ None list marks
  unfolding net_in
  lowest_none all = record { reply = λ g gate. left.none g gate.above (omega (arith, gate.below)); kept = left.kept }

  module _ {r : Bool} {list' marks' : List ℕ} (node : v < nodes) (searched : Searched inputs nodes fanins list marks v r list' marks') where
    pub lowest_turn : r ≡ false → LowestLeft inputs nodes fanins list₀ marks₀ list' marks' (v + 1)
    lowest_turn out =
        record {
          low = omega (arith, left.low);
          high = omega arith;
          kept = kept_on left.kept searched.kept;
          none = λ h above below loop. either h above below loop (ℕ_discrete h v);
        }
      where
        either : (h : ℕ) → inputs ≤ h → h < v + 1 → Loop (net_in inputs nodes fanins) h → Dec (h ≡ v) → ⊥
        either h above below loop (yes e) = searched.reply.no out (subst (Loop (net_in inputs nodes fanins)) e loop)
        either h above below loop (no apart) = left.none h above (omega arith) loop

    pub lowest_found : r ≡ true → LowestFound inputs nodes fanins list₀ marks₀ (Some (record { id = v })) list' marks'
    unfolding net_in
    lowest_found found =
        record {
          reply =
              record {
                gate = record { above = left.low; below = node };
                loop = searched.reply.yes found;
                lowest = λ h less gate. left.none h gate.above less;
              };
          kept = kept_on left.kept searched.kept;
        }
