-- The sweeps: what a turn does; that turns only add gates, each once and behind its fanins; and that a sweep which adds none leaves only gates
-- that wait for each other.
use Prim.Native.Nat.{ℕ, zero, suc, ◌+◌, ◌-◌, ◌≤◌, ◌<◌}
use native.Mathlib.Decide.{dec_lt, ℕ_discrete}
use native.Mathlib.Omega.{arith}
use mathlib.Core.Path.{◌≡◌, refl, ap, sym, subst, ◌∙◌}
use mathlib.Core.Bool.{true, false, ◌||◌, or-true, and-false}
use mathlib.Core.Logic.{◌⊎◌, inl, inr, ⊎_elim}
use mathlib.Core.List.Memᴰ
use mathlib.Core.List.{List, [], ◌∷◌, ◌++◌, append_assoc, append-nil, Memᴰ}
use lib.ListN.{length, get_or, length-append, get_or-append}
use lib.Seq.{get_or-append_seam}
use lib.Dec.{ltb}
use borrow.Author.Tests.{lt-ltb, le-ltb}
use Rattle.storage.proofs.Entries.{place_of, member_more, no_repeats_more, is_member_lem, no_member}
use Rattle.theory.specs.paper.Net.{Net, Gate}
use Rattle.theory.specs.paper.Lists.{NoRepeats}
use Rattle.theory.specs.Members.{is_member}
use Rattle.theory.proofs.Decisions.{decide_member}
use Rattle.walking.specs.Sweeps.{ready, turn, turns_from, swept, swept_times, order_of}
use Rattle.walking.specs.Gathering.{Settled}

module _ (net : Net) where
  -- Readiness

  abbrev pub AllSettled : List ℕ → List ℕ → Type 0
  AllSettled l us = (u : ℕ) → Memᴰ u us → Settled net.inputs l u

  -- one of the nodes is a gate that is not placed
  pub record Waiting (l us : List ℕ) : Type 0 where
    pub fanin : ℕ
    pub feeds : Memᴰ fanin us
    pub above : net.inputs ≤ fanin
    pub unplaced : Memᴰ fanin l → ⊥

  settled_test : (l : List ℕ) (u : ℕ) → Settled net.inputs l u → (ltb u net.inputs || is_member u l) ≡ true
  settled_test l u (inl low) = rw (lt-ltb u net.inputs low)
  settled_test l u (inr m) = rw (is_member_lem m) (or-true (ltb u net.inputs))

  pub all_ready : (l us : List ℕ) → AllSettled l us → ready net l us ≡ true
  unfolding ready
  all_ready l [] all = refl
  all_ready l (u ∷ us) all = rw (settled_test l u (all u (Memᴰ.head refl)), all_ready l us (λ w m. all w (Memᴰ.tail m)))

  pub decide_ready : (l us : List ℕ) → AllSettled l us ⊎ Waiting l us
  decide_ready l [] = inl (λ u m. absurd (Memᴰ.not-nil m))
  decide_ready l (u ∷ us) = either (dec_lt u net.inputs) (decide_member u l) (decide_ready l us)
    where
      with_rest : Settled net.inputs l u → AllSettled l us ⊎ Waiting l us → AllSettled l (u ∷ us) ⊎ Waiting l (u ∷ us)
      with_rest here (inl rest) =
          inl (λ w m. ⊎_elim (λ (e : w ≡ u). subst (Settled net.inputs l) (sym e) here) (rest w) (Memᴰ.cases_cons m))
      with_rest here (inr w) = inr (record { fanin = w.fanin; feeds = Memᴰ.tail w.feeds; above = w.above; unplaced = w.unplaced })

      either : Dec (u < net.inputs) → Dec (Memᴰ u l) → AllSettled l us ⊎ Waiting l us → AllSettled l (u ∷ us) ⊎ Waiting l (u ∷ us)
      either (yes low) placed rest = with_rest (inl low) rest
      either (no high) (yes m) rest = with_rest (inr m) rest
      either (no high) (no new) rest = inr (record { fanin = u; feeds = Memᴰ.head refl; above = omega arith; unplaced = new })

  waits_for : (l : List ℕ) (x : ℕ) → net.inputs ≤ x → (Memᴰ x l → ⊥) → {us : List ℕ} → Memᴰ x us → ready net l us ≡ false
  unfolding ready
  waits_for l x above new (Memᴰ.head {x = u} e) =
      rw (le-ltb u net.inputs (omega arith), no_member (λ (m : Memᴰ u l). new (Memᴰ.cast e m)))
  waits_for l x above new (Memᴰ.tail {x = u} m) =
      rw (waits_for l x above new m) (and-false (ltb u net.inputs || is_member u l))

  pub not_ready : {l us : List ℕ} → Waiting l us → ready net l us ≡ false
  not_ready {l} w = waits_for l w.fanin w.above w.unplaced w.feeds

  -- Turns

  pub data Turns (l : List ℕ) (v : ℕ) : List ℕ → Type 0 where
    placed : Memᴰ v l → Turns l v l
    waits : (Memᴰ v l → ⊥) → Waiting l (net.fanins v) → Turns l v l
    goes : (Memᴰ v l → ⊥) → AllSettled l (net.fanins v) → Turns l v (l ++ (v ∷ []))

  pub turn_is : {l m : List ℕ} {v : ℕ} → Turns l v m → turn net l v ≡ m
  unfolding turn
  turn_is (Turns.placed here) = rw (is_member_lem here)
  turn_is (Turns.waits new w) = rw (no_member new, not_ready w)
  turn_is {l} {v = v} (Turns.goes new all) = rw (no_member new, all_ready l (net.fanins v) all)

  pub turns : (l : List ℕ) (v : ℕ) → Turns l v (turn net l v)
  turns l v = either (decide_member v l) (decide_ready l (net.fanins v))
    where
      told : {m : List ℕ} → Turns l v m → Turns l v (turn net l v)
      told t = subst (Turns l v) (sym (turn_is t)) t

      either : Dec (Memᴰ v l) → AllSettled l (net.fanins v) ⊎ Waiting l (net.fanins v) → Turns l v (turn net l v)
      either (yes here) r = told (Turns.placed here)
      either (no new) (inl all) = told (Turns.goes new all)
      either (no new) (inr w) = told (Turns.waits new w)

  -- Turns only add.

  pub record Grown (l m : List ℕ) : Type 0 where
    pub new : List ℕ
    pub whole : m ≡ l ++ new

  grown_none : (l : List ℕ) → Grown l l
  grown_none l = record { new = []; whole = sym (append-nil l) }

  grown_on : {l m n : List ℕ} → Grown l m → Grown m n → Grown l n
  grown_on {l} g h = record { new = g.new ++ h.new; whole = h.whole ∙ rw g.whole (append_assoc l g.new h.new) }

  turn_grown : {l m : List ℕ} {v : ℕ} → Turns l v m → Grown l m
  turn_grown {l} (Turns.placed here) = grown_none l
  turn_grown {l} (Turns.waits new w) = grown_none l
  turn_grown {v = v} (Turns.goes new all) = record { new = v ∷ []; whole = refl }

  pub turns_grown : (left v : ℕ) (l : List ℕ) → Grown l (turns_from net left v l)
  unfolding turns_from
  turns_grown zero v l = grown_none l
  turns_grown (suc left) v l = grown_on (turn_grown (turns l v)) (turns_grown left (suc v) (turn net l v))

  pub grown_longer : {l m : List ℕ} → Grown l m → length l ≤ length m
  grown_longer {l} {m} g = omega (arith, ap length g.whole, length-append l g.new)

  pub grown_same : {l m : List ℕ} → Grown l m → length m ≤ length l → m ≡ l
  grown_same {l} {m} g short = none g.new g.whole
    where
      none : (new : List ℕ) → m ≡ l ++ new → m ≡ l
      none [] e = e ∙ append-nil l
      none (x ∷ new) e = absurd (omega (arith, ap length e, length-append l (x ∷ new)))

  -- a turn that adds none
  pub turn_still : {l m : List ℕ} {v : ℕ} → Turns l v m → length m ≤ length l → (Memᴰ v l → ⊥) → Waiting l (net.fanins v)
  turn_still (Turns.placed here) short new = absurd (new here)
  turn_still (Turns.waits _ w) short new = w
  turn_still {l} {v = v} (Turns.goes _ all) short new = absurd (omega (arith, length-append l (v ∷ [])))

  -- in turns that add none, every gate that is not placed waits
  pub turns_still : (left v : ℕ) (l : List ℕ) → turns_from net left v l ≡ l →
      (w : ℕ) → v ≤ w → w < v + left → (Memᴰ w l → ⊥) → Waiting l (net.fanins w)
  unfolding turns_from
  turns_still zero v l still w low high new = absurd (omega arith)
  turns_still (suc left) v l still w low high new = either (ℕ_discrete w v) (turns_still left (suc v) l)
    where
      short : length (turn net l v) ≤ length l
      short = omega (arith, grown_longer (turns_grown left (suc v) (turn net l v)), ap length still)

      same : turn net l v ≡ l
      same = grown_same (turn_grown (turns l v)) short

      either : Dec (w ≡ v) →
          (turns_from net left (suc v) l ≡ l → (x : ℕ) → suc v ≤ x → x < suc v + left → (Memᴰ x l → ⊥) → Waiting l (net.fanins x)) →
          Waiting l (net.fanins w)
      either (yes e) later =
          subst (λ (x : ℕ). Waiting l (net.fanins x)) (sym e) (turn_still (turns l v) short (λ m. new (Memᴰ.cast e m)))
      either (no apart) later = later (subst (λ (m : List ℕ). turns_from net left (suc v) m ≡ l) same still) w (omega arith) (omega arith) new

  -- Gates are placed once, and behind their fanins.

  pub record Placed (l : List ℕ) : Type 0 where
    pub gates : (v : ℕ) → Memᴰ v l → Gate net v
    pub once : NoRepeats l
    pub before : (i u : ℕ) → i < length l → Memᴰ u (net.fanins (get_or l i 0)) → Gate net u → (j : ℕ) × (j < i) × (get_or l j 0 ≡ u)

  pub none_placed : Placed []
  none_placed =
      record { gates = λ v m. absurd (Memᴰ.not-nil m); once = NoRepeats.none; before = λ i u low m g. absurd (omega arith) }

  gate_placed : {l : List ℕ} {v : ℕ} → Placed l → Gate net v → (Memᴰ v l → ⊥) → AllSettled l (net.fanins v) → Placed (l ++ (v ∷ []))
  gate_placed {l} {v} p gate new all =
      record {
        gates = λ u m. ⊎_elim (p.gates u) (λ (e : u ≡ v). subst (Gate net) (sym e) gate) (member_more m);
        once = no_repeats_more p.once new;
        before = λ i u low m g. either i u m g (dec_lt i (length l)) low;
      }
    where
      old : (i : ℕ) → i < length l → get_or (l ++ (v ∷ [])) i 0 ≡ get_or l i 0
      old i low = get_or-append l (v ∷ []) 0 i low

      settled : (i u : ℕ) → i ≡ length l → Gate net u → Settled net.inputs l u → (j : ℕ) × (j < i) × (get_or (l ++ (v ∷ [])) j 0 ≡ u)
      settled i u e g (inl low) = absurd (omega (arith, g.above))
      settled i u e g (inr here) = let at = place_of here in (at.at, omega (arith, at.inside), old at.at at.inside ∙ at.entry)

      either : (i u : ℕ) → Memᴰ u (net.fanins (get_or (l ++ (v ∷ [])) i 0)) → Gate net u → Dec (i < length l) →
          i < length (l ++ (v ∷ [])) → (j : ℕ) × (j < i) × (get_or (l ++ (v ∷ [])) j 0 ≡ u)
      either i u m g (yes low) all_low =
          let at = p.before i u low (subst (λ (x : ℕ). Memᴰ u (net.fanins x)) (old i low) m) g in
          let (j, less, entry) = at in
          (j, less, old j (omega arith) ∙ entry)
      either i u m g (no high) all_low =
          let e : i ≡ length l = omega (arith, length-append l (v ∷ [])) in
          let last : get_or (l ++ (v ∷ [])) i 0 ≡ v = rw e (get_or-append_seam l v [] 0) in
          settled i u e g (all u (subst (λ (x : ℕ). Memᴰ u (net.fanins x)) last m))

  pub turn_placed : {l m : List ℕ} {v : ℕ} → Placed l → Gate net v → Turns l v m → Placed m
  turn_placed p gate (Turns.placed here) = p
  turn_placed p gate (Turns.waits new w) = p
  turn_placed p gate (Turns.goes new all) = gate_placed p gate new all

  pub turns_placed : (left v : ℕ) (l : List ℕ) → net.inputs ≤ v → v + left ≤ net.nodes → Placed l → Placed (turns_from net left v l)
  unfolding turns_from
  turns_placed zero v l low high p = p
  turns_placed (suc left) v l low high p =
      turns_placed left (suc v) (turn net l v) (omega arith) (omega arith)
      (turn_placed p (record { above = low; below = omega arith }) (turns l v))

  module _ (span : net.inputs ≤ net.nodes) where
    pub swept_placed : (l : List ℕ) → Placed l → Placed (swept net l)
    swept_placed l p = turns_placed (net.nodes - net.inputs) net.inputs l (omega arith) (omega arith) p

    times_placed : (n : ℕ) (l : List ℕ) → Placed l → Placed (swept_times net n l)
    unfolding swept_times
    times_placed zero l p = p
    times_placed (suc n) l p = times_placed n (swept net l) (swept_placed l p)

    pub order_placed : Placed (order_of net)
    unfolding order_of
    order_placed = times_placed (net.nodes - net.inputs) [] none_placed
