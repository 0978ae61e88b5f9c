-- The tests with marks pass exactly for evidence: where the marks say which nodes are still free, a path over free nodes is a true path that
-- repeats none of its own nodes and none that was taken before.
use Prim.Native.Nat.{ℕ, ◌≤◌, ◌<◌}
use native.Mathlib.Decide.{ℕ_discrete}
use native.Mathlib.Omega.{arith}
use mathlib.Core.Path.{◌≡◌, refl, sym, ap, subst, ◌∙◌}
use mathlib.Core.Logic.{◌⊎◌, inl, ⊎_elim}
use mathlib.Core.Bool.{false≢true}
use mathlib.Core.List.Memᴰ
use mathlib.Core.List.{List, [], ◌∷◌, ◌++◌, Memᴰ}
use lib.ListN.{length, get_or, set, length-set}
use lib.Seq.{get_or-set_same, get_or-set_other}
use Rattle.storage.specs.Drawings.{net_in}
use Rattle.storage.specs.Marks.{Marks}
use Rattle.storage.specs.Lists.{list_at}
use Rattle.theory.specs.paper.Net.{Net, Input}
use Rattle.theory.specs.paper.Lists.{NoRepeats}
use Rattle.theory.specs.paper.Evidence.{Run, TruePath, joined}
use Rattle.theory.proofs.Tests.{Decides, decides_as, ◌and_then◌, decides_lt, decides_equal, decides_member}
use Rattle.theory.proofs.Members.{no_repeats_after, no_repeats_apart, no_repeats_join, no_repeats_first}
use Rattle.theory.specs.Members.{is_member}
use Rattle.area.specs.Area.{InArea, IsEnd}
use Rattle.storage.proofs.Drawings.{fanins_in}
use Rattle.storage.proofs.InMarks.{marks_same}
use Rattle.sheet.specs.Shape.{Below}
use Rattle.sheet.proofs.Longest.{on_a_path}
use Rattle.judging.specs.Paths.{is_marked, after_path, goes_on, is_path, are_paths}

-- Free nodes

-- none twice, and all of them free
pub record Held (P : ℕ → Type 0) (vs : List ℕ) : Type 0 where
  pub apart : NoRepeats vs
  pub free : (v : ℕ) → Memᴰ v vs → P v

-- free, and none of those that were taken since
abbrev Left : (ℕ → Type 0) → List ℕ → ℕ → Type 0
Left P taken v = P v × (Memᴰ v taken → ⊥)

held_none : (P : ℕ → Type 0) → Held P []
held_none P = record { apart = NoRepeats.none; free = λ v m. absurd (Memᴰ.not-nil m) }

held_join : {P : ℕ → Type 0} {l m : List ℕ} → Held P l → Held (Left P l) m → Held P (l ++ m)
held_join {l = l} first later =
    record {
      apart = no_repeats_join first.apart later.apart (λ v here there. (later.free v there).1 here);
      free = λ v both. ⊎_elim (first.free v) (λ there. (later.free v there).0) (Memᴰ.append_cases l both);
    }

held_first : {P : ℕ → Type 0} (l m : List ℕ) → Held P (l ++ m) → Held P l
held_first l m held = record { apart = no_repeats_first l m held.apart; free = λ v here. held.free v (Memᴰ.append_left m here) }

held_later : {P : ℕ → Type 0} (l m : List ℕ) → Held P (l ++ m) → Held (Left P l) m
held_later l m held =
    record {
      apart = no_repeats_after l held.apart;
      free = λ v there. (held.free v (Memᴰ.append_right l there), λ here. no_repeats_apart held.apart here there);
    }

held_one : {P : ℕ → Type 0} {v : ℕ} → P v → Held P (v ∷ [])
held_one {P} {v} free =
    record {
      apart = NoRepeats.more Memᴰ.not-nil NoRepeats.none;
      free = λ w m. subst P (sym (Memᴰ.eq_of_singleton m)) free;
    }

-- the marks after one node is taken
marks_taken : {nodes : ℕ} {P : ℕ → Type 0} {l : List ℕ} (v : ℕ) → nodes ≤ length l → v < nodes → Marks nodes P l → Marks nodes (Left P (v ∷ [])) (set l v 0)
marks_taken {nodes} {P} {l} v long low marks =
    record {
      bit = λ u below. bits u below (ℕ_discrete u v);
      holds = λ u below. holding u below (ℕ_discrete u v);
      marked = λ u below p. get_or-set_other l v u 0 0 (λ e. p.1 (Memᴰ.head e)) ∙ marks.marked u below p.0;
    }
  where
    none : {u : ℕ} → u ≡ v → get_or (set l v 0) u 0 ≡ 0
    none {u} e = ap (λ (w : ℕ). get_or (set l v 0) w 0) e ∙ get_or-set_same l v 0 0 (omega arith)

    bits : (u : ℕ) → u < nodes → Dec (u ≡ v) → (get_or (set l v 0) u 0 ≡ 0) ⊎ (get_or (set l v 0) u 0 ≡ 1)
    bits u below (yes e) = inl (none e)
    bits u below (no apart) = rw (get_or-set_other l v u 0 0 apart) (marks.bit u below)

    holding : (u : ℕ) → u < nodes → Dec (u ≡ v) → get_or (set l v 0) u 0 ≡ 1 → Left P (v ∷ []) u
    holding u below (yes e) one = absurd (let zero = none e in omega arith)
    holding u below (no apart) one =
        (marks.holds u below (sym (get_or-set_other l v u 0 0 apart) ∙ one), λ m. apart (Memᴰ.eq_of_singleton m))

marks_after : {nodes : ℕ} {P : ℕ → Type 0} {l : List ℕ} (vs : List ℕ) → nodes ≤ length l → Below nodes vs → Marks nodes P l →
    Marks nodes (Left P vs) (after_path l vs)
unfolding after_path
marks_after [] long below marks = marks_same (λ v low p. (p, Memᴰ.not-nil)) (λ v low p. p.0) marks
marks_after {l = l} (v ∷ vs) long below marks =
    marks_same
    (λ u low p. (p.0.0, λ m. ⊎_elim (λ (e : u ≡ v). p.0.1 (Memᴰ.head e)) p.1 (Memᴰ.cases_cons m)))
    (λ u low p. ((p.0, λ m. p.1 (Memᴰ.head (Memᴰ.eq_of_singleton m))), λ m. p.1 (Memᴰ.tail m)))
    (marks_after vs (simp length-set long) (λ u m. below u (Memᴰ.tail m)) (marks_taken v long (below v (Memᴰ.head refl)) marks))

long_after : (vs l : List ℕ) → length (after_path l vs) ≡ length l
unfolding after_path
long_after [] l = refl
long_after (v ∷ vs) l = long_after vs (set l v 0) ∙ length-set l v 0

decides_marked : {nodes : ℕ} {P : ℕ → Type 0} {l : List ℕ} → Marks nodes P l → (v : ℕ) → v < nodes → Decides (is_marked l v) (P v)
decides_marked {l = l} marks v low = decides_as (marks.holds v low) (marks.marked v low) (decides_equal (get_or l v 0) 1)

-- Paths

module _ (inputs nodes : ℕ) (fanins : List ℕ) (lab : ℕ → ℕ) (t : ℕ) {ends : List ℕ}
    (ending : Marks nodes (IsEnd (net_in inputs nodes fanins) lab t) ends) where
  abbrev net : Net
  net = net_in inputs nodes fanins

  decides_feeds : (u v : ℕ) → v < nodes → Decides (is_member u (list_at fanins v)) (Memᴰ u (net.fanins v))
  decides_feeds u v low =
      rw (fanins_in inputs nodes fanins v low) (decides_member u (list_at fanins v))

  decides_goes : (P : ℕ → Type 0) → ((v : ℕ) → P v → InArea net lab t v) → {free : List ℕ} → nodes ≤ length free → Marks nodes P free →
      (u : ℕ) → u < nodes → InArea net lab t u → (vs : List ℕ) → Below nodes vs →
      Decides (goes_on fanins ends free u vs) (Run net lab t (u ∷ vs) × Held P vs)
  unfolding goes_on
  decides_goes P inside long marks u low here [] below =
      decides_as (λ e. (Run.last e.deep e.feeds, held_none P)) (λ both. ended both.0) (decides_marked ending u low)
    where
      ended : Run net lab t (u ∷ []) → IsEnd net lab t u
      ended (Run.last {d = d} deep feeds) = record { inside = here; member = d; deep = deep; feeds = feeds }
  decides_goes P inside {free} long marks u low here (v ∷ vs) below =
      let less : v < nodes = below v (Memᴰ.head refl) in
      decides_as
      (λ k. (Run.more k.0.0 k.1.0, held_join (held_one k.0.1) k.1.1))
      (λ both. split both.0 both.1)
      (decides_feeds u v less and_then (λ _. decides_marked marks v less)
      and_then (λ k.
      decides_goes (Left P (v ∷ [])) (λ w p. inside w p.0) (simp length-set long) (marks_taken v long less marks) v less (inside v k.1) vs
      (λ w m. below w (Memᴰ.tail m))))
    where
      split : Run net lab t (u ∷ v ∷ vs) → Held P (v ∷ vs) →
          (Memᴰ u (net.fanins v) × P v) × (Run net lab t (v ∷ vs) × Held (Left P (v ∷ [])) vs)
      split (Run.more feeds run) held = ((feeds, held.free v (Memᴰ.head refl)), (run, held_later (v ∷ []) vs held))

  -- a path of free nodes that starts at an input and runs to an end is a true one
  whole_path : (P : ℕ → Type 0) → ((v : ℕ) → P v → InArea net lab t v) → (v : ℕ) (vs : List ℕ) → Input net v → Run net lab t (v ∷ vs) →
      Held P (v ∷ vs) → TruePath net lab t (v ∷ vs)
  whole_path P inside v vs starts run held =
      record {
        first = v;
        rest = vs;
        whole = refl;
        starts = starts;
        runs = run;
        behind = λ w m. (inside w (held.free w m)).behind;
        outside = λ w m. (inside w (held.free w m)).outside;
      }

  decides_path : (P : ℕ → Type 0) → ((v : ℕ) → P v → InArea net lab t v) → {free : List ℕ} → nodes ≤ length free → Marks nodes P free →
      (path : List ℕ) → Below nodes path → Decides (is_path fanins ends inputs free path) (TruePath net lab t path × Held P path)
  unfolding is_path net_in
  decides_path P inside long marks [] below = record { holds = λ e. absurd (false≢true e); passes = λ p. cc p.0.whole }
  decides_path P inside long marks (v ∷ vs) below =
      let less : v < nodes = below v (Memᴰ.head refl) in
      decides_as
      (λ k. let held = held_join (held_one k.0.1) k.1.1 in (whole_path P inside v vs k.0.0 k.1.0 held, held))
      (λ both.
      let p = both.0 in let held = both.1 in
      let e : v ≡ p.first = cc p.whole in
      ((rw e p.starts, held.free v (Memᴰ.head refl)), (p.runs, held_later (v ∷ []) vs held)))
      (decides_lt v inputs and_then (λ _. decides_marked marks v less)
      and_then (λ k.
      decides_goes (Left P (v ∷ [])) (λ w p. inside w p.0) (simp length-set long) (marks_taken v long less marks) v less (inside v k.1) vs
      (λ w m. below w (Memᴰ.tail m))))

  -- each is a true path
  abbrev Each : List (List ℕ) → Type 0
  Each paths = (path : List ℕ) → Memᴰ path paths → TruePath net lab t path

  decides_paths : (P : ℕ → Type 0) → ((v : ℕ) → P v → InArea net lab t v) → {free : List ℕ} → nodes ≤ length free → Marks nodes P free →
      (paths : List (List ℕ)) → Below nodes (joined paths) → Decides (are_paths fanins ends inputs free paths) (Each paths × Held P (joined paths))
  unfolding are_paths joined
  decides_paths P inside long marks [] below =
      record { holds = λ e. (λ path m. absurd (Memᴰ.not-nil m), held_none P); passes = λ both. refl }
  decides_paths P inside {free} long marks (path ∷ paths) below =
      decides_as
      (λ k. (λ other m. ⊎_elim (λ (e : other ≡ path). subst (TruePath net lab t) (sym e) k.0.0) (k.1.0 other) (Memᴰ.cases_cons m), held_join k.0.1 k.1.1))
      (λ both. ((both.0 path (Memᴰ.head refl), held_first path (joined paths) both.1), (λ other m. both.0 other (Memᴰ.tail m), held_later path (joined paths) both.1)))
      (decides_path P inside long marks path (λ v m. below v (Memᴰ.append_left (joined paths) m))
      and_then (λ _.
      decides_paths (Left P path) (λ w p. inside w p.0) (rw (long_after path free) long)
      (marks_after path long (λ v m. below v (Memᴰ.append_left (joined paths) m)) marks) paths (λ v m. below v (Memᴰ.append_right path m))))

  -- With marks at the nodes "behind t and outside D", the tests pass exactly for true paths with no node on two or twice on one.
  pub decides_evidence : {area : List ℕ} → nodes ≤ length area → Marks nodes (InArea net lab t) area → (paths : List (List ℕ)) →
      Below nodes (joined paths) → Decides (are_paths fanins ends inputs area paths) (Each paths × NoRepeats (joined paths))
  decides_evidence long marks paths below =
      decides_as (λ k. (k.0, k.1.apart)) back (decides_paths (InArea net lab t) (λ v p. p) long marks paths below)
    where
      back : Each paths × NoRepeats (joined paths) → Each paths × Held (InArea net lab t) (joined paths)
      back both = (
        both.0,
        record {
          apart = both.1;
          free = λ v m.
              let (path, among, on) = on_a_path paths v m in
              record { behind = (both.0 path among).behind v on; outside = (both.0 path among).outside v on };
        },
      )
