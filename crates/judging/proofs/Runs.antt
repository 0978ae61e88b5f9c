-- Ids and paths in the bytes, one at a time: each turn of a loop leaves the test's answer as it was.
use Prim.Native.Nat.{ℕ, zero, suc, ◌+◌, ◌*◌, ◌-◌, ◌≤◌, ◌<◌}
use native.Mathlib.Omega.{arith}
use native.Mathlib.Nat.{suc-mul}
use mathlib.Core.Path.{◌≡◌, refl, sym, ap, ◌∙◌}
use mathlib.Core.Bool.{Bool, true, false, false≢true, ◌&&◌}
use mathlib.Core.List.Memᴰ
use mathlib.Core.List.{List, [], ◌∷◌, Memᴰ}
use lib.ListN.{length, set}
use lib.Dec.{eqb, ltb}
use borrow.Author.Tests.{eqb-true, eqb-false}
use Rattle.storage.specs.Entries.{Beyond}
use Rattle.storage.specs.Lists.{size_at, list_at}
use Rattle.storage.specs.Roles.{area_in, ends_in}
use Rattle.storage.proofs.Clears.{beyond_same, beyond_then}
use Rattle.theory.specs.paper.Evidence.{joined}
use Rattle.theory.proofs.Tests.{◌and_then◌, decides_le, decides_itself}
use Rattle.drawing.specs.paper.Bytes.{number_at, ids_at}
use Rattle.drawing.proofs.SoundFields.{neither}
use Rattle.theory.specs.Members.{is_member}
use Rattle.sheet.specs.paper.Shape.{path_end, paths_at, paths_use, some_empty}
use Rattle.sheet.specs.Shape.{Below}
use Rattle.judging.specs.Paths.{is_marked, after_path, goes_on, is_path, are_paths, Taken, PathRoom, IdsStand, GoesAsked, PathAsked, PathTold, PathsStand, PathsTold}
use Rattle.judging.proofs.Taking.{taken_area, taken_ends, taken_size, taken_beyond}

-- Ids

ids_cons : (s : List ℕ) (at width size : ℕ) → 1 ≤ size → ids_at s at width size ≡ number_at s at width ∷ ids_at s (at + width) width (size - 1)
ids_cons s at width zero some = absurd (omega arith)
ids_cons s at width (suc size) some =
    let one : size ≡ suc size - 1 = omega arith in
    ap (λ (n : ℕ). number_at s at width ∷ ids_at s (at + width) width n) one

module _ {nodes : ℕ} {s : List ℕ} {at width size : ℕ} (stand : IdsStand nodes s at width size) (some : 1 ≤ size) where
  more_bytes : at + width + (size - 1) * width ≤ length s
  more_bytes = by size some stand.inside
    where
      by : (n : ℕ) → 1 ≤ n → at + n * width ≤ length s → at + width + (n - 1) * width ≤ length s
      by zero none inside = absurd (omega arith)
      by (suc n) _ inside =
          let one : suc n - 1 ≡ n = omega arith in
          omega (arith, suc-mul n width, ap (λ (m : ℕ). m * width) one)

  pub id_inside : at + width ≤ length s
  id_inside = omega (arith, more_bytes)

  pub id_node : number_at s at width < nodes
  id_node = stand.below (number_at s at width) (rw (ids_cons s at width size some) (Memᴰ.head refl))

  pub ids_later : IdsStand nodes s (at + width) width (size - 1)
  ids_later =
      record {
        narrow = stand.narrow;
        inside = more_bytes;
        below = λ v m. stand.below v (rw (ids_cons s at width size some) (Memᴰ.tail m));
      }

-- A path goes on

module _ {nodes : ℕ} {fanins roles : List ℕ} (room : PathRoom nodes fanins roles) where
  pub room_after : {roles' : List ℕ} → length roles' ≡ length roles → PathRoom nodes fanins roles'
  room_after size = record { small = room.small; fed = room.fed; roles_long = omega (arith, room.roles_long) }

  pub id_asks : {s : List ℕ} {at width size : ℕ} → IdsStand nodes s at width size → 1 ≤ size →
      (width ≤ 8) × ((at + width ≤ length s) × (number_at s at width < 65536))
  id_asks stand some = let low = id_node stand some in (stand.narrow, (id_inside stand some, omega (arith, room.small)))

  pub follows_asks : (v : ℕ) → v < nodes → (7 * v + 7 ≤ length fanins) × ((size_at fanins v ≤ 6) × (v < length roles))
  follows_asks v low = let fed = room.fed v low in (fed.long, (fed.six, omega (arith, room.roles_long)))

-- The state of a path that has come to node u by the ids before place `at`; it started at u₀ with roles₀.
pub record Going (fanins : List ℕ) (u₀ : ℕ) (s : List ℕ) (at₀ width size₀ : ℕ) (roles₀ : List ℕ) (u at size : ℕ) (roles : List ℕ) : Type 0 where
  pub nodes : ℕ
  pub room : PathRoom nodes fanins roles
  pub stand : IdsStand nodes s at width size
  pub node : u < nodes
  pub answer : goes_on fanins (ends_in roles₀) (area_in roles) u (ids_at s at width size)
      ≡ goes_on fanins (ends_in roles₀) (area_in roles₀) u₀ (ids_at s at₀ width size₀)
  pub taken : after_path (area_in roles) (ids_at s at width size) ≡ after_path (area_in roles₀) (ids_at s at₀ width size₀)
  pub ends_still : ends_in roles ≡ ends_in roles₀
  pub beyond : (n : ℕ) → Below n (ids_at s at₀ width size₀) → Beyond n roles₀ roles
  pub later : (v : ℕ) → Memᴰ v (ids_at s at width size) → Memᴰ v (ids_at s at₀ width size₀)
  pub long : length roles ≡ length roles₀

module _ {fanins : List ℕ} {u₀ : ℕ} {s : List ℕ} {at₀ width size₀ : ℕ} {roles₀ : List ℕ} where
  module _ {u at size : ℕ} {roles : List ℕ} (going : Going fanins u₀ s at₀ width size₀ roles₀ u at size roles) where
    module _ (some : 1 ≤ size) {v : ℕ} (read : v ≡ number_at s at width) where
      pub next_node : v < going.nodes
      next_node = rw read (id_node going.stand some)

      pub follows_here : (7 * v + 7 ≤ length fanins) × ((size_at fanins v ≤ 6) × (v < length roles))
      follows_here = follows_asks going.room v next_node

      ids_here : ids_at s at width size ≡ v ∷ ids_at s (at + width) width (size - 1)
      ids_here = rw read (ids_cons s at width size some)

      -- the answer of the ids that are left
      abbrev onward : Bool
      onward = goes_on fanins (ends_in roles₀) (set (area_in roles) v 0) v (ids_at s (at + width) width (size - 1))

      goes_here : goes_on fanins (ends_in roles₀) (area_in roles) u (ids_at s at width size)
          ≡ ((is_member u (list_at fanins v) && is_marked (area_in roles) v) && onward)
      unfolding goes_on
      goes_here = rw ids_here

      taken_here : after_path (area_in roles) (ids_at s at width size) ≡ after_path (set (area_in roles) v 0) (ids_at s (at + width) width (size - 1))
      unfolding after_path
      taken_here = rw ids_here

      pub going_more : {roles' : List ℕ} → Taken roles v roles' → (is_member u (list_at fanins v) && is_marked (area_in roles) v) ≡ true →
          Going fanins u₀ s at₀ width size₀ roles₀ v (at + width) (size - 1) roles'
      going_more {roles'} take follows =
          record {
            nodes = going.nodes;
            room = room_after going.room (taken_size take);
            stand = ids_later going.stand some;
            node = next_node;
            answer =
                ap (λ (free : List ℕ). goes_on fanins (ends_in roles₀) free v (ids_at s (at + width) width (size - 1))) (taken_area take)
                ∙ ap (λ (b : Bool). b && onward) (sym follows)
                ∙ sym goes_here
                ∙ going.answer;
            taken =
                ap (λ (free : List ℕ). after_path free (ids_at s (at + width) width (size - 1))) (taken_area take)
                ∙ sym taken_here
                ∙ going.taken;
            ends_still = taken_ends take ∙ going.ends_still;
            beyond = λ n below.
                beyond_then (going.beyond n below) (taken_beyond take n (below v (going.later v (rw ids_here (Memᴰ.head refl)))));
            later = λ w m. going.later w (rw ids_here (Memᴰ.tail m));
            long = taken_size take ∙ going.long;
          }

      pub going_stops : (is_member u (list_at fanins v) && is_marked (area_in roles) v) ≡ false →
          PathTold (goes_on fanins (ends_in roles₀) (area_in roles₀) u₀ (ids_at s at₀ width size₀)) (ids_at s at₀ width size₀) roles₀ false roles
      going_stops stops =
          record {
            reply = ap (λ (b : Bool). b && onward) (sym stops) ∙ sym goes_here ∙ going.answer;
            taken = λ e. absurd (false≢true e);
            ends_still = going.ends_still;
            beyond = going.beyond;
          }

    pub going_ends : size ≡ 0 → {r : Bool} → r ≡ is_marked (ends_in roles) u →
        PathTold (goes_on fanins (ends_in roles₀) (area_in roles₀) u₀ (ids_at s at₀ width size₀)) (ids_at s at₀ width size₀) roles₀ r roles
    unfolding goes_on after_path
    going_ends none {r} e =
        let ids_none : ids_at s at width size ≡ [] = rw none in
        record {
          reply = e
              ∙ ap (λ (ends : List ℕ). is_marked ends u) going.ends_still
              ∙ ap (goes_on fanins (ends_in roles₀) (area_in roles) u) (sym ids_none)
              ∙ going.answer;
          taken = λ _. ap (after_path (area_in roles)) (sym ids_none) ∙ going.taken;
          ends_still = going.ends_still;
          beyond = going.beyond;
        }

-- A path starts

module _ {fanins s : List ℕ} {at width size : ℕ} {roles : List ℕ} (inputs : ℕ) (asked : PathAsked fanins s at width size roles) {v : ℕ}
    (read : v ≡ number_at s at width) where
  first_node : v < asked.nodes
  first_node = rw read (id_node asked.stand asked.some)

  pub first_inside : v < length roles
  first_inside = let low = first_node in omega (arith, asked.room.roles_long)

  first_here : ids_at s at width size ≡ v ∷ ids_at s (at + width) width (size - 1)
  first_here = rw read (ids_cons s at width size asked.some)

  abbrev onward_first : Bool
  onward_first = goes_on fanins (ends_in roles) (set (area_in roles) v 0) v (ids_at s (at + width) width (size - 1))

  path_here : is_path fanins (ends_in roles) inputs (area_in roles) (ids_at s at width size)
      ≡ ((ltb v inputs && is_marked (area_in roles) v) && onward_first)
  unfolding is_path
  path_here = rw first_here

  pub path_refused : (ltb v inputs && is_marked (area_in roles) v) ≡ false →
      PathTold (is_path fanins (ends_in roles) inputs (area_in roles) (ids_at s at width size)) (ids_at s at width size) roles false roles
  path_refused bad =
      record {
        reply = ap (λ (b : Bool). b && onward_first) (sym bad) ∙ sym path_here;
        taken = λ e. absurd (false≢true e);
        ends_still = refl;
        beyond = λ n _. beyond_same n roles;
      }

  module _ {roles₁ : List ℕ} (take : Taken roles v roles₁) where
    pub path_goes : GoesAsked fanins v s (at + width) width (size - 1) roles₁
    path_goes =
        record {
          nodes = asked.nodes;
          room = room_after asked.room (taken_size take);
          stand = ids_later asked.stand asked.some;
          node = first_node;
        }

    pub path_told : (ltb v inputs && is_marked (area_in roles) v) ≡ true → {r : Bool} {roles' : List ℕ} →
        PathTold (goes_on fanins (ends_in roles₁) (area_in roles₁) v (ids_at s (at + width) width (size - 1))) (ids_at s (at + width) width (size - 1)) roles₁ r roles' →
        PathTold (is_path fanins (ends_in roles) inputs (area_in roles) (ids_at s at width size)) (ids_at s at width size) roles r roles'
    unfolding after_path
    path_told good told =
        let later = ids_at s (at + width) width (size - 1) in
        record {
          reply = told.reply
              ∙ ap (λ (ends : List ℕ). goes_on fanins ends (area_in roles₁) v later) (taken_ends take)
              ∙ ap (λ (free : List ℕ). goes_on fanins (ends_in roles) free v later) (taken_area take)
              ∙ ap (λ (b : Bool). b && onward_first) (sym good)
              ∙ sym path_here;
          taken = λ e. told.taken e ∙ ap (λ (free : List ℕ). after_path free later) (taken_area take) ∙ ap (after_path (area_in roles)) (sym first_here);
          ends_still = told.ends_still ∙ taken_ends take;
          beyond = λ n below.
              beyond_then (taken_beyond take n (below v (rw first_here (Memᴰ.head refl))))
              (told.beyond n (λ w m. below w (rw first_here (Memᴰ.tail m))));
        }

-- Paths, one after the other

length_ids : (s : List ℕ) (at width size : ℕ) → length (ids_at s at width size) ≡ size
length_ids s at width zero = refl
length_ids s at width (suc size) = ap suc (length_ids s (at + width) width size)

-- paths that use up the bytes to an end start before it
use_before : (s : List ℕ) (at width q end : ℕ) → paths_use s at width q end ≡ true → at ≤ end
unfolding paths_use
use_before s at width zero end e = let same = eqb-true at end e in omega arith
use_before s at width (suc q) end e =
    let both = (decides_le (at + width) end and_then (λ _. decides_itself _)).holds e in omega (arith, both.0)

-- the first of some paths, and the others
record FirstPath (s : List ℕ) (at width q end : ℕ) : Type 0 where
  size_inside : at + width ≤ end
  path_inside : at + width + number_at s at width * width ≤ end
  first : paths_at s at width q ≡ ids_at s (at + width) width (number_at s at width) ∷ paths_at s (path_end s at width) width (q - 1)
  some : 1 ≤ number_at s at width
  used : paths_use s (path_end s at width) width (q - 1) end ≡ true
  filled : some_empty (paths_at s (path_end s at width) width (q - 1)) ≡ false

first_path : (s : List ℕ) (at width q end : ℕ) → 1 ≤ q → paths_use s at width q end ≡ true →
    some_empty (paths_at s at width q) ≡ false → FirstPath s at width q end
unfolding paths_at paths_use some_empty
first_path s at width zero end some used filled = absurd (omega arith)
first_path s at width (suc q) end some used filled =
    let one : q ≡ suc q - 1 = omega arith in
    let both = (decides_le (at + width) end and_then (λ _. decides_itself (paths_use s (path_end s at width) width q end))).holds used in
    let none = neither (eqb (length (ids_at s (at + width) width (number_at s at width))) 0) filled in
    let long = length_ids s (at + width) width (number_at s at width) in
    let there : (length (ids_at s (at + width) width (number_at s at width)) ≡ 0) → ⊥ = eqb-false _ _ none.0 in
    record {
      size_inside = both.0;
      path_inside = use_before s (path_end s at width) width q end both.1;
      first = ap (λ (n : ℕ). ids_at s (at + width) width (number_at s at width) ∷ paths_at s (path_end s at width) width n) one;
      some = by_count (number_at s at width) (λ e. there (long ∙ e));
      used = rw (← one) both.1;
      filled = rw (← one) none.1;
    }
  where
    by_count : (n : ℕ) → (n ≡ 0 → ⊥) → 1 ≤ n
    by_count zero none = absurd (none refl)
    by_count (suc n) none = omega arith

module _ {nodes : ℕ} {s : List ℕ} {at width q : ℕ} (stand : PathsStand nodes s at width q) (some : 1 ≤ q) where
  first_here_of : FirstPath s at width q stand.end
  first_here_of = first_path s at width q stand.end some stand.used stand.filled

  pub size_asks : (width ≤ 8) × (at + width ≤ length s)
  size_asks = let f = first_here_of in (stand.narrow, omega (arith, f.size_inside, stand.inside))

  pub paths_cons : paths_at s at width q ≡ ids_at s (at + width) width (number_at s at width) ∷ paths_at s (path_end s at width) width (q - 1)
  paths_cons = first_here_of.first

  pub path_fits : at + width + number_at s at width * width ≤ length s
  path_fits = let f = first_here_of in omega (arith, f.path_inside, stand.inside)

  in_first : (v : ℕ) → Memᴰ v (ids_at s (at + width) width (number_at s at width)) → Memᴰ v (joined (paths_at s at width q))
  unfolding joined
  in_first v m = rw paths_cons (Memᴰ.append_left (joined (paths_at s (path_end s at width) width (q - 1))) m)

  in_later : (v : ℕ) → Memᴰ v (joined (paths_at s (path_end s at width) width (q - 1))) → Memᴰ v (joined (paths_at s at width q))
  unfolding joined
  in_later v m = rw paths_cons (Memᴰ.append_right (ids_at s (at + width) width (number_at s at width)) m)

  first_some : 1 ≤ number_at s at width
  first_some = first_here_of.some

  paths_later : PathsStand nodes s (path_end s at width) width (q - 1)
  paths_later =
      record {
        narrow = stand.narrow;
        end = stand.end;
        inside = stand.inside;
        used = first_here_of.used;
        filled = first_here_of.filled;
        below = λ v m. stand.below v (in_later v m);
      }

-- The state of the check before the path at place `at`; it started at place at₀ with roles₀.
pub record Passing (fanins : List ℕ) (inputs : ℕ) (s : List ℕ) (at₀ width q₀ : ℕ) (roles₀ : List ℕ) (at q : ℕ) (roles : List ℕ) : Type 0 where
  pub nodes : ℕ
  pub room : PathRoom nodes fanins roles
  pub stand : PathsStand nodes s at width q
  pub answer : are_paths fanins (ends_in roles₀) inputs (area_in roles) (paths_at s at width q)
      ≡ are_paths fanins (ends_in roles₀) inputs (area_in roles₀) (paths_at s at₀ width q₀)
  pub ends_still : ends_in roles ≡ ends_in roles₀
  pub beyond : (n : ℕ) → Below n (joined (paths_at s at₀ width q₀)) → Beyond n roles₀ roles
  pub later : (v : ℕ) → Memᴰ v (joined (paths_at s at width q)) → Memᴰ v (joined (paths_at s at₀ width q₀))
  pub long : length roles ≡ length roles₀

module _ {fanins : List ℕ} {inputs : ℕ} {s : List ℕ} {at₀ width q₀ : ℕ} {roles₀ : List ℕ} where
  module _ {at q : ℕ} {roles : List ℕ} (passing : Passing fanins inputs s at₀ width q₀ roles₀ at q roles) where
    module _ (some : 1 ≤ q) {size : ℕ} (read : size ≡ number_at s at width) where
      pub path_asked : PathAsked fanins s (at + width) width size roles
      path_asked =
          record {
            nodes = passing.nodes;
            room = passing.room;
            stand = record {
              narrow = passing.stand.narrow;
              inside = rw read (path_fits passing.stand some);
              below = λ v m. passing.stand.below v (in_first passing.stand some v (rw read at m));
            };
            some = rw read (first_some passing.stand some);
          }

      pub next_inside : at + width + size * width ≤ length s
      next_inside = rw read (path_fits passing.stand some)

      -- the first path, and the others
      abbrev first_ids : List ℕ
      first_ids = ids_at s (at + width) width size

      abbrev others : List (List ℕ)
      others = paths_at s (at + width + size * width) width (q - 1)

      here : paths_at s at width q ≡ first_ids ∷ others
      here = rw read (paths_cons passing.stand some)

      passes_here : are_paths fanins (ends_in roles₀) inputs (area_in roles) (paths_at s at width q)
          ≡ (is_path fanins (ends_in roles₀) inputs (area_in roles) first_ids && are_paths fanins (ends_in roles₀) inputs (after_path (area_in roles) first_ids) others)
      unfolding are_paths
      passes_here = rw here

      module _ {r : Bool} {roles' : List ℕ} (size-kept : length roles' ≡ length roles)
          (told : PathTold (is_path fanins (ends_in roles) inputs (area_in roles) first_ids) first_ids roles r roles') where
        told_here : r ≡ is_path fanins (ends_in roles₀) inputs (area_in roles) first_ids
        told_here = told.reply ∙ ap (λ (ends : List ℕ). is_path fanins ends inputs (area_in roles) first_ids) passing.ends_still

        -- the answer, if this path passes
        answer_by : {b : Bool} → r ≡ b →
            (b && are_paths fanins (ends_in roles₀) inputs (after_path (area_in roles) first_ids) others)
            ≡ are_paths fanins (ends_in roles₀) inputs (area_in roles₀) (paths_at s at₀ width q₀)
        answer_by e =
            ap (λ (b : Bool). b && are_paths fanins (ends_in roles₀) inputs (after_path (area_in roles) first_ids) others) (sym e ∙ told_here)
            ∙ sym passes_here
            ∙ passing.answer

        still_beyond : (n : ℕ) → Below n (joined (paths_at s at₀ width q₀)) → Beyond n roles₀ roles'
        still_beyond n below =
            beyond_then (passing.beyond n below)
            (told.beyond n (λ v m. below v (passing.later v (in_first passing.stand some v (rw read at m)))))

        pub passing_stops : r ≡ false →
            PathsTold (are_paths fanins (ends_in roles₀) inputs (area_in roles₀) (paths_at s at₀ width q₀)) (joined (paths_at s at₀ width q₀)) roles₀ false roles'
        passing_stops stops = record { reply = answer_by stops; beyond = still_beyond }

        pub passing_more : r ≡ true → Passing fanins inputs s at₀ width q₀ roles₀ (at + width + size * width) (q - 1) roles'
        passing_more passes =
            let rest = paths_later passing.stand some in
            record {
              nodes = passing.nodes;
              room = room_after passing.room size-kept;
              stand = rw read rest;
              answer = ap (λ (free : List ℕ). are_paths fanins (ends_in roles₀) inputs free others) (told.taken passes) ∙ answer_by passes;
              ends_still = told.ends_still ∙ passing.ends_still;
              beyond = still_beyond;
              later = λ v m. passing.later v (in_later passing.stand some v (rw read at m));
              long = size-kept ∙ passing.long;
            }

    pub passing_ends : q ≡ 0 →
        PathsTold (are_paths fanins (ends_in roles₀) inputs (area_in roles₀) (paths_at s at₀ width q₀)) (joined (paths_at s at₀ width q₀)) roles₀ true roles
    unfolding are_paths paths_at
    passing_ends none =
        let paths_none : paths_at s at width q ≡ [] = rw none in
        record {
          reply = ap (are_paths fanins (ends_in roles₀) inputs (area_in roles)) (sym paths_none) ∙ passing.answer;
          beyond = passing.beyond;
        }
