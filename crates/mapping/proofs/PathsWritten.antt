-- Paths written one by one are the paths that stand in the links.
use Prim.Native.Nat.{ℕ, zero, suc, ◌+◌, ◌*◌, ◌-◌, ◌≤◌, ◌<◌}
use native.Mathlib.Numerals.{add-one}
use native.Mathlib.Omega.{arith}
use mathlib.Core.Path.{◌≡◌, refl, ap, sym, subst, ◌∙◌}
use mathlib.Core.List.{List, [], ◌∷◌, ◌++◌, map, flat_map}
use lib.ListN.{length, get_or, take, drop}
use lib.Seq.{sets, take-suc, take_all, split_at, length-sets}
use Rattle.storage.proofs.Stores.{stored_run}
use Rattle.flow.specs.Links.{next_in}
use Rattle.flow.specs.Paths.{onward, follow, paths_in, starts_in}
use Rattle.flow.specs.Reads.{PathRead}
use Rattle.flow.proofs.Listing.{read_keeps_paths}
use Rattle.sheet.specs.declared.Form.{Form}
use Rattle.sheet.specs.paper.Sheet.{line_of}
use Rattle.sheet.specs.paper.Encoding.{path_bytes, line_field}
use Rattle.sheet.specs.Writing.{Room, Written, Closed, line_begun}
use Rattle.sheet.proofs.Writes.{then, written_as, written_more, room_first, room_then}
use Rattle.sheet.proofs.Joins.{next_room, line_room_lem, line_written, line_ends}
use Rattle.mapping.specs.Lines.{PathAsked, PathsAsked}

-- a path has no more nodes than the drawing
follow_few : (next : ℕ → ℕ) (room v : ℕ) → length (follow next room v) ≤ room
unfolding follow
follow_few next zero v = omega arith
follow_few next (suc room) v = by (next v) (follow_few next room)
  where
    by : (c : ℕ) → ((u : ℕ) → length (follow next room u) ≤ room) → suc (length (onward c (follow next room))) ≤ suc room
    by zero few = omega arith
    by (suc zero) few = omega arith
    by (suc (suc g)) few = let more = few g in omega arith

pub path_few : (inputs nodes : ℕ) (links : List ℕ) (i : ℕ) → length (get_or (paths_in inputs nodes links) i []) ≤ nodes
unfolding paths_in
path_few inputs nodes links i = by (starts_in inputs nodes links) i
  where
    by : (starts : List ℕ) (j : ℕ) → length (get_or (map (follow (λ v. get_or (next_in nodes links) v 0) nodes) starts) j []) ≤ nodes
    by [] j = omega arith
    by (v ∷ starts) zero = follow_few (λ u. get_or (next_in nodes links) u 0) nodes v
    by (v ∷ starts) (suc j) = by starts j

module _ {width inputs nodes i : ℕ} {links sheet : List ℕ} {at : ℕ} (asked : PathAsked width inputs nodes i links sheet at)
    {r : ℕ} {links' : List ℕ} (read : PathRead inputs nodes links i r links') where
  path : List ℕ
  path = get_or (paths_in inputs nodes links) i []

  fits : 2 * nodes + length path ≤ length links
  unfolding path
  fits = omega (arith, path_few inputs nodes links i, asked.read.links_long)

  -- the ids that the path's reader stored
  here : take (2 * nodes + r - 2 * nodes) (drop (2 * nodes) links') ≡ path
  unfolding path
  here =
      ap (λ (m : ℕ). take m (drop (2 * nodes) links')) (omega arith)
      ∙ ap (λ (l : List ℕ). take r (drop (2 * nodes) l)) read.written
      ∙ ap (λ (m : ℕ). take m (drop (2 * nodes) (sets links (2 * nodes) path))) read.count
      ∙ stored_run links (2 * nodes) path fits

  pub links_size : length links' ≡ length links
  unfolding path
  links_size = ap length read.written ∙ length-sets links (2 * nodes) path

  pub path_inside : 2 * nodes + r ≤ length links'
  unfolding path
  path_inside = omega (arith, fits, read.count, links_size)

  pub path_room : Room sheet at (path_bytes width (take (2 * nodes + r - 2 * nodes) (drop (2 * nodes) links')))
  unfolding path
  path_room = rw here asked.room

  pub path_written : {after : List ℕ} {last : ℕ} → Written sheet at (path_bytes width (take (2 * nodes + r - 2 * nodes) (drop (2 * nodes) links'))) after last →
      Written sheet at (path_bytes width (get_or (paths_in inputs nodes links) i [])) after last
  unfolding path
  path_written w = written_as (ap (path_bytes width) here) w

  pub paths_stay : paths_in inputs nodes links' ≡ paths_in inputs nodes links
  unfolding path
  paths_stay = ap (paths_in inputs nodes) read.written ∙ read_keeps_paths nodes links path inputs

-- The first i paths are written, and all still stand in the links.
pub record PathsSoFar (width inputs nodes many : ℕ) (links₀ before : List ℕ) (at : ℕ) (links sheet : List ℕ) (to i : ℕ) : Type 0 where
  pub passed : i ≤ many
  pub size : length links ≡ length links₀
  pub stay : paths_in inputs nodes links ≡ paths_in inputs nodes links₀
  pub written : Written before at (flat_map (path_bytes width) (take i (paths_in inputs nodes links₀))) sheet to

module _ {width inputs nodes many : ℕ} {links₀ before : List ℕ} {at : ℕ} (asked : PathsAsked width inputs nodes many links₀ before at) where
  pub paths_none : PathsSoFar width inputs nodes many links₀ before at links₀ before at 0
  unfolding flat_map
  paths_none = record { passed = omega arith; size = refl; stay = refl; written = record { stored = refl; reached = omega arith } }

  module _ {links sheet : List ℕ} {to i : ℕ} (so_far : PathsSoFar width inputs nodes many links₀ before at links sheet to i) where
    paths : List (List ℕ)
    paths = paths_in inputs nodes links₀

    pub path_asked : i < many → PathAsked width inputs nodes i links sheet to
    unfolding paths
    path_asked low =
        let inside : i < length paths = omega (arith, asked.count) in
        let room : Room sheet to (path_bytes width (get_or paths i [])) =
        next_room (path_bytes width) [] (take i paths) (get_or paths i []) (drop (suc i) paths)
        (subst (λ (l : List (List ℕ)). Room before at (flat_map (path_bytes width) l)) (split_at paths i [] inside) asked.room) so_far.written in
        record {
          read = record {
            span = asked.read.span;
            small = asked.read.small;
            links_long = omega (arith, asked.read.links_long, so_far.size);
          };
          room = rw so_far.stay room;
        }

    pub paths_turn : {links' after : List ℕ} {last : ℕ} → i < many → length links' ≡ length links →
        paths_in inputs nodes links' ≡ paths_in inputs nodes links →
        Written sheet to (path_bytes width (get_or (paths_in inputs nodes links) i [])) after last →
        PathsSoFar width inputs nodes many links₀ before at links' after last (i + 1)
    unfolding paths
    paths_turn low size stay w =
        let inside : i < length paths = omega (arith, asked.count) in
        record {
          passed = omega arith;
          size = size ∙ so_far.size;
          stay = stay ∙ so_far.stay;
          written = written_as
              (ap (flat_map (path_bytes width)) (sym (take-suc paths i [] inside) ∙ ap (λ (m : ℕ). take m paths) (sym (add-one i))))
              (written_more (path_bytes width) [] (take i paths) (get_or paths i []) so_far.written
              (written_as (ap (λ (l : List (List ℕ)). path_bytes width (get_or l i [])) so_far.stay) w));
        }

    pub paths_all : many ≤ i → Written before at (flat_map (path_bytes width) (paths_in inputs nodes links₀)) sheet to
    unfolding paths
    paths_all done = written_as (ap (flat_map (path_bytes width)) (take_all i paths (omega (arith, asked.count)))) so_far.written

-- A line: its front, its paths, its length.
module _ (form : Form) (label : ℕ) (leaves : List ℕ) (paths : List (List ℕ)) (sheet : List ℕ) (at : ℕ)
    (room : Room sheet at (line_field form (line_of label leaves paths))) (many : ℕ) (count : length paths ≡ many) where
  whole : Room sheet at (line_begun form label leaves (length paths) ++ flat_map (path_bytes form.width) paths)
  whole = line_room_lem form label leaves paths sheet at room

  begun : line_begun form label leaves (length paths) ≡ line_begun form label leaves many
  begun = ap (line_begun form label leaves) count

  pub front_room : Room sheet at (line_begun form label leaves many)
  front_room =
      subst (Room sheet at) begun
      (room_first sheet at (line_begun form label leaves (length paths)) (flat_map (path_bytes form.width) paths) whole)

  module _ {middle : List ℕ} {next : ℕ} (front : Written sheet at (line_begun form label leaves many) middle next) where
    pub paths_room : Room middle next (flat_map (path_bytes form.width) paths)
    paths_room = room_then (written_as (sym begun) front) (flat_map (path_bytes form.width) paths) whole

    module _ {last : List ℕ} {to : ℕ} (rest : Written middle next (flat_map (path_bytes form.width) paths) last to) where
      pub line_ending : (at + 3 ≤ to) × (to ≤ length last)
      line_ending = line_ends form label leaves paths whole (then (written_as (sym begun) front) rest)

      pub line_done : {after : List ℕ} {r : ℕ} → Closed last at to after r → Written sheet at (line_field form (line_of label leaves paths)) after r
      line_done closed = line_written form label leaves paths (then (written_as (sym begun) front) rest) closed

-- no paths
pub none_written : (form : Form) (sheet : List ℕ) (at : ℕ) → Written sheet at (flat_map (path_bytes form.width) []) sheet at
unfolding flat_map
none_written form sheet at = record { stored = refl; reached = omega arith }
