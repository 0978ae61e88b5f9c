-- What is found in a sheet of sound shape: each line at its place, and the LUTs from any place on.
use Rattle.std.specs.Prelude.{Ok, Err}
use Prim.Native.Nat.{ℕ, zero, suc, ◌+◌, ◌-◌, ◌^◌, ◌<◌, ◌≤◌}
use native.Mathlib.Omega.{arith}
use mathlib.Core.Path.{◌≡◌, refl, ap, sym, ◌∙◌}
use mathlib.Core.Bool.{Bool, true, false, ◌||◌, cond}
use mathlib.Core.List.{List, ◌∷◌}
use borrow.Author.Tests.{lt-ltb, le-ltb, eq-eqb, ne_eqb, ltb-false, leb-false}
use lib.ListN.{length, get_or}
use lib.Dec.{ltb, leb}
use Rattle.drawing.specs.paper.Bytes.{number_at, value_at}
use Rattle.sheet.specs.declared.Fault.TheVariants.{Extra}
use Rattle.sheet.specs.paper.Shape.{Ruling}
use Rattle.sheet.specs.paper.Sheet.{Line, Lut, Sheet, no_line}
use Rattle.sheet.specs.paper.Shape.{Due, end_at, depth_at, count_at, head_ruling, line_at, line_ruling, lut_at, lut_ruling}
use Rattle.sheet.specs.paper.Shape.{leaves_range, Fields, and_field, lines_from, luts_from, after_head, after_lines, after_luts}
use Rattle.sheet.specs.paper.Shape.{reading}
use Rattle.sheet.specs.paper.Rules.{line_of_node, is_listed, leaves_listed, table_listed}
use Rattle.shaping.specs.Loading.{start_of, place_of, LineArrays, LineRoom, LinePut, LinesFilled, none_listed, lut_listed, listed_at, LutArrays, LutsFilled}
use Rattle.shaping.specs.Turns.{LineReady, next_root, LutsLeft}
use Rattle.shaping.proofs.Rulings.{not_sound}
use Rattle.shaping.proofs.Values.{or_none, line_parts}
use Rattle.shaping.proofs.FieldRuns.{luts_step, line_kept, line_end, lut_kept, lut_whole}
use Rattle.shaping.proofs.Filling.{lines_begin, line_room_lem, lines_put}

-- a sound run's first field is sound, and so is the rest
module _ {A : Type 0} where
  pub first_sound : (r : Ruling) (a : A) (at : ℕ) (rest : Fields A) → (and_field r a at rest).ruling ≡ Ok tt → r ≡ Ok tt
  first_sound (Ok tt) a at rest e = refl
  first_sound (Err f) a at rest e = absurd (not_sound e)

  pub rest_sound : (r : Ruling) (a : A) (at : ℕ) (rest : Fields A) → (and_field r a at rest).ruling ≡ Ok tt → rest.ruling ≡ Ok tt
  rest_sound (Ok tt) a at rest e = e
  rest_sound (Err f) a at rest e = absurd (not_sound e)

  pub all_read : (r : Ruling) (a : A) (at : ℕ) (rest : Fields A) → (and_field r a at rest).ruling ≡ Ok tt → (and_field r a at rest).read ≡ a ∷ rest.read
  all_read (Ok tt) a at rest e = refl
  all_read (Err f) a at rest e = absurd (not_sound e)

  pub all_next : (r : Ruling) (a : A) (at : ℕ) (rest : Fields A) → (and_field r a at rest).ruling ≡ Ok tt → (and_field r a at rest).next ≡ rest.next
  all_next (Ok tt) a at rest e = refl
  all_next (Err f) a at rest e = absurd (not_sound e)

module _ (s : List ℕ) where
  pub start_more : (at i : ℕ) → start_of s at (suc i) ≡ end_at s (start_of s at i)
  unfolding start_of
  start_more at zero = refl
  start_more at (suc i) = start_more (end_at s at) i

module _ (due : Due) (s : List ℕ) where
  abbrev pub the_lines : Fields Line
  the_lines = lines_from due s (due.nodes - due.inputs) (end_at s 0)

  abbrev pub the_luts : Fields Lut
  the_luts = luts_from due s (count_at due s) due.inputs the_lines.next

  -- A sheet of sound shape: its parts are sound, and the sheet is what they read.
  pub record Whole : Type 0 where
    pub head : head_ruling due s ≡ Ok tt
    pub lines : the_lines.ruling ≡ Ok tt
    pub luts : the_luts.ruling ≡ Ok tt
    pub ended : length s ≤ the_luts.next
    pub sheet : (reading due s).sheet ≡ record { depth = depth_at due s; lines = the_lines.read; luts = the_luts.read }

  luts_whole : (r : Ruling) → (after_luts due s r the_lines the_luts).ruling ≡ Ok tt → r ≡ Ok tt
  luts_whole (Ok tt) e = refl
  luts_whole (Err f) e = absurd (not_sound e)

  no_extra : (more : Bool) → ◌≡◌ {A = Ruling} (cond more (Err (Extra the_luts.next)) (Ok tt)) (Ok tt) → more ≡ false
  no_extra true e = absurd (not_sound e)
  no_extra false e = refl

  luts_ended : (r : Ruling) → (after_luts due s r the_lines the_luts).ruling ≡ Ok tt → length s ≤ the_luts.next
  luts_ended (Ok tt) e = ltb-false the_luts.next (length s) (no_extra (ltb the_luts.next (length s)) e)
  luts_ended (Err f) e = absurd (not_sound e)

  luts_sheet : (r : Ruling) → (after_luts due s r the_lines the_luts).sheet ≡ record { depth = depth_at due s; lines = the_lines.read; luts = the_luts.read }
  luts_sheet (Ok tt) = refl
  luts_sheet (Err f) = refl

  lines_whole : (r : Ruling) → (after_lines due s r the_lines).ruling ≡ Ok tt →
      (r ≡ Ok tt) × (the_luts.ruling ≡ Ok tt) × (length s ≤ the_luts.next)
      × ((after_lines due s r the_lines).sheet ≡ record { depth = depth_at due s; lines = the_lines.read; luts = the_luts.read })
  lines_whole (Ok tt) e = (refl, luts_whole the_luts.ruling e, luts_ended the_luts.ruling e, luts_sheet the_luts.ruling)
  lines_whole (Err f) e = absurd (not_sound e)

  head_whole : (r : Ruling) → (after_head due s r).ruling ≡ Ok tt →
      (r ≡ Ok tt) × (the_lines.ruling ≡ Ok tt) × (the_luts.ruling ≡ Ok tt) × (length s ≤ the_luts.next)
      × ((after_head due s r).sheet ≡ record { depth = depth_at due s; lines = the_lines.read; luts = the_luts.read })
  head_whole (Ok tt) e = let more = lines_whole the_lines.ruling e in (refl, more.0, more.1, more.2, more.3)
  head_whole (Err f) e = absurd (not_sound e)

  pub whole : (reading due s).ruling ≡ Ok tt → Whole
  unfolding reading
  whole e =
      let all = head_whole (head_ruling due s) e in
      record { head = all.0; lines = all.1; luts = all.2; ended = all.3; sheet = all.4 }

  -- each line of a sound run stands at its place
  pub record LineFound (lines : List Line) (i at : ℕ) : Type 0 where
    pub ruled : line_ruling due s at ≡ Ok tt
    pub read : get_or lines i no_line ≡ line_at due s at

  pub line_found : (gates at i : ℕ) → (lines_from due s gates at).ruling ≡ Ok tt → i < gates → LineFound (lines_from due s gates at).read i (start_of s at i)
  unfolding lines_from start_of
  line_found zero at i sound inside = absurd (omega (arith, inside))
  line_found (suc gates) at zero sound inside =
      let rest = lines_from due s gates (end_at s at) in
      record {
        ruled = first_sound (line_ruling due s at) (line_at due s at) at rest sound;
        read = ap (λ (l : List Line). get_or l 0 no_line) (all_read (line_ruling due s at) (line_at due s at) at rest sound);
      }
  line_found (suc gates) at (suc i) sound inside =
      let rest = lines_from due s gates (end_at s at) in
      let later = line_found gates (end_at s at) i (rest_sound (line_ruling due s at) (line_at due s at) at rest sound) (omega (arith, inside)) in
      record {
        ruled = later.ruled;
        read = ap (λ (l : List Line). get_or l (suc i) no_line) (all_read (line_ruling due s at) (line_at due s at) at rest sound) ∙ later.read;
      }

  pub lines_end : (gates at : ℕ) → (lines_from due s gates at).ruling ≡ Ok tt → (lines_from due s gates at).next ≡ start_of s at gates
  unfolding lines_from start_of
  lines_end zero at sound = refl
  lines_end (suc gates) at sound =
      let rest = lines_from due s gates (end_at s at) in
      all_next (line_ruling due s at) (line_at due s at) at rest sound
      ∙ lines_end gates (end_at s at) (rest_sound (line_ruling due s at) (line_at due s at) at rest sound)

  -- the line and the place of each node
  pub input_line : (lines : List Line) (v : ℕ) → v < due.inputs → no_line ≡ line_of_node due.inputs lines v
  unfolding line_of_node
  input_line lines v less = rw (lt-ltb v due.inputs less)

  pub input_place : (v : ℕ) → v < due.inputs → 0 ≡ place_of due.inputs s v
  unfolding place_of
  input_place v less = rw (lt-ltb v due.inputs less)

  pub gate_place : (v : ℕ) → due.inputs ≤ v → start_of s (end_at s 0) (v - due.inputs) ≡ place_of due.inputs s v
  unfolding place_of
  gate_place v more = rw (le-ltb v due.inputs more)

  -- the sheet's line of a gate
  pub record GateFound (v at : ℕ) : Type 0 where
    pub ruled : line_ruling due s at ≡ Ok tt
    pub line : line_at due s at ≡ line_of_node due.inputs (reading due s).sheet.lines v

  pub gate_found : Whole → (v : ℕ) → due.inputs ≤ v → v < due.nodes → GateFound v (start_of s (end_at s 0) (v - due.inputs))
  unfolding line_of_node
  gate_found all v more less =
      let i = v - due.inputs in
      let found : LineFound the_lines.read i (start_of s (end_at s 0) i) =
      line_found (due.nodes - due.inputs) (end_at s 0) i all.lines (omega (arith, more, less)) in
      record {
        ruled = found.ruled;
        line =
            rw (le-ltb v due.inputs more)
            (sym found.read ∙ ap (λ (sheet : Sheet). get_or sheet.lines i no_line) (sym all.sheet));
      }

  -- LUTs
  module _ (left least at : ℕ) (some : 0 < left) (sound : (luts_from due s left least at).ruling ≡ Ok tt) where
    behind : Fields Lut
    behind = luts_from due s (left - 1) ((lut_at due s at).root + 1) (end_at s at)

    as_step : (and_field (lut_ruling due s least at) (lut_at due s at) at behind).ruling ≡ Ok tt
    unfolding behind
    as_step = ap (λ (l : Fields Lut). l.ruling) (sym (luts_step due s left least at some)) ∙ sound

    pub lut_ruled : lut_ruling due s least at ≡ Ok tt
    lut_ruled = first_sound (lut_ruling due s least at) (lut_at due s at) at behind as_step

    pub luts_behind : (luts_from due s (left - 1) ((lut_at due s at).root + 1) (end_at s at)).ruling ≡ Ok tt
    unfolding behind
    luts_behind = rest_sound (lut_ruling due s least at) (lut_at due s at) at behind as_step

    pub luts_read : (luts_from due s left least at).read ≡ lut_at due s at ∷ (luts_from due s (left - 1) ((lut_at due s at).root + 1) (end_at s at)).read
    unfolding behind
    luts_read =
        ap (λ (l : Fields Lut). l.read) (luts_step due s left least at some)
        ∙ all_read (lut_ruling due s least at) (lut_at due s at) at behind as_step

    abbrev root : ℕ
    root = (lut_at due s at).root

    root_ranged : (ltb root least ≡ false) × (leb due.nodes root ≡ false)
    root_ranged =
        let leaves = leaves_range due (lut_at due s at).leaves in
        let both = or_none (ltb root least) (leb due.nodes root || leaves) (lut_kept due s least at lut_ruled).ranged in
        (both.0, (or_none (leb due.nodes root) leaves both.1).0)

    -- "not above the root before"
    pub root_least : least ≤ (lut_at due s at).root
    root_least = ltb-false root least root_ranged.0

    -- "id of n or more"
    pub root_node : (lut_at due s at).root < due.nodes
    root_node = leb-false due.nodes root root_ranged.1

-- what is listed, one LUT at a time
listed_here : (lut : Lut) (luts : List Lut) (u : ℕ) → lut.root ≡ u → listed_at (lut ∷ luts) u ≡ lut_listed lut
unfolding is_listed leaves_listed table_listed
listed_here lut luts u e = rw (eq-eqb lut.root u e)

listed_past : (lut : Lut) (luts : List Lut) (u : ℕ) → (lut.root ≡ u → ⊥) → listed_at (lut ∷ luts) u ≡ listed_at luts u
unfolding is_listed leaves_listed table_listed
listed_past lut luts u e = rw (ne_eqb lut.root u e)

module _ (due : Due) (s : List ℕ) where
  -- nothing is listed below the next root
  pub listed_none : (left least at u : ℕ) → (luts_from due s left least at).ruling ≡ Ok tt → (0 < left → u < (lut_at due s at).root) →
      listed_at (luts_from due s left least at).read u ≡ none_listed
  unfolding luts_from is_listed leaves_listed table_listed
  listed_none zero least at u sound low = refl
  listed_none (suc left) least at u sound low =
      let lut = lut_at due s at in
      let rest = luts_from due s left (lut.root + 1) (end_at s at) in
      let later = rest_sound (lut_ruling due s least at) lut at rest sound in
      ap (λ (l : List Lut). listed_at l u) (all_read (lut_ruling due s least at) lut at rest sound)
      ∙ listed_past lut rest.read u (λ e. omega (arith, e, low (omega arith)))
      ∙ listed_none left (lut.root + 1) (end_at s at) u later
      (λ some. omega (arith, root_least due s left (lut.root + 1) (end_at s at) some later, low (omega arith)))

  module _ {luts : List Lut} {v left at : ℕ} (l : LutsLeft due s luts v left at) where
    pub next_inside : 0 < left → value_at at + due.form.width ≤ length s
    next_inside some = omega (arith, lut_whole due s l.least at (lut_ruled due s left l.least at some l.sound))

    -- node v is not the next root
    module _ {r : ℕ} (next : r ≡ next_root due s at left) (other : r ≡ v → ⊥) where
      next_higher : 0 < left → v < (lut_at due s at).root
      next_higher some =
          let root : r ≡ (lut_at due s at).root = next ∙ ap (λ (b : Bool). cond b due.nodes (number_at s (value_at at) due.form.width)) (ne_eqb left 0 (λ e. omega (arith, e, some))) in
          omega (arith, l.low some, root, other)

      pub none_here : none_listed ≡ listed_at luts v
      none_here = sym (l.same v (omega arith) ∙ listed_none left l.least at v l.sound next_higher)

      pub left_past : LutsLeft due s luts (v + 1) left at
      left_past =
          record {
            least = l.least;
            low = λ some. omega (arith, next_higher some);
            sound = l.sound;
            same = λ u more. l.same u (omega (arith, more));
          }

    -- node v is the next root
    module _ {r : ℕ} (next : r ≡ next_root due s at left) (here : r ≡ v) (node : v < due.nodes) where
      pub some_left : 0 < left
      some_left = by left refl
        where
          by : (n : ℕ) → left ≡ n → 0 < left
          by zero e =
              let last : r ≡ due.nodes =
              next
              ∙ ap (λ (b : Bool). cond b due.nodes (number_at s (value_at at) due.form.width)) (eq-eqb left 0 e) in
              absurd (omega (arith, node, here, last))
          by (suc n) e = omega (arith, e)

      rooted : (lut_at due s at).root ≡ v
      rooted =
          sym (next ∙ ap (λ (b : Bool). cond b due.nodes (number_at s (value_at at) due.form.width)) (ne_eqb left 0 (λ e. omega (arith, e, some_left)))) ∙ here

      pub ruled_here : lut_ruling due s l.least at ≡ Ok tt
      ruled_here = lut_ruled due s left l.least at some_left l.sound

      pub lut_here : lut_listed (lut_at due s at) ≡ listed_at luts v
      lut_here =
          sym
          (l.same v (omega arith)
          ∙ ap (λ (x : List Lut). listed_at x v) (luts_read due s left l.least at some_left l.sound)
          ∙ listed_here (lut_at due s at) (luts_from due s (left - 1) ((lut_at due s at).root + 1) (end_at s at)).read v rooted)

      pub left_behind : {to : ℕ} → to ≡ end_at s at → LutsLeft due s luts (v + 1) (left - 1) to
      left_behind {to} e =
          rw e
          (record {
            least = (lut_at due s at).root + 1;
            low =
                λ some. omega (
                  arith,
                  rooted,
                  root_least due s (left - 1) ((lut_at due s at).root + 1) (end_at s at) some (luts_behind due s left l.least at some_left l.sound),
                );
            sound = luts_behind due s left l.least at some_left l.sound;
            same =
                λ u more.
                l.same u (omega (arith, more))
                ∙ ap (λ (x : List Lut). listed_at x u) (luts_read due s left l.least at some_left l.sound)
                ∙ listed_past (lut_at due s at) (luts_from due s (left - 1) ((lut_at due s at).root + 1) (end_at s at)).read u
                (λ e. omega (arith, e, more, rooted));
          })

  -- all LUTs are left at first
  pub left_first : Whole due s → {start count : ℕ} → start ≡ start_of s (end_at s 0) (due.nodes - due.inputs) → count ≡ count_at due s →
      LutsLeft due s (reading due s).sheet.luts 0 count start
  left_first all {start} {count} begun counted =
      let at : start ≡ (the_lines due s).next = begun ∙ sym (lines_end due s (due.nodes - due.inputs) (end_at s 0) all.lines) in
      rw (at, counted)
      (record {
        least = due.inputs;
        low = λ some. omega arith;
        sound = all.luts;
        same = λ u more. ap (λ (sheet : Sheet). listed_at sheet.luts u) all.sheet;
      })

-- what the loop over the nodes keeps of the lines
pub record LinesLoading (due : Due) (s : List ℕ) (before after : LineArrays) (v at : ℕ) : Type 0 where
  pub most : v ≤ due.nodes
  pub reached : at ≡ start_of s (end_at s 0) (v - due.inputs)
  pub filled : LinesFilled due.inputs s (reading due s).sheet.lines before 0 v after

module _ {due : Due} {s : List ℕ} {before between : LineArrays} {v at : ℕ} (l : LinesLoading due s before between v at) where
  -- an input's turn: no field is passed
  pub input_more : {after : LineArrays} → due.inputs ≤ due.nodes → v < due.inputs → LineRoom due.nodes before →
      LinePut no_line 0 v between after → LinesLoading due s before after (v + 1) at
  input_more gates less room put =
      let i : v - due.inputs ≡ v + 1 - due.inputs = omega (arith, less) in
      record {
        most = omega (arith, less, gates);
        reached = l.reached ∙ ap (start_of s (end_at s 0)) i;
        filled =
            lines_put (omega arith) (line_room_lem (v + 1) (omega (arith, less, gates)) room) l.filled put
            (input_line due s (reading due s).sheet.lines v less) (input_place due s v less);
      }

  -- a gate's turn
  module _ (all : Whole due s) (least : due.inputs ≤ v) (less : v < due.nodes) where
    gate_here : GateFound due s v at
    gate_here = rw l.reached (gate_found due s all v least less)

    pub gate_end : end_at s at ≤ length s
    gate_end = line_end due s at gate_here.ruled

    pub gate_ready : length s < 2 ^ 32 → LineReady due s at
    gate_ready short =
        let ruled = gate_here.ruled in
        record {
          whole = omega (arith, (line_parts due s at (line_kept due s at ruled).right).paths, line_end due s at ruled);
          short = short;
        }

    pub gate_more : {after : LineArrays} {next : ℕ} → LineRoom due.nodes before → LinePut (line_at due s at) at v between after →
        next ≡ end_at s at → LinesLoading due s before after (v + 1) next
    gate_more room put to =
        let i : v + 1 - due.inputs ≡ suc (v - due.inputs) = omega (arith, least) in
        record {
          most = omega (arith, less);
          reached = to ∙ ap (end_at s) l.reached ∙ sym (start_more s (end_at s 0) (v - due.inputs)) ∙ ap (start_of s (end_at s 0)) (sym i);
          filled =
              lines_put (omega arith) (line_room_lem (v + 1) (omega (arith, less)) room) l.filled put gate_here.line
              (l.reached ∙ gate_place due s v least);
        }

-- what the loop over the nodes keeps of the LUTs
pub record LutsLoading (due : Due) (s : List ℕ) (before after : LutArrays) (v count at : ℕ) : Type 0 where
  pub most : v ≤ due.nodes
  pub left : LutsLeft due s (reading due s).sheet.luts v count at
  pub filled : LutsFilled (reading due s).sheet.luts before v after

module _ {due : Due} {s : List ℕ} where
  pub lines_loading : {a : LineArrays} {at : ℕ} → at ≡ end_at s 0 → LinesLoading due s a a 0 at
  unfolding start_of
  lines_loading {a} begun =
      let none : 0 ≡ 0 - due.inputs = omega arith in
      record { most = omega arith; reached = begun ∙ ap (start_of s (end_at s 0)) none; filled = lines_begin 0 a }
