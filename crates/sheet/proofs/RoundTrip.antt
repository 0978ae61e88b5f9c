-- What `encode` gives for a sheet in shape reads back as that sheet, field by field.
use Rattle.std.specs.Prelude.{Ok, Err}
use Prim.Native.Nat.{ℕ, ◌+◌, ◌*◌, ◌-◌, ◌^◌, ◌<◌}
use native.Mathlib.Omega.{arith}
use mathlib.Core.Path.{◌≡◌, ap, sym, ◌∙◌}
use mathlib.Core.Bool.{true, false, not, cond}
use mathlib.Core.List.{List, [], ◌∷◌, ◌++◌, flat_map, append-nil}
use borrow.Author.Tests.{le-ltb, eq-eqb}
use lib.ListN.{length, length-append}
use lib.Dec.{ltb, eqb}
use Rattle.drawing.specs.paper.Bytes.{number_at, length_at, value_at}
use Rattle.sheet.specs.declared.Fault.TheVariants.{Extra}
use Rattle.sheet.specs.paper.Shape.{Ruling}
use Rattle.sheet.specs.paper.Sheet.{Line, Lut, Sheet, line_of, lut_of}
use Rattle.sheet.specs.paper.Encoding.{digits, byte, leaves_bytes, path_bytes, head_field, line_value, line_field, lut_value, lut_field, encode}
use Rattle.sheet.specs.paper.Shape.{Due, end_at, paths_at, paths_use, head_range, line_range, lut_range, depth_at}
use Rattle.sheet.specs.Shape.{Below}
use Rattle.sheet.specs.paper.Shape.{count_at, head_ruling, leaves_at, leaves_end, line_cut, line_paths, line_at}
use Rattle.sheet.specs.paper.Shape.{line_length_wrong, line_ruling, lut_cut, lut_at, lut_length_wrong, lut_ruling, Fields}
use Rattle.sheet.specs.paper.Shape.{and_field, lines_from, luts_from, after_head, after_lines, after_luts, reading}
use Rattle.sheet.specs.Shape.{LineShaped, LutShaped, LinesShaped, LutsShaped, Shaped}
use Rattle.sheet.proofs.Numbers.{length_digits}
use Rattle.sheet.proofs.Lengths.{length_three, length_leaves, length_lut_value}
use Rattle.sheet.proofs.Standing.{Stands, stands_first, stands_then, number_stands, counted_stand, PathsStand, paths_stand, FieldStands, field_stands, field_sound}

module _ (due : Due) (s : List ℕ) where
  -- leaves behind their count
  record LeavesStand (at : ℕ) (leaves : List ℕ) : Type 0 where
    read : leaves_at due s at ≡ leaves
    end : leaves_end due s at ≡ at + length (leaves_bytes due.form.width leaves)

  leaves_stand : (at : ℕ) (leaves : List ℕ) → length leaves < 256 → Below (256 ^ due.form.width) leaves →
      Stands s at (leaves_bytes due.form.width leaves) → LeavesStand at leaves
  leaves_stand at leaves few below st =
      let both = counted_stand s at 1 due.form.width leaves few below st in
      record {
        read = both.1;
        end = omega (arith, length_leaves due.form.width leaves, ap (λ (n : ℕ). n * due.form.width) both.0);
      }

  -- a field of its kind stands at a place: what is read there, its ruling, and where it ends
  record LineStands (at : ℕ) (line : Line) : Type 0 where
    read : line_at due s at ≡ line
    ruled : line_ruling due s at ≡ Ok tt
    end : end_at s at ≡ at + length (line_field due.form line)

  line_stands : (at : ℕ) (line : Line) → LineShaped due line → Stands s at (line_field due.form line) → LineStands at line
  unfolding line_ruling
  line_stands at line shaped st =
      let width = due.form.width in
      let label = digits width line.label in
      let leaves = leaves_bytes width line.leaves in
      let q = length line.paths in
      let paths = flat_map (path_bytes width) line.paths in
      let f : FieldStands s at due.form.line (line_value due.form line) =
      field_stands s at due.form.line (line_value due.form line) shaped.whole st in
      let front : Stands s (value_at at) (label ++ leaves ++ byte q) = stands_first (label ++ leaves ++ byte q) paths f.stands in
      let two : Stands s (value_at at) (label ++ leaves) = stands_first (label ++ leaves) (byte q) front in
      let labelled = number_stands width line.label shaped.label (stands_first label leaves two) in
      let cut : LeavesStand (line_cut due s at) line.leaves =
      leaves_stand (line_cut due s at) line.leaves shaped.few shaped.leaves
      (stands_then label leaves (ap (λ (n : ℕ). value_at at + n) (length_digits width line.label)) two) in
      let q_at : value_at at + length (label ++ leaves) ≡ line_paths due s at =
      omega (arith, length-append label leaves, length_digits width line.label, cut.end) in
      let counted : number_at s (line_paths due s at) 1 ≡ q = number_stands 1 q shaped.some (stands_then (label ++ leaves) (byte q) q_at front) in
      let paths_at_lem : value_at at + length (label ++ leaves ++ byte q) ≡ line_paths due s at + 1 =
      omega (arith, length-append (label ++ leaves) (byte q), length_digits 1 q, q_at) in
      let all : PathsStand s (line_paths due s at + 1) width line.paths =
      paths_stand s (line_paths due s at + 1) width line.paths shaped.lengths shaped.ids
      (stands_then (label ++ leaves ++ byte q) paths paths_at_lem f.stands) in
      let ends : end_at s at ≡ line_paths due s at + 1 + length paths =
      omega (arith, f.long, length-append (label ++ leaves ++ byte q) paths, paths_at_lem) in
      let read-paths : paths_at s (line_paths due s at + 1) width (number_at s (line_paths due s at) 1) ≡ line.paths =
      ap (paths_at s (line_paths due s at + 1) width) counted ∙ all.read in
      let read : line_at due s at ≡ line = λ i. line_of (labelled i) (cut.read i) (read-paths i) in
      let used : paths_use s (line_paths due s at + 1) width (number_at s (line_paths due s at) 1) (end_at s at) ≡ true =
      ap (λ (n : ℕ). paths_use s (line_paths due s at + 1) width n (end_at s at)) counted
      ∙ ap (paths_use s (line_paths due s at + 1) width q) ends
      ∙ all.used in
      let right : line_length_wrong due s at ≡ false =
      rw
      (le-ltb (end_at s at) (line_cut due s at + 1) (omega (arith, ends)), le-ltb (end_at s at) (line_paths due s at + 1) (omega (arith, ends)), used) in
      record {
        read = read;
        ruled = field_sound f right (ap (line_range due) read ∙ shaped.in_range);
        end = f.end;
      }

  record LutStands (least at : ℕ) (lut : Lut) : Type 0 where
    read : lut_at due s at ≡ lut
    ruled : lut_ruling due s least at ≡ Ok tt
    end : end_at s at ≡ at + length (lut_field due.form lut)

  lut_stands : (least at : ℕ) (lut : Lut) → LutShaped due least lut → Stands s at (lut_field due.form lut) → LutStands least at lut
  unfolding lut_ruling
  lut_stands least at lut shaped st =
      let width = due.form.width in
      let root = digits width lut.root in
      let leaves = leaves_bytes width lut.leaves in
      let table = digits 8 lut.table in
      let f : FieldStands s at due.form.lut (lut_value due.form lut) =
      field_stands s at due.form.lut (lut_value due.form lut) (omega (arith, length_lut_value due.form lut, shaped.whole)) st in
      let two : Stands s (value_at at) (root ++ leaves) = stands_first (root ++ leaves) table f.stands in
      let rooted = number_stands width lut.root shaped.root (stands_first root leaves two) in
      let cut : LeavesStand (lut_cut due s at) lut.leaves =
      leaves_stand (lut_cut due s at) lut.leaves shaped.few shaped.leaves
      (stands_then root leaves (ap (λ (n : ℕ). value_at at + n) (length_digits width lut.root)) two) in
      let table_at : value_at at + length (root ++ leaves) ≡ leaves_end due s (lut_cut due s at) =
      omega (arith, length-append root leaves, length_digits width lut.root, cut.end) in
      let rows = number_stands 8 lut.table shaped.table (stands_then (root ++ leaves) table table_at f.stands) in
      let ends : leaves_end due s (lut_cut due s at) + 8 ≡ end_at s at =
      omega (arith, f.long, length-append (root ++ leaves) table, length_digits 8 lut.table, table_at) in
      let read : lut_at due s at ≡ lut = λ i. lut_of (rooted i) (cut.read i) (rows i) in
      let right : lut_length_wrong due s at ≡ false =
      rw
      (le-ltb (end_at s at) (lut_cut due s at + 1) (omega (arith, ends)), eq-eqb (leaves_end due s (lut_cut due s at) + 8) (end_at s at) ends) in
      record {
        read = read;
        ruled = field_sound f right (ap (lut_range due least) read ∙ shaped.in_range);
        end = f.end;
      }

  record HeadStands (depth luts : ℕ) : Type 0 where
    deep : depth_at due s ≡ depth
    counted : count_at due s ≡ luts
    ruled : head_ruling due s ≡ Ok tt
    end : end_at s 0 ≡ length (head_field due.form depth luts)

  head_stands : (depth luts : ℕ) → head_range due 1 depth luts ≡ false → depth < 256 ^ due.form.width → luts < 256 ^ due.form.width →
      1 + due.form.width + due.form.width < 256 ^ 2 → Stands s 0 (head_field due.form depth luts) → HeadStands depth luts
  unfolding head_ruling
  head_stands depth luts in_range small few narrow st =
      let width = due.form.width in
      let deep = digits width depth in
      let count = digits width luts in
      let size : length (byte 1 ++ deep ++ count) ≡ 1 + width + width =
      omega (arith, length_three (byte 1) deep count, length_digits 1 1, length_digits width depth, length_digits width luts) in
      let f : FieldStands s 0 due.form.head (byte 1 ++ deep ++ count) =
      field_stands s 0 due.form.head (byte 1 ++ deep ++ count) (omega (arith, size, narrow)) st in
      let two : Stands s 3 (byte 1 ++ deep) = stands_first (byte 1 ++ deep) count f.stands in
      let version : number_at s 3 1 ≡ 1 = number_stands 1 1 (omega arith) (stands_first (byte 1) deep two) in
      let deep-read : depth_at due s ≡ depth =
      number_stands width depth small (stands_then (byte 1) deep (omega (arith, length_digits 1 1)) two) in
      let count-read : count_at due s ≡ luts =
      number_stands width luts few
      (stands_then (byte 1 ++ deep) count (omega (arith, length-append (byte 1) deep, length_digits 1 1, length_digits width depth)) f.stands) in
      let right : not (eqb (length_at s 0) (1 + width + width)) ≡ false =
      ap not (eq-eqb (length_at s 0) (1 + width + width) (f.long ∙ size)) in
      let ranged : head_range due (number_at s 3 1) (depth_at due s) (count_at due s) ≡ false =
      (λ i. head_range due (version i) (deep-read i) (count-read i)) ∙ in_range in
      record {
        deep = deep-read;
        counted = count-read;
        ruled = field_sound f right ranged;
        end = f.end ∙ omega arith;
      }

  lines_stand : (at : ℕ) (lines : List Line) → LinesShaped due lines → Stands s at (flat_map (line_field due.form) lines) →
      lines_from due s (length lines) at ≡ record { read = lines; ruling = Ok tt; next = at + length (flat_map (line_field due.form) lines) }
  unfolding lines_from flat_map
  lines_stand at [] shaped st = λ i. record { read = []; ruling = Ok tt; next = none i }
    where
      none : at ≡ at + 0
      none = omega arith
  lines_stand at (line ∷ lines) (LinesShaped.more one later) st =
      let rest = flat_map (line_field due.form) lines in
      let here : LineStands at line = line_stands at line one (stands_first (line_field due.form line) rest st) in
      let there = lines_stand (end_at s at) lines later (stands_then (line_field due.form line) rest (sym here.end) st) in
      let last : end_at s at + length rest ≡ at + length (line_field due.form line ++ rest) =
      omega (arith, here.end, length-append (line_field due.form line) rest) in
      ap (λ (r : Ruling). and_field r (line_at due s at) at (lines_from due s (length lines) (end_at s at))) here.ruled
      ∙ (λ i. record { read = here.read i ∷ (there i).read; ruling = (there i).ruling; next = (there i).next })
      ∙ (λ i. record { read = line ∷ lines; ruling = Ok tt; next = last i })

  luts_stand : (least at : ℕ) (luts : List Lut) → LutsShaped due least luts → Stands s at (flat_map (lut_field due.form) luts) →
      luts_from due s (length luts) least at ≡ record { read = luts; ruling = Ok tt; next = at + length (flat_map (lut_field due.form) luts) }
  unfolding luts_from flat_map
  luts_stand least at [] shaped st = λ i. record { read = []; ruling = Ok tt; next = none i }
    where
      none : at ≡ at + 0
      none = omega arith
  luts_stand least at (lut ∷ luts) (LutsShaped.more one later) st =
      let rest = flat_map (lut_field due.form) luts in
      let here : LutStands least at lut = lut_stands least at lut one (stands_first (lut_field due.form lut) rest st) in
      let there = luts_stand (lut.root + 1) (end_at s at) luts later (stands_then (lut_field due.form lut) rest (sym here.end) st) in
      let last : end_at s at + length rest ≡ at + length (lut_field due.form lut ++ rest) =
      omega (arith, here.end, length-append (lut_field due.form lut) rest) in
      ap (λ (r : Ruling). and_field r (lut_at due s at) at (luts_from due s (length luts) ((lut_at due s at).root + 1) (end_at s at))) here.ruled
      ∙ (λ i. and_field (Ok tt) (here.read i) at (luts_from due s (length luts) ((here.read i).root + 1) (end_at s at)))
      ∙ (λ i. record { read = lut ∷ (there i).read; ruling = (there i).ruling; next = (there i).next })
      ∙ (λ i. record { read = lut ∷ luts; ruling = Ok tt; next = last i })

  -- the three parts together
  assembled : (sheet : Sheet) {lines_end luts-end : ℕ} → HeadStands sheet.depth (length sheet.luts) →
      lines_from due s (due.nodes - due.inputs) (end_at s 0) ≡ record { read = sheet.lines; ruling = Ok tt; next = lines_end } →
      luts_from due s (length sheet.luts) due.inputs lines_end ≡ record { read = sheet.luts; ruling = Ok tt; next = luts-end } →
      ltb luts-end (length s) ≡ false → reading due s ≡ record { sheet = sheet; ruling = Ok tt }
  unfolding reading
  assembled sheet {lines_end} {luts-end} head lines luts done =
      let read : Fields Line = record { read = sheet.lines; ruling = Ok tt; next = lines_end } in
      ap (after_head due s) head.ruled
      ∙ ap (λ (l : Fields Line). after_lines due s l.ruling l) lines
      ∙ ap (λ (n : ℕ). after_luts due s (luts_from due s n due.inputs lines_end).ruling read (luts_from due s n due.inputs lines_end)) head.counted
      ∙ ap (λ (l : Fields Lut). after_luts due s l.ruling read l) luts
      ∙ (λ i. record {
        sheet = record { depth = head.deep i; lines = sheet.lines; luts = sheet.luts };
        ruling = cond (done i) (Err (Extra luts-end)) (Ok tt);
      })

pub reads_back : (due : Due) (sheet : Sheet) → Shaped due sheet → reading due (encode due.form sheet) ≡ record { sheet = sheet; ruling = Ok tt }
unfolding encode
reads_back due sheet shaped =
    let s = encode due.form sheet in
    let head = head_field due.form sheet.depth (length sheet.luts) in
    let lines = flat_map (line_field due.form) sheet.lines in
    let luts = flat_map (lut_field due.form) sheet.luts in
    let whole : Stands s 0 (head ++ lines ++ luts) = record { rest = []; there = sym (append-nil (head ++ lines ++ luts)) } in
    let two : Stands s 0 (head ++ lines) = stands_first (head ++ lines) luts whole in
    let first_part : HeadStands due s sheet.depth (length sheet.luts) =
    head_stands due s sheet.depth (length sheet.luts) shaped.in_range shaped.depth shaped.count shaped.narrow
    (stands_first head lines two) in
    let lines_at : 0 + length head ≡ end_at s 0 = omega (arith, first_part.end) in
    let second-part = lines_stand due s (end_at s 0) sheet.lines shaped.lines (stands_then head lines lines_at two) in
    let luts-at : 0 + length (head ++ lines) ≡ end_at s 0 + length lines = omega (arith, length-append head lines, lines_at) in
    let third-part = luts_stand due s due.inputs (end_at s 0 + length lines) sheet.luts shaped.luts (stands_then (head ++ lines) luts luts-at whole) in
    let done : ltb (end_at s 0 + length lines + length luts) (length s) ≡ false =
    le-ltb (end_at s 0 + length lines + length luts) (length s) (omega (arith, length-append (head ++ lines) luts, length-append head lines, lines_at)) in
    assembled due s sheet first_part
    (ap (λ (g : ℕ). lines_from due s g (end_at s 0)) (sym shaped.gates) ∙ second-part) third-part done
