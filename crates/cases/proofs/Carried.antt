-- A test of a case, `is_so`, and the lemma that carries it to the definitions: the bytes read whole as the table, and the sheet given is the mapper's
-- sheet of that table's net, or the gate given is the lowest on a loop of it.
use Prim.Native.Nat.{ℕ, ◌+◌, ◌≤◌}
use Prim.Native.String.{String}
use native.Mathlib.Omega.{arith}
use mathlib.Core.Path.{◌≡◌, sym, ap, ◌∙◌, subst}
use mathlib.Core.Bool.{Bool, true, ◌&&◌}
use mathlib.Core.List.{List}
use borrow.Author.Tests.{eqb-true}
use lib.ListN.{length}
use lib.Dec.{eqb}
use Rattle.theory.specs.paper.Net.{Net}
use Rattle.theory.specs.paper.Walk.{LowestLoop, NoLoop}
use Rattle.theory.proofs.Tests.{◌and_then◌}
use Rattle.theory.proofs.DecideNet.{is_bounded, decides_bounded, NothingBeyond}
use Rattle.theory.proofs.DecideCut.{is_lowest_loop, decides_lowest_loop}
use Rattle.theory.proofs.Walks.{no_loop}
use Rattle.storage.specs.declared.Numbers.{Numbers}
use Rattle.std.specs.Prelude.{Ok, Result}
use Rattle.drawing.specs.paper.Table.{Table, net_of, tables_of}
use Rattle.drawing.specs.paper.Fields.{head_g}
use Rattle.drawing.specs.paper.Reading.{found, table_of, numbers_of}
use Rattle.drawing.proofs.SoundTables.{table_sound}
use Rattle.walking.proofs.Unique.{some_loop}
use Rattle.taking.specs.paper.Taken.{IsTaken}
use Rattle.taking.specs.paper.Says.{Taking, Says, said, number, place}
use Rattle.taking.proofs.Judged.{says_one, refusal_number}
use Rattle.sheet.specs.paper.Limits.{sheet_room}
use Rattle.sheet.specs.paper.Sheet.{Sheet}
use Rattle.sheet.specs.paper.Encoding.{narrow, encode}
use Rattle.sheet.specs.paper.Rules.{labels_of}
use Rattle.keeping.specs.paper.Right.{KeepsRules, Right}
use Rattle.keeping.specs.paper.Printed.{mapping_of}
use Rattle.keeping.proofs.Tables.{out}
use Rattle.keeping.proofs.Mappers.{mappers_sheet_keeps}
use Rattle.keeping.proofs.Printed.{depths_listed}
use Rattle.keeping.proofs.Kept.{kept_is_right}
use Rattle.keeping.proofs.One.{mappers_sheet_is_one, mapping_one}
use Rattle.wording.specs.paper.Text as text
use Rattle.mapping.specs.declared.MapError.{MapError}
use Rattle.mapping.specs.paper.Maps.{Maps}
use Rattle.mapping.specs.paper.Maps as mapper
use Rattle.listing.specs.paper.Lists.{Listing}
use Rattle.listing.proofs.One.{lists_mapped}
use Rattle.cases.specs.paper.Cases.{Outcome, Case, numbers_for, SheetOf, printed, SameSheet, MapsAs, loop_at, LoopsAs, Comes, Holds}
use Rattle.cases.proofs.Tests.{both, is_same_numbers, same_numbers, is_same_table, same_table, is_sound, sound_verdict, is_deep, deep, Deep}
use Rattle.cases.proofs.Sheets.{is_mappers, Mapper, mapper}
use Rattle.cases.proofs.Paths.{single_inputs, sheets_as_long}

unfoldable is_read : List ℕ → Table → Bool
unfolding is_same_table
is_read s table = is_sound (found s).verdict && is_same_table (table_of s) table

-- the mapper's sheet, with evidence that can only be of one input each, as long as is said, and listed as is said
unfoldable is_mapped : Table → Sheet → (size : ℕ) → (listing : List ℕ) → Bool
unfolding net_of is_mappers is_deep is_same_numbers
is_mapped table sheet size listing =
    is_mappers (net_of table) (tables_of table) table.k table.outputs sheet &&
    is_deep (net_of table) (labels_of table.inputs sheet.lines) &&
    eqb (length (encode narrow sheet)) size &&
    is_same_numbers (text.listing_of (mapping_of table sheet)) listing

unfoldable is_looped : Table → (lowest : ℕ) → (listing : List ℕ) → Bool
unfolding net_of is_bounded is_lowest_loop is_same_numbers
is_looped table lowest listing =
    (is_bounded (net_of table) table.k && is_lowest_loop (net_of table) lowest) && is_same_numbers (text.refused_line (number (loop_at lowest)) (place (loop_at lowest))) listing

unfoldable is_coming : Case → Outcome → Bool
unfolding is_mapped is_looped
is_coming c (Outcome.maps sheet size) = is_mapped c.table sheet size (printed c.prints)
is_coming c (Outcome.loops lowest) = is_looped c.table lowest (printed c.prints)

unfoldable pub is_so : Case → Bool
unfolding is_read is_coming
is_so c = eqb (length c.bytes) c.count && is_read c.bytes c.table && is_coming c c.outcome

-- The bytes read as the table
module _ (s : List ℕ) (table : Table) (test : is_read s table ≡ true) where
  sound : (found s).verdict ≡ Ok tt
  unfolding is_read
  sound = sound_verdict (found s).verdict (both {a = is_sound (found s).verdict} test).0

  reads : table_of s ≡ table
  unfolding is_read
  reads = same_table (table_of s) table (both {a = is_sound (found s).verdict} test).1

  gates_are : head_g s ≡ length table.gates
  gates_are = omega (arith, (table_sound s sound).size, ap (λ (t : Table). length t.gates) reads)

  numbers_are : numbers_of s ≡ numbers_for table
  numbers_are i =
      record { k = record { leaves = (reads i).k }; inputs = (reads i).inputs; nodes = (reads i).inputs + gates_are i; roots = length (reads i).outputs }

  nothing_beyond : NothingBeyond (net_of table)
  nothing_beyond = subst (λ (t : Table). NothingBeyond (net_of t)) reads (out s sound)

  -- a loop, or none
  is_taken_lem : NoLoop (net_of table) → IsTaken s
  is_taken_lem free = record { whole = sound; no_loop = subst (λ (t : Table). NoLoop (net_of t)) (sym reads) free }

  taken : NoLoop (net_of table) → Says s (Ok (numbers_for table))
  taken free = subst (λ (n : Numbers). Says s (Ok n)) numbers_are (Says.taken (is_taken_lem free))

  looped : {g : ℕ} → LowestLoop (net_of table) g → Says s (loop_at g)
  looped {g} loop = Says.loop sound (subst (λ (t : Table). LowestLoop (net_of t) g) (sym reads) loop)

module _ (s : List ℕ) (table : Table) (sheet : Sheet) (size : ℕ) (prints : List String) (read : is_read s table ≡ true)
    (test : is_mapped table sheet size (printed prints) ≡ true) where
  abbrev net : Net
  net = net_of table

  abbrev tables : ℕ → ℕ
  tables = tables_of table

  -- the parts of the test
  record Parts : Type 0 where
    pub is : Mapper net tables table.k table.outputs sheet
    pub behind : Deep net (labels_of table.inputs sheet.lines)
    pub long : length (encode narrow sheet) ≡ size
    pub listed : text.listing_of (mapping_of table sheet) ≡ printed prints

  parts : Parts
  unfolding is_mapped
  parts =
      let (rest, listed) = both test in
      let (rest, long) = both rest in
      let (mappers, deep-test) = both rest in
      let is = mapper net tables table.k table.outputs sheet (nothing_beyond s table read) mappers in
      record {
        is = is;
        behind = deep is.bounded _ deep-test;
        long = eqb-true _ _ long;
        listed = same_numbers _ _ listed;
      }

  is : Mapper net tables table.k table.outputs sheet
  is = parts.is

  only : (other : Sheet) → SheetOf table other → SameSheet table sheet size prints other
  unfolding net_of
  only other its =
      let same = mappers_sheet_is_one net tables table.k table.outputs sheet other is.bounded is.ranked is.nodes is.mappers its in
      record {
        same = same;
        evidence = single_inputs net tables table.k table.outputs is.bounded is.ranked is.nodes sheet other is.mappers its parts.behind;
        bytes =
            sym (sheets_as_long net tables table.k table.outputs is.bounded is.ranked is.nodes sheet other is.mappers its parts.behind)
            ∙ parts.long;
        listing = ap text.listing_of (sym (mapping_one table sheet other same)) ∙ parts.listed;
        depths = depths_listed table table.k other is.bounded is.ranked is.nodes its;
      }

  keeps : KeepsRules net tables table.k table.outputs sheet
  keeps = mappers_sheet_keeps net tables table.k table.outputs sheet is.bounded is.ranked is.nodes is.mappers is.mappers.evidence

  right : Right net tables table.k table.outputs sheet
  right = kept_is_right net tables table.k table.outputs sheet is.bounded is.ranked is.nodes is.mappers.roots keeps

  here : IsTaken s
  here = is_taken_lem s table read (λ g _ loop. no_loop is.ranked g loop)

  lists : (listing : List ℕ) → Listing s listing → listing ≡ printed prints
  lists listing listed =
      let same = reads s table read in
      lists_mapped listed here (subst (λ (t : Table). SheetOf t sheet) (sym same) is.mappers) ∙ ap (λ (t : Table). text.listing_of (mapping_of t sheet)) same
      ∙ parts.listed

  replies : (before : List ℕ) (r : Result ℕ MapError) (after : List ℕ) → Maps s before r after → sheet_room ≤ length before → mapper.said r ≡ (0, size)
  replies before r after (Maps.refused {x = x} e p a) long =
      absurd (omega (arith, ap number (says_one (Says.taken here) (Says.refused e)), (refusal_number x).0))
  replies before r after (Maps.loop e l p a) long = absurd (some_loop here.no_loop l)
  replies before r after (Maps.room t short p a) long = absurd (omega (arith, short, long))
  replies before r after (Maps.mapped other t _ to p a) long =
      let long-is = (only other (subst (λ (t : Table). SheetOf t other) (reads s table read) to)).bytes in
      ap mapper.said p ∙ (λ i. (0, long-is i))

  maps_as : MapsAs s table sheet size prints
  maps_as =
      record {
        taken = taken s table read (λ g _ loop. no_loop is.ranked g loop);
        bounded = is.bounded;
        ranked = is.ranked;
        mappers = is.mappers;
        keeps = keeps;
        right = right;
        only = only;
        lists = lists;
        replies = replies;
      }

module _ (s : List ℕ) (table : Table) (lowest : ℕ) (prints : List String) (read : is_read s table ≡ true)
    (test : is_looped table lowest (printed prints) ≡ true) where
  loops_refused : Says s (loop_at lowest) → text.refused_line (number (loop_at lowest)) (place (loop_at lowest)) ≡ printed prints →
      (listing : List ℕ) → Listing s listing → listing ≡ printed prints
  loops_refused refused line listing (Listing.refused says some) = ap (λ (r : Taking). text.refused_line (number r) (place r)) (says_one says refused) ∙ line
  loops_refused refused line listing (Listing.listed sheet t _ _) = absurd (omega (arith, ap number (says_one (Says.taken t) refused)))

  loops_replied : Says s (loop_at lowest) → (before : List ℕ) (r : Result ℕ MapError) (after : List ℕ) → Maps s before r after → mapper.said r ≡ said (loop_at lowest)
  loops_replied refused before r after (Maps.refused {x = x} e p a) =
      absurd (omega (arith, ap number (says_one (Says.refused e) refused), (refusal_number x).1))
  loops_replied refused before r after (Maps.loop e l p a) = ap mapper.said p ∙ ap said (says_one (Says.loop e l) refused)
  loops_replied refused before r after (Maps.room t short p a) = absurd (omega (arith, ap number (says_one (Says.taken t) refused)))
  loops_replied refused before r after (Maps.mapped other t _ to p a) = absurd (omega (arith, ap number (says_one (Says.taken t) refused)))

  loops_as : LoopsAs s table lowest prints
  unfolding is_looped
  loops_as =
      let (rest, listing) = both test in
      let (bounded, loop) = (decides_bounded (net_of table) table.k and_then (λ b. decides_lowest_loop b lowest)).holds rest in
      record {
        refused = looped s table read loop;
        bounded = bounded;
        loop = loop;
        lists = loops_refused (looped s table read loop) (same_numbers _ _ listing);
        replies = loops_replied (looped s table read loop);
      }

coming : (c : Case) (outcome : Outcome) → is_read c.bytes c.table ≡ true → is_coming c outcome ≡ true → Comes c outcome
unfolding is_coming
coming c (Outcome.maps sheet size) read test = maps_as c.bytes c.table sheet size c.prints read test
coming c (Outcome.loops lowest) read test = loops_as c.bytes c.table lowest c.prints read test

pub holds : (c : Case) → is_so c ≡ true → Holds c
unfolding is_so
holds c test =
    let (rest, outcome) = both test in
    let (many, read) = both rest in
    record { many = eqb-true _ _ many; reads = reads c.bytes c.table read; comes = coming c c.outcome read outcome }
