-- Demand 1 and demand 2 for the mapper, and that its own sheet keeps the rules.
use Prim.Native.Nat.{ℕ, ◌≤◌}
use native.Mathlib.Omega.{arith}
use mathlib.Core.Path.{◌≡◌, refl, sym, ap, ◌∙◌, subst}
use mathlib.Core.Bool.{Bool, true, false, true≢false}
use mathlib.Core.List.{List, ◌++◌, Memᴰ}
use lib.ListN.{length, take, drop, length-append}
use lib.Seq.{take_at, drop_at}
use Rattle.theory.specs.paper.Net.{Net, Gate}
use Rattle.theory.specs.paper.Walk.{Loop, LowestLoop, NoLoop}
use Rattle.theory.specs.paper.Cover.{Label}
use Rattle.drawing.specs.declared.Refusal.{Refusal}
use Rattle.drawing.specs.paper.Fields.{Verdict}
use Rattle.std.specs.Prelude.{Result, Ok, Err}
use Rattle.drawing.specs.paper.Fields.{head_k, head_i}
use Rattle.drawing.specs.paper.Table.{net_of, tables_of}
use Rattle.drawing.specs.paper.Reading.{found, table_of}
use Rattle.walking.specs.paper.Loops.{loop_number}
use Rattle.taking.specs.paper.Taken.{drawn, ReadsWhole, IsTaken}
use Rattle.taking.proofs.Judged.{refusal_number}
use Rattle.sheet.specs.paper.Limits.{sheet_room}
use Rattle.sheet.specs.paper.Sheet.{Sheet}
use Rattle.sheet.specs.paper.Encoding.{narrow, encode}
use Rattle.sheet.specs.paper.Shape.{Due, Reading, reading}
use Rattle.sheet.specs.Shape.{Shaped}
use Rattle.sheet.specs.paper.Rules.{Rule, Keeps, rules_of, labels_of}
use Rattle.sheet.proofs.Shapes.{due_for, narrow_fits}
use Rattle.sheet.proofs.RoundTrip.{reads_back}
use Rattle.keeping.specs.paper.Right.{Right}
use Rattle.keeping.specs.paper.Same.{SameButEvidence}
use Rattle.keeping.proofs.Mappers.{mappers_sheet_keeps}
use Rattle.keeping.proofs.Kept.{kept_is_right}
use Rattle.keeping.proofs.Shaped.{mappers_sheet_shaped}
use Rattle.keeping.proofs.One.{mappers_sheet_is_one}
use Rattle.mapping.specs.declared.MapError.{MapError}
use Rattle.mapping.specs.declared.MapError.TheVariants.{Refused, LoopAt, Room}
use Rattle.mapping.specs.paper.Maps.{Maps, MapsTo, said, number, place}
use Rattle.mapping.proofs.Mapped.{OneReply, maps_one}
use Rattle.inspecting.specs.paper.Inspecting.{KeepsAll, due_in, sheet_in}
use Rattle.demands.specs.paper.Demands.{SomeLoop, SameReply, MapperRefuses, SheetWritten, Demand1, Demand2, Demand3Mapper}
use Rattle.keeping.proofs.Tables.{bounded, outputs_are_nodes, nodes_few, nodes_are, k_few, drawing, table_ranked, rank_most}

-- Words that tell replies apart

abbrev is_sound : Verdict → Bool
is_sound (Ok _) = true
is_sound (Err x) = false

pub sound_not_refused : {v : Verdict} {x : Refusal} → v ≡ Ok tt → v ≡ Err x → ⊥
sound_not_refused whole faulty = true≢false (ap is_sound (sym whole ∙ faulty))

-- a gate on a loop, and no such gate
pub loop_some : {net : Net} {g : ℕ} → LowestLoop net g → (h : ℕ) × (Gate net h × Loop net h)
loop_some {g = g} lowest = (g, (lowest.gate, lowest.loop))

pub free_none : {net : Net} → NoLoop net → (h : ℕ) × (Gate net h × Loop net h) → ⊥
free_none free (g, (gate, around)) = free g gate around

-- the front of the buffer is the encoding
pub front : (bytes before : List ℕ) → take (length bytes) (bytes ++ drop (length bytes) before) ≡ bytes
front bytes before = take_at bytes (drop (length bytes) before) (length bytes) refl

pub bytes_front : (before after : List ℕ) (r : Result ℕ MapError) (sheet : Sheet) → r ≡ Ok (length (encode narrow sheet)) →
    after ≡ encode narrow sheet ++ drop (length (encode narrow sheet)) before → take (place r) after ≡ encode narrow sheet
bytes_front before after r sheet p a =
    ap (λ (n : ℕ). take n after) (ap place p) ∙ ap (take (length (encode narrow sheet))) a ∙ front (encode narrow sheet) before

-- and behind it the buffer is as before
bytes_rest : (before after : List ℕ) (r : Result ℕ MapError) (sheet : Sheet) → r ≡ Ok (length (encode narrow sheet)) →
    after ≡ encode narrow sheet ++ drop (length (encode narrow sheet)) before → drop (place r) after ≡ drop (place r) before
bytes_rest before after r sheet p a =
    let size = length (encode narrow sheet) in
    ap (λ (n : ℕ). drop n after) (ap place p) ∙ ap (drop size) a ∙ drop_at (encode narrow sheet) (drop size before) size refl
    ∙ ap (λ (n : ℕ). drop n before) (sym (ap place p))

-- The mapper's sheet

module _ (s : List ℕ) (taken : IsTaken s) where
  whole : ReadsWhole s
  whole = taken.whole

  free : NoLoop (drawn s)
  free = taken.no_loop

  pub sheet_right : (sheet : Sheet) → MapsTo s sheet → Right (drawn s) (tables_of (table_of s)) (head_k s) (found s).outputs sheet
  sheet_right sheet mapper =
      kept_is_right (drawn s) (tables_of (table_of s)) (head_k s) (found s).outputs sheet (bounded s whole) (table_ranked s whole free) (outputs_are_nodes s whole)
      mapper.roots
      (mappers_sheet_keeps (drawn s) (tables_of (table_of s)) (head_k s) (found s).outputs sheet (bounded s whole) (table_ranked s whole free) (outputs_are_nodes s whole) mapper mapper.evidence)

  due_same : due_for narrow 191 (head_k s) (drawn s) ≡ due_in s
  unfolding net_of
  due_same i = record { form = narrow; most = 191; k = head_k s; inputs = head_i s; nodes = nodes_are s whole i }

  pub sheet_read : (sheet : Sheet) → MapsTo s sheet → reading (due_in s) (encode narrow sheet) ≡ record { sheet = sheet; ruling = Ok tt }
  sheet_read sheet mapper =
      let shaped : Shaped (due_for narrow 191 (head_k s) (drawn s)) sheet =
      mappers_sheet_shaped (drawn s) (tables_of (table_of s)) (head_k s) (found s).outputs sheet (drawing s whole free) (table_ranked s whole free)
      (outputs_are_nodes s whole) mapper 191 (k_few s whole) (rank_most s whole free) (narrow_fits (k_few s whole) (nodes_few s whole)) in
      subst (λ (due : Due). reading due (encode narrow sheet) ≡ record { sheet = sheet; ruling = Ok tt }) due_same
      (reads_back (due_for narrow 191 (head_k s) (drawn s)) sheet shaped)

  pub sheet_kept : (sheet : Sheet) → MapsTo s sheet → KeepsAll s (encode narrow sheet)
  sheet_kept sheet mapper =
      let read = sheet_read sheet mapper in
      let same : sheet_in s (encode narrow sheet) ≡ sheet = ap (λ (x : Reading). x.sheet) read in
      record {
        taken = taken;
        sound = ap (λ (x : Reading). x.ruling) read;
        each =
            subst (λ (x : Sheet). (rule : Rule) → Memᴰ rule (rules_of (drawn s) x) → Keeps (drawn s) (tables_of (table_of s)) (head_k s) (found s).outputs x rule) (sym same)
            (mappers_sheet_keeps (drawn s) (tables_of (table_of s)) (head_k s) (found s).outputs sheet (bounded s whole) (table_ranked s whole free)
            (outputs_are_nodes s whole) mapper mapper.evidence);
      }

  pub sheet_one : (a b : Sheet) → MapsTo s a → MapsTo s b → SameButEvidence (head_i s) a b
  unfolding net_of
  sheet_one a b mapper other =
      mappers_sheet_is_one (drawn s) (tables_of (table_of s)) (head_k s) (found s).outputs a b (bounded s whole) (table_ranked s whole free) (outputs_are_nodes s whole) mapper other

labels_true : (s : List ℕ) (sheet : Sheet) → MapsTo s sheet → (t : ℕ) → Gate (drawn s) t → (outputs : List ℕ) →
    Label (drawn s) (head_k s) outputs t (labels_of (head_i s) sheet.lines t)
unfolding net_of
labels_true s sheet mapper = mapper.labels

-- Two replies

taken_of : {s before : List ℕ} {r : Result ℕ MapError} {after : List ℕ} → Maps s before r after → number r ≡ 0 → IsTaken s × (sheet_room ≤ length before)
taken_of (Maps.refused {x = x} e p a) n = absurd (omega (arith, ap number p, n, (refusal_number x).0))
taken_of (Maps.loop e l p a) n = absurd (omega (arith, ap number p, n))
taken_of (Maps.room t short p a) n = absurd (omega (arith, ap number p, n))
taken_of (Maps.mapped sheet t long to p a) n = (t, long)

same_reply : (s before : List ℕ) (r q : Result ℕ MapError) (after after' : List ℕ) → Maps s before r after → OneReply s before r q after after' → SameReply s r q after after'
same_reply s before r q after after' m (OneReply.same p a) = SameReply.refusal p a
same_reply s before r q after after' m (OneReply.sheets x y to to' p o a b) =
    let taken = (taken_of m (ap number p)).0 in
    SameReply.sheets x y (ap number p) (ap number o) (sheet_one s taken x y to to')
    (ap (reading (due_in s)) (bytes_front before after r x p a) ∙ sheet_read s taken x to)
    (ap (reading (due_in s)) (bytes_front before after' q y o b) ∙ sheet_read s taken y to')

-- Refusals

-- a refusal is a reply that the promise allows, and its number is not 0
record Refusing (s before : List ℕ) (x : ℕ × ℕ) : Type 0 where
  reply : Result ℕ MapError
  maps : Maps s before reply before
  says : said reply ≡ x
  some : number reply ≡ 0 → ⊥

refusing : {s before : List ℕ} {x : ℕ × ℕ} → MapperRefuses s before x → Refusing s before x
refusing (MapperRefuses.faulty {x = x} e) =
    record { reply = Err (Refused x); maps = Maps.refused e refl refl; says = refl; some = λ n. omega (arith, n, (refusal_number x).0) }
refusing (MapperRefuses.loop {g = g} e l) =
    record { reply = Err (LoopAt (record { id = g })); maps = Maps.loop e l refl refl; says = refl; some = λ n. omega (arith, n) }
refusing (MapperRefuses.room t short) = record { reply = Err Room; maps = Maps.room t short refl refl; says = refl; some = λ n. omega (arith, n) }

refused_said : {s before : List ℕ} {r q : Result ℕ MapError} {after after' : List ℕ} → OneReply s before r q after after' → (number q ≡ 0 → ⊥) → r ≡ q
refused_said (OneReply.same e _) some = e
refused_said (OneReply.sheets x y _ _ p o _ _) some = absurd (some (ap number o))

said_refused : {s before : List ℕ} {r : Result ℕ MapError} {after : List ℕ} → Maps s before r after → (x : ℕ × ℕ) → said r ≡ x → (x.0 ≡ 0 → ⊥) →
    MapperRefuses s before x
said_refused {s} {before} (Maps.refused e p a) x is some = subst (MapperRefuses s before) (sym (ap said p) ∙ is) (MapperRefuses.faulty e)
said_refused {s} {before} (Maps.loop e l p a) x is some = subst (MapperRefuses s before) (sym (ap said p) ∙ is) (MapperRefuses.loop e l)
said_refused {s} {before} (Maps.room t short p a) x is some = subst (MapperRefuses s before) (sym (ap said p) ∙ is) (MapperRefuses.room t short)
said_refused (Maps.mapped sheet t long to p a) x is some = absurd (some (sym (ap (λ (y : ℕ × ℕ). y.0) (sym (ap said p) ∙ is))))

-- Loops

looped : {s before : List ℕ} {r : Result ℕ MapError} {after : List ℕ} → Maps s before r after → number r ≡ loop_number → ReadsWhole s × SomeLoop s
looped (Maps.refused {x = x} e p a) n = absurd (omega (arith, ap number p, n, (refusal_number x).1))
looped (Maps.loop e l p a) n = (e, loop_some l)
looped (Maps.room t short p a) n = absurd (omega (arith, ap number p, n))
looped (Maps.mapped sheet t long to p a) n = absurd (omega (arith, ap number p, n))

seven : {s before : List ℕ} {r : Result ℕ MapError} {after : List ℕ} → Maps s before r after → ReadsWhole s → SomeLoop s → number r ≡ loop_number
seven (Maps.refused e p a) whole some = absurd (sound_not_refused whole e)
seven (Maps.loop e l p a) whole some = ap number p
seven (Maps.room t short p a) whole some = absurd (free_none t.no_loop some)
seven (Maps.mapped sheet t long to p a) whole some = absurd (free_none t.no_loop some)

-- What the buffer holds

zero_of : {s before : List ℕ} {r : Result ℕ MapError} {after : List ℕ} → Maps s before r after → IsTaken s → sheet_room ≤ length before → number r ≡ 0
zero_of (Maps.refused e p a) taken long = absurd (sound_not_refused taken.whole e)
zero_of (Maps.loop e l p a) taken long = absurd (free_none taken.no_loop (loop_some l))
zero_of (Maps.room t short p a) taken long = absurd (omega (arith, short, long))
zero_of (Maps.mapped sheet t long to p a) taken _ = ap number p

untouched : {s before : List ℕ} {r : Result ℕ MapError} {after : List ℕ} → Maps s before r after → (number r ≡ 0 → ⊥) → after ≡ before
untouched (Maps.refused e p a) some = a
untouched (Maps.loop e l p a) some = a
untouched (Maps.room t short p a) some = a
untouched (Maps.mapped sheet t long to p a) some = absurd (some (ap number p))

rest : (s before : List ℕ) (r : Result ℕ MapError) (after : List ℕ) → Maps s before r after → number r ≡ 0 → drop (place r) after ≡ drop (place r) before
rest s before r after (Maps.refused {x = x} e p a) n = absurd (omega (arith, ap number p, n, (refusal_number x).0))
rest s before r after (Maps.loop e l p a) n = absurd (omega (arith, ap number p, n))
rest s before r after (Maps.room t short p a) n = absurd (omega (arith, ap number p, n))
rest s before r after (Maps.mapped sheet t long to p a) n = bytes_rest before after r sheet p a

-- The demands

pub demand_1 : Demand1
demand_1 s before r after m =
    record {
      one = λ q after' n. same_reply s before r q after after' m (maps_one m n);
      refused = λ x. (
        λ refuses.
            let known = refusing refuses in
            let same : r ≡ known.reply = refused_said (maps_one m known.maps) known.some in
            (ap said same ∙ known.says, λ zero. known.some (ap (λ (y : ℕ × ℕ). y.0) known.says ∙ zero)),
        λ (is, some). said_refused m x is some,
      );
      loop = (looped m, λ (whole, some). seven m whole some);
      mapped = (taken_of m, λ (taken, long). zero_of m taken long);
      untouched = untouched m;
      rest = rest s before r after m;
    }

written : (s before : List ℕ) (r : Result ℕ MapError) (after : List ℕ) → Maps s before r after → number r ≡ 0 → SheetWritten s after (place r)
written s before r after (Maps.refused {x = x} e p a) n = absurd (omega (arith, ap number p, n, (refusal_number x).0))
written s before r after (Maps.loop e l p a) n = absurd (omega (arith, ap number p, n))
written s before r after (Maps.room t short p a) n = absurd (omega (arith, ap number p, n))
written s before r after (Maps.mapped sheet taken long mapper p a) n =
    let bytes = bytes_front before after r sheet p a in
    record {
      sheet = sheet;
      length_is = ap place p;
      inside = omega (arith, ap place p, ap (λ (l : List ℕ). length l) a, length-append (encode narrow sheet) (drop (length (encode narrow sheet)) before));
      bytes = bytes;
      read = ap (reading (due_in s)) bytes ∙ sheet_read s taken sheet mapper;
      labels = labels_true s sheet mapper;
      right = sheet_right s taken sheet mapper;
    }

pub demand_2 : Demand2
demand_2 s before r after m n = written s before r after m n

kept : (s before : List ℕ) (r : Result ℕ MapError) (after : List ℕ) → Maps s before r after → number r ≡ 0 → KeepsAll s (take (place r) after)
kept s before r after (Maps.refused {x = x} e p a) n = absurd (omega (arith, ap number p, n, (refusal_number x).0))
kept s before r after (Maps.loop e l p a) n = absurd (omega (arith, ap number p, n))
kept s before r after (Maps.room t short p a) n = absurd (omega (arith, ap number p, n))
kept s before r after (Maps.mapped sheet taken long mapper p a) n = subst (KeepsAll s) (sym (bytes_front before after r sheet p a)) (sheet_kept s taken sheet mapper)

pub demand_3_mapper : Demand3Mapper
demand_3_mapper s before r after m n = kept s before r after m n
