-- Demand 1 for the inspector, and demand 3.
use Rattle.std.specs.Prelude.{Err}
use Prim.Native.Nat.{ℕ, ◌≤◌}
use native.Mathlib.Omega.{arith}
use mathlib.Core.Path.{◌≡◌, refl, sym, ap, ◌∙◌, subst}
use mathlib.Core.List.{List}
use Rattle.drawing.specs.paper.Fields.{head_k}
use Rattle.drawing.specs.paper.Table.{tables_of}
use Rattle.drawing.specs.paper.Reading.{found, table_of, nodes_of}
use Rattle.sheet.specs.declared.Fault.{Fault}
use Rattle.sheet.specs.declared.Fault.TheVariants as fault
use Rattle.sheet.specs.paper.Sheet.{Roots}
use Rattle.sheet.specs.Shape as shape
use Rattle.sheet.specs.paper.Rules.{Rule, Found}
use Rattle.keeping.specs.paper.Right.{Right}
use Rattle.keeping.proofs.Kept.{kept_is_right}
use Rattle.inspecting.specs.declared.InspectError.TheVariants.{Refused, LoopAt, Shape}
use Rattle.inspecting.specs.paper.Inspecting.{Inspection, Inspects, KeepsAll, due_in, sheet_in, reply_of, said, number, place}
use Rattle.inspecting.proofs.Sound.{roots_rise}
use Rattle.inspecting.proofs.Replies.{one_reply, keeps_accepted, accepted_exactly}
use Rattle.walking.specs.paper.Loops.{loop_number}
use Rattle.taking.specs.paper.Taken.{drawn, ReadsWhole}
use Rattle.taking.proofs.Judged.{refusal_number}
use Rattle.demands.specs.paper.Demands.{SomeLoop, InspectorRefuses, Demand1Inspector, Demand3Right, Demand3Accepts}
use Rattle.keeping.proofs.Tables.{inputs_are, bounded, outputs_are_nodes, nodes_are, table_ranked}
use Rattle.demands.proofs.Mapper.{sound_not_refused, loop_some, free_none}

-- A sheet that keeps the rules is right.

sheet_roots : (s t : List ℕ) → KeepsAll s t → Roots (drawn s).nodes (drawn s).inputs (sheet_in s t).luts
sheet_roots s t kept = subst (λ (n : ℕ). Roots n (drawn s).inputs (sheet_in s t).luts) (sym (nodes_are s kept.taken.whole)) (read s t kept)
  where
    read : (s t : List ℕ) → KeepsAll s t → Roots (nodes_of s) (drawn s).inputs (sheet_in s t).luts
    read s t kept = subst (λ (i : ℕ). Roots (nodes_of s) i (sheet_in s t).luts) (inputs_are s) (roots_rise (due_in s) t kept.sound)

kept_right : (s t : List ℕ) → KeepsAll s t → Right (drawn s) (tables_of (table_of s)) (head_k s) (found s).outputs (sheet_in s t)
kept_right s t kept =
    let whole = kept.taken.whole in
    kept_is_right (drawn s) (tables_of (table_of s)) (head_k s) (found s).outputs (sheet_in s t) (bounded s whole) (table_ranked s whole kept.taken.no_loop)
    (outputs_are_nodes s whole) (sheet_roots s t kept) kept.each

pub demand_3_right : Demand3Right
demand_3_right s t depth accepted =
    let kept : KeepsAll s t = accepted_exactly s t accepted in
    (kept_right s t kept, ap place (one_reply s t accepted (keeps_accepted s t kept)))

pub demand_3_accepts : Demand3Accepts
demand_3_accepts s t r kept inspects = one_reply s t inspects (keeps_accepted s t kept)

-- Replies

-- the numbers of the shape's faults and of the rules are 21 and above
fault_high : (f : Fault) → 21 ≤ shape.number f
fault_high (fault.Torn at) = omega arith
fault_high (fault.Tag at) = omega arith
fault_high (fault.Length at) = omega arith
fault_high (fault.Range at) = omega arith
fault_high (fault.Extra at) = omega arith

rule_high : (depth : ℕ) (rule : Rule) → 25 ≤ number (reply_of depth (Found.broken rule))
rule_high depth (Rule.cut gate leaves) = omega arith
rule_high depth (Rule.label gate) = omega arith
rule_high depth (Rule.paths gate) = omega arith
rule_high depth (Rule.function lut) = omega arith
rule_high depth (Rule.cover gate) = omega arith
rule_high depth Rule.depth = omega arith

module _ (s t : List ℕ) where
  -- 7 is said for a loop alone
  looped : {r : Inspection} → Inspects s t r → number r ≡ loop_number → ReadsWhole s × SomeLoop s
  looped (Inspects.refused {x = x} e) n = absurd (omega (arith, n, (refusal_number x).1))
  looped (Inspects.loop e l) n = (e, loop_some l)
  looped (Inspects.faulty {f = f} _ e) n = absurd (omega (arith, n, fault_high f))
  looped (Inspects.ruled {x = Found.none} _ e first) n = absurd (omega (arith, n))
  looped (Inspects.ruled {x = Found.broken rule} _ e first) n = absurd (omega (arith, n, rule_high (sheet_in s t).depth rule))

  -- a loop gets 7
  seven : {r : Inspection} → Inspects s t r → ReadsWhole s → SomeLoop s → number r ≡ loop_number
  seven (Inspects.refused e) whole some = absurd (sound_not_refused whole e)
  seven (Inspects.loop e l) whole some = refl
  seven (Inspects.faulty taken e) whole some = absurd (free_none taken.no_loop some)
  seven (Inspects.ruled taken e first) whole some = absurd (free_none taken.no_loop some)

  -- 0 is said where all is kept
  zero_kept : {r : Inspection} → Inspects s t r → number r ≡ 0 → KeepsAll s t
  zero_kept (Inspects.refused {x = x} e) n = absurd (omega (arith, n, (refusal_number x).0))
  zero_kept (Inspects.loop e l) n = absurd (omega (arith, n))
  zero_kept (Inspects.faulty {f = f} _ e) n = absurd (omega (arith, n, fault_high f))
  zero_kept (Inspects.ruled {x = Found.none} taken e first) n = accepted_exactly s t (Inspects.ruled taken e first)
  zero_kept (Inspects.ruled {x = Found.broken rule} _ e first) n = absurd (omega (arith, n, rule_high (sheet_in s t).depth rule))

  -- a refusal is a reply that the promise allows, and its number is not 0
  record Refusing (x : ℕ × ℕ) : Type 0 where
    reply : Inspection
    inspects : Inspects s t reply
    says : said reply ≡ x
    some : number reply ≡ 0 → ⊥

  refusing : {x : ℕ × ℕ} → InspectorRefuses s t x → Refusing x
  refusing (InspectorRefuses.faulty {x = x} e) =
      record { reply = Err (Refused x); inspects = Inspects.refused e; says = refl; some = λ n. omega (arith, n, (refusal_number x).0) }
  refusing (InspectorRefuses.loop {g = g} e l) =
      record { reply = Err (LoopAt (record { id = g })); inspects = Inspects.loop e l; says = refl; some = λ n. omega (arith, n) }
  refusing (InspectorRefuses.misshapen {f = f} taken e) =
      record { reply = Err (Shape f); inspects = Inspects.faulty taken e; says = refl; some = λ n. omega (arith, n, fault_high f) }
  refusing (InspectorRefuses.broken {rule = rule} taken e first) =
      record {
        reply = reply_of (sheet_in s t).depth (Found.broken rule);
        inspects = Inspects.ruled taken e first;
        says = refl;
        some = λ n. omega (arith, n, rule_high (sheet_in s t).depth rule);
      }

  said_refused : {r : Inspection} → Inspects s t r → (x : ℕ × ℕ) → said r ≡ x → (x.0 ≡ 0 → ⊥) → InspectorRefuses s t x
  said_refused (Inspects.refused e) x is some = subst (InspectorRefuses s t) is (InspectorRefuses.faulty e)
  said_refused (Inspects.loop e l) x is some = subst (InspectorRefuses s t) is (InspectorRefuses.loop e l)
  said_refused (Inspects.faulty taken e) x is some = subst (InspectorRefuses s t) is (InspectorRefuses.misshapen taken e)
  said_refused (Inspects.ruled {x = Found.none} _ e first) x is some = absurd (some (sym (ap (λ (y : ℕ × ℕ). y.0) is)))
  said_refused (Inspects.ruled {x = Found.broken rule} taken e first) x is some = subst (InspectorRefuses s t) is (InspectorRefuses.broken taken e first)

pub demand_1_inspector : Demand1Inspector
demand_1_inspector s t r inspects =
    record {
      one = λ q other. one_reply s t inspects other;
      refused = λ x. (
        λ refuses.
            let known = refusing s t refuses in
            let same : r ≡ known.reply = one_reply s t inspects known.inspects in
            (ap said same ∙ known.says, λ zero. known.some (ap (λ (y : ℕ × ℕ). y.0) known.says ∙ zero)),
        λ (is, some). said_refused s t inspects x is some,
      );
      loop = (looped s t inspects, λ (whole, some). seven s t inspects whole some);
      accepted = (zero_kept s t inspects, λ kept. ap number (one_reply s t inspects (keeps_accepted s t kept)));
    }
