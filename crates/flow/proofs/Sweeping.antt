-- A sweep: where it gave no number, nothing changed, and every node that it passed is settled; it passes all nodes.
use Prim.Native.Nat.{ℕ, zero, suc, ◌+◌, ◌≤◌, ◌<◌}
use native.Mathlib.Decide.{ℕ_discrete, dec_lt}
use native.Mathlib.Omega.{arith}
use mathlib.Core.Path.{◌≡◌, sym, ap, subst, ◌∙◌}
use mathlib.Core.Bool.{Bool, true, false, not}
use mathlib.Core.Logic.{inl}
use mathlib.Core.List.{List}
use lib.ListN.{length, replicate, length-replicate, get_or-eq_default, get_or-replicate}
use lib.Dec.{eqb}
use borrow.Author.Tests.{ne_eqb}
use Rattle.storage.specs.declared.Node.{Node}
use Rattle.storage.specs.Drawings.{net_in}
use Rattle.storage.specs.Entries.{at}
use Rattle.storage.specs.Roles.{area_in, ends_in}
use Rattle.storage.proofs.Entries.{member_at, place_of}
use Rattle.std.specs.Prelude.{Option, None, Some}
use Rattle.std.specs.declared.ops.ControlFlow.{ControlFlow}
use Rattle.std.specs.declared.ops.ControlFlow.TheVariants.{Break, Continue}
use Rattle.flow.specs.Links.{next_in, outs_in}
use Rattle.flow.specs.Cells.{Cleared, PathsKept}
use Rattle.flow.specs.Turns.{Searched, Visited}
use Rattle.flow.specs.Sweeps.{EndReached, EndAsked, Field, SettledIn, AllSettled, EndFound, SweptSo, SearchAsked, SoughtSo}
use Rattle.flow.proofs.Columns.{paths_then}
use Rattle.flow.proofs.Finding.{area_low, none_found}

-- Ends

pub end_read : (ends outs : List ℕ) (v x : ℕ) → at ends v ≡ 1 → x ≡ at outs v → EndReached ends outs v (not (eqb x 0))
end_read ends outs v zero e f =
    record {
      is_end = λ b. e;
      reached = λ b. absurd (let w : ◌≡◌ {A = ℕ} 0 1 = cc in omega arith);
      missed = λ b _. sym f;
    }
end_read ends outs v (suc x) e f =
    let test : not (eqb (suc x) 0) ≡ true = ap not (ne_eqb (suc x) 0 (λ z. omega arith)) in
    record {
      is_end = λ b. e;
      reached = λ b. omega arith;
      missed = λ b _. absurd (let w : ◌≡◌ {A = ℕ} 0 1 = cc in omega arith);
    }

pub no_end_read : (ends outs : List ℕ) (v : ℕ) → (at ends v ≡ 1 → ⊥) → EndReached ends outs v false
no_end_read ends outs v out =
    record {
      is_end = λ b. absurd (let w : ◌≡◌ {A = ℕ} 0 1 = cc in omega arith);
      reached = λ b. absurd (let w : ◌≡◌ {A = ℕ} 0 1 = cc in omega arith);
      missed = λ b e. absurd (out e);
    }

-- A sweep so far, over the nodes that `turn` gives one after the other: from the links at its start to those at turn i.
pub record SweepLeft (inputs nodes : ℕ) (fanins roles : List ℕ) (turn : ℕ → ℕ) (links₀ : List ℕ) (number : ℕ) (links : List ℕ) (last i : ℕ) : Type 0 where
  pub searched : Searched inputs nodes fanins roles links last
  pub onward : number ≤ last
  pub same : last ≡ number → links ≡ links₀
  pub settled : last ≡ number → (j : ℕ) → j < i → at (area_in roles) (turn j) ≡ 1 → SettledIn inputs nodes fanins roles links (turn j)
  pub kept : PathsKept nodes links₀ links

module _ {inputs nodes : ℕ} {fanins roles : List ℕ} {turn : ℕ → ℕ} {links₀ : List ℕ} {number : ℕ} where
  take_turn : {links links' : List ℕ} {last i r : ℕ} {b : Bool} → SweepLeft inputs nodes fanins roles turn links₀ number links last i →
      Visited inputs nodes fanins roles links (turn i) last r links' → EndReached (ends_in roles) (outs_in nodes links') (turn i) b → b ≡ false →
      SweepLeft inputs nodes fanins roles turn links₀ number links' r (i + 1)
  take_turn {links} {links'} {last} {i} {r} l visited reached none =
      record {
        searched = visited.searched;
        onward = omega (arith, l.onward, visited.onward);
        same = λ quiet. visited.same (still quiet) ∙ l.same (before quiet);
        settled = λ quiet j below inside. by_turn quiet j below inside (ℕ_discrete j i);
        kept = paths_then l.kept visited.kept;
      }
    where
      before : r ≡ number → last ≡ number
      before quiet = omega (arith, l.onward, visited.onward)

      still : r ≡ number → r ≡ last
      still quiet = omega (arith, l.onward, visited.onward)

      by_turn : r ≡ number → (j : ℕ) → j < i + 1 → at (area_in roles) (turn j) ≡ 1 → Dec (j ≡ i) → SettledIn inputs nodes fanins roles links' (turn j)
      by_turn quiet j below inside (no apart) =
          subst (λ (l : List ℕ). SettledIn inputs nodes fanins roles l (turn j)) (sym (visited.same (still quiet)))
          (l.settled (before quiet) j (omega arith) inside)
      by_turn quiet j below inside (yes e) =
          subst (λ (m : ℕ). SettledIn inputs nodes fanins roles links' (turn m)) (sym e)
          (record { calm = visited.calm (still quiet) (ap (λ (m : ℕ). at (area_in roles) (turn m)) (sym e) ∙ inside); no_end = reached.missed none })

  pub sweep_turn : {links links' : List ℕ} {last i r v : ℕ} {b : Bool} → SweepLeft inputs nodes fanins roles turn links₀ number links last i → v ≡ turn i →
      Visited inputs nodes fanins roles links v last r links' → EndReached (ends_in roles) (outs_in nodes links') v b → b ≡ false →
      SweepLeft inputs nodes fanins roles turn links₀ number links' r (i + 1)
  sweep_turn {links} {links'} {last} {r = r} {b = b} l e visited reached none =
      take_turn l (subst (λ (w : ℕ). Visited inputs nodes fanins roles links w last r links') e visited)
      (subst (λ (w : ℕ). EndReached (ends_in roles) (outs_in nodes links') w b) e reached) none

module _ {inputs nodes : ℕ} {fanins order roles : List ℕ} (field : Field inputs nodes fanins order roles) where
  pub order_size : inputs + length order ≡ nodes
  unfolding net_in
  order_size = field.ordered.size

  pub gate_above : (j : ℕ) → j < length order → inputs ≤ at order j
  unfolding net_in
  gate_above j low = (field.ordered.gates (at order j) (member_at order j low)).above

  pub gate_below : (j : ℕ) → j < length order → at order j < nodes
  unfolding net_in
  gate_below j low = (field.ordered.gates (at order j) (member_at order j low)).below

  -- what the test for an end asks
  pub end_asked : {links : List ℕ} {last v : ℕ} → Searched inputs nodes fanins roles links last → v < nodes → EndAsked nodes roles links v
  end_asked {v = v} s low =
      record { small = field.ground.small; long = s.long; roles_long = field.ground.roles_long; node = low; inside = field.ends_inside v }

  -- the inputs and then the gates: where no number was given, all are settled
  pub sweep_settles : {links₀ links links' : List ℕ} {number last last' i j : ℕ} → SweepLeft inputs nodes fanins roles (λ v. v) links₀ number links last i →
      inputs ≤ i → SweepLeft inputs nodes fanins roles (at order) links last links' last' j → length order ≤ j → last' ≡ number →
      AllSettled inputs nodes fanins roles links'
  unfolding net_in
  sweep_settles {links = links} {links' = links'} {number = number} {last = last} {last' = last'} a all b every quiet v inside = by_side (dec_lt v inputs)
    where
      still : last' ≡ last
      still = omega (arith, a.onward, b.onward)

      before : last ≡ number
      before = omega (arith, a.onward, b.onward)

      by_side : Dec (v < inputs) → SettledIn inputs nodes fanins roles links' v
      by_side (yes less) =
          subst (λ (l : List ℕ). SettledIn inputs nodes fanins roles l v) (sym (b.same still)) (a.settled before v (omega arith) inside)
      by_side (no high) =
          let p = place_of (field.ordered.all v (record { above = omega arith; below = area_low field.ground v inside })) in
          subst (SettledIn inputs nodes fanins roles links') p.entry
          (b.settled still p.at (omega (arith, p.inside)) (ap (at (area_in roles)) p.entry ∙ inside))

-- Where a search starts: nothing was found.

zeros_at : (n v : ℕ) → at (replicate n 0) v ≡ 0
zeros_at n v = by_place (dec_lt v n)
  where
    by_place : Dec (v < n) → at (replicate n 0) v ≡ 0
    by_place (yes low) = get_or-replicate n v 0 0 low
    by_place (no high) = get_or-eq_default (replicate n 0) 0 {n = v} (omega (arith, length-replicate {A = ℕ} n 0))

-- a column that was cleared
pub zeros_in : (n : ℕ) {l : List ℕ} → l ≡ replicate n 0 → (v : ℕ) → at l v ≡ 0
zeros_in n e v = ap (λ (m : List ℕ). at m v) e ∙ zeros_at n v

pub search_starts : {inputs nodes : ℕ} {fanins order roles links links' : List ℕ} → SearchAsked inputs nodes fanins order roles links →
    Cleared nodes 2 2 links links' → Searched inputs nodes fanins roles links' 0
search_starts {nodes = nodes} {links = links} {links' = links'} asked clear =
    let next_same : next_in nodes links' ≡ next_in nodes links = clear.others 0 (inl (omega arith)) in
    record {
      long = omega (arith, asked.long, clear.rest.size);
      leads = rw next_same asked.leads;
      found = none_found (zeros_in nodes (clear.zeros 2 (omega arith) (omega arith))) (zeros_in nodes (clear.zeros 3 (omega arith) (omega arith)));
    }

-- a clear behind the first two columns
pub paths_cleared : {nodes first many : ℕ} {links links' : List ℕ} → 2 ≤ first → Cleared nodes first many links links' → PathsKept nodes links links'
paths_cleared high clear = record { next = clear.others 0 (inl (omega arith)); prev = clear.others 1 (inl (omega arith)); rest = clear.rest }

-- How a sweep ended tells what it left.

module _ {inputs nodes : ℕ} {fanins roles links : List ℕ} {number : ℕ} {r : ControlFlow Node ℕ} (s : SweptSo inputs nodes fanins roles number r links) where
  pub swept_reached : {v : Node} → r ≡ Break v → EndFound inputs nodes fanins roles links v.id
  swept_reached {v} e = by_end s
    where
      by_end : SweptSo inputs nodes fanins roles number r links → EndFound inputs nodes fanins roles links v.id
      by_end (SweptSo.reached w f found) = subst (λ (u : Node). EndFound inputs nodes fanins roles links u.id) (cc) found
      by_end (SweptSo.up_to last f _ _ _) = absurd (let z : ◌≡◌ {A = ℕ} 0 1 = cc in omega arith)

  pub swept_up_to : {m : ℕ} → r ≡ Continue m → Searched inputs nodes fanins roles links m × (number ≤ m) × (m ≡ number → AllSettled inputs nodes fanins roles links)
  swept_up_to {m} e = by_end s
    where
      by_end : SweptSo inputs nodes fanins roles number r links →
          Searched inputs nodes fanins roles links m × (number ≤ m) × (m ≡ number → AllSettled inputs nodes fanins roles links)
      by_end (SweptSo.reached w f found) = absurd (let z : ◌≡◌ {A = ℕ} 0 1 = cc in omega arith)
      by_end (SweptSo.up_to last f searched onward settled) =
          let same : last ≡ m = cc in (subst (Searched inputs nodes fanins roles links) same searched, omega arith, λ quiet. settled (omega arith))

-- How a search ended tells what it left.

module _ {inputs nodes : ℕ} {fanins roles links : List ℕ} {r : Option Node} (s : SoughtSo inputs nodes fanins roles r links) where
  pub sought_end : {v : Node} → r ≡ Some v → EndFound inputs nodes fanins roles links v.id
  sought_end {v} e = by_end s
    where
      by_end : SoughtSo inputs nodes fanins roles r links → EndFound inputs nodes fanins roles links v.id
      by_end (SoughtSo.ended w f found) = subst (λ (u : Node). EndFound inputs nodes fanins roles links u.id) (cc) found
      by_end (SoughtSo.nothing last f _ _) = absurd (let z : ◌≡◌ {A = ℕ} 0 1 = cc in omega arith)

  pub sought_nothing : r ≡ None → (last : ℕ) × Searched inputs nodes fanins roles links last × AllSettled inputs nodes fanins roles links
  sought_nothing e = by_end s
    where
      by_end : SoughtSo inputs nodes fanins roles r links → (last : ℕ) × Searched inputs nodes fanins roles links last × AllSettled inputs nodes fanins roles links
      by_end (SoughtSo.ended w f found) = absurd (let z : ◌≡◌ {A = ℕ} 0 1 = cc in omega arith)
      by_end (SoughtSo.nothing last f searched settled) = (last, searched, settled)
