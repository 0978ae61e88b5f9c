-- A line of names grows name by name; where it ends or stops, so does the machine's run.
use Prim.Native.Nat.{ℕ, suc, ◌+◌, ◌*◌, ◌≤◌}
use native.Mathlib.Omega.{arith}
use native.Mathlib.Nat.{add-zero}
use mathlib.Core.Path.{◌≡◌, refl, sym, ap, ◌∙◌, subst}
use mathlib.Core.Bool.{Bool, cond}
use mathlib.Core.List.{List, [], ◌∷◌, ◌++◌}
use lib.ListN.{length, length-append}
use lib.Dec.{ltb}
use lib.Seq.{sets, length-sets}
use borrow.Author.Tests.{lt-ltb, le-ltb, ltb-true}
use Rattle.storage.proofs.Stores.{sets_append}
use Rattle.grammar.specs.paper.Text.{byte_at}
use Rattle.grammar.specs.paper.Grammar.{between, Gap, Name, Names}
use Rattle.grammar.specs.Machine.{Which, State, Runs}
use Rattle.grammar.proofs.Moves.{Place}
use Rattle.grammar.proofs.Runs.{run_then}
use Rattle.grammar.proofs.Stops.{halts_then}
use Rattle.scanning.specs.Lines.{
  which_of,
  start_of,
  behind_word,
  NextName,
  LineEnd,
  NoEntry,
  Listed,
  pairs_from,
  LineAsked,
  Reading,
  LineRead,
  LineStopped,
}
use Rattle.scanning.proofs.Entries.{named_onward, entry_run, entry_halts, end_run}

-- lists of names
pub listed_more : {s : List ℕ} {i j a b : ℕ} {ps : List ℕ} → Listed s i j ps → Gap s j a → Name s a b → Listed s i b (ps ++ (a ∷ []))
listed_more Listed.none gap name = Listed.more gap name Listed.none
listed_more (Listed.more g n rest) gap name = Listed.more g n (listed_more rest gap name)

pub listed_names : {s : List ℕ} {i j : ℕ} {ps : List ℕ} → Listed s i j ps → 1 ≤ length ps → Names s i j ps
listed_names Listed.none some = absurd (omega arith)
listed_names (Listed.more gap name Listed.none) some = Names.one gap name
listed_names (Listed.more gap name (Listed.more g n rest)) some = Names.more gap name (listed_names (Listed.more g n rest) (omega arith))

-- what is kept of them
pub pairs_more : (outs : Bool) (n : ℕ) (ps : List ℕ) (p : ℕ) →
    pairs_from outs n (ps ++ (p ∷ [])) ≡ pairs_from outs n ps ++ (p ∷ cond outs 0 (n + length ps) ∷ [])
unfolding pairs_from
pairs_more outs n [] p = rw add-zero
pairs_more outs n (q ∷ ps) p =
    ap (λ (l : List ℕ). q ∷ cond outs 0 n ∷ l)
    (pairs_more outs (suc n) ps p ∙ ap (λ (m : ℕ). pairs_from outs (suc n) ps ++ (p ∷ cond outs 0 m ∷ [])) (omega arith))

pub length_pairs : (outs : Bool) (n : ℕ) (ps : List ℕ) → length (pairs_from outs n ps) ≡ 2 * length ps
unfolding pairs_from
length_pairs outs n [] = refl
length_pairs outs n (p ∷ ps) = omega (arith, length_pairs outs (suc n) ps)

start_alive : (x : Which) → start_of x ≡ State.done → ⊥
unfolding start_of
start_alive Which.ins e = let z : ◌≡◌ {A = ℕ} 0 1 = cc in omega arith
start_alive Which.outs e = let z : ◌≡◌ {A = ℕ} 0 1 = cc in omega arith

module _ {s : List ℕ} {outs : Bool} {at listed : ℕ} {names₀ : List ℕ} where
  pub reading_none : LineAsked s outs at listed names₀ → Reading s outs at listed names₀ names₀ at listed
  unfolding pairs_from
  reading_none asked =
      record {
        places = [];
        listing = Listed.none;
        counted = omega arith;
        stored = refl;
        within = asked.within;
        few = asked.few;
        state = start_of (which_of outs);
        run = Runs.stay;
        alive = start_alive (which_of outs);
        takes = asked.takes ∙ ap (λ (t : Bool). behind_word (which_of outs) t (byte_at s at)) (sym (le-ltb listed listed (omega arith)));
      }

  pub reading_more : {names names' : List ℕ} {end count from next : ℕ} → Reading s outs at listed names₀ names end count → NextName s end from next →
      names' ≡ sets names (2 * count) (from ∷ cond outs 0 count ∷ []) → Reading s outs at listed names₀ names' next (count + 1)
  unfolding behind_word
  reading_more {names} {names'} {end} {count} {from} {next} sofar entry kept =
      record {
        places = sofar.places ++ (from ∷ []);
        listing = listed_more sofar.listing entry.gap entry.named.name;
        counted = omega (arith, length-append sofar.places (from ∷ []));
        stored = stored;
        within = entry.named.within;
        few = omega (arith, sofar.few, entry.gap.some, entry.named.name.some);
        state = State.listed (which_of outs) (between s from next);
        run = run_then sofar.run (entry_run (which_of outs) (ltb listed count) sofar.takes entry);
        alive = λ e. let z : ◌≡◌ {A = ℕ} 0 1 = cc in omega arith;
        takes =
            named_onward (Place.line (which_of outs)) entry.named
            ∙ ap (λ (t : Bool). behind_word (which_of outs) t (byte_at s next)) (sym (lt-ltb listed (count + 1) (omega (arith, sofar.counted))));
      }
    where
      place_is : 2 * count ≡ 2 * listed + length (pairs_from outs listed sofar.places)
      place_is = omega (arith, sofar.counted, length_pairs outs listed sofar.places)

      pair : List ℕ
      pair = from ∷ cond outs 0 count ∷ []

      stored : names' ≡ sets names₀ (2 * listed) (pairs_from outs listed (sofar.places ++ (from ∷ [])))
      stored =
          kept ∙ ap (λ (l : List ℕ). sets l (2 * count) pair) sofar.stored
          ∙ ap (λ (n : ℕ). sets (sets names₀ (2 * listed) (pairs_from outs listed sofar.places)) n pair) place_is
          ∙ sets_append names₀ (2 * listed) (pairs_from outs listed sofar.places) pair
          ∙ ap (λ (m : ℕ). sets names₀ (2 * listed) (pairs_from outs listed sofar.places ++ (from ∷ cond outs 0 m ∷ []))) sofar.counted
          ∙ ap (sets names₀ (2 * listed)) (sym (pairs_more outs listed sofar.places from))

  pub reading_size : {names : List ℕ} {end count : ℕ} → Reading s outs at listed names₀ names end count → length names ≡ length names₀
  reading_size sofar = ap length sofar.stored ∙ length-sets names₀ (2 * listed) (pairs_from outs listed sofar.places)

  pub reading_all : {names : List ℕ} {end count next : ℕ} → Reading s outs at listed names₀ names end count → LineEnd s end (ltb listed count) next →
      LineRead s outs at listed names₀ names next count
  reading_all {names} {end} {count} {next} sofar last =
      record {
        places = sofar.places;
        names_end = end;
        stop = last.stop;
        names_here = listed_names sofar.listing (omega (arith, sofar.counted, ltb-true listed count last.behind_name));
        blanks = last.blanks;
        end = last.end;
        counted = sofar.counted;
        stored = sofar.stored;
        within = last.within;
        solid = last.solid;
        few = omega (arith, sofar.few, last.blanks.ordered, last.end.blanks.ordered);
        run =
            run_then sofar.run
            (end_run (which_of outs)
            (sofar.takes ∙ ap (λ (t : Bool). behind_word (which_of outs) t (byte_at s end)) last.behind_name)
            (subst (λ (t : Bool). LineEnd s end t next) last.behind_name last));
      }

  pub reading_stops : {names : List ℕ} {end count p : ℕ} → Reading s outs at listed names₀ names end count → NoEntry s end (ltb listed count) p →
      LineStopped s outs at names₀ names p
  reading_stops {count = count} sofar nothing =
      record {
        halts = halts_then sofar.run (entry_halts (which_of outs) (ltb listed count) sofar.takes sofar.alive nothing);
        size = reading_size sofar;
      }
