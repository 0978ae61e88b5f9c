-- Arrays filled from one entry to another: entry by entry, run by run, and for nodes one at a time.
use Prim.Native.Nat.{ℕ, ◌+◌, ◌*◌, ◌-◌, ◌/◌, ◌%◌, ◌<◌, ◌≤◌}
use native.Mathlib.Omega.{arith}
use mathlib.Core.Path.{◌≡◌, refl, ap, sym, ◌∙◌}
use mathlib.Core.List.{List}
use lib.ListN.{length, get_or, set, length-set}
use lib.Seq.{get_or-set_same, get_or-set_other, ext_get_or}
use native.Mathlib.Decide.{dec_le}
use Rattle.theory.specs.paper.Values.{bit}
use Rattle.sheet.specs.paper.Sheet.{Line, Lut}
use Rattle.sheet.specs.paper.Rules.{line_of_node, is_listed, leaves_listed, table_listed}
use Rattle.shaping.specs.Loading.{Filled, counted, sevens, place_of, LineArrays, LineRoom, LinePut}
use Rattle.shaping.specs.Loading.{LinesFilled, Listed, listed_at, LutArrays}
use Rattle.shaping.specs.Loading.{LutRoom, LutPut, LutsFilled}

module _ (before : List ℕ) (low : ℕ) (f : ℕ → ℕ) where
  pub filled_none : Filled before low low f before
  filled_none =
      record {
        as_long = refl;
        filled = λ i least most. absurd (omega (arith, least, most));
        below = λ i less. refl;
        beyond = λ i more. refl;
      }

module _ {before : List ℕ} {low : ℕ} {f : ℕ → ℕ} where
  pub filled_to : {high high' : ℕ} {after : List ℕ} → high ≡ high' → Filled before low high f after → Filled before low high' f after
  filled_to e filled = rw (← e) filled

  pub filled_then : (mid high : ℕ) {g : ℕ → ℕ} {between after : List ℕ} → low ≤ mid → mid ≤ high → Filled before low mid f between →
      Filled between mid high g after → ((i : ℕ) → mid ≤ i → i < high → g i ≡ f i) → Filled before low high f after
  filled_then mid high {g} {between} {after} low-mid mid-high one two same =
      record {
        as_long = two.as_long ∙ one.as_long;
        filled = λ i least most. by i least most (dec_le mid i);
        below = λ i less. two.below i (omega (arith, less, low-mid)) ∙ one.below i less;
        beyond = λ i more. two.beyond i more ∙ one.beyond i (omega (arith, more, mid-high));
      }
    where
      by : (i : ℕ) → low ≤ i → i < high → Dec (mid ≤ i) → get_or after i 0 ≡ f i
      by i least most (yes more) = two.filled i more most ∙ same i more most
      by i least most (no less) = two.below i (omega (arith, less)) ∙ one.filled i least (omega (arith, less))

  pub filled_set : (i x : ℕ) {between : List ℕ} → low ≤ i → i < length before → x ≡ f i → Filled before low i f between →
      Filled before low (i + 1) f (set between i x)
  filled_set i x {between} least inside same one =
      filled_then i (i + 1) least (omega arith) one
      (record {
        as_long = length-set between i x;
        filled =
            λ j more less.
            let here : i ≡ j = omega (arith, more, less) in
            ap (λ (n : ℕ). get_or (set between i x) n 0) (sym here)
            ∙ get_or-set_same between i x 0 (omega (arith, one.as_long, inside))
            ∙ same
            ∙ ap f here;
        below = λ j less. get_or-set_other between i j x 0 (λ e. omega (arith, e, less));
        beyond = λ j more. get_or-set_other between i j x 0 (λ e. omega (arith, e, more));
      }) (λ j more less. refl)

  -- what was filled so is one list
  pub filled_one : {high : ℕ} {a b : List ℕ} → Filled before low high f a → Filled before low high f b → a ≡ b
  filled_one {high} {a} {b} one two =
      ext_get_or 0 a b (one.as_long ∙ sym two.as_long) (λ i inside. by i (dec_le high i) (dec_le low i))
    where
      by : (i : ℕ) → Dec (high ≤ i) → Dec (low ≤ i) → get_or a i 0 ≡ get_or b i 0
      by i (yes more) least = one.beyond i more ∙ sym (two.beyond i more)
      by i (no less) (yes least) = one.filled i least (omega (arith, less)) ∙ sym (two.filled i least (omega (arith, less)))
      by i (no less) (no under) = one.below i (omega (arith, under)) ∙ sym (two.below i (omega (arith, under)))

-- one node's entry
entry_more : {before between after : List ℕ} {low : ℕ} {f : ℕ → ℕ} (v x : ℕ) → low ≤ v → v + 1 ≤ length before → Filled before low v f between →
    after ≡ set between v x → x ≡ f v → Filled before low (v + 1) f after
entry_more v x least room one stored same = rw stored (filled_set v x least (omega (arith, room)) same one)

-- one node's seven places
sevens_more : {before between after : List ℕ} {low : ℕ} (g : ℕ → List ℕ) (v : ℕ) (vs : List ℕ) → low ≤ v →
    Filled before (7 * low) (7 * v) (sevens g) between →
    Filled between (7 * v) (7 * v + 7) (λ i. get_or (counted vs) (i - 7 * v) 0) after → vs ≡ g v →
    Filled before (7 * low) (7 * (v + 1)) (sevens g) after
sevens_more g v vs least one seven same =
    filled_to (omega arith)
    (filled_then (7 * v) (7 * v + 7) (omega (arith, least)) (omega arith) one seven
    (λ i more less.
    let node : v ≡ i / 7 = omega (arith, more, less) in
    let place : i - 7 * v ≡ i % 7 = omega (arith, more, less) in
    (λ j. get_or (counted (same j)) (i - 7 * v) 0) ∙ (λ j. get_or (counted (g (node j))) (place j) 0)))

module _ {inputs : ℕ} {s : List ℕ} {lines : List Line} where
  pub lines_begin : (low : ℕ) (a : LineArrays) → LinesFilled inputs s lines a low low a
  lines_begin low a =
      record {
        labels = filled_none a.labels low (λ v. (line_of_node inputs lines v).label);
        cuts = filled_none a.cuts (7 * low) (sevens (λ v. (line_of_node inputs lines v).leaves));
        places = filled_none a.places low (place_of inputs s);
      }

  pub lines_put : {before between after : LineArrays} {low v : ℕ} {line : Line} {place : ℕ} → low ≤ v → LineRoom (v + 1) before →
      LinesFilled inputs s lines before low v between → LinePut line place v between after → line ≡ line_of_node inputs lines v →
      place ≡ place_of inputs s v → LinesFilled inputs s lines before low (v + 1) after
  lines_put {v = v} {line = line} {place = place} least room one put same there =
      record {
        labels = entry_more v line.label least room.labels one.labels put.labels (ap (λ (l : Line). l.label) same);
        cuts =
            sevens_more (λ u. (line_of_node inputs lines u).leaves) v line.leaves least one.cuts put.cuts
            (ap (λ (l : Line). l.leaves) same);
        places = entry_more v place least room.places one.places put.places there;
      }

  -- the arrays stay as long as they were
  pub lines_room : {nodes low high : ℕ} {before after : LineArrays} (v : ℕ) → v ≤ nodes → LineRoom nodes before →
      LinesFilled inputs s lines before low high after → LineRoom v after
  lines_room v few room one =
      record {
        labels = omega (arith, few, room.labels, one.labels.as_long);
        cuts = omega (arith, few, room.cuts, one.cuts.as_long);
        places = omega (arith, few, room.places, one.places.as_long);
      }

pub line_room_lem : {nodes : ℕ} {a : LineArrays} (v : ℕ) → v ≤ nodes → LineRoom nodes a → LineRoom v a
line_room_lem v few room =
    record {
      labels = omega (arith, few, room.labels);
      cuts = omega (arith, few, room.cuts);
      places = omega (arith, few, room.places);
    }

pub lut_room_lem : {nodes : ℕ} {a : LutArrays} (v : ℕ) → v ≤ nodes → LutRoom nodes a → LutRoom v a
lut_room_lem v few room =
    record {
      luts = omega (arith, few, room.luts);
      cuts = omega (arith, few, room.cuts);
      tables = omega (arith, few, room.tables);
    }

pub put_as : {x y : Listed} {v : ℕ} {before after : LutArrays} → x ≡ y → LutPut x v before after → LutPut y v before after
put_as e put = rw (← e) put

module _ {luts : List Lut} where
  pub luts_begin : (a : LutArrays) → LutsFilled luts a 0 a
  luts_begin a =
      record {
        luts = filled_none a.luts 0 (λ v. bit (is_listed luts v));
        cuts = filled_to (omega arith) (filled_none a.cuts 0 (sevens (leaves_listed luts)));
        tables = filled_none a.tables 0 (table_listed luts);
      }

  pub luts_put : {before between after : LutArrays} {v : ℕ} → LutRoom (v + 1) before → LutsFilled luts before v between →
      LutPut (listed_at luts v) v between after → LutsFilled luts before (v + 1) after
  luts_put {v = v} room one put =
      record {
        luts = entry_more v (bit (is_listed luts v)) (omega arith) room.luts one.luts put.luts refl;
        cuts = sevens_more {low = 0} (leaves_listed luts) v (leaves_listed luts v) (omega arith) one.cuts put.cuts refl;
        tables = entry_more v (table_listed luts v) (omega arith) room.tables one.tables put.tables refl;
      }

  pub luts_room : {nodes high : ℕ} {before after : LutArrays} (v : ℕ) → v ≤ nodes → LutRoom nodes before → LutsFilled luts before high after →
      LutRoom v after
  luts_room v few room one =
      record {
        luts = omega (arith, few, room.luts, one.luts.as_long);
        cuts = omega (arith, few, room.cuts, one.cuts.as_long);
        tables = omega (arith, few, room.tables, one.tables.as_long);
      }
