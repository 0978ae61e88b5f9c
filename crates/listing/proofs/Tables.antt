-- From what `take_table` answers to what `list` promises.
use Prim.Native.Nat.{ℕ, ◌+◌, ◌≤◌}
use native.Mathlib.Omega.{arith}
use mathlib.Core.Path.{◌≡◌, refl, ap, sym, subst}
use mathlib.Core.List.{List}
use lib.ListN.{length}
use Rattle.std.specs.Prelude.{Err}
use Rattle.storage.specs.declared.Node.{Node}
use Rattle.storage.specs.declared.Numbers.{Numbers}
use Rattle.drawing.specs.declared.Refusal.{Refusal}
use Rattle.drawing.specs.Refusals as table
use Rattle.drawing.specs.paper.Limits.{most_outputs}
use Rattle.drawing.specs.paper.Fields.{head_k, head_i}
use Rattle.drawing.specs.paper.Reading.{table_of, numbers_of}
use Rattle.drawing.proofs.SoundTables.{table_sound}
use Rattle.taking.specs.declared.TakeError.TheVariants as taking
use Rattle.taking.specs.Judged.{Ready}
use Rattle.taking.specs.paper.Says.{Taking, Says, number, place}
use Rattle.taking.proofs.Judged.{refusal_number}
use Rattle.wording.specs.paper.Text.{listing_of, refused_line}
use Rattle.wording.specs.paper.Puts.{Wrote}
use Rattle.wording.specs.paper.Filled.{Filled}
use Rattle.keeping.specs.paper.Printed.{mapping_of}
use Rattle.keeping.proofs.Printed.{depths_listed}
use Rattle.keeping.proofs.Tables.{bounded, outputs_are_nodes, table_ranked}
use Rattle.settling.proofs.Tables.{taken_asked, sheet_of_table}
use Rattle.listing.specs.paper.Lists.{text_room, Listing, Lists}
use Rattle.listing.specs.Lists.{ListAsked, TakenListed}

module _ {s fanins rows outputs order : List ℕ} (ready : Ready s fanins rows outputs order) where
  pub list_asked : {n : Numbers} {text : List ℕ} → n ≡ numbers_of s → text_room ≤ length text → ListAsked n fanins rows order outputs text
  list_asked is long =
      let few = (table_sound s ready.taken.whole).few in
      record { taken = taken_asked ready is; few = subst (λ (m : Numbers). m.roots ≤ most_outputs) (sym is) few; room = long }

  lists_numbered : {before : List ℕ} {r : ℕ} {after : List ℕ} → text_room ≤ length before → TakenListed (numbers_of s) fanins rows outputs before r after →
      Lists s before r after
  lists_numbered long done =
      let whole = ready.taken.whole in
      let settled = sheet_of_table ready (λ net lab t paths. Unit {0}) done.settled in
      let depths = depths_listed (table_of s) (head_k s) done.sheet (bounded s whole) (table_ranked s whole ready.taken.no_loop) (outputs_are_nodes s whole) settled in
      let gates = ap (λ (g : ℕ). head_i s + g) (table_sound s ready.taken.whole).size in
      Filled.written (listing_of (mapping_of (table_of s) done.sheet)) long
      (Listing.listed done.sheet ready.taken settled depths)
      (done.text (table_of s) (record { k = refl; inputs = refl; gates = gates; outputs_are = sym ready.outputs_held }))

  pub lists_taken : {n : Numbers} {before : List ℕ} {r : ℕ} {after : List ℕ} → n ≡ numbers_of s → text_room ≤ length before →
      TakenListed n fanins rows outputs before r after → Lists s before r after
  lists_taken {before = before} {r} {after} is long done =
      lists_numbered long (subst (λ (m : Numbers). TakenListed m fanins rows outputs before r after) is done)

pub lists_refused : {s before : List ℕ} {t : Taking} {x : Refusal} {r : ℕ} {after : List ℕ} → Says s t → t ≡ Err (taking.Refused x) →
    text_room ≤ length before → Wrote before (refused_line (table.number x) (table.place x)) r after → Lists s before r after
lists_refused {s} {x = x} says is long wrote =
    Filled.written (refused_line (table.number x) (table.place x)) long
    (Listing.refused (subst (Says s) is says) (λ zero. omega (arith, zero, (refusal_number x).0))) wrote

pub lists_loop : {s before : List ℕ} {t : Taking} {g : Node} {r : ℕ} {after : List ℕ} → Says s t → t ≡ Err (taking.LoopAt g) → text_room ≤ length before →
    Wrote before (refused_line (number (Err (taking.LoopAt g))) (place (Err (taking.LoopAt g)))) r after → Lists s before r after
lists_loop {s} {g = g} says is long wrote =
    Filled.written (refused_line (number (Err (taking.LoopAt g))) (place (Err (taking.LoopAt g)))) long (Listing.refused (subst (Says s) is says) (λ zero. omega (arith, zero))) wrote
