-- What `take_table` answers for the encoding of a table within document 01's numbers, with arrays that are long enough: it is taken, and its
-- net has no loop; or the lowest gate on a loop of its net is named. Nothing else.
use Prim.Native.Nat.{ℕ, ◌≤◌}
use native.Mathlib.Omega.{arith}
use mathlib.Core.Path.{◌≡◌, sym, subst, ◌∙◌}
use mathlib.Core.List.{List}
use lib.ListN.{length}
use Rattle.std.specs.Prelude.{Ok}
use Rattle.theory.specs.paper.Net.{Net}
use Rattle.theory.specs.paper.Walk.{LowestLoop, NoLoop}
use Rattle.storage.specs.declared.Numbers.{Numbers}
use Rattle.drawing.specs.paper.Limits.{most_nodes, most_outputs}
use Rattle.drawing.specs.paper.Table.{Table, net_of}
use Rattle.drawing.specs.Reading.{arrays_of, most_places}
use Rattle.drawing.proofs.Verdicts.{not_sound}
use Rattle.taking.specs.Taking.{Takes}
use Rattle.taking.specs.paper.Says.{Taking, Says}
use Rattle.taking.proofs.Judged.{says}
use Rattle.tabling.specs.paper.Encoding.{encode}
use Rattle.tabling.specs.Within.{Within}
use Rattle.tabling.specs.Judged.{Judged}
use Rattle.tabling.proofs.RoundTrip.{reads_whole, drawn_back}

says_judged : (table : Table) → Within table → {r : Taking} → Says (encode table) r → Judged table r
says_judged table within (Says.refused {x = x} refused) = absurd (not_sound x (sym refused ∙ reads_whole table within))
says_judged table within (Says.loop {g = g} _ lowest) =
    Judged.loop (subst (λ (net : Net). LowestLoop net g.id) (drawn_back table within) lowest)
says_judged table within (Says.taken is) = Judged.taken (subst NoLoop (drawn_back table within) is.no_loop)

module _ {table : Table} (within : Within table) {fanins₀ rows₀ outputs₀ order₀ marks₀ s fanins rows outputs order marks : List ℕ} {r : Taking}
    (takes : Takes (arrays_of fanins₀ rows₀ outputs₀) order₀ marks₀ s r (arrays_of fanins rows outputs) order marks) (is : s ≡ encode table)
    (fanins-long : most_places ≤ length fanins₀) (rows_long : most_nodes ≤ length rows₀) (outputs_long : most_outputs ≤ length outputs₀)
    (order_long : most_nodes ≤ length order₀) (marks_long : most_nodes ≤ length marks₀) where
  pub judged : Judged table r
  judged =
      says_judged table within (subst (λ (bytes : List ℕ). Says bytes r) is (says takes fanins-long rows_long outputs_long order_long marks_long))

-- by the answer's case
pub taken_no_loop : {table : Table} {r : Taking} {n : Numbers} → Judged table r → r ≡ Ok n → NoLoop (net_of table)
taken_no_loop (Judged.taken none) same = none
taken_no_loop (Judged.loop _) same = let z : ◌≡◌ {A = ℕ} 0 1 = cc in absurd (omega arith)
