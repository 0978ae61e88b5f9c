-- A table read whole can be ordered: its arrays hold a K-bounded net. And one promise allows one reply.
use Prim.Native.Nat.{ℕ, ◌≤◌}
use mathlib.Core.Path.{◌≡◌, refl, ap, sym, subst, ◌∙◌}
use mathlib.Core.Bool.{true≢false}
use mathlib.Core.List.{List}
use native.Mathlib.Omega.{arith}
use lib.ListN.{length}
use Rattle.theory.specs.paper.Net.{Net}
use Rattle.theory.specs.paper.Sound.{Bounded}
use Rattle.storage.specs.declared.Numbers.{Numbers}
use Rattle.storage.specs.Drawings.{net_in, Drawn}
use Rattle.storage.proofs.Drawings.{drawn_six}
use Rattle.std.specs.Prelude.{⊤, Result, Ok, Err, MatchResult, IsErrAnd}
use Rattle.std.proofs.lemmas.Result.{err_from_is_err_and}
use Rattle.taking.specs.declared.TakeError.{TakeError}
use Rattle.taking.specs.declared.TakeError.TheVariants.{LoopAt}
use Rattle.storage.specs.declared.Node.{Node}
use Rattle.drawing.specs.declared.ReadError.{ReadError}
use Rattle.drawing.specs.declared.ReadError.TheVariants as read
use Rattle.drawing.specs.paper.Limits.{most_nodes}
use Rattle.drawing.specs.paper.Table.{net_of}
use Rattle.drawing.specs.paper.Fields.{head_k, head_i}
use Rattle.drawing.specs.paper.Reading.{nodes_of, table_of}
use Rattle.drawing.specs.Reading.{Reading, Arrays, reading, filled}
use Rattle.drawing.proofs.SoundTables.{read_whole, table_sound}
use Rattle.drawing.proofs.Held.{Holds, whole_holds}
use Rattle.walking.specs.Promises.{OrderRoom, OrderMade}
use Rattle.walking.proofs.Unique.{ruling_one, order_one}
use Rattle.taking.specs.paper.Says.{Taking}
use Rattle.taking.specs.Taking.{after_order, error_of, After, Takes}

-- arrays that hold a table are drawn
pub holds_drawn : {s : List ℕ} {after : Arrays} → Holds s after → Drawn (head_i s) (nodes_of s) (head_k s) after.lines.fanins
holds_drawn {s} holds = record { lists = holds.lists; bounded = subst (λ (net : Net). Bounded net (head_k s)) (sym holds.net) holds.bounded }

module _ (a : Arrays) (s : List ℕ) (n : Numbers) (whole : reading a s ≡ Ok n) {after : Arrays} (is : after ≡ filled a s) where
  holds : Holds s after
  holds = let known = read_whole a s n whole in subst (Holds s) (sym is) (whole_holds a s known.long known.sound)

  pub same_net : net_in n.inputs n.nodes after.lines.fanins ≡ net_of (table_of s)
  same_net =
      subst (λ (m : Numbers). net_in m.inputs m.nodes after.lines.fanins ≡ net_of (table_of s)) (sym (read_whole a s n whole).numbers)
      holds.net

  pub whole_room : (order marks : List ℕ) → most_nodes ≤ length order → most_nodes ≤ length marks →
      OrderRoom n.inputs n.nodes after.lines.fanins order marks
  whole_room order marks long_order long-marks =
      let known = read_whole a s n whole in
      let most = (table_sound s known.sound).head.nodes_most in
      subst (λ (m : Numbers). OrderRoom m.inputs m.nodes after.lines.fanins order marks) (sym known.numbers)
      (record { drawn = drawn_six (holds_drawn holds); small = omega arith; order_long = omega arith; marks_long = omega arith })

  pub whole_after : {order₀ marks₀ : List ℕ} {r : Taking} {order marks : List ℕ} (o : Result ⊤ Node) → r ≡ after_order n o →
      OrderMade (net_in n.inputs n.nodes after.lines.fanins) order₀ marks₀ o order marks → After s order₀ marks₀ r order marks (reading a s)
  whole_after {order₀} {marks₀} {r} {order} {marks} o reply made =
      subst (After s order₀ marks₀ r order marks) (sym whole)
      (After.ordered o reply (subst (λ (net : Net). OrderMade net order₀ marks₀ o order marks) same_net made))

-- a table that is not read is not ordered
pub refused_after : {s order₀ marks₀ : List ℕ} (e : ReadError) → After s order₀ marks₀ (Err (error_of e)) order₀ marks₀ (Err e)
refused_after (read.Refused r) = After.refused refl refl refl
refused_after read.TooShort = After.short refl refl refl

-- what became of the order's reply, an error of the table where there is a loop
abbrev pub Mapped : Result ⊤ Node → Result ⊤ TakeError → Type 0
Mapped o m = MatchResult o (λ y. m ≡ Ok y) (λ g. IsErrAnd m (λ t. t ≡ LoopAt g))

pub ordered_ok : (n : Numbers) {m : Result ⊤ TakeError} {x : ⊤} (o : Result ⊤ Node) → Mapped o m → m ≡ Ok x → ◌≡◌ {A = Taking} (Ok n) (after_order n o)
ordered_ok n (Ok _) p e = refl
ordered_ok n {m} (Err g) p e = absurd (let q = err_from_is_err_and m p in let z : ◌≡◌ {A = ℕ} 0 1 = cc in omega arith)

pub ordered_err : (n : Numbers) {m : Result ⊤ TakeError} {t : TakeError} (o : Result ⊤ Node) → Mapped o m → m ≡ Err t →
    ◌≡◌ {A = Taking} (Err t) (after_order n o)
ordered_err n (Ok _) p e = absurd (let z : ◌≡◌ {A = ℕ} 0 1 = cc in omega arith)
ordered_err n {m} {t} (Err g) p e =
    let q = err_from_is_err_and m p in
    let same : q.0 ≡ t = cc in
    ap Err (sym same ∙ q.2)

-- Two replies that the promise allows are equal, and so is what the arrays hold.
after_one : {s order₀ marks₀ : List ℕ} {r r' : Taking} {order marks order' marks' : List ℕ} {x : Reading} →
    After s order₀ marks₀ r order marks x → After s order₀ marks₀ r' order' marks' x → (r ≡ r') × (order ≡ order') × (marks ≡ marks')
after_one (After.short p q m) (After.short p' q' m') = (p ∙ sym p', q ∙ sym q', m ∙ sym m')
after_one (After.refused p q m) (After.refused p' q' m') = (p ∙ sym p', q ∙ sym q', m ∙ sym m')
after_one (After.ordered {n} o p made) (After.ordered o' p' made') =
    let same = ruling_one made.reply made'.reply in
    (p ∙ ap (after_order n) same ∙ sym p', (order_one made made').1, (order_one made made').2)

pub one_taking : {a : Arrays} {order₀ marks₀ s : List ℕ} {r r' : Taking} {b b' : Arrays} {order marks order' marks' : List ℕ} →
    Takes a order₀ marks₀ s r b order marks → Takes a order₀ marks₀ s r' b' order' marks' →
    (r ≡ r') × (b ≡ b') × (order ≡ order') × (marks ≡ marks')
one_taking (Takes.short e p q o m) (Takes.short e' p' q' o' m') = (p ∙ sym p', q ∙ sym q', o ∙ sym o', m ∙ sym m')
one_taking (Takes.short e p q o m) (Takes.long e' q' x) = absurd (true≢false (sym e' ∙ e))
one_taking (Takes.long e q x) (Takes.short e' p' q' o' m') = absurd (true≢false (sym e ∙ e'))
one_taking (Takes.long e q x) (Takes.long e' q' y) = let same = after_one x y in (same.0, q ∙ sym q', same.1, same.2)
