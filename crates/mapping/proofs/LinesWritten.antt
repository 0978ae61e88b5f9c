-- A gate's line is what the arrays have for the gate, with evidence where it is due; and the lines of the gates passed, one after the other.
use Prim.Native.Nat.{ℕ, suc, ◌+◌, ◌*◌, ◌-◌, ◌≤◌, ◌<◌}
use native.Mathlib.Nat.{mul-le-mul_right, one-mul, add-mul}
use native.Mathlib.Decide.{ℕ_discrete}
use native.Mathlib.Omega.{arith}
use mathlib.Core.Path.{◌≡◌, refl, ap, sym, subst, ◌∙◌}
use mathlib.Core.Bool.{Bool, true, false}
use mathlib.Core.List.{List, [], ◌∷◌, ◌++◌, flat_map}
use lib.ListN.{length, get_or, length-append, get_or-append}
use lib.Seq.{get_or-append_seam}
use Rattle.storage.specs.Drawings.{net_in, Fed}
use Rattle.storage.specs.Lists.{size_at, list_at}
use Rattle.storage.specs.Marks.{Tells}
use Rattle.storage.proofs.Drawings.{gate_below, drawn_span, fed_in}
use Rattle.theory.specs.paper.Net.{Net, Input}
use Rattle.theory.specs.paper.Walk.{Cut}
use Rattle.theory.specs.paper.Sound.{Ranked}
use Rattle.theory.specs.paper.Cover.{Label}
use Rattle.theory.specs.paper.Evidence.{peak, Evidence, Owes}
use Rattle.theory.proofs.Walks.{no_loop}
use Rattle.theory.proofs.FlowMap.{labels_at_inputs}
use Rattle.theory.proofs.MappersCuts.{mappers_cut_is_cut}
use Rattle.walking.proofs.Orders.{drawn_ranked}
use Rattle.area.specs.Area.{label_in}
use Rattle.flow.specs.Paths.{paths_in}
use Rattle.labelling.specs.Evidence.{EvidenceAsked, EvidenceFound}
use Rattle.sheet.specs.declared.Form.{Form}
use Rattle.sheet.specs.paper.Sheet.{line_of, no_line}
use Rattle.sheet.specs.paper.Encoding.{line_field}
use Rattle.sheet.specs.Writing.{Room, Written}
use Rattle.sheet.specs.Longest.{Backed, Drawing, line_most}
use Rattle.sheet.proofs.Numbers.{flat_more}
use Rattle.sheet.proofs.Longest.{line_short}
use Rattle.sheet.proofs.Writes.{then, written_as, same_size}
use Rattle.mapping.specs.Lines.{ProvenAsked, LineAsked, LinesAsked, LineOf, LineWritten, LinesWritten}

-- whether evidence is due, told by the label and p
module _ {net : Net} {lab : ℕ → ℕ} {t label p : ℕ} {r : Bool} (is : label ≡ lab t) (known : p ≡ peak net lab t)
    (told : Tells ((label ≡ suc p) × (1 ≤ p)) r) where
  pub owes_so : r ≡ true → Owes net lab t
  owes_so e = let both = told.yes e in record { above = sym is ∙ both.0 ∙ ap suc known; some = omega (arith, both.1) }

  pub owes_not : r ≡ false → Owes net lab t → ⊥
  owes_not e owes = told.no e (is ∙ owes.above ∙ ap suc (sym known), omega (arith, owes.some))

module _ {form : Form} {inputs nodes k : ℕ} {fanins order : List ℕ} {t : ℕ} {labels cuts roles links sheet : List ℕ} {at : ℕ}
    (asked : LineAsked form inputs nodes k fanins order t labels cuts roles links sheet at) where
  pub gate_low : t < nodes
  gate_low = gate_below inputs nodes fanins asked.gate

  pub line_fed : Fed fanins t (length labels)
  line_fed = fed_in asked.arrays.drawing.drawn t gate_low (length labels) asked.arrays.labelled.labels_long

  -- the places of the gate's cut
  pub cut_places : (7 * t + 7 ≤ length cuts) × (size_at cuts t ≤ 6)
  cut_places =
      let low = gate_low in
      (omega (arith, asked.arrays.labelled.cuts_long), asked.arrays.labelled.six t low)

  ranked : Ranked (net_in inputs nodes fanins)
  ranked = drawn_ranked asked.arrays.drawing.drawn asked.arrays.drawing.ordered

  drawing : Drawing (net_in inputs nodes fanins) k
  unfolding net_in
  drawing = record { bounded = asked.arrays.drawing.drawn.bounded; some = asked.arrays.some; no_loop = no_loop ranked }

  labelled : (v : ℕ) → v < (net_in inputs nodes fanins).nodes → Label (net_in inputs nodes fanins) k [] v (label_in labels v)
  unfolding net_in
  labelled v low = asked.arrays.labelled.label v low []

  inputs_zero : (v : ℕ) → Input (net_in inputs nodes fanins) v → label_in labels v ≡ 0
  inputs_zero = labels_at_inputs asked.arrays.drawing.drawn.bounded ranked labelled

  cut_here : Cut (net_in inputs nodes fanins) k t (list_at cuts t)
  cut_here = mappers_cut_is_cut asked.arrays.drawing.drawn.bounded ranked asked.gate (asked.arrays.labelled.cut t asked.gate)

  -- a line that the rules allow has room
  short : (label : ℕ) {paths : List (List ℕ)} → Backed (net_in inputs nodes fanins) k (label_in labels) t paths →
      length (line_field form (line_of label (list_at cuts t) paths)) ≤ line_most form.width k (net_in inputs nodes fanins).nodes
  short label {paths} backed = line_short drawing inputs_zero asked.gate form (line_of label (list_at cuts t) paths) cut_here backed

  room : (m : ℕ) → m ≤ line_most form.width k (net_in inputs nodes fanins).nodes → at + m ≤ length sheet
  unfolding net_in
  room m few = omega (arith, asked.room)

  -- the line as it is written, with the cut's leaves from their place
  module _ (label : ℕ) {leaves : List ℕ} (lent : leaves ≡ list_at cuts t) where
    pub cut_asked : (paths : List (List ℕ)) → Backed (net_in inputs nodes fanins) k (label_in labels) t paths →
        Room sheet at (line_field form (line_of label leaves paths))
    cut_asked paths backed =
        subst (λ (l : List ℕ). at + length (line_field form (line_of label l paths)) ≤ length sheet) (sym lent)
        (room (length (line_field form (line_of label (list_at cuts t) paths))) (short label backed))

    module _ (is : label ≡ label_in labels t) {after : List ℕ} {r : ℕ} where
      sized : (paths : List (List ℕ)) → Written sheet at (line_field form (line_of label leaves paths)) after r →
          Written sheet at (line_field form (line_of label (list_at cuts t) paths)) after r
      sized paths w = written_as (ap (λ (l : List ℕ). line_field form (line_of label l paths)) lent) w

      pub bare_written : (Owes (net_in inputs nodes fanins) (label_in labels) t → ⊥) →
          Written sheet at (line_field form (line_of label leaves [])) after r →
          LineWritten form (net_in inputs nodes fanins) k labels cuts t sheet at after r
      bare_written none w =
          record {
            line = line_of label (list_at cuts t) [];
            is = record { label = is; cut = refl; paths = record { due = λ owes. absurd (none owes); not_due = λ _. refl } };
            short = short label Backed.bare;
            written = sized [] w;
          }

      pub proven_written : {paths : List (List ℕ)} → Owes (net_in inputs nodes fanins) (label_in labels) t →
          Evidence (net_in inputs nodes fanins) k (label_in labels) t paths →
          Written sheet at (line_field form (line_of label leaves paths)) after r →
          LineWritten form (net_in inputs nodes fanins) k labels cuts t sheet at after r
      proven_written {paths} owes evidence w =
          record {
            line = line_of label (list_at cuts t) paths;
            is = record { label = is; cut = refl; paths = record { due = λ _. evidence; not_due = λ none. absurd (none owes) } };
            short = short label (Backed.proven owes.some evidence);
            written = sized paths w;
          }

    module _ (owes : Owes (net_in inputs nodes fanins) (label_in labels) t) where
      pub proven_asked : {roles' links' : List ℕ} → EvidenceFound inputs nodes k fanins labels t roles links roles' links' →
          ProvenAsked form inputs nodes k label leaves links' sheet at
      proven_asked {links' = links'} found =
          record {
            read = record {
              span = drawn_span asked.arrays.drawing.drawn;
              small = asked.arrays.drawing.small;
              links_long = omega (arith, asked.arrays.links_long, found.left.rest.size);
            };
            few = asked.arrays.drawing.k_small;
            count = found.evidence.count;
            room = cut_asked (paths_in inputs nodes links') (Backed.proven owes.some found.evidence);
          }

  pub evidence_asked : Owes (net_in inputs nodes fanins) (label_in labels) t → EvidenceAsked inputs nodes k fanins order labels t roles links
  evidence_asked owes =
      record {
        drawing = asked.arrays.drawing;
        labels_long = asked.arrays.labelled.labels_long;
        labelled = asked.arrays.labelled.label;
        gate = asked.gate;
        owes = owes;
        roles_long = asked.arrays.roles_long;
        links_long = asked.arrays.links_long;
      }

-- one line more
module _ {form : Form} {net : Net} {k : ℕ} {labels cuts : List ℕ} {v : ℕ} {before : List ℕ} {at : ℕ} {sheet : List ℕ} {to : ℕ} {after : List ℕ} {last : ℕ}
    (lines : LinesWritten form net k labels cuts v before at sheet to) (one : LineWritten form net k labels cuts v sheet to after last) where
  each_more : (i : ℕ) → i < length (lines.lines ++ (one.line ∷ [])) →
      Dec (i ≡ length lines.lines) → LineOf net k labels cuts (net.inputs + i) (get_or (lines.lines ++ (one.line ∷ [])) i no_line)
  each_more i inside (yes e) =
      subst (LineOf net k labels cuts (net.inputs + i))
      (sym (ap (λ (j : ℕ). get_or (lines.lines ++ (one.line ∷ [])) j no_line) e ∙ get_or-append_seam lines.lines one.line [] no_line))
      (subst (λ (u : ℕ). LineOf net k labels cuts u one.line) (sym (ap (λ (j : ℕ). net.inputs + j) e ∙ lines.count)) one.is)
  each_more i inside (no other) =
      let low : i < length lines.lines = omega (arith, length-append lines.lines (one.line ∷ [])) in
      subst (LineOf net k labels cuts (net.inputs + i)) (sym (get_or-append lines.lines (one.line ∷ []) no_line i low)) (lines.each i low)

  lines_more : LinesWritten form net k labels cuts (v + 1) before at after last
  lines_more =
      let all = lines.lines ++ (one.line ∷ []) in
      let flat = flat_more (line_field form) lines.lines one.line in
      let most = line_most form.width k net.nodes in
      let size : length all ≡ length lines.lines + 1 = length-append lines.lines (one.line ∷ []) in
      record {
        lines = all;
        count = omega (arith, lines.count, size);
        each = λ i inside. each_more i inside (ℕ_discrete i (length lines.lines));
        short = omega (
          arith,
          ap length flat,
          length-append (flat_map (line_field form) lines.lines) (line_field form one.line),
          lines.short,
          one.short,
          ap (λ (n : ℕ). n * most) size,
          add-mul (length lines.lines) 1 most,
          one-mul most,
        );
        written = written_as (sym flat) (then lines.written one.written);
      }

-- The lines of the gates below v are written, and the roles and the links are as long as they were.
pub record LinesSoFar (form : Form) (inputs nodes k : ℕ) (fanins labels cuts roles₀ links₀ before : List ℕ) (at : ℕ)
    (roles links sheet : List ℕ) (to v : ℕ) : Type 0 where
  pub passed : v ≤ nodes
  pub started : inputs ≤ v
  pub roles_size : length roles ≡ length roles₀
  pub links_size : length links ≡ length links₀
  pub written : LinesWritten form (net_in inputs nodes fanins) k labels cuts v before at sheet to

module _ {form : Form} {inputs nodes k : ℕ} {fanins order labels cuts roles₀ links₀ before : List ℕ} {at : ℕ}
    (asked : LinesAsked form inputs nodes k fanins order labels cuts roles₀ links₀ before at) where
  pub lines_none : LinesSoFar form inputs nodes k fanins labels cuts roles₀ links₀ before at roles₀ links₀ before at inputs
  unfolding net_in flat_map
  lines_none =
      record {
        passed = drawn_span asked.arrays.drawing.drawn;
        started = omega arith;
        roles_size = refl;
        links_size = refl;
        written = record {
          lines = [];
          count = omega arith;
          each = λ i low. absurd (omega arith);
          short = omega arith;
          written = record { stored = refl; reached = omega arith };
        };
      }

  module _ {roles links sheet : List ℕ} {to v : ℕ} (so_far : LinesSoFar form inputs nodes k fanins labels cuts roles₀ links₀ before at roles links sheet to v)
      (low : v < nodes) where
    most : ℕ
    most = line_most form.width k nodes

    count_so : inputs + length so_far.written.lines ≡ v
    unfolding net_in
    count_so = so_far.written.count

    short_so : length (flat_map (line_field form) so_far.written.lines) ≤ length so_far.written.lines * most
    unfolding net_in most
    short_so = so_far.written.short

    pub line_asked : LineAsked form inputs nodes k fanins order v labels cuts roles links sheet to
    unfolding net_in most
    line_asked =
        let i = length so_far.written.lines in
        let grows : (1 + i) * most ≤ (nodes - inputs) * most = mul-le-mul_right most (omega (arith, count_so)) in
        record {
          arrays = record {
            drawing = asked.arrays.drawing;
            some = asked.arrays.some;
            labelled = asked.arrays.labelled;
            roles_long = omega (arith, asked.arrays.roles_long, so_far.roles_size);
            links_long = omega (arith, asked.arrays.links_long, so_far.links_size);
          };
          gate = record { above = so_far.started; below = low };
          room = omega (
            arith,
            asked.room,
            so_far.written.written.reached,
            same_size so_far.written.written,
            short_so,
            grows,
            add-mul 1 i most,
            one-mul most,
          );
        }

    pub lines_turn : {roles' links' after : List ℕ} {last : ℕ} → length roles' ≡ length roles → length links' ≡ length links →
        LineWritten form (net_in inputs nodes fanins) k labels cuts v sheet to after last →
        LinesSoFar form inputs nodes k fanins labels cuts roles₀ links₀ before at roles' links' after last (v + 1)
    lines_turn roles_same links_same one =
        record {
          passed = omega arith;
          started = omega (arith, so_far.started);
          roles_size = roles_same ∙ so_far.roles_size;
          links_size = links_same ∙ so_far.links_size;
          written = lines_more so_far.written one;
        }

  pub lines_all : {roles links sheet : List ℕ} {to v : ℕ} →
      LinesSoFar form inputs nodes k fanins labels cuts roles₀ links₀ before at roles links sheet to v →
      nodes ≤ v → LinesWritten form (net_in inputs nodes fanins) k labels cuts nodes before at sheet to
  lines_all {sheet = sheet} {to = to} {v = u} so_far done =
      let e : u ≡ nodes = omega (arith, so_far.passed) in
      subst (λ (v : ℕ). LinesWritten form (net_in inputs nodes fanins) k labels cuts v before at sheet to) e so_far.written
