-- A gate's probe: the walk with no leaves marks what lies behind the gate, of which the area's passes mark D and the rest, on which the flow works.
use Prim.Native.Nat.{ℕ, ◌*◌}
use native.Mathlib.Omega.{arith}
use mathlib.Core.Path.{sym, subst}
use mathlib.Core.List.{List, []}
use Rattle.storage.specs.Drawings.{net_in}
use Rattle.storage.specs.Entries.{Beyond}
use Rattle.storage.proofs.Clears.{cleared_beyond, beyond_then}
use Rattle.walking.specs.Promises.{WalkRoom, WalkMade}
use Rattle.area.specs.Area.{label_in, AreaAsked, AreaMarked}
use Rattle.std.specs.Prelude.{Option}
use Rattle.storage.specs.declared.CutSize.{CutSize}
use Rattle.flow.specs.Answer.{AreaOf, FlowAsked, FlowAnswer}
use Rattle.labelling.specs.Probing.{ProbeAsked, Shown, GateProbed}

module _ {inputs nodes k : ℕ} {fanins order : List ℕ} {t p : ℕ} {labels roles₀ links₀ cut₀ : List ℕ}
    (asked : ProbeAsked inputs nodes k fanins order t p labels roles₀ links₀ cut₀) where
  pub walk_room : WalkRoom inputs nodes k fanins order t roles₀
  unfolding net_in
  walk_room =
      record { drawing = asked.drawing; node = asked.gate.below; roles_long = asked.roles_long }

  module _ {walked : List ℕ} (walk : WalkMade (net_in inputs nodes fanins) [] t roles₀ walked) where
    walk_used : Beyond nodes roles₀ walked
    unfolding net_in
    walk_used = walk.rest

    pub area_asked : AreaAsked inputs nodes fanins t labels p walked
    unfolding net_in
    area_asked =
        record {
          k = k;
          drawn = asked.drawing.drawn;
          small = asked.drawing.small;
          gate_stands = asked.gate;
          peak_known = asked.peak_known;
          behind_known = walk.met_marks;
          labels_long = asked.labels_long;
          roles_long = omega (arith, walk_used.size, asked.roles_long);
        }

    module _ {roles : List ℕ} (marked : AreaMarked (net_in inputs nodes fanins) (label_in labels) t walked roles) where
      roles_used : Beyond nodes roles₀ roles
      unfolding net_in
      roles_used = beyond_then walk_used marked.rest

      area_of : AreaOf inputs nodes fanins roles (label_in labels) t
      unfolding net_in
      area_of =
          record { gate = asked.gate; never_falls = asked.never_falls; area_marks = marked.area_marked; end_marks = marked.ends_marked }

      pub flow_asked : FlowAsked inputs nodes k fanins order roles links₀ cut₀
      flow_asked =
          record {
            drawing = asked.drawing;
            lab = label_in labels;
            t = t;
            marks = area_of;
            roles_long = omega (arith, roles_used.size, asked.roles_long);
            links_long = asked.links_long;
            cut_long = asked.cut_long;
          }

      pub gate_probed : {r : Option CutSize} {links cut : List ℕ} → FlowAnswer inputs nodes k fanins roles links₀ cut₀ r links cut →
          GateProbed inputs nodes k fanins t labels roles₀ links₀ cut₀ r roles links cut
      gate_probed (FlowAnswer.paths e evidence links left same) =
          record {
            shown = Shown.paths e (evidence (label_in labels) t area_of) links left same;
            roles_used = roles_used;
            links_used = left.rest;
          }
      gate_probed (FlowAnswer.cut size list e many least clear same) =
          record {
            shown = Shown.least size list e many (least (label_in labels) t area_of) same;
            roles_used = roles_used;
            links_used = subst (Beyond (5 * nodes) links₀) (sym clear) (cleared_beyond (5 * nodes) links₀ asked.links_long);
          }
