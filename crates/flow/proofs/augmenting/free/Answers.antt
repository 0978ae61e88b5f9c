-- `free` meets its contract.
use native.Mathlib.Omega.{arith}
use Prim.Native.Nat.{◌<◌}
use mathlib.Core.Path.{◌≡◌, sym, ap, ◌∙◌}
use mathlib.Core.Logic.{◌⊎◌, inl, inr, ⊎_elim}
use Rattle.storage.specs.declared.Node.{Node}
use Rattle.storage.specs.Entries.{at}
use Rattle.flow.specs.declared.cells.Link.TheVariants.{To}
use Rattle.flow.specs.Links.{next_in, no_link, link_to}
use Rattle.flow.proofs.Columns.{both_stored}
use Rattle.flow.proofs.Ways.{no_node}
use Rattle.flow.proofs.augmenting.free.Goals as goal
use Rattle.flow.proofs.augmenting.free.Goals.{Joined-link_at, in-To, in_default}

-- where the answer starts: at v, where it was unused, or at the node that it fed
freed : (c : Joined-link_at) → ((at (next_in c.args.nodes c.args.links.now) c.args.v.id ≡ no_link) × (c.match-link_at.start.id ≡ c.args.v.id))
    ⊎ (at (next_in c.args.nodes c.args.links.now) c.args.v.id ≡ link_to c.match-link_at.start.id)
freed c =
    elim c.match-link_at.branch [
      | in-To w ↦ inr (sym w.in-To.ensures ∙ ap (λ (u : Node). link_to u.id) (sym w.start-is))
      | in_default w ↦ inl (unused w.in_default.not-To, ap (λ (u : Node). u.id) w.start-is)
    ]
  where
    unused : ((u : Node) → c.link_at.result ≡ To u → ⊥) → at (next_in c.args.nodes c.args.links.now) c.args.v.id ≡ no_link
    unused none = omega (arith, c.link_at.ensures, no_node c.link_at.result none, c.requires.no_sink)

start_low : (c : Joined-link_at) → c.match-link_at.start.id < c.args.nodes
start_low c =
    ⊎_elim (λ h. omega (arith, h.1, c.requires.node)) (λ h. c.requires.leads _ h) (freed c)

pub put_link-requires-2-clause-cell : goal.put_link-requires-2-clause-cell
put_link-requires-2-clause-cell c =
    let p = c.requires in
    record {
      small = p.small;
      long = omega (arith, p.long, c.put_link.ensures.rest.size);
      one_of_five = omega arith;
      node = start_low (goal.at.put_link-requires-2-clause-cell c).Joined-link_at;
    }

pub returns : goal.returns
returns c =
    let both = both_stored c.put_link.ensures c.put_link-2.ensures in
    record {
      stored = record { out = both.next; «in» = both.prev; freed = freed (goal.at.returns c).Joined-link_at };
      kept = both.kept;
    }
