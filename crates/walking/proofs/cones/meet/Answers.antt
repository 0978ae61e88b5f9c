-- `meet` meets its contract: the role stored is the one that `meet_one` says.
use Rattle.walking.proofs.WalkRoles.{leaf_met, leaf_both, open_both}
use Rattle.walking.proofs.cones.meet.Goals as goal
use Rattle.walking.proofs.cones.meet.Goals.{then-is_leaf+then-not-is_walked, else-is_leaf, else-is_leaf-via-then-is_leaf+else-not-is_walked, else-is_leaf-via-else-is_leaf}

pub returns : goal.returns
returns c =
    let a = c.args in
    let leaves = a.leaves.now in
    elim c.if-is_leaf.branch [
      | then-is_leaf+then-not-is_walked w ↦
          rw w.roles-is
          (leaf_met leaves a.roles.now a.node.id (c.is_leaf.ensures.yes w.if-is_leaf.true)
          (w.is_walked.ensures.no w.if-not-is_walked.true))
      | else-is_leaf w ↦
          elim w.else-is_leaf.branch [
            | else-is_leaf-via-then-is_leaf+else-not-is_walked w' ↦
                rw w.roles-is
                (leaf_both leaves a.roles.now a.node.id (c.is_leaf.ensures.yes w'.if-is_leaf.true)
                (w'.is_walked.ensures.yes w'.if-not-is_walked.false))
            | else-is_leaf-via-else-is_leaf w' ↦
                rw w.roles-is (open_both leaves a.roles.now a.node.id (c.is_leaf.ensures.no w'.if-is_leaf.false))
          ]
    ]
