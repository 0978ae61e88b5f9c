-- `feeds` meets its contract: the gate's fanins are what is searched.
use mathlib.Core.Path.{ap, ◌∙◌}
use Rattle.theory.specs.Members.{is_member}
use Rattle.judging.proofs.Feeding.{found_in}
use Rattle.judging.proofs.paths.feeds.Goals as goal

pub returns : goal.returns
returns c =
    let v = c.args.node.id in
    c.contains.ensures.value ∙ found_in v c.list_at.result.now ∙ ap (is_member v) c.list_at.ensures
