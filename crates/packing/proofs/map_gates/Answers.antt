-- `map_gates` meets its contract: each step leaves what the next one asks.
use Rattle.packing.proofs.StageOne.{label_asked, cover_asked, tables_asked, depth_asked}
use Rattle.packing.proofs.map_gates.Goals as goal

pub label_gates-requires : goal.label_gates-requires
label_gates-requires c =
    let pre = c.requires in
    label_asked pre

pub cover-many-requires : goal.cover-many-requires
cover-many-requires c =
    let pre = c.requires in
    cover_asked pre c.label_gates.ensures.made pre.luts_long

pub store_tables-requires : goal.store_tables-requires
store_tables-requires c =
    let pre = c.requires in
    tables_asked pre c.label_gates.ensures.made c.cover-many.ensures pre.luts_long pre.words_long

pub depth-deepest-requires : goal.depth-deepest-requires
depth-deepest-requires c =
    let pre = c.requires in
    depth_asked pre c.label_gates.ensures.made

pub returns : goal.returns
returns c =
    record {
      labelled = c.label_gates.ensures;
      cover = c.cover-many.ensures;
      tables = c.store_tables.ensures;
      depth = c.depth-deepest.ensures;
    }
