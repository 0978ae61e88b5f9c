-- `judge_gate` meets its contract: each test that fails names its rule.
use Rattle.judging.proofs.Judging.{cut_asked, peak_asked, label_asked, place_inside, paths_rule_asked}
use Rattle.judging.proofs.Judging.{tried_cut, tried_label, tried_paths, tried_all}
use Rattle.judging.proofs.judge_gate.Goals as goal

pub keeps_cut-requires : goal.keeps_cut-requires
keeps_cut-requires c =
    cut_asked c.requires

pub returns-then-not-keeps_cut : goal.returns-then-not-keeps_cut
returns-then-not-keeps_cut c =
    tried_cut c.requires c.keeps_cut.ensures c.if-not-keeps_cut.true

pub peak-p-requires : goal.peak-p-requires
peak-p-requires c =
    peak_asked c.requires

pub keeps_label-requires : goal.keeps_label-requires
keeps_label-requires c =
    label_asked c.requires

pub returns-then-not-keeps_label : goal.returns-then-not-keeps_label
returns-then-not-keeps_label c =
    tried_label c.requires c.keeps_cut.ensures c.if-not-keeps_cut.false
    c.peak-p.ensures c.keeps_label.ensures c.if-not-keeps_label.true

pub bounds-places-v : goal.bounds-places-v
bounds-places-v c =
    place_inside c.requires

pub keeps_paths-requires : goal.keeps_paths-requires
keeps_paths-requires c =
    paths_rule_asked c.requires c.peak-p.ensures c.keeps_cut.ensures.walk.rest.size

pub returns-then-not-keeps_paths : goal.returns-then-not-keeps_paths
returns-then-not-keeps_paths c =
    tried_paths c.requires c.keeps_cut.ensures c.if-not-keeps_cut.false
    c.peak-p.ensures c.keeps_label.ensures c.if-not-keeps_label.false
    c.keeps_paths.ensures c.if-not-keeps_paths.true

pub returns : goal.returns
returns c =
    tried_all c.requires c.keeps_cut.ensures c.if-not-keeps_cut.false
    c.peak-p.ensures c.keeps_label.ensures c.if-not-keeps_label.false
    c.keeps_paths.ensures c.if-not-keeps_paths.false
