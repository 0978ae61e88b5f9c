-- What a sheet is read by, as the definitions of its shape take it.
use Rattle.sheet.specs.paper.Shape.{Due}
use Rattle.sheet.specs.Shape.{due_from}
use Rattle.shaping.specs.declared.terms.Terms.{Terms}

abbrev pub due_of : Terms → Due
due_of t = due_from t.form t.most.depth t.numbers.k.leaves t.numbers.inputs t.numbers.nodes
