-- The test of the whole table, computed, and what it shows: everything that the paper says of P1 to P9 is so.
use mathlib.Core.Path.{◌≡◌, refl}
use mathlib.Core.Bool.{true}
use mathlib.Core.List.{flat_map, Memᴰ}
use Rattle.theory.proofs.Tests.{decides_itself, decides_every, every}
use Rattle.drawing.specs.paper.Bytes.{high_first, number_at, some_from}
use Rattle.drawing.specs.paper.Fields.{head_verdict, gate_verdict, output_verdict}
use Rattle.drawing.specs.paper.Reading.{gates_from, outputs_from, found}
use Rattle.sheet.specs.paper.Encoding as sheet
use Rattle.sheet.specs.paper.Rules.{line_of_node}
use Rattle.wording.specs.paper.Text as text
use Rattle.cases.specs.paper.Cases.{Case, Holds}
use Rattle.cases.specs.paper.Drawings.{drawings}
use Rattle.cases.proofs.Carried.{is_so, holds}

all_so : every is_so drawings ≡ true
unfolding every is_so drawings high_first number_at some_from head_verdict gate_verdict output_verdict gates_from outputs_from found flat_map line_of_node
    sheet.digits sheet.encode text.digit text.digits text.places_within text.places text.decimal text.hex16 text.numbered text.each text.leaf_text
    text.head_line text.lut_line text.output_line text.listing_of text.refused_line
all_so = refl

pub drawings_hold : (c : Case) → Memᴰ c drawings → Holds c
drawings_hold c m = holds c ((decides_every is_so (λ other. decides_itself (is_so other)) drawings).holds all_so c m)
