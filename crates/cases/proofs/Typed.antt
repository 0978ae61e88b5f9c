-- The test of all texts, computed, and what it shows: everything that the table says of them is so.
use mathlib.Core.Path.{◌≡◌, refl}
use mathlib.Core.Bool.{true}
use mathlib.Core.List.{Memᴰ, flat_map}
use Rattle.theory.proofs.Tests.{decides_itself, decides_every, every}
use Rattle.sheet.specs.paper.Encoding.{digits}
use Rattle.grammar.specs.paper.Text.{is_blank, is_letter, is_digit, is_word_byte, word_of, same_word}
use Rattle.grammar.specs.paper.Names.{names_in}
use Rattle.grammar.specs.paper.Gates.{size_of, root_of, gates_of, equation_gates, equation_size, all_gates, all_size, input_nodes, equation_nodes, node_among}
use Rattle.grammar.specs.Machine.{is_keyword, end_of, in_word, behind_listed, behind_left, behind_operand, unless_keyword, move}
use Rattle.cases.specs.paper.Answers.{Typed, Answered}
use Rattle.cases.specs.paper.Texts.{texts}
use Rattle.cases.proofs.Answered.{is_answered, answered}

all_answered : every is_answered texts ≡ true
unfolding every is_answered texts flat_map digits is_blank is_letter is_digit is_word_byte word_of same_word names_in size_of root_of gates_of equation_gates equation_size
    all_gates all_size input_nodes equation_nodes node_among is_keyword end_of in_word behind_listed behind_left behind_operand unless_keyword move
all_answered = refl

pub texts_hold : (t : Typed) → Memᴰ t texts → Answered t
texts_hold t m = answered t ((decides_every is_answered (λ other. decides_itself (is_answered other)) texts).holds all_answered t m)
