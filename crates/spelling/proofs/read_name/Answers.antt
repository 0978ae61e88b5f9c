-- `read_name` meets its contract: a letter begins a word, which is a name if it is no keyword.
use Rattle.std.specs.Prelude.{◌≡◌, true}
use mathlib.Core.Path.{sym, ◌∙◌, ap}
use Rattle.grammar.specs.paper.Text.{byte_at, is_letter}
use Rattle.spelling.specs.Spelling.{Unnamed}
use Rattle.grammar.proofs.Bytes.{letter_within}
use Rattle.spelling.proofs.Words.{name_of, keyword_of}
use Rattle.spelling.proofs.read_name.Goals as goal

pub word_end-end-requires : goal.word_end-end-requires
word_end-end-requires c =
    let letter : is_letter (byte_at c.args.text.now c.args.at) ≡ true =
    ap is_letter (sym c.byte_at.ensures) ∙ sym c.is_letter.ensures ∙ c.if-not-is_letter.false in
    letter_within c.args.text.now c.args.at letter

pub returns-then-is_keyword : goal.returns-then-is_keyword
returns-then-is_keyword c =
    let letter : is_letter (byte_at c.args.text.now c.args.at) ≡ true =
    ap is_letter (sym c.byte_at.ensures)
    ∙ sym c.is_letter.ensures
    ∙ c.if-not-is_letter.false in
    Unnamed.keyword
    (keyword_of letter c.word_end-end.ensures
    (sym c.is_keyword.ensures ∙ c.if-is_keyword.true))

pub returns : goal.returns
returns c =
    let letter : is_letter (byte_at c.args.text.now c.args.at) ≡ true =
    ap is_letter (sym c.byte_at.ensures)
    ∙ sym c.is_letter.ensures
    ∙ c.if-not-is_letter.false in
    name_of letter c.word_end-end.ensures (sym c.is_keyword.ensures ∙ c.if-is_keyword.false)
