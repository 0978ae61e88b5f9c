-- Texts that settle how the sentences of request 1 are read, with the user's K and what is said of each; and the drawings P1 to P9 of document 01 as
-- they are typed. Places count from 0; the one of a text that is not in the grammar is the first byte that cannot stand there.
use Rattle.std.specs.Prelude.{ℕ, List, [], ◌∷◌}
use Prim.Native.String.{String, ◌++◌}
use Rattle.drawing.specs.paper.Table.{GateLine}
use Rattle.cases.specs.paper.Cases.{and, or, inverse}
use Rattle.cases.specs.paper.Drawings.{p1, p2, p3, p4, p5, p5_wide, p6, p7, p8, p9}
use Rattle.cases.specs.paper.Answers.{Answer, Typed}

-- "an equation with no operator becomes a one-input gate that passes its value on"
abbrev pass : ℕ → GateLine
pass a = record { fanins = a ∷ []; table = 0x2 }

-- a text with K 2, unless K is what matters
abbrev typed : String → Answer → Typed
typed text answer = record { text = text; k = 2; answer = answer }

abbrev typed_for : (k : ℕ) → String → Answer → Typed
typed_for k text answer = record { text = text; k = k; answer = answer }

abbrev text_at : (place : ℕ) → Answer
text_at = Answer.ungrammatical

abbrev name_at : (place : ℕ) → Answer
name_at = Answer.misnamed

abbrev loop_at : (gate : ℕ) → Answer
loop_at = Answer.loops

abbrev table : (inputs : ℕ) → List GateLine → (outputs : List ℕ) → Answer
table inputs gates outputs = Answer.becomes (record { k = 2; inputs = inputs; gates = gates; outputs = outputs })

-- 96 signs
abbrev bangs : String
bangs = "!!!!!!!!!!!!!!!!!!!!!!!!!!!!!!!!!!!!!!!!!!!!!!!!!!!!!!!!!!!!!!!!!!!!!!!!!!!!!!!!!!!!!!!!!!!!!!!!"

abbrev names64 : String
names64 = "a b c d e f g h i j k l m n o p q r s t u v w x y z A B C D E F G H I J K L M N O P Q R S T U V W X Y Z a0 a1 a2 a3 a4 a5 a6 a7 a8 a9 b0 b1"

unfoldable pub texts : List Typed
texts =
    -- A tab is no blank; CR LF is two; they may stand before `in`, behind the last `;` and around any sign.
    typed "in a;\n\tout a;" (text_at 6) ∷
    typed "in a;\r\nout a;\r\n" (table 1 [] (0 ∷ [])) ∷
    typed "\n in a ; out a ; \n" (table 1 [] (0 ∷ [])) ∷
    typed "in a\nb ; f = ! (\na + b ) * a ; out f ;" (table 2 (or 0 1 ∷ inverse 2 ∷ and 3 0 ∷ []) (4 ∷ [])) ∷
    -- Two words have a blank between them, also `in` and a name.
    typed "ina;out a;" (text_at 2) ∷
    typed "in a;outa;" (text_at 9) ∷
    -- A longer word that begins as a keyword is a name, and case counts.
    typed "in inx IN;outer=inx*IN;out outer;" (table 2 (and 0 1 ∷ []) (2 ∷ [])) ∷
    typed "IN a;out a;" (text_at 0) ∷
    typed "in a A;f=a*A;out f;" (table 2 (and 0 1 ∷ []) (2 ∷ [])) ∷
    -- `in` or `out` in a name's place: a longer word could have come, so the byte behind it is the first that cannot stand there.
    typed "in in;out a;" (text_at 5) ∷
    typed "in a;in=a;out a;" (text_at 7) ∷
    typed "in a;f=out;out f;" (text_at 10) ∷
    typed "in a;out out;" (text_at 12) ∷
    -- A name has up to 16 letters and digits and starts with a letter; the 17th cannot stand there. No byte above 127 is a letter.
    typed "in abcdefghijklmn16;out abcdefghijklmn16;" (table 1 [] (0 ∷ [])) ∷
    typed "in abcdefghijklmno17;out a;" (text_at 19) ∷
    typed "in 1a;out a;" (text_at 3) ∷
    typed "in é;out a;" (text_at 3) ∷
    -- A text that ends too early is refused at its end.
    typed "" (text_at 0) ∷
    typed "in a;out a" (text_at 10) ∷
    typed "in a;\nf = a;\n" (text_at 13) ∷
    -- "Both name at least one"
    typed "in ;out a;" (text_at 3) ∷
    typed "in a;out ;" (text_at 9) ∷
    typed "in a;out;" (text_at 8) ∷
    -- `out` is the last line.
    typed "in a;out a;f=a;" (text_at 11) ∷
    typed "in a;f=a;in b;out f;" (text_at 11) ∷
    -- Outputs in the order of `out`, repeats kept.
    typed "in a;f=!a;out f a f;" (table 1 (inverse 0 ∷ []) (1 ∷ 0 ∷ 1 ∷ [])) ∷
    -- 32 brackets may be open at once, and more behind them once they are closed; the 33rd cannot stand there. `!` does not nest: 33 of them may stand.
    typed "in a;f=((((((((((((((((((((((((((((((((a))))))))))))))))))))))))))))))))*(a);out f;" (table 1 (and 0 0 ∷ []) (1 ∷ [])) ∷
    typed "in a;f=(((((((((((((((((((((((((((((((((a)))))))))))))))))))))))))))))))));out f;" (text_at 39) ∷
    typed_for 7 "in a;f=!!!!!!!!!!!!!!!!!!!!!!!!!!!!!!!!!a;out f;" Answer.outside ∷
    typed "in a;f=(a));out f;" (text_at 10) ∷
    typed "in a;f=(a;out f;" (text_at 9) ∷
    typed "in a;f=a**a;out f;" (text_at 9) ∷
    typed "in a;f=a!;out f;" (text_at 8) ∷
    typed "in a;f=;out f;" (text_at 7) ∷
    -- A name alone, in brackets or not, is one gate that passes its value on.
    typed "in a;f=a;out f;" (table 1 (pass 0 ∷ []) (1 ∷ [])) ∷
    typed "in a;f=((a));out f;" (table 1 (pass 0 ∷ []) (1 ∷ [])) ∷
    -- Each operator is a gate: the left operand's gates, the right one's, its own; the left operand is the first fanin.
    typed "in a;f=!!a;out f;" (table 1 (inverse 0 ∷ inverse 1 ∷ []) (2 ∷ [])) ∷
    typed "in a b c;f=a+b*c;out f;" (table 3 (and 1 2 ∷ or 0 3 ∷ []) (4 ∷ [])) ∷
    typed "in a b c;f=(a+b)*c;out f;" (table 3 (or 0 1 ∷ and 3 2 ∷ []) (4 ∷ [])) ∷
    typed "in a b c;f=!(a*b)+c;out f;" (table 3 (and 0 1 ∷ inverse 3 ∷ or 4 2 ∷ []) (5 ∷ [])) ∷
    typed "in a b;f=!a*b;out f;" (table 2 (inverse 0 ∷ and 2 1 ∷ []) (3 ∷ [])) ∷
    -- `+` groups to the left, and so does `*` (P5 below).
    typed "in a b c;f=a+b+c;out f;" (table 3 (or 0 1 ∷ or 3 2 ∷ []) (4 ∷ [])) ∷
    typed "in a b c;f=a+(b+c);out f;" (table 3 (or 1 2 ∷ or 0 3 ∷ []) (4 ∷ [])) ∷
    -- Defined again: an input listed twice, an equation for an input, a second equation.
    typed "in a b a;out b;" (name_at 7) ∷
    typed "in a;a=a;out a;" (name_at 5) ∷
    typed "in a;f=a;f=!a;out f;" (name_at 9) ∷
    -- Used but nowhere defined, in an expression or behind `out`; a beginning of a name is another name.
    typed "in a;f=a*b;out f;" (name_at 9) ∷
    typed "in a;out b;" (name_at 9) ∷
    typed "in ab;f=a;out f;" (name_at 8) ∷
    -- The earlier of two wrong places, whichever kind it is.
    typed "in a;f=b;a=a;out f;" (name_at 7) ∷
    typed "in a a;f=b;out f;" (name_at 5) ∷
    -- Names may be used before they are defined.
    typed "in a;f=g*a;g=!a;out f;" (table 1 (and 2 0 ∷ inverse 0 ∷ []) (1 ∷ [])) ∷
    typed "in a;f=g;g=!h+a;h=a;out f;" (table 1 (pass 3 ∷ inverse 4 ∷ or 2 0 ∷ pass 0 ∷ []) (1 ∷ [])) ∷
    -- A loop, also of one name that is its own value, and also behind no output.
    typed "in a;f=f;out f;" (loop_at 1) ∷
    typed "in a;e=!a;f=g*a;g=f;out a;" (loop_at 2) ∷
    -- K is what the user gives, 2 to 6.
    typed_for 6 "in a;out a;" (Answer.becomes (record { k = 6; inputs = 1; gates = []; outputs = 0 ∷ [] })) ∷
    typed_for 0 "in a;out a;" Answer.outside ∷
    typed_for 1 "in a;out a;" Answer.outside ∷
    typed_for 7 "in a;out a;" Answer.outside ∷
    -- 64 inputs, which is not too many, and 65; 65 outputs; 1 input and 192 gates.
    typed ("in " ++ names64 ++ ";out a;") (table 64 [] (0 ∷ [])) ∷
    typed ("in " ++ names64 ++ " b2;out a;") Answer.outside ∷
    typed "in a;out a a a a a a a a a a a a a a a a a a a a a a a a a a a a a a a a a a a a a a a a a a a a a a a a a a a a a a a a a a a a a a a a a;"
    Answer.outside ∷
    typed ("in a;f=" ++ bangs ++ bangs ++ "a;out f;") Answer.outside ∷
    -- "Refusals, in order": 41 before 42, 42 before 43, 43 before 7.
    typed_for 7 "in a a;out a?" (text_at 12) ∷
    typed_for 7 "in a a;out a;" (name_at 5) ∷
    typed_for 7 "in a;f=f;out f;" Answer.outside ∷
    -- P1 to P9: P1 to P7 have the paper's bytes, P8 and P9 its refusals. P5 stands twice.
    typed_for 3 "in a b c d;\nf = a*b + c*d;\nout f;\n" (Answer.draws p1) ∷
    typed_for 4 "in a b c d;\nf = a*b + c*d;\nout f;\n" (Answer.draws p2) ∷
    typed "in a b;\nf = a + a*b;\nout f;\n" (Answer.draws p3) ∷
    typed "in a b c d; p = a*b; q = c*d; r = !p; s = !q; f = !(r*s); out f;" (Answer.draws p4) ∷
    typed "in a b c;\nf = a*b*c;\nout f;\n" (Answer.draws p5) ∷
    typed_for 3 "in a b c;\nf = a*b*c;\nout f;\n" (Answer.draws p5_wide) ∷
    typed "in a;\nf = a*a;\nout f;\n" (Answer.draws p6) ∷
    typed "in a;\nout a;\n" (Answer.draws p7) ∷
    typed "in a;\nf = a*f;\nout f;\n" (Answer.draws p8) ∷
    typed "in a;\nf = !h;\ng = !h;\nh = !g;\nout h;\n" (Answer.draws p9) ∷ []
