-- Texts and arrays that the computed table of P1 to P9 has no case of.
use mathlib.Core.Path.{◌≡◌, refl}
use mathlib.Core.List.{[], ◌∷◌, ◌++◌}
use lib.ListN.{replicate}
use Rattle.wording.specs.paper.Text.{Mapping, bytes, digit, digits, places_within, places, decimal, hex16, numbered, refused_line, accepted_line}
use Rattle.wording.specs.Arrays.{arrays_of, mapping_in, lut_at, output_at, marked_from}

-- "P1. K=3, I=4; 4=AND(0,1), 5=AND(2,3), 6=OR(4,5); output 6."
p1 : Mapping
p1 =
    record {
      k = 3;
      inputs = 4;
      gates = 3;
      luts =
          record { root = 4; depth = 1; leaves = 0 ∷ 1 ∷ []; table = 0x8 }
          ∷ record { root = 5; depth = 1; leaves = 2 ∷ 3 ∷ []; table = 0x8 }
          ∷ record { root = 6; depth = 2; leaves = 4 ∷ 5 ∷ []; table = 0xE }
          ∷ [];
      depth = 2;
      outputs = record { node = 6; depth = 2 } ∷ [];
    }

-- P1's mapping as arrays hold it: labels, cuts, marks, tables, outputs
p1_in_arrays :
    mapping_in 3 4 7
    (arrays_of
    (0 ∷ 0 ∷ 0 ∷ 0 ∷ 1 ∷ 1 ∷ 2 ∷ [])
    (replicate 28 0 ++ (2 ∷ 0 ∷ 1 ∷ 0 ∷ 0 ∷ 0 ∷ 0 ∷ 2 ∷ 2 ∷ 3 ∷ 0 ∷ 0 ∷ 0 ∷ 0 ∷ 2 ∷ 4 ∷ 5 ∷ 0 ∷ 0 ∷ 0 ∷ 0 ∷ []))
    (0 ∷ 0 ∷ 0 ∷ 0 ∷ 1 ∷ 1 ∷ 1 ∷ [])
    (0 ∷ 0 ∷ 0 ∷ 0 ∷ 0x8 ∷ 0x8 ∷ 0xE ∷ [])
    (6 ∷ []))
    1 2
    ≡ p1
unfolding p1 lut_at output_at marked_from
p1_in_arrays = refl

one_line_each : (refused_line 27 6 ≡ bytes "refused 27 at 6\n") × (accepted_line 2 ≡ bytes "accepted depth 2\n")
unfolding digit digits places_within places decimal numbered refused_line accepted_line
one_line_each = (refl, refl)

-- numbers of one digit, of several, the largest that fits 64 bits, and a table with each digit
numbers_written :
    (decimal 0 ≡ bytes "0")
    × (decimal 10 ≡ bytes "10")
    × (decimal 49152 ≡ bytes "49152")
    × (decimal 18446744073709551615 ≡ bytes "18446744073709551615")
    × (hex16 0xFEDCBA9876543210 ≡ bytes "FEDCBA9876543210")
unfolding digit digits places_within places decimal hex16
numbers_written = (refl, refl, refl, refl, refl)
