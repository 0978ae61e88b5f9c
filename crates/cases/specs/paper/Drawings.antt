-- The paper's small drawings P1 to P9 with all that is said of them, as one table of cases; the bytes have a field of the gate table on a line. Labels,
-- cuts, LUTs with their tables and depths are then the only right ones; evidence is free. "Where not named, K is 2, I is 1 and the one output is the
-- last gate."
use Rattle.std.specs.Prelude.{ℕ, List, [], ◌∷◌}
use Rattle.sheet.specs.paper.Sheet.{line_of, lut_of}
use Rattle.cases.specs.paper.Cases.{Outcome, Case, and, or, inverse, plain}

-- evidence of single inputs
abbrev first_three : List (List ℕ)
first_three = (0 ∷ []) ∷ (1 ∷ []) ∷ (2 ∷ []) ∷ []

abbrev first_four : List (List ℕ)
first_four = (0 ∷ []) ∷ (1 ∷ []) ∷ (2 ∷ []) ∷ (3 ∷ []) ∷ []

-- "P1. K=3, I=4; 4=AND(0,1), 5=AND(2,3), 6=OR(4,5); output 6. Labels 1, 1, 2; evidence at 6 has four paths of one input each. The lister reads
-- these 53 bytes .. and prints: .. The sheet has 83 bytes."
abbrev pub p1 : Case
p1 =
    record {
      bytes =
          1 ∷ 0 ∷ 4 ∷ 1 ∷ 3 ∷ 4 ∷ 3 ∷
          2 ∷ 0 ∷ 11 ∷ 2 ∷ 0 ∷ 1 ∷ 0 ∷ 0 ∷ 0 ∷ 0 ∷ 0 ∷ 0 ∷ 0 ∷ 8 ∷
          2 ∷ 0 ∷ 11 ∷ 2 ∷ 2 ∷ 3 ∷ 0 ∷ 0 ∷ 0 ∷ 0 ∷ 0 ∷ 0 ∷ 0 ∷ 8 ∷
          2 ∷ 0 ∷ 11 ∷ 2 ∷ 4 ∷ 5 ∷ 0 ∷ 0 ∷ 0 ∷ 0 ∷ 0 ∷ 0 ∷ 0 ∷ 14 ∷
          3 ∷ 0 ∷ 1 ∷ 6 ∷ [];
      count = 53;
      table = record { k = 3; inputs = 4; gates = and 0 1 ∷ and 2 3 ∷ or 4 5 ∷ []; outputs = 6 ∷ [] };
      outcome =
          Outcome.maps
          (record {
            depth = 2;
            lines = plain 1 (0 ∷ 1 ∷ []) ∷ plain 1 (2 ∷ 3 ∷ []) ∷ line_of 2 (4 ∷ 5 ∷ []) first_four ∷ [];
            luts = lut_of 4 (0 ∷ 1 ∷ []) 0x8 ∷ lut_of 5 (2 ∷ 3 ∷ []) 0x8 ∷ lut_of 6 (4 ∷ 5 ∷ []) 0xE ∷ [];
          })
          83;
      prints =
          "K 3 inputs 4 gates 3 luts 3 depth 2" ∷
          "lut 4 depth 1 leaves 0 1 table 0000000000000008" ∷
          "lut 5 depth 1 leaves 2 3 table 0000000000000008" ∷
          "lut 6 depth 2 leaves 4 5 table 000000000000000E" ∷
          "output 6 depth 2" ∷ [];
    }

-- "P2. The same at K=4: one LUT, root 6, leaves 0 1 2 3, table F888, depth 1."
abbrev pub p2 : Case
p2 =
    record {
      bytes =
          1 ∷ 0 ∷ 4 ∷ 1 ∷ 4 ∷ 4 ∷ 3 ∷
          2 ∷ 0 ∷ 11 ∷ 2 ∷ 0 ∷ 1 ∷ 0 ∷ 0 ∷ 0 ∷ 0 ∷ 0 ∷ 0 ∷ 0 ∷ 8 ∷
          2 ∷ 0 ∷ 11 ∷ 2 ∷ 2 ∷ 3 ∷ 0 ∷ 0 ∷ 0 ∷ 0 ∷ 0 ∷ 0 ∷ 0 ∷ 8 ∷
          2 ∷ 0 ∷ 11 ∷ 2 ∷ 4 ∷ 5 ∷ 0 ∷ 0 ∷ 0 ∷ 0 ∷ 0 ∷ 0 ∷ 0 ∷ 14 ∷
          3 ∷ 0 ∷ 1 ∷ 6 ∷ [];
      count = 53;
      table = record { k = 4; inputs = 4; gates = and 0 1 ∷ and 2 3 ∷ or 4 5 ∷ []; outputs = 6 ∷ [] };
      outcome =
          Outcome.maps
          (record {
            depth = 1;
            lines = plain 1 (0 ∷ 1 ∷ []) ∷ plain 1 (2 ∷ 3 ∷ []) ∷ plain 1 (0 ∷ 1 ∷ 2 ∷ 3 ∷ []) ∷ [];
            luts = lut_of 6 (0 ∷ 1 ∷ 2 ∷ 3 ∷ []) 0xF888 ∷ [];
          })
          49;
      prints =
          "K 4 inputs 4 gates 3 luts 1 depth 1" ∷
          "lut 6 depth 1 leaves 0 1 2 3 table 000000000000F888" ∷
          "output 6 depth 1" ∷ [];
    }

-- "P3. K=2, I=2; 2=AND(0,1), 3=OR(0,2); output 3: label 1, leaves 0 1, table A."
abbrev pub p3 : Case
p3 =
    record {
      bytes =
          1 ∷ 0 ∷ 4 ∷ 1 ∷ 2 ∷ 2 ∷ 2 ∷
          2 ∷ 0 ∷ 11 ∷ 2 ∷ 0 ∷ 1 ∷ 0 ∷ 0 ∷ 0 ∷ 0 ∷ 0 ∷ 0 ∷ 0 ∷ 8 ∷
          2 ∷ 0 ∷ 11 ∷ 2 ∷ 0 ∷ 2 ∷ 0 ∷ 0 ∷ 0 ∷ 0 ∷ 0 ∷ 0 ∷ 0 ∷ 14 ∷
          3 ∷ 0 ∷ 1 ∷ 3 ∷ [];
      count = 39;
      table = record { k = 2; inputs = 2; gates = and 0 1 ∷ or 0 2 ∷ []; outputs = 3 ∷ [] };
      outcome =
          Outcome.maps
          (record {
            depth = 1;
            lines = plain 1 (0 ∷ 1 ∷ []) ∷ plain 1 (0 ∷ 1 ∷ []) ∷ [];
            luts = lut_of 3 (0 ∷ 1 ∷ []) 0xA ∷ [];
          })
          37;
      prints =
          "K 2 inputs 2 gates 2 luts 1 depth 1" ∷
          "lut 3 depth 1 leaves 0 1 table 000000000000000A" ∷
          "output 3 depth 1" ∷ [];
    }

-- "P4. K=2, I=4; 4=AND(0,1), 5=AND(2,3), 6=NOT(4), 7=NOT(5), 8=AND(6,7), 9=NOT(8); output 9: labels 1 1 1 1 2 2; the cut of 9 is 4 5, table E; three
-- LUTs."
abbrev pub p4 : Case
p4 =
    record {
      bytes =
          1 ∷ 0 ∷ 4 ∷ 1 ∷ 2 ∷ 4 ∷ 6 ∷
          2 ∷ 0 ∷ 11 ∷ 2 ∷ 0 ∷ 1 ∷ 0 ∷ 0 ∷ 0 ∷ 0 ∷ 0 ∷ 0 ∷ 0 ∷ 8 ∷
          2 ∷ 0 ∷ 11 ∷ 2 ∷ 2 ∷ 3 ∷ 0 ∷ 0 ∷ 0 ∷ 0 ∷ 0 ∷ 0 ∷ 0 ∷ 8 ∷
          2 ∷ 0 ∷ 10 ∷ 1 ∷ 4 ∷ 0 ∷ 0 ∷ 0 ∷ 0 ∷ 0 ∷ 0 ∷ 0 ∷ 1 ∷
          2 ∷ 0 ∷ 10 ∷ 1 ∷ 5 ∷ 0 ∷ 0 ∷ 0 ∷ 0 ∷ 0 ∷ 0 ∷ 0 ∷ 1 ∷
          2 ∷ 0 ∷ 11 ∷ 2 ∷ 6 ∷ 7 ∷ 0 ∷ 0 ∷ 0 ∷ 0 ∷ 0 ∷ 0 ∷ 0 ∷ 8 ∷
          2 ∷ 0 ∷ 10 ∷ 1 ∷ 8 ∷ 0 ∷ 0 ∷ 0 ∷ 0 ∷ 0 ∷ 0 ∷ 0 ∷ 1 ∷
          3 ∷ 0 ∷ 1 ∷ 9 ∷ [];
      count = 92;
      table = record { k = 2; inputs = 4; gates = and 0 1 ∷ and 2 3 ∷ inverse 4 ∷ inverse 5 ∷ and 6 7 ∷ inverse 8 ∷ []; outputs = 9 ∷ [] };
      outcome =
          Outcome.maps
          (record {
            depth = 2;
            lines =
                plain 1 (0 ∷ 1 ∷ []) ∷
                plain 1 (2 ∷ 3 ∷ []) ∷
                plain 1 (0 ∷ 1 ∷ []) ∷
                plain 1 (2 ∷ 3 ∷ []) ∷
                line_of 2 (6 ∷ 7 ∷ []) first_three ∷
                plain 2 (4 ∷ 5 ∷ []) ∷ [];
            luts = lut_of 4 (0 ∷ 1 ∷ []) 0x8 ∷ lut_of 5 (2 ∷ 3 ∷ []) 0x8 ∷ lut_of 9 (4 ∷ 5 ∷ []) 0xE ∷ [];
          })
          105;
      prints =
          "K 2 inputs 4 gates 6 luts 3 depth 2" ∷
          "lut 4 depth 1 leaves 0 1 table 0000000000000008" ∷
          "lut 5 depth 1 leaves 2 3 table 0000000000000008" ∷
          "lut 9 depth 2 leaves 4 5 table 000000000000000E" ∷
          "output 9 depth 2" ∷ [];
    }

-- "P5. K=2, I=3; 3=AND(0,1), 4=AND(3,2): label of 4 is 2;"
abbrev pub p5 : Case
p5 =
    record {
      bytes =
          1 ∷ 0 ∷ 4 ∷ 1 ∷ 2 ∷ 3 ∷ 2 ∷
          2 ∷ 0 ∷ 11 ∷ 2 ∷ 0 ∷ 1 ∷ 0 ∷ 0 ∷ 0 ∷ 0 ∷ 0 ∷ 0 ∷ 0 ∷ 8 ∷
          2 ∷ 0 ∷ 11 ∷ 2 ∷ 3 ∷ 2 ∷ 0 ∷ 0 ∷ 0 ∷ 0 ∷ 0 ∷ 0 ∷ 0 ∷ 8 ∷
          3 ∷ 0 ∷ 1 ∷ 4 ∷ [];
      count = 39;
      table = record { k = 2; inputs = 3; gates = and 0 1 ∷ and 3 2 ∷ []; outputs = 4 ∷ [] };
      outcome =
          Outcome.maps
          (record {
            depth = 2;
            lines = plain 1 (0 ∷ 1 ∷ []) ∷ line_of 2 (2 ∷ 3 ∷ []) first_three ∷ [];
            luts = lut_of 3 (0 ∷ 1 ∷ []) 0x8 ∷ lut_of 4 (2 ∷ 3 ∷ []) 0x8 ∷ [];
          })
          58;
      prints =
          "K 2 inputs 3 gates 2 luts 2 depth 2" ∷
          "lut 3 depth 1 leaves 0 1 table 0000000000000008" ∷
          "lut 4 depth 2 leaves 2 3 table 0000000000000008" ∷
          "output 4 depth 2" ∷ [];
    }

-- "at K=3 it is 1."
abbrev pub p5_wide : Case
p5_wide =
    record {
      bytes =
          1 ∷ 0 ∷ 4 ∷ 1 ∷ 3 ∷ 3 ∷ 2 ∷
          2 ∷ 0 ∷ 11 ∷ 2 ∷ 0 ∷ 1 ∷ 0 ∷ 0 ∷ 0 ∷ 0 ∷ 0 ∷ 0 ∷ 0 ∷ 8 ∷
          2 ∷ 0 ∷ 11 ∷ 2 ∷ 3 ∷ 2 ∷ 0 ∷ 0 ∷ 0 ∷ 0 ∷ 0 ∷ 0 ∷ 0 ∷ 8 ∷
          3 ∷ 0 ∷ 1 ∷ 4 ∷ [];
      count = 39;
      table = record { k = 3; inputs = 3; gates = and 0 1 ∷ and 3 2 ∷ []; outputs = 4 ∷ [] };
      outcome =
          Outcome.maps
          (record {
            depth = 1;
            lines = plain 1 (0 ∷ 1 ∷ []) ∷ plain 1 (0 ∷ 1 ∷ 2 ∷ []) ∷ [];
            luts = lut_of 4 (0 ∷ 1 ∷ 2 ∷ []) 0x80 ∷ [];
          })
          39;
      prints =
          "K 3 inputs 3 gates 2 luts 1 depth 1" ∷
          "lut 4 depth 1 leaves 0 1 2 table 0000000000000080" ∷
          "output 4 depth 1" ∷ [];
    }

-- "P6. I=1; 1=AND(0,0), output 1: leaf 0, table 2."
abbrev pub p6 : Case
p6 =
    record {
      bytes =
          1 ∷ 0 ∷ 4 ∷ 1 ∷ 2 ∷ 1 ∷ 1 ∷
          2 ∷ 0 ∷ 11 ∷ 2 ∷ 0 ∷ 0 ∷ 0 ∷ 0 ∷ 0 ∷ 0 ∷ 0 ∷ 0 ∷ 0 ∷ 8 ∷
          3 ∷ 0 ∷ 1 ∷ 1 ∷ [];
      count = 25;
      table = record { k = 2; inputs = 1; gates = and 0 0 ∷ []; outputs = 1 ∷ [] };
      outcome =
          Outcome.maps
          (record {
            depth = 1;
            lines = plain 1 (0 ∷ []) ∷ [];
            luts = lut_of 1 (0 ∷ []) 0x2 ∷ [];
          })
          27;
      prints =
          "K 2 inputs 1 gates 1 luts 1 depth 1" ∷
          "lut 1 depth 1 leaves 0 table 0000000000000002" ∷
          "output 1 depth 1" ∷ [];
    }

-- "P7. Output 0 only, no gates: no LUT, depth 0."
abbrev pub p7 : Case
p7 =
    record {
      bytes =
          1 ∷ 0 ∷ 4 ∷ 1 ∷ 2 ∷ 1 ∷ 0 ∷
          3 ∷ 0 ∷ 1 ∷ 0 ∷ [];
      count = 11;
      table = record { k = 2; inputs = 1; gates = []; outputs = 0 ∷ [] };
      outcome =
          Outcome.maps
          (record {
            depth = 0;
            lines = [];
            luts = [];
          })
          6;
      prints =
          "K 2 inputs 1 gates 0 luts 0 depth 0" ∷
          "output 0 depth 0" ∷ [];
    }

-- "P8. I=1; 1=AND(0,1): refused 7 at 1."
abbrev pub p8 : Case
p8 =
    record {
      bytes =
          1 ∷ 0 ∷ 4 ∷ 1 ∷ 2 ∷ 1 ∷ 1 ∷
          2 ∷ 0 ∷ 11 ∷ 2 ∷ 0 ∷ 1 ∷ 0 ∷ 0 ∷ 0 ∷ 0 ∷ 0 ∷ 0 ∷ 0 ∷ 8 ∷
          3 ∷ 0 ∷ 1 ∷ 1 ∷ [];
      count = 25;
      table = record { k = 2; inputs = 1; gates = and 0 1 ∷ []; outputs = 1 ∷ [] };
      outcome = Outcome.loops 1;
      prints =
          "refused 7 at 1" ∷ [];
    }

-- "P9. I=1; 1=NOT(3), 2=NOT(3), 3=NOT(2): refused 7 at 2."
abbrev pub p9 : Case
p9 =
    record {
      bytes =
          1 ∷ 0 ∷ 4 ∷ 1 ∷ 2 ∷ 1 ∷ 3 ∷
          2 ∷ 0 ∷ 10 ∷ 1 ∷ 3 ∷ 0 ∷ 0 ∷ 0 ∷ 0 ∷ 0 ∷ 0 ∷ 0 ∷ 1 ∷
          2 ∷ 0 ∷ 10 ∷ 1 ∷ 3 ∷ 0 ∷ 0 ∷ 0 ∷ 0 ∷ 0 ∷ 0 ∷ 0 ∷ 1 ∷
          2 ∷ 0 ∷ 10 ∷ 1 ∷ 2 ∷ 0 ∷ 0 ∷ 0 ∷ 0 ∷ 0 ∷ 0 ∷ 0 ∷ 1 ∷
          3 ∷ 0 ∷ 1 ∷ 3 ∷ [];
      count = 50;
      table = record { k = 2; inputs = 1; gates = inverse 3 ∷ inverse 3 ∷ inverse 2 ∷ []; outputs = 3 ∷ [] };
      outcome = Outcome.loops 2;
      prints =
          "refused 7 at 2" ∷ [];
    }

-- P5 stands twice
unfoldable pub drawings : List Case
drawings = p1 ∷ p2 ∷ p3 ∷ p4 ∷ p5 ∷ p5_wide ∷ p6 ∷ p7 ∷ p8 ∷ p9 ∷ []
