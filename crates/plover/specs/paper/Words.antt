-- Replies as words, for programs in other languages: the paper's number in the upper 32 bits, 0 where all is well, and in the lower 32 the place, or
-- the sheet's or the table's length, or the depth.
use Rattle.std.specs.Prelude.{ℕ, ◌+◌, ◌*◌, ◌<◌, ◌≡◌, List, Result}
use Rattle.mapping.specs.declared.MapError.{MapError}
use Rattle.mapping.specs.paper.Maps as mapper
use Rattle.inspecting.specs.paper.Inspecting.{Inspection}
use Rattle.inspecting.specs.paper.Inspecting as inspector
use Rattle.compiling.specs.declared.CompileError.{CompileError}
use Rattle.compiling.specs.paper.Compiles as compiler

-- 2 to the 32
abbrev pub half : ℕ
half = 4294967296

abbrev pub word_of : (number place : ℕ) → ℕ
word_of number place = number * half + place

-- A word for the mapper's reply, which leaves the buffer as the mapper does. The place fits its half, so the word says number and place.
pub record MapsAs (s before : List ℕ) (w : ℕ) (after : List ℕ) : Type 0 where
  pub reply : Result ℕ MapError
  pub maps : mapper.Maps s before reply after
  pub fits : mapper.place reply < half
  pub word : w ≡ word_of (mapper.number reply) (mapper.place reply)

-- A word for the inspector's reply.
pub record InspectsAs (s t : List ℕ) (w : ℕ) : Type 0 where
  pub reply : Inspection
  pub inspects : inspector.Inspects s t reply
  pub fits : inspector.place reply < half
  pub word : w ≡ word_of (inspector.number reply) (inspector.place reply)

-- A word for the reply to a text of equations, which leaves the buffer as `compile` does.
pub record CompilesAs (s : List ℕ) (k : ℕ) (before : List ℕ) (w : ℕ) (after : List ℕ) : Type 0 where
  pub reply : Result ℕ CompileError
  pub compiles : compiler.Compiles s k before reply after
  pub fits : compiler.place reply < half
  pub word : w ≡ word_of (compiler.number reply) (compiler.place reply)
