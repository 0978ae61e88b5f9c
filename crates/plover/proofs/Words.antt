-- Words from the numbers and places that they are made of.
use Prim.Native.Nat.{ℕ, ◌≤◌, ◌<◌}
use Rattle.std.specs.Prelude.{Result, Ok, Err}
use native.Mathlib.Omega.{arith}
use mathlib.Core.Path.{◌≡◌, ◌∙◌}
use Rattle.drawing.proofs.Numbers.{number_most}
use Rattle.sheet.specs.declared.Fault.{Fault}
use Rattle.sheet.specs.declared.Fault.TheVariants.{Torn, Tag, Length, Range, Extra}
use Rattle.sheet.specs.Shape as shape
use Rattle.mapping.specs.declared.MapError.{MapError}
use Rattle.mapping.specs.declared.MapError.TheVariants as mapped
use Rattle.mapping.specs.paper.Maps as mapper
use Rattle.inspecting.specs.paper.Inspecting.{Inspection}
use Rattle.inspecting.specs.declared.InspectError.TheVariants.{Refused, LoopAt, Shape, Cut, Label, Paths, Cover, Function, Depth}
use Rattle.inspecting.specs.paper.Inspecting as inspector
use Rattle.compiling.specs.declared.CompileError.{CompileError}
use Rattle.compiling.specs.declared.CompileError.TheVariants as compiling
use Rattle.compiling.specs.paper.Compiles as compiler
use Rattle.plover.specs.paper.Words.{half, word_of}

pub word_as : {number place a b w : ℕ} → a ≡ number → b ≡ place → w ≡ word_of a b → w ≡ word_of number place
word_as number_is place_is e = e ∙ (λ i. word_of (number_is i) (place_is i))

-- the paper's numbers are small
map_number : (r : Result ℕ MapError) → mapper.number r < half
map_number (Ok n) = omega arith
map_number (Err (mapped.Refused r)) = omega (arith, number_most r)
map_number (Err (mapped.LoopAt gate)) = omega arith
map_number (Err mapped.Room) = omega arith

fault_most : (f : Fault) → shape.number f ≤ 31
fault_most (Torn at) = omega arith
fault_most (Tag at) = omega arith
fault_most (Length at) = omega arith
fault_most (Range at) = omega arith
fault_most (Extra at) = omega arith

inspect_number : (r : Inspection) → inspector.number r < half
inspect_number (Ok depth) = omega arith
inspect_number (Err (Refused r)) = omega (arith, number_most r)
inspect_number (Err (LoopAt gate)) = omega arith
inspect_number (Err (Shape fault)) = omega (arith, fault_most fault)
inspect_number (Err (Cut gate)) = omega arith
inspect_number (Err (Label gate)) = omega arith
inspect_number (Err (Paths gate)) = omega arith
inspect_number (Err (Cover gate)) = omega arith
inspect_number (Err (Function gate)) = omega arith
inspect_number (Err Depth) = omega arith

equations_number : (r : Result ℕ CompileError) → compiler.number r < half
equations_number (Ok n) = omega arith
equations_number (Err (compiling.Text at)) = omega arith
equations_number (Err (compiling.Name at)) = omega arith
equations_number (Err compiling.Numbers) = omega arith
equations_number (Err (compiling.LoopAt gate)) = omega arith
equations_number (Err compiling.Room) = omega arith

-- what a word is made of fits its halves
pub map_fits : (r : Result ℕ MapError) {a b : ℕ} → a ≡ mapper.number r → b ≡ mapper.place r → mapper.place r < half → (a < half) × (b < half)
map_fits r number_is place_is fits = (omega (arith, number_is, map_number r), omega (arith, place_is, fits))

pub inspect_fits : (r : Inspection) {a b : ℕ} → a ≡ inspector.number r → b ≡ inspector.place r → inspector.place r < half → (a < half) × (b < half)
inspect_fits r number_is place_is fits = (omega (arith, number_is, inspect_number r), omega (arith, place_is, fits))

pub equations_fits : (r : Result ℕ CompileError) {a b : ℕ} → a ≡ compiler.number r → b ≡ compiler.place r → compiler.place r < half → (a < half) × (b < half)
equations_fits r number_is place_is fits = (omega (arith, number_is, equations_number r), omega (arith, place_is, fits))
