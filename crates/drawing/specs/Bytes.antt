-- What functions answer of numbers in a table's bytes.
use Rattle.std.specs.Prelude.{ℕ, ◌^◌, ◌≤◌, ◌<◌, ◌≡◌, List, get_or}
use Rattle.drawing.specs.paper.Bytes.{number_at}

-- ids of one byte or two
pub record Narrow (width : ℕ) : Type 0 where
  pub some : 1 ≤ width
  pub few : width ≤ 2

-- r is the number at a place, and fits its bytes, which are two at most
pub record SmallAt (s : List ℕ) (at width r : ℕ) : Type 0 where
  pub number : r ≡ number_at s at width
  pub small : r < 256 ^ width
  pub fits : r < 65536

-- r is the byte at a place, and fits a byte
pub record ByteAt (s : List ℕ) (at r : ℕ) : Type 0 where
  pub byte : r ≡ get_or s at 0
  pub small : r < 256
