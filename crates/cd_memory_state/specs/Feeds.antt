-- Bytes that wait to be read.
use Rattle.std.specs.Prelude.{ℕ, List}

-- the bytes that are left, and for how many more there is room
pub record Fed : Type 0 where
  pub rest : List ℕ
  pub room : ℕ
