-- A text in a place of fixed size: its bytes, and zeros behind them.
use Rattle.std.specs.Prelude.{◌≡◌, ℕ, ◌≤◌, ◌-◌, ◌++◌, List, length, take, replicate}

pub record IsShort (size len : ℕ) (bytes : List ℕ) : Type 0 where
  pub whole : length bytes ≡ size
  pub within : len ≤ size
  pub padded : bytes ≡ take len bytes ++ replicate (size - len) 0
