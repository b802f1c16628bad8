-- The pieces of a source, sent one after the other from the start on.
use Rattle.std.specs.Prelude.{ℕ, ◌+◌, ◌<◌}
use Rattle.cd_pieces.specs.Piece.{piece_end}

-- Sent len block interval start offset count: so many pieces were sent, and the next one begins at this offset
pub data Sent : ℕ → ℕ → ℕ → ℕ → ℕ → ℕ → Type 0 where
  -- none was sent
  begun : {len block interval start : ℕ} → Sent len block interval start start 0
  -- one more was, which isn't empty
  piece : {len block interval start offset count : ℕ} → Sent len block interval start offset count → offset < len → Sent len block interval start (piece_end len block interval offset) (count + 1)
