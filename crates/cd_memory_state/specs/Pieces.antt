-- Pieces that are offered by the other sides of sessions, and when they come.
use Rattle.std.specs.Prelude.{ℕ, List, [], ◌∷◌, length, Bool, true, ◌&&◌, nat_lt, nat_le, ◌==◌, if◌then◌else◌, Option, Some, None}
use Rattle.cd_outside.specs.Lines.{Traffic}

-- the session of a piece, its bytes that weren't taken yet, and after how many bytes given to which session it comes
pub record PieceHeld : Type 0 where
  pub session : ℕ
  pub rest : List ℕ
  pub after : Option (ℕ × ℕ)

-- a piece of that session has bytes left
abbrev pub is_left_of_session : ℕ → PieceHeld → Bool
is_left_of_session session piece = (piece.session == session) && nat_lt 0 (length piece.rest)

-- it has come
abbrev pub has_come : Traffic → Option (ℕ × ℕ) → Bool
has_come traffic None = true
has_come traffic (Some after) = nat_le after.1 (length (traffic.given after.0))

-- the bytes that a session has to give now: those that are left of its first piece that has any, if it has come
abbrev pub coming : Traffic → List PieceHeld → ℕ → List ℕ
coming traffic [] session = []
coming traffic (piece ∷ pieces) session = if is_left_of_session session piece then (if has_come traffic piece.after then piece.rest else []) else coming traffic pieces session
