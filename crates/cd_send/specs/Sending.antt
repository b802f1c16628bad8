-- What a sender knows: how much it sends, in which pieces, how far it has sent, and how far that was acknowledged.
use Rattle.std.specs.Prelude.{◌≡◌, ℕ, ◌≤◌, Bool, true, ◌&&◌, ◌||◌, ◌==◌, nat_lt, if◌then◌else◌}
use Rattle.cd_outside.specs.Cuts.{is_cut}
use Rattle.cd_pieces.specs.Piece.{piece_end}

pub record Sending : Type 0 where
  pub length : ℕ
  pub block : ℕ
  pub interval : ℕ
  -- the offset at which the sending starts
  pub start : ℕ
  pub sent : ℕ
  pub acked : ℕ

-- the start, or a cut behind it: where a piece begins or ends
abbrev pub is_reached : Sending → ℕ → Bool
is_reached s offset = offset == s.start || is_cut s.length s.block s.interval s.start offset

-- what holds of it at all times: whole pieces were sent, and whole pieces were acknowledged
pub record IsSending (s : Sending) : Type 0 where
  pub some : 1 ≤ s.block
  pub from : s.start ≤ s.acked
  pub order : s.acked ≤ s.sent
  pub within : s.sent ≤ s.length
  pub sent_whole : is_reached s s.sent ≡ true
  pub acked_whole : is_reached s s.acked ≡ true

abbrev pub starting : ℕ → ℕ → ℕ → ℕ → Sending
starting length from block interval = record { length = length; block = block; interval = interval; start = from; sent = from; acked = from }

-- where the next piece ends
abbrev pub next_end : Sending → ℕ
next_end s = piece_end s.length s.block s.interval s.sent

-- the next piece went out
abbrev pub after_piece : Sending → Sending
after_piece s = record s { sent = next_end s }

-- the offset that is awaited: the end of the first piece that isn't acknowledged
abbrev pub awaited : Sending → ℕ
awaited s = piece_end s.length s.block s.interval s.acked

abbrev pub is_awaited : ℕ → Sending → Bool
is_awaited offset s = nat_lt s.acked s.sent && offset == awaited s

-- what an Ack makes of it
abbrev pub after_ack : ℕ → Sending → Sending
after_ack offset s = if is_awaited offset s then record s { acked = offset } else s
