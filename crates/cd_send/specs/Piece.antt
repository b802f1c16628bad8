-- What a call for the next piece answers.
use Rattle.std.specs.Prelude.{◌≡◌, ℕ, ◌+◌, ◌≤◌, ◌<◌, List, length, take, drop}
use Rattle.cd_pieces.specs.Piece.{IsNextCut}
use Rattle.cd_send.specs.Sending.{Sending, next_end, after_piece}
use Rattle.cd_send.specs.declared.sender.Piece.{Piece}
use Rattle.cd_send.specs.declared.sender.Piece.TheVariants as piece
use Rattle.cd_send.specs.declared.sender.SendFault.{SendFault}
use Rattle.cd_send.specs.declared.sender.SendFault.TheVariants as fault

-- all of the length went out, or the next piece does
abbrev pub IsNext : Sending → Sending → Piece → Type 0
IsNext old new piece.AllSent = (old.sent ≡ old.length) × (new ≡ old)
IsNext old new (piece.Bytes offset len) = (old.sent < old.length) × (offset ≡ old.sent) × (offset + len ≡ next_end old) × (new ≡ after_piece old)

-- a piece ends at the next cut behind its beginning
abbrev pub EndsAtCut : Sending → Piece → Type 0
EndsAtCut old piece.AllSent = Unit {0}
EndsAtCut old (piece.Bytes offset len) = IsNextCut old.length old.block old.interval old.start offset (offset + len)

-- the source has the whole piece, and it stands at the front of the buffer
abbrev pub IsRead : List ℕ → List ℕ → Piece → Type 0
IsRead source buffer piece.AllSent = Unit {0}
IsRead source buffer (piece.Bytes offset len) = (offset + len ≤ length source) × (take len buffer ≡ take len (drop offset source))

-- nothing was sent; a source that is short ends before the piece does
abbrev pub IsFault : Sending → Sending → SendFault → Type 0
IsFault old new fault.Files = new ≡ old
IsFault old new (fault.Short offset) = (old.sent < old.length) × (offset ≡ old.sent) × (new ≡ old)

abbrev pub IsShort : Sending → List ℕ → SendFault → Type 0
IsShort old source fault.Files = Unit {0}
IsShort old source (fault.Short offset) = length source < next_end old
