-- What a caller of a reader finds in its free part.
use Rattle.std.proofs.Common.{◌≡◌, ℕ, List, length, drop, ◌++◌, arith, length-append, length-drop, length-take}
use Rattle.std.proofs.lemmas.List.{take_at}
use Rattle.cd_frames.specs.Reading.{overwritten}

-- what is written over bytes doesn't change their number
pub length_overwritten : (bytes over : List ℕ) → length (overwritten bytes over) ≡ length bytes
length_overwritten bytes over =
    omega (arith, length-take (length bytes) (over ++ drop (length over) bytes), length-append over (drop (length over) bytes), length-drop (length over) bytes)

-- as many bytes written over them are all that is there
pub overwritten_all : (bytes over : List ℕ) → length over ≡ length bytes → overwritten bytes over ≡ over
overwritten_all bytes over same = take_at over (drop (length over) bytes) (length bytes) same
