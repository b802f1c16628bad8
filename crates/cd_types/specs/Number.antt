-- Numbers of a fixed width, the highest byte first.
use Rattle.std.specs.Prelude.{ℕ, ◌<◌, ◌^◌, List, length, drop, nat_lt, Option, Some, None, if◌then◌else◌}
use Rattle.byteorder.specs.Endian.{big_bytes, big_number}

-- a number of n bytes
abbrev pub IsNumber : ℕ → ℕ → Type 0
IsNumber n x = x < 256 ^ n

-- its bytes
unfoldable pub number_bytes : ℕ → ℕ → List ℕ
number_bytes n x = big_bytes n x

-- the number in the first n bytes
unfoldable pub number_in : ℕ → List ℕ → Option (ℕ × List ℕ)
number_in n bytes = if nat_lt (length bytes) n then None else Some (big_number n bytes, drop n bytes)
