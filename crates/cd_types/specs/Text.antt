-- A text behind its length, which is a number of n bytes.
use Rattle.std.specs.Prelude.{ℕ, ◌++◌, List, length, take, drop, Bool, ◌&&◌, nat_le, Option, Some, None, if◌then◌else◌}
use Rattle.cd_types.specs.Format.{◌>>=◌}
use Rattle.cd_types.specs.Number.{number_in, number_bytes}

-- the length, and then the text
unfoldable pub text_bytes : ℕ → List ℕ → List ℕ
text_bytes n text = number_bytes n (length text) ++ text

-- the text behind its length, where it is whole and passes the test
unfoldable pub text_in : ℕ → (List ℕ → Bool) → List ℕ → Option (List ℕ × List ℕ)
text_in n test bytes = do
  len ← number_in n bytes
  if nat_le len.0 (length len.1) && test (take len.0 len.1) then Some (take len.0 len.1, drop len.0 len.1) else None

-- a number of n bytes that passes the test
unfoldable pub ranged_in : ℕ → (ℕ → Bool) → List ℕ → Option (ℕ × List ℕ)
ranged_in n test bytes = do
  number ← number_in n bytes
  if test number.0 then Some number else None
