-- Words of a line: runs of bytes other than blanks, which are spaces and tabs.
use Rattle.std.specs.Prelude.{ℕ, ◌*◌, ◌+◌, ◌-◌, List, [], ◌∷◌, length, take, drop, fold, Bool, not, ◌==◌, ◌||◌, ◌&&◌, nat_le, if◌then◌else◌, Option, Some, None}
use Rattle.std.specs.Char.{is_ascii_digit}
use Rattle.std.specs.List.{list_all, position_or_len}

abbrev pub is_gap : ℕ → Bool
is_gap b = b == 32 || b == 9

-- the bytes behind the blanks at the front
abbrev pub ungapped : List ℕ → List ℕ
ungapped bytes = drop (position_or_len (λ b. not (is_gap b)) bytes) bytes

-- the word at the front, behind blanks, and what stands behind it
abbrev pub word_in : List ℕ → Option (List ℕ × List ℕ)
word_in bytes =
    let rest = ungapped bytes in
    let len = position_or_len is_gap rest in
    if len == 0 then None else Some (take len rest, drop len rest)

-- a number: 1 to 20 digits, at most the greatest u64
abbrev pub is_digits : List ℕ → Bool
is_digits word = nat_le 1 (length word) && nat_le (length word) 20 && list_all is_ascii_digit word

abbrev pub value_of : List ℕ → ℕ
value_of digits = fold (λ n digit. 10 * n + (digit - 48)) 0 digits

abbrev pub up_to : ℕ → ℕ → Option ℕ
up_to most n = if nat_le n most then Some n else None

abbrev pub number_of : List ℕ → Option ℕ
number_of word = if is_digits word then up_to 18446744073709551615 (value_of word) else None

-- the value, where nothing but blanks stands behind it
abbrev pub ended : {A : Type 0} → A → List ℕ → Option A
ended x bytes = if length (ungapped bytes) == 0 then Some x else None
