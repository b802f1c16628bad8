-- What words say as values of a command's parameters.
use Rattle.std.specs.Prelude.{ℕ, List, [], ◌∷◌, Bool, ◌&&◌, nat_le, length, codes, Option, Some, None, if◌then◌else◌}
use Rattle.cd_types.specs.FileName.{is_file_name}
use Rattle.cd_types.specs.declared.choices.Queue.{Queue}
use Rattle.cd_types.specs.declared.choices.Queue.TheVariants as queue
use Rattle.cd_grammar.specs.Words.{said_in, is_word}
use Rattle.cd_grammar.specs.Values.{is_digits, number_of}

-- a number of at most so many digits between two bounds
unfoldable pub number_within : ℕ → ℕ → ℕ → List ℕ → Option ℕ
number_within most low high word =
    if is_digits word && nat_le (length word) most && nat_le low (number_of word) && nat_le (number_of word) high then Some (number_of word) else None

-- a number of the language, which has at most 10 digits
abbrev pub short_number : ℕ → ℕ → List ℕ → Option ℕ
short_number low high word = number_within 10 low high word

-- a number of eight bytes, which has at most 20 digits
abbrev pub wide_number : List ℕ → Option ℕ
wide_number word = number_within 20 0 18446744073709551615 word

-- a file's name
unfoldable pub file_of : List ℕ → Option (List ℕ)
file_of name = if is_file_name name then Some name else None

unfoldable pub queue_in : List ℕ → Option Queue
queue_in word =
    said_in ((codes "exec", queue.Execution) ∷ (codes "wait", queue.Wait) ∷ (codes "timer", queue.Timer) ∷ (codes "hold", queue.Hold) ∷ []) word

-- YES, the only value of release
unfoldable pub yes_in : List ℕ → Bool
yes_in word = is_word word (codes "yes")
