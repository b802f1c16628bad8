-- Labels.
use Rattle.std.specs.Prelude.{ℕ, List, [], ◌∷◌, length, map, codes, Bool, false, not, ◌&&◌, ◌||◌, nat_le, IsTrue, Option, Some, None, if◌then◌else◌}
use Rattle.std.specs.Char.{is_ascii_uppercase, is_ascii_digit, to_ascii_uppercase}
use Rattle.std.specs.List.{list_all, list_any}
use Rattle.std.specs.Str.{bytes_eq}

-- the grammar's own words
abbrev pub reserved_words : List (List ℕ)
reserved_words =
    codes "PROCESS" ∷ codes "COPY" ∷ codes "RUN" ∷ codes "TASK" ∷ codes "JOB" ∷ codes "SUBMIT" ∷ codes "IF" ∷ codes "THEN" ∷ codes "ELSE" ∷ codes "EIF" ∷ codes "GOTO" ∷ codes "EXIT" ∷ codes "PEND" ∷ codes "PNODE" ∷ codes "SNODE" ∷ codes "FROM" ∷ codes "TO" ∷ codes "COMPRESS" ∷ codes "EXTENDED" ∷ []

-- a letter in upper case, or a digit
abbrev pub is_label_byte : ℕ → Bool
is_label_byte b = is_ascii_uppercase b || is_ascii_digit b

abbrev pub begins_with_letter : List ℕ → Bool
begins_with_letter [] = false
begins_with_letter (b ∷ bytes) = is_ascii_uppercase b

abbrev pub is_reserved : List ℕ → Bool
is_reserved text = list_any (λ word. bytes_eq word text) reserved_words

-- 1 to 8 letters in upper case and digits, first a letter, and none of the grammar's own words
abbrev pub is_label : List ℕ → Bool
is_label text = begins_with_letter text && nat_le (length text) 8 && list_all is_label_byte text && not (is_reserved text)

abbrev pub IsLabel : List ℕ → Type 0
IsLabel text = IsTrue (is_label text)

-- the label of these bytes, whatever the case of their letters
abbrev pub label_of : List ℕ → Option (List ℕ)
label_of bytes = if is_label (map to_ascii_uppercase bytes) then Some (map to_ascii_uppercase bytes) else None
