-- What words and quoted texts say as values.
use Rattle.std.specs.Prelude.{ℕ, ◌+◌, ◌-◌, ◌*◌, List, [], ◌∷◌, Bool, true, false, not, ◌&&◌, ◌||◌, ◌==◌, nat_lt, nat_le, length, take, drop, fold, codes, slice_index, Option, Some, None, if◌then◌else◌}
use Rattle.std.specs.Char.{is_ascii_digit, is_ascii_alphanumeric}
use Rattle.std.specs.List.{list_all, list_any}
use Rattle.std.specs.Str.{bytes_eq}
use Rattle.cd_types.specs.FileName.{is_file_name}
use Rattle.cd_types.specs.Label.{is_label}
use Rattle.cd_types.specs.NodeName.{is_node_name}
use Rattle.cd_types.specs.Symbols.{upper_case}
use Rattle.cd_types.specs.declared.choices.Hold.{Hold}
use Rattle.cd_types.specs.declared.choices.Hold.TheVariants as hold
use Rattle.cd_types.specs.declared.choices.Retain.{Retain}
use Rattle.cd_types.specs.declared.choices.Retain.TheVariants as retain
use Rattle.cd_types.specs.declared.choices.Disp.{Disp}
use Rattle.cd_types.specs.declared.choices.Disp.TheVariants as disp
use Rattle.cd_types.specs.declared.choices.Relation.{Relation}
use Rattle.cd_types.specs.declared.choices.Relation.TheVariants as relation
use Rattle.cd_types.specs.declared.choices.Side.{Side}
use Rattle.cd_types.specs.declared.choices.Side.TheVariants as side
use Rattle.cd_grammar.specs.declared.token.Key.{Key}
use Rattle.cd_grammar.specs.declared.token.Key.TheVariants as key
use Rattle.cd_grammar.specs.Answers.{Answer, Fits, Outside, Wrong, ranged, wanted}
use Rattle.cd_grammar.specs.Words.{is_word, said_in}

-- digits alone, at least one
unfoldable pub is_digits : List ℕ → Bool
is_digits word = nat_le 1 (length word) && list_all is_ascii_digit word

-- the number that digits write
unfoldable pub number_of : List ℕ → ℕ
number_of digits = fold (λ n digit. 10 * n + (digit - 48)) 0 digits

-- a number between two bounds, of at most 10 digits
unfoldable pub number_in : ℕ → ℕ → List ℕ → Answer ℕ
number_in low high word =
    if is_digits word then ranged (nat_le (length word) 10 && nat_le low (number_of word) && nat_le (number_of word) high) (number_of word) else Wrong

-- a node's name
unfoldable pub node_in : List ℕ → Answer (List ℕ)
node_in word = ranged (is_node_name word) word

-- a file's name
unfoldable pub file_in : List ℕ → Answer (List ℕ)
file_in name = ranged (is_file_name name) name

-- the language's own words, which are no labels
unfoldable pub is_own : Key → Bool
is_own key.Process = true
is_own key.Copy = true
is_own key.Run = true
is_own key.Task = true
is_own key.Job = true
is_own key.Submit = true
is_own key.If = true
is_own key.Then = true
is_own key.Else = true
is_own key.Eif = true
is_own key.Goto = true
is_own key.Exit = true
is_own key.Pend = true
is_own key.Pnode = true
is_own key.Snode = true
is_own key.From = true
is_own key.To = true
is_own key.Compress = true
is_own key.Extended = true
is_own _ = false

-- a label, kept in upper case
unfoldable pub label_in : Key → List ℕ → Answer (List ℕ)
label_in k word = if is_own k then Wrong else ranged (is_label (upper_case word)) (upper_case word)

-- a reference stands in the word, behind its first byte
abbrev pub has_reference : List ℕ → Bool
has_reference [] = false
has_reference (b ∷ bytes) = list_any (λ c. c == 38) bytes

-- a label in front of a statement, where a word in which a reference stands is none
unfoldable pub front_label_in : Key → List ℕ → Answer (List ℕ)
front_label_in k word = if has_reference word then Wrong else label_in k word

-- a symbolic name behind its &: 1 to 17 letters and digits
unfoldable pub symbol_in : List ℕ → Answer (List ℕ)
symbol_in [] = Wrong
symbol_in (b ∷ name) =
    if b == 38 then ranged (nat_le 1 (length name) && nat_le (length name) 17 && list_all is_ascii_alphanumeric name) name else Wrong

unfoldable pub hold_in : List ℕ → Option Hold
hold_in word = said_in ((codes "NO", hold.No) ∷ (codes "YES", hold.Yes) ∷ (codes "CALL", hold.Call) ∷ []) word

unfoldable pub retain_in : List ℕ → Option Retain
retain_in word = said_in ((codes "NO", retain.No) ∷ (codes "YES", retain.Yes) ∷ (codes "INITIAL", retain.Initial) ∷ []) word

unfoldable pub restart_in : List ℕ → Option Bool
restart_in word = said_in ((codes "YES", true) ∷ (codes "NO", false) ∷ []) word

unfoldable pub disp_in : List ℕ → Option Disp
disp_in word = said_in ((codes "NEW", disp.New) ∷ (codes "RPL", disp.Rpl) ∷ (codes "MOD", disp.Mod) ∷ []) word

-- how a source is shared
unfoldable pub is_share : List ℕ → Bool
is_share word = is_word word (codes "SHR") || is_word word (codes "OLD")

unfoldable pub relation_in : List ℕ → Option Relation
relation_in word =
    said_in ((codes "EQ", relation.Eq) ∷ (codes "NE", relation.Ne) ∷ (codes "GE", relation.Ge) ∷ (codes "GT", relation.Gt) ∷ (codes "LE", relation.Le) ∷ (codes "LT", relation.Lt) ∷ []) word

-- how many bytes a K and an M stand for; none stands for 0
unfoldable pub unit_of : ℕ → ℕ
unit_of b = if b == 75 || b == 107 then 1024 else (if b == 77 || b == 109 then 1048576 else 0)

-- the interval of a number of units: the number has at most 10 digits and isn't 0, and there are at most 2^40 bytes
unfoldable pub units_in : List ℕ → ℕ → Answer ℕ
units_in digits unit =
    ranged (nat_le (length digits) 10 && nat_le 1 (number_of digits * unit) && nat_le (number_of digits * unit) 1099511627776) (number_of digits * unit)

-- an interval between checkpoints, in bytes: NO and 0 are none; else a number behind which stands K or M. A number alone is
-- outside the range.
unfoldable pub interval_in : List ℕ → Answer ℕ
interval_in word =
    if is_word word (codes "NO") || bytes_eq word (codes "0") then Fits 0
    else (if is_digits word then Outside 0
    else (if nat_lt 0 (unit_of (slice_index word (length word - 1))) && is_digits (take (length word - 1) word) then units_in (take (length word - 1) word) (unit_of (slice_index word (length word - 1)))
    else Wrong))

-- the items of a copy that are accepted; they have no effect
unfoldable pub is_item : List ℕ → Bool
is_item text =
    is_word text [] || is_word text (codes "datatype=binary") || is_word text (codes "datatype=text") || is_word text (codes "xlate=no") || is_word text (codes "strip.blanks=no")

-- how many bytes stand before the first colon, or all of them
unfoldable pub item_len : List ℕ → ℕ
item_len [] = 0
item_len (b ∷ bytes) = if b == 58 then 0 else item_len bytes + 1

abbrev pub onto_first : ℕ → List (List ℕ) → List (List ℕ)
onto_first b [] = (b ∷ []) ∷ []
onto_first b (item ∷ items) = (b ∷ item) ∷ items

-- what stands between colons
unfoldable pub between_colons : List ℕ → List (List ℕ)
between_colons [] = [] ∷ []
between_colons (b ∷ bytes) = if b == 58 then [] ∷ between_colons bytes else onto_first b (between_colons bytes)

-- items between colons, some of which may be empty
unfoldable pub are_items : List ℕ → Bool
are_items text = list_all is_item (between_colons text)

-- items behind a colon, if there is one
abbrev pub are_behind : Option (List ℕ) → Bool
are_behind None = true
are_behind (Some rest) = are_items rest

-- a command: 1 to 32,768 bytes
unfoldable pub is_command : List ℕ → Bool
is_command text = nat_le 1 (length text) && nat_le (length text) 32768
