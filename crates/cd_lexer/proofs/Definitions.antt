-- Steps of reading the values that a text gives to names.
use Rattle.std.proofs.Common.{◌≡◌, ℕ, true, false, ◌&&◌, ◌||◌, List, [], ◌∷◌, length, Option, Some, None, refl, ap, ◌∙◌, sym}
use Rattle.std.specs.Prelude.{◌==◌, nat_lt}
use Rattle.cd_types.specs.Symbols.{upper_case, with_symbol}
use Rattle.cd_ast.specs.declared.piece.PieceKind.{PieceKind}
use Rattle.cd_ast.specs.Pieces.{pieces_after, run_len, is_gap}
use Rattle.cd_ast.specs.Subst.{ends_name}
use Rattle.cd_ast.specs.Defaults.{last_name, is_sign, is_statement, piece_value, first_value, given_value, piece_name, defined, definitions, with_definitions}

pub last_name-end : (word : List ℕ) → word ≡ [] → last_name word ≡ None
unfolding last_name
last_name-end word e = rw e refl

-- a byte that begins the last name, and another
pub last_name-here : (word : List ℕ) (b : ℕ) (bs : List ℕ) → word ≡ b ∷ bs → (b == 38 && nat_lt 0 (length bs) && run_len ends_name bs == length bs) ≡ true → last_name word ≡ Some bs
unfolding last_name
last_name-here word b bs e is = rw (e, is) refl

pub last_name-later : (word : List ℕ) (b : ℕ) (bs : List ℕ) → word ≡ b ∷ bs → (b == 38 && nat_lt 0 (length bs) && run_len ends_name bs == length bs) ≡ false → last_name word ≡ last_name bs
unfolding last_name
last_name-later word b bs e is = rw (e, is) refl

pub first_value-end : (before : PieceKind) (text : List ℕ) → text ≡ [] → first_value (pieces_after 0 before text) ≡ None
unfolding first_value pieces_after
first_value-end before text e = rw e refl

pub first_value-gap : (before kind : PieceKind) (text bytes rest : List ℕ) → pieces_after 0 before text ≡ record { kind = kind; bytes = bytes } ∷ pieces_after 0 kind rest
    → (is_gap kind || is_sign kind bytes 44) ≡ true → first_value (pieces_after 0 before text) ≡ first_value (pieces_after 0 kind rest)
unfolding first_value
first_value-gap before kind text bytes rest first gap = rw (first, gap) refl

pub first_value-here : (before kind : PieceKind) (text bytes rest : List ℕ) → pieces_after 0 before text ≡ record { kind = kind; bytes = bytes } ∷ pieces_after 0 kind rest
    → (is_gap kind || is_sign kind bytes 44) ≡ false → first_value (pieces_after 0 before text) ≡ piece_value kind bytes
unfolding first_value
first_value-here before kind text bytes rest first gap = rw (first, gap) refl

pub given_value-end : (before : PieceKind) (text : List ℕ) → text ≡ [] → given_value (pieces_after 0 before text) ≡ None
unfolding given_value pieces_after
given_value-end before text e = rw e refl

pub given_value-sign : (before kind : PieceKind) (text bytes rest : List ℕ) → pieces_after 0 before text ≡ record { kind = kind; bytes = bytes } ∷ pieces_after 0 kind rest
    → is_sign kind bytes 61 ≡ true → given_value (pieces_after 0 before text) ≡ first_value (pieces_after 0 kind rest)
unfolding given_value
given_value-sign before kind text bytes rest first is = rw (first, is) refl

pub given_value-other : (before kind : PieceKind) (text bytes rest : List ℕ) → pieces_after 0 before text ≡ record { kind = kind; bytes = bytes } ∷ pieces_after 0 kind rest
    → is_sign kind bytes 61 ≡ false → given_value (pieces_after 0 before text) ≡ None
unfolding given_value
given_value-other before kind text bytes rest first is = rw (first, is) refl

pub definitions-end : (before : PieceKind) (text : List ℕ) → text ≡ [] → definitions (pieces_after 0 before text) ≡ []
unfolding definitions pieces_after
definitions-end before text e = rw e refl

pub definitions-statement : (before kind : PieceKind) (text bytes rest : List ℕ) → pieces_after 0 before text ≡ record { kind = kind; bytes = bytes } ∷ pieces_after 0 kind rest
    → is_statement kind bytes ≡ true → definitions (pieces_after 0 before text) ≡ []
unfolding definitions
definitions-statement before kind text bytes rest first is = rw (first, is) refl

pub definitions-first : (before kind : PieceKind) (text bytes rest : List ℕ) → pieces_after 0 before text ≡ record { kind = kind; bytes = bytes } ∷ pieces_after 0 kind rest
    → is_statement kind bytes ≡ false → definitions (pieces_after 0 before text) ≡ defined (piece_name kind bytes) (given_value (pieces_after 0 kind rest)) (definitions (pieces_after 0 kind rest))
unfolding definitions
definitions-first before kind text bytes rest first is = rw (first, is) refl

pub with_definitions-none : (symbols : List (List ℕ × List ℕ)) → with_definitions symbols [] ≡ symbols
unfolding with_definitions
with_definitions-none symbols = refl

pub with_definitions-first : (symbols others : List (List ℕ × List ℕ)) (name value : List ℕ) → with_definitions symbols ((name, value) ∷ others) ≡ with_definitions (with_symbol symbols (upper_case name) value) others
unfolding with_definitions
with_definitions-first symbols others name value = refl

-- a definition is made, or none is there
pub with_definitions-made : (old new others : List (List ℕ × List ℕ)) (name value : List ℕ) → new ≡ with_symbol old (upper_case name) value → with_definitions new others ≡ with_definitions old ((name, value) ∷ others)
with_definitions-made old new others name value made = rw made (sym (with_definitions-first old others name value))

pub defined-no_name : (name value : Option (List ℕ)) (others : List (List ℕ × List ℕ)) → None ≡ name → defined name value others ≡ others
defined-no_name name value others e = rw (← e) refl

pub defined-no_value : (name value : Option (List ℕ)) (others : List (List ℕ × List ℕ)) → None ≡ value → defined name value others ≡ others
defined-no_value None value others e = refl
defined-no_value (Some n) value others e = rw (← e) refl

pub defined-both : (name value : Option (List ℕ)) (n v : List ℕ) (others : List (List ℕ × List ℕ)) → Some n ≡ name → Some v ≡ value → defined name value others ≡ (n, v) ∷ others
defined-both name value n v others en ev = rw (← en, ← ev) refl

pub all-defined : (symbols definitions all : List (List ℕ × List ℕ)) → definitions ≡ [] → with_definitions symbols definitions ≡ all → symbols ≡ all
all-defined symbols definitions all none made = sym (with_definitions-none symbols) ∙ ap (with_definitions symbols) (sym none) ∙ made
