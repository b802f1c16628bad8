-- The symbols of a submission: their number, and each name with its value.
use Rattle.std.specs.Prelude.{◌≡◌, ℕ, zero, suc, List, [], ◌∷◌, ◌++◌, length, Bool, ◌&&◌, nat_le, ◌==◌, Option, Some, None, is_some, if◌then◌else◌}
use Rattle.std.specs.List.{flat_map}
use Rattle.std.proofs.Common.{◌≤◌, leb, arith}
use Rattle.std.proofs.lemmas.Bool.{leb-true}
use Rattle.cd_types.specs.Format.{◌>>=◌}
use Rattle.cd_types.specs.Layout.{Layout, ◌⋆◌, text}
use Rattle.cd_types.specs.Number.{number_bytes, number_in}
use Rattle.cd_types.specs.Symbols.{upper_case, with_symbol, symbol_value}
use Rattle.cd_types.specs.Text.{text_bytes, text_in}
use Rattle.cd_types.specs.TextLaw.{both_true, text_law}
use Rattle.std.specs.Prelude.{IsTrue}

-- a name has 1 to 17 bytes, of any kind
abbrev pub is_symbol_name : List ℕ → Bool
is_symbol_name name = nat_le 1 (length name) && nat_le (length name) 17

pub symbol_name_is_short : (name : List ℕ) → IsTrue (is_symbol_name name) → length name ≤ 17
symbol_name_is_short name form =
    let tests = both_true (leb 1 (length name)) (leb (length name) 17) form in
    leb-true _ _ tests.1

-- behind a length of one byte
abbrev pub symbol_name : Layout (List ℕ)
symbol_name = record {
  Form = λ name. IsTrue (is_symbol_name name);
  spelled = text_bytes 1;
  found_in = text_in 1 is_symbol_name;
  law = text_law 1 is_symbol_name (λ name form. omega (arith, symbol_name_is_short name form));
}

-- a name and a value
abbrev pub symbol : Layout (List ℕ × List ℕ)
symbol = symbol_name ⋆ text

-- so many of them at the front, and the bytes after them
abbrev pub pairs_in : ℕ → List ℕ → Option (List (List ℕ × List ℕ) × List ℕ)
pairs_in zero bytes = Some ([], bytes)
pairs_in (suc n) bytes = do
  pair ← symbol.found_in bytes
  more ← pairs_in n pair.1
  Some (pair.0 ∷ more.0, more.1)

abbrev pub pairs_bytes : List (List ℕ × List ℕ) → List ℕ
pairs_bytes pairs = flat_map symbol.spelled pairs

-- each of them has a spelling
abbrev pub ArePairs : List (List ℕ × List ℕ) → Type 0
ArePairs [] = Unit {0}
ArePairs (pair ∷ pairs) = symbol.Form pair × ArePairs pairs

-- their number in two bytes, and they
unfoldable pub symbols_bytes : List (List ℕ × List ℕ) → List ℕ
symbols_bytes pairs = number_bytes 2 (length pairs) ++ pairs_bytes pairs

-- the pairs that all of the bytes are
unfoldable pub pairs_of : List ℕ → Option (List (List ℕ × List ℕ))
pairs_of bytes = do
  count ← number_in 2 bytes
  pairs ← pairs_in count.0 count.1
  if length pairs.1 == 0 then Some pairs.0 else None

-- the bytes after so many pairs
abbrev pub after_pairs : ℕ → List ℕ → Option (List ℕ)
after_pairs zero bytes = Some bytes
after_pairs (suc n) bytes = do
  pair ← symbol.found_in bytes
  after_pairs n pair.1

-- the bytes are a number of pairs and so many pairs, and nothing else
unfoldable pub is_symbols : List ℕ → Bool
is_symbols bytes = is_some (do
  count ← number_in 2 bytes
  rest ← after_pairs count.0 count.1
  if length rest == 0 then Some rest else None)

-- Symbols to which these pairs were given one by one. Names are the same whatever their case, and are kept in upper case.
abbrev pub with_pairs : List (List ℕ × List ℕ) → List (List ℕ × List ℕ) → List (List ℕ × List ℕ)
with_pairs symbols [] = symbols
with_pairs symbols (pair ∷ pairs) = with_pairs (with_symbol symbols (upper_case pair.0) pair.1) pairs

-- symbols to which the pairs that were found are given
abbrev pub given : List (List ℕ × List ℕ) → Option (List (List ℕ × List ℕ) × List ℕ) → Option (List (List ℕ × List ℕ))
given symbols None = None
given symbols (Some found) = Some (with_pairs symbols found.0)

-- each name is in upper case, and none of those before it
abbrev pub AreNew : List (List ℕ × List ℕ) → List (List ℕ × List ℕ) → Type 0
AreNew before [] = Unit {0}
AreNew before (pair ∷ pairs) = (upper_case pair.0 ≡ pair.0) × (symbol_value before pair.0 ≡ None) × AreNew (before ++ pair ∷ []) pairs
