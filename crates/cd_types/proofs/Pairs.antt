-- The pairs of an index map from bytes to bytes, as symbols.
use Rattle.std.proofs.Common.{◌≡◌, ℕ, Bool, true, false, List, [], ◌∷◌, map, Option, Some, refl, ap}
use Rattle.std.specs.Prelude.{if◌then◌else◌}
use Rattle.std.specs.Option.{option_map}
use Rattle.std.specs.Str.{bytes_eq}
use Rattle.std.specs.Global.{Vec}
use Rattle.std.specs.Map.{lookup}
use Rattle.indexmap.specs.IndexMap.{insert_entry}
use Rattle.cd_types.specs.Symbols.{with_symbol, symbol_value}

abbrev pub Bytes : Type 0
Bytes = Vec ℕ

-- what contracts see of them
abbrev pub shown : List (Bytes × Bytes) → List (List ℕ × List ℕ)
shown entries = map (λ entry. (entry.0.items, entry.1.items)) entries

abbrev same : Bytes → Bytes → Bool
same a b = bytes_eq a.items b.items

shown-cons : (entry : Bytes × Bytes) (entries : List (Bytes × Bytes)) (rest : List (List ℕ × List ℕ)) (name value : Bytes) (t : Bool)
    → shown (insert_entry same entries name value) ≡ rest
    → shown (if t then (entry.0, value) ∷ entries else entry ∷ insert_entry same entries name value) ≡ (if t then (entry.0.items, value.items) ∷ shown entries else (entry.0.items, entry.1.items) ∷ rest)
shown-cons entry entries rest name value true e = refl
shown-cons entry entries rest name value false e = ap (λ es. (entry.0.items, entry.1.items) ∷ es) e

-- a name that is inserted is one that is given a value
pub shown-insert_entry : (entries : List (Bytes × Bytes)) (name value : Bytes) → shown (insert_entry same entries name value) ≡ with_symbol (shown entries) name.items value.items
shown-insert_entry [] name value = refl
shown-insert_entry (entry ∷ entries) name value = shown-cons entry entries (with_symbol (shown entries) name.items value.items) name value (same name entry.0) (shown-insert_entry entries name value)

pub with_symbol-inserted : (old new : List (Bytes × Bytes)) (name value : Bytes) (was : List (List ℕ × List ℕ)) (n v : List ℕ)
    → new ≡ insert_entry same old name value → shown old ≡ was → name.items ≡ n → value.items ≡ v → shown new ≡ with_symbol was n v
with_symbol-inserted old new name value was n v inserted seen named valued = rw (inserted, ← seen, ← named, ← valued) (shown-insert_entry old name value)

found-cons : (entry : Bytes × Bytes) (rest : Option Bytes) (seen : Option (List ℕ)) (t : Bool) → option_map (λ (value : Bytes). value.items) rest ≡ seen
    → option_map (λ (value : Bytes). value.items) (if t then Some entry.1 else rest) ≡ (if t then Some entry.1.items else seen)
found-cons entry rest seen true e = refl
found-cons entry rest seen false e = e

-- a name that is looked up has its value
pub shown-lookup : (entries : List (Bytes × Bytes)) (name : List ℕ) → option_map (λ (value : Bytes). value.items) (lookup (λ (key : Bytes). bytes_eq name key.items) entries) ≡ symbol_value (shown entries) name
shown-lookup [] name = refl
shown-lookup (entry ∷ entries) name = found-cons entry (lookup (λ (key : Bytes). bytes_eq name key.items) entries) (symbol_value (shown entries) name) (bytes_eq name entry.0.items) (shown-lookup entries name)

pub symbol_value-found : (entries : List (Bytes × Bytes)) (was : List (List ℕ × List ℕ)) (name upper : List ℕ) (found : Option Bytes)
    → found ≡ lookup (λ (key : Bytes). bytes_eq name key.items) entries → shown entries ≡ was → name ≡ upper → option_map (λ (value : Bytes). value.items) found ≡ symbol_value was upper
symbol_value-found entries was name upper found is seen named = rw (is, ← seen, ← named) (shown-lookup entries name)
