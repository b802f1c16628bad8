-- Items between colons, from the first on.
use Rattle.std.proofs.Common.{◌≡◌, ℕ, ◌+◌, ◌==◌, suc, add-one, Bool, true, false, ◌&&◌, List, [], ◌∷◌, take, drop, Option, Some, None, refl, ap, sym, ◌∙◌, if◌then◌else◌}
use Rattle.std.specs.List.{list_all}
use Rattle.cd_grammar.specs.Values.{is_item, item_len, between_colons, onto_first, are_items, are_behind}

-- what stands behind a first byte
abbrev pub behind_first : List ℕ → Option (List ℕ)
behind_first [] = None
behind_first (b ∷ bytes) = Some bytes

-- the items behind a colon, if there is one
abbrev pub items_behind : Option (List ℕ) → List (List ℕ)
items_behind None = []
items_behind (Some bytes) = between_colons bytes

onto : (b : ℕ) (items : List (List ℕ)) (first : List ℕ) (others : List (List ℕ)) → items ≡ first ∷ others → onto_first b items ≡ (b ∷ first) ∷ others
onto b items first others e = rw e refl

by_colon : (colon : Bool) (b : ℕ) (bytes : List ℕ)
    → between_colons bytes ≡ take (item_len bytes) bytes ∷ items_behind (behind_first (drop (item_len bytes) bytes))
    → (if colon then [] ∷ between_colons bytes else onto_first b (between_colons bytes))
    ≡ take (if colon then 0 else item_len bytes + 1) (b ∷ bytes) ∷ items_behind (behind_first (drop (if colon then 0 else item_len bytes + 1) (b ∷ bytes)))
by_colon true b bytes e = refl
by_colon false b bytes e = rw add-one (onto b _ _ _ e)

first_item : (bytes : List ℕ) → between_colons bytes ≡ take (item_len bytes) bytes ∷ items_behind (behind_first (drop (item_len bytes) bytes))
unfolding between_colons item_len
first_item [] = refl
first_item (b ∷ bytes) = by_colon (b == 58) b bytes (first_item bytes)

all_behind : (behind : Option (List ℕ)) → list_all is_item (items_behind behind) ≡ are_behind behind
unfolding are_items
all_behind None = refl
all_behind (Some bytes) = refl

pub items_by : (bytes : List ℕ) → are_items bytes ≡ (is_item (take (item_len bytes) bytes) && are_behind (behind_first (drop (item_len bytes) bytes)))
unfolding are_items
items_by bytes = ap (list_all is_item) (first_item bytes) ∙ ap (λ b. is_item (take (item_len bytes) bytes) && b) (all_behind (behind_first (drop (item_len bytes) bytes)))
