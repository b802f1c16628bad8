-- What a reader may ask of pieces, tokens and substitution.
use Rattle.std.specs.Prelude.{◌≡◌, ℕ, ◌+◌, ◌<◌, ◌≤◌, true, false, ◌==◌, List, [], ◌∷◌, ◌++◌, length, unwrap_or, slice_range, map, filter}
use Rattle.std.specs.List.{list_any, flat_map}
use Rattle.cd_ast.specs.Pieces.{Piece}
use Rattle.cd_ast.specs.Tokens.{Span, is_token}
use Rattle.cd_ast.specs.Subst.{Part, is_read, given_for}

-- spans follow one another between two places, and none is empty
abbrev pub AreInOrder : ℕ → List Span → ℕ → Type 0
AreInOrder from [] to = from ≤ to
AreInOrder from (span ∷ spans) to = (from ≤ span.from) × (span.from < span.to) × AreInOrder span.to spans to

-- the bytes of a text that spans have
abbrev pub slices : List ℕ → List Span → List (List ℕ)
slices text spans = map (λ span. slice_range text span.from span.to) spans

-- the bytes of the pieces that are tokens
abbrev pub token_bytes : List Piece → List (List ℕ)
token_bytes pieces = map (λ piece. piece.bytes) (filter (λ piece. is_token piece.kind) pieces)

-- no & stands in the pieces that are read
abbrev pub HaveNoAmpersand : List Piece → Type 0
HaveNoAmpersand [] = Unit {0}
HaveNoAmpersand (piece ∷ pieces) = (is_read piece.kind piece.bytes ≡ true → list_any (λ b. b == 38) piece.bytes ≡ false) × HaveNoAmpersand pieces

-- the bytes of parts, one after the other
abbrev pub bytes_of_parts : List Part → List ℕ
bytes_of_parts parts = flat_map (λ part. part.bytes) parts

-- what a part gives way to, which its bytes and its name alone decide
abbrev pub given_bytes : List (List ℕ × List ℕ) → Part → List ℕ
given_bytes symbols part = unwrap_or (given_for symbols part.bytes part.name) []
