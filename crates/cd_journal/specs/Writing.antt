-- What the two steps of an append make of the bytes.
use Rattle.std.specs.Prelude.{◌⊎◌, ℕ, ◌+◌, List, [], ◌∷◌, length}
use Rattle.cd_outside.specs.Content.{overwritten}
use Rattle.cd_outside.specs.Through.{IsTorn}

-- a block behind the gate at a place
unfoldable pub staged : ℕ → List ℕ → List ℕ → List ℕ
staged gate block bytes = overwritten (gate + 1) block bytes

-- and then an open gate there
unfoldable pub opened : ℕ → List ℕ → List ℕ → List ℕ
opened gate block bytes = overwritten gate (1 ∷ []) (staged gate block bytes)

-- one of the two writes is torn
abbrev pub IsTornEntry : ℕ → List ℕ → List ℕ → List ℕ → Type 0
IsTornEntry gate block bytes image = IsTorn (gate + 1) (length block) bytes image ⊎ IsTorn gate 1 (staged gate block bytes) image
