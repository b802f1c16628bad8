-- The bytes that a session has to give are those of its first piece with bytes left.
use Rattle.std.proofs.Common.{◌≡◌, ℕ, ◌+◌, Bool, true, false, cond, List, [], ◌∷◌, zero, suc, Some, None, length, ◌<◌, get_or, take, refl, sym, ◌∙◌, ap, arith}
use Rattle.std.specs.Prelude.{if◌then◌else◌}
use Rattle.std.specs.List.{position_from}
use Rattle.cd_outside.specs.Lines.{Traffic}
use Rattle.cd_memory_state.specs.Pieces.{PieceHeld, is_left_of_session, has_come, coming}

abbrev pub given_by : Traffic → PieceHeld → List ℕ
given_by traffic piece = if has_come traffic piece.after then piece.rest else []

module _ (traffic : Traffic) (session : ℕ) where
  none_cases : (piece : PieceHeld) (pieces : List PieceHeld) (n : ℕ) (b : Bool) → cond b (Some n) (position_from (is_left_of_session session) (n + 1) pieces) ≡ None → (position_from (is_left_of_session session) (n + 1) pieces ≡ None → coming traffic pieces session ≡ []) → (if b then given_by traffic piece else coming traffic pieces session) ≡ []
  none_cases piece pieces n true is rest = absurd cc
  none_cases piece pieces n false is rest = rest is

  none_from : (pieces : List PieceHeld) (n : ℕ) → position_from (is_left_of_session session) n pieces ≡ None → coming traffic pieces session ≡ []
  none_from [] n is = refl
  none_from (piece ∷ pieces) n is = none_cases piece pieces n (is_left_of_session session piece) is (none_from pieces (n + 1))

  pub none_comes : (pieces : List PieceHeld) → position_from (is_left_of_session session) 0 pieces ≡ None → coming traffic pieces session ≡ []
  none_comes pieces is = none_from pieces 0 is

  some_cases : (piece : PieceHeld) (pieces : List PieceHeld) (n i : ℕ) (b : Bool) → cond b (Some n) (position_from (is_left_of_session session) (n + 1) pieces) ≡ Some i
      → (position_from (is_left_of_session session) (n + 1) pieces ≡ Some i → (k : ℕ) × (i ≡ n + 1 + k) × ((d : PieceHeld) → coming traffic pieces session ≡ given_by traffic (get_or pieces k d)) × (k < length pieces))
      → (k : ℕ) × (i ≡ n + k) × ((d : PieceHeld) → (if b then given_by traffic piece else coming traffic pieces session) ≡ given_by traffic (get_or (piece ∷ pieces) k d)) × (k < length (piece ∷ pieces))
  some_cases piece pieces n i true is rest = let same : n ≡ i = cc in (zero, omega arith, λ d. refl, omega arith)
  some_cases piece pieces n i false is rest = let r = rest is in (suc r.0, omega (arith, r.1), r.2, omega (arith, r.3))

  some_from : (pieces : List PieceHeld) (n i : ℕ) → position_from (is_left_of_session session) n pieces ≡ Some i → (k : ℕ) × (i ≡ n + k) × ((d : PieceHeld) → coming traffic pieces session ≡ given_by traffic (get_or pieces k d)) × (k < length pieces)
  some_from [] n i is = absurd cc
  some_from (piece ∷ pieces) n i is = some_cases piece pieces n i (is_left_of_session session piece) is (some_from pieces (n + 1) i)

  pub one_comes : (pieces : List PieceHeld) (i : ℕ) (d : PieceHeld) → position_from (is_left_of_session session) 0 pieces ≡ Some i → coming traffic pieces session ≡ given_by traffic (get_or pieces i d)
  one_comes pieces i d is =
      let r = some_from pieces 0 i is in
      let same : r.0 ≡ i = omega (arith, r.1) in
      r.2 d ∙ ap (λ (k : ℕ). given_by traffic (get_or pieces k d)) same

take_none : (n : ℕ) → take {A = ℕ} n [] ≡ []
take_none zero = refl
take_none (suc n) = refl

pub nothing : (n : ℕ) (bytes : List ℕ) → bytes ≡ [] → [] ≡ take n bytes
nothing n bytes is = sym (ap (take n) is ∙ take_none n)

pub given_none : (traffic : Traffic) (piece : PieceHeld) → has_come traffic piece.after ≡ false → given_by traffic piece ≡ []
given_none traffic piece is = rw is refl

pub given_all : (traffic : Traffic) (piece : PieceHeld) → has_come traffic piece.after ≡ true → given_by traffic piece ≡ piece.rest
given_all traffic piece is = rw is refl
