-- The bytes of a print are good where those of its texts are.
use Rattle.std.proofs.Common.{◌≡◌, ℕ, Bool, true, false, not, ◌&&◌, List, [], ◌∷◌, length, refl, arith}
use Rattle.std.specs.Prelude.{min}
use Rattle.std.specs.List.{list_all}
use Rattle.std.specs.Str.{IsUtf8}
use Rattle.std.proofs.lemmas.Str.{utf8_valid_len-IsUtf8}
use Rattle.cd_ast.specs.Bytes.{is_refused}
use Rattle.cd_ast.specs.Pieces.{run_len}
use Rattle.cd_ast.specs.Tokens.{ends_good, bad_place}

abbrev pub is_good : ℕ → Bool
is_good b = not (is_refused b)

-- UTF-8 without a refused byte
pub record IsGood (text : List ℕ) : Type 0 where
  pub bytes : list_all is_good text ≡ true
  pub utf8 : IsUtf8 text

not_true : (a : Bool) → not a ≡ true → a ≡ false
not_true true e = absurd cc
not_true false e = refl

first_is : (a b : Bool) → (a && b) ≡ true → a ≡ true
first_is true b e = refl
first_is false b e = absurd cc

second_is : (a b : Bool) → (a && b) ≡ true → b ≡ true
second_is true b e = e
second_is false b e = absurd cc

good_run : (text : List ℕ) → list_all is_good text ≡ true → run_len ends_good text ≡ length text
unfolding run_len ends_good
good_run [] e = refl
good_run (b ∷ bs) e =
    let more : run_len ends_good bs ≡ length bs = good_run bs (second_is (is_good b) _ e) in
    rw (not_true (is_refused b) (first_is (is_good b) _ e)) (omega arith)

min_same : (n : ℕ) → min n n ≡ n
min_same n = grind arith

pub good_place : (text : List ℕ) → list_all is_good text ≡ true → IsUtf8 text → bad_place text ≡ length text
unfolding bad_place
good_place text e utf8 = rw (good_run text e) (rw (utf8_valid_len-IsUtf8 text utf8) (min_same (length text)))
