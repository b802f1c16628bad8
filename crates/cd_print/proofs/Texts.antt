-- A print has good bytes where the texts of its statements have.
use Rattle.std.proofs.Common.{◌≡◌, ℕ, ◌<◌, ◌≤◌, Bool, true, false, ◌&&◌, List, [], ◌∷◌, ◌++◌, refl, ◌∙◌, arith, if◌then◌else◌, nat_le, nat_lt}
use Rattle.std.specs.Prelude.{◌==◌}
use Rattle.std.specs.Char.{is_ascii_digit}
use Rattle.std.specs.List.{list_all, list_any}
use Rattle.std.specs.Str.{IsAscii}
use Rattle.std.proofs.lemmas.Str.{IsUtf8-append, IsUtf8-from_ascii}
use Rattle.std.proofs.lemmas.Str.Ascii.{IsAscii-cons, IsAscii-nil}
use Rattle.std.proofs.lemmas.List.Folds.{list_all-append}
use Rattle.cd_ast.specs.Bytes.{is_refused}
use Rattle.cd_ast.specs.Canonical.{quote_of}
use Rattle.cd_print.proofs.Bytes.{is_good, IsGood}
use Rattle.cd_print.proofs.Fronts.{quoted}

pub both_are : (a b : Bool) → a ≡ true → b ≡ true → (a && b) ≡ true
both_are true b e e2 = e2
both_are false b e e2 = absurd cc

pub first_is : (a b : Bool) → (a && b) ≡ true → a ≡ true
first_is true b e = refl
first_is false b e = absurd cc

pub second_is : (a b : Bool) → (a && b) ≡ true → b ≡ true
second_is true b e = e
second_is false b e = absurd cc

abbrev pub is_clear : ℕ → Bool
is_clear b = nat_lt b 128 && is_good b

pub good_nil : IsGood []
good_nil = record { bytes = refl; utf8 = IsUtf8-from_ascii [] IsAscii-nil }

pub good_append : (a b : List ℕ) → IsGood a → IsGood b → IsGood (a ++ b)
good_append a b h k = record { bytes = list_all-append is_good a b ∙ both_are _ _ h.bytes k.bytes; utf8 = IsUtf8-append a b h.utf8 k.utf8 }

clear_ascii : (w : List ℕ) → list_all is_clear w ≡ true → IsAscii w
clear_ascii [] e = IsAscii-nil
clear_ascii (b ∷ w) e = IsAscii-cons b w (below b (first_is (nat_lt b 128) _ (first_is (is_clear b) _ e))) (clear_ascii w (second_is (is_clear b) _ e))
  where
    below : (n : ℕ) → nat_lt n 128 ≡ true → n < 128
    below n f = grind arith

clear_bytes : (w : List ℕ) → list_all is_clear w ≡ true → list_all is_good w ≡ true
clear_bytes [] e = refl
clear_bytes (b ∷ w) e = both_are _ _ (second_is (nat_lt b 128) _ (first_is (is_clear b) _ e)) (clear_bytes w (second_is (is_clear b) _ e))

pub good_word : (w : List ℕ) → list_all is_clear w ≡ true → IsGood w
good_word w e = record { bytes = clear_bytes w e; utf8 = IsUtf8-from_ascii w (clear_ascii w e) }

-- a literal in front
pub in_front : (w rest : List ℕ) → list_all is_clear w ≡ true → IsGood rest → IsGood (w ++ rest)
in_front w rest e h = good_append w rest (good_word w e) h

pub quoted_good : (body rest : List ℕ) → IsGood body → IsGood rest → IsGood (quoted body rest)
unfolding is_refused
quoted_good body rest h k = good_append (quote_of body) _ quotes (good_append body _ h (good_append (quote_of body) rest quotes k))
  where
    by_bool : (t : Bool) → IsGood (if t then 39 ∷ [] else 34 ∷ [])
    by_bool true = good_word (39 ∷ []) refl
    by_bool false = good_word (34 ∷ []) refl

    quotes : IsGood (quote_of body)
    quotes = by_bool (list_any (λ b. b == 34) body)

pub range_clear : (low high b : ℕ) → 32 ≤ low → high < 128 → (nat_le low b && nat_le b high) ≡ true → is_clear b ≡ true
unfolding is_refused
range_clear low high b h k e =
    let above : low ≤ b = up_to low b (first_is (nat_le low b) _ e) in
    let under : b ≤ high = up_to b high (second_is (nat_le low b) _ e) in
    let less : nat_lt b 128 ≡ true = grind arith in
    let more : nat_lt b 32 ≡ false = grind arith in
    rw less (rw more refl)
  where
    up_to : (x y : ℕ) → nat_le x y ≡ true → x ≤ y
    up_to x y f = grind arith

digit_clear : (b : ℕ) → is_ascii_digit b ≡ true → is_clear b ≡ true
digit_clear b e = range_clear 48 57 b (omega arith) (omega arith) e

pub digits_good : (w : List ℕ) → list_all is_ascii_digit w ≡ true → IsGood w
digits_good w e = good_word w (go w e)
  where
    go : (x : List ℕ) → list_all is_ascii_digit x ≡ true → list_all is_clear x ≡ true
    go [] f = refl
    go (b ∷ x) f = both_are _ _ (digit_clear b (first_is (is_ascii_digit b) _ f)) (go x (second_is (is_ascii_digit b) _ f))
