-- The laws of symbols: what is spelled is read, and nothing else is.
use Rattle.std.proofs.Common.{◌≡◌, ℕ, zero, suc, ◌+◌, ◌-◌, ◌<◌, ◌≤◌, Bool, true, false, cond, List, [], ◌∷◌, ◌++◌, length, drop, Option, Some, None, refl, sym, ap, subst, ◌∙◌, arith, append_assoc}
use Rattle.std.specs.Prelude.{◌==◌, ◌&&◌, nat_le, IsTrue, is_some, option_map, slice_get, IfSome}
use Rattle.std.specs.Char.{to_ascii_uppercase}
use Rattle.std.specs.Str.{bytes_eq}
use Rattle.std.proofs.lemmas.Bool.{eqb-true}
use Rattle.std.proofs.lemmas.List.{append-nil, length-map}
use Rattle.cd_types.specs.CompoundLaw.{IsBytes-after}
use Rattle.cd_types.specs.Format.{◌>>=◌, IsBytes}
use Rattle.cd_types.specs.Number.{number_bytes, number_in}
use Rattle.cd_types.specs.NumberLaw.{number_law}
use Rattle.cd_types.specs.Symbols.{upper_case, with_symbol, symbol_value}
use Rattle.cd_types.specs.TextLaw.{bind_some, passed}
use Rattle.cd_frames.specs.Symbols.{symbol, after_pairs, pairs_in, pairs_bytes, pairs_of, ArePairs, symbols_bytes, is_symbols, given, with_pairs, AreNew}

-- a pair at the front: one fewer behind it
pub after_one : (count place : ℕ) (bytes : List ℕ) (found : (List ℕ × List ℕ) × List ℕ) → place < count → symbol.found_in bytes ≡ Some found
    → after_pairs (count - place) bytes ≡ after_pairs (count - (place + 1)) found.1
after_one count place bytes found more is =
    let one : count - place ≡ suc (count - (place + 1)) = omega arith in
    rw one (rw is refl)

-- no pair at the front
pub after_none : (count place : ℕ) (bytes : List ℕ) → place < count → symbol.found_in bytes ≡ None → after_pairs (count - place) bytes ≡ None
after_none count place bytes more is =
    let one : count - place ≡ suc (count - (place + 1)) = omega arith in
    rw one (rw is refl)

some_same : {A : Type 0} (x y : A) → Some x ≡ Some y → x ≡ y
some_same x y e = cc

abbrev behind : List (List ℕ × List ℕ) × List ℕ → List ℕ
behind found = found.1

-- what is behind the pairs is behind them, whether or not they are kept
pub after_is : (n : ℕ) (bytes : List ℕ) → after_pairs n bytes ≡ option_map behind (pairs_in n bytes)
after_is zero bytes = refl
after_is (suc n) bytes = by_pair (symbol.found_in bytes) (after_is n)
  where
    by_more : (pair : List ℕ × List ℕ) (found : Option (List (List ℕ × List ℕ) × List ℕ)) → option_map behind found ≡ option_map behind (found >>= (λ more. Some (pair ∷ more.0, more.1)))
    by_more pair None = refl
    by_more pair (Some more) = refl

    by_pair : (found : Option ((List ℕ × List ℕ) × List ℕ)) → ((rest : List ℕ) → after_pairs n rest ≡ option_map behind (pairs_in n rest))
        → (found >>= (λ pair. after_pairs n pair.1)) ≡ option_map behind (found >>= (λ pair. pairs_in n pair.1 >>= (λ more. Some (pair.0 ∷ more.0, more.1))))
    by_pair None more = refl
    by_pair (Some pair) more = more pair.1 ∙ by_more pair.0 (pairs_in n pair.1)

-- the pairs are read again
pairs_again : (pairs : List (List ℕ × List ℕ)) (rest : List ℕ) → ArePairs pairs → pairs_in (length pairs) (pairs_bytes pairs ++ rest) ≡ Some (pairs, rest)
pairs_again [] rest form = refl
pairs_again (pair ∷ pairs) rest form =
    let first : symbol.found_in (symbol.spelled pair ++ (pairs_bytes pairs ++ rest)) ≡ Some (pair, pairs_bytes pairs ++ rest) = symbol.law.again pair (pairs_bytes pairs ++ rest) form.0 in
    let more : pairs_in (length pairs) (pairs_bytes pairs ++ rest) ≡ Some (pairs, rest) = pairs_again pairs rest form.1 in
    ap (pairs_in (suc (length pairs))) (append_assoc (symbol.spelled pair) (pairs_bytes pairs) rest) ∙ rw (first, more) refl

pub symbols_again : (pairs : List (List ℕ × List ℕ)) → ArePairs pairs → length pairs < 65536 → pairs_of (symbols_bytes pairs) ≡ Some pairs
unfolding pairs_of symbols_bytes
symbols_again pairs form few =
    let count : number_in 2 (number_bytes 2 (length pairs) ++ pairs_bytes pairs) ≡ Some (length pairs, pairs_bytes pairs) = (number_law 2).again (length pairs) (pairs_bytes pairs) few in
    let found : pairs_in (length pairs) (pairs_bytes pairs) ≡ Some (pairs, []) = ap (pairs_in (length pairs)) (sym (append-nil (pairs_bytes pairs))) ∙ pairs_again pairs [] form in
    rw (count, found) refl

-- nothing else is read as pairs
pairs_only : (n : ℕ) (bytes : List ℕ) (pairs : List (List ℕ × List ℕ)) (rest : List ℕ) → IsBytes bytes → pairs_in n bytes ≡ Some (pairs, rest)
    → (bytes ≡ pairs_bytes pairs ++ rest) × ArePairs pairs × (length pairs ≡ n)
pairs_only zero bytes pairs rest fit e =
    let none : [] ≡ pairs = ap (λ (p : List (List ℕ × List ℕ) × List ℕ). p.0) (some_same ([], bytes) (pairs, rest) e) in
    let all : bytes ≡ rest = ap (λ (p : List (List ℕ × List ℕ) × List ℕ). p.1) (some_same ([], bytes) (pairs, rest) e) in
    subst (λ (ps : List (List ℕ × List ℕ)). (bytes ≡ pairs_bytes ps ++ rest) × ArePairs ps × (length ps ≡ 0)) none (all, tt, refl)
pairs_only (suc n) bytes pairs rest fit e =
    let first = bind_some (symbol.found_in bytes) _ (pairs, rest) e in
    let more = bind_some (pairs_in n first.0.1) _ (pairs, rest) first.2 in
    let pair = symbol.law.only bytes first.0.0 first.0.1 fit first.1 in
    let after = pairs_only n first.0.1 more.0.0 more.0.1 (IsBytes-after (symbol.spelled first.0.0) first.0.1 (subst IsBytes pair.0 fit)) more.1 in
    let same = some_same (first.0.0 ∷ more.0.0, more.0.1) (pairs, rest) more.2 in
    let whole : bytes ≡ pairs_bytes (first.0.0 ∷ more.0.0) ++ more.0.1 = pair.0 ∙ ap (λ (ys : List ℕ). symbol.spelled first.0.0 ++ ys) after.0 ∙ sym (append_assoc (symbol.spelled first.0.0) (pairs_bytes more.0.0) more.0.1) in
    subst (λ (p : List (List ℕ × List ℕ) × List ℕ). (bytes ≡ pairs_bytes p.0 ++ p.1) × ArePairs p.0 × (length p.0 ≡ suc n)) same (whole, (pair.1, after.1), ap suc after.2)

empty_is : {A : Type 0} (xs : List A) → (length xs == 0) ≡ true → xs ≡ []
empty_is [] e = refl
empty_is (x ∷ xs) e = absurd (omega (arith, eqb-true (length (x ∷ xs)) 0 e))

pub symbols_only : (bytes : List ℕ) (pairs : List (List ℕ × List ℕ)) → IsBytes bytes → pairs_of bytes ≡ Some pairs → (bytes ≡ symbols_bytes pairs) × ArePairs pairs × (length pairs < 65536)
unfolding pairs_of symbols_bytes
symbols_only bytes pairs fit e =
    let count = bind_some (number_in 2 bytes) _ pairs e in
    let found = bind_some (pairs_in count.0.0 count.0.1) _ pairs count.2 in
    let end = passed (length found.0.1 == 0) found.0.0 pairs found.2 in
    let number = (number_law 2).only bytes count.0.0 count.0.1 fit count.1 in
    let all = pairs_only count.0.0 count.0.1 found.0.0 found.0.1 (IsBytes-after (number_bytes 2 count.0.0) count.0.1 (subst IsBytes number.0 fit)) found.1 in
    let after : count.0.1 ≡ pairs_bytes found.0.0 = all.0 ∙ ap (λ (ys : List ℕ). pairs_bytes found.0.0 ++ ys) (empty_is found.0.1 end.0) ∙ append-nil (pairs_bytes found.0.0) in
    let whole : bytes ≡ number_bytes 2 (length found.0.0) ++ pairs_bytes found.0.0 = number.0 ∙ (λ i. number_bytes 2 (sym all.2 i) ++ after i) in
    subst (λ (ps : List (List ℕ × List ℕ)). (bytes ≡ number_bytes 2 (length ps) ++ pairs_bytes ps) × ArePairs ps × (length ps < 65536)) end.1 (whole, all.1, omega (arith, all.2, number.1))

-- the test is passed exactly where there are pairs
pub is_symbols_is : (bytes : List ℕ) → is_symbols bytes ≡ is_some (pairs_of bytes)
unfolding is_symbols pairs_of
is_symbols_is bytes = by_count (number_in 2 bytes)
  where
    by_test : (b : Bool) (rest : List ℕ) (pairs : List (List ℕ × List ℕ)) → is_some (cond b (Some rest) None) ≡ is_some (cond b (Some pairs) None)
    by_test true rest pairs = refl
    by_test false rest pairs = refl

    by_pairs : (found : Option (List (List ℕ × List ℕ) × List ℕ))
        → is_some (option_map behind found >>= (λ rest. cond (length rest == 0) (Some rest) None)) ≡ is_some (found >>= (λ pairs. cond (length pairs.1 == 0) (Some pairs.0) None))
    by_pairs None = refl
    by_pairs (Some found) = by_test (length found.1 == 0) found.1 found.0

    by_count : (count : Option (ℕ × List ℕ))
        → is_some (count >>= (λ c. after_pairs c.0 c.1 >>= (λ rest. cond (length rest == 0) (Some rest) None))) ≡ is_some (count >>= (λ c. pairs_in c.0 c.1 >>= (λ pairs. cond (length pairs.1 == 0) (Some pairs.0) None)))
    by_count None = refl
    by_count (Some c) = ap (λ (found : Option (List ℕ)). is_some (found >>= (λ rest. cond (length rest == 0) (Some rest) None))) (after_is c.0 c.1) ∙ by_pairs (pairs_in c.0 c.1)

-- a new name goes last
with_new : (pairs : List (List ℕ × List ℕ)) (name value : List ℕ) → symbol_value pairs name ≡ None → with_symbol pairs name value ≡ pairs ++ (name, value) ∷ []
with_new [] name value new = refl
with_new (pair ∷ pairs) name value new = by_test (bytes_eq name pair.0) new (with_new pairs name value)
  where
    by_test : (b : Bool) → cond b (Some pair.1) (symbol_value pairs name) ≡ None → (symbol_value pairs name ≡ None → with_symbol pairs name value ≡ pairs ++ (name, value) ∷ [])
        → cond b ((pair.0, value) ∷ pairs) (pair ∷ with_symbol pairs name value) ≡ pair ∷ (pairs ++ (name, value) ∷ [])
    by_test true new more = absurd cc
    by_test false new more = ap (λ (ps : List (List ℕ × List ℕ)). pair ∷ ps) (more new)

-- pairs with new names stay as they are
pub with_pairs_new : (before pairs : List (List ℕ × List ℕ)) → AreNew before pairs → with_pairs before pairs ≡ before ++ pairs
with_pairs_new before [] new = sym (append-nil before)
with_pairs_new before (pair ∷ pairs) new =
    let one : with_symbol before (upper_case pair.0) pair.1 ≡ before ++ pair ∷ [] = ap (λ (name : List ℕ). with_symbol before name pair.1) new.0 ∙ with_new before pair.0 pair.1 new.1 in
    ap (λ (ps : List (List ℕ × List ℕ)). with_pairs ps pairs) one ∙ with_pairs_new (before ++ pair ∷ []) pairs new.2 ∙ append_assoc before (pair ∷ []) pairs

-- the pair at a place, and those behind it
pub drop_pair : (pairs : List (List ℕ × List ℕ)) (place : ℕ) (pair : List ℕ × List ℕ) → slice_get pairs place ≡ Some pair → drop place pairs ≡ pair ∷ drop (suc place) pairs
drop_pair [] place pair e = absurd cc
drop_pair (first ∷ pairs) zero pair e = ap (λ (p : List ℕ × List ℕ). p ∷ pairs) (some_same first pair e)
drop_pair (first ∷ pairs) (suc place) pair e = drop_pair pairs place pair e

pub pair_form : (pairs : List (List ℕ × List ℕ)) (place : ℕ) (pair : List ℕ × List ℕ) → ArePairs pairs → slice_get pairs place ≡ Some pair → symbol.Form pair
pair_form [] place pair form e = absurd cc
pair_form (first ∷ pairs) zero pair form e = subst symbol.Form (some_same first pair e) form.0
pair_form (first ∷ pairs) (suc place) pair form e = pair_form pairs place pair form.1 e

-- the same, counted as a loop does
pub rest_pair : (pairs : List (List ℕ × List ℕ)) (place : ℕ) (pair : List ℕ × List ℕ) → slice_get pairs place ≡ Some pair → drop place pairs ≡ pair ∷ drop (place + 1) pairs
rest_pair pairs place pair e =
    let next : suc place ≡ place + 1 = omega arith in
    drop_pair pairs place pair e ∙ ap (λ (n : ℕ). pair ∷ drop n pairs) next

-- there is a pair at each place
pub there_is : (pairs : List (List ℕ × List ℕ)) (place : ℕ) → place < length pairs → slice_get pairs place ≡ None → ⊥
there_is [] place below e = omega arith
there_is (pair ∷ pairs) zero below e = cc
there_is (pair ∷ pairs) (suc place) below e = there_is pairs place (omega arith) e

-- a pair at the front is given first
pub given_one : (symbols : List (List ℕ × List ℕ)) (count place : ℕ) (bytes : List ℕ) (found : (List ℕ × List ℕ) × List ℕ) → place < count → symbol.found_in bytes ≡ Some found
    → given symbols (pairs_in (count - place) bytes) ≡ given (with_symbol symbols (upper_case found.0.0) found.0.1) (pairs_in (count - (place + 1)) found.1)
given_one symbols count place bytes found more is =
    let one : count - place ≡ suc (count - (place + 1)) = omega arith in
    rw one (rw is (by_more (pairs_in (count - (place + 1)) found.1)))
  where
    by_more : (more : Option (List (List ℕ × List ℕ) × List ℕ)) → given symbols (more >>= (λ rest. Some (found.0 ∷ rest.0, rest.1))) ≡ given (with_symbol symbols (upper_case found.0.0) found.0.1) more
    by_more None = refl
    by_more (Some rest) = refl

-- the pairs behind their number are all of the pairs
pub pairs_of_front : (symbols : List (List ℕ × List ℕ)) (bytes : List ℕ) (count : ℕ) (rest : List ℕ) → number_in 2 bytes ≡ Some (count, rest)
    → IfSome (pairs_in count rest) (λ found. symbols ≡ with_pairs [] found.0) → IfSome (pairs_of bytes) (λ pairs. symbols ≡ with_pairs [] pairs)
unfolding pairs_of
pairs_of_front symbols bytes count rest number is = rw number (by_pairs (pairs_in count rest) is)
  where
    by_test : (b : Bool) (pairs : List (List ℕ × List ℕ)) → symbols ≡ with_pairs [] pairs → IfSome (cond b (Some pairs) None) (λ pairs. symbols ≡ with_pairs [] pairs)
    by_test true pairs is = is
    by_test false pairs is = tt

    by_pairs : (found : Option (List (List ℕ × List ℕ) × List ℕ)) → IfSome found (λ found. symbols ≡ with_pairs [] found.0) → IfSome (found >>= (λ pairs. cond (length pairs.1 == 0) (Some pairs.0) None)) (λ pairs. symbols ≡ with_pairs [] pairs)
    by_pairs None is = tt
    by_pairs (Some found) is = by_test (length found.1 == 0) found.0 is

pub pairs_of_none : (bytes : List ℕ) → number_in 2 bytes ≡ None → pairs_of bytes ≡ None
unfolding pairs_of
pairs_of_none bytes number = rw number refl

-- a name keeps its length in upper case
upper_form : (pair : List ℕ × List ℕ) → symbol.Form pair → symbol.Form (upper_case pair.0, pair.1)
upper_form pair form =
    let same : length (upper_case pair.0) ≡ length pair.0 = length-map pair.0 to_ascii_uppercase in
    (subst (λ (n : ℕ). IsTrue (nat_le 1 n && nat_le n 17)) (sym same) form.0, form.1)

with_symbol_form : (pairs : List (List ℕ × List ℕ)) (name value : List ℕ) → ArePairs pairs → symbol.Form (name, value) → ArePairs (with_symbol pairs name value)
with_symbol_form [] name value form pair = (pair, tt)
with_symbol_form (first ∷ pairs) name value form pair = by_test (bytes_eq name first.0) (with_symbol_form pairs name value form.1 pair)
  where
    by_test : (b : Bool) → ArePairs (with_symbol pairs name value) → ArePairs (cond b ((first.0, value) ∷ pairs) (first ∷ with_symbol pairs name value))
    by_test true more = ((form.0.0, pair.1), form.1)
    by_test false more = (form.0, more)

with_symbol_few : (pairs : List (List ℕ × List ℕ)) (name value : List ℕ) → length (with_symbol pairs name value) ≤ suc (length pairs)
with_symbol_few [] name value = omega arith
with_symbol_few (first ∷ pairs) name value = by_test (bytes_eq name first.0) (with_symbol_few pairs name value)
  where
    by_test : (b : Bool) → length (with_symbol pairs name value) ≤ suc (length pairs) → length (cond b ((first.0, value) ∷ pairs) (first ∷ with_symbol pairs name value)) ≤ suc (suc (length pairs))
    by_test true more = omega arith
    by_test false more = omega (arith, more)

-- symbols to which pairs were given one by one can be written
with_pairs_form : (before pairs : List (List ℕ × List ℕ)) → ArePairs before → ArePairs pairs → ArePairs (with_pairs before pairs)
with_pairs_form before [] form new = form
with_pairs_form before (pair ∷ pairs) form new =
    with_pairs_form (with_symbol before (upper_case pair.0) pair.1) pairs (with_symbol_form before (upper_case pair.0) pair.1 form (upper_form pair new.0)) new.1

with_pairs_few : (before pairs : List (List ℕ × List ℕ)) → length (with_pairs before pairs) ≤ length before + length pairs
with_pairs_few before [] = omega arith
with_pairs_few before (pair ∷ pairs) =
    omega (arith, with_pairs_few (with_symbol before (upper_case pair.0) pair.1) pairs, with_symbol_few before (upper_case pair.0) pair.1)

pub made_form : (symbols : List (List ℕ × List ℕ)) (bytes : List ℕ) → IsBytes bytes → IsTrue (is_symbols bytes) → IfSome (pairs_of bytes) (λ pairs. symbols ≡ with_pairs [] pairs)
    → ArePairs symbols × (length symbols < 65536)
made_form symbols bytes fit test is = by_pairs (pairs_of bytes) refl (sym (is_symbols_is bytes) ∙ test) is
  where
    by_pairs : (found : Option (List (List ℕ × List ℕ))) → pairs_of bytes ≡ found → is_some found ≡ true → IfSome found (λ pairs. symbols ≡ with_pairs [] pairs) → ArePairs symbols × (length symbols < 65536)
    by_pairs None read test is = absurd cc
    by_pairs (Some pairs) read test is =
        let only = symbols_only bytes pairs fit read in
        (subst ArePairs (sym is) (with_pairs_form [] pairs tt only.1), omega (arith, with_pairs_few [] pairs, only.2, ap length is))
