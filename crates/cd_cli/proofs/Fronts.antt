-- What an output took of a line that is written in parts.
use Rattle.std.proofs.Common.{◌≡◌, ℕ, zero, suc, ◌+◌, ◌-◌, ◌≤◌, min, List, [], ◌∷◌, ◌++◌, length, take, Result, Ok, Err, refl, sym, ap, ◌∙◌, arith, append_assoc, length-append, length-take}
use Rattle.std.specs.Prelude.{OnErr}
use Rattle.cd_outside.specs.Streams.{TookFront}

-- the first of two lists is taken whole
take_past : (n : ℕ) (a b : List ℕ) → take (length a + n) (a ++ b) ≡ a ++ take n b
take_past n [] b = let same : 0 + n ≡ n = omega arith in ap (λ (k : ℕ). take k b) same
take_past n (x ∷ a) b =
    let same : length (x ∷ a) + n ≡ suc (length a + n) = omega arith in
    ap (λ (k : ℕ). take k (x ∷ (a ++ b))) same ∙ ap (λ (l : List ℕ). x ∷ l) (take_past n a b)

take_within : (n : ℕ) (a b : List ℕ) → n ≤ length a → take n (a ++ b) ≡ take n a
take_within zero a b le = refl
take_within (suc n) [] b le = absurd (omega arith)
take_within (suc n) (x ∷ a) b le = ap (λ (l : List ℕ). x ∷ l) (take_within n a b (omega arith))

-- the part that comes next was begun
pub front_then : (before a b c middle now : List ℕ) → middle ≡ before ++ a → TookFront middle b now → TookFront before (a ++ (b ++ c)) now
front_then before a b c middle now is took =
    let n = length now - length middle in
    let split : now ≡ before ++ (a ++ take n b) = took ∙ ap (λ (l : List ℕ). l ++ take n b) is ∙ append_assoc before a (take n b) in
    let len : length middle ≡ length before + length a = ap length is ∙ length-append before a in
    let whole : length now ≡ length middle + length (take n b) = ap length took ∙ length-append middle (take n b) in
    let most : length (take n b) ≡ min n (length b) = length-take n b in
    let small : n ≤ length b = omega arith in
    let place : length now - length before ≡ length a + n = omega arith in
    split ∙ ap (λ (l : List ℕ). before ++ l) (ap (λ (l : List ℕ). a ++ l) (sym (take_within n b c small)) ∙ sym (take_past n a (b ++ c)) ∙ ap (λ (k : ℕ). take k (a ++ (b ++ c))) (sym place))

pub on_err : {A E : Type 0} (r : Result A E) (P : Type 0) → P → OnErr r P
on_err (Ok x) P h = tt
on_err (Err e) P h = h
