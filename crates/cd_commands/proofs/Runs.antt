-- Runs and skipped bytes, from a place on.
use Rattle.std.proofs.Common.{drop_of_length-le, ◌≢◌, eq-eqb, ne_eqb, lt-ltb, le-ltb, IsTrue, ◌&&◌, nat_lt, if◌then◌else◌, ◌≡◌, ℕ, zero, suc, ◌+◌, ◌<◌, ◌≤◌, Bool, true, false, List, [], ◌∷◌, length, get_or, drop, refl, arith, add-one, drop-cons}
use Rattle.std.proofs.lemmas.Str.{utf8_valid_len-IsUtf8}
use Rattle.cd_ast.specs.Bytes.{is_blank, opens_comment, closes_comment}
use Rattle.cd_ast.specs.Pieces.{run_len, is_rest_blank}

run_len-cons_stop : (stops : ℕ → List ℕ → Bool) (b : ℕ) (bs : List ℕ) → stops b bs ≡ true → run_len stops (b ∷ bs) ≡ 0
unfolding run_len
run_len-cons_stop stops b bs e = rw e refl

run_len-cons_on : (stops : ℕ → List ℕ → Bool) (b : ℕ) (bs : List ℕ) → stops b bs ≡ false → run_len stops (b ∷ bs) ≡ run_len stops bs + 1
unfolding run_len
run_len-cons_on stops b bs e = rw e refl

-- the run from a place on ends there
pub run_len-drop_stop : (stops : ℕ → List ℕ → Bool) (bs : List ℕ) (i : ℕ) → i < length bs → stops (get_or bs i 0) (drop (i + 1) bs) ≡ true → run_len stops (drop i bs) ≡ 0
run_len-drop_stop stops bs i h e = rw (drop-cons bs i 0, ← add-one i) (run_len-cons_stop stops _ _ e)

-- or goes on
pub run_len-drop_on : (stops : ℕ → List ℕ → Bool) (bs : List ℕ) (i : ℕ) → i < length bs → stops (get_or bs i 0) (drop (i + 1) bs) ≡ false → run_len stops (drop i bs) ≡ run_len stops (drop (i + 1) bs) + 1
run_len-drop_on stops bs i h e = rw (drop-cons bs i 0, ← add-one i) (run_len-cons_on stops _ _ e)

pub run_len-none : (stops : ℕ → List ℕ → Bool) → run_len stops [] ≡ 0
unfolding run_len
run_len-none stops = refl

pub run_len-past : (stops : ℕ → List ℕ → Bool) (bs : List ℕ) (i : ℕ) → length bs ≤ i → run_len stops (drop i bs) ≡ 0
run_len-past stops bs i h = rw (drop_of_length-le bs h) (run_len-none stops)

-- what closes a comment is two bytes
closes-room : (b : ℕ) (bs : List ℕ) → closes_comment b bs ≡ true → 1 ≤ length bs
unfolding closes_comment
closes-room b [] e = cc
closes-room b (c ∷ cs) e = omega arith

at_test : (b : ℕ) (bs : List ℕ) (t : Bool) → closes_comment b bs ≡ t → (run_len closes_comment bs < length bs → run_len closes_comment bs + 2 ≤ length bs) → run_len closes_comment (b ∷ bs) < length (b ∷ bs) → run_len closes_comment (b ∷ bs) + 2 ≤ length (b ∷ bs)
at_test b bs true e ih h = omega (arith, run_len-cons_stop closes_comment b bs e, closes-room b bs e)
at_test b bs false e ih h = omega (arith, run_len-cons_on closes_comment b bs e, ih)

pub run_len-closes_room : (bs : List ℕ) → run_len closes_comment bs < length bs → run_len closes_comment bs + 2 ≤ length bs
run_len-closes_room [] h = absurd (omega (arith, run_len-none closes_comment))
run_len-closes_room (b ∷ bs) h = at_test b bs (closes_comment b bs) refl (run_len-closes_room bs) h

-- bytes that are skipped stand for none
pub is_rest_blank-skip : (n : ℕ) (bs : List ℕ) → is_rest_blank n bs ≡ is_rest_blank 0 (drop n bs)
unfolding is_rest_blank
is_rest_blank-skip zero bs = refl
is_rest_blank-skip (suc n) [] = refl
is_rest_blank-skip (suc n) (b ∷ bs) = is_rest_blank-skip n bs

-- the rest of a line, by what stands at its front
pub is_rest_blank-end : is_rest_blank 0 [] ≡ true
unfolding is_rest_blank
is_rest_blank-end = refl

pub is_rest_blank-line : (b : ℕ) (bs : List ℕ) → b ≡ 10 → is_rest_blank 0 (b ∷ bs) ≡ true
unfolding is_rest_blank
is_rest_blank-line b bs e = rw (eq-eqb b 10 e) refl

pub is_rest_blank-blank : (b : ℕ) (bs : List ℕ) → b ≢ 10 → is_blank b ≡ true → is_rest_blank 0 (b ∷ bs) ≡ is_rest_blank 0 bs
unfolding is_rest_blank
is_rest_blank-blank b bs other e = rw (ne_eqb b 10 other, e) refl

pub is_rest_blank-comment : (b : ℕ) (bs : List ℕ) → b ≢ 10 → is_blank b ≡ false → opens_comment b bs ≡ true → run_len closes_comment (drop 1 bs) < length (drop 1 bs) → is_rest_blank 0 (b ∷ bs) ≡ is_rest_blank 0 (drop (run_len closes_comment (drop 1 bs) + 3) bs)
unfolding is_rest_blank
is_rest_blank-comment b bs other e opens within = rw (ne_eqb b 10 other, e, opens, lt-ltb _ _ within) (is_rest_blank-skip _ bs)

is_other : (t : Bool) (n m : ℕ) (x : Bool) → (IsTrue t → n ≤ m) → (if t && nat_lt m n then x else false) ≡ false
is_other true n m x cut = rw (le-ltb m n (cut refl)) refl
is_other false n m x cut = refl

pub is_rest_blank-other : (b : ℕ) (bs : List ℕ) → b ≢ 10 → is_blank b ≡ false → (IsTrue (opens_comment b bs) → length (drop 1 bs) ≤ run_len closes_comment (drop 1 bs)) → is_rest_blank 0 (b ∷ bs) ≡ false
unfolding is_rest_blank
is_rest_blank-other b bs other e cut = rw (ne_eqb b 10 other, e) (is_other (opens_comment b bs) (length (drop 1 bs)) (run_len closes_comment (drop 1 bs)) _ cut)

pub ruleset utf8_rules = utf8_valid_len-IsUtf8

pub ruleset closes_rules = run_len-closes_room
