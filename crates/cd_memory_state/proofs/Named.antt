-- Names in the order of their bytes, and the files that they have.
use Rattle.std.proofs.Common.{◌≡◌, ℕ, ◌+◌, ◌<◌, ◌≤◌, zero, suc, Bool, true, false, cond, ◌&&◌, ◌||◌, eqb, ltb, List, [], ◌∷◌, length, drop, get_or, Some, None, refl, sym, ◌∙◌, ap, subst, ⊎_elim, arith, rules}
use Rattle.std.proofs.Math.ListN.{set}
use Rattle.std.specs.Prelude.{Option, is_some, if◌then◌else◌, slice_get}
use Rattle.std.specs.Str.{bytes_eq}
use Rattle.std.specs.List.{insert, remove, position_from}
use Rattle.std.proofs.lemmas.Bool.{cases_eq, cases_lt, and_parts, and_from, or_left, or_right, eqb-true, lt-ltb, eq-eqb, ne_eqb, false≢true}
use Rattle.std.proofs.lemmas.Slice.Eq.{bytes_eq-Decides}
use Rattle.std.specs.Cmp.Lexicographic.{slice_partial_cmp}
use Rattle.std.specs.Ordering.{is_lt, is_some_and, nat_cmp}
use Rattle.std.proofs.lemmas.Bool.Decides.{nat_tests}
use Rattle.std.proofs.lemmas.Cmp.{same_from_slice_cmp_tested}
use Rattle.std.proofs.lemmas.List.{drop_more}
use Rattle.cd_memory_state.specs.Cabinet.{file_under}
use Rattle.cd_memory_state.specs.Names.{is_before, is_before_all, are_ascending, has_name, gap_from, IsAt}

same_name : (a b : List ℕ) → bytes_eq a b ≡ true → a ≡ b
same_name a b is = (bytes_eq-Decides a b).0 is

itself : (a : List ℕ) → bytes_eq a a ≡ true
itself a = (bytes_eq-Decides a a).1 refl

-- the order of names
before_cons : (a b : ℕ) (xs ys : List ℕ) (t : Bool) → eqb a b ≡ t → is_before (a ∷ xs) (b ∷ ys) ≡ (if t then is_before xs ys else ltb a b)
before_cons a b xs ys t is = ap (λ (u : Bool). if u then is_before xs ys else ltb a b) is

pub not_itself : (a : List ℕ) → is_before a a ≡ false
not_itself [] = refl
not_itself (a ∷ xs) = before_cons a a xs xs true (eq-eqb a a refl) ∙ not_itself xs

pub before_trans : (x y z : List ℕ) → is_before x y ≡ true → is_before y z ≡ true → is_before x z ≡ true
before_trans [] [] z xy yz = absurd (false≢true xy)
before_trans [] (b ∷ ys) [] xy yz = absurd (false≢true yz)
before_trans [] (b ∷ ys) (c ∷ zs) xy yz = refl
before_trans (a ∷ xs) [] z xy yz = absurd (false≢true xy)
before_trans (a ∷ xs) (b ∷ ys) [] xy yz = absurd (false≢true yz)
before_trans (a ∷ xs) (b ∷ ys) (c ∷ zs) xy yz = cases (eqb a b) (eqb b c) refl refl (before_trans xs ys zs)
  where
    less : (a b : ℕ) → ltb a b ≡ true → a < b
    less a b is = search (is, rules)

    cases : (s t : Bool) → eqb a b ≡ s → eqb b c ≡ t → (is_before xs ys ≡ true → is_before ys zs ≡ true → is_before xs zs ≡ true) → is_before (a ∷ xs) (c ∷ zs) ≡ true
    cases true true ab bc rest =
        before_cons a c xs zs true (eq-eqb a c (eqb-true a b ab ∙ eqb-true b c bc))
        ∙ rest (sym (before_cons a b xs ys true ab) ∙ xy) (sym (before_cons b c ys zs true bc) ∙ yz)
    cases true false ab bc rest =
        let bc_less = less b c (sym (before_cons b c ys zs false bc) ∙ yz) in
        let ac : a < c = omega (arith, eqb-true a b ab, bc_less) in
        before_cons a c xs zs false (ne_eqb a c (λ same. omega (arith, same, ac))) ∙ lt-ltb a c ac
    cases false true ab bc rest =
        let ab_less = less a b (sym (before_cons a b xs ys false ab) ∙ xy) in
        let ac : a < c = omega (arith, eqb-true b c bc, ab_less) in
        before_cons a c xs zs false (ne_eqb a c (λ same. omega (arith, same, ac))) ∙ lt-ltb a c ac
    cases false false ab bc rest =
        let ab_less = less a b (sym (before_cons a b xs ys false ab) ∙ xy) in
        let bc_less = less b c (sym (before_cons b c ys zs false bc) ∙ yz) in
        let ac : a < c = omega (arith, ab_less, bc_less) in
        before_cons a c xs zs false (ne_eqb a c (λ same. omega (arith, same, ac))) ∙ lt-ltb a c ac

-- of two names one comes before the other
pub before_or : (x y : List ℕ) → (x ≡ y → ⊥) → is_before x y ≡ false → is_before y x ≡ true
before_or [] [] apart not = absurd (apart refl)
before_or [] (b ∷ ys) apart not = absurd (false≢true (sym not))
before_or (a ∷ xs) [] apart not = refl
before_or (a ∷ xs) (b ∷ ys) apart not = cases (eqb a b) refl (before_or xs ys)
  where
    cases : (t : Bool) → eqb a b ≡ t → ((xs ≡ ys → ⊥) → is_before xs ys ≡ false → is_before ys xs ≡ true) → is_before (b ∷ ys) (a ∷ xs) ≡ true
    cases true ab rest =
        let same = eqb-true a b ab in
        before_cons b a ys xs true (eq-eqb b a (sym same))
        ∙ rest (λ behind. apart (λ j. same j ∷ behind j)) (sym (before_cons a b xs ys true ab) ∙ not)
    cases false ab rest =
        let not_less = sym (before_cons a b xs ys false ab) ∙ not in
        let more : b < a = ⊎_elim (λ lt. absurd (false≢true (sym not_less ∙ lt-ltb a b lt))) (λ ge. ⊎_elim (λ (same : a ≡ b). absurd (false≢true (sym ab ∙ eq-eqb a b same))) (λ (other : a ≡ b → ⊥). omega (arith, ge, other)) (cases_eq a b)) (cases_lt a b) in
        before_cons b a ys xs false (ne_eqb b a (λ same. omega (arith, same, more))) ∙ lt-ltb b a more

pub apart_all : (name : List ℕ) (names : List (List ℕ)) → is_before_all name names ≡ true → has_name names name ≡ false
apart_all name [] all = refl
apart_all name (one ∷ names) all =
    let parts = and_parts (is_before name one) (is_before_all name names) all in
    (λ j. first (bytes_eq one name) refl parts.0 j || apart_all name names parts.1 j)
  where
    first : (t : Bool) → bytes_eq one name ≡ t → is_before name one ≡ true → bytes_eq one name ≡ false
    first true same before = absurd (false≢true (sym (not_itself name) ∙ subst (λ (n : List ℕ). is_before name n ≡ true) (same_name one name same) before))
    first false same before = same

trans_all : (name one : List ℕ) (names : List (List ℕ)) → is_before name one ≡ true → is_before_all one names ≡ true → is_before_all name names ≡ true
trans_all name one [] before all = refl
trans_all name one (other ∷ names) before all =
    let parts = and_parts (is_before one other) (is_before_all one names) all in
    and_from (is_before name other) (is_before_all name names) (before_trans name one other before parts.0) (trans_all name one names before parts.1)

before_insert : (first name : List ℕ) (names : List (List ℕ)) (i : ℕ) → is_before first name ≡ true → is_before_all first names ≡ true → is_before_all first (insert names i name) ≡ true
before_insert first name names zero before all = and_from (is_before first name) (is_before_all first names) before all
before_insert first name [] (suc i) before all = and_from (is_before first name) true before refl
before_insert first name (one ∷ names) (suc i) before all =
    let parts = and_parts (is_before first one) (is_before_all first names) all in
    and_from (is_before first one) (is_before_all first (insert names i name)) parts.0 (before_insert first name names i before parts.1)

gap_on : (name : List ℕ) (k i : ℕ) (names : List (List ℕ)) → gap_from name (k + i) names ≡ k + gap_from name i names
gap_on name k i [] = refl
gap_on name k i (one ∷ names) = cases (is_before name one) refl (gap_on name k (i + 1) names)
  where
    next : k + i + 1 ≡ k + (i + 1)
    next = omega arith

    cases : (t : Bool) → is_before name one ≡ t → gap_from name (k + (i + 1)) names ≡ k + gap_from name (i + 1) names → gap_from name (k + i) (one ∷ names) ≡ k + gap_from name i (one ∷ names)
    cases true is rest = ap (λ (t : Bool). if t then k + i else gap_from name (k + i + 1) names) is ∙ sym (ap (λ (t : Bool). k + (if t then i else gap_from name (i + 1) names)) is)
    cases false is rest =
        ap (λ (t : Bool). if t then k + i else gap_from name (k + i + 1) names) is
        ∙ ap (λ (n : ℕ). gap_from name n names) next ∙ rest
        ∙ sym (ap (λ (t : Bool). k + (if t then i else gap_from name (i + 1) names)) is)

pub gap_within : (name : List ℕ) (names : List (List ℕ)) → gap_from name 0 names ≤ length names
gap_within name [] = omega arith
gap_within name (one ∷ names) = cases (is_before name one) refl (gap_within name names)
  where
    cases : (t : Bool) → is_before name one ≡ t → gap_from name 0 names ≤ length names → gap_from name 0 (one ∷ names) ≤ length (one ∷ names)
    cases true is rest = omega (arith, ap (λ (t : Bool). if t then 0 else gap_from name (0 + 1) names) is)
    cases false is rest = omega (arith, ap (λ (t : Bool). if t then 0 else gap_from name (0 + 1) names) is, gap_on name 1 0 names, rest)

rest_absent : (names : List (List ℕ)) (name : List ℕ) (t : Bool) → (t || has_name names name) ≡ false → has_name names name ≡ false
rest_absent names name true gone = absurd (false≢true (sym gone))
rest_absent names name false gone = gone

first_absent : (t u : Bool) → (t || u) ≡ false → t ≡ false
first_absent true u gone = gone
first_absent false u gone = refl

-- a name that was absent is put in where it goes
pub ascending-insert : (name : List ℕ) (names : List (List ℕ)) (i : ℕ) → i ≡ gap_from name 0 names → has_name names name ≡ false → are_ascending names ≡ true → are_ascending (insert names i name) ≡ true
ascending-insert name [] zero is absent up = refl
ascending-insert name [] (suc i) is absent up = absurd (omega (arith, is))
ascending-insert name (one ∷ names) zero is absent up = cases (is_before name one) refl
  where
    cases : (t : Bool) → is_before name one ≡ t → are_ascending (name ∷ one ∷ names) ≡ true
    cases true before = and_from (is_before name one && is_before_all name names) (is_before_all one names && are_ascending names) (and_from (is_before name one) (is_before_all name names) before (trans_all name one names before (and_parts (is_before_all one names) (are_ascending names) up).0)) up
    cases false before = absurd (omega (arith, is, ap (λ (t : Bool). if t then 0 else gap_from name (0 + 1) names) before, gap_on name 1 0 names))
ascending-insert name (one ∷ names) (suc i) is absent up = cases (is_before name one) refl (ascending-insert name names i)
  where
    apart : bytes_eq one name ≡ false
    apart = first_absent (bytes_eq one name) (has_name names name) absent

    cases : (t : Bool) → is_before name one ≡ t → (i ≡ gap_from name 0 names → has_name names name ≡ false → are_ascending names ≡ true → are_ascending (insert names i name) ≡ true) → are_ascending (one ∷ insert names i name) ≡ true
    cases true before rest = absurd (omega (arith, is, ap (λ (t : Bool). if t then 0 else gap_from name (0 + 1) names) before))
    cases false before rest =
        let parts = and_parts (is_before_all one names) (are_ascending names) up in
        let gap : i ≡ gap_from name 0 names = omega (arith, is, ap (λ (t : Bool). if t then 0 else gap_from name (0 + 1) names) before, gap_on name 1 0 names) in
        let first : is_before one name ≡ true = before_or name one (λ same. false≢true (sym apart ∙ subst (λ (n : List ℕ). bytes_eq one n ≡ true) (sym same) (itself one))) before in
        and_from (is_before_all one (insert names i name)) (are_ascending (insert names i name)) (before_insert one name names i first parts.0) (rest gap (rest_absent names name (bytes_eq one name) absent) parts.1)

remove_all : (first : List ℕ) (names : List (List ℕ)) (i : ℕ) → is_before_all first names ≡ true → is_before_all first (remove names i) ≡ true
remove_all first [] zero all = refl
remove_all first [] (suc i) all = refl
remove_all first (one ∷ names) zero all = (and_parts (is_before first one) (is_before_all first names) all).1
remove_all first (one ∷ names) (suc i) all =
    let parts = and_parts (is_before first one) (is_before_all first names) all in
    and_from (is_before first one) (is_before_all first (remove names i)) parts.0 (remove_all first names i parts.1)

pub ascending-remove : (names : List (List ℕ)) (i : ℕ) → are_ascending names ≡ true → are_ascending (remove names i) ≡ true
ascending-remove [] zero up = refl
ascending-remove [] (suc i) up = refl
ascending-remove (one ∷ names) zero up = (and_parts (is_before_all one names) (are_ascending names) up).1
ascending-remove (one ∷ names) (suc i) up =
    let parts = and_parts (is_before_all one names) (are_ascending names) up in
    and_from (is_before_all one (remove names i)) (are_ascending (remove names i)) (remove_all one names i parts.0) (ascending-remove names i parts.1)

found_cases : (one : List ℕ) (names : List (List ℕ)) (name : List ℕ) (n i : ℕ) (b : Bool) → bytes_eq one name ≡ b → cond b (Some n) (position_from (λ other. bytes_eq other name) (n + 1) names) ≡ Some i
    → (position_from (λ other. bytes_eq other name) (n + 1) names ≡ Some i → (k : ℕ) × (i ≡ n + 1 + k) × IsAt names name k) → (k : ℕ) × (i ≡ n + k) × IsAt (one ∷ names) name k
found_cases one names name n i true e is rest = let same : n ≡ i = cc in (zero, omega arith, e)
found_cases one names name n i false e is rest = let r = rest is in (suc r.0, omega (arith, r.1), (e, r.2))

found : (names : List (List ℕ)) (name : List ℕ) (n i : ℕ) → position_from (λ other. bytes_eq other name) n names ≡ Some i → (k : ℕ) × (i ≡ n + k) × IsAt names name k
found [] name n i is = absurd cc
found (one ∷ names) name n i is = found_cases one names name n i (bytes_eq one name) refl is (found names name (n + 1) i)

pub at_is : (names : List (List ℕ)) (name : List ℕ) (i : ℕ) → position_from (λ other. bytes_eq other name) 0 names ≡ Some i → IsAt names name i
at_is names name i is = let r = found names name 0 i is in let same : r.0 ≡ i = omega (arith, r.1) in subst (IsAt names name) same r.2

absent_cases : (one : List ℕ) (names : List (List ℕ)) (name : List ℕ) (n : ℕ) (b : Bool) → bytes_eq one name ≡ b → cond b (Some n) (position_from (λ other. bytes_eq other name) (n + 1) names) ≡ None
    → (position_from (λ other. bytes_eq other name) (n + 1) names ≡ None → has_name names name ≡ false) → has_name (one ∷ names) name ≡ false
absent_cases one names name n true e is rest = absurd cc
absent_cases one names name n false e is rest = (λ j. e j || rest is j)

pub absent_is : (names : List (List ℕ)) (name : List ℕ) (n : ℕ) → position_from (λ other. bytes_eq other name) n names ≡ None → has_name names name ≡ false
absent_is [] name n is = refl
absent_is (one ∷ names) name n is = absent_cases one names name n (bytes_eq one name) refl is (absent_is names name (n + 1))

pub at_within : (names : List (List ℕ)) (name : List ℕ) (i : ℕ) → IsAt names name i → i < length names
at_within [] name i at = absurd at
at_within (one ∷ names) name zero at = omega arith
at_within (one ∷ names) name (suc i) at = omega (arith, at_within names name i at.1)

pub file_at : (names files : List (List ℕ)) (name : List ℕ) (i : ℕ) → length files ≡ length names → IsAt names name i → file_under names files name ≡ Some (get_or files i [])
file_at [] files name i long at = absurd at
file_at (one ∷ names) [] name i long at = absurd (omega arith)
file_at (one ∷ names) (file ∷ files) name zero long at = rw at refl
file_at (one ∷ names) (file ∷ files) name (suc i) long at = rw at.0 (file_at names files name i (omega arith) at.1)

pub file_none : (names files : List (List ℕ)) (name : List ℕ) → has_name names name ≡ false → file_under names files name ≡ None
file_none [] files name absent = refl
file_none (one ∷ names) [] name absent = refl
file_none (one ∷ names) (file ∷ files) name absent = cases (bytes_eq one name) refl absent (file_none names files name)
  where
    cases : (t : Bool) → bytes_eq one name ≡ t → (t || has_name names name) ≡ false → (has_name names name ≡ false → file_under names files name ≡ None) → (if bytes_eq one name then Some file else file_under names files name) ≡ None
    cases true is gone rest = absurd (false≢true (sym gone))
    cases false is gone rest = ap (λ (t : Bool). if t then Some file else file_under names files name) is ∙ rest gone

pub file_each : (names files : List (List ℕ)) (name : List ℕ) → length files ≡ length names → has_name names name ≡ is_some (file_under names files name)
file_each [] files name long = refl
file_each (one ∷ names) [] name long = absurd (omega arith)
file_each (one ∷ names) (file ∷ files) name long = cases (bytes_eq one name) (file_each names files name (omega arith))
  where
    cases : (t : Bool) → has_name names name ≡ is_some (file_under names files name) → (t || has_name names name) ≡ is_some (if t then Some file else file_under names files name)
    cases true rest = refl
    cases false rest = rest

swapped : (a b : Bool) (x y z : Option (List ℕ)) → (a ≡ true → b ≡ true → ⊥) → (if a then x else (if b then y else z)) ≡ (if b then y else (if a then x else z))
swapped true true x y z never = absurd (never refl refl)
swapped true false x y z never = refl
swapped false true x y z never = refl
swapped false false x y z never = refl

skipped : (b : Bool) (x y z : Option (List ℕ)) → (if b then x else y) ≡ (if b then x else (if b then z else y))
skipped true x y z = refl
skipped false x y z = refl

apart_names : (one name other : List ℕ) → bytes_eq one name ≡ false → bytes_eq one other ≡ true → bytes_eq name other ≡ true → ⊥
apart_names one name other apart first second = false≢true (sym apart ∙ (bytes_eq-Decides one name).1 (same_name one other first ∙ sym (same_name name other second)))

-- the file of a name was changed
pub file_set : (names files : List (List ℕ)) (name : List ℕ) (i : ℕ) (new : List ℕ) → length files ≡ length names → IsAt names name i → (other : List ℕ) → file_under names (set files i new) other ≡ (if bytes_eq name other then Some new else file_under names files other)
file_set [] files name i new long at other = absurd at
file_set (one ∷ names) [] name i new long at other = absurd (omega arith)
file_set (one ∷ names) (file ∷ files) name zero new long at other =
    let was : one ≡ name = same_name one name at in
    ap (λ (n : List ℕ). if bytes_eq n other then Some new else file_under names files other) was
    ∙ skipped (bytes_eq name other) (Some new) (file_under names files other) (Some file)
    ∙ ap (λ (n : List ℕ). if bytes_eq name other then Some new else (if bytes_eq n other then Some file else file_under names files other)) (sym was)
file_set (one ∷ names) (file ∷ files) name (suc i) new long at other =
    ap (λ (f : Option (List ℕ)). if bytes_eq one other then Some file else f) (file_set names files name i new (omega arith) at.1 other)
    ∙ swapped (bytes_eq one other) (bytes_eq name other) (Some file) (Some new) (file_under names files other) (apart_names one name other at.0)

-- an absent name was put in with its file
pub file_insert : (names files : List (List ℕ)) (name : List ℕ) (i : ℕ) (new : List ℕ) → length files ≡ length names → i ≤ length names → has_name names name ≡ false → (other : List ℕ) → file_under (insert names i name) (insert files i new) other ≡ (if bytes_eq name other then Some new else file_under names files other)
file_insert names files name zero new long within absent other = refl
file_insert [] files name (suc i) new long within absent other = absurd (omega arith)
file_insert (one ∷ names) [] name (suc i) new long within absent other = absurd (omega arith)
file_insert (one ∷ names) (file ∷ files) name (suc i) new long within absent other =
    ap (λ (f : Option (List ℕ)). if bytes_eq one other then Some file else f) (file_insert names files name i new (omega arith) (omega arith) (rest_absent names name (bytes_eq one name) absent) other)
    ∙ swapped (bytes_eq one other) (bytes_eq name other) (Some file) (Some new) (file_under names files other) (apart_names one name other (first_absent (bytes_eq one name) (has_name names name) absent))

pub at_insert : (names : List (List ℕ)) (name : List ℕ) (i : ℕ) → i ≤ length names → has_name names name ≡ false → IsAt (insert names i name) name i
at_insert names name zero within absent = itself name
at_insert [] name (suc i) within absent = absurd (omega arith)
at_insert (one ∷ names) name (suc i) within absent = (first_absent (bytes_eq one name) (has_name names name) absent, at_insert names name i (omega arith) (rest_absent names name (bytes_eq one name) absent))

-- a name was taken out with its file
pub file_remove : (names files : List (List ℕ)) (name : List ℕ) (i : ℕ) → length files ≡ length names → IsAt names name i → are_ascending names ≡ true → (other : List ℕ) → file_under (remove names i) (remove files i) other ≡ (if bytes_eq name other then None else file_under names files other)
file_remove [] files name i long at up other = absurd at
file_remove (one ∷ names) [] name i long at up other = absurd (omega arith)
file_remove (one ∷ names) (file ∷ files) name zero long at up other = cases (bytes_eq name other) refl
  where
    was : one ≡ name
    was = same_name one name at

    gone : file_under names files name ≡ None
    gone = file_none names files name (subst (λ (n : List ℕ). has_name names n ≡ false) was (apart_all one names (and_parts (is_before_all one names) (are_ascending names) up).0))

    cases : (t : Bool) → bytes_eq name other ≡ t → file_under names files other ≡ (if bytes_eq name other then None else (if bytes_eq one other then Some file else file_under names files other))
    cases true is = sym (ap (file_under names files) (same_name name other is)) ∙ gone ∙ sym (ap (λ (t : Bool). if t then None else (if bytes_eq one other then Some file else file_under names files other)) is)
    cases false is =
        sym (ap (λ (t : Bool). if t then Some file else file_under names files other) (ap (λ (n : List ℕ). bytes_eq n other) was ∙ is))
        ∙ sym (ap (λ (t : Bool). if t then None else (if bytes_eq one other then Some file else file_under names files other)) is)
file_remove (one ∷ names) (file ∷ files) name (suc i) long at up other =
    ap (λ (f : Option (List ℕ)). if bytes_eq one other then Some file else f) (file_remove names files name i (omega arith) at.1 (and_parts (is_before_all one names) (are_ascending names) up).1 other)
    ∙ swapped (bytes_eq one other) (bytes_eq name other) (Some file) None (file_under names files other) (apart_names one name other at.0)

-- what `<` says of two names
pub before_is : (xs ys : List ℕ) (r : Bool) → r ≡ is_some_and is_lt (slice_partial_cmp (λ x y. Some (nat_cmp x y)) xs ys) → r ≡ is_before xs ys
before_is = same_from_slice_cmp_tested nat_cmp is_lt is_before refl (λ _ _. refl) (λ _ _. refl) (λ x y xs ys o h. grind (arith, nat_tests))

-- the gap is the first name that it comes before
pub gap_here : (name : List ℕ) (names : List (List ℕ)) (i : ℕ) → i < length names → is_before name (get_or names i []) ≡ true → gap_from name i (drop i names) ≡ i
gap_here name names i lt before =
    ap (gap_from name i) (drop_more names i [] lt)
    ∙ ap (λ (t : Bool). if t then i else gap_from name (i + 1) (drop (i + 1) names)) before

pub gap_next : (name : List ℕ) (names : List (List ℕ)) (i : ℕ) → i < length names → is_before name (get_or names i []) ≡ false → gap_from name i (drop i names) ≡ gap_from name (i + 1) (drop (i + 1) names)
gap_next name names i lt not =
    ap (gap_from name i) (drop_more names i [] lt)
    ∙ ap (λ (t : Bool). if t then i else gap_from name (i + 1) (drop (i + 1) names)) not

pub get_past : (names : List (List ℕ)) (i : ℕ) → length names ≤ i → slice_get names i ≡ None
get_past [] zero past = refl
get_past [] (suc i) past = refl
get_past (one ∷ names) zero past = absurd (omega arith)
get_past (one ∷ names) (suc i) past = get_past names i (omega arith)
