-- What is being received, told from the newest entry on.
use Rattle.std.proofs.Common.{◌≡◌, ℕ, suc, ◌+◌, ◌-◌, ◌<◌, arith, length-drop, Bool, true, false, not, ◌&&◌, ◌||◌, cond, List, [], ◌∷◌, ◌++◌, length, get_or, take, drop, reverse, Some, None, refl, sym, ap, ◌∙◌, add-one}
use Rattle.std.specs.Prelude.{filter}
use Rattle.std.specs.List.{list_any}
use Rattle.std.specs.Str.{bytes_eq}
use Rattle.std.proofs.Math.Seq.{drop-cons, drop-length}
use Rattle.std.proofs.lemmas.List.{reverse-append, take-append-drop, take_all}
use Rattle.std.proofs.lemmas.List.Elements.{filter-append}
use Rattle.std.proofs.lemmas.List.Folds.{list_any-append}
use Rattle.cd_types.specs.declared.key.Key.{Key}
use Rattle.cd_types.specs.declared.rows.Receiving.{Receiving}
use Rattle.cd_entries.specs.declared.entry.Entry.{Entry}
use Rattle.cd_entries.specs.declared.entry.Entry.TheVariants as entry
use Rattle.cd_rules.specs.Keys.{same_key}
use Rattle.cd_rules.specs.Openings.{openings, without, on_file}
use Rattle.cd_book.specs.Opening.{closes, closed_by}

-- Tests and filters.

filter_all : {A : Type 0} (xs : List A) → filter (λ _. true) xs ≡ xs
filter_all [] = refl
filter_all (x ∷ xs) = ap (λ (l : List _). x ∷ l) (filter_all xs)

pub filter_twice : {A : Type 0} (p q : A → Bool) (xs : List A) → filter p (filter q xs) ≡ filter (λ x. q x && p x) xs
filter_twice p q [] = refl
filter_twice p q (x ∷ xs) =
    elim (q x) as (λ b. filter p (cond b (x ∷ filter q xs) (filter q xs)) ≡ cond (b && p x) (x ∷ filter (λ y. q y && p y) xs) (filter (λ y. q y && p y) xs)) [
      | true ↦ ap (λ (l : List _). cond (p x) (x ∷ l) l) (filter_twice p q xs)
      | false ↦ filter_twice p q xs
    ]

neither : (a b : Bool) → (not b && not a) ≡ not (a || b)
neither true true = refl
neither true false = refl
neither false true = refl
neither false false = refl

any_reverse : {A : Type 0} (p : A → Bool) (xs : List A) → list_any p (reverse xs) ≡ list_any p xs
any_reverse p [] = refl
any_reverse p (x ∷ xs) =
    ap (list_any p) (reverse-append (x ∷ []) xs) ∙ list_any-append p (reverse xs) (x ∷ []) ∙ ap (λ (b : Bool). b || (p x || false)) (any_reverse p xs) ∙ turned (list_any p xs) (p x)
  where
    turned : (a b : Bool) → (a || (b || false)) ≡ (b || a)
    turned true true = refl
    turned true false = refl
    turned false true = refl
    turned false false = refl

-- What newer entries leave.

abbrev pub untouched : List Entry → Receiving → Bool
untouched newer r = not (list_any (closes r.key) newer)

removed : (key : Key) (newer older : List Entry) → ((r : Receiving) → (untouched newer r && not (same_key key r.key)) ≡ not (same_key key r.key || list_any (closes r.key) newer))
removed key newer older r = neither (same_key key r.key) (list_any (closes r.key) newer)

drops : (key : Key) (newer : List Entry) (rs ss : List Receiving)
    → without key (rs ++ filter (untouched newer) ss) ≡ without key rs ++ filter (λ r. not (same_key key r.key || list_any (closes r.key) newer)) ss
drops key newer rs ss =
    filter-append (λ r. not (same_key key r.key)) rs (filter (untouched newer) ss)
    ∙ ap (λ (l : List Receiving). without key rs ++ l) (filter_twice (λ r. not (same_key key r.key)) (untouched newer) ss ∙ (λ i. filter (λ r. neither (same_key key r.key) (list_any (closes r.key) newer) i) ss))

pub openings_split : (newer older : List Entry) → openings (newer ++ older) ≡ openings newer ++ filter (untouched newer) (openings older)
unfolding openings
openings_split [] older = sym (filter_all (openings older))
openings_split (entry.Receiving r ∷ newer) older =
    ap (λ (l : List Receiving). r ∷ without r.key l) (openings_split newer older) ∙ ap (λ (l : List Receiving). r ∷ l) (drops r.key newer (openings newer) (openings older))
openings_split (entry.Result step outcomes moment ∷ newer) older = ap (without step) (openings_split newer older) ∙ drops step newer (openings newer) (openings older)
openings_split (entry.Dropped step rc cause moment ∷ newer) older = ap (without step) (openings_split newer older) ∙ drops step newer (openings newer) (openings older)
openings_split (e ∷ newer) older = openings_split newer older

-- from a place on
pub from_place : (entries : List Entry) (at : ℕ) (e : Entry) → at < length entries → e ≡ get_or entries at e
    → openings (reverse (drop at entries)) ≡ openings (reverse (drop (at + 1) entries)) ++ filter (untouched (reverse (drop (at + 1) entries))) (openings (e ∷ []))
from_place entries at e below is =
    let later = drop (at + 1) entries in
    let cut : drop at entries ≡ e ∷ later = rw add-one (drop-cons entries at e below ∙ ap (λ (x : Entry). x ∷ drop (suc at) entries) (sym is)) in
    ap (λ (l : List Entry). openings (reverse l)) cut ∙ ap openings (reverse-append (e ∷ []) later) ∙ openings_split (reverse later) (e ∷ [])

-- the openings of all entries begin with those from a place on
pub rest_of : List Entry → ℕ → List Receiving
rest_of entries at = filter (untouched (reverse (drop at entries))) (openings (reverse (take at entries)))

pub begins_with : (entries : List Entry) (at : ℕ) → openings (reverse entries) ≡ openings (reverse (drop at entries)) ++ rest_of entries at
unfolding rest_of
begins_with entries at =
    ap (λ (l : List Entry). openings (reverse l)) (sym (take-append-drop at entries))
    ∙ ap openings (reverse-append (take at entries) (drop at entries))
    ∙ openings_split (reverse (drop at entries)) (reverse (take at entries))

-- Searches in them.

pub on_file_found : (rs ss : List Receiving) (name : List ℕ) (r : Receiving) → on_file rs name ≡ Some r → on_file (rs ++ ss) name ≡ Some r
on_file_found [] ss name r is = absurd cc
on_file_found (x ∷ rs) ss name r is =
    elim (bytes_eq name x.name) as (λ b. cond b (Some x) (on_file rs name) ≡ Some r → cond b (Some x) (on_file (rs ++ ss) name) ≡ Some r) [
      | true ↦ λ h. h
      | false ↦ λ h. on_file_found rs ss name r h
    ] is

pub on_file_after : (rs ss : List Receiving) (name : List ℕ) → on_file rs name ≡ None → on_file (rs ++ ss) name ≡ on_file ss name
on_file_after [] ss name is = refl
on_file_after (x ∷ rs) ss name is =
    elim (bytes_eq name x.name) as (λ b. cond b (Some x) (on_file rs name) ≡ None → cond b (Some x) (on_file (rs ++ ss) name) ≡ on_file ss name) [
      | true ↦ λ h. absurd cc
      | false ↦ λ h. on_file_after rs ss name h
    ] is

-- One entry more, going back.

pub begun_at : (entries : List Entry) (at : ℕ) (r : Receiving) (e : Entry) → at < length entries → e ≡ get_or entries at e → e ≡ entry.Receiving r
    → openings (reverse (drop at entries)) ≡ openings (reverse (drop (at + 1) entries)) ++ cond (not (closed_by (drop (at + 1) entries) r.key)) (r ∷ []) []
unfolding openings closed_by
begun_at entries at r e below is begins =
    from_place entries at e below is
    ∙ ap (λ (x : Entry). openings (reverse (drop (at + 1) entries)) ++ filter (untouched (reverse (drop (at + 1) entries))) (openings (x ∷ []))) begins
    ∙ ap (λ (b : Bool). openings (reverse (drop (at + 1) entries)) ++ cond (not b) (r ∷ []) []) (any_reverse (closes r.key) (drop (at + 1) entries))

begins_none : (e : Entry) → ((r : Receiving) → e ≡ entry.Receiving r → ⊥) → openings (e ∷ []) ≡ []
unfolding openings
begins_none (entry.Receiving r) other = absurd (other r refl)
begins_none (entry.Result step outcomes moment) other = refl
begins_none (entry.Dropped step rc cause moment) other = refl
begins_none (e) other = refl

pub none_begun_at : (entries : List Entry) (at : ℕ) (e : Entry) → at < length entries → e ≡ get_or entries at e → ((r : Receiving) → e ≡ entry.Receiving r → ⊥)
    → openings (reverse (drop at entries)) ≡ openings (reverse (drop (at + 1) entries)) ++ []
none_begun_at entries at e below is other =
    from_place entries at e below is
    ∙ ap (λ (l : List Receiving). openings (reverse (drop (at + 1) entries)) ++ filter (untouched (reverse (drop (at + 1) entries))) l) (begins_none e other)

pub none_behind : (entries : List Entry) → openings (reverse (drop (length entries) entries)) ≡ []
unfolding openings
none_behind entries = ap (λ (l : List Entry). openings (reverse l)) (drop-length entries)

-- What the searches find.

pub found_on : (entries : List Entry) (at : ℕ) (name : List ℕ) (r : Receiving) → on_file (openings (reverse (drop (at + 1) entries))) name ≡ None
    → openings (reverse (drop at entries)) ≡ openings (reverse (drop (at + 1) entries)) ++ r ∷ [] → bytes_eq name r.name ≡ true
    → Some r ≡ on_file (openings (reverse entries)) name
found_on entries at name r none more same =
    let here : on_file (openings (reverse (drop at entries))) name ≡ Some r =
    ap (λ (l : List Receiving). on_file l name) more ∙ on_file_after (openings (reverse (drop (at + 1) entries))) (r ∷ []) name none ∙ ap (λ (b : Bool). cond b (Some r) None) same in
    sym (ap (λ (l : List Receiving). on_file l name) (begins_with entries at) ∙ on_file_found (openings (reverse (drop at entries))) (rest_of entries at) name r here)

pub not_on : (rs ss : List Receiving) (name : List ℕ) (r : Receiving) → on_file rs name ≡ None → ss ≡ rs ++ r ∷ [] → bytes_eq name r.name ≡ false → on_file ss name ≡ None
not_on rs ss name r none more other =
    ap (λ (l : List Receiving). on_file l name) more ∙ on_file_after rs (r ∷ []) name none ∙ ap (λ (b : Bool). cond b (Some r) None) other

pub found_any : (p : Receiving → Bool) (entries : List Entry) (at : ℕ) (r : Receiving)
    → openings (reverse (drop at entries)) ≡ openings (reverse (drop (at + 1) entries)) ++ r ∷ [] → p r ≡ true → true ≡ list_any p (openings (reverse entries))
found_any p entries at r more passes =
    let newer = openings (reverse (drop (at + 1) entries)) in
    sym (
    ap (list_any p) (begins_with entries at ∙ ap (λ (l : List Receiving). l ++ rest_of entries at) more)
    ∙ list_any-append p (newer ++ r ∷ []) (rest_of entries at)
    ∙ ap (λ (b : Bool). b || list_any p (rest_of entries at)) (list_any-append p newer (r ∷ []) ∙ ap (λ (b : Bool). list_any p newer || (b || false)) passes ∙ or_true (list_any p newer))
    )
  where
    or_true : (a : Bool) → (a || true) ≡ true
    or_true true = refl
    or_true false = refl

-- the slice from a place on
pub from_on : {A : Type 0} (xs : List A) (i : ℕ) → take (length xs - i) (drop i xs) ≡ drop i xs
from_on xs i = take_all (length xs - i) (drop i xs) (omega (arith, length-drop i xs))
