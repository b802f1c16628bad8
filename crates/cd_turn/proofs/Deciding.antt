-- Whether an entry may follow can be decided.
use Rattle.std.proofs.Common.{◌≡◌, ◌≢◌, ◌⊎◌, inl, inr, ℕ, ◌+◌, ◌≤◌, ◌<◌, Bool, true, false, eqb, leb, List, [], ◌∷◌, ◌++◌, length, Option, Some, None, refl, sym, ap, ◌∙◌, arith}
use Rattle.std.specs.Prelude.{All, IfSome}
use Rattle.std.proofs.lemmas.Bool.{eqb-true, eq-eqb, leb-true, le-leb}
use Rattle.std.proofs.lemmas.List.Elements.{All-nil, All-cons, All-head, All-tail}
use Rattle.cd_types.specs.declared.card.Filed.{Filed}
use Rattle.cd_types.specs.declared.choices.Hold.{Hold}
use Rattle.cd_types.specs.declared.choices.Hold.TheVariants as hold
use Rattle.cd_types.specs.declared.choices.Retain.{Retain}
use Rattle.cd_types.specs.declared.choices.Retain.TheVariants as retain
use Rattle.cd_types.specs.declared.key.Key.{Key}
use Rattle.cd_entries.specs.declared.entry.Entry.{Entry}
use Rattle.cd_entries.specs.declared.entry.Entry.TheVariants as entry
use Rattle.cd_turn.specs.Entries.{submitted_in, live_in, latest_in, origin_of}
use Rattle.cd_turn.specs.Legal.{IsNext, IsSubmission}
use Rattle.cd_turn.specs.Texts.{card_in, without_start, IsText}

abbrev Decided : Type 0 → Type 0
Decided P = P ⊎ (P → ⊥)

-- what is the same is decided too
carry : (P Q : Type 0) → (P → Q) → (Q → P) → Decided P → Decided Q
carry P Q there back (inl p) = inl (there p)
carry P Q there back (inr no_p) = inr (λ q. no_p (back q))

both : (P Q : Type 0) → Decided P → Decided Q → Decided (P × Q)
both P Q (inl p) (inl q) = inl (p, q)
both P Q (inl p) (inr no_q) = inr (λ h. no_q h.1)
both P Q (inr no_p) decided = inr (λ h. no_p h.0)

neither : (P : Type 0) → Decided P → Decided (P → ⊥)
neither P (inl p) = inr (λ no_p. no_p p)
neither P (inr no_p) = inl no_p

number_is : (a b : ℕ) → Decided (a ≡ b)
number_is a b = by_test (eqb a b) refl
  where
    by_test : (t : Bool) → eqb a b ≡ t → Decided (a ≡ b)
    by_test true e = inl (eqb-true a b e)
    by_test false e = inr (λ same. let h : true ≡ false = sym (eq-eqb a b same) ∙ e in cc)

at_most : (a b : ℕ) → Decided (a ≤ b)
at_most a b = by_test (leb a b) refl
  where
    by_test : (t : Bool) → leb a b ≡ t → Decided (a ≤ b)
    by_test true e = inl (leb-true a b e)
    by_test false e = inr (λ less. let h : true ≡ false = sym (le-leb a b less) ∙ e in cc)

below : (a b : ℕ) → Decided (a < b)
below a b = carry (a + 1 ≤ b) (a < b) (λ h. omega arith) (λ h. omega arith) (at_most (a + 1) b)

list_is : (a b : List ℕ) → Decided (a ≡ b)
list_is [] [] = inl refl
list_is [] (y ∷ b) = inr (λ e. cc)
list_is (x ∷ a) [] = inr (λ e. cc)
list_is (x ∷ a) (y ∷ b) = carry ((x ≡ y) × (a ≡ b)) ((x ∷ a) ≡ (y ∷ b)) (λ h i. h.0 i ∷ h.1 i) (λ e. (cc, cc)) (both (x ≡ y) (a ≡ b) (number_is x y) (list_is a b))

key_is : (a b : Key) → Decided (a ≡ b)
key_is a b =
    carry ((a.pnode ≡ b.pnode) × ((a.home ≡ b.home) × ((a.number ≡ b.number) × (a.place ≡ b.place)))) (a ≡ b)
    (λ h i. record { pnode = h.0 i; home = h.1.0 i; number = h.1.1.0 i; place = h.1.1.1 i })
    (λ e. (ap (λ (k : Key). k.pnode) e, (ap (λ (k : Key). k.home) e, (ap (λ (k : Key). k.number) e, ap (λ (k : Key). k.place) e))))
    (both _ _ (list_is a.pnode b.pnode) (both _ _ (number_is a.home b.home) (both _ _ (number_is a.number b.number) (number_is a.place b.place))))

origin_is : (origin : Option Key) (step : Key) → Decided (origin ≡ Some step)
origin_is None step = inr (λ e. cc)
origin_is (Some own) step = carry (own ≡ step) (Some own ≡ Some step) (λ e. ap (λ (k : Key). Some k) e) (λ e. cc) (key_is own step)

-- no entry was submitted by this step
abbrev Other : Key → Entry → Type 0
Other step e = origin_of e ≢ Some step

all_other : (step : Key) (entries : List Entry) → Decided (All (Other step) entries)
all_other step [] = inl (All-nil (Other step))
all_other step (e ∷ entries) =
    carry (Other step e × All (Other step) entries) (All (Other step) (e ∷ entries))
    (λ h. All-cons (Other step) e entries h.0 h.1)
    (λ h. (All-head (Other step) e entries h, All-tail (Other step) e entries h))
    (both (Other step e) (All (Other step) entries) (neither (origin_of e ≡ Some step) (origin_is (origin_of e) step)) (all_other step entries))

abbrev IsOnce : List Entry → Option Key → Type 0
IsOnce entries origin = IfSome origin (λ step. All (Other step) entries)

once_is : (entries : List Entry) (origin : Option Key) → Decided (IsOnce entries origin)
once_is entries None = inl tt
once_is entries (Some step) = all_other step entries

hold_is : (a b : Hold) → Decided (a ≡ b)
hold_is hold.No hold.No = inl refl
hold_is hold.No hold.Yes = inr (λ e. cc)
hold_is hold.No hold.Call = inr (λ e. cc)
hold_is hold.Yes hold.No = inr (λ e. cc)
hold_is hold.Yes hold.Yes = inl refl
hold_is hold.Yes hold.Call = inr (λ e. cc)
hold_is hold.Call hold.No = inr (λ e. cc)
hold_is hold.Call hold.Yes = inr (λ e. cc)
hold_is hold.Call hold.Call = inl refl

retain_is : (a b : Retain) → Decided (a ≡ b)
retain_is retain.No retain.No = inl refl
retain_is retain.No retain.Yes = inr (λ e. cc)
retain_is retain.No retain.Initial = inr (λ e. cc)
retain_is retain.Yes retain.No = inr (λ e. cc)
retain_is retain.Yes retain.Yes = inl refl
retain_is retain.Yes retain.Initial = inr (λ e. cc)
retain_is retain.Initial retain.No = inr (λ e. cc)
retain_is retain.Initial retain.Yes = inr (λ e. cc)
retain_is retain.Initial retain.Initial = inl refl

start_is : (a b : Option ℕ) → Decided (a ≡ b)
start_is None None = inl refl
start_is None (Some y) = inr (λ e. cc)
start_is (Some x) None = inr (λ e. cc)
start_is (Some x) (Some y) = carry (x ≡ y) (Some x ≡ Some y) (λ e. ap (λ (n : ℕ). Some n) e) (λ e. cc) (number_is x y)

card_is : (a b : Filed) → Decided (a ≡ b)
card_is a b =
    carry ((a.name ≡ b.name) × ((a.snode ≡ b.snode) × ((a.prty ≡ b.prty) × ((a.class ≡ b.class) × ((a.hold ≡ b.hold) × ((a.retain ≡ b.retain) × (a.start ≡ b.start))))))) (a ≡ b)
    (λ h i. record { name = h.0 i; snode = h.1.0 i; prty = h.1.1.0 i; class = h.1.1.1.0 i; hold = h.1.1.1.1.0 i; retain = h.1.1.1.1.1.0 i; start = h.1.1.1.1.1.1 i })
    (λ e. (
      ap (λ (f : Filed). f.name) e,
      (
        ap (λ (f : Filed). f.snode) e,
        (ap (λ (f : Filed). f.prty) e, (ap (λ (f : Filed). f.class) e, (ap (λ (f : Filed). f.hold) e, (ap (λ (f : Filed). f.retain) e, ap (λ (f : Filed). f.start) e)))),
      ),
    ))
    (both _ _ (list_is a.name b.name) (both _ _ (list_is a.snode b.snode) (both _ _ (number_is a.prty b.prty) (both _ _ (number_is a.class b.class) (both _ _ (hold_is a.hold b.hold) (both _ _ (retain_is a.retain b.retain) (start_is a.start b.start)))))))

found_is : (found : Option Filed) (c : Filed) → Decided (found ≡ Some c)
found_is None c = inr (λ e. cc)
found_is (Some kept) c = carry (kept ≡ c) (Some kept ≡ Some c) (λ e. ap (λ (f : Filed). Some f) e) (λ e. cc) (card_is kept c)

text_is : (c : Filed) (text : List ℕ) → Decided (IsText c text)
text_is c text = found_is (card_in text) (without_start c)

some_before : (entries : List Entry) → Decided (entries ≢ [])
some_before [] = inr (λ some. some refl)
some_before (e ∷ entries) = inl (λ none. cc)

none_before : (entries : List Entry) → Decided (entries ≡ [])
none_before [] = inl refl
none_before (e ∷ entries) = inr (λ none. cc)

submission_is : (entries : List Entry) (number moment : ℕ) (origin : Option Key) (c : Filed) (text : List ℕ) → Decided (IsSubmission entries number moment origin c text)
submission_is entries number moment origin c text =
    carry
    ((entries ≢ []) × ((number ≡ submitted_in entries + 1) × ((number ≤ 99999) × ((live_in entries < 4096) × ((latest_in entries ≤ moment) × (IsOnce entries origin × ((length text ≤ 200000) × IsText c text)))))))
    (IsSubmission entries number moment origin c text)
    (λ h. record { begun = h.0; next = h.1.0; last = h.1.1.0; room = h.1.1.1.0; later = h.1.1.1.1.0; once = h.1.1.1.1.1.0; short = h.1.1.1.1.1.1.0; canonical = h.1.1.1.1.1.1.1 })
    (λ is. (is.begun, (is.next, (is.last, (is.room, (is.later, (is.once, (is.short, is.canonical))))))))
    (both _ _ (some_before entries) (both _ _ (number_is number (submitted_in entries + 1)) (both _ _ (at_most number 99999) (both _ _ (below (live_in entries) 4096) (both _ _ (at_most (latest_in entries) moment) (both _ _ (once_is entries origin) (both _ _ (at_most (length text) 200000) (text_is c text))))))))

pub next_is : (entries : List Entry) (e : Entry) → IsNext entries e ⊎ (IsNext entries e → ⊥)
next_is entries (entry.Home name home) = none_before entries
next_is entries (entry.Submitted number at origin c text) = submission_is entries number at origin c text
next_is entries (entry.Placed number placing at) = inr (λ h. h)
next_is entries (entry.Started step kind attempt at) = inr (λ h. h)
next_is entries (entry.Receiving receiving) = inr (λ h. h)
next_is entries (entry.Mark step offset) = inr (λ h. h)
next_is entries (entry.Result step outcomes at) = inr (λ h. h)
next_is entries (entry.Ended number place rc cause bytes at) = inr (λ h. h)
next_is entries (entry.Closed number how at) = inr (λ h. h)
next_is entries (entry.Forgot name home number) = inr (λ h. h)
next_is entries (entry.Dropped step rc cause at) = inr (λ h. h)
