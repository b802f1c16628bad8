-- A journal's bytes are those of a legal list, or have a first wrong place.
use Rattle.std.proofs.Common.{◌≡◌, ◌⊎◌, inl, inr, ⊎_elim, ℕ, List, [], ◌∷◌, ◌++◌, map, Option, Some, None, Ok, Err, refl, sym, ap, subst, ◌∙◌, append_assoc}
use Rattle.std.specs.Prelude.{MatchResult}
use Rattle.std.specs.List.{AllByRecursion}
use Rattle.std.proofs.lemmas.List.{append-nil}
use Rattle.cd_types.specs.Format.{IsBytes}
use Rattle.cd_journal.specs.Bytes.{Listing, list_of}
use Rattle.cd_entries.specs.declared.entry.Entry.{Entry}
use Rattle.cd_entries.specs.Entry.{entry_bytes, entry_of, IsEntry}
use Rattle.cd_entries.proofs.EntryLaw.{entry_again, entry_only}
use Rattle.cd_turn.specs.Home.{StandsFor, IsJournal, IsFit, place_behind, IsBad, IsFirstBad, IsUnfit}
use Rattle.cd_turn.specs.Legal.{IsNext, FollowLegally, IsLegal}
use Rattle.cd_turn.proofs.BodyBytes.{list_bytes}
use Rattle.cd_turn.proofs.Deciding.{next_is}

abbrev listed : List (List ℕ) → Listing
listed bodies = Ok bodies

ok_same : (a b : List (List ℕ)) → listed a ≡ listed b → a ≡ b
ok_same a b e = cc

some_same : (x y : Entry) → Some x ≡ Some y → x ≡ y
some_same x y e = cc

-- entries in their form are told apart by their bytes
entry_same : (a b : Entry) → IsEntry a → IsEntry b → entry_bytes a ≡ entry_bytes b → a ≡ b
entry_same a b form_a form_b e = some_same a b (sym (entry_again a form_a) ∙ ap entry_of e ∙ entry_again b form_b)

abbrev AreEntries : List Entry → Type 0
AreEntries entries = AllByRecursion IsEntry entries

are_entries : (before entries : List Entry) → FollowLegally before entries → AreEntries entries
are_entries before [] follows = tt
are_entries before (e ∷ entries) follows = (follows.0, are_entries (before ++ e ∷ []) entries follows.2)

same_list : (a b : List Entry) → AreEntries a → AreEntries b → map entry_bytes a ≡ map entry_bytes b → a ≡ b
same_list [] [] form_a form_b e = refl
same_list [] (y ∷ b) form_a form_b e = absurd cc
same_list (x ∷ a) [] form_a form_b e = absurd cc
same_list (x ∷ a) (y ∷ b) form_a form_b e =
    let head : entry_bytes x ≡ entry_bytes y = cc in
    let tail : map entry_bytes a ≡ map entry_bytes b = cc in
    let first = entry_same x y form_a.0 form_b.0 head in
    let more = same_list a b form_a.1 form_b.1 tail in
    λ i. first i ∷ more i

pub one_list : (bytes : List ℕ) (a b : List Entry) → StandsFor bytes a → IsLegal a → StandsFor bytes b → IsLegal b → a ≡ b
one_list bytes a b stands_a legal_a stands_b legal_b = same_list a b (are_entries [] a legal_a) (are_entries [] b legal_b) (ok_same (map entry_bytes a) (map entry_bytes b) (sym stands_a ∙ stands_b))

-- the body of an entry that may follow is no bad one
not_bad : (entries : List Entry) (body : List ℕ) (e : Entry) → body ≡ entry_bytes e → IsEntry e → IsNext entries e → IsBad entries body → ⊥
not_bad entries body e is form next bad =
    let read : entry_of body ≡ Some e = ap entry_of is ∙ entry_again e form in
    ⊎_elim
    (λ (none : entry_of body ≡ None). let h : None ≡ Some e = sym none ∙ read in cc)
    (λ (other : (x : Entry) × (entry_of body ≡ Some x) × (IsNext entries x → ⊥)). other.2 (subst (λ (x : Entry). IsNext entries x) (sym (some_same other.0 e (sym other.1 ∙ read))) next))
    bad

-- an entry of a legal list behind its first ones
entry_behind : (before entries good : List Entry) (bad : List ℕ) (more : List (List ℕ)) → FollowLegally before entries → AreEntries good → map entry_bytes entries ≡ map entry_bytes good ++ bad ∷ more
    → (e : Entry) × (bad ≡ entry_bytes e) × IsEntry e × IsNext (before ++ good) e
entry_behind before [] [] bad more follows forms e = absurd cc
entry_behind before [] (g ∷ good) bad more follows forms e = absurd cc
entry_behind before (x ∷ entries) [] bad more follows forms e =
    let head : bad ≡ entry_bytes x = cc in
    (x, head, follows.0, subst (λ (l : List Entry). IsNext l x) (sym (append-nil before)) follows.1)
entry_behind before (x ∷ entries) (g ∷ good) bad more follows forms e =
    let head : entry_bytes x ≡ entry_bytes g = cc in
    let tail : map entry_bytes entries ≡ map entry_bytes good ++ bad ∷ more = cc in
    let same = entry_same x g follows.0 forms.0 head in
    let rest = entry_behind (before ++ x ∷ []) entries good bad more follows.2 forms.1 tail in
    (rest.0, rest.1, rest.2, subst (λ (l : List Entry). IsNext l rest.0) (append_assoc before (x ∷ []) good ∙ ap (λ (y : Entry). before ++ (y ∷ good)) same) rest.3)

pub fit_apart : (bytes : List ℕ) (at : ℕ) → IsFit bytes → IsUnfit bytes at → ⊥
fit_apart bytes at fit unfit = by_list (list_of bytes) fit.0 fit.1 fit.2 unfit
  where
    by_list : (l : Listing) (entries : List Entry) → l ≡ Ok (map entry_bytes entries) → IsLegal entries → MatchResult l (λ bodies. IsFirstBad bodies at) (λ place. place ≡ at) → ⊥
    by_list (Err place) entries e legal unfit = cc
    by_list (Ok bodies) entries e legal unfit =
        let found = entry_behind [] entries unfit.good unfit.bad unfit.more legal (are_entries [] unfit.good unfit.legal) (sym (ok_same bodies (map entry_bytes entries) e) ∙ unfit.parts) in
        not_bad unfit.good unfit.bad found.0 found.1 found.2 found.3 unfit.is_bad

-- the good ones before a bad one are the same
same_good : (before a b : List Entry) (bad_a bad_b : List ℕ) (more_a more_b : List (List ℕ)) → FollowLegally before a → FollowLegally before b → IsBad (before ++ a) bad_a → IsBad (before ++ b) bad_b
    → map entry_bytes a ++ bad_a ∷ more_a ≡ map entry_bytes b ++ bad_b ∷ more_b → map entry_bytes a ≡ map entry_bytes b
same_good before [] [] bad_a bad_b more_a more_b follow_a follow_b is_a is_b e = refl
same_good before [] (y ∷ b) bad_a bad_b more_a more_b follow_a follow_b is_a is_b e =
    let head : bad_a ≡ entry_bytes y = cc in
    absurd (not_bad before bad_a y head follow_b.0 follow_b.1 (subst (λ (l : List Entry). IsBad l bad_a) (append-nil before) is_a))
same_good before (x ∷ a) [] bad_a bad_b more_a more_b follow_a follow_b is_a is_b e =
    let head : bad_b ≡ entry_bytes x = cc in
    absurd (not_bad before bad_b x head follow_a.0 follow_a.1 (subst (λ (l : List Entry). IsBad l bad_b) (append-nil before) is_b))
same_good before (x ∷ a) (y ∷ b) bad_a bad_b more_a more_b follow_a follow_b is_a is_b e =
    let head : entry_bytes x ≡ entry_bytes y = cc in
    let tail : map entry_bytes a ++ bad_a ∷ more_a ≡ map entry_bytes b ++ bad_b ∷ more_b = cc in
    let same = entry_same y x follow_b.0 follow_a.0 (sym head) in
    let behind_b = subst (λ (z : Entry). FollowLegally (before ++ z ∷ []) b) same follow_b.2 in
    let left = subst (λ (l : List Entry). IsBad l bad_a) (sym (append_assoc before (x ∷ []) a)) is_a in
    let right = subst (λ (l : List Entry). IsBad l bad_b) (ap (λ (z : Entry). before ++ (z ∷ b)) same ∙ sym (append_assoc before (x ∷ []) b)) is_b in
    let more = same_good (before ++ x ∷ []) a b bad_a bad_b more_a more_b follow_a.2 behind_b left right tail in
    λ i. head i ∷ more i

pub one_place : (bytes : List ℕ) (a b : ℕ) → IsUnfit bytes a → IsUnfit bytes b → a ≡ b
one_place bytes a b unfit_a unfit_b = by_list (list_of bytes) unfit_a unfit_b
  where
    by_list : (l : Listing) → MatchResult l (λ bodies. IsFirstBad bodies a) (λ place. place ≡ a) → MatchResult l (λ bodies. IsFirstBad bodies b) (λ place. place ≡ b) → a ≡ b
    by_list (Err place) one two = sym one ∙ two
    by_list (Ok bodies) one two =
        let same = same_good [] one.good two.good one.bad two.bad one.more two.more one.legal two.legal one.is_bad two.is_bad (sym one.parts ∙ two.parts) in
        one.place ∙ ap place_behind same ∙ sym two.place

-- a body is that of an entry that may follow, or a bad one
body_is : (entries : List Entry) (body : List ℕ) → IsBytes body → ((e : Entry) × (body ≡ entry_bytes e) × IsEntry e × IsNext entries e) ⊎ IsBad entries body
body_is entries body fit = by_read (entry_of body) refl
  where
    by_read : (found : Option Entry) → entry_of body ≡ found → ((e : Entry) × (body ≡ entry_bytes e) × IsEntry e × IsNext entries e) ⊎ IsBad entries body
    by_read None none = inr (inl none)
    by_read (Some e) read =
        let is = entry_only body e fit read in
        ⊎_elim
        (λ (next : IsNext entries e). inl (e, is.0, is.1, next))
        (λ (not_next : IsNext entries e → ⊥). inr (inr (e, read, not_next)))
        (next_is entries e)

-- these bodies are those of entries that may follow
record AreGood (before : List Entry) (bodies : List (List ℕ)) : Type 0 where
  entries : List Entry
  spelled : bodies ≡ map entry_bytes entries
  follows : FollowLegally before entries

-- there is a first bad one of these bodies
record HaveBad (before : List Entry) (bodies : List (List ℕ)) : Type 0 where
  good : List Entry
  bad : List ℕ
  more : List (List ℕ)
  parts : bodies ≡ map entry_bytes good ++ bad ∷ more
  follows : FollowLegally before good
  is_bad : IsBad (before ++ good) bad

bodies_are : (before : List Entry) (bodies : List (List ℕ)) → AllByRecursion IsBytes bodies → AreGood before bodies ⊎ HaveBad before bodies
bodies_are before [] fits = inl (record { entries = []; spelled = refl; follows = tt })
bodies_are before (body ∷ bodies) fits =
    ⊎_elim
    (λ (next : (e : Entry) × (body ≡ entry_bytes e) × IsEntry e × IsNext before e). behind next.0 next.1 next.2 next.3 (bodies_are (before ++ next.0 ∷ []) bodies fits.1))
    (λ (bad : IsBad before body). inr (record { good = []; bad = body; more = bodies; parts = refl; follows = tt; is_bad = subst (λ (l : List Entry). IsBad l body) (sym (append-nil before)) bad }))
    (body_is before body fits.0)
  where
    behind : (e : Entry) → body ≡ entry_bytes e → IsEntry e → IsNext before e → AreGood (before ++ e ∷ []) bodies ⊎ HaveBad (before ++ e ∷ []) bodies → AreGood before (body ∷ bodies) ⊎ HaveBad before (body ∷ bodies)
    behind e is form next (inl good) = inl (record { entries = e ∷ good.entries; spelled = λ i. is i ∷ good.spelled i; follows = (form, next, good.follows) })
    behind e is form next (inr bad) = inr (record {
      good = e ∷ bad.good;
      bad = bad.bad;
      more = bad.more;
      parts = λ i. is i ∷ bad.parts i;
      follows = (form, next, bad.follows);
      is_bad = subst (λ (l : List Entry). IsBad l bad.bad) (append_assoc before (e ∷ []) bad.good) bad.is_bad;
    })

pub fit_or_not : (bytes : List ℕ) → IsBytes bytes → IsFit bytes ⊎ ((at : ℕ) × IsUnfit bytes at)
fit_or_not bytes fit = by_list (list_of bytes) refl
  where
    is_unfit : (l : Listing) → list_of bytes ≡ l → (at : ℕ) → MatchResult l (λ bodies. IsFirstBad bodies at) (λ place. place ≡ at) → IsUnfit bytes at
    is_unfit l e at unfit = subst (λ (k : Listing). MatchResult k (λ bodies. IsFirstBad bodies at) (λ place. place ≡ at)) (sym e) unfit

    by_bodies : (bodies : List (List ℕ)) → list_of bytes ≡ Ok bodies → AreGood [] bodies ⊎ HaveBad [] bodies → IsFit bytes ⊎ ((at : ℕ) × IsUnfit bytes at)
    by_bodies bodies e (inl good) = inl (good.entries, e ∙ ap listed good.spelled, good.follows)
    by_bodies bodies e (inr bad) =
        let at = place_behind (map entry_bytes bad.good) in
        inr (at, is_unfit (Ok bodies) e at (record { good = bad.good; bad = bad.bad; more = bad.more; parts = bad.parts; legal = bad.follows; is_bad = bad.is_bad; place = refl }))

    by_list : (l : Listing) → list_of bytes ≡ l → IsFit bytes ⊎ ((at : ℕ) × IsUnfit bytes at)
    by_list (Err place) e = inr (place, is_unfit (Err place) e place refl)
    by_list (Ok bodies) e = by_bodies bodies e (bodies_are [] bodies (list_bytes bytes bodies fit e))

pub blank_fit : IsFit []
unfolding list_of
blank_fit = ([], refl, tt)

pub kept_fit : (entries : List Entry) (bytes : List ℕ) → IsJournal entries bytes → IsFit bytes
kept_fit entries bytes kept = (entries, kept.stands, kept.legal)
