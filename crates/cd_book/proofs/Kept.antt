-- The Processes that a book keeps.
use Rattle.std.proofs.Common.{◌≡◌, ℕ, zero, suc, ◌+◌, ◌-◌, ◌<◌, ◌≤◌, Bool, true, ◌&&◌, eqb, leb, ltb, cond, inl, inr, List, [], ◌∷◌, ◌++◌, length, Option, Some, None, refl, sym, ap, ◌∙◌, arith, length-append}
use Rattle.std.specs.Prelude.{slice_get}
use Rattle.std.proofs.lemmas.Bool.{cases_Bool, and_parts, and_from, eqb-true, eqb-false, ltb-true, ltb-false}
use Rattle.std.proofs.lemmas.List.{append-nil}
use Rattle.cd_types.specs.Format.{◌>>=◌}
use Rattle.cd_types.specs.declared.card.Filed.{Filed}
use Rattle.cd_types.specs.declared.key.Key.{Key}
use Rattle.cd_entries.specs.declared.entry.Entry.{Entry}
use Rattle.cd_entries.specs.declared.entry.Entry.TheVariants as entry
use Rattle.cd_ast.specs.declared.process.Process.{Process}
use Rattle.cd_rules.specs.Processes.{submission, submitted, live_numbers}
use Rattle.cd_rules.specs.Steps.{Reading, process_of}
use Rattle.cd_rules.specs.Legal.{is_filed, is_new_origin, allowed, is_legal}
use Rattle.cd_rules.proofs.LegalLaw.{legal_parts, follows}
use Rattle.cd_rules.proofs.NumbersLaw.{number_is_next}
use Rattle.cd_book.specs.Book.{IsRead, is_submission, listed, processes_of, AreKept}

-- Lists.

get_past : {A : Type 0} (xs : List A) (k : ℕ) → length xs ≤ k → slice_get xs k ≡ None
get_past [] k past = refl
get_past (x ∷ xs) zero past = absurd (omega arith)
get_past (x ∷ xs) (suc k) past = get_past xs k (omega arith)

get_front : {A : Type 0} (xs ys : List A) (k : ℕ) → k < length xs → slice_get (xs ++ ys) k ≡ slice_get xs k
get_front [] ys k below = absurd (omega arith)
get_front (x ∷ xs) ys zero below = refl
get_front (x ∷ xs) ys (suc k) below = get_front xs ys k (omega arith)

get_last : {A : Type 0} (xs : List A) (y : A) → slice_get (xs ++ y ∷ []) (length xs) ≡ Some y
get_last [] y = refl
get_last (x ∷ xs) y = get_last xs y

-- A submission's Process.

filed_of : (read : Reading) (journal : List Entry) (n moment : ℕ) (origin : Option Key) (card : Filed) (text : List ℕ)
    → is_legal read (entry.Submitted n moment origin card text ∷ journal) ≡ true → is_filed card (read text) ≡ true
filed_of read journal n moment origin card text legal =
    let fits = follows read (entry.Submitted n moment origin card text) journal legal in
    let five = and_parts (eqb n (submitted journal + 1) && leb n 99999 && ltb (length (live_numbers journal)) 4096 && leb (length text) 200000 && is_filed card (read text)) (is_new_origin journal origin) fits in
    (and_parts (eqb n (submitted journal + 1) && leb n 99999 && ltb (length (live_numbers journal)) 4096 && leb (length text) 200000) (is_filed card (read text)) five.0).1

one_longer : (ps : List Process) (o : Option Process) (card : Filed) → is_filed card o ≡ true → length (ps ++ listed o) ≡ length ps + 1
one_longer ps None card filed = absurd cc
one_longer ps (Some p) card filed = length-append ps (p ∷ [])

last_of : (ps : List Process) (o : Option Process) (card : Filed) (k : ℕ) → is_filed card o ≡ true → k ≡ length ps → o ≡ slice_get (ps ++ listed o) k
last_of ps None card k filed is = absurd cc
last_of ps (Some p) card k filed is = sym (ap (slice_get (ps ++ p ∷ [])) is ∙ get_last ps p)

others_of : (ps : List Process) (o : Option Process) (card : Filed) (k : ℕ) → is_filed card o ≡ true → (k ≡ length ps → ⊥) → slice_get ps k ≡ slice_get (ps ++ listed o) k
others_of ps None card k filed other = absurd cc
others_of ps (Some p) card k filed other =
    elim (cases_Bool (ltb k (length ps))) [
      | inl below ↦ sym (get_front ps (p ∷ []) k (ltb-true k (length ps) below))
      | inr above ↦
          let past : length ps ≤ k = ltb-false k (length ps) above in
          let longer : length (ps ++ p ∷ []) ≤ k =
          elim (cases_Bool (eqb k (length ps))) [
            | inl same ↦ absurd (other (eqb-true k (length ps) same))
            | inr differs ↦ let far = eqb-false k (length ps) differs in omega (arith, length-append ps (p ∷ []), far)
          ] in
          get_past ps k past ∙ sym (get_past (ps ++ p ∷ []) k longer)
    ]

-- there are as many as submissions
pub processes_length : (read : Reading) (journal : List Entry) → is_legal read journal ≡ true → length (processes_of read journal) ≡ submitted journal
unfolding processes_of submitted
processes_length read [] legal = refl
processes_length read (entry.Submitted number moment origin card text ∷ journal) legal =
    one_longer (processes_of read journal) (read text) card (filed_of read journal number moment origin card text legal)
    ∙ ap (λ (n : ℕ). n + 1) (processes_length read journal (legal_parts read _ journal legal).0)
processes_length read (e ∷ journal) legal = processes_length read journal (legal_parts read _ journal legal).0

-- the n-th is that of the number n
pub nth_process : (read : Reading) (journal : List Entry) (n : ℕ) → is_legal read journal ≡ true → 1 ≤ n → slice_get (processes_of read journal) (n - 1) ≡ process_of read journal n
unfolding processes_of submission
nth_process read [] n legal some = refl
nth_process read (entry.Submitted number moment origin card text ∷ journal) n legal some =
    let before = (legal_parts read _ journal legal).0 in
    let filed = filed_of read journal number moment origin card text legal in
    let next = (number_is_next read journal number moment origin card text legal).0 in
    let count = processes_length read journal before in
    let ps = processes_of read journal in
    let found : Bool → Option Process = λ (b : Bool). ◌>>=◌ {B = Process} (cond b (Some (record { moment = moment; origin = origin; card = card; text = text })) (submission journal n)) (λ s. read s.text) in
    elim (cases_Bool (eqb number n)) [
      | inl own ↦
          let same : number ≡ n = eqb-true number n own in
          let at : n - 1 ≡ length ps = omega (arith, next, count, same) in
          sym (last_of ps (read text) card (n - 1) filed at) ∙ ap found (sym own)
      | inr other ↦
          let differs = eqb-false number n other in
          sym (others_of ps (read text) card (n - 1) filed (λ e. differs (omega (arith, next, count, e, some)))) ∙ nth_process read journal n before some ∙ ap found (sym other)
    ]
nth_process read (e ∷ journal) n legal some = nth_process read journal n (legal_parts read _ journal legal).0 some

-- One entry more.

pub kept_none : (read : Reading) → AreKept read [] []
unfolding is_legal processes_of
kept_none read = record { legal = refl; processes_are = refl }

one_more : (read : Reading) (journal : List Entry) (e : Entry) (process : Option Process) → IsRead read e process
    → processes_of read journal ++ cond (is_submission e) (listed process) [] ≡ processes_of read (e ∷ journal)
unfolding processes_of
one_more read journal (entry.Submitted number moment origin card text) process is = ap (λ (o : Option Process). processes_of read journal ++ listed o) is
one_more read journal (e) process is = append-nil (processes_of read journal)

pub kept_more : (read : Reading) (journal : List Entry) (processes more : List Process) (e : Entry) (process : Option Process)
    → AreKept read journal processes → allowed read journal e ≡ true → IsRead read e process → more ≡ processes ++ cond (is_submission e) (listed process) []
    → AreKept read (e ∷ journal) more
unfolding is_legal
kept_more read journal processes more e process kept fits is added = record {
  legal = and_from _ _ kept.legal fits;
  processes_are = added ∙ ap (λ (l : List Process). l ++ cond (is_submission e) (listed process) []) kept.processes_are ∙ one_more read journal e process is;
}
