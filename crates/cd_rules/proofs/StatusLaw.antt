-- The status of a step says what the single questions say.
use Rattle.std.proofs.Common.{◌≡◌, ℕ, ◌+◌, true, false, cond, List, [], ◌∷◌, Option, Some, refl, ◌∙◌, ap}
use Rattle.std.proofs.lemmas.Bool.{cond-true, cond-false}
use Rattle.cd_types.specs.declared.choices.TaskKind.{TaskKind}
use Rattle.cd_types.specs.declared.key.Key.{Key}
use Rattle.cd_types.specs.declared.rows.Receiving.{Receiving}
use Rattle.cd_entries.specs.declared.entry.Entry.{Entry}
use Rattle.cd_entries.specs.declared.entry.Entry.TheVariants as entry
use Rattle.cd_rules.specs.Keys.{is_of}
use Rattle.cd_rules.specs.Status.{Status, Fresh, Started, Open, Done, once_more, opened, marked, after, status, outcome, outcome_at, mark, mark_at, last_receiving, receiving_at, starts, starts_at, done_with, Says}

says_start : (kind : TaskKind) (s : Status) (r : Option Receiving) (m n : ℕ) → Says s r m n → Says (once_more kind s) r m (n + 1)
says_start kind Fresh r m n h = ap (λ x. x + 1) h
says_start kind (Started tries last) r m n h = ap (λ x. x + 1) h
says_start kind (Open opening safe) r m n h = h
says_start kind (Done o) r m n h = h

says_opening : (x : Receiving) (s : Status) (n : ℕ) → Says (opened x s) (Some x) 0 n
says_opening x Fresh n = (refl, refl)
says_opening x (Started tries last) n = (refl, refl)
says_opening x (Open opening safe) n = (refl, refl)
says_opening x (Done o) n = tt

says_mark : (offset : ℕ) (s : Status) (r : Option Receiving) (m n : ℕ) → Says s r m n → Says (marked offset s) r offset n
says_mark offset Fresh r m n h = h
says_mark offset (Started tries last) r m n h = h
says_mark offset (Open opening safe) r m n h = (h.0, refl)
says_mark offset (Done o) r m n h = h

-- one entry of the step keeps it
says_after : (e : Entry) (s : Status) (r : Option Receiving) (m n : ℕ) → Says s r m n
    → Says (after e s) (receiving_at e r) (mark_at e m) (starts_at e n)
says_after (entry.Started step kind attempt moment) s r m n h = says_start kind s r m n h
says_after (entry.Receiving x) s r m n h = says_opening x s n
says_after (entry.Mark step offset) s r m n h = says_mark offset s r m n h
says_after (entry.Result step outcomes moment) s r m n h = tt
says_after (entry.Dropped step rc cause moment) s r m n h = tt
says_after (entry.Home name home) s r m n h = h
says_after (entry.Submitted number moment origin card text) s r m n h = h
says_after (entry.Placed number placing moment) s r m n h = h
says_after (entry.Ended number place rc cause bytes moment) s r m n h = h
says_after (entry.Closed number how moment) s r m n h = h
says_after (entry.Forgot name home number) s r m n h = h

pub status_says : (journal : List Entry) (key : Key) → Says (status journal key) (last_receiving journal key) (mark journal key) (starts journal key)
unfolding status last_receiving mark starts
status_says [] key = refl
status_says (e ∷ journal) key =
    let s = status journal key in
    let r = last_receiving journal key in
    let m = mark journal key in
    let n = starts journal key in
    elim (is_of key e) as (λ b. Says (cond b (after e s) s) (cond b (receiving_at e r) r) (cond b (mark_at e m) m) (cond b (starts_at e n) n)) [
      | true ↦ says_after e s r m n (status_says journal key)
      | false ↦ status_says journal key
    ]

done_start : (kind : TaskKind) (s : Status) → done_with s ≡ done_with (once_more kind s)
done_start kind Fresh = refl
done_start kind (Started tries last) = refl
done_start kind (Open opening safe) = refl
done_start kind (Done o) = refl

done_opening : (x : Receiving) (s : Status) → done_with s ≡ done_with (opened x s)
done_opening x Fresh = refl
done_opening x (Started tries last) = refl
done_opening x (Open opening safe) = refl
done_opening x (Done o) = refl

done_mark : (offset : ℕ) (s : Status) → done_with s ≡ done_with (marked offset s)
done_mark offset Fresh = refl
done_mark offset (Started tries last) = refl
done_mark offset (Open opening safe) = refl
done_mark offset (Done o) = refl

done_after : (e : Entry) (s : Status) → outcome_at e (done_with s) ≡ done_with (after e s)
done_after (entry.Started step kind attempt moment) s = done_start kind s
done_after (entry.Receiving x) s = done_opening x s
done_after (entry.Mark step offset) s = done_mark offset s
done_after (entry.Result step outcomes moment) s = refl
done_after (entry.Dropped step rc cause moment) s = refl
done_after (entry.Home name home) s = refl
done_after (entry.Submitted number moment origin card text) s = refl
done_after (entry.Placed number placing moment) s = refl
done_after (entry.Ended number place rc cause bytes moment) s = refl
done_after (entry.Closed number how moment) s = refl
done_after (entry.Forgot name home number) s = refl

pub outcome-status : (journal : List Entry) (key : Key) → outcome journal key ≡ done_with (status journal key)
unfolding status outcome
outcome-status [] key = refl
outcome-status (e ∷ journal) key =
    let s = status journal key in
    let same : outcome journal key ≡ done_with s = outcome-status journal key in
    elim (is_of key e) as (λ b. cond b (outcome_at e (outcome journal key)) (outcome journal key) ≡ done_with (cond b (after e s) s)) [
      | true ↦ ap (outcome_at e) same ∙ done_after e s
      | false ↦ same
    ]

-- an entry of another step leaves the status as it is
pub status-other : (e : Entry) (journal : List Entry) (key : Key) → is_of key e ≡ false → status (e ∷ journal) key ≡ status journal key
unfolding status
status-other e journal key other = cond-false (is_of key e) _ _ other

-- an entry of the step makes a step of it
pub status-own : (e : Entry) (journal : List Entry) (key : Key) → is_of key e ≡ true → status (e ∷ journal) key ≡ after e (status journal key)
unfolding status
status-own e journal key own = cond-true (is_of key e) _ _ own
