-- How legal lists grow.
use Rattle.std.proofs.Common.{◌≡◌, ◌≢◌, ℕ, zero, suc, ◌+◌, ◌<◌, ◌≤◌, Bool, true, false, not, List, [], ◌∷◌, ◌++◌, Option, Some, None, refl, sym, ap, subst, ◌∙◌, arith, append_assoc}
use Rattle.std.specs.Prelude.{count_by, IsTrue}
use Rattle.std.specs.List.{list_any}
use Rattle.std.proofs.lemmas.List.{append-nil}
use Rattle.cd_entries.specs.declared.entry.Entry.{Entry}
use Rattle.cd_entries.specs.declared.entry.Entry.TheVariants as entry
use Rattle.cd_entries.specs.Entry.{IsEntry}
use Rattle.cd_turn.specs.Entries.{is_submission, submitted_in, closes, is_live, live_in}
use Rattle.cd_turn.specs.Legal.{IsNext, FollowLegally, IsLegal, Extends}

-- one entry more
pub follow_push : (before entries : List Entry) (e : Entry) → FollowLegally before entries → IsEntry e → IsNext (before ++ entries) e → FollowLegally before (entries ++ e ∷ [])
follow_push before [] e follows form next = (form, subst (λ (l : List Entry). IsNext l e) (append-nil before) next, tt)
follow_push before (first ∷ entries) e follows form next =
    (follows.0, follows.1, follow_push (before ++ first ∷ []) entries e follows.2 form (subst (λ (l : List Entry). IsNext l e) (sym (append_assoc before (first ∷ []) entries)) next))

pub legal_push : (entries : List Entry) (e : Entry) → IsLegal entries → IsEntry e → IsNext entries e → IsLegal (entries ++ e ∷ [])
legal_push entries e legal form next = follow_push [] entries e legal form next

-- no entry of a legal list closes a Process
none_closes : (n : ℕ) (before entries : List Entry) → FollowLegally before entries → list_any (closes n) entries ≡ false
none_closes n before [] follows = refl
none_closes n before (entry.Home name home ∷ entries) follows = none_closes n (before ++ entry.Home name home ∷ []) entries follows.2
none_closes n before (entry.Submitted number moment origin card text ∷ entries) follows = none_closes n (before ++ entry.Submitted number moment origin card text ∷ []) entries follows.2
none_closes n before (entry.Placed number placing moment ∷ entries) follows = absurd follows.1
none_closes n before (entry.Started key kind attempt moment ∷ entries) follows = absurd follows.1
none_closes n before (entry.Receiving receiving ∷ entries) follows = absurd follows.1
none_closes n before (entry.Mark key offset ∷ entries) follows = absurd follows.1
none_closes n before (entry.Result key outcomes moment ∷ entries) follows = absurd follows.1
none_closes n before (entry.Ended number place rc cause bytes moment ∷ entries) follows = absurd follows.1
none_closes n before (entry.Closed number how moment ∷ entries) follows = absurd follows.1
none_closes n before (entry.Forgot name home number ∷ entries) follows = absurd follows.1
none_closes n before (entry.Dropped key rc cause moment ∷ entries) follows = absurd follows.1

-- so a submission of it is live
live_is : (entries : List Entry) → ((n : ℕ) → list_any (closes n) entries ≡ false) → (e : Entry) → is_live entries e ≡ is_submission e
live_is entries none (entry.Submitted number moment origin card text) = ap not (none number)
live_is entries none (entry.Home name home) = refl
live_is entries none (entry.Placed number placing moment) = refl
live_is entries none (entry.Started key kind attempt moment) = refl
live_is entries none (entry.Receiving receiving) = refl
live_is entries none (entry.Mark key offset) = refl
live_is entries none (entry.Result key outcomes moment) = refl
live_is entries none (entry.Ended number place rc cause bytes moment) = refl
live_is entries none (entry.Closed number how moment) = refl
live_is entries none (entry.Forgot name home number) = refl
live_is entries none (entry.Dropped key rc cause moment) = refl

same_count : (p q : Entry → Bool) → ((e : Entry) → p e ≡ q e) → (entries : List Entry) → count_by p entries ≡ count_by q entries
same_count p q same entries = λ i. count_by (λ e. same e i) entries

-- each Process of a legal list is live
pub live-legal : (entries : List Entry) → IsLegal entries → live_in entries ≡ submitted_in entries
live-legal entries legal = same_count (is_live entries) is_submission (live_is entries (λ n. none_closes n [] entries legal)) entries
