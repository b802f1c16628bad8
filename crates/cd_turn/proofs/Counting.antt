-- What one entry more adds to the counts.
use Rattle.std.proofs.Common.{◌≡◌, ℕ, zero-add, ◌+◌, ◌<◌, max, Bool, true, false, cond, List, [], ◌∷◌, ◌++◌, refl, sym, ap, ◌∙◌, arith}
use Rattle.std.specs.Prelude.{count_by, fold}
use Rattle.std.proofs.lemmas.List.Sums.{sum_by-append, fold-append}
use Rattle.cd_entries.specs.declared.entry.Entry.{Entry}
use Rattle.cd_turn.specs.Counts.{AreCounts}
use Rattle.cd_turn.specs.Entries.{is_submission, submitted_in, moment_of, latest_in}

pub submitted-push : (entries : List Entry) (e : Entry) → submitted_in (entries ++ e ∷ []) ≡ submitted_in entries + cond (is_submission e) 1 0
submitted-push entries e = sum_by-append (λ x. cond (is_submission x) 1 0) entries (e ∷ []) ∙ ap (λ (n : ℕ). submitted_in entries + n) (zero-add (cond (is_submission e) 1 0))

pub latest-push : (entries : List Entry) (e : Entry) → latest_in (entries ++ e ∷ []) ≡ max (latest_in entries) (moment_of e)
latest-push entries e = fold-append (λ latest x. max latest (moment_of x)) 0 entries (e ∷ [])

-- the counts with the entry
pub counted : (entries : List Entry) (e : Entry) (submitted latest : ℕ) → AreCounts entries submitted latest → moment_of e < 250000000000
    → AreCounts (entries ++ e ∷ []) (submitted + cond (is_submission e) 1 0) (max latest (moment_of e))
counted entries e submitted latest counts small = record {
  numbers = ap (λ (n : ℕ). n + cond (is_submission e) 1 0) counts.numbers ∙ sym (submitted-push entries e);
  moments = ap (λ (n : ℕ). max n (moment_of e)) counts.moments ∙ sym (latest-push entries e);
  limit = let old = counts.limit in omega arith;
}
