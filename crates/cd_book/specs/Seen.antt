-- What contracts see of the answers that borrow from a book.
use Rattle.std.specs.Prelude.{ℕ, Option, Some, None}
use Rattle.std.specs.Borrow.{Bor}
use Rattle.cd_entries.specs.declared.entry.Entry.{Entry}
use Rattle.cd_entries.specs.declared.entry.Entry.TheVariants as entry
use Rattle.cd_rules.specs.Status as seen
use Rattle.cd_rules.specs.Processes.{Submission as Told}
use Rattle.cd_book.specs.declared.status.Status.{Status}
use Rattle.cd_book.specs.declared.status.Status.TheVariants.{Fresh, Started, Open, Done}
use Rattle.cd_book.specs.declared.submission.Submission.{Submission}

abbrev pub seen_status : Status → seen.Status
seen_status Fresh = seen.Fresh
seen_status (Started times kind) = seen.Started times kind
seen_status (Open receiving mark) = seen.Open receiving.now mark
seen_status (Done outcomes) = seen.Done outcomes

-- how often a step was started that has nothing else
abbrev pub times_of : Status → ℕ
times_of (Started times kind) = times
times_of _ = 0

abbrev pub seen_submission : Submission → Told
seen_submission s = record { moment = s.moment; origin = s.origin; card = s.card.now; text = s.text.now }

-- what an entry submits
abbrev pub told_by : Entry → Option Told
told_by (entry.Submitted number moment origin card text) = Some (record { moment = moment; origin = origin; card = card; text = text })
told_by _ = None

abbrev pub told_in : Option (Bor Entry) → Option Told
told_in None = None
told_in (Some e) = told_by e.now
