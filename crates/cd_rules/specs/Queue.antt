-- Where a Process stands, and which one is taken next. A journal is the list of its entries, the newest first.
use Rattle.std.specs.Prelude.{ℕ, ◌+◌, List, [], ◌∷◌, min, Bool, true, false, not, ◌&&◌, ◌||◌, ◌==◌, nat_le, nat_lt, Option, Some, None, if◌then◌else◌}
use Rattle.std.specs.List.{list_any, filter_map}
use Rattle.cd_types.specs.Format.{◌>>=◌}
use Rattle.cd_types.specs.declared.card.Filed.{Filed}
use Rattle.cd_types.specs.declared.choices.Hold.{Hold}
use Rattle.cd_types.specs.declared.choices.Hold.TheVariants as hold
use Rattle.cd_types.specs.declared.choices.Queue.{Queue}
use Rattle.cd_types.specs.declared.choices.Queue.TheVariants as queue
use Rattle.cd_types.specs.declared.choices.Reason.{Reason}
use Rattle.cd_types.specs.declared.choices.Reason.TheVariants as reason
use Rattle.cd_types.specs.declared.choices.Retain.{Retain}
use Rattle.cd_types.specs.declared.choices.Retain.TheVariants as retain
use Rattle.cd_types.specs.declared.rows.Placing.{Placing}
use Rattle.cd_types.specs.declared.rows.Row.{Row}
use Rattle.cd_entries.specs.declared.entry.Entry.{Entry}
use Rattle.cd_entries.specs.declared.entry.Entry.TheVariants as entry
use Rattle.cd_rules.specs.Processes.{submission, live_numbers}

-- in a queue for a reason, due at no moment of its own, after no failed connection
abbrev pub stands : Queue → Reason → ℕ → Placing
stands in_queue why prty = record { queue = in_queue; reason = why; due = 0; attempts = 0; prty = prty }

-- by its start: in Timer until a start that is later than its submission, else in Wait
abbrev pub by_start : ℕ → ℕ → Option ℕ → Placing
by_start prty moment None = stands queue.Wait reason.None prty
by_start prty moment (Some start) =
    if nat_lt moment start then record { queue = queue.Timer; reason = reason.Start; due = start; attempts = 0; prty = prty }
    else stands queue.Wait reason.None prty

-- by HOLD: held for the operator, or for a call of its SNODE
abbrev pub by_hold : Filed → ℕ → Hold → Placing
by_hold card moment hold.Yes = stands queue.Hold reason.Operator card.prty
by_hold card moment hold.Call = stands queue.Hold reason.Call card.prty
by_hold card moment hold.No = by_start card.prty moment card.start

-- by RETAIN: what is kept for its copies stays in Hold
abbrev pub by_retain : Filed → ℕ → Retain → Placing
by_retain card moment retain.No = by_hold card moment card.hold
by_retain card moment _ = stands queue.Hold reason.Retained card.prty

-- where a Process stands when it was submitted
abbrev pub first_placing : Filed → ℕ → Placing
first_placing card moment = by_retain card moment card.retain

-- where a Process stands: as it was last placed, else as when it was submitted
unfoldable pub placing : List Entry → ℕ → Option Placing
placing [] n = None
placing (entry.Placed number placed moment ∷ journal) n = if number == n then Some placed else placing journal n
placing (entry.Submitted number moment origin card text ∷ journal) n = if number == n then Some (first_placing card moment) else placing journal n
placing (e ∷ journal) n = placing journal n

-- its queue at a moment: a Process in Timer whose moment has come counts as in Wait
abbrev pub queue_of : ℕ → ℕ → Queue → Queue
queue_of now due queue.Timer = if nat_le due now then queue.Wait else queue.Timer
queue_of now due other = other

abbrev pub queue_at : ℕ → Placing → Queue
queue_at now placed = queue_of now placed.due placed.queue

-- The choice of the next Process.

abbrev pub runs_in : Queue → Bool
runs_in queue.Wait = true
runs_in queue.Execution = true
runs_in _ = false

-- it stands in Wait or Execution, and is none of the numbers that are busy
abbrev pub is_due : ℕ → List ℕ → Row → Bool
is_due now busy row = runs_in (queue_at now row.placing) && not (list_any (λ n. n == row.number) busy)

-- of a greater priority, or of the same and of a smaller number
abbrev pub goes_before : Row → Row → Bool
goes_before a b = nat_lt b.placing.prty a.placing.prty || (a.placing.prty == b.placing.prty && nat_lt a.number b.number)

-- the row, unless the other one goes before it
abbrev pub the_earlier : Row → Option Row → Row
the_earlier row None = row
the_earlier row (Some other) = if goes_before other row then other else row

-- the row that is due and goes before all others that are
abbrev pub choice : ℕ → List ℕ → List Row → Option Row
choice now busy [] = None
choice now busy (row ∷ rows) = if is_due now busy row then Some (the_earlier row (choice now busy rows)) else choice now busy rows

-- the row of a Process: its number, what its card says, and where it stands
abbrev pub row_made : ℕ → Filed → Placing → Row
row_made n card placed = record { number = n; name = card.name; snode = card.snode; class = card.class; hold = card.hold; retain = card.retain; placing = placed }

abbrev pub row_of : List Entry → ℕ → Option Row
row_of journal n = do
  s ← submission journal n
  placed ← placing journal n
  Some (row_made n s.card placed)

-- the rows of all live Processes, by number
abbrev pub rows : List Entry → List Row
rows journal = filter_map (row_of journal) (live_numbers journal)

-- the Process that is taken next
abbrev pub next_due : List Entry → ℕ → List ℕ → Option Row
next_due journal now busy = choice now busy (rows journal)

-- Retries.

-- how long to wait after a failed connection, in seconds, and how often: first the short time, then the long one
pub record Waits : Type 0 where
  pub short : ℕ
  pub short_attempts : ℕ
  pub long : ℕ
  pub long_attempts : ℕ

-- so many seconds later, and no later than the last moment
abbrev pub after_wait : ℕ → ℕ → ℕ
after_wait now wait = min (now + wait) 249999999999

abbrev pub in_timer : ℕ → ℕ → ℕ → Placing
in_timer due attempts prty = record { queue = queue.Timer; reason = reason.Retry; due = due; attempts = attempts; prty = prty }

-- where a Process stands after so many attempts: in Timer for the short time, then for the long one, and then in Hold
abbrev pub after_attempts : Waits → ℕ → ℕ → ℕ → Placing
after_attempts waits now attempts prty =
    if nat_le attempts waits.short_attempts then in_timer (after_wait now waits.short) attempts prty
    else if nat_le attempts (waits.short_attempts + waits.long_attempts) then in_timer (after_wait now waits.long) attempts prty
    else record { queue = queue.Hold; reason = reason.NoConnect; due = 0; attempts = attempts; prty = prty }

-- one attempt more than where it stood before, counted to 65,535
abbrev pub retried : Waits → ℕ → Placing → Placing
retried waits now before = after_attempts waits now (min (before.attempts + 1) 65535) before.prty
