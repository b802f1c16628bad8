-- Which entries may follow which. A journal is the list of its entries, the newest first. `read` gives the Process whose
-- canonical text this is, where there is one.
use Rattle.std.specs.Prelude.{ℕ, ◌+◌, ◌*◌, ◌/◌, List, [], ◌∷◌, length, sum_by, Bool, true, false, not, ◌&&◌, ◌||◌, ◌==◌, nat_le, nat_lt, is_none, Option, Some, None}
use Rattle.std.specs.List.{list_all}
use Rattle.std.specs.Str.{bytes_eq}
use Rattle.cd_types.specs.Choices.{hold_code, retain_code, disp_code, cause_code}
use Rattle.cd_types.specs.Compound.{flag}
use Rattle.cd_types.specs.declared.card.Filed.{Filed}
use Rattle.cd_types.specs.declared.choices.Cause.{Cause}
use Rattle.cd_types.specs.declared.choices.Cause.TheVariants as cause
use Rattle.cd_types.specs.declared.choices.Disp.{Disp}
use Rattle.cd_types.specs.declared.choices.Disp.TheVariants as disp
use Rattle.cd_types.specs.declared.choices.How.{How}
use Rattle.cd_types.specs.declared.choices.How.TheVariants as how
use Rattle.cd_types.specs.declared.choices.Queue.{Queue}
use Rattle.cd_types.specs.declared.choices.Queue.TheVariants as queue
use Rattle.cd_types.specs.declared.choices.Reason.{Reason}
use Rattle.cd_types.specs.declared.choices.Reason.TheVariants as reason
use Rattle.cd_types.specs.declared.choices.TaskKind.{TaskKind}
use Rattle.cd_types.specs.declared.choices.TaskKind.TheVariants as task_kind
use Rattle.cd_types.specs.declared.key.Key.{Key}
use Rattle.cd_types.specs.declared.rows.Outcomes.{Outcomes}
use Rattle.cd_types.specs.declared.rows.Placing.{Placing}
use Rattle.cd_types.specs.declared.rows.Receiving.{Receiving}
use Rattle.cd_entries.specs.declared.entry.Entry.{Entry}
use Rattle.cd_entries.specs.declared.entry.Entry.TheVariants as entry
use Rattle.cd_ast.specs.declared.process.Process.{Process}
use Rattle.cd_ast.specs.declared.process.What.{What}
use Rattle.cd_ast.specs.declared.process.What.TheVariants as what
use Rattle.cd_rules.specs.Openings.{is_in_use, is_receiving_for}
use Rattle.cd_rules.specs.Processes.{own_home, submitted, made_for, is_live, live_numbers, moment_of, latest, is_forgotten, is_over}
use Rattle.cd_rules.specs.Queue.{placing, queue_at}
use Rattle.cd_rules.specs.Status.{Status, Fresh, Started, Open, Done, status, outcome}
use Rattle.cd_rules.specs.Steps.{Reading, stmts_of, next_place, what_at, runs_itself, pnode_keeps, is_run_of, is_pull_of, fits_own}

abbrev pub is_empty : List Entry → Bool
is_empty [] = true
is_empty (e ∷ journal) = false

-- moments don't fall
abbrev pub is_from : ℕ → Option ℕ → Bool
is_from earliest None = true
is_from earliest (Some moment) = nat_le earliest moment

-- A submission.

abbrev pub is_snode_of : List ℕ → Option (List ℕ) → Bool
is_snode_of name None = false
is_snode_of name (Some own) = bytes_eq name own

-- the card is that of the Process, which names a partner
abbrev pub is_card_of : Filed → Process → Bool
is_card_of card process =
    bytes_eq card.name process.name && is_snode_of card.snode process.card.snode && card.prty == process.card.prty && card.class == process.card.class
    && hold_code card.hold == hold_code process.card.hold && retain_code card.retain == retain_code process.card.retain

abbrev pub is_given : Option ℕ → Bool
is_given None = false
is_given (Some interval) = true

-- a COPY says its interval
abbrev pub says_interval : What → Bool
says_interval (what.Copy step) = is_given step.ckpt
says_interval _ = true

-- the bytes of the values that a SUBMIT gives to names, as they are sent
abbrev pub symbols_size : List (List ℕ × List ℕ) → ℕ
symbols_size symbols = 2 + sum_by (λ pair. 5 + length pair.0 + length pair.1) symbols

-- a SUBMIT gives at most 120,000 bytes of them
abbrev pub has_small_symbols : What → Bool
has_small_symbols (what.Submit step) = nat_le (symbols_size step.symbols) 120000
has_small_symbols _ = true

-- the card goes with the Process, each COPY has an interval, and the values of each SUBMIT are few enough
abbrev pub is_filed : Filed → Option Process → Bool
is_filed card None = false
is_filed card (Some process) =
    is_card_of card process && list_all (λ s. says_interval s.what && has_small_symbols s.what) process.stmts

-- no step submits twice
abbrev pub is_new_origin : List Entry → Option Key → Bool
is_new_origin journal None = true
is_new_origin journal (Some key) = is_none (made_for journal key)

abbrev pub may_submit : Reading → List Entry → ℕ → Option Key → Filed → List ℕ → Bool
may_submit read journal n origin card text =
    n == submitted journal + 1 && nat_le n 99999
    && nat_lt (length (live_numbers journal)) 4096
    && nat_le (length text) 200000
    && is_filed card (read text)
    && is_new_origin journal origin

-- A placing.

-- the reasons that go with a queue
abbrev pub is_reason_in : Queue → Reason → Bool
is_reason_in queue.Execution reason.Running = true
is_reason_in queue.Wait reason.None = true
is_reason_in queue.Timer reason.Start = true
is_reason_in queue.Timer reason.Retry = true
is_reason_in queue.Hold reason.Operator = true
is_reason_in queue.Hold reason.Call = true
is_reason_in queue.Hold reason.Retained = true
is_reason_in queue.Hold reason.NoConnect = true
is_reason_in queue.Hold reason.UnknownNode = true
is_reason_in queue.Hold reason.Rejected = true
is_reason_in _ _ = false

abbrev pub is_hold : Queue → Bool
is_hold queue.Hold = true
is_hold _ = false

-- what is kept for its copies leaves Hold never
abbrev pub may_place : List Entry → ℕ → Placing → Bool
may_place journal n placed =
    is_live journal n
    && is_reason_in placed.queue placed.reason
    && nat_le 1 placed.prty && nat_le placed.prty 15
    && (runs_itself journal n || is_hold placed.queue)

-- A start of a task or a job.

abbrev pub is_restarted : TaskKind → Bool
is_restarted task_kind.Restart = true
is_restarted _ = false

-- the first start, or one more of a task with restart that had no other starts
abbrev pub may_start_from : Status → TaskKind → ℕ → Bool
may_start_from Fresh kind try = try == 1
may_start_from (Started tries last) kind try = try == tries + 1 && is_restarted last && is_restarted kind
may_start_from (Open r mark) kind try = false
may_start_from (Done o) kind try = false

abbrev pub may_start : Reading → List Entry → Key → TaskKind → ℕ → Bool
may_start read journal key kind try =
    may_start_from (status journal key) kind try
    && not (is_over journal key)
    && fits_own read journal key (is_run_of kind)

-- A receiving.

-- the same receiving with another length
abbrev pub is_resized : Receiving → Receiving → Bool
is_resized before r =
    bytes_eq r.name before.name && disp_code r.disp == disp_code before.disp && flag r.there == flag before.there && r.base == before.base
    && r.interval == before.interval && not (r.length == before.length)

-- of a step that was never started, or that is being received with another length
abbrev pub may_receive_from : Status → Receiving → Bool
may_receive_from Fresh r = true
may_receive_from (Started tries kind) r = false
may_receive_from (Open before mark) r = is_resized before r
may_receive_from (Done o) r = false

-- NEW has no file before it, and only MOD with a file before it keeps bytes
abbrev pub is_base_of : Disp → Bool → ℕ → Bool
is_base_of disp.New there base = not there && base == 0
is_base_of disp.Rpl there base = base == 0
is_base_of disp.Mod there base = there || base == 0

-- the greatest length of a file
abbrev pub greatest_file : ℕ
greatest_file = 1099511627776

abbrev pub may_receive : Reading → List Entry → Receiving → Bool
may_receive read journal r =
    may_receive_from (status journal r.key) r
    && not (is_over journal r.key)
    && not (is_in_use journal r.key r.name)
    && is_base_of r.disp r.there r.base
    && nat_le (r.base + r.length) greatest_file
    && fits_own read journal r.key (is_pull_of r)

-- A mark.

-- back to 0, or one interval further and within the length
abbrev pub may_mark_from : Status → ℕ → Bool
may_mark_from (Open r mark) offset = offset == 0 || (not (r.interval == 0) && offset == mark + r.interval && nat_le offset r.length)
may_mark_from _ offset = false

-- An outcome.

-- the causes with their codes; Released and Trouble are none of a Result
abbrev pub is_code_of : Cause → ℕ → Bool
is_code_of cause.None rc = true
is_code_of cause.NotStarted rc = rc == 16
is_code_of cause.Killed rc = rc == 16
is_code_of cause.Released rc = false
is_code_of cause.Trouble rc = false
is_code_of _ rc = rc == 8

-- the starts that go with a cause: None (where no Process was made), NotStarted and Killed are of a command that was
-- started, Interrupted of one whose last start isn't made again, and all others of a step that was never started
abbrev pub is_cause_from : Status → Cause → ℕ → Bool
is_cause_from (Started tries last) cause.None made = made == 0
is_cause_from (Started tries last) cause.NotStarted made = true
is_cause_from (Started tries last) cause.Killed made = true
is_cause_from (Started tries last) cause.Interrupted made = not (is_restarted last)
is_cause_from (Started tries last) _ made = false
is_cause_from Fresh cause.None made = not (made == 0)
is_cause_from Fresh cause.NotStarted made = false
is_cause_from Fresh cause.Killed made = false
is_cause_from Fresh cause.Interrupted made = false
is_cause_from Fresh _ made = true
is_cause_from (Open r mark) _ made = false
is_cause_from (Done o) _ made = false

-- the number of the Process that the step made, with the code 0, and 0 where it made none
abbrev pub is_made : Option ℕ → Outcomes → Bool
is_made None o = o.made == 0
is_made (Some number) o = o.made == number && o.rc == 0

-- of a step without a receiving
abbrev pub may_answer : List Entry → Key → Status → Outcomes → Bool
may_answer journal key s o =
    not (is_over journal key)
    && o.bytes == 0
    && is_made (made_for journal key) o
    && is_cause_from s o.cause o.made
    && is_code_of o.cause o.rc

-- the last mark that a file of this length has
abbrev pub last_mark : ℕ → ℕ → ℕ
last_mark interval length = length / interval * interval

-- of a receiving: all bytes came, and the mark is the last one
abbrev pub may_land : Receiving → ℕ → Outcomes → Bool
may_land r mark o =
    o.rc == 0 && cause_code o.cause == 0 && o.made == 0 && o.bytes == r.length
    && (r.interval == 0 || mark == last_mark r.interval r.length)

abbrev pub may_end_from : List Entry → Key → Status → Outcomes → Bool
may_end_from journal key Fresh o = may_answer journal key Fresh o
may_end_from journal key (Started tries kind) o = may_answer journal key (Started tries kind) o
may_end_from journal key (Open r mark) o = may_land r mark o
may_end_from journal key (Done before) o = false

abbrev pub may_result : Reading → List Entry → Key → Outcomes → Bool
may_result read journal key o = may_end_from journal key (status journal key) o && fits_own read journal key pnode_keeps

-- A dropped file.

abbrev pub is_dropping : Cause → Bool
is_dropping cause.Released = true
is_dropping cause.NoSource = true
is_dropping cause.SourceChanged = true
is_dropping cause.TooLarge = true
is_dropping _ = false

abbrev pub may_drop_from : Status → ℕ → Cause → Bool
may_drop_from (Open r mark) rc why = mark == 0 && rc == 8 && is_dropping why
may_drop_from _ rc why = false

-- The end of a step.

abbrev pub is_outcome : ℕ → Cause → ℕ → Option Outcomes → Bool
is_outcome rc why bytes None = false
is_outcome rc why bytes (Some o) = o.rc == rc && cause_code o.cause == cause_code why && o.bytes == bytes

-- the step of this node's Process
abbrev pub own_outcome : List Entry → Option (List ℕ × ℕ) → ℕ → ℕ → Option Outcomes
own_outcome journal None n place = None
own_outcome journal (Some own) n place = outcome journal (record { pnode = own.0; home = own.1; number = n; place = place })

-- where this node is the step's keeper, it is the outcome that it kept
abbrev pub is_kept_outcome : List Entry → ℕ → ℕ → ℕ → Cause → ℕ → Option What → Bool
is_kept_outcome journal n place rc why bytes None = false
is_kept_outcome journal n place rc why bytes (Some s) = not (pnode_keeps s) || is_outcome rc why bytes (own_outcome journal (own_home journal) n place)

abbrev pub may_end : Reading → List Entry → ℕ → ℕ → ℕ → Cause → ℕ → Bool
may_end read journal n place rc why bytes =
    is_live journal n
    && runs_itself journal n
    && place == next_place read journal n
    && nat_lt place (length (stmts_of read journal n))
    && is_kept_outcome journal n place rc why bytes (what_at read journal n place)

-- The end of a Process.

abbrev pub is_execution : Queue → Bool
is_execution queue.Execution = true
is_execution _ = false

-- it stands in Execution at this moment
abbrev pub is_running : ℕ → Option Placing → Bool
is_running now None = false
is_running now (Some placed) = is_execution (queue_at now placed)

-- finished at the end of its statements, flushed while it ran, deleted while it did not
abbrev pub may_close_so : Reading → List Entry → ℕ → How → ℕ → Bool
may_close_so read journal n how.Finished moment = runs_itself journal n && next_place read journal n == length (stmts_of read journal n)
may_close_so read journal n how.Flushed moment = is_running moment (placing journal n)
may_close_so read journal n how.Deleted moment = not (is_running moment (placing journal n))

-- Another node's Process that is over.

-- its home isn't this node's, it wasn't forgotten before, and no file is being received for it
abbrev pub is_own_identity : ℕ → Option (List ℕ × ℕ) → Bool
is_own_identity home None = false
is_own_identity home (Some own) = home == own.1

abbrev pub may_forget : List Entry → List ℕ → ℕ → ℕ → Bool
may_forget journal name home n =
    not (is_own_identity home (own_home journal)) && not (is_forgotten journal name home n) && not (is_receiving_for journal name home n)

-- Legality.

-- what the kind of an entry asks for
abbrev pub may_follow : Reading → List Entry → Entry → Bool
may_follow read journal (entry.Home name home) = is_empty journal
may_follow read journal (entry.Submitted n moment origin card text) = may_submit read journal n origin card text
may_follow read journal (entry.Placed n placed moment) = may_place journal n placed
may_follow read journal (entry.Started key kind try moment) = may_start read journal key kind try
may_follow read journal (entry.Receiving r) = may_receive read journal r
may_follow read journal (entry.Mark key offset) = may_mark_from (status journal key) offset
may_follow read journal (entry.Result key o moment) = may_result read journal key o
may_follow read journal (entry.Ended n place rc why bytes moment) = may_end read journal n place rc why bytes
may_follow read journal (entry.Closed n how moment) = is_live journal n && may_close_so read journal n how moment
may_follow read journal (entry.Forgot name home n) = may_forget journal name home n
may_follow read journal (entry.Dropped key rc why moment) = may_drop_from (status journal key) rc why

abbrev pub is_first : Entry → Bool
is_first (entry.Home name home) = true
is_first _ = false

-- an entry may follow a journal: the home comes first and only there, moments don't fall, and its kind allows it
unfoldable pub allowed : Reading → List Entry → Entry → Bool
allowed read journal e = (is_first e || not (is_empty journal)) && is_from (latest journal) (moment_of e) && may_follow read journal e

-- each entry may follow those before it
unfoldable pub is_legal : Reading → List Entry → Bool
is_legal read [] = true
is_legal read (e ∷ journal) = is_legal read journal && allowed read journal e
