-- Where no device fails, a run does all of its input; where the journal is none, it is turned away.
use Rattle.std.proofs.Common.{◌≡◌, ◌⊎◌, inl, inr, ⊎_elim, ℕ, ◌+◌, ◌^◌, ◌<◌, ◌≤◌, cond, Bool, true, false, List, [], ◌∷◌, ◌++◌, length, map, Option, Some, None, option_to_list, refl, sym, ap, subst, ◌∙◌, arith}
use Rattle.std.specs.Prelude.{All}
use Rattle.std.proofs.lemmas.List.{append-nil}
use Rattle.std.proofs.lemmas.List.Elements.{All-nil, All-cons, All-head, All-tail, All-weaker}
use Rattle.cd_outside.specs.Disk.{DiskState}
use Rattle.cd_outside.specs.Streams.{TookFront}
use Rattle.cd_entries.specs.declared.entry.Entry.{Entry}
use Rattle.cd_entries.specs.Entry.{entry_bytes}
use Rattle.cd_input.specs.Input.{Event}
use Rattle.cd_turn.specs.Ends.{journal_length, FitsBehind, IsFull}
use Rattle.cd_turn.specs.Home.{StandsFor, IsFit, IsUnfit}
use Rattle.cd_turn.specs.Legal.{IsLegal}
use Rattle.cd_turn.specs.Status.{last_line}
use Rattle.cd_commands.specs.declared.command.Command.{Command}
use Rattle.cd_commands.specs.declared.command.Command.TheVariants as command
use Rattle.cd_commands.specs.declared.heard.Heard.{Heard}
use Rattle.cd_commands.specs.declared.heard.Heard.TheVariants as heard
use Rattle.cd_submission.specs.Shown.{show, IsShown}
use Rattle.cd_submission.specs.declared.file.Shown.{Shown}
use Rattle.cd_submission.specs.declared.file.Shown.TheVariants as shows
use Rattle.cd_submission.specs.declared.file.Shown.TheVariants.{Failed}
use Rattle.cd_drill_command.specs.Asked.{Shows}
use Rattle.cd_outside.specs.Shelf.{FileMap}
use Rattle.cd_turn.specs.Order.{drilled, order_of, file_of, heard_in, asked_of}
use Rattle.cd_turn.specs.Turn.{Turn, order_in, added, after_turn, after_turns, replies}
use Rattle.cd_turn.specs.declared.reply.Reply.{Reply}
use Rattle.cd_turn.specs.declared.status.Status.{Status}
use Rattle.cd_turn.specs.declared.status.Status.TheVariants.{Done, Usage, Refused, Unfit, SourceFault, DiskFault, SinkFault, InputLimit, JournalFull, NoMemory}
use Rattle.cd_turn.proofs.Fit.{fit_apart, one_list}
use Rattle.cd_cli.specs.Complete.{turn_at, turns_at, IsWhole, Completes, TurnsAway}
use Rattle.cd_cli.proofs.Going.{ended_weaker}
use Rattle.cd_cli.proofs.Since.{goes_whole}
use Rattle.cd_cli.specs.Told.{GoesBy}
use Rattle.cd_cli.specs.Run.{most_input, run_events, texts, refused_after, OfBegun, EachFits, EndedBy, IsOpening, Ran, NotOpened, Opened, TookLine, Served}

abbrev event_in : Turn → Event
event_in turn = turn.event

all_front : (by : Turn → Type 0) (xs ys : List Turn) → All by (xs ++ ys) → All by xs
all_front by [] ys h = All-nil by
all_front by (x ∷ xs) ys h = All-cons by x xs (All-head by x (xs ++ ys) h) (all_front by xs ys (All-tail by x (xs ++ ys) h))

-- a drill adds nothing
drill_adds : (entries : List Entry) (now : ℕ) (name : List ℕ) (shown : Shown) → added entries now (drilled name shown) ≡ None
drill_adds entries now name shows.Missing = refl
drill_adds entries now name shows.Failed = refl
drill_adds entries now name (shows.Long len) = refl
drill_adds entries now name (shows.Text text) = refl
drill_adds entries now name (shows.Report report) = refl
drill_adds entries now name (shows.NoScript at) = refl

-- Where clock and files tell, and the files didn't fail, a turn adds what the turn of its event adds.
module _ (clock files : Type 0) (moment : ℕ) (held : FileMap) (rose : Type 0) (tells_clock : clock) (tells_files : files) (no_fault : rose → ⊥) where
  abbrev By : Turn → Type 0
  By = GoesBy clock files moment held rose

  abbrev AddsAlike : Heard → ℕ → Shown → Type 0
  AddsAlike said now shown = (entries : List Entry) → added entries now (order_of said shown) ≡ added entries moment (order_of said (show (asked_of held (file_of said))))

  -- it was shown what the files hold
  read_adds : (said : Heard) (now : ℕ) (shown : Shown) → now ≡ moment → (shown ≡ Failed → ⊥) → (files → IsShown (asked_of held (file_of said)) shown) → AddsAlike said now shown
  read_adds said now shown at sound h =
      let is : shown ≡ show (asked_of held (file_of said)) = ⊎_elim (λ (failed : shown ≡ Failed). absurd (sound failed)) (λ (is : shown ≡ show (asked_of held (file_of said))). is) (h tells_files) in
      λ entries i. added entries (at i) (order_of said (is i))

  command_adds : (c : Command) (now : ℕ) (shown : Shown) → now ≡ moment → (shown ≡ Failed → ⊥) → Shows files held (heard.Command c) shown → AddsAlike (heard.Command c) now shown
  command_adds (command.Init name home) now shown at sound h = read_adds (heard.Command (command.Init name home)) now shown at sound h
  command_adds (command.SubmitFile name options) now shown at sound h = read_adds (heard.Command (command.SubmitFile name options)) now shown at sound h
  command_adds (command.SubmitText p options) now shown at sound h = read_adds (heard.Command (command.SubmitText p options)) now shown at sound h
  command_adds (command.View name symbols) now shown at sound h = read_adds (heard.Command (command.View name symbols)) now shown at sound h
  command_adds (command.SelectProcess n queue) now shown at sound h = read_adds (heard.Command (command.SelectProcess n queue)) now shown at sound h
  command_adds (command.Change n prty hold release) now shown at sound h = read_adds (heard.Command (command.Change n prty hold release)) now shown at sound h
  command_adds (command.Delete n) now shown at sound h = read_adds (heard.Command (command.Delete n)) now shown at sound h
  command_adds (command.Flush n) now shown at sound h = read_adds (heard.Command (command.Flush n)) now shown at sound h
  command_adds (command.SelectStatistics n) now shown at sound h = read_adds (heard.Command (command.SelectStatistics n)) now shown at sound h
  command_adds (command.ReleaseReceive file) now shown at sound h = read_adds (heard.Command (command.ReleaseReceive file)) now shown at sound h
  command_adds (command.Work sessions turns) now shown at sound h = read_adds (heard.Command (command.Work sessions turns)) now shown at sound h
  command_adds (command.Serve sessions together turns) now shown at sound h = read_adds (heard.Command (command.Serve sessions together turns)) now shown at sound h
  command_adds (command.Drill name) now shown at sound h = λ entries. drill_adds entries now name shown
  command_adds (command.Generate seed count) now shown at sound h = read_adds (heard.Command (command.Generate seed count)) now shown at sound h
  command_adds command.Stop now shown at sound h = read_adds (heard.Command command.Stop) now shown at sound h

  heard_adds : (said : Heard) (now : ℕ) (shown : Shown) → now ≡ moment → (shown ≡ Failed → ⊥) → Shows files held said shown → AddsAlike said now shown
  heard_adds (heard.Command c) now shown at sound h = command_adds c now shown at sound h
  heard_adds (heard.Fault name place) now shown at sound h = read_adds (heard.Fault name place) now shown at sound h

  adds : (entries : List Entry) (turn : Turn) → By turn → added entries turn.now (order_in turn) ≡ added entries moment (order_in (turn_at moment held turn.event))
  adds entries turn goes = heard_adds (heard_in turn.event) turn.now turn.shown (goes.moment_is tells_clock) (λ failed. no_fault (goes.failed failed)) goes.shown_is entries

  -- an entry under way fits where each does that turns of the events add
  fits_at : (entries : List Entry) (turns : List Turn) (turn : Turn) (more : List Event) → All By (turns ++ turn ∷ []) → EachFits entries (turns_at moment held (map event_in turns ++ (turn.event ∷ more)))
      → FitsBehind (after_turns entries turns) (added (after_turns entries turns) turn.now (order_in turn))
  fits_at entries [] turn more all h = subst (FitsBehind entries) (sym (adds entries turn (All-head By turn [] all))) h.0
  fits_at entries (t ∷ turns) turn more all h =
      let same : after_turn entries (turn_at moment held t.event) ≡ after_turn entries t = ap (λ (e : Option Entry). entries ++ option_to_list e) (sym (adds entries t (All-head By t (turns ++ turn ∷ []) all))) in
      fits_at (after_turn entries t) turns turn more (All-tail By t (turns ++ turn ∷ []) all)
      (subst (λ (es : List Entry). EachFits es (turns_at moment held (map event_in turns ++ (turn.event ∷ more)))) same h.1)

full_fits : (told : Type 0) (entries : List Entry) (entry : Option Entry) (len : ℕ) → told → IsFull told entries entry len → FitsBehind entries entry → ⊥
full_fits told entries entry len t full fits =
    let small : journal_length entries + 5 + length (entry_bytes full.0) ≤ 2 ^ 30 = subst (FitsBehind entries) full.1 fits in
    let large = full.2 in
    let same = full.3 t in
    omega arith

module _ (disk clock files source sink rose_disk rose_files rose_in rose_out : Type 0) (moment : ℕ) (held : FileMap) (before now : DiskState) (input rest out : List ℕ) (tells_disk : disk) (tells_clock : clock) (tells_files : files) (tells_source : source) (tells_sink : sink)
    (kept : List Entry) (stood : StandsFor before.seen kept) (legal : IsLegal kept) (small : length input ≤ most_input) (no_disk : rose_disk → ⊥) (no_files : rose_files → ⊥) (no_in : rose_in → ⊥) (no_out : rose_out → ⊥) where
  abbrev Goes : Turn → Type 0
  Goes = GoesBy clock files moment held rose_files

  abbrev Why : Status → Type 0
  Why status = EndedBy rose_disk (λ at. disk → IsUnfit before.seen at) rose_in rose_out status

  never_opened : (status : Status) → IsOpening status → Why status → status ≡ NoMemory
  never_opened Done opening why = absurd opening
  never_opened Usage opening why = absurd opening
  never_opened Refused opening why = absurd opening
  never_opened (Unfit at) opening why = absurd (fit_apart before.seen at (kept, stood, legal) (why tells_disk))
  never_opened DiskFault opening why = absurd (no_disk why)
  never_opened (JournalFull len) opening why = absurd opening
  never_opened SourceFault opening why = absurd opening
  never_opened SinkFault opening why = absurd opening
  never_opened InputLimit opening why = absurd opening
  never_opened NoMemory opening why = refl

  module _ (entries : List Entry) (told out_now : List ℕ) (fits : EachFits entries (turns_at moment held (run_events input))) where
    abbrev Whole : Status → Type 0
    Whole status = (status ≡ NoMemory) ⊎ IsWhole moment held entries input out out_now status

    abbrev Came : Status → Type 0
    Came status = Ran (before.seen ≡ []) disk source sink Goes entries out input rest now told status

    -- all turns of the input were made
    whole : (turns : List Turn) (begun : Option Turn) (was : Bool) → All Goes (turns ++ option_to_list begun) → map event_in turns ≡ run_events input → refused_after false (replies entries turns) ≡ was
        → told ≡ out ++ texts (replies entries turns) → out_now ≡ told ++ [] → IsWhole moment held entries input out out_now (cond was Refused Done)
    whole turns begun was at events refused output last = record {
      turns = turns;
      events_are = events;
      told = All-weaker Goes (GoesBy (Unit {0}) (Unit {0}) moment held ⊥) (goes_whole clock files moment held rose_files tells_clock tells_files no_files) turns (all_front Goes turns (option_to_list begun) at);
      status_is = sym (ap (λ (b : Bool). cond b Refused Done) refused);
      out_is = last ∙ append-nil told ∙ output;
    }

    -- the entry under way fits
    not_full : (turns : List Turn) (turn : Turn) (more : List Event) (len : ℕ) → All Goes (turns ++ turn ∷ []) → run_events input ≡ map event_in turns ++ (turn.event ∷ more)
        → IsFull disk (after_turns entries turns) (added (after_turns entries turns) turn.now (order_in turn)) len → ⊥
    not_full turns turn more len at events full =
        full_fits disk (after_turns entries turns) (added (after_turns entries turns) turn.now (order_in turn)) len tells_disk full
        (fits_at clock files moment held rose_files tells_clock tells_files no_files entries turns turn more at (subst (λ (es : List Event). EachFits entries (turns_at moment held es)) events fits))

    full_never : (len : ℕ) → Came (JournalFull len) → ⊥
    full_never len r = by_begun r.turns r.begun r.cause r.told (r.events tells_source)
      where
        by_begun : (turns : List Turn) (begun : Option Turn) → OfBegun (after_turns entries turns) begun (λ entry. IsFull disk (after_turns entries turns) entry len) → All Goes (turns ++ option_to_list begun)
            → (more : List Event) × (run_events input ≡ map event_in turns ++ (map event_in (option_to_list begun) ++ more)) → ⊥
        by_begun turns None cause at events = cause
        by_begun turns (Some turn) cause at events = not_full turns turn events.0 len at events.1 cause

    ran_whole : (status : Status) → Came status → out_now ≡ told ++ last_line status → Why status → Whole status
    ran_whole Done r last why = inr (whole r.turns r.begun false r.told (r.events tells_source).0 r.cause.1 (r.output tells_sink) last)
    ran_whole Usage r last why = absurd r.cause
    ran_whole Refused r last why = inr (whole r.turns r.begun true r.told (r.events tells_source).0 r.cause.1 (r.output tells_sink) last)
    ran_whole (Unfit at) r last why = absurd (r.cause tells_disk)
    ran_whole DiskFault r last why = absurd (no_disk why)
    ran_whole (JournalFull len) r last why = absurd (full_never len r)
    ran_whole SourceFault r last why = absurd (no_in why)
    ran_whole SinkFault r last why = absurd (no_out why)
    ran_whole InputLimit r last why = let long = (r.events tells_source).2 in absurd (omega arith)
    ran_whole NoMemory r last why = inl refl

  -- the line was written
  took_whole : (told line out_now : List ℕ) → TookLine rose_out told line out_now → out_now ≡ told ++ line
  took_whole told line out_now took = ⊎_elim (λ (h : out_now ≡ told ++ line). h) (λ (h : rose_out × TookFront told line out_now). absurd (no_out h.0)) took

  pub served_completes : EachFits kept (turns_at moment held (run_events input)) → (out_now : List ℕ) (status : Status) → Why status → Served disk source sink rose_out Goes before now input rest out out_now status → Completes moment held kept input out out_now status
  served_completes fits out_now status why served = ⊎_elim
      (λ (none : NotOpened disk source sink before now input rest out served.told status). inl (never_opened status none.opening why))
      (λ (o : Opened disk source sink Goes before now input rest out served.told status).
      let same : kept ≡ o.entries = one_list before.seen kept o.entries stood legal (o.stood tells_disk) o.legal in
      subst (λ (entries : List Entry). Completes moment held entries input out out_now status) (sym same)
      (ran_whole o.entries served.told out_now (subst (λ (entries : List Entry). EachFits entries (turns_at moment held (run_events input))) same fits) status o.ran
      (took_whole served.told (last_line status) out_now (served.last tells_sink)) why))
      served.came

-- a home couldn't be opened
away : (rose_disk : Type 0) (unfit : ℕ → Type 0) (rose_in rose_out : Type 0) (status : Status) → IsOpening status → EndedBy rose_disk unfit rose_in rose_out status → TurnsAway unfit rose_disk status
away rose_disk unfit rose_in rose_out Done opening why = absurd opening
away rose_disk unfit rose_in rose_out Usage opening why = absurd opening
away rose_disk unfit rose_in rose_out Refused opening why = absurd opening
away rose_disk unfit rose_in rose_out (Unfit at) opening why = why
away rose_disk unfit rose_in rose_out DiskFault opening why = why
away rose_disk unfit rose_in rose_out (JournalFull len) opening why = absurd opening
away rose_disk unfit rose_in rose_out SourceFault opening why = absurd opening
away rose_disk unfit rose_in rose_out SinkFault opening why = absurd opening
away rose_disk unfit rose_in rose_out InputLimit opening why = absurd opening
away rose_disk unfit rose_in rose_out NoMemory opening why = tt

-- what is said of a place where the disk tells is said of it
unfit_told : (disk rose_disk rose_in rose_out : Type 0) (unfit : ℕ → Type 0) (status : Status) → disk → EndedBy rose_disk (λ at. disk → unfit at) rose_in rose_out status → EndedBy rose_disk unfit rose_in rose_out status
unfit_told disk rose_disk rose_in rose_out unfit status told why = ended_weaker rose_disk rose_disk (λ at. disk → unfit at) unfit rose_in rose_in rose_out rose_out (λ h. h) (λ at h. h told) (λ h. h) (λ h. h) status why

pub served_away : (disk source sink rose_disk rose_in rose_out : Type 0) (by : Turn → Type 0) (before now : DiskState) (input rest out out_now : List ℕ) (status : Status) → disk → (IsFit before.seen → ⊥)
    → EndedBy rose_disk (λ at. disk → IsUnfit before.seen at) rose_in rose_out status → Served disk source sink rose_out by before now input rest out out_now status → TurnsAway (IsUnfit before.seen) rose_disk status
served_away disk source sink rose_disk rose_in rose_out by before now input rest out out_now status told no_fit why served = ⊎_elim
    (λ (none : NotOpened disk source sink before now input rest out served.told status).
    away rose_disk (IsUnfit before.seen) rose_in rose_out status none.opening (unfit_told disk rose_disk rose_in rose_out (IsUnfit before.seen) status told why))
    (λ (o : Opened disk source sink by before now input rest out served.told status). absurd (no_fit (o.entries, o.stood told, o.legal)))
    served.came
