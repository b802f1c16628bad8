-- The effects with which a session ends.
use Rattle.std.proofs.Common.{◌≡◌, inl, ℕ, ◌≤◌, Bool, true, false, cond, List, [], ◌∷◌, ◌++◌, Option, Some, None, refl, sym, ◌∙◌, ap, subst}
use Rattle.cd_types.specs.declared.rows.Placing.{Placing}
use Rattle.cd_entries.specs.declared.entry.Entry.{Entry}
use Rattle.cd_entries.specs.declared.entry.Entry.TheVariants as entry
use Rattle.cd_frames.specs.Message.{Message}
use Rattle.cd_rules.specs.Processes.{latest, submission}
use Rattle.cd_rules.specs.Queue.{placing, retried}
use Rattle.cd_rules.specs.Legal.{is_legal}
use Rattle.cd_rules.specs.Promises.{HavePriorities}
use Rattle.cd_rules.specs.Steps.{Reading}
use Rattle.cd_protocol.specs.declared.session.Phase.{Phase}
use Rattle.cd_protocol.specs.declared.session.Phase.TheVariants.{Gone}
use Rattle.cd_protocol.specs.Closing.{own_number, key_under_way, waits_for, retry, retry_own, close, trouble_for, trouble}
use Rattle.cd_protocol.specs.Node.{NodeView, Node, Effect, Keep, Go}
use Rattle.cd_protocol.specs.Rows.{are_allowed}
use Rattle.cd_protocol.proofs.RowsLaw.{close_fits, trouble_fits}
use Rattle.cd_effects.specs.Stands.{Spot, WereCut, IsFaultOf, IsFaultOfSending, IsFaultOfAsking, IsFaultOfRecording}
use Rattle.cd_effects.specs.declared.fault.Fault.{Fault}
use Rattle.cd_effects.specs.declared.fault.Fault.TheVariants as fault
use Rattle.cd_exchange.specs.Going.{IsSo, WereStopped, IsFaultOfTelling}
use Rattle.cd_exchange.specs.Question.{Setting, view_with}
use Rattle.cd_exchange.proofs.Way.{view_is}

module _ (setting : Setting) (read : Reading) (now : ℕ) (rule : NodeView → ℕ → Phase → List Effect) (book : List Entry) (effects : List Effect) where
  -- the effects as they were made, of a node that stands so
  pub ends_is : (told : Type 0) (sid : ℕ) (node : Node) (at : Spot) → IsSo told setting read sid node at → book ≡ at.entries → effects ≡ rule (view_with setting read book) now at.phase → effects ≡ rule node.view now (node.sessions.phase sid)
  ends_is told sid node at is same made =
      made ∙ ap (λ (es : List Entry). rule (view_with setting read es) now at.phase) same
      ∙ sym (ap (λ (d : NodeView). rule d now (node.sessions.phase sid)) (view_is setting read at.entries node.view is.config is.stands.journal) ∙ ap (rule (view_with setting read at.entries) now) is.stands.phase)

  -- they may follow
  pub ends_fit : (entries : List Entry) (phase : Phase) → book ≡ entries → effects ≡ rule (view_with setting read book) now phase → are_allowed read now entries (rule (view_with setting read entries) now phase) ≡ true → are_allowed read now entries effects ≡ true
  ends_fit entries phase same made fits =
      subst (λ (ds : List Effect). are_allowed read now entries ds ≡ true) (sym (made ∙ ap (λ (es : List Entry). rule (view_with setting read es) now phase) same)) fits

pub close_may : (setting : Setting) (read : Reading) → HavePriorities read → (now : ℕ) (entries : List Entry) (phase : Phase) → is_legal read entries ≡ true → latest entries ≤ now → are_allowed read now entries (close (view_with setting read entries) now phase) ≡ true
close_may setting read priorities now entries phase legal early = close_fits (view_with setting read entries) priorities legal now early phase

pub trouble_may : (setting : Setting) (read : Reading) → HavePriorities read → (now : ℕ) (entries : List Entry) (phase : Phase) → is_legal read entries ≡ true → latest entries ≤ now → are_allowed read now entries (trouble (view_with setting read entries) now phase) ≡ true
trouble_may setting read priorities now entries phase legal early = trouble_fits (view_with setting read entries) priorities legal now early phase

-- none of them was done
pub none_stopped : (files_told lines_told : Type 0) (sid : ℕ) (effects : List Effect) (fault : Fault) (at : Spot) → IsFaultOfAsking fault → WereStopped files_told lines_told sid effects fault at at
none_stopped files_told lines_told sid effects fault at cause = inl (record { done = []; more = effects; reactions = refl; first = record { node = λ node is. is; traffic = λ told. refl; frames = tt }; cause = cause })

-- Which faults may come in them.

abbrev AllEffects : (Effect → Type 0) → List Effect → Type 0
AllEffects P [] = Unit {0}
AllEffects P (effect ∷ effects) = P effect × AllEffects P effects

all_at : (P : Effect → Type 0) (done more : List Effect) (effect : Effect) → AllEffects P (done ++ effect ∷ more) → P effect
all_at P [] more effect all = all.0
all_at P (first ∷ done) more effect all = all_at P done more effect all.1

-- each fault of the effect is one of recording, or of telling
abbrev OnlyRecords : Effect → Type 0
OnlyRecords effect = (why : Fault) → IsFaultOf effect why → IsFaultOfRecording why

abbrev OnlyTells : Effect → Type 0
OnlyTells effect = (why : Fault) → IsFaultOf effect why → IsFaultOfTelling why

keep_records : (e : Entry) → OnlyRecords (Keep e)
keep_records e fault.Disk is = tt
keep_records e (fault.JournalFull len) is = tt
keep_records e fault.NoMemory is = tt
keep_records e fault.Files is = is
keep_records e fault.Line is = is

close_records : (phase : Phase) → OnlyRecords (Go phase [])
close_records phase why is = absurd is

record_tells : (why : Fault) → IsFaultOfRecording why → IsFaultOfTelling why
record_tells fault.Disk is = tt
record_tells (fault.JournalFull len) is = tt
record_tells fault.NoMemory is = tt
record_tells fault.Files is = is
record_tells fault.Line is = tt

send_tells : (why : Fault) → IsFaultOfSending why → IsFaultOfTelling why
send_tells fault.Disk is = tt
send_tells (fault.JournalFull len) is = tt
send_tells fault.NoMemory is = tt
send_tells fault.Files is = is
send_tells fault.Line is = tt

go_tells : (phase : Phase) (frames : List Message) → OnlyTells (Go phase frames)
go_tells phase [] why is = absurd is
go_tells phase (m ∷ frames) why is = send_tells why is

kept_if : (b : Bool) (e : Entry) (phase : Phase) → AllEffects OnlyRecords (cond b (Keep e ∷ []) [] ++ Go phase [] ∷ [])
kept_if true e phase = (keep_records e, (close_records phase, tt))
kept_if false e phase = (close_records phase, tt)

retry_records : (view : NodeView) (now n : ℕ) (placed : Option Placing) → AllEffects OnlyRecords (retry view now n placed ++ Go Gone [] ∷ [])
retry_records view now n None = (close_records Gone, tt)
retry_records view now n (Some placed) = kept_if _ (entry.Placed n (retried (waits_for view (submission view.journal n)) now placed) now) Gone

own_records : (view : NodeView) (now : ℕ) (own : Option ℕ) → AllEffects OnlyRecords (retry_own view now own ++ Go Gone [] ∷ [])
own_records view now None = (close_records Gone, tt)
own_records view now (Some n) = retry_records view now n (placing view.journal n)

close_all : (view : NodeView) (now : ℕ) (phase : Phase) → AllEffects OnlyRecords (close view now phase)
close_all view now phase = own_records view now (own_number phase)

all_tell : (effects : List Effect) → AllEffects OnlyRecords effects → AllEffects OnlyTells effects
all_tell [] all = tt
all_tell (effect ∷ effects) all = (λ why is. record_tells why (all.0 why is), all_tell effects all.1)

trouble_all : (view : NodeView) (now : ℕ) (phase : Phase) → AllEffects OnlyTells (trouble view now phase)
trouble_all view now phase = (go_tells phase (trouble_for (key_under_way phase)), all_tell (close view now phase) (close_all view now phase))

pub close_fault : (files_told lines_told : Type 0) (sid : ℕ) (effects : List Effect) (why : Fault) (before after : Spot) (view : NodeView) (now : ℕ) (phase : Phase) → effects ≡ close view now phase
    → WereCut files_told lines_told sid effects why before after → IsFaultOfRecording why
close_fault files_told lines_told sid effects why before after view now phase made cut =
    all_at OnlyRecords cut.done cut.more cut.torn (subst (AllEffects OnlyRecords) (sym made ∙ cut.reactions) (close_all view now phase)) why cut.cause

pub trouble_fault : (files_told lines_told : Type 0) (sid : ℕ) (effects : List Effect) (why : Fault) (before after : Spot) (view : NodeView) (now : ℕ) (phase : Phase) → effects ≡ trouble view now phase
    → WereCut files_told lines_told sid effects why before after → IsFaultOfTelling why
trouble_fault files_told lines_told sid effects why before after view now phase made cut =
    all_at OnlyTells cut.done cut.more cut.torn (subst (AllEffects OnlyTells) (sym made ∙ cut.reactions) (trouble_all view now phase)) why cut.cause
