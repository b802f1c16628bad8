-- Receiving a file: from the first entry to the outcome.
use Rattle.std.specs.Prelude.{ℕ, ◌+◌, ◌%◌, List, [], ◌∷◌, ◌++◌, length, Bool, true, false, not, ◌&&◌, ◌||◌, ◌==◌, nat_le, Option, Some, None, if◌then◌else◌}
use Rattle.std.specs.Str.{bytes_eq}
use Rattle.cd_types.specs.Choices.{disp_code}
use Rattle.cd_types.specs.declared.choices.Cause.{Cause}
use Rattle.cd_types.specs.declared.choices.Cause.TheVariants as cause
use Rattle.cd_types.specs.declared.choices.Disp.{Disp}
use Rattle.cd_types.specs.declared.choices.Disp.TheVariants as disp
use Rattle.cd_types.specs.declared.choices.Side.{Side}
use Rattle.cd_types.specs.declared.choices.Side.TheVariants as side
use Rattle.cd_types.specs.declared.key.Key.{Key}
use Rattle.cd_types.specs.declared.rows.Outcomes.{Outcomes}
use Rattle.cd_types.specs.declared.rows.Receiving.{Receiving}
use Rattle.cd_entries.specs.declared.entry.Entry.TheVariants as entry
use Rattle.cd_frames.specs.Message as message
use Rattle.cd_outside.specs.Shelf.{FileChange, WriteFile, CutFile, SyncFile, RemoveFile}
use Rattle.cd_rules.specs.Openings.{is_in_use}
use Rattle.cd_rules.specs.Status as status
use Rattle.cd_rules.specs.Status.{Status}
use Rattle.cd_rules.specs.Legal.{greatest_file}
use Rattle.cd_protocol.specs.declared.session.SessionTerms.{SessionTerms}
use Rattle.cd_protocol.specs.declared.session.Announced.{Announced}
use Rattle.cd_protocol.specs.declared.session.Phase.{Phase}
use Rattle.cd_protocol.specs.declared.session.Phase.TheVariants.{Ready, Take}
use Rattle.cd_protocol.specs.declared.session.Continuation.TheVariants.{Undo, Onto}
use Rattle.cd_protocol.specs.Node.{NodeView, Effect, Keep, Touch, Go, Reaction, only, behind}
use Rattle.cd_protocol.specs.Closing.{close}
use Rattle.cd_protocol.specs.Sending.{settled}

-- Outcomes.

-- a step that isn't done, with its cause
abbrev pub failed : Cause → Outcomes
failed why = record { rc = 8; cause = why; bytes = 0; made = 0 }

-- its outcome is recorded
abbrev pub answer : Side → SessionTerms → Key → Outcomes → ℕ → Reaction
answer role terms key o now = behind (Keep (entry.Result key o now)) (settled role terms key o)

-- Dropping back.

-- what undoes a receiving: a file that wasn't there goes, and one that was there gets its old length, or none with RPL
abbrev pub undo : Receiving → Disp → FileChange
undo r disp.New = RemoveFile r.name
undo r disp.Rpl = CutFile r.name 0
undo r disp.Mod = if r.there then CutFile r.name r.base else RemoveFile r.name

-- no mark any more; then the file as it was and synced, and then the outcome
abbrev pub drop_back : Side → SessionTerms → Key → Cause → Reaction
drop_back role terms key why = record { effects = Keep (entry.Mark key 0) ∷ []; later = Undo role terms key why }

abbrev pub undone : NodeView → ℕ → Phase → Side → SessionTerms → Key → Cause → Status → Reaction
undone view now phase role terms key why (status.Open r safe) =
    behind (Touch (undo r r.disp)) (behind (Touch (SyncFile r.name)) (behind (Keep (entry.Dropped key 8 why now)) (settled role terms key (failed why))))
undone view now phase role terms key why _ = only (close view now phase)

-- the sender gave up: an open receiving is dropped back, else the step has its cause
abbrev pub given_up : Side → SessionTerms → Key → Cause → ℕ → Status → Reaction
given_up role terms key why now (status.Open r safe) = drop_back role terms key why
given_up role terms key why now _ = answer role terms key (failed why) now

-- The begin of a receiving.

-- the file is cut to what is safe of it and synced, and the partner sends from there on
abbrev pub resume : Side → SessionTerms → Receiving → ℕ → Reaction
resume role terms r safe = only (Touch (CutFile r.name (r.base + safe)) ∷ Touch (SyncFile r.name) ∷ Go (Take role terms r.key safe) (message.Ready r.key safe ∷ []) ∷ [])

abbrev pub receive_anew : Side → SessionTerms → Receiving → Reaction
receive_anew role terms r = behind (Keep (entry.Receiving r)) (resume role terms r 0)

abbrev pub is_same_receiving : Receiving → Announced → Bool
is_same_receiving r a = bytes_eq r.name a.name && disp_code r.disp == disp_code a.disp && r.interval == a.interval

-- of a receiving that is open: the same goes on, with another length from its beginning on
abbrev pub receive_again : NodeView → ℕ → Phase → Side → SessionTerms → Receiving → ℕ → Announced → Reaction
receive_again view now phase role terms r safe a =
    if not (is_same_receiving r a) then only (close view now phase)
    else if a.length == r.length then resume role terms r safe
    else if nat_le (r.base + a.length) greatest_file then receive_anew role terms (record r { length = a.length })
    else drop_back role terms r.key cause.TooLarge

-- of a step that is new: the file must be free
abbrev pub receive_first : NodeView → ℕ → Side → SessionTerms → Key → Announced → Reaction
receive_first view now role terms key a =
    if is_in_use view.journal key a.name then answer role terms key (failed cause.InUse) now else record { effects = []; later = Onto role terms key a }

abbrev pub receive_from : NodeView → ℕ → Phase → Side → SessionTerms → Key → Announced → Status → Reaction
receive_from view now phase role terms key a (status.Open r safe) = receive_again view now phase role terms r safe a
receive_from view now phase role terms key a _ = receive_first view now role terms key a

abbrev pub receive : NodeView → ℕ → Phase → Side → SessionTerms → Key → Announced → Reaction
receive view now phase role terms key a = receive_from view now phase role terms key a (status.status view.journal key)

-- how many bytes of the old file stay: all of them with MOD
abbrev pub kept_base : Disp → Option ℕ → ℕ
kept_base disp.Mod (Some size) = size
kept_base _ _ = 0

abbrev pub is_there : Option ℕ → Bool
is_there None = false
is_there (Some size) = true

abbrev pub is_new : Disp → Bool
is_new disp.New = true
is_new _ = false

abbrev pub receiving_of : Key → Announced → Option ℕ → Receiving
receiving_of key a there = record {
  key = key;
  name = a.name;
  disp = a.disp;
  there = is_there there;
  base = kept_base a.disp there;
  length = a.length;
  interval = a.interval;
}

-- the destination was asked for its length: with NEW it must be missing, and the whole not too large
abbrev pub target_known : Side → SessionTerms → Key → Announced → ℕ → Option ℕ → Reaction
target_known role terms key a now there =
    if is_new a.disp && is_there there then answer role terms key (failed cause.Exists) now
    else if nat_le (kept_base a.disp there + a.length) greatest_file then receive_anew role terms (receiving_of key a there)
    else answer role terms key (failed cause.TooLarge) now

-- The bytes that come.

-- a piece is taken at exactly the bytes that came, with 1 to block bytes, within the length and up to a multiple of the
-- interval at most
abbrev pub is_piece_at : SessionTerms → Receiving → ℕ → ℕ → ℕ → Bool
is_piece_at terms r came offset size =
    offset == came && nat_le 1 size && nat_le size terms.block && nat_le (came + size) r.length
    && (r.interval == 0 || nat_le (came % r.interval + size) r.interval)

-- at a multiple of the interval the file is synced and the mark recorded
abbrev pub marks_at : Receiving → ℕ → List Effect
marks_at r came = if not (r.interval == 0) && came % r.interval == 0 then Touch (SyncFile r.name) ∷ Keep (entry.Mark r.key came) ∷ [] else []

abbrev pub take_piece : Side → SessionTerms → Receiving → ℕ → List ℕ → Reaction
take_piece role terms r came bytes =
    only (Touch (WriteFile r.name (r.base + came) bytes) ∷ marks_at r (came + length bytes)
    ++ Go (Take role terms r.key (came + length bytes)) (message.Ack r.key (came + length bytes) ∷ []) ∷ [])

-- all came: the file gets exactly its length and is synced
abbrev pub landed_whole : Receiving → Outcomes
landed_whole r = record { rc = 0; cause = cause.None; bytes = r.length; made = 0 }

abbrev pub land : Side → SessionTerms → Receiving → ℕ → Reaction
land role terms r now =
    behind (Touch (CutFile r.name (r.base + r.length))) (behind (Touch (SyncFile r.name)) (answer role terms r.key (landed_whole r) now))

-- the sender gives up: with one of these causes
abbrev pub gives_up : Cause → Bool
gives_up cause.NoSource = true
gives_up cause.SourceChanged = true
gives_up cause.TooLarge = true
gives_up _ = false
