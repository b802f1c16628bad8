-- Two nodes, what is on the way between them, and all that may happen to them.
use Rattle.std.specs.Prelude.{◌≡◌, ℕ, zero, suc, ◌+◌, ◌-◌, List, [], ◌∷◌, ◌++◌, length, take, drop, Bool, true, false, ◌&&◌, ◌==◌, Option, Some, None, option_map, if◌then◌else◌}
use Rattle.cd_outside.specs.Content.{overwritten}
use Rattle.cd_outside.specs.Disposition.{landed, dropped}
use Rattle.cd_outside.specs.Shelf as shelves
use Rattle.cd_outside.specs.Shelf.{FileMap, content_of, settled_file, settled_shelf, IsFileImage, IsShelfImage, Shelf, FileChange, WriteFile, within, name_of}
use Rattle.cd_types.specs.declared.card.Filed.{Filed}
use Rattle.cd_types.specs.declared.key.Key.{Key}
use Rattle.cd_types.specs.declared.rows.Receiving.{Receiving}
use Rattle.cd_entries.specs.declared.entry.Entry.{Entry}
use Rattle.cd_entries.specs.declared.entry.Entry.TheVariants as entry
use Rattle.cd_frames.specs.Message as message
use Rattle.cd_frames.specs.Message.{Message}
use Rattle.cd_rules.specs.Keys.{same_key}
use Rattle.cd_rules.specs.Openings.{open_on}
use Rattle.cd_rules.specs.Processes.{submitted}
use Rattle.cd_rules.specs.Status as status
use Rattle.cd_rules.specs.Status.{Status, mark}
use Rattle.cd_rules.specs.Legal.{allowed}
use Rattle.cd_rules.specs.Promises.{HavePriorities}
use Rattle.cd_rules.specs.Steps.{what_at}
use Rattle.cd_protocol.specs.declared.session.Phase.{Phase}
use Rattle.cd_protocol.specs.declared.session.Phase.TheVariants.{Gone}
use Rattle.cd_protocol.specs.declared.session.Continuation.{Continuation}
use Rattle.cd_protocol.specs.declared.session.Continuation.TheVariants.{Push, Offered, Onto, Piece}
use Rattle.cd_protocol.specs.Closing.{key_under_way}
use Rattle.cd_protocol.specs.Node.{Node, Sessions, Effect, Keep, Touch, AskSize, AskBytes, Begin, Go, Reaction, Answers, put, did, does, recorded}
use Rattle.cd_protocol.specs.Rows.{checked, first_reaction, reaction_behind, is_done, most_reactions, source_in, row, row_accept, row_choose, row_end, row_trouble, opened}
use Rattle.cd_protocol.specs.Sending.{piece_len}

-- The two nodes.
pub data At : Type 0 where
  A : At
  B : At

-- the other one
abbrev pub across : At → At
across A = B
across B = A

-- What is noted of the files of both nodes, for the promises alone.
pub data Note : Type 0 where
  -- a node asked for the length of a file
  Sized : At → List ℕ → Option ℕ → Note
  -- a node read bytes of a source for a step: from an offset on
  Read : At → Key → ℕ → List ℕ → Note
  -- a node began to receive a file
  Began : At → Receiving → Note
  -- what a node received landed: of this receiving these bytes
  Landed : At → Receiving → List ℕ → Note
  -- a node dropped what it had begun to receive
  Dropped : At → Receiving → Note
  -- someone else wrote a file of a node
  Wrote : At → List ℕ → List ℕ → Note

-- One node and what is on the way to it. Beside what the node knows there is kept, for the promises alone, what each file
-- should be when nothing is received onto it, which names were written by others while they were received, and the bytes
-- that were received for each step.
pub record Half : Type 0 where
  pub node : Node
  pub up : Bool
  pub settled : FileMap
  pub spoiled : List (List ℕ)
  pub received : Key → List ℕ
  -- the sessions that the other node opened, and that it hasn't accepted
  pub calls : List ℕ
  -- the frames on the way to it in each session, and whether the session's end waits behind them
  pub way : ℕ → List Message
  pub ends : ℕ → Bool

-- Sessions have the same number at both nodes: each new one is numbered one higher. The newest note comes first.
pub record World : Type 0 where
  pub a : Half
  pub b : Half
  pub notes : List Note
  pub clock : ℕ
  pub sessions : ℕ

-- All that follows is said of the first node. It holds for the other one too, in the world seen from there.
abbrev pub seen_from : At → World → World
seen_from A w = w
seen_from B w = record w { a = w.b; b = w.a }

-- What an effect of the first node makes of the world.

-- an entry is recorded: a receiving begins without bytes, and an outcome settles the file
abbrev pub received_by : Entry → (Key → List ℕ) → Key → List ℕ
received_by (entry.Receiving r) received = put same_key r.key [] received
received_by _ received = received

abbrev pub landed_by : Status → List ℕ → FileMap → FileMap
landed_by (status.Open r safe) got files = shelves.put r.name (Some (landed r.disp (files r.name) got)) files
landed_by _ got files = files

abbrev pub dropped_by : Status → FileMap → FileMap
dropped_by (status.Open r safe) files = shelves.put r.name (dropped r.disp (files r.name)) files
dropped_by _ files = files

abbrev pub settled_by : List Entry → (Key → List ℕ) → Entry → FileMap → FileMap
settled_by journal received (entry.Result key o moment) files = landed_by (status.status journal key) (received key) files
settled_by journal received (entry.Dropped key rc why moment) files = dropped_by (status.status journal key) files
settled_by journal received _ files = files

abbrev pub landing_of : At → Status → List ℕ → List Note → List Note
landing_of x (status.Open r safe) got notes = Landed x r got ∷ notes
landing_of x _ got notes = notes

abbrev pub dropping_of : At → Status → List Note → List Note
dropping_of x (status.Open r safe) notes = Dropped x r ∷ notes
dropping_of x _ notes = notes

abbrev pub noted_by : At → List Entry → (Key → List ℕ) → Entry → List Note → List Note
noted_by x journal received (entry.Receiving r) notes = Began x r ∷ notes
noted_by x journal received (entry.Result key o moment) notes = landing_of x (status.status journal key) (received key) notes
noted_by x journal received (entry.Dropped key rc why moment) notes = dropping_of x (status.status journal key) notes
noted_by x journal received _ notes = notes

abbrev pub kept : ℕ → Entry → Half → Half
kept sid e half = record half {
  node = did sid (Keep e) half.node;
  settled = settled_by half.node.view.journal half.received e half.settled;
  received = received_by e half.received;
}

-- a file is changed: what is written for a step that is received is received, at its place
abbrev pub written_for : Key → ℕ → List ℕ → Status → (Key → List ℕ) → Key → List ℕ
written_for key at bytes (status.Open r safe) received = put same_key key (overwritten (at - r.base) bytes (received key)) received
written_for key at bytes _ received = received

abbrev pub written_under : List Entry → Option Key → ℕ → List ℕ → (Key → List ℕ) → Key → List ℕ
written_under journal None at bytes received = received
written_under journal (Some key) at bytes received = written_for key at bytes (status.status journal key) received

abbrev pub written_by : List Entry → Option Key → FileChange → (Key → List ℕ) → Key → List ℕ
written_by journal key (WriteFile name at bytes) received = written_under journal key at bytes received
written_by journal key _ received = received

abbrev pub touched : ℕ → FileChange → Half → Half
touched sid change half = record half {
  node = did sid (Touch change) half.node;
  received = written_by half.node.view.journal (key_under_way (half.node.sessions.phase sid)) change half.received;
}

-- what the files tell: the length of a file, and bytes of it from a place on
abbrev pub size_told : Half → List ℕ → Option ℕ
size_told half name = option_map (λ bytes. length bytes) (half.node.shelf.seen name)

abbrev pub bytes_told : Half → List ℕ → ℕ → ℕ → List ℕ
bytes_told half name at len = take len (drop at (content_of (half.node.shelf.seen name)))

abbrev pub read_for : At → Option Key → ℕ → List ℕ → List Note → List Note
read_for x None at bytes notes = notes
read_for x (Some key) at bytes notes = Read x key at bytes ∷ notes

-- Ready tells from where on the bytes are sent: only those before it stay received
abbrev pub readied : List Message → (Key → List ℕ) → Key → List ℕ
readied [] received = received
readied (message.Ready key offset ∷ frames) received = readied frames (put same_key key (take offset (received key)) received)
readied (frame ∷ frames) received = readied frames received

-- A session goes on: its frames go behind those on the way, unless its end waits there already. Where it is closed, no frame
-- is on the way to its node any more, none is sent to it, and the other node finds its end.
abbrev pub is_gone : Phase → Bool
is_gone Gone = true
is_gone _ = false

abbrev pub at_session : {A : Type 0} → ℕ → A → (ℕ → A) → ℕ → A
at_session sid value others = put (λ m n. m == n) sid value others

abbrev pub went_on : ℕ → Phase → List Message → Half → Half
went_on sid phase frames half = record half {
  node = did sid (Go phase frames) half.node;
  received = readied frames half.received;
  way = if is_gone phase then at_session sid [] half.way else half.way;
  ends = if is_gone phase then at_session sid true half.ends else half.ends;
}

abbrev pub behind_them : Bool → List Message → List Message → List Message
behind_them ended before frames = if ended then before else before ++ frames

abbrev pub sent : ℕ → Phase → List Message → Half → Half
sent sid phase frames half = record half {
  way = at_session sid (behind_them (half.ends sid) (half.way sid) frames) half.way;
  ends = if is_gone phase then at_session sid true half.ends else half.ends;
}

abbrev pub world_did : At → ℕ → Effect → World → World
world_did x sid (Keep e) w = record w { a = kept sid e w.a; notes = noted_by x w.a.node.view.journal w.a.received e w.notes }
world_did x sid (Touch change) w = record w { a = touched sid change w.a }
world_did x sid (AskSize name) w = record w { notes = Sized x name (size_told w.a name) ∷ w.notes }
world_did x sid (AskBytes name at len) w = record w { notes = read_for x (key_under_way (w.a.node.sessions.phase sid)) at (bytes_told w.a name at len) w.notes }
world_did x sid (Begin key phase) w = record w { a = record w.a { node = did sid (Begin key phase) w.a.node } }
world_did x sid (Go phase frames) w = record w { a = went_on sid phase frames w.a; b = sent sid phase frames w.b }

abbrev pub world_does : At → ℕ → List Effect → World → World
world_does x sid [] w = w
world_does x sid (effect ∷ effects) w = world_does x sid effects (world_did x sid effect w)

-- What happens at a node.
pub data Happening : Type 0 where
  -- a Process is chosen, and the partner can be connected or not
  Choice : Bool → Happening
  -- the first call that waits is accepted
  Call : Happening
  -- the first frame on the way in a session is handled, where the files answer this
  Frame : ℕ → Answers → Happening
  -- the end of a session is found
  End : ℕ → Happening

-- what a happening is: the session, the effects of its row, and the world in which they begin
pub record Task : Type 0 where
  pub sid : ℕ
  pub effects : List Effect
  pub world : World

-- nothing happens
abbrev pub nothing : World → Task
nothing w = record { sid = w.sessions; effects = []; world = w }

-- a new session, which the other node can accept
abbrev pub opens : List Effect → Bool
opens (Go phase frames ∷ effects) = true
opens _ = false

abbrev pub with_session : World → World
with_session w = record w {
  a = record w.a { node = opened w.sessions w.a.node; way = at_session w.sessions [] w.a.way; ends = at_session w.sessions false w.a.ends };
  b = record w.b { calls = w.b.calls ++ w.sessions ∷ []; way = at_session w.sessions [] w.b.way; ends = at_session w.sessions false w.b.ends };
  sessions = suc w.sessions;
}

abbrev pub chosen : World → List Effect → Task
chosen w effects = record { sid = w.sessions; effects = effects; world = if opens effects then with_session w else w }

abbrev pub called : World → List ℕ → Task
called w [] = nothing w
called w (sid ∷ more) = record { sid = sid; effects = row_accept; world = record w { a = record w.a { node = opened sid w.a.node; calls = more } } }

-- the clock tells the moment
abbrev pub answers_now : World → Answers → Answers
answers_now w answers = record answers { now = w.clock }

abbrev pub came : World → ℕ → Answers → List Message → Task
came w sid answers [] = nothing w
came w sid answers (m ∷ more) = record {
  sid = sid;
  effects = row w.a.node sid (answers_now w answers) m;
  world = record w { a = record w.a { way = at_session sid more w.a.way } };
}

abbrev pub ended : World → ℕ → Bool → List Message → Task
ended w sid true [] = record { sid = sid; effects = row_end w.a.node sid w.clock; world = w }
ended w sid _ _ = nothing w

-- a node that is up handles what there is; a session that is closed has nothing more
abbrev pub task_of : World → Happening → Task
task_of w (Choice connected) = chosen w (row_choose w.a.node w.clock (connected && w.b.up))
task_of w Call = called w w.a.calls
task_of w (Frame sid answers) = if is_gone (w.a.node.sessions.phase sid) then nothing w else came w sid answers (w.a.way sid)
task_of w (End sid) = if is_gone (w.a.node.sessions.phase sid) then nothing w else ended w sid (w.a.ends sid) (w.a.way sid)

abbrev pub task : World → Happening → Task
task w happening = if w.a.up then task_of w happening else nothing w

-- The files answer what they tell when they are asked, behind each reaction of a row.
abbrev pub AreTold : Node → Continuation → Answers → Type 0
AreTold node (Push terms key) answers =
    answers.source ≡ option_map (λ bytes. length bytes) (node.shelf.seen (source_in (what_at node.view.config.read node.view.journal key.number key.place)))
AreTold node (Offered terms key name interval) answers = answers.source ≡ option_map (λ bytes. length bytes) (node.shelf.seen name)
AreTold node (Onto role terms key a) answers = answers.there ≡ option_map (λ bytes. length bytes) (node.shelf.seen a.name)
AreTold node (Piece role terms key source offset) answers = answers.bytes ≡ take (piece_len terms source offset) (drop offset (content_of (node.shelf.seen source.name)))
AreTold node _ answers = Unit {0}

-- so all of them do
abbrev pub Unless : Bool → Type 0 → Type 0
Unless true T = Unit {0}
Unless false T = T

unfoldable pub AllTold : ℕ → Node → ℕ → Answers → Reaction → Type 0
AllTold zero node sid answers reaction = Unit {0}
AllTold (suc more) node sid answers reaction =
    let after = does sid reaction.effects node in
    let phase = after.sessions.phase sid in
    AreTold after reaction.later answers
    × Unless (is_done reaction.later) (AllTold more after sid answers (checked after.view answers.now phase (reaction_behind after.view answers.now phase answers reaction.later)))

abbrev pub ToldFor : World → ℕ → Answers → List Message → Type 0
ToldFor w sid answers [] = Unit {0}
ToldFor w sid answers (m ∷ more) =
    AllTold most_reactions w.a.node sid (answers_now w answers) (first_reaction w.a.node.view w.a.node.sessions w.clock sid m)

abbrev pub Told : World → Happening → Type 0
Told w (Frame sid answers) = ToldFor w sid answers (w.a.way sid)
Told w _ = Unit {0}

-- A happening, done whole.
abbrev pub world_after : At → Happening → World → World
world_after x happening w = let t = task w happening in world_does x t.sid t.effects t.world

-- a first part of it, and what is left
abbrev pub world_within : At → Happening → ℕ → World → World
world_within x happening k w = let t = task w happening in world_does x t.sid (take k t.effects) t.world

abbrev pub effects_left : Happening → ℕ → World → List Effect
effects_left happening k w = drop k (task w happening).effects

-- A call of the files fails: it changed nothing, or it was begun and left something that is in doubt. Behind it the row goes on
-- as after a fault.
pub data Cut : Type 0 where
  Unchanged : Cut
  Begun : Option (List ℕ) → Cut

abbrev pub cut_off : Cut → List Effect → Shelf → Shelf
cut_off (Begun left) (Touch change ∷ effects) shelf = record { seen = shelves.put (name_of change) left shelf.seen; doubt = within change shelf }
cut_off _ _ shelf = shelf

abbrev pub MayLeave : FileChange → Option (List ℕ) → Shelf → Type 0
MayLeave (shelves.SyncFile name) left shelf = ⊥
MayLeave change left shelf = IsFileImage (within change shelf (name_of change)) left

abbrev pub IsCutOff : Cut → List Effect → Shelf → Type 0
IsCutOff (Begun left) (Touch change ∷ effects) shelf = MayLeave change left shelf
IsCutOff Unchanged (Touch change ∷ effects) shelf = Unit {0}
IsCutOff Unchanged (AskSize name ∷ effects) shelf = Unit {0}
IsCutOff Unchanged (AskBytes name at len ∷ effects) shelf = Unit {0}
IsCutOff _ _ shelf = ⊥

abbrev pub with_shelf : Shelf → World → World
with_shelf shelf w = record w { a = record w.a { node = record w.a.node { shelf = shelf } } }

abbrev pub world_faulted : At → Happening → ℕ → Cut → World → World
world_faulted x happening k cut w =
    let sid = (task w happening).sid in
    let before = world_within x happening k w in
    let cut_short = with_shelf (cut_off cut (effects_left happening k w) before.a.node.shelf) before in
    world_does x sid (row_trouble cut_short.a.node sid cut_short.clock) cut_short

-- A stop behind a first part of a row: the journal has the entries of that part, the files are what a crash may leave, also
-- within the call under way, and no session is left. The other node finds their ends.
abbrev pub no_sessions : Sessions
no_sessions = record { sids = []; phase = λ sid. Gone; holder = λ key. None }

abbrev pub IsLeft : FileMap → List Effect → Shelf → Type 0
IsLeft image (Touch change ∷ effects) shelf = IsShelfImage (within change shelf) image
IsLeft image _ shelf = IsShelfImage shelf.doubt image

abbrev pub down : FileMap → World → World
down image w = record w {
  a = record w.a {
    node = record { view = w.a.node.view; shelf = settled_shelf image; sessions = no_sessions };
    up = false;
    calls = [];
    way = λ sid. [];
    ends = λ sid. true;
  };
  b = record w.b { ends = λ sid. true };
}

abbrev pub world_stopped : At → Happening → ℕ → FileMap → World → World
world_stopped x happening k image w = if w.a.up then down image (world_within x happening k w) else w

-- A start: no session is left, and of what was received only what is marked stays.
abbrev pub marked : List Entry → (Key → List ℕ) → Key → List ℕ
marked journal received key = take (mark journal key) (received key)

abbrev pub world_started : World → World
world_started w =
    if w.a.up then w
    else record w { a = record w.a { node = record w.a.node { sessions = no_sessions }; up = true; received = marked w.a.node.view.journal w.a.received } }

-- A loss: only the first frames that are on the way in a session arrive, and then its end.
abbrev pub world_lost : ℕ → ℕ → World → World
world_lost sid k w = record w { a = record w.a { way = at_session sid (take k (w.a.way sid)) w.a.way; ends = at_session sid true w.a.ends } }

-- Someone else writes a file, which is safe at once. While the file is received that spoils it.
abbrev pub spoiled_by : Option Receiving → List ℕ → List (List ℕ) → List (List ℕ)
spoiled_by None name spoiled = spoiled
spoiled_by (Some r) name spoiled = name ∷ spoiled

abbrev pub world_written : At → List ℕ → List ℕ → World → World
world_written x name bytes w = record w {
  a = record w.a {
    node = record w.a.node {
      shelf = record {
        seen = shelves.put name (Some bytes) w.a.node.shelf.seen;
        doubt = shelves.put name (settled_file (Some bytes)) w.a.node.shelf.doubt;
      };
    };
    settled = shelves.put name (Some bytes) w.a.settled;
    spoiled = spoiled_by (open_on w.a.node.view.journal name) name w.a.spoiled;
  };
  notes = Wrote x name bytes ∷ w.notes;
}

-- A Process is submitted.
abbrev pub submission_of : Filed → List ℕ → World → Entry
submission_of card text w = entry.Submitted (submitted w.a.node.view.journal + 1) w.clock None card text

abbrev pub world_submitted : Filed → List ℕ → World → World
world_submitted card text w =
    let e = submission_of card text w in
    if w.a.up && allowed w.a.node.view.config.read w.a.node.view.journal e
    then record w { a = record w.a { node = record w.a.node { view = recorded e w.a.node.view } } }
    else w

-- All that may happen. An event that isn't possible changes nothing.
pub data Event : Type 0 where
  -- a node handles what happens
  Does : At → Happening → Event
  -- a call of its files fails behind so many effects
  Fails : At → Happening → ℕ → Cut → Event
  -- it stops behind so many effects, and these files are left
  Stops : At → Happening → ℕ → FileMap → Event
  Starts : At → Event
  -- in a session only so many frames on the way to a node arrive
  Loses : At → ℕ → ℕ → Event
  -- someone writes a file of a node
  Writes : At → List ℕ → List ℕ → Event
  -- time passes
  Later : ℕ → Event
  -- a Process is submitted at a node
  Submits : At → Filed → List ℕ → Event

abbrev pub later : ℕ → World → World
later seconds w = record w { clock = w.clock + seconds }

-- what it makes of the world
abbrev pub happens : World → Event → World
happens w (Does x happening) = seen_from x (world_after x happening (seen_from x w))
happens w (Fails x happening k cut) = seen_from x (world_faulted x happening k cut (seen_from x w))
happens w (Stops x happening k image) = seen_from x (world_stopped x happening k image (seen_from x w))
happens w (Starts x) = seen_from x (world_started (seen_from x w))
happens w (Loses x sid k) = seen_from x (world_lost sid k (seen_from x w))
happens w (Writes x name bytes) = seen_from x (world_written x name bytes (seen_from x w))
happens w (Later seconds) = later seconds w
happens w (Submits x card text) = seen_from x (world_submitted card text (seen_from x w))

-- what is asked of it: the files answer what they tell, and faults and stops leave what may be left
abbrev pub IsPossible : World → Event → Type 0
IsPossible w (Does x happening) = Told (seen_from x w) happening
IsPossible w (Fails x happening k cut) =
    Told (seen_from x w) happening × IsCutOff cut (effects_left happening k (seen_from x w)) (world_within x happening k (seen_from x w)).a.node.shelf
IsPossible w (Stops x happening k image) =
    Told (seen_from x w) happening × IsLeft image (effects_left happening k (seen_from x w)) (world_within x happening k (seen_from x w)).a.node.shelf
IsPossible w _ = Unit {0}

-- one event after another
abbrev pub after : World → List Event → World
after w [] = w
after w (event ∷ events) = after (happens w event) events

abbrev pub ArePossible : World → List Event → Type 0
ArePossible w [] = Unit {0}
ArePossible w (event ∷ events) = IsPossible w event × ArePossible (happens w event) events

-- A world at its beginning: each journal has its Home alone, nothing was received, and there is no session. The texts of
-- Processes have priorities of 1 to 15.
pub record IsNew (name : List ℕ) (home : ℕ) (half : Half) : Type 0 where
  pub journal : half.node.view.journal ≡ entry.Home name home ∷ []
  pub priorities : HavePriorities half.node.view.config.read
  pub files : FileMap
  pub shelf : half.node.shelf ≡ settled_shelf files
  pub settled : half.settled ≡ files
  pub spoiled : half.spoiled ≡ []
  pub sessions : half.node.sessions ≡ no_sessions
  pub received : half.received ≡ (λ key. [])
  pub calls : half.calls ≡ []
  pub way : half.way ≡ (λ sid. [])

pub record IsFirst (w : World) : Type 0 where
  pub name_a : List ℕ
  pub home_a : ℕ
  pub name_b : List ℕ
  pub home_b : ℕ
  pub names : name_a ≡ name_b → ⊥
  pub homes : home_a ≡ home_b → ⊥
  pub a : IsNew name_a home_a w.a
  pub b : IsNew name_b home_b w.b
  pub notes : w.notes ≡ []
