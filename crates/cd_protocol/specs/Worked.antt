-- Two nodes that move one file, turn by turn, by the rows alone.
use Rattle.std.specs.Prelude.{◌≡◌, ℕ, zero, suc, ◌-◌, List, [], ◌∷◌, ◌++◌, length, take, drop, codes, Option, Some, None, true, false, if◌then◌else◌, option_map}
use Rattle.std.specs.Str.{bytes_eq}
use Rattle.cd_types.specs.declared.card.Filed.{Filed}
use Rattle.cd_types.specs.declared.choices.Cause.TheVariants as cause
use Rattle.cd_types.specs.declared.choices.Disp.TheVariants as disp
use Rattle.cd_types.specs.declared.choices.How.TheVariants as how
use Rattle.cd_types.specs.declared.choices.Queue.TheVariants as queue
use Rattle.cd_types.specs.declared.choices.Reason.TheVariants as reason
use Rattle.cd_types.specs.declared.choices.Hold.TheVariants as hold
use Rattle.cd_types.specs.declared.choices.Retain.TheVariants as retain
use Rattle.cd_types.specs.declared.key.Key.{Key}
use Rattle.cd_types.specs.declared.start.Card.{Card}
use Rattle.cd_entries.specs.declared.entry.Entry.{Entry}
use Rattle.cd_entries.specs.declared.entry.Entry.TheVariants as entry
use Rattle.cd_ast.specs.declared.process.CopyStep.{CopyStep}
use Rattle.cd_ast.specs.declared.process.Process.{Process}
use Rattle.cd_ast.specs.declared.process.What.TheVariants as what
use Rattle.cd_frames.specs.Message as message
use Rattle.cd_frames.specs.Message.{Message}
use Rattle.cd_outside.specs.Shelf.{settled_shelf}
use Rattle.cd_rules.specs.Queue.{Waits}
use Rattle.cd_protocol.specs.declared.session.Source.{Source}
use Rattle.cd_protocol.specs.declared.session.Phase.{Phase}
use Rattle.cd_protocol.specs.declared.session.Phase.TheVariants.{Gone, Await, Offer, Send}
use Rattle.cd_protocol.specs.Node.{Config, Node, Effect, does, sends, Answers}
use Rattle.cd_pieces.specs.Piece.{piece_end}
use Rattle.cd_protocol.specs.Rows.{row, row_accept, row_choose, opened}

-- P1 PROCESS SNODE=BETA, S1 COPY FROM (FILE=a PNODE) TO (FILE=b SNODE DISP=RPL), with this interval
abbrev worked_card : Card
worked_card = record { name = codes "P1"; snode = Some (codes "BETA"); prty = 10; class = 1; hold = hold.No; retain = retain.No; start = None }

abbrev worked_step : ℕ → CopyStep
worked_step interval = record { from = codes "a"; to = codes "b"; push = true; disp = disp.Rpl; ckpt = Some interval }

abbrev pub worked_process : ℕ → Process
worked_process interval = record { name = codes "P1"; card = worked_card; stmts = record { label = Some (codes "S1"); what = what.Copy (worked_step interval) } ∷ [] }

abbrev worked_filed : Filed
worked_filed = record { name = codes "P1"; snode = codes "BETA"; prty = 10; class = 1; hold = hold.No; retain = retain.No; start = None }

abbrev waits : Waits
waits = record { short = 30; short_attempts = 6; long = 600; long_attempts = 6 }

-- a node with this block, which knows the other one
abbrev worked_config : ℕ → ℕ → Config
worked_config block interval = record { block = block; partner = λ name. Some waits; read = λ text. Some (worked_process interval) }

abbrev worked_files : Option (List ℕ) → List ℕ → Option (List ℕ)
worked_files file name = if bytes_eq name (codes "a") then file else None

abbrev pub node_a : ℕ → ℕ → Option (List ℕ) → Node
node_a block interval file = record {
  view = record { config = worked_config block interval; journal = entry.Submitted 1 500 None worked_filed (codes "P1") ∷ entry.Home (codes "ALPHA") 1 ∷ [] };
  shelf = settled_shelf (worked_files file);
  sessions = record { sids = []; phase = λ sid. Gone; holder = λ key. None };
}

abbrev pub node_b : ℕ → ℕ → Node
node_b block interval = record {
  view = record { config = worked_config block interval; journal = entry.Home (codes "BETA") 2 ∷ [] };
  shelf = settled_shelf (λ name. None);
  sessions = record { sids = []; phase = λ sid. Gone; holder = λ key. None };
}

-- both nodes, and the frames on the way in their one session
pub record Pair : Type 0 where
  pub a : Node
  pub b : Node
  pub to_a : List Message
  pub to_b : List Message

-- the source that a session sends
abbrev source_of : Phase → Option Source
source_of (Await terms key source) = source
source_of (Send role terms key source awaited) = Some source
source_of _ = None

abbrev offset_of : Message → ℕ
offset_of (message.Ready key offset) = offset
offset_of (message.Ack key offset) = offset
offset_of _ = 0

abbrev piece_of : ℕ → List ℕ → ℕ → Option Source → List ℕ
piece_of block file offset None = []
piece_of block file offset (Some source) = take (piece_end source.length block source.interval offset - offset) (drop offset file)

abbrev bytes_of : Option (List ℕ) → List ℕ
bytes_of None = []
bytes_of (Some file) = file

-- what the files of a node answer
abbrev answers : Node → Message → Answers
answers node m = record {
  now = 1000;
  there = option_map (λ file. length file) (node.shelf.seen (codes "b"));
  source = option_map (λ file. length file) (node.shelf.seen (codes "a"));
  bytes = piece_of node.view.config.block (bytes_of (node.shelf.seen (codes "a"))) (offset_of m) (source_of (node.sessions.phase 1));
}

abbrev at_b : Pair → Message → List Message → List Effect → Pair
at_b pair m more effects = record { a = pair.a; b = does 1 effects pair.b; to_a = pair.to_a ++ sends effects; to_b = more }

abbrev at_a : Pair → Message → List Message → List Effect → Pair
at_a pair m more effects = record { a = does 1 effects pair.a; b = pair.b; to_a = more; to_b = pair.to_b ++ sends effects }

-- a choice at A, whose session B accepts
abbrev chosen : Pair → List Effect → Pair
chosen pair effects = record { a = does 1 effects (opened 1 pair.a); b = does 1 row_accept (opened 1 pair.b); to_a = []; to_b = sends effects }

-- a turn: the first frame on the way to B, else that to A, else a choice
abbrev turn_of : Pair → List Message → List Message → Pair
turn_of pair (m ∷ more) to_a = at_b pair m more (row pair.b 1 (answers pair.b m) m)
turn_of pair [] (m ∷ more) = at_a pair m more (row pair.a 1 (answers pair.a m) m)
turn_of pair [] [] = chosen pair (row_choose pair.a 1000 true)

abbrev pub turns : ℕ → Pair → Pair
turns zero pair = pair
turns (suc n) pair = turns n (turn_of pair pair.to_b pair.to_a)

-- A has a file of these bytes, with this block and interval
abbrev pub after_turns : ℕ → ℕ → ℕ → Option (List ℕ) → Pair
after_turns n block interval file = turns n (record { a = node_a block interval file; b = node_b block interval; to_a = []; to_b = [] })

-- What the journals hold in the end, the newest first, for a file of three bytes that goes in one piece.
abbrev pub worked_key : Key
worked_key = record { pnode = codes "ALPHA"; home = 1; number = 1; place = 0 }

abbrev pub entries_a : List Entry
entries_a =
    entry.Closed 1 how.Finished 1000 ∷ entry.Ended 1 0 0 cause.None 3 1000
    ∷ entry.Placed 1 (record { queue = queue.Execution; reason = reason.Running; due = 0; attempts = 0; prty = 10 }) 1000
    ∷ entry.Submitted 1 500 None worked_filed (codes "P1") ∷ entry.Home (codes "ALPHA") 1 ∷ []

abbrev pub entries_b : List Entry
entries_b =
    entry.Forgot (codes "ALPHA") 1 1 ∷ entry.Result worked_key (record { rc = 0; cause = cause.None; bytes = 3; made = 0 }) 1000
    ∷ entry.Receiving (record { key = worked_key; name = codes "b"; disp = disp.Rpl; there = false; base = 0; length = 3; interval = 0 })
    ∷ entry.Home (codes "BETA") 2 ∷ []

-- nothing is on the way, and both sides of the session are closed
pub record AllDone (pair : Pair) : Type 0 where
  pub way_to_a : pair.to_a ≡ []
  pub way_to_b : pair.to_b ≡ []
  pub side_a : pair.a.sessions.phase 1 ≡ Gone
  pub side_b : pair.b.sessions.phase 1 ≡ Gone
