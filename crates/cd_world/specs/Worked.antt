-- First worlds, and lists of events after which one Process has pushed one file: of three bytes in one piece, and of five bytes
-- with a loss behind the first mark.
use Rattle.std.specs.Prelude.{ℕ, List, [], ◌∷◌, codes, Option, Some, None, true, false, if◌then◌else◌}
use Rattle.std.specs.Str.{bytes_eq}
use Rattle.cd_types.specs.declared.card.Filed.{Filed}
use Rattle.cd_types.specs.declared.choices.Disp.TheVariants as disp
use Rattle.cd_types.specs.declared.choices.Hold.TheVariants as hold
use Rattle.cd_types.specs.declared.choices.Retain.TheVariants as retain
use Rattle.cd_types.specs.declared.rows.Receiving.{Receiving}
use Rattle.cd_entries.specs.declared.entry.Entry.TheVariants as entry
use Rattle.cd_outside.specs.Shelf.{settled_shelf}
use Rattle.cd_protocol.specs.Node.{Node, Answers}
use Rattle.cd_protocol.specs.Worked.{worked_key, node_a, node_b}
use Rattle.cd_world.specs.World.{A, B, Half, World, Event, Does, Loses, Later, Submits, Choice, Call, Frame, End, no_sessions}

abbrev pub bytes : List ℕ
bytes = 1 ∷ 2 ∷ 3 ∷ []

-- P1 PROCESS SNODE=BETA, with priority 10
abbrev pub card : Filed
card = record { name = codes "P1"; snode = codes "BETA"; prty = 10; class = 1; hold = hold.No; retain = retain.No; start = None }

abbrev half_of : Node → List ℕ → ℕ → (List ℕ → Option (List ℕ)) → Half
half_of node name home files = record {
  node = record { view = record node.view { journal = entry.Home name home ∷ [] }; shelf = settled_shelf files; sessions = no_sessions };
  up = true;
  settled = files;
  spoiled = [];
  received = λ key. [];
  calls = [];
  way = λ sid. [];
  ends = λ sid. false;
}

abbrev files_a : List ℕ → Option (List ℕ)
files_a name = if bytes_eq name (codes "a") then Some bytes else None

abbrev pub worked_world : World
worked_world = record {
  a = half_of (node_a 8 0 (Some bytes)) (codes "ALPHA") 1 files_a;
  b = half_of (node_b 8 0) (codes "BETA") 2 (λ name. None);
  notes = [];
  clock = 1000;
  sessions = 0;
}

-- what the files answer where they are asked: there is no destination, and the source is these three bytes
abbrev answers : Answers
answers = record { now = 0; there = None; source = Some 3; bytes = bytes }

abbrev pub worked_events : List Event
worked_events =
    Submits A card (codes "P1") ∷ Does A (Choice true) ∷ Does B Call
    ∷ Does B (Frame 0 answers) ∷ Does A (Frame 0 answers) ∷ Does B (Frame 0 answers) ∷ Does A (Frame 0 answers) ∷ Does B (Frame 0 answers)
    ∷ Does A (Frame 0 answers) ∷ Does B (Frame 0 answers) ∷ Does A (Frame 0 answers) ∷ Does B (Frame 0 answers) ∷ Does B (Frame 0 answers) ∷ []

-- what the SNODE receives then: the file b, with RPL
abbrev pub worked_receiving : ℕ → ℕ → Receiving
worked_receiving length interval = record { key = worked_key; name = codes "b"; disp = disp.Rpl; there = false; base = 0; length = length; interval = interval }

abbrev pub five : List ℕ
five = 1 ∷ 2 ∷ 3 ∷ 4 ∷ 5 ∷ []

abbrev files_five : List ℕ → Option (List ℕ)
files_five name = if bytes_eq name (codes "a") then Some five else None

-- pieces of two bytes, and a mark behind four
abbrev pub lossy_world : World
lossy_world = record {
  a = half_of (node_a 2 4 (Some five)) (codes "ALPHA") 1 files_five;
  b = half_of (node_b 2 4) (codes "BETA") 2 (λ name. None);
  notes = [];
  clock = 1000;
  sessions = 0;
}

abbrev answered_with : List ℕ → Answers
answered_with piece = record { now = 0; there = None; source = Some 5; bytes = piece }

abbrev none : Answers
none = answered_with []

-- the Ack behind the mark is lost, both ends are found, and half a minute later the Process is chosen again
abbrev pub lossy_events : List Event
lossy_events =
    Submits A card (codes "P1") ∷ Does A (Choice true) ∷ Does B Call
    ∷ Does B (Frame 0 none) ∷ Does A (Frame 0 none) ∷ Does B (Frame 0 none) ∷ Does A (Frame 0 (answered_with (1 ∷ 2 ∷ []))) ∷ Does B (Frame 0 none)
    ∷ Does A (Frame 0 (answered_with (3 ∷ 4 ∷ []))) ∷ Does B (Frame 0 none)
    ∷ Loses A 0 0 ∷ Does A (End 0) ∷ Does B (End 0) ∷ Later 30
    ∷ Does A (Choice true) ∷ Does B Call
    ∷ Does B (Frame 1 none) ∷ Does A (Frame 1 none) ∷ Does B (Frame 1 none) ∷ Does A (Frame 1 (answered_with (5 ∷ []))) ∷ Does B (Frame 1 none)
    ∷ Does A (Frame 1 none) ∷ Does B (Frame 1 none) ∷ Does A (Frame 1 none) ∷ Does B (Frame 1 none) ∷ Does B (Frame 1 none) ∷ []
