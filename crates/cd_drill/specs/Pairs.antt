-- Two nodes, and what is on the way between them.
use Rattle.std.specs.Prelude.{◌≡◌, ◌⊎◌, ℕ, ◌+◌, ◌-◌, List, [], ◌∷◌, ◌++◌, length, min, take, drop, Bool, true, false, not, ◌&&◌, ◌||◌, ◌==◌, nat_lt, slice_get, slice_set, Option, Some, None, if◌then◌else◌}
use Rattle.std.specs.Int.{from_be_bytes, w32}
use Rattle.std.specs.List.{list_all}
use Rattle.cd_outside.specs.declared.sid.Sid.{Sid}
use Rattle.cd_memory.specs.MemoryLines.{last_of, traffic_of}
use Rattle.cd_protocol.specs.declared.session.Phase.{Phase}
use Rattle.cd_protocol.specs.declared.session.Phase.TheVariants.{Gone, Greet, Await, Ask, Fresh, Ready, Offer, Send, Take}
use Rattle.cd_exchange.specs.declared.session.Session.{Session}
use Rattle.cd_plain.specs.declared.handled.Handled.{Handled}
use Rattle.cd_plain.specs.declared.handled.Handled.TheVariants.{Went, Idle, Lost}
use Rattle.cd_drill.specs.declared.test_node.TestNode.{TestNode}
use Rattle.cd_drill.specs.declared.test_pair.Link.{Link}
use Rattle.cd_drill.specs.declared.test_pair.TestPair.{TestPair}
use Rattle.cd_entries.specs.declared.entry.Entry.TheVariants.{Home}
use Rattle.cd_drill.specs.AtRest.{IsAtRest, entries_of, IsSetUp, IsFresh, TookTurn, Chose, Took, WasOffered}

-- both can be handed what happens
pub record AreAtRest (pair : TestPair) : Type 0 where
  pub a : IsAtRest pair.a
  pub b : IsAtRest pair.b

-- the number of bytes of the frame at the front, those of its length among them; all of them where no whole frame stands there
abbrev pub frame_len : List ℕ → ℕ
frame_len (a ∷ b ∷ c ∷ d ∷ rest) = min (from_be_bytes w32 (a ∷ b ∷ c ∷ d ∷ []) + 4) (length rest + 4)
frame_len bytes = length bytes

-- a session is open where it is there and isn't gone
abbrev pub is_open_in : Phase → Bool
is_open_in Gone = false
is_open_in (Greet n) = true
is_open_in (Await terms key source) = true
is_open_in (Ask terms key) = true
is_open_in Fresh = true
is_open_in (Ready terms key) = true
is_open_in (Offer terms key source) = true
is_open_in (Send role terms key source awaited) = true
is_open_in (Take role terms key came) = true

abbrev pub is_open : List Session → ℕ → Bool
is_open [] sid = false
is_open (one ∷ more) sid = if one.sid.number == sid then is_open_in one.phase else is_open more sid

-- what a node gave to a session and the other one didn't get yet
abbrev pub on_way : TestNode → Sid → ℕ → List ℕ
on_way from sid passed = drop passed ((traffic_of from.lines).given sid.number)

abbrev pub is_some_byte : List ℕ → Bool
is_some_byte [] = false
is_some_byte (b ∷ bytes) = true

-- a frame or an end waits for a node in a session that it has open: bytes are on the way, or the other node closed it
abbrev pub waits : TestNode → Sid → ℕ → TestNode → Sid → Bool
waits from from_sid passed to to_sid =
    is_open to.node.sessions to_sid.number && (is_some_byte (on_way from from_sid passed) || not (is_open from.node.sessions from_sid.number))

-- the frame at the front of these bytes came, or nothing did where there are none
abbrev pub CameOf : List ℕ → Sid → ℕ → TestNode → TestNode → ℕ → Type 0
CameOf [] sid passed to at now_passed = (at ≡ to) × (now_passed ≡ passed)
CameOf (b ∷ bytes) sid passed to at now_passed =
    WasOffered sid (take (frame_len (b ∷ bytes)) (b ∷ bytes)) to at × (now_passed ≡ passed + frame_len (b ∷ bytes))

abbrev pub Came : TestNode → Sid → ℕ → TestNode → Sid → TestNode → ℕ → Type 0
Came from from_sid passed to to_sid at now_passed = CameOf (on_way from from_sid passed) to_sid passed to at now_passed

-- what a node answers where a frame comes to it, and where none comes: the session has ended then
abbrev pub answer_to : List ℕ → Sid → Handled
answer_to [] sid = Lost sid
answer_to (b ∷ bytes) sid = Went

-- What was on the way to a node came to it, and it had its turn: all that the rules say was done about the frame, or about the end. What
-- it took of the session so far is what the other node gave.
pub record WasBrought (from : TestNode) (from_sid : Sid) (passed : ℕ) (to : TestNode) (to_sid : Sid) (after : TestNode) (now_passed : ℕ) : Type 0 where
  pub at : TestNode
  pub came : Came from from_sid passed to to_sid at now_passed
  pub answer : Handled
  pub answered : answer ≡ answer_to (on_way from from_sid passed) to_sid
  pub turned : TookTurn to_sid answer at after
  pub taken : (traffic_of after.lines).taken to_sid.number ≡ take now_passed ((traffic_of from.lines).given from_sid.number)

-- whether something waits in a session, at B or at A
abbrev pub waits_at_b : TestNode → TestNode → Link → Bool
waits_at_b a b link = waits a link.at_a link.of_a b link.at_b

abbrev pub waits_at_a : TestNode → TestNode → Link → Bool
waits_at_a a b link = waits b link.at_b link.of_b a link.at_a

abbrev pub is_idle : TestNode → TestNode → Link → Bool
is_idle a b link = not (waits_at_b a b link) && not (waits_at_a a b link)

abbrev pub none_waits : TestNode → TestNode → List Link → Bool
none_waits a b links = list_all (is_idle a b) links

-- so many bytes of a node came to the other one
abbrev pub with_a : Link → ℕ → Link
with_a link n = record { at_a = link.at_a; at_b = link.at_b; of_a = n; of_b = link.of_b }

abbrev pub with_b : Link → ℕ → Link
with_b link n = record { at_a = link.at_a; at_b = link.at_b; of_a = link.of_a; of_b = n }

-- In a session what waits at B was handled, or else what waits at A.
pub record HandledAtB (at : ℕ) (link : Link) (before after : TestPair) : Type 0 where
  pub waited : waits_at_b before.a before.b link ≡ true
  pub passed : ℕ
  pub was : WasBrought before.a link.at_a link.of_a before.b link.at_b after.b passed
  pub links : after.links.items ≡ slice_set before.links.items at (with_a link passed)
  pub other : after.a ≡ before.a

pub record HandledAtA (at : ℕ) (link : Link) (before after : TestPair) : Type 0 where
  pub first : waits_at_b before.a before.b link ≡ false
  pub waited : waits_at_a before.a before.b link ≡ true
  pub passed : ℕ
  pub was : WasBrought before.b link.at_b link.of_b before.a link.at_a after.a passed
  pub links : after.links.items ≡ slice_set before.links.items at (with_b link passed)
  pub other : after.b ≡ before.b

-- the session at a place
abbrev pub HandledIn : ℕ → Link → Bool → TestPair → TestPair → Type 0
HandledIn at link true before after = HandledAtB at link before after ⊎ HandledAtA at link before after
HandledIn at link false before after = (is_idle before.a before.b link ≡ true) × (after ≡ before)

-- What waited in the first session in which something did was handled.
pub record HandledOne (before after : TestPair) : Type 0 where
  pub at : ℕ
  pub link : Link
  pub stands : slice_get before.links.items at ≡ Some link
  pub first : none_waits before.a before.b (take at before.links.items) ≡ true
  pub handled : HandledIn at link true before after

abbrev pub NoneWaits : TestPair → Type 0
NoneWaits pair = none_waits pair.a pair.b pair.links.items ≡ true

abbrev pub HandledBelow : Bool → TestPair → TestPair → Type 0
HandledBelow true before after = HandledOne before after
HandledBelow false before after = NoneWaits before × (after ≡ before)

-- the newest session of a node's lines
abbrev pub newest_of : TestNode → Sid
newest_of half = record { number = last_of half.lines }

-- the newest session of each is one session of both, and nothing came of it to either yet
abbrev pub newest : TestNode → TestNode → List Link
newest a b = (record { at_a = newest_of a; at_b = newest_of b; of_a = 0; of_b = 0 }) ∷ []

-- the other node took the session
pub record Accepted (other after : TestNode) : Type 0 where
  pub took : Took Went other after

-- where the node that chose has one session more, the other node took it, and these two are one
abbrev pub FollowedBy : Bool → TestNode → TestNode → List Link → List Link → List Link → Type 0
FollowedBy true other other_after new links links_after = Accepted other other_after × (links_after ≡ links ++ new)
FollowedBy false other other_after new links links_after = (other_after ≡ other) × (links_after ≡ links)

abbrev pub has_more : TestNode → TestNode → Bool
has_more before after = nat_lt (length before.node.sessions) (length after.node.sessions)

-- the last of these sessions
abbrev pub last_in : List Session → Option Session
last_in sessions = slice_get sessions (length sessions - 1)

-- it has the number of all, where there is one
abbrev pub has_number : Option Session → ℕ → Bool
has_number None n = true
has_number (Some last) n = last.sid.number == n

abbrev pub counts_all : List Session → Bool
counts_all sessions = has_number (last_in sessions) (length sessions)

-- so it is at both nodes, where one has one session more
abbrev pub AreCounted : Bool → TestNode → TestNode → Type 0
AreCounted true a b = (counts_all a.node.sessions ≡ true) × (counts_all b.node.sessions ≡ true)
AreCounted false a b = Unit {0}

-- A node chose. Where it has one session more, the newest session of each node has the number of all of them.
pub record ChoseAtA (answer : Handled) (before after : TestPair) : Type 0 where
  pub chose : Chose answer before.a after.a
  pub followed : FollowedBy (has_more before.a after.a) before.b after.b (newest after.a after.b) before.links.items after.links.items
  pub counted : AreCounted (has_more before.a after.a) after.a after.b

pub record ChoseAtB (answer : Handled) (before after : TestPair) : Type 0 where
  pub chose : Chose answer before.b after.b
  pub followed : FollowedBy (has_more before.b after.b) before.a after.a (newest after.a after.b) before.links.items after.links.items
  pub counted : AreCounted (has_more before.b after.b) after.a after.b

-- A had something to choose; or it had nothing, and B had.
pub record ChoseThere (before after : TestPair) : Type 0 where
  pub chose : ChoseAtA Went before after

pub record ChoseBehind (before after : TestPair) : Type 0 where
  pub between : TestPair
  pub idle : ChoseAtA Idle before between
  pub chose : ChoseAtB Went between after

-- or neither had
pub record ChoseNone (before after : TestPair) : Type 0 where
  pub between : TestPair
  pub idle : ChoseAtA Idle before between
  pub still : ChoseAtB Idle between after

abbrev pub ChoseOne : Bool → TestPair → TestPair → Type 0
ChoseOne true before after = ChoseThere before after ⊎ ChoseBehind before after
ChoseOne false before after = ChoseNone before after

-- A turn: what waits in the first session in which something does, at B and else at A; where nothing waits a choice at A, and where
-- A has nothing to choose one at B.
abbrev pub Turned : TestPair → TestPair → Type 0
Turned before after = HandledOne before after ⊎ (NoneWaits before × ChoseOne true before after)

-- nothing waits, and no node has anything to choose
abbrev pub FoundNothing : TestPair → TestPair → Type 0
FoundNothing before after = NoneWaits before × ChoseOne false before after

abbrev pub TurnOf : Bool → TestPair → TestPair → Type 0
TurnOf true before after = Turned before after
TurnOf false before after = FoundNothing before after

-- Both nodes at their beginning: each has its Home alone, no files and no sessions, and knows the other one.
pub record IsNew (a b : List ℕ) (now : ℕ) (pair : TestPair) : Type 0 where
  pub home_a : entries_of pair.a ≡ Home a 1 ∷ []
  pub home_b : entries_of pair.b ≡ Home b 2 ∷ []
  pub set_up_a : IsSetUp b pair.a
  pub set_up_b : IsSetUp a pair.b
  pub fresh_a : IsFresh now pair.a
  pub fresh_b : IsFresh now pair.b
  pub links : pair.links.items ≡ []
