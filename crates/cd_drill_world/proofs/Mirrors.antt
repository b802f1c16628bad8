-- Two running nodes, and what is on the way between them, as a world of the rules.
use Rattle.std.specs.Prelude.{◌≡◌, ℕ, suc, ◌++◌, List, [], length, Bool, true, false, slice_get, Some}
use Rattle.cd_frames.specs.Message.{Message}
use Rattle.cd_frames.specs.Reading as streams
use Rattle.cd_frames.specs.Run.{Run}
use Rattle.cd_frames.specs.Stream.{joined}
use Rattle.cd_rules.specs.Steps.{Reading}
use Rattle.cd_effects.specs.Stands.{AreFrames}
use Rattle.cd_exchange.specs.Sessions.{phase_among}
use Rattle.cd_exchange.specs.declared.session.Session.{Session}
use Rattle.cd_plain.specs.Law.{IsNodeOf}
use Rattle.cd_plain.specs.NodeState.{NodeState}
use Rattle.cd_plain.specs.Turned.{Told}
use Rattle.cd_world.specs.World.{At, Half, World, Event, seen_from, is_gone, ArePossible, after}
use Rattle.cd_drill_world.proofs.Numbered.{AreNumbered}

-- What a node heard in a session, and what is on the way to it, are, joined, the bytes that the other node gave. All of that are frames
-- in their form, and it took no byte that it didn't hear. An end waits behind them only where the other node closed the session.
pub record Spoken (other : NodeState) (number : ℕ) (reader : streams.Reading) (taken given : List ℕ) (way : List Message) (ended : Bool) : Type 0 where
  pub heard : List Message
  pub run : Run taken heard reader
  pub all_heard : taken ≡ joined heard
  pub bytes : given ≡ joined (heard ++ way)
  pub each : AreFrames way
  pub ends : ended ≡ true → is_gone (phase_among other.sessions number) ≡ true

-- so it is in each session that the node has open
abbrev pub AllSpoken : NodeState → NodeState → (ℕ → List ℕ) → (ℕ → List ℕ) → Half → Type 0
AllSpoken here other taken given half =
    (at : ℕ) (s : Session) (reader : streams.Reading) → slice_get here.sessions at ≡ Some s → is_gone s.phase ≡ false → slice_get here.readings at ≡ Some reader
    → Spoken other s.sid.number reader (taken s.sid.number) (given s.sid.number) (half.way s.sid.number) (half.ends s.sid.number)

-- A running node, beside another one: it is the node of the rules, its files are what its devices tell, and what the other one gave to
-- its sessions is on the way. Its sessions are numbered as they came, from 1 on.
pub record IsHalf (read : Reading) (here other : NodeState) (told : Told) (given : ℕ → List ℕ) (half : Half) : Type 0 where
  pub node : IsNodeOf read here half.node
  pub shelf : half.node.shelf ≡ told.shelf
  pub up : half.up ≡ true
  pub calls : half.calls ≡ []
  pub numbered : AreNumbered 1 here.sessions
  pub readers : length here.readings ≡ length here.sessions
  pub spoken : AllSpoken here other told.traffic.taken given half

-- Both are a world at this moment, in which no call waits.
pub record IsWorldOf (read : Reading) (now : ℕ) (here other : NodeState) (told told_other : Told) (w : World) : Type 0 where
  pub a : IsHalf read here other told told_other.traffic.given w.a
  pub b : IsHalf read other here told_other told.traffic.given w.b
  pub clock : w.clock ≡ now
  pub count : length other.sessions ≡ length here.sessions
  pub sessions : w.sessions ≡ suc (length here.sessions)

-- Events lead from one world to another, both as they are seen from a node.
pub record Leads (x : At) (before now : World) : Type 0 where
  pub events : List Event
  pub possible : ArePossible (seen_from x before) events
  pub is : after (seen_from x before) events ≡ seen_from x now

-- so they do to a world of which this holds
pub record LeadsTo (x : At) (before : World) (IsSo : World → Type 0) : Type 0 where
  pub last : World
  pub leads : Leads x before last
  pub so : IsSo last
