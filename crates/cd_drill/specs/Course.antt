-- What a drill does: the lines of its script, one after another.
use Rattle.std.specs.Prelude.{◌≡◌, ◌⊎◌, ◌<◌, ℕ, zero, suc, ◌+◌, ◌%◌, List, [], ◌∷◌, ◌++◌, min, map, codes}
use Rattle.std.specs.List.{range_with_len}
use Rattle.cd_drill_script.specs.Script.{Order, Text, Fill, Do, Turn}
use Rattle.cd_drill_script.specs.declared.order.Party.{Party}
use Rattle.cd_drill_script.specs.declared.order.Party.TheVariants.{A, B}
use Rattle.cd_drill.specs.AtRest.{WasPut}
use Rattle.cd_drill.specs.Pairs.{Turned, FoundNothing, IsNew}
use Rattle.cd_drill.specs.Replies.{reply_line}
use Rattle.cd_drill.specs.Commanded.{IsReplyTo}
use Rattle.cd_drill.specs.declared.course.Course.{Course}
use Rattle.cd_drill.specs.declared.test_node.TestNode.{TestNode}
use Rattle.cd_drill.specs.declared.test_pair.TestPair.{TestPair}
use Rattle.cd_operator.specs.declared.reply.Reply.{Reply}

-- the node of a party; the other node and the sessions are as they were
abbrev pub half_of : Party → TestPair → TestNode
half_of A pair = pair.a
half_of B pair = pair.b

abbrev pub OtherStays : Party → TestPair → TestPair → Type 0
OtherStays A before after = (after.b ≡ before.b) × (after.links ≡ before.links)
OtherStays B before after = (after.a ≡ before.a) × (after.links ≡ before.links)

-- nothing is replied and no turn is made
pub record IsSilent (before after : Course) : Type 0 where
  pub out : after.out ≡ before.out
  pub turns : after.turns ≡ before.turns

-- The file of a name has these bytes at a node.
pub record PutAt (party : Party) (name bytes : List ℕ) (before after : Course) : Type 0 where
  pub put : WasPut name bytes (half_of party before.pair) (half_of party after.pair)
  pub other : OtherStays party before.pair after.pair
  pub silent : IsSilent before after

-- byte i is i modulo 251
abbrev pub filling : ℕ → List ℕ
filling n = map (λ i. i % 251) (range_with_len 0 n)

-- A node does a command, and replies.
pub record Replied (party : Party) (text : List ℕ) (before after : Course) : Type 0 where
  pub reply : Reply
  pub done : IsReplyTo text reply (half_of party before.pair) (half_of party after.pair)
  pub other : OtherStays party before.pair after.pair
  pub out : after.out.items ≡ before.out.items ++ reply_line reply
  pub turns : after.turns ≡ before.turns

-- so many turns did something, one after another
pub data MadeTurns (first : TestPair) : ℕ → TestPair → Type 0 where
  none : MadeTurns first zero first
  more : {n : ℕ} {before after : TestPair} → MadeTurns first n before → Turned before after → MadeTurns first (suc n) after

-- all were made, or a turn found nothing to do
abbrev pub EndedAt : ℕ → ℕ → TestPair → TestPair → Type 0
EndedAt n made last after = ((made ≡ n) × (after ≡ last)) ⊎ ((made < n) × FoundNothing last after)

-- Up to so many turns were made, and so many did something.
pub record WereMade (n made : ℕ) (before after : TestPair) : Type 0 where
  pub last : TestPair
  pub turned : MadeTurns before made last
  pub ended : EndedAt n made last after

pub record TookTurns (n : ℕ) (before after : Course) : Type 0 where
  pub made : ℕ
  pub were : WereMade n made before.pair after.pair
  pub out : after.out ≡ before.out
  pub turns : after.turns ≡ min (before.turns + made) 18446744073709551615

-- What a line asks for was done.
abbrev pub Did : Order → Course → Course → Type 0
Did (Text party name bytes) before after = PutAt party name bytes before after
Did (Fill party name n) before after = PutAt party name (filling n) before after
Did (Do party text) before after = Replied party text before after
Did (Turn n) before after = TookTurns n before after

-- the beginning: two new nodes, ALPHA and BETA, at the first moment of drills
pub record IsBegin (course : Course) : Type 0 where
  pub pair : IsNew (codes "ALPHA") (codes "BETA") 1709287200 course.pair
  pub out : course.out.items ≡ []
  pub turns : course.turns ≡ 0

-- These orders were done, the newest first.
pub data Ran : List Order → Course → Type 0 where
  begun : {course : Course} → IsBegin course → Ran [] course
  done : {order : Order} {orders : List Order} {before after : Course} → Ran orders before → Did order before after → Ran (order ∷ orders) after
