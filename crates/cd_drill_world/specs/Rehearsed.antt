-- What a drill shows: a world of two nodes, to which events led from its beginning.
use Rattle.std.specs.Prelude.{◌≡◌, List}
use Rattle.cd_canonical.specs.Read.{canonical_reading}
use Rattle.cd_drill.specs.AtRest.{entries_of, seen_of}
use Rattle.cd_drill.specs.declared.test_node.TestNode as drilled
use Rattle.cd_drill.specs.declared.test_pair.TestPair.{TestPair}
use Rattle.cd_world.specs.Holds.{journal_of, AreLegal, HaveResults, HaveLanded, HaveStatements, HaveCopied, AreSources, HaveFiles, AreLeft}
use Rattle.cd_world.specs.World as worlds
use Rattle.cd_world.specs.World.{World, Event, IsFirst, ArePossible, after}

-- a node of a drill is this half of a world: it has the same journal, reads the texts of Processes so, and each name gives the same file
pub record IsShown (half : worlds.Half) (node : drilled.TestNode) : Type 0 where
  pub journal : journal_of half ≡ entries_of node
  pub reads : half.node.view.config.read ≡ canonical_reading
  pub files : half.node.shelf.seen ≡ seen_of node

-- what holds in every world that two nodes come to, by the law of events
pub record Promised (first world : World) : Type 0 where
  pub legal : AreLegal world
  pub results : HaveResults world
  pub landings : HaveLanded world
  pub statements : HaveStatements world
  pub copies : HaveCopied world
  pub sources : AreSources world.notes
  pub files : HaveFiles world
  pub left : AreLeft first world

-- There are a world at its beginning and events that lead to one in which both nodes are as the drill left them.
pub record IsRehearsed (pair : TestPair) : Type 0 where
  pub first : World
  pub events : List Event
  pub is_first : IsFirst first
  pub possible : ArePossible first events
  pub a : IsShown (after first events).a pair.a
  pub b : IsShown (after first events).b pair.b
  pub promised : Promised first (after first events)
