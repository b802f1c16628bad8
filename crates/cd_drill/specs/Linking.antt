-- What the code of a pair goes by where a choice is made: the last sessions of both nodes, and what a choice answers.
use Rattle.std.specs.Prelude.{List, [], ◌∷◌, Bool, true, false, Option, Some}
use Rattle.cd_exchange.specs.declared.session.Session.{Session}
use Rattle.cd_plain.specs.declared.handled.Handled.{Handled}
use Rattle.cd_plain.specs.declared.handled.Handled.TheVariants.{Went, Idle}
use Rattle.cd_drill.specs.declared.test_node.TestNode.{TestNode}
use Rattle.cd_drill.specs.declared.test_pair.Link.{Link}
use Rattle.cd_drill.specs.Pairs.{last_in}

-- what a choice answers where it found something, and where it found nothing
abbrev pub choice_answer : Bool → Handled
choice_answer true = Went
choice_answer false = Idle

-- the last session of each node is one session of both
abbrev pub link_of : Option Session → Option Session → List Link
link_of (Some a) (Some b) = (record { at_a = a.sid; at_b = b.sid; of_a = 0; of_b = 0 }) ∷ []
link_of _ _ = []

abbrev pub last_link : TestNode → TestNode → List Link
last_link a b = link_of (last_in a.node.sessions) (last_in b.node.sessions)
