-- Each course of a drill is a world of the rules.
use Rattle.std.proofs.Common.{ℕ, List, ap, subst, sym}
use Rattle.cd_rules.specs.Promises.{HavePriorities}
use Rattle.cd_protocol.specs.Node.{NodeView}
use Rattle.cd_outside.specs.Shelf.{Shelf}
use Rattle.cd_canonical.specs.Read.{canonical_reading}
use Rattle.cd_drill_script.specs.Script.{Order}
use Rattle.cd_drill.specs.AtRest.{told_of}
use Rattle.cd_drill.specs.Course.{Ran}
use Rattle.cd_drill.specs.declared.course.Course.{Course}
use Rattle.cd_drill.specs.declared.test_node.TestNode as drilled
use Rattle.cd_world.proofs.AgreedLaw.{events_results, events_land}
use Rattle.cd_world.proofs.GrownLaw.{events_legal}
use Rattle.cd_world.proofs.LeftLaw.{events_files, events_left}
use Rattle.cd_world.proofs.StatedLaw.{events_statements, events_copied}
use Rattle.cd_world.proofs.WholeLaw.{events_sources}
use Rattle.cd_world.specs.World as worlds
use Rattle.cd_world.specs.World.{World, Event, IsFirst, ArePossible, after}
use Rattle.cd_drill_world.proofs.ChoicesLed.{ChoiceIs}
use Rattle.cd_drill_world.proofs.CourseLed.{FromFirst, course_led}
use Rattle.cd_drill_world.proofs.Mirrors.{IsHalf}
use Rattle.cd_drill_world.proofs.PairsLed.{IsWorld}
use Rattle.cd_drill_world.specs.Rehearsed.{IsShown, Promised, IsRehearsed}

promised : (first : World) (events : List Event) → IsFirst first → ArePossible first events → Promised first (after first events)
promised first events is possible = record {
  legal = events_legal first events is possible;
  results = events_results first events is possible;
  landings = events_land first events is possible;
  statements = events_statements first events is possible;
  copies = events_copied first events is possible;
  sources = events_sources first events is possible;
  files = events_files first events is possible;
  left = events_left first events is possible;
}

shown : (here other : drilled.TestNode) (given : ℕ → List ℕ) (half : worlds.Half) → IsHalf canonical_reading here.node other.node (told_of here) given half → IsShown half here
shown here other given half is = record {
  journal = ap (λ (d : NodeView). d.journal) is.node.view;
  reads = ap (λ (d : NodeView). d.config.read) is.node.view;
  files = ap (λ (s : Shelf). s.seen) is.shelf;
}

pub rehearsed : (choice_is : ChoiceIs) (priorities : HavePriorities canonical_reading) (orders : List Order) (course : Course) → Ran orders course → IsRehearsed course.pair
rehearsed choice_is priorities orders course ran =
    let begin : FromFirst 1709287200 course.pair = course_led choice_is priorities orders course ran in
    let last : IsWorld 1709287200 course.pair (after begin.first begin.led.leads.events) = subst (IsWorld 1709287200 course.pair) (sym begin.led.leads.is) begin.led.so in
    record {
      first = begin.first;
      events = begin.led.leads.events;
      is_first = begin.is_first;
      possible = begin.led.leads.possible;
      a = shown course.pair.a course.pair.b (told_of course.pair.b).traffic.given (after begin.first begin.led.leads.events).a last.are.a;
      b = shown course.pair.b course.pair.a (told_of course.pair.a).traffic.given (after begin.first begin.led.leads.events).b last.are.b;
      promised = promised begin.first begin.led.leads.events begin.is_first begin.led.leads.possible;
    }
