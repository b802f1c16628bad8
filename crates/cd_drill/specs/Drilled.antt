-- A whole drill.
use Rattle.std.specs.Prelude.{◌≡◌, ℕ, List, map, reverse, true, Option, Some, Ok, Err, option_map}
use Rattle.cd_drill_script.specs.Script.{Order, Orders, orders_of}
use Rattle.cd_rules.specs.Legal.{is_legal}
use Rattle.cd_plain.specs.NodeState.{NodeState}
use Rattle.cd_canonical.specs.Read.{canonical_reading}
use Rattle.cd_drill.specs.AtRest.{entries_of}
use Rattle.cd_drill.specs.Course.{Ran}
use Rattle.cd_drill.specs.Kept.{is_reserved}
use Rattle.cd_drill.specs.Report.{report_of, AreNamed}
use Rattle.cd_drill.specs.declared.bench.Bench.{Bench}
use Rattle.cd_drill.specs.declared.course.Course.{Course}
use Rattle.cd_drill.specs.declared.fault.DrillFault.{DrillFault}
use Rattle.cd_drill.specs.declared.fault.DrillFault.TheVariants.{ScriptText, NoMemory}

-- the nodes that a drill left
abbrev pub node_a : Bench → Option NodeState
node_a bench = option_map (λ course. course.pair.a.node) bench.course

abbrev pub node_b : Bench → Option NodeState
node_b bench = option_map (λ course. course.pair.b.node) bench.course

-- A script was run: its orders were done, one after another, by two nodes whose journals are legal; and this is their report, with a line
-- of each file.
pub record WasRun (script report : List ℕ) (course : Course) : Type 0 where
  pub orders : List (ℕ × Order)
  pub read : orders_of is_reserved script ≡ Ok orders
  pub ran : Ran (reverse (map (λ line. line.1) orders)) course
  pub legal_a : is_legal canonical_reading (entries_of course.pair.a) ≡ true
  pub legal_b : is_legal canonical_reading (entries_of course.pair.b) ≡ true
  pub reported : report ≡ report_of course
  pub named : AreNamed course.pair

-- A drill of a script: it was run, and the bench has the two nodes.
pub record WasDrilled (script report : List ℕ) (bench : Bench) : Type 0 where
  pub course : Course
  pub run : WasRun script report course
  pub left : bench.course ≡ Some course

-- This is the report of a drill of a script.
pub record WasReported (script report : List ℕ) : Type 0 where
  pub course : Course
  pub run : WasRun script report course

-- it tells the first line that is none; of memory nothing is said
abbrev pub IsFaultOf : Orders → DrillFault → Type 0
IsFaultOf orders (ScriptText at) = orders ≡ Err at
IsFaultOf orders NoMemory = Unit {0}
