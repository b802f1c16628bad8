use Rattle.std.proofs.Common.{◌≡◌, ◌≤◌, ◌+◌, ℕ, List, length, map, option_map, Some, None, sum}
use Rattle.cd_drill_script.specs.Script.{orders_from, orders_of}
use Rattle.cd_drill_script.specs.Seen.{seen_line}
use Rattle.cd_drill_script.specs.Fault.{lines_left, with_orders, left_size}
use Rattle.cd_drill_script.proofs.script.read_script.Given as goal

abbrev pub invariant-loop-rest : goal.invariant-loop-rest
invariant-loop-rest g l = record {
  told : orders_of g.R.Reserved.reserved l.fn.script ≡ with_orders (map seen_line l.lines.items) (orders_from g.R.Reserved.reserved l.at l.number (lines_left (option_map (λ text. text.now) l.rest)));
  place : l.at + left_size (option_map (λ text. text.now) l.rest) ≡ length l.fn.script + 1;
  number : l.number ≤ l.at + 1;
}

abbrev pub decreases-loop-rest : goal.decreases-loop-rest
decreases-loop-rest g l = left_size (option_map (λ text. text.now) l.rest)
