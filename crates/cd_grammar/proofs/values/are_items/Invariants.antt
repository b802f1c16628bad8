use Rattle.std.proofs.Common.{◌≡◌, length}
use Rattle.cd_grammar.specs.Values.{are_items}
use Rattle.cd_grammar.proofs.values.are_items.Given as goal

abbrev pub invariant-loop-behind : goal.invariant-loop-behind
invariant-loop-behind l = are_items l.rest ≡ are_items l.fn.text

abbrev pub decreases-loop-behind : goal.decreases-loop-behind
decreases-loop-behind l = length l.rest
