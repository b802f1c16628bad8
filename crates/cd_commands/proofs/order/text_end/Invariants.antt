use Rattle.std.proofs.Common.{◌≡◌, length}
use Rattle.cd_commands.specs.Commands.{text_end, left_behind}
use Rattle.cd_commands.proofs.order.text_end.Given as goal

abbrev pub invariant-loop-token : goal.invariant-loop-token
invariant-loop-token l = record {
  end : text_end l.len l.initial.tokens ≡ text_end l.len l.tokens;
  left : left_behind l.len l.initial.tokens ≡ left_behind l.len l.tokens;
}

abbrev pub decreases-loop-token : goal.decreases-loop-token
decreases-loop-token l = length l.tokens
