use Rattle.std.proofs.Common.{refl, rules}
use Rattle.cd_commands.specs.Machine.{said, at_end}
use Rattle.cd_commands.proofs.Peeks.{peek_other, peek_equal}
use Rattle.cd_commands.proofs.order.other_place.Goals as goal

pub returns-in_default-clause-some : goal.returns-in_default-clause-some
unfolding said at_end
returns-in_default-clause-some c = λ k g at set. rw c.in_default.ensures.none refl

pub returns-then-is_equals-clause-none : goal.returns-then-is_equals-clause-none
returns-then-is_equals-clause-none c = peek_equal c.args.len c.in-Some.token.now c.args.tokens.now c.in-Some.ensures.some (search rules)

pub returns-clause-some : goal.returns-clause-some
returns-clause-some c = λ k g at set. rw c.place_of.ensures (peek_other c.args.len c.in-Some.token.now c.args.tokens.now c.in-Some.ensures.some (search rules) k g at set)
