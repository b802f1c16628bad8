use Rattle.cd_parser.proofs.Firsts.{first_left, first_right}
use Rattle.cd_parser.proofs.late.sooner.Goals as goal

pub returns-then-is_sooner : goal.returns-then-is_sooner
returns-then-is_sooner c = λ xs ys a b.
    first_left c.in-Some.first c.in-Some-other.second xs ys (c.is_sooner.ensures.first c.if-is_sooner.true) (rw c.in-Some.is at a) (rw c.in-Some-other.is at b)

pub returns-else-is_sooner : goal.returns-else-is_sooner
returns-else-is_sooner c = λ xs ys a b.
    first_right c.in-Some.first c.in-Some-other.second xs ys (c.is_sooner.ensures.second c.if-is_sooner.false) (rw c.in-Some.is at a) (rw c.in-Some-other.is at b)
