use Rattle.std.proofs.Common.{arith}
use Rattle.cd_book.proofs.Kept.{kept_none}
use Rattle.cd_book.proofs.book.Book.new.Goals as goal

pub invariant_of-result : goal.invariant_of-result
invariant_of-result g c = (omega (arith, c.new.ensures.len), rw (c.new.ensures.items, c.new-2.ensures.items) (kept_none g.T.Texts.read))
