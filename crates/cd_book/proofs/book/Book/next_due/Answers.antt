use Rattle.std.proofs.Common.{List, reverse, sym, subst}
use Rattle.cd_entries.specs.declared.entry.Entry.{Entry}
use Rattle.cd_book.specs.Numbers.{AreNumbered}
use Rattle.cd_book.proofs.Counted.{legal_is_numbered}
use Rattle.cd_book.proofs.book.Book.next_due.Goals as goal

pub next_due-requires-clause-numbered : goal.next_due-requires-clause-numbered
next_due-requires-clause-numbered g c =
    subst (λ (l : List Entry). AreNumbered (reverse l)) (sym c.deref.ensures.value) (legal_is_numbered g.T.Texts.read (reverse c.self.inside.entries.items) c.self.invariant.1.legal)
