use Rattle.std.proofs.Common.{◌≤◌, ◌-◌, leb, reverse, ap, ◌∙◌}
use Rattle.std.specs.Prelude.{slice_get}
use Rattle.std.proofs.lemmas.Bool.{and_parts, leb-true}
use Rattle.cd_rules.specs.Steps.{process_of}
use Rattle.cd_book.specs.Book.{BookState}
use Rattle.cd_book.proofs.Kept.{nth_process}
use Rattle.cd_book.proofs.book.Book.process.Goals as goal

pub returns : goal.returns
returns g c =
    let read = g.T.Texts.read in
    let n = c.args.number in
    let kept = c.self.invariant.1 in
    let some : 1 ≤ n = leb-true 1 n (and_parts (leb 1 n) (leb n 99999) c.number.ensures.form).0 in
    let items = c.deref.ensures.value ∙ kept.processes_are in
    c.nth.ensures
    ∙ (λ i. slice_get (items i) (c.number.ensures.value i - 1))
    ∙ nth_process read (reverse c.self.inside.entries.items) n kept.legal some
    ∙ ap (λ (s : BookState). process_of read s.entries n) c.self.view_is
