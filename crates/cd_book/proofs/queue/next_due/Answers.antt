use Rattle.std.proofs.Common.{◌≡◌, ◌≤◌, ℕ, List, [], drop, reverse, sym, ap, ◌∙◌, arith}
use Rattle.std.specs.Prelude.{filter}
use Rattle.std.specs.List.{filter_map}
use Rattle.cd_rules.specs.Processes.{is_live, submitted}
use Rattle.cd_rules.specs.Queue.{choice, row_of}
use Rattle.cd_book.specs.Numbers.{upto}
use Rattle.cd_book.proofs.Counted.{upto_end, from_below}
use Rattle.cd_book.proofs.queue.next_due.Goals as goal

pub loop-before-init : goal.loop-before-init
loop-before-init c =
    let journal = reverse c.args.entries.now in
    let none : drop c.submitted-before.result (upto (submitted journal)) ≡ [] = ap (λ (n : ℕ). drop n (upto (submitted journal))) c.submitted-before.ensures ∙ upto_end (submitted journal) in
    ap (λ (l : List ℕ). choice c.args.now c.args.busy.now (filter_map (row_of journal) (filter (is_live journal) l))) (sym none)

pub loop-before-preserved : goal.loop-before-preserved
loop-before-preserved c =
    let journal = reverse c.args.entries.now in
    let within : c.loop-before.before ≤ submitted journal = omega (arith, c.submitted-before.ensures) in
    c.due_after-found.ensures (drop c.loop-before.before (upto (submitted journal))) c.loop-before.invariant
    ∙ ap (λ (l : List ℕ). choice c.args.now c.args.busy.now (filter_map (row_of journal) (filter (is_live journal) l)))
    (from_below (submitted journal) c.loop-before.before c.number_behind.result c.loop-before-test.true within c.number_behind.ensures)

pub returns : goal.returns
returns c =
    let journal = reverse c.args.entries.now in
    let first : c.loop-before.before ≡ 0 = omega arith in
    c.loop-before.invariant
    ∙ ap (λ (n : ℕ). choice c.args.now c.args.busy.now (filter_map (row_of journal) (filter (is_live journal) (drop n (upto (submitted journal)))))) first
    ∙ ap (λ (l : List ℕ). choice c.args.now c.args.busy.now (filter_map (row_of journal) l)) (sym c.requires.numbered.live_are)
