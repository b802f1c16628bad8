use Rattle.std.proofs.Common.{sym, ◌∙◌}
use Rattle.std.proofs.lemmas.Result.{err_from_is_err_and}
use Rattle.cd_commands.proofs.Submissions.{process_told, behind_told, doubly_told}
use Rattle.cd_commands.proofs.text.submission.Goals as goal

pub returns-in_err-process-clause-fault : goal.returns-in_err-process-clause-fault
returns-in_err-process-clause-fault c =
    let p = err_from_is_err_and c.from_residual.result c.from_residual.ensures.1 in
    rw (p.1, p.2) (process_told c.args.text.now c.part-process_text.result.now c.args.given c.args.places.0 c.args.places.1 c.args.behind c.in_err-process.field-0.0
    c.part-process_text.ensures c.in_err-process.ensures.fault)

pub returns-in-Some-clause-fault : goal.returns-in-Some-clause-fault
returns-in-Some-clause-fault c =
    behind_told c.args.text.now c.part-process_text.result.now c.args.given c.args.places.0 c.args.places.1 c.args.behind c.left.result c.in_ok-process.process c.in-Some.at
    c.part-process_text.ensures c.in_ok-process.ensures.process c.in-Some.is c.left.ensures

pub returns-then-is_doubly_started-clause-fault : goal.returns-then-is_doubly_started-clause-fault
returns-then-is_doubly_started-clause-fault c =
    doubly_told c.args.text.now c.part-process_text.result.now c.args.given c.args.places.0 c.args.places.1 c.args.behind c.in_ok-process.process
    c.part-process_text.ensures c.in_ok-process.ensures.process c.in_default.is (sym c.is_doubly_started.ensures ∙ c.if-is_doubly_started.true)
