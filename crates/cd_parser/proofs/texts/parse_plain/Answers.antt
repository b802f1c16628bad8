use Rattle.std.proofs.lemmas.Result.{err_from_is_err_and}
use Rattle.cd_grammar.specs.Faults.{IsFault, IsFaultOf}
use Rattle.cd_parser.proofs.Told.{none_told}
use Rattle.cd_parser.proofs.texts.parse_plain.Goals as goal

pub returns-in_err-process-clause-every_process : goal.returns-in_err-process-clause-every_process
returns-in_err-process-clause-every_process c = λ q said.
    let p = err_from_is_err_and c.from_residual.result c.from_residual.ensures.1 in
    rw (p.1, p.2) (none_told (IsFault c.args.text.now) c.in_err-process.field-0.0 (λ f bad. c.law_of_texts.ensures.not_both c.args.text.now q f said bad) c.in_err-process.ensures.fault)

pub returns-clause-every_process : goal.returns-clause-every_process
returns-clause-every_process c = λ q said. c.law_of_texts.ensures.one_process c.args.text.now c.in_ok-process.process q c.in_ok-process.ensures.process said
