use Rattle.std.proofs.lemmas.Result.{err_from_is_err_and}
use Rattle.cd_parser.proofs.Told.{sym_told, plain_told, resolved_as}
use Rattle.cd_parser.proofs.texts.read_resolved.Goals as goal

pub returns-in_err-plain-clause-fault : goal.returns-in_err-plain-clause-fault
returns-in_err-plain-clause-fault c =
    let p = err_from_is_err_and c.from_residual-in_err-plain.result c.from_residual-in_err-plain.ensures.1 in
    rw (p.1, p.2) (sym_told c.args.text.now c.args.overrides.now c.in_ok-symbols.symbols c.in_err-plain.field-0.0 c.in_ok-symbols.ensures.ok c.in_err-plain.ensures.fault)

pub returns-in_err-process-clause-fault : goal.returns-in_err-process-clause-fault
returns-in_err-process-clause-fault c =
    let p = err_from_is_err_and c.from_residual-in_err-process.result c.from_residual-in_err-process.ensures.1 in
    rw (p.1, p.2) (plain_told c.args.text.now c.deref.result.now c.args.overrides.now c.in_err-process.field-0.0 c.in_ok-plain.ensures.fits.0
    (resolved_as c.args.text.now c.args.overrides.now c.in_ok-symbols.symbols c.in_ok-plain.plain.items c.deref.result.now c.in_ok-symbols.ensures.ok c.deref.ensures.value c.in_ok-plain.ensures.substituted)
    (rw c.deref.ensures.value c.in_ok-plain.ensures.fits.1) c.in_err-process.ensures.fault)
