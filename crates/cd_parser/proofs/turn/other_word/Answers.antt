use Rattle.std.proofs.lemmas.Result.{err_from_is_err_and}
use Rattle.cd_automaton.specs.Machine.{bare_state}
use Rattle.cd_parser.proofs.Turns.{bare_some}
use Rattle.cd_parser.proofs.turn.other_word.Goals as goal

pub returns-in_err-step-clause-err : goal.returns-in_err-step-clause-err
returns-in_err-step-clause-err c =
    let p = err_from_is_err_and c.from_residual.result c.from_residual.ensures.1 in
    rw (p.1, p.2) (bare_some c.args.len c.args.tokens.now c.args.reader.now c.args.step c.args.word.0 c.args.word.1 c.args.word.2.now (bare_state c.args.step c.args.word.1) _
    (c.in_err-step.ensures.err c.args.reader.now))

pub returns-in_err-turn-in-Left-clause-err : goal.returns-in_err-turn-in-Left-clause-err
returns-in_err-turn-in-Left-clause-err c =
    let p = err_from_is_err_and c.from_residual-in_err-turn-in-Left.result c.from_residual-in_err-turn-in-Left.ensures.1 in
    let q = rw c.in-Left.is at (c.in_ok-step.ensures.ok c.args.reader.now) in
    rw (p.1, p.2, q.0) (rw (q.1, q.2) at c.in_err-turn-in-Left.ensures.err)

pub returns-in-Taken-clause-ok : goal.returns-in-Taken-clause-ok
returns-in-Taken-clause-ok c =
    bare_some c.args.len c.args.tokens.now c.args.reader.now c.args.step c.args.word.0 c.args.word.1 c.args.word.2.now (bare_state c.args.step c.args.word.1) _
    (rw c.in-Taken.is at (c.in_ok-step.ensures.ok c.args.reader.now))

pub returns-in_ok-turn-in-Left-clause-ok : goal.returns-in_ok-turn-in-Left-clause-ok
returns-in_ok-turn-in-Left-clause-ok c =
    let q = rw c.in-Left.is at (c.in_ok-step.ensures.ok c.args.reader.now) in
    rw q.0 (rw (q.1, q.2) at c.in_ok-turn-in-Left.ensures.ok)
