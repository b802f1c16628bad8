use Rattle.std.proofs.lemmas.Result.{err_from_is_err_and}
use Rattle.cd_automaton.specs.Machine.{bare_state}
use Rattle.cd_parser.proofs.turn.lone_word.Goals as goal

pub returns-in_err-bare-in-Copy-clause-err : goal.returns-in_err-bare-in-Copy-clause-err
unfolding bare_state
returns-in_err-bare-in-Copy-clause-err c =
    let p = err_from_is_err_and c.from_residual.result c.from_residual.ensures.1 in
    rw (p.1, p.2) (λ r. rw c.in-Copy.is (c.in_err-bare-in-Copy.ensures.err r))

pub returns-in_ok-bare-in-Copy-clause-ok : goal.returns-in_ok-bare-in-Copy-clause-ok
unfolding bare_state
returns-in_ok-bare-in-Copy-clause-ok c = λ r. rw c.in-Copy.is (c.in_ok-bare-in-Copy.ensures.ok r)
