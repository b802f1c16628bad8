use Rattle.std.proofs.Common.{◌≡◌, ◌∷◌, Ok, Err, sym, ◌∙◌, ap}
use Rattle.std.proofs.lemmas.Result.{err_from_is_err_and}
use Rattle.cd_grammar.specs.declared.step.Step.TheVariants as step
use Rattle.cd_grammar.specs.Answers.{strict}
use Rattle.cd_grammar.specs.Tokens.{place_of}
use Rattle.cd_grammar.specs.Given.{nothing}
use Rattle.cd_automaton.specs.State.{At}
use Rattle.cd_automaton.specs.Machine.{whole, run}
use Rattle.cd_parser.proofs.turn.read.Goals as goal

pub returns-in_err-behind_name-clause-err : goal.returns-in_err-behind_name-clause-err
returns-in_err-behind_name-clause-err c =
    let cut : c.args.tokens.now ≡ c.in_ok-token.token.now ∷ c.next.new.self = sym c.new-tokens.ensures ∙ c.in_ok-token.ensures.ok in
    let a = c.in_ok-name.ensures.ok c.args.len c.next.new.self in
    let b = c.in_err-behind_name.ensures.err c.in_ok-name.name (place_of c.in_ok-token.token.now) in
    let p = err_from_is_err_and c.from_residual-in_err-behind_name.result c.from_residual-in_err-behind_name.ensures.1 in
    let e : whole strict c.args.len c.args.tokens.now ≡ Err c.in_err-behind_name.field-0.0 = cc in
    rw (p.1, p.2) e

pub returns-in_err-statements-clause-err : goal.returns-in_err-statements-clause-err
returns-in_err-statements-clause-err c =
    let cut : c.args.tokens.now ≡ c.in_ok-token.token.now ∷ c.next.new.self = sym c.new-tokens.ensures ∙ c.in_ok-token.ensures.ok in
    let a = c.in_ok-name.ensures.ok c.args.len c.next.new.self in
    let b = c.in_ok-behind_name.ensures.ok c.in_ok-name.name (place_of c.in_ok-token.token.now) in
    let p = err_from_is_err_and c.from_residual-in_err-statements.result c.from_residual-in_err-statements.ensures.1 in
    let e : whole strict c.args.len c.args.tokens.now ≡ run strict c.args.len c.new-reader.result (At (step.Head nothing)) c.behind_name.new.tokens = cc in
    rw (p.1, p.2, e) c.in_err-statements.ensures.err

pub returns-in_err-ending-clause-err : goal.returns-in_err-ending-clause-err
returns-in_err-ending-clause-err c =
    let cut : c.args.tokens.now ≡ c.in_ok-token.token.now ∷ c.next.new.self = sym c.new-tokens.ensures ∙ c.in_ok-token.ensures.ok in
    let a = c.in_ok-name.ensures.ok c.args.len c.next.new.self in
    let b = c.in_ok-behind_name.ensures.ok c.in_ok-name.name (place_of c.in_ok-token.token.now) in
    let d = c.in_err-ending.ensures.err c.args.len c.statements.new.reader in
    let p = err_from_is_err_and c.from_residual-in_err-ending.result c.from_residual-in_err-ending.ensures.1 in
    let e : whole strict c.args.len c.args.tokens.now ≡ Err c.in_err-ending.field-0.0 = cc c.in_ok-statements.ensures.ok in
    rw (p.1, p.2) e

pub returns-clause-ok : goal.returns-clause-ok
returns-clause-ok c =
    let cut : c.args.tokens.now ≡ c.in_ok-token.token.now ∷ c.next.new.self = sym c.new-tokens.ensures ∙ c.in_ok-token.ensures.ok in
    let a = c.in_ok-name.ensures.ok c.args.len c.next.new.self in
    let b = c.in_ok-behind_name.ensures.ok c.in_ok-name.name (place_of c.in_ok-token.token.now) in
    let d = c.in_ok-ending.ensures.ok c.args.len c.statements.new.reader in
    cc c.in_ok-statements.ensures.ok
