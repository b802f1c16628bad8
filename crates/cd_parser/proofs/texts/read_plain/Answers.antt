use Rattle.std.proofs.Common.{◌≡◌, List, length, map, refl, ap, ◌∙◌}
use Rattle.cd_ast.specs.Tokens.{Span, spans_of}
use Rattle.cd_lexer.specs.Spans.{span_of}
use Rattle.cd_grammar.specs.Answers.{strict}
use Rattle.cd_grammar.specs.Tokens.{Out, token_of, tokens_of, without_commas}
use Rattle.std.proofs.lemmas.Result.{err_from_is_err_and}
use Rattle.cd_parser.proofs.Places.{within}
use Rattle.cd_parser.proofs.Told.{lex_told, seen_told, late_told}
use Rattle.cd_parser.proofs.texts.read_plain.Goals as goal

pub returns-in_err-tokens-clause-fault : goal.returns-in_err-tokens-clause-fault
returns-in_err-tokens-clause-fault c =
    let p = err_from_is_err_and c.from_residual.result c.from_residual.ensures.1 in
    rw (p.1, p.2) (lex_told c.args.text.now c.in_err-tokens.field-0.0 c.in_err-tokens.ensures.fault)

pub classify-requires : goal.classify-requires
classify-requires c =
    within 0 (length c.args.text.now) c.deref.result.now (rw (c.deref.ensures.value, c.in_ok-tokens.ensures.tokens) (c.law_of_tokens.ensures.order c.args.text.now))

pub returns-in_err-reader-clause-fault : goal.returns-in_err-reader-clause-fault
returns-in_err-reader-clause-fault c =
    let p = err_from_is_err_and c.from_residual-in_err-reader.result c.from_residual-in_err-reader.ensures.1 in
    let spans : map span_of c.deref.result.now ≡ spans_of c.args.text.now = ap (map span_of) c.deref.ensures.value ∙ c.in_ok-tokens.ensures.tokens in
    let seen : c.deref-2.result.now ≡ tokens_of c.args.text.now =
    c.deref-2.ensures.value ∙ c.in_ok-seen.ensures.tokens ∙ ap (λ (all : List Span). without_commas Out (map (token_of c.args.text.now) all)) spans in
    rw (p.1, p.2) (seen_told c.args.text.now (length c.args.text.now) c.deref-2.result.now c.in_err-reader.field-0.0 c.law_of_machine.ensures.exact
    c.in_ok-tokens.ensures.good.0 c.in_ok-tokens.ensures.good.1 (c.law_of_tokens-2.ensures c.args.text.now) refl seen c.in_err-reader.ensures.err)

pub returns-in-Some-clause-fault : goal.returns-in-Some-clause-fault
returns-in-Some-clause-fault c =
    let spans : map span_of c.deref.result.now ≡ spans_of c.args.text.now = ap (map span_of) c.deref.ensures.value ∙ c.in_ok-tokens.ensures.tokens in
    let seen : c.deref-2.result.now ≡ tokens_of c.args.text.now =
    c.deref-2.ensures.value ∙ c.in_ok-seen.ensures.tokens ∙ ap (λ (all : List Span). without_commas Out (map (token_of c.args.text.now) all)) spans in
    rw c.into.ensures (late_told c.args.text.now (length c.args.text.now) c.deref-2.result.now c.in_ok-reader.reader c.in-Some.fault
    (λ tokens e. c.law_of_machine.ensures.sound strict (length c.args.text.now) tokens c.in_ok-reader.reader e)
    c.in_ok-tokens.ensures.good.0 c.in_ok-tokens.ensures.good.1 seen c.in_ok-reader.ensures.ok c.in-Some.ensures)
