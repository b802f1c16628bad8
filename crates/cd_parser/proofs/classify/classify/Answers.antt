use Rattle.std.proofs.Common.{◌≡◌, ◌∙◌, true, false, rules}
use Rattle.cd_grammar.specs.Tokens.{is_blank_comma}
use Rattle.cd_parser.specs.Region.{side_of}
use Rattle.cd_parser.proofs.Commas.{kept_token, left_token, no_token}
use Rattle.cd_parser.proofs.classify.classify.Goals as goal

pub loop-token-preserved-in_ok-push : goal.loop-token-preserved-in_ok-push
loop-token-preserved-in_ok-push c =
    let kept : is_blank_comma (side_of c.loop-token.region) c.token_of-token.result ≡ false = search rules in
    record {
      seen = kept_token c.args.text.now _ _ _ _ c.in-Some.token.now _ _ _ c.in-Some.ensures.cases.0 c.token_of-token.ensures c.behind-next.ensures kept c.in_ok-push.ensures.items ∙ c.loop-token.invariant.seen;
      within = (rw c.in-Some.ensures.cases.0 at c.loop-token.invariant.within).1;
    }

pub loop-token-preserved : goal.loop-token-preserved
loop-token-preserved c =
    let left : is_blank_comma (side_of c.loop-token.region) c.token_of-token.result ≡ true = search rules in
    record {
      seen = left_token c.args.text.now _ _ _ c.in-Some.token.now _ _ _ c.in-Some.ensures.cases.0 c.token_of-token.ensures c.behind-next.ensures left ∙ c.loop-token.invariant.seen;
      within = (rw c.in-Some.ensures.cases.0 at c.loop-token.invariant.within).1;
    }

pub returns-clause-tokens : goal.returns-clause-tokens
returns-clause-tokens c = no_token c.args.text.now _ _ _ _ c.in_default.ensures.cases c.loop-token.invariant.seen
