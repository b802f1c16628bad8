use Rattle.std.proofs.Common.{◌≡◌, ◌++◌, length, map}
use Rattle.cd_lexer.specs.Spans.{span_of}
use Rattle.cd_grammar.specs.Tokens.{Out, token_of, without_commas}
use Rattle.cd_parser.specs.Region.{side_of, AreWithin}
use Rattle.cd_parser.proofs.classify.classify.Given as goal

abbrev pub invariant-loop-token : goal.invariant-loop-token
invariant-loop-token l = record {
  seen : l.seen.items ++ without_commas (side_of l.region) (map (token_of l.text) (map span_of l.rest)) ≡ without_commas Out (map (token_of l.text) (map span_of l.fn.tokens));
  within : AreWithin (length l.text) l.rest;
}

abbrev pub decreases-loop-token : goal.decreases-loop-token
decreases-loop-token l = length l.rest
