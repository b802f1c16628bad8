use Rattle.cd_lexer.proofs.Laws.{pieces-whole, tokens-slices, tokens-order}
use Rattle.cd_lexer.proofs.law.law_of_tokens.Goals as goal

pub returns : goal.returns
returns c = record { whole = pieces-whole; slices = tokens-slices; order = tokens-order }
