use Rattle.std.specs.Option.{option_map}
use Rattle.std.proofs.Common.{List, ℕ, Bor}
use Rattle.cd_lexer.proofs.Parts.{first_part_by}
use Rattle.cd_lexer.proofs.part.first_part.Goals as goal

pub returns-clause-some : goal.returns-clause-some
returns-clause-some c =
    first_part_by c.args.defines c.args.bytes.now _ _ (c.part_at-len.result.0, option_map (λ (name : Bor (List ℕ)). name.now) c.part_at-len.result.1) _ _ c.in_ok-byte.ensures.cases.0 c.part_at-len.ensures.exact c.part_at-len.ensures.within.0 c.split_at.ensures.front c.split_at.ensures.back
