use Rattle.cd_commands.proofs.Cuts.{first_by}
use Rattle.cd_commands.proofs.piece.first_piece.Goals as goal

pub returns-clause-some : goal.returns-clause-some
returns-clause-some c =
    first_by c.args.before c.args.text.now _ _ c.piece_at-kind.result _ _ c.in_ok-byte.ensures.cases.0 c.piece_at-kind.ensures.exact c.piece_at-kind.ensures.within.0 c.split_at.ensures.front c.split_at.ensures.back
