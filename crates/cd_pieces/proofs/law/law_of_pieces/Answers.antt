use Rattle.cd_pieces.proofs.PieceLaw.{piece_end-next_cut}
use Rattle.cd_pieces.proofs.law.law_of_pieces.Goals as goal

pub returns : goal.returns
returns c = piece_end-next_cut
