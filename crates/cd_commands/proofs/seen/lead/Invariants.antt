use Rattle.std.proofs.Common.{◌≡◌, ◌+◌, length}
use Rattle.cd_ast.specs.Pieces.{pieces_after, pieces_of}
use Rattle.cd_commands.specs.Seen.{lead_from}
use Rattle.cd_commands.proofs.seen.lead.Given as goal

abbrev pub invariant-loop-piece : goal.invariant-loop-piece
invariant-loop-piece l = record {
  told : l.len + lead_from (pieces_after 0 l.before l.rest) ≡ lead_from (pieces_of l.fn.text);
  place : l.len + length l.rest ≡ length l.fn.text;
}

abbrev pub decreases-loop-piece : goal.decreases-loop-piece
decreases-loop-piece l = length l.rest
