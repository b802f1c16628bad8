use Rattle.std.proofs.Common.{length}
use Rattle.cd_exchange.proofs.at_hand.+key_among.Given as goal

abbrev pub decreases-key_among : goal.decreases-key_among
decreases-key_among l = length l.sessions.now
