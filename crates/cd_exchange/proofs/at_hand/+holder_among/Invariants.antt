use Rattle.std.proofs.Common.{length}
use Rattle.cd_exchange.proofs.at_hand.+holder_among.Given as goal

abbrev pub decreases-holder_among : goal.decreases-holder_among
decreases-holder_among l = length l.holdings.now
