-- What a node is set up with, as its rules see it.
use Rattle.cd_session_rules.specs.NodeView.{partner_in}
use Rattle.cd_session_rules.specs.declared.config.Config.{Config}
use Rattle.cd_exchange.specs.Question.{Setting}

-- its block, and the waits for each partner that it can call
abbrev pub setting_of : Config → Setting
setting_of config = record { block = config.block; partner = partner_in config.partners.items }
