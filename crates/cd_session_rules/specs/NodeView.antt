-- What the rules see of a node's view in the program: its book's entries, its block, its partners, and how its texts are read.
use Rattle.std.specs.Prelude.{ℕ, List, [], ◌∷◌, Option, Some, None, if◌then◌else◌}
use Rattle.std.specs.Str.{bytes_eq}
use Rattle.cd_entries.specs.declared.entry.Entry.{Entry}
use Rattle.cd_rules.specs.Queue as queue
use Rattle.cd_rules.specs.Steps.{Reading}
use Rattle.cd_protocol.specs.Node.{NodeView, Effect, Keep}
use Rattle.cd_session_rules.specs.declared.config.Config.{Config}
use Rattle.cd_session_rules.specs.declared.config.Partner.{Partner}
use Rattle.cd_session_rules.specs.declared.config.Waits.{Waits}

abbrev pub seen_waits : Waits → queue.Waits
seen_waits w = record { short = w.short; short_attempts = w.short_attempts; long = w.long; long_attempts = w.long_attempts }

-- the waits for a partner: those that its name has first in the list
abbrev pub partner_in : List Partner → List ℕ → Option queue.Waits
partner_in [] name = None
partner_in (p ∷ more) name = if bytes_eq name p.name then Some (seen_waits p.waits) else partner_in more name

abbrev pub view_of : Reading → Config → List Entry → NodeView
view_of read config entries = record { config = record { block = config.block; partner = partner_in config.partners.items; read = read }; journal = entries }

-- what records an entry, where there is one
abbrev pub kept : Option Entry → List Effect
kept None = []
kept (Some e) = Keep e ∷ []
