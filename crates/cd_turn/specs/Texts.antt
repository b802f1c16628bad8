-- The texts that a journal keeps of submitted Processes.
use Rattle.std.specs.Prelude.{◌≡◌, ℕ, List, Option, Some, None, if◌then◌else◌}
use Rattle.std.specs.Option.{option_map}
use Rattle.cd_types.specs.declared.card.Filed.{Filed}
use Rattle.cd_types.specs.declared.start.Card.{Card}
use Rattle.cd_ast.specs.declared.process.Process.{Process}
use Rattle.cd_submission.specs.Filing.{default_interval, is_push}
use Rattle.cd_canonical.specs.Read.{canonical_reading}

-- the card that is kept of a Process with this partner; it has no start of its own
abbrev pub card_for : List ℕ → Card → Filed
card_for snode card = record { name = card.name; snode = snode; prty = card.prty; class = card.class; hold = card.hold; retain = card.retain; start = None }

-- the card of a Process, where it names its partner
abbrev pub filed_card : Card → Option Filed
filed_card card = option_map (λ snode. card_for snode card) card.snode

-- the card of a Process that is built
abbrev pub push_card : Option Process → Option Filed
push_card None = None
push_card (Some process) = if is_push (Some default_interval) process then filed_card process.card else None

-- the card of the Process whose canonical text this is, where there is one that is built and names its partner
unfoldable pub card_in : List ℕ → Option Filed
card_in text = push_card (canonical_reading text)

-- a card without its start
abbrev pub without_start : Filed → Filed
without_start card = record card { start = None }

-- the text is the canonical one of a Process that is built, and the card is that Process's; of its start nothing is asked
abbrev pub IsText : Filed → List ℕ → Type 0
IsText card text = card_in text ≡ Some (without_start card)
