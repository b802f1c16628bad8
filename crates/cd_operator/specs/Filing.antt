-- Which Processes a node files, and with which card.
use Rattle.std.specs.Prelude.{ℕ, List, Bool, true, false, Option, Some, None, Result, Ok, Err}
use Rattle.cd_types.specs.declared.card.Filed.{Filed}
use Rattle.cd_types.specs.declared.choices.Hold.{Hold}
use Rattle.cd_types.specs.declared.choices.Hold.TheVariants as hold
use Rattle.cd_types.specs.declared.choices.Retain.{Retain}
use Rattle.cd_types.specs.declared.choices.Retain.TheVariants as retain
use Rattle.cd_types.specs.declared.start.Card.{Card}
use Rattle.cd_types.specs.declared.start.Start.{Start}
use Rattle.cd_ast.specs.declared.process.What.{What}
use Rattle.cd_ast.specs.declared.process.What.TheVariants as what
use Rattle.cd_operator.specs.declared.reply.Refused.{Refused}
use Rattle.cd_operator.specs.declared.reply.Refused.TheVariants.{NoNode}

-- a node runs such a statement: all but those that run commands or submit
abbrev pub is_built : What → Bool
is_built (what.Copy step) = true
is_built (what.Task step) = false
is_built (what.Submit step) = false
is_built (what.If label relation n) = true
is_built what.Else = true
is_built what.Eif = true
is_built (what.Goto label) = true
is_built what.Exit = true

-- it has no start of its own, isn't kept for copies, and doesn't wait for a call
abbrev pub may_wait_so : Option Start → Retain → Hold → Bool
may_wait_so None retain.No hold.No = true
may_wait_so None retain.No hold.Yes = true
may_wait_so _ _ _ = false

abbrev pub may_wait : Card → Bool
may_wait card = may_wait_so card.start card.retain card.hold

abbrev pub card_of : List ℕ → List ℕ → Card → Filed
card_of name snode card = record { name = name; snode = snode; prty = card.prty; class = card.class; hold = card.hold; retain = card.retain; start = None }

abbrev pub with_partner : List ℕ → Option (List ℕ) → Card → Result Filed Refused
with_partner name None card = Err NoNode
with_partner name (Some snode) card = Ok (card_of name snode card)

-- the card with which a Process of this name is filed, or why it isn't
abbrev pub filed_as : List ℕ → Card → Result Filed Refused
filed_as name card = with_partner name card.snode card
