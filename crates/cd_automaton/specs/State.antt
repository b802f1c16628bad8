-- Where in the grammar reading stands between two tokens.
use Rattle.std.specs.Prelude.{ℕ, List, Option}
use Rattle.cd_types.specs.declared.choices.Relation.{Relation}
use Rattle.cd_types.specs.declared.start.Day.{Day}
use Rattle.cd_grammar.specs.declared.token.Key.{Key}
use Rattle.cd_grammar.specs.declared.given.Given.{Given}
use Rattle.cd_grammar.specs.declared.given.Slot.{Slot}
use Rattle.cd_grammar.specs.declared.step.Begun.{Begun}
use Rattle.cd_grammar.specs.declared.step.Clock.{Clock}
use Rattle.cd_grammar.specs.declared.step.End.{End}
use Rattle.cd_grammar.specs.declared.step.CopyGiven.{CopyGiven}
use Rattle.cd_grammar.specs.declared.step.Step.{Step}

pub data State : Type 0 where
  -- where a parameter may stand, and, where nothing is missing, the next statement
  At : Step → State
  -- behind a statement's label
  Labelled : ℕ → List ℕ → State
  -- behind a word that names a parameter; where a label may stand, it may be one
  Named : Step → Slot → ℕ → Key → List ℕ → State
  -- before a parameter's value, whose word stands at this place
  Value : Step → Slot → ℕ → State
  -- before a value in parentheses, and behind it
  Parenthesized : Step → Slot → ℕ → State
  Closing : Step → State
  -- in a list of values
  Values : Step → State
  -- behind a symbolic name, and behind its =
  Symbol : Step → List ℕ → State
  SymbolValue : Step → List ℕ → State
  -- in the parentheses of STARTT: before the day, behind it, before the time, and behind it
  Starting : Given → State
  Dated : Given → Day → State
  Timing : Given → Day → State
  Timed : Given → Day → Option Clock → ℕ → State
  -- behind FROM or TO
  GroupOpen : Begun → CopyGiven → End → State
  -- behind COMPRESS
  Compress : Begun → CopyGiven → State
  -- behind PRIMECHAR, behind its =, and behind its word
  Prime : Begun → CopyGiven → State
  PrimeValue : Begun → CopyGiven → State
  Primed : Begun → CopyGiven → State
  -- behind EXTENDED, and behind its =
  Extended : Begun → CopyGiven → State
  Extending : Begun → CopyGiven → State
  -- in a list of pairs: before one, behind its first word, and behind its =
  Pairs : Step → State
  PairNamed : Step → State
  PairValue : Step → State
  -- behind RUN
  Running : Begun → State
  -- behind IF, and behind each of the tokens after it
  IfOpen : Begun → State
  IfLabel : Begun → State
  IfRelation : Begun → ℕ → List ℕ → State
  IfNumber : Begun → ℕ → List ℕ → Relation → State
  IfClose : Begun → ℕ → List ℕ → Relation → ℕ → State
  IfThen : Begun → ℕ → List ℕ → Relation → ℕ → State
  -- behind GOTO
  GotoLabel : Begun → State
  -- behind PEND, and behind its ;
  Ended : State
  Closed : State
