use Rattle.cd_protocol.specs.Rows.{reaction_behind}
use Rattle.cd_session_rules.proofs.SingleLaw.{reaction_in-one, reaction_behind-one, checked-one, first_reaction-one, close-one, trouble-one}
use Rattle.cd_session_rules.proofs.law.law_of_reactions.Goals as goal

pub returns : goal.returns
returns c = record {
  first = λ view sessions now sid m phase. (reaction_in-one view now sessions sid m phase).is;
  tested = λ view sessions now sid m. (first_reaction-one view now sessions sid m).is;
  behind = λ view now phase answers then. (reaction_behind-one view now phase answers then).is;
  tested_behind = λ view now phase answers then. (checked-one view now phase (reaction_behind view now phase answers then) (reaction_behind-one view now phase answers then)).is;
  ended = λ view now phase. (close-one view now phase).is;
  troubled = λ view now phase. (trouble-one view now phase).is;
}
