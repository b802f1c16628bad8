use Rattle.std.proofs.Common.{ℕ, List, take, sym, ap, ◌∙◌}
use Rattle.cd_drill.specs.Pairs.{answer_to}
use Rattle.cd_drill.proofs.test_pair.bring.Goals as goal

pub returns-then-has_taken-clause-brought : goal.returns-then-has_taken-clause-brought
returns-then-has_taken-clause-brought c = record {
  at = c.pass.new.to;
  came = rw c.given.ensures at c.in-Ok.ensures.came;
  answer = c.in-Ok-turn.answer;
  answered = c.is_answer_to.ensures c.if-is_answer_to.true ∙ ap (λ (way : List ℕ). answer_to way c.args.to_sid) c.on_way.ensures;
  turned = c.in-Ok-turn.ensures.turned;
  taken = sym c.taken.ensures ∙ c.has_taken.ensures c.if-has_taken.true ∙ ap (take c.in-Ok.came) c.given-then-is_answer_to.ensures;
}
