use Rattle.std.proofs.Common.{Bool, subst}
use Rattle.cd_drill.specs.Linking.{choice_answer}
use Rattle.cd_drill.specs.Pairs.{ChoseAtA}
use Rattle.cd_drill.proofs.Turns.{chose_behind}
use Rattle.cd_drill.proofs.test_pair.TestPair.choose.Goals as goal

pub returns-clause-chose : goal.returns-clause-chose
returns-clause-chose c =
    chose_behind c.args.self.now c.choose_at_a.new.self c.choose_at_b.new.self c.in_ok-at_b.at_b
    (subst (λ (there : Bool). ChoseAtA (choice_answer there) c.args.self.now c.choose_at_a.new.self) c.if-at_a.false c.in_ok-at_a.ensures.chose) c.in_ok-at_b.ensures.chose
