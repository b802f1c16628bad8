use Rattle.cd_parser.proofs.classify.behind.Goals as goal

pub returns-in-Mark : goal.returns-in-Mark
returns-in-Mark c = rw c.in-Mark.is (c.behind_sign.ensures c.in-Mark.field-0)
