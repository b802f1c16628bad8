use Rattle.std.proofs.Common.{sym}
use Rattle.cd_grammar.proofs.Labels.{label_some, label_none}
use Rattle.cd_grammar.proofs.values.label_in.Goals as goal

pub returns-in-Some : goal.returns-in-Some
returns-in-Some c = sym (label_some c.args.key c.args.word.now c.in-Some.label (sym c.if-is_own.ensures) (sym c.in-Some.ensures))

pub returns-in-None : goal.returns-in-None
returns-in-None c = sym (label_none c.args.key c.args.word.now (sym c.if-is_own.ensures) (sym c.in-None.ensures))
