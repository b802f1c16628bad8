use Rattle.cd_session_rules.proofs.One.{kept_other, no_process}
use Rattle.cd_session_rules.proofs.checking.is_entry_allowed.Goals as goal

pub may_record-requires : goal.may_record-requires
may_record-requires g c = no_process g.T.Texts.read c.in-Some.entry.now (kept_other c.args.effects.now c.in-Some.entry.now c.requires c.in-Some.ensures)
