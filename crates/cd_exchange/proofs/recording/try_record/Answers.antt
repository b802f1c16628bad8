use Rattle.std.proofs.Common.{◌≡◌, ◌≤◌, List, true, sym, subst}
use Rattle.cd_entries.specs.declared.entry.Entry.{Entry}
use Rattle.cd_rules.specs.Processes.{latest}
use Rattle.cd_rules.specs.Legal.{is_legal}
use Rattle.cd_protocol.specs.Rows.{may_record}
use Rattle.cd_exchange.proofs.Recorded.{recorded_legal, recorded_on_time}
use Rattle.cd_exchange.proofs.recording.try_record.Goals as goal

pub returns-in-Ok-clause-legal : goal.returns-in-Ok-clause-legal
returns-in-Ok-clause-legal g c =
    let may = subst (λ (es : List Entry). may_record g.T.Texts.read c.args.now es c.args.entry ≡ true) c.book.ensures (sym c.if-not-may_record.ensures) in
    subst (λ (es : List Entry). is_legal g.T.Texts.read es ≡ true) (sym c.in-Ok.ensures.kept) (recorded_legal g.T.Texts.read c.args.now c.args.registry.now.entries c.args.entry c.requires.legal may)

pub returns-in-Ok-clause-on_time : goal.returns-in-Ok-clause-on_time
returns-in-Ok-clause-on_time g c =
    let may = subst (λ (es : List Entry). may_record g.T.Texts.read c.args.now es c.args.entry ≡ true) c.book.ensures (sym c.if-not-may_record.ensures) in
    subst (λ (es : List Entry). latest es ≤ c.args.now) (sym c.in-Ok.ensures.kept) (recorded_on_time g.T.Texts.read c.args.now c.args.registry.now.entries c.args.entry c.requires.on_time may)
