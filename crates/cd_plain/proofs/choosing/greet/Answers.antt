use Rattle.std.proofs.Common.{◌≡◌, List, true, Some, map, sym, ap, subst, ◌∙◌}
use Rattle.cd_entries.specs.declared.entry.Entry.{Entry}
use Rattle.cd_protocol.specs.Node.{Effect, Reaction}
use Rattle.cd_protocol.specs.Rows.{are_allowed, row_chosen}
use Rattle.cd_protocol.specs.Seen.{seen_effect}
use Rattle.cd_effects.specs.Stands.{spot, WereDone, WereCut}
use Rattle.cd_effects.specs.declared.fault.Fault.TheVariants as fault
use Rattle.cd_session_rules.specs.NodeView.{view_of}
use Rattle.cd_session_rules.specs.Single.{keeps_none}
use Rattle.cd_plain.proofs.Greeting.{chosen_allowed, chosen_none, chosen_fault, chosen_shelf, chosen_cut_shelf, done_same, cut_same, not_of_disk}
use Rattle.cd_exchange.proofs.Taken.{cut_taken}
use Rattle.cd_plain.proofs.Giving.{done_given, cut_given}
use Rattle.cd_plain.proofs.choosing.greet.Goals as goal

pub perform-requires-clause-allowed : goal.perform-requires-clause-allowed
perform-requires-clause-allowed g c =
    let made : map seen_effect c.in-Ok.reaction.effects.items ≡ row_chosen (view_of g.T.Texts.read c.args.config.now c.args.registry.now.entries) c.args.now true (Some c.args.chosen.now) = ap (λ (p : Reaction). p.effects) c.in-Ok.ensures ∙ ap (λ (es : List Entry). row_chosen (view_of g.T.Texts.read c.args.config.now es) c.args.now true (Some c.args.chosen.now)) c.book.ensures in
    (c.args.now, subst (λ (ds : List Effect). are_allowed g.T.Texts.read c.args.now c.args.registry.now.entries ds ≡ true) (sym made) (chosen_allowed (view_of g.T.Texts.read c.args.config.now c.args.registry.now.entries) c.args.now c.args.chosen.now c.requires.known c.requires.block))

pub returns-in-Ok-perform-clause-same : goal.returns-in-Ok-perform-clause-same
returns-in-Ok-perform-clause-same g c =
    let made : map seen_effect c.in-Ok.reaction.effects.items ≡ row_chosen (view_of g.T.Texts.read c.args.config.now c.args.registry.now.entries) c.args.now true (Some c.args.chosen.now) = ap (λ (p : Reaction). p.effects) c.in-Ok.ensures ∙ ap (λ (es : List Entry). row_chosen (view_of g.T.Texts.read c.args.config.now es) c.args.now true (Some c.args.chosen.now)) c.book.ensures in
    done_same g.F.Files.observable g.L.Lines.observable c.args.sid.number (map seen_effect c.in-Ok.reaction.effects.items)
    (spot c.args.registry.now.entries (g.F.Files.state c.args.files.now).shelf c.args.phase.now c.args.owners.now (g.L.Lines.traffic c.args.lines.now))
    (spot c.perform.new.registry.entries (g.F.Files.state c.perform.new.files).shelf c.perform.new.phase c.perform.new.owners (g.L.Lines.traffic c.perform.new.lines))
    (subst (λ (ds : List Effect). keeps_none ds ≡ true) (sym made) (chosen_none (view_of g.T.Texts.read c.args.config.now c.args.registry.now.entries) c.args.now c.args.chosen.now c.requires.known)) c.in-Ok-perform.ensures.done

pub returns-in-Ok-clause-same : goal.returns-in-Ok-clause-same
returns-in-Ok-clause-same g c =
    let made : map seen_effect c.in-Ok.reaction.effects.items ≡ row_chosen (view_of g.T.Texts.read c.args.config.now c.args.registry.now.entries) c.args.now true (Some c.args.chosen.now) = ap (λ (p : Reaction). p.effects) c.in-Ok.ensures ∙ ap (λ (es : List Entry). row_chosen (view_of g.T.Texts.read c.args.config.now es) c.args.now true (Some c.args.chosen.now)) c.book.ensures in
    cut_same g.F.Files.observable g.L.Lines.observable c.args.sid.number (map seen_effect c.in-Ok.reaction.effects.items) c.in-Err-perform.fault
    (spot c.args.registry.now.entries (g.F.Files.state c.args.files.now).shelf c.args.phase.now c.args.owners.now (g.L.Lines.traffic c.args.lines.now))
    (spot c.perform.new.registry.entries (g.F.Files.state c.perform.new.files).shelf c.perform.new.phase c.perform.new.owners (g.L.Lines.traffic c.perform.new.lines))
    (subst (λ (ds : List Effect). keeps_none ds ≡ true) (sym made) (chosen_none (view_of g.T.Texts.read c.args.config.now c.args.registry.now.entries) c.args.now c.args.chosen.now c.requires.known)) c.in-Err-perform.ensures.cut

pub returns-in-Ok-clause-taken : goal.returns-in-Ok-clause-taken
returns-in-Ok-clause-taken g c = λ told. cut_taken g.F.Files.observable g.L.Lines.observable c.args.sid.number (map seen_effect c.in-Ok.reaction.effects.items) c.in-Err-perform.fault
    (spot c.args.registry.now.entries (g.F.Files.state c.args.files.now).shelf c.args.phase.now c.args.owners.now (g.L.Lines.traffic c.args.lines.now))
    (spot c.perform.new.registry.entries (g.F.Files.state c.perform.new.files).shelf c.perform.new.phase c.perform.new.owners (g.L.Lines.traffic c.perform.new.lines))
    c.in-Err-perform.ensures.cut told

pub returns-in-Ok-clause-registry : goal.returns-in-Ok-clause-registry
returns-in-Ok-clause-registry g c = λ told.
    let made : map seen_effect c.in-Ok.reaction.effects.items ≡ row_chosen (view_of g.T.Texts.read c.args.config.now c.args.registry.now.entries) c.args.now true (Some c.args.chosen.now) = ap (λ (p : Reaction). p.effects) c.in-Ok.ensures ∙ ap (λ (es : List Entry). row_chosen (view_of g.T.Texts.read c.args.config.now es) c.args.now true (Some c.args.chosen.now)) c.book.ensures in
    let cut = c.in-Err-perform.ensures.cut in
    let cause = chosen_fault (view_of g.T.Texts.read c.args.config.now c.args.registry.now.entries) c.args.now c.args.chosen.now cut.done cut.torn cut.more c.in-Err-perform.fault c.requires.known (sym made ∙ cut.reactions) cut.cause in
    c.in-Err-perform.ensures.registry told (λ h. let is : c.in-Err-perform.fault ≡ fault.Disk = cc in not_of_disk c.in-Err-perform.fault cause is)

pub returns-in-Ok-perform-clause-shelf : goal.returns-in-Ok-perform-clause-shelf
returns-in-Ok-perform-clause-shelf g c =
    let made : map seen_effect c.in-Ok.reaction.effects.items ≡ row_chosen (view_of g.T.Texts.read c.args.config.now c.args.registry.now.entries) c.args.now true (Some c.args.chosen.now) = ap (λ (p : Reaction). p.effects) c.in-Ok.ensures ∙ ap (λ (es : List Entry). row_chosen (view_of g.T.Texts.read c.args.config.now es) c.args.now true (Some c.args.chosen.now)) c.book.ensures in
    chosen_shelf g.F.Files.observable g.L.Lines.observable c.args.sid.number (view_of g.T.Texts.read c.args.config.now c.args.registry.now.entries) c.args.now c.args.chosen.now
    (spot c.args.registry.now.entries (g.F.Files.state c.args.files.now).shelf c.args.phase.now c.args.owners.now (g.L.Lines.traffic c.args.lines.now))
    (spot c.perform.new.registry.entries (g.F.Files.state c.perform.new.files).shelf c.perform.new.phase c.perform.new.owners (g.L.Lines.traffic c.perform.new.lines))
    c.requires.known
    (subst (λ (ds : List Effect). WereDone g.F.Files.observable g.L.Lines.observable c.args.sid.number ds
    (spot c.args.registry.now.entries (g.F.Files.state c.args.files.now).shelf c.args.phase.now c.args.owners.now (g.L.Lines.traffic c.args.lines.now))
    (spot c.perform.new.registry.entries (g.F.Files.state c.perform.new.files).shelf c.perform.new.phase c.perform.new.owners (g.L.Lines.traffic c.perform.new.lines))) made c.in-Ok-perform.ensures.done)

pub returns-in-Ok-clause-shelf : goal.returns-in-Ok-clause-shelf
returns-in-Ok-clause-shelf g c =
    let made : map seen_effect c.in-Ok.reaction.effects.items ≡ row_chosen (view_of g.T.Texts.read c.args.config.now c.args.registry.now.entries) c.args.now true (Some c.args.chosen.now) = ap (λ (p : Reaction). p.effects) c.in-Ok.ensures ∙ ap (λ (es : List Entry). row_chosen (view_of g.T.Texts.read c.args.config.now es) c.args.now true (Some c.args.chosen.now)) c.book.ensures in
    chosen_cut_shelf g.F.Files.observable g.L.Lines.observable c.args.sid.number (view_of g.T.Texts.read c.args.config.now c.args.registry.now.entries) c.args.now c.args.chosen.now c.in-Err-perform.fault
    (spot c.args.registry.now.entries (g.F.Files.state c.args.files.now).shelf c.args.phase.now c.args.owners.now (g.L.Lines.traffic c.args.lines.now))
    (spot c.perform.new.registry.entries (g.F.Files.state c.perform.new.files).shelf c.perform.new.phase c.perform.new.owners (g.L.Lines.traffic c.perform.new.lines))
    c.requires.known
    (subst (λ (ds : List Effect). WereCut g.F.Files.observable g.L.Lines.observable c.args.sid.number ds c.in-Err-perform.fault
    (spot c.args.registry.now.entries (g.F.Files.state c.args.files.now).shelf c.args.phase.now c.args.owners.now (g.L.Lines.traffic c.args.lines.now))
    (spot c.perform.new.registry.entries (g.F.Files.state c.perform.new.files).shelf c.perform.new.phase c.perform.new.owners (g.L.Lines.traffic c.perform.new.lines))) made c.in-Err-perform.ensures.cut)

pub returns-in-Ok-perform-clause-given : goal.returns-in-Ok-perform-clause-given
returns-in-Ok-perform-clause-given g c = done_given g.F.Files.observable g.L.Lines.observable c.args.sid.number (map seen_effect c.in-Ok.reaction.effects.items)
    (spot c.args.registry.now.entries (g.F.Files.state c.args.files.now).shelf c.args.phase.now c.args.owners.now (g.L.Lines.traffic c.args.lines.now))
    (spot c.perform.new.registry.entries (g.F.Files.state c.perform.new.files).shelf c.perform.new.phase c.perform.new.owners (g.L.Lines.traffic c.perform.new.lines))
    c.in-Ok-perform.ensures.done

pub returns-in-Ok-clause-given : goal.returns-in-Ok-clause-given
returns-in-Ok-clause-given g c = cut_given g.F.Files.observable g.L.Lines.observable c.args.sid.number (map seen_effect c.in-Ok.reaction.effects.items) c.in-Err-perform.fault
    (spot c.args.registry.now.entries (g.F.Files.state c.args.files.now).shelf c.args.phase.now c.args.owners.now (g.L.Lines.traffic c.args.lines.now))
    (spot c.perform.new.registry.entries (g.F.Files.state c.perform.new.files).shelf c.perform.new.phase c.perform.new.owners (g.L.Lines.traffic c.perform.new.lines))
    c.in-Err-perform.ensures.cut
