use Rattle.std.proofs.Common.{◌≡◌, None, Err, [], refl, map, ap}
use Rattle.cd_protocol.specs.Rows.{most_reactions}
use Rattle.cd_protocol.specs.Seen.{seen_effect, seen_reaction}
use Rattle.cd_effects.specs.Stands.{spot}
use Rattle.cd_effects.specs.declared.fault.Fault.{Fault}
use Rattle.cd_effects.specs.declared.fault.Fault.TheVariants as fault
use Rattle.cd_exchange.specs.Question.{answers_of}
use Rattle.cd_protocol.specs.Node.{does}
use Rattle.cd_effects.specs.Joint.{JointAt}
use Rattle.cd_exchange.proofs.Crash.{reactions_first, reactions_then}
use Rattle.cd_exchange.proofs.Reactions.{done_legal, done_on_time, cut_legal, cut_on_time}
use Rattle.cd_exchange.proofs.Way.{so_behind, reactions_done, reactions_told, reactions_cut, reactions_stopped}
use Rattle.cd_exchange.proofs.row.go_all.Goals as goal

pub go_on-requires-clause-legal : goal.go_on-requires-clause-legal
go_on-requires-clause-legal g c =
    done_legal (g.R.Rules.setting c.args.rules.now) g.T.Texts.read c.requires.priorities c.args.now g.F.Files.observable g.L.Lines.observable c.args.sid.number (map seen_effect c.args.reaction.effects.items)
    (spot c.args.registry.now.entries (g.F.Files.state c.args.files.now).shelf c.args.phase.now c.args.owners.now (g.L.Lines.traffic c.args.lines.now))
    (spot c.perform.new.registry.entries (g.F.Files.state c.perform.new.files).shelf c.perform.new.phase c.perform.new.owners (g.L.Lines.traffic c.perform.new.lines))
    c.requires.legal c.requires.allowed c.in-Ok.ensures.done

pub go_on-requires-clause-on_time : goal.go_on-requires-clause-on_time
go_on-requires-clause-on_time g c =
    done_on_time (g.R.Rules.setting c.args.rules.now) g.T.Texts.read c.requires.priorities c.args.now g.F.Files.observable g.L.Lines.observable c.args.sid.number (map seen_effect c.args.reaction.effects.items)
    (spot c.args.registry.now.entries (g.F.Files.state c.args.files.now).shelf c.args.phase.now c.args.owners.now (g.L.Lines.traffic c.args.lines.now))
    (spot c.perform.new.registry.entries (g.F.Files.state c.perform.new.files).shelf c.perform.new.phase c.perform.new.owners (g.L.Lines.traffic c.perform.new.lines))
    c.requires.on_time c.requires.allowed c.in-Ok.ensures.done

pub returns-in-Ok-go_on-clause-done : goal.returns-in-Ok-go_on-clause-done
returns-in-Ok-go_on-clause-done g c =
    reactions_done g.F.Files.observable g.L.Lines.observable (g.R.Rules.setting c.args.rules.now) g.T.Texts.read c.args.sid.number most_reactions (seen_reaction c.args.reaction) (answers_of c.args.now c.go_on.new.given c.go_on.new.buffer.items)
    (spot c.args.registry.now.entries (g.F.Files.state c.args.files.now).shelf c.args.phase.now c.args.owners.now (g.L.Lines.traffic c.args.lines.now))
    (spot c.perform.new.registry.entries (g.F.Files.state c.perform.new.files).shelf c.perform.new.phase c.perform.new.owners (g.L.Lines.traffic c.perform.new.lines))
    (spot c.go_on.new.registry.entries (g.F.Files.state c.go_on.new.files).shelf c.go_on.new.phase c.go_on.new.owners (g.L.Lines.traffic c.go_on.new.lines))
    c.in-Ok.ensures.done c.in-Ok-go_on.ensures.done

pub returns-in-Ok-go_on-clause-told : goal.returns-in-Ok-go_on-clause-told
returns-in-Ok-go_on-clause-told g c = λ told.
    reactions_told g.F.Files.observable g.L.Lines.observable (g.R.Rules.setting c.args.rules.now) g.T.Texts.read c.args.sid.number most_reactions (seen_reaction c.args.reaction) (answers_of c.args.now c.go_on.new.given c.go_on.new.buffer.items)
    (spot c.args.registry.now.entries (g.F.Files.state c.args.files.now).shelf c.args.phase.now c.args.owners.now (g.L.Lines.traffic c.args.lines.now))
    (spot c.perform.new.registry.entries (g.F.Files.state c.perform.new.files).shelf c.perform.new.phase c.perform.new.owners (g.L.Lines.traffic c.perform.new.lines))
    c.in-Ok.ensures.done (c.in-Ok-go_on.ensures.told told)

pub returns-in-Err-clause-registry : goal.returns-in-Err-clause-registry
returns-in-Err-clause-registry g c = λ told other. c.in-Err.ensures.registry told (λ h. let is : c.in-Err.fault ≡ fault.Disk = cc in other (ap (λ (f : Fault). Err f) is))

pub returns-in-Err-clause-stopped : goal.returns-in-Err-clause-stopped
returns-in-Err-clause-stopped g c =
    reactions_cut g.F.Files.observable g.L.Lines.observable (g.R.Rules.setting c.args.rules.now) g.T.Texts.read c.args.sid.number most_reactions c.args.now (seen_reaction c.args.reaction) (answers_of c.args.now (record { there = None; source = None }) []) c.in-Err.fault
    (spot c.args.registry.now.entries (g.F.Files.state c.args.files.now).shelf c.args.phase.now c.args.owners.now (g.L.Lines.traffic c.args.lines.now))
    (spot c.perform.new.registry.entries (g.F.Files.state c.perform.new.files).shelf c.perform.new.phase c.perform.new.owners (g.L.Lines.traffic c.perform.new.lines))
    refl c.in-Err.ensures.cut

pub returns-in-Err-go_on-clause-stopped : goal.returns-in-Err-go_on-clause-stopped
returns-in-Err-go_on-clause-stopped g c =
    reactions_stopped g.F.Files.observable g.L.Lines.observable (g.R.Rules.setting c.args.rules.now) g.T.Texts.read c.args.sid.number most_reactions c.args.now (seen_reaction c.args.reaction) c.in-Err-go_on.fault
    (spot c.args.registry.now.entries (g.F.Files.state c.args.files.now).shelf c.args.phase.now c.args.owners.now (g.L.Lines.traffic c.args.lines.now))
    (spot c.perform.new.registry.entries (g.F.Files.state c.perform.new.files).shelf c.perform.new.phase c.perform.new.owners (g.L.Lines.traffic c.perform.new.lines))
    (spot c.go_on.new.registry.entries (g.F.Files.state c.go_on.new.files).shelf c.go_on.new.phase c.go_on.new.owners (g.L.Lines.traffic c.go_on.new.lines))
    c.in-Ok.ensures.done c.in-Err-go_on.ensures.stopped

pub returns-in-Ok-go_on-clause-moments : goal.returns-in-Ok-go_on-clause-moments
returns-in-Ok-go_on-clause-moments g c = λ told files_told node is.
    reactions_then c.args.sid.number most_reactions (seen_reaction c.args.reaction) (answers_of c.args.now c.go_on.new.given c.go_on.new.buffer.items) node
    (JointAt (g.D.Disk.state c.args.disk.now) (g.F.Files.state c.args.files.now)) (JointAt (g.D.Disk.state c.perform.new.disk) (g.F.Files.state c.perform.new.files)) (JointAt (g.D.Disk.state c.go_on.new.disk) (g.F.Files.state c.go_on.new.files)) c.args.beat.now c.perform.new.beat c.perform.ensures.beat (c.perform.ensures.moments told files_told node is.stands)
    (c.in-Ok-go_on.ensures.moments told files_told (does c.args.sid.number (seen_reaction c.args.reaction).effects node) (so_behind g.F.Files.observable g.L.Lines.observable (g.R.Rules.setting c.args.rules.now) g.T.Texts.read c.args.sid.number (seen_reaction c.args.reaction).effects
    (spot c.args.registry.now.entries (g.F.Files.state c.args.files.now).shelf c.args.phase.now c.args.owners.now (g.L.Lines.traffic c.args.lines.now))
    (spot c.perform.new.registry.entries (g.F.Files.state c.perform.new.files).shelf c.perform.new.phase c.perform.new.owners (g.L.Lines.traffic c.perform.new.lines))
    c.in-Ok.ensures.done node is))

pub returns-in-Err-clause-crash : goal.returns-in-Err-clause-crash
returns-in-Err-clause-crash g c = λ told files_told node is. record {
  answers = (answers_of c.args.now (record { there = None; source = None }) []);
  moment = refl;
  moments = reactions_first c.args.sid.number most_reactions (seen_reaction c.args.reaction) (answers_of c.args.now (record { there = None; source = None }) []) node (JointAt (g.D.Disk.state c.args.disk.now) (g.F.Files.state c.args.files.now)) (JointAt (g.D.Disk.state c.perform.new.disk) (g.F.Files.state c.perform.new.files)) c.args.beat.now (c.perform.ensures.moments told files_told node is.stands);
}

pub returns-in-Err-go_on-clause-crash : goal.returns-in-Err-go_on-clause-crash
returns-in-Err-go_on-clause-crash g c = λ told files_told node is.
    let left = c.in-Err-go_on.ensures.crash told files_told (does c.args.sid.number (seen_reaction c.args.reaction).effects node) (so_behind g.F.Files.observable g.L.Lines.observable (g.R.Rules.setting c.args.rules.now) g.T.Texts.read c.args.sid.number (seen_reaction c.args.reaction).effects
    (spot c.args.registry.now.entries (g.F.Files.state c.args.files.now).shelf c.args.phase.now c.args.owners.now (g.L.Lines.traffic c.args.lines.now))
    (spot c.perform.new.registry.entries (g.F.Files.state c.perform.new.files).shelf c.perform.new.phase c.perform.new.owners (g.L.Lines.traffic c.perform.new.lines))
    c.in-Ok.ensures.done node is) in
    record {
      answers = left.answers;
      moment = left.moment;
      moments = reactions_then c.args.sid.number most_reactions (seen_reaction c.args.reaction) left.answers node
          (JointAt (g.D.Disk.state c.args.disk.now) (g.F.Files.state c.args.files.now)) (JointAt (g.D.Disk.state c.perform.new.disk) (g.F.Files.state c.perform.new.files)) (JointAt (g.D.Disk.state c.go_on.new.disk) (g.F.Files.state c.go_on.new.files)) c.args.beat.now c.perform.new.beat c.perform.ensures.beat (c.perform.ensures.moments told files_told node is.stands)
          left.moments;
    }

pub returns-in-Err-clause-legal : goal.returns-in-Err-clause-legal
returns-in-Err-clause-legal g c =
    cut_legal (g.R.Rules.setting c.args.rules.now) g.T.Texts.read c.requires.priorities c.args.now g.F.Files.observable g.L.Lines.observable c.args.sid.number (map seen_effect c.args.reaction.effects.items) c.in-Err.fault
    (spot c.args.registry.now.entries (g.F.Files.state c.args.files.now).shelf c.args.phase.now c.args.owners.now (g.L.Lines.traffic c.args.lines.now))
    (spot c.perform.new.registry.entries (g.F.Files.state c.perform.new.files).shelf c.perform.new.phase c.perform.new.owners (g.L.Lines.traffic c.perform.new.lines))
    c.requires.legal c.requires.allowed c.in-Err.ensures.cut

pub returns-in-Err-clause-on_time : goal.returns-in-Err-clause-on_time
returns-in-Err-clause-on_time g c =
    cut_on_time (g.R.Rules.setting c.args.rules.now) g.T.Texts.read c.requires.priorities c.args.now g.F.Files.observable g.L.Lines.observable c.args.sid.number (map seen_effect c.args.reaction.effects.items) c.in-Err.fault
    (spot c.args.registry.now.entries (g.F.Files.state c.args.files.now).shelf c.args.phase.now c.args.owners.now (g.L.Lines.traffic c.args.lines.now))
    (spot c.perform.new.registry.entries (g.F.Files.state c.perform.new.files).shelf c.perform.new.phase c.perform.new.owners (g.L.Lines.traffic c.perform.new.lines))
    c.requires.on_time c.requires.allowed c.in-Err.ensures.cut
