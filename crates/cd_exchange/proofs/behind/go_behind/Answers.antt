use Rattle.std.proofs.Common.{◌≡◌, ◌∙◌, List, subst, Err, inl, inr, [], refl, ap, map}
use Rattle.cd_entries.specs.declared.entry.Entry.{Entry}
use Rattle.cd_protocol.specs.Seen.{seen_effect, seen_reaction}
use Rattle.cd_effects.specs.Stands.{spot}
use Rattle.cd_effects.specs.declared.fault.Fault.{Fault}
use Rattle.cd_effects.specs.declared.fault.Fault.TheVariants as fault
use Rattle.cd_exchange.specs.Question.{view_with, answers_of, seen_question, reaction_at, question_of, IsAnswered, Question}
use Rattle.cd_exchange.proofs.Crash.{nothing_moves, reaction_made, made_moments}
use Rattle.cd_exchange.proofs.Reactions.{made_fits, done_legal, done_on_time, cut_legal, cut_on_time}
use Rattle.cd_outside.specs.Files.{FilesState}
use Rattle.cd_exchange.proofs.Way.{nothing_done, behind_stopped}
use Rattle.cd_exchange.proofs.behind.go_behind.Goals as goal

pub perform-requires-clause-allowed : goal.perform-requires-clause-allowed
perform-requires-clause-allowed g c = (
  c.args.now,
  made_fits (g.R.Rules.setting c.args.rules.now) g.T.Texts.read c.requires.priorities c.args.now c.args.registry.now.entries c.book-2.result.now.entries c.args.phase.now
      (answers_of c.args.now c.ask.new.given c.as_slice.result.now) c.args.then.now (seen_reaction c.in-Ok-reaction_behind.reaction) c.book-2.ensures c.in-Ok-reaction_behind.ensures.reaction c.requires.legal c.requires.on_time refl,
)

pub returns-in-Ok-perform-clause-legal : goal.returns-in-Ok-perform-clause-legal
returns-in-Ok-perform-clause-legal g c =
    done_legal (g.R.Rules.setting c.args.rules.now) g.T.Texts.read c.requires.priorities c.args.now g.F.Files.observable g.L.Lines.observable c.args.sid.number (map seen_effect c.in-Ok-reaction_behind.reaction.effects.items)
    (spot c.args.registry.now.entries (g.F.Files.state c.ask.new.files).shelf c.args.phase.now c.args.owners.now (g.L.Lines.traffic c.args.lines.now))
    (spot c.perform.new.registry.entries (g.F.Files.state c.perform.new.files).shelf c.perform.new.phase c.perform.new.owners (g.L.Lines.traffic c.perform.new.lines))
    c.requires.legal
    (made_fits (g.R.Rules.setting c.args.rules.now) g.T.Texts.read c.requires.priorities c.args.now c.args.registry.now.entries c.book-2.result.now.entries c.args.phase.now
    (answers_of c.args.now c.ask.new.given c.as_slice.result.now) c.args.then.now (seen_reaction c.in-Ok-reaction_behind.reaction) c.book-2.ensures c.in-Ok-reaction_behind.ensures.reaction c.requires.legal c.requires.on_time refl)
    c.in-Ok-perform.ensures.done

pub returns-in-Ok-perform-clause-on_time : goal.returns-in-Ok-perform-clause-on_time
returns-in-Ok-perform-clause-on_time g c =
    done_on_time (g.R.Rules.setting c.args.rules.now) g.T.Texts.read c.requires.priorities c.args.now g.F.Files.observable g.L.Lines.observable c.args.sid.number (map seen_effect c.in-Ok-reaction_behind.reaction.effects.items)
    (spot c.args.registry.now.entries (g.F.Files.state c.ask.new.files).shelf c.args.phase.now c.args.owners.now (g.L.Lines.traffic c.args.lines.now))
    (spot c.perform.new.registry.entries (g.F.Files.state c.perform.new.files).shelf c.perform.new.phase c.perform.new.owners (g.L.Lines.traffic c.perform.new.lines))
    c.requires.on_time
    (made_fits (g.R.Rules.setting c.args.rules.now) g.T.Texts.read c.requires.priorities c.args.now c.args.registry.now.entries c.book-2.result.now.entries c.args.phase.now
    (answers_of c.args.now c.ask.new.given c.as_slice.result.now) c.args.then.now (seen_reaction c.in-Ok-reaction_behind.reaction) c.book-2.ensures c.in-Ok-reaction_behind.ensures.reaction c.requires.legal c.requires.on_time refl)
    c.in-Ok-perform.ensures.done

pub returns-in-Err-perform-clause-registry : goal.returns-in-Err-perform-clause-registry
returns-in-Err-perform-clause-registry g c = λ told other. c.in-Err-perform.ensures.registry told (λ h. let is : c.in-Err-perform.fault ≡ fault.Disk = cc in other (ap (λ (f : Fault). Err f) is))

pub returns-in-Err-clause-stopped : goal.returns-in-Err-clause-stopped
returns-in-Err-clause-stopped g c =
    inl (
      nothing_done g.F.Files.observable g.L.Lines.observable c.args.sid.number c.args.registry.now.entries (g.F.Files.state c.args.files.now).shelf (g.F.Files.state c.ask.new.files).shelf c.args.phase.now c.args.owners.now (g.L.Lines.traffic c.args.lines.now)
          (λ told. ap (λ (s : FilesState). s.shelf) (c.ask.ensures.same told)),
      c.in-Err.ensures.fault,
    )

pub returns-in-Err-reaction_behind-clause-stopped : goal.returns-in-Err-reaction_behind-clause-stopped
returns-in-Err-reaction_behind-clause-stopped g c =
    inl (
      nothing_done g.F.Files.observable g.L.Lines.observable c.args.sid.number c.args.registry.now.entries (g.F.Files.state c.args.files.now).shelf (g.F.Files.state c.ask.new.files).shelf c.args.phase.now c.args.owners.now (g.L.Lines.traffic c.args.lines.now)
          (λ told. ap (λ (s : FilesState). s.shelf) (c.ask.ensures.same told)),
      tt,
    )

pub returns-in-Err-perform-clause-stopped : goal.returns-in-Err-perform-clause-stopped
returns-in-Err-perform-clause-stopped g c = inr
    (behind_stopped g.F.Files.observable g.L.Lines.observable (g.R.Rules.setting c.args.rules.now) g.T.Texts.read c.args.sid.number c.in-Err-perform.fault c.args.registry.now.entries (g.F.Files.state c.args.files.now).shelf (g.F.Files.state c.ask.new.files).shelf c.args.phase.now c.args.owners.now (g.L.Lines.traffic c.args.lines.now)
    c.book.result.now.entries c.book-2.result.now.entries c.args.then.now (seen_question c.asked.result) (answers_of c.args.now c.args.given.now c.args.buffer.now.items) (answers_of c.args.now c.ask.new.given c.ask.new.buffer.items)
    (answers_of c.args.now c.ask.new.given c.as_slice.result.now) (seen_reaction c.in-Ok-reaction_behind.reaction)
    (spot c.perform.new.registry.entries (g.F.Files.state c.perform.new.files).shelf c.perform.new.phase c.perform.new.owners (g.L.Lines.traffic c.perform.new.lines))
    (λ told. ap (λ (s : FilesState). s.shelf) (c.ask.ensures.same told)) c.book.ensures c.book-2.ensures (ap (answers_of c.args.now c.ask.new.given) c.as_slice.ensures.value)
    c.asked.ensures (c.in-Ok.ensures.answered c.args.now) c.in-Ok-reaction_behind.ensures.reaction c.in-Err-perform.ensures.cut)

pub returns-in-Err-clause-crash : goal.returns-in-Err-clause-crash
returns-in-Err-clause-crash g c = λ told files_told node is.
    inl (nothing_moves c.args.sid.number [] node c.args.registry.now (g.D.Disk.state c.args.disk.now) (g.F.Files.state c.args.files.now) (g.F.Files.state c.ask.new.files) c.args.beat.now (c.ask.ensures.same files_told) is.journal (is.shelf files_told) (c.requires.registry told) (c.requires.order told) (c.requires.files_order files_told))

pub returns-in-Err-reaction_behind-clause-crash : goal.returns-in-Err-reaction_behind-clause-crash
returns-in-Err-reaction_behind-clause-crash g c = λ told files_told node is.
    inl (nothing_moves c.args.sid.number [] node c.args.registry.now (g.D.Disk.state c.args.disk.now) (g.F.Files.state c.args.files.now) (g.F.Files.state c.ask.new.files) c.args.beat.now (c.ask.ensures.same files_told) is.journal (is.shelf files_told) (c.requires.registry told) (c.requires.order told) (c.requires.files_order files_told))

pub returns-in-Ok-perform-clause-moments : goal.returns-in-Ok-perform-clause-moments
returns-in-Ok-perform-clause-moments g c = λ told files_told node is.
    (made_moments c.args.sid.number (g.D.Disk.state c.args.disk.now) (g.D.Disk.state c.perform.new.disk) (g.F.Files.state c.args.files.now) (g.F.Files.state c.ask.new.files) (g.F.Files.state c.perform.new.files) c.args.beat.now
    (seen_reaction c.in-Ok-reaction_behind.reaction) (reaction_at (view_with (g.R.Rules.setting c.args.rules.now) g.T.Texts.read c.args.registry.now.entries) c.args.phase.now (answers_of c.args.now c.ask.new.given c.ask.new.buffer.items) c.args.then.now) node
    (c.ask.ensures.same files_told)
    (reaction_made (g.R.Rules.setting c.args.rules.now) g.T.Texts.read c.args.registry.now.entries c.book-2.result.now.entries c.args.phase.now c.args.then.now (answers_of c.args.now c.ask.new.given c.ask.new.buffer.items) (answers_of c.args.now c.ask.new.given c.as_slice.result.now)
    (seen_reaction c.in-Ok-reaction_behind.reaction) c.book-2.ensures (ap (answers_of c.args.now c.ask.new.given) c.as_slice.ensures.value) c.in-Ok-reaction_behind.ensures.reaction)
    (c.perform.ensures.moments told files_told node
    ((nothing_done g.F.Files.observable g.L.Lines.observable c.args.sid.number c.args.registry.now.entries (g.F.Files.state c.args.files.now).shelf (g.F.Files.state c.ask.new.files).shelf c.args.phase.now c.args.owners.now (g.L.Lines.traffic c.args.lines.now)
    (λ t. ap (λ (s : FilesState). s.shelf) (c.ask.ensures.same t))).node node is)))

pub returns-in-Err-perform-clause-crash : goal.returns-in-Err-perform-clause-crash
returns-in-Err-perform-clause-crash g c = λ told files_told node is. inr (
  subst (λ (q : Question). IsAnswered q (answers_of c.args.now c.args.given.now c.args.buffer.now.items) (answers_of c.args.now c.ask.new.given c.ask.new.buffer.items))
      (c.asked.ensures ∙ ap (λ (es : List Entry). question_of (view_with (g.R.Rules.setting c.args.rules.now) g.T.Texts.read es) c.args.then.now) c.book.ensures) (c.in-Ok.ensures.answered c.args.now),
  (made_moments c.args.sid.number (g.D.Disk.state c.args.disk.now) (g.D.Disk.state c.perform.new.disk) (g.F.Files.state c.args.files.now) (g.F.Files.state c.ask.new.files) (g.F.Files.state c.perform.new.files) c.args.beat.now
      (seen_reaction c.in-Ok-reaction_behind.reaction) (reaction_at (view_with (g.R.Rules.setting c.args.rules.now) g.T.Texts.read c.args.registry.now.entries) c.args.phase.now (answers_of c.args.now c.ask.new.given c.ask.new.buffer.items) c.args.then.now) node
      (c.ask.ensures.same files_told)
      (reaction_made (g.R.Rules.setting c.args.rules.now) g.T.Texts.read c.args.registry.now.entries c.book-2.result.now.entries c.args.phase.now c.args.then.now (answers_of c.args.now c.ask.new.given c.ask.new.buffer.items) (answers_of c.args.now c.ask.new.given c.as_slice.result.now)
      (seen_reaction c.in-Ok-reaction_behind.reaction) c.book-2.ensures (ap (answers_of c.args.now c.ask.new.given) c.as_slice.ensures.value) c.in-Ok-reaction_behind.ensures.reaction)
      (c.perform.ensures.moments told files_told node
      ((nothing_done g.F.Files.observable g.L.Lines.observable c.args.sid.number c.args.registry.now.entries (g.F.Files.state c.args.files.now).shelf (g.F.Files.state c.ask.new.files).shelf c.args.phase.now c.args.owners.now (g.L.Lines.traffic c.args.lines.now)
      (λ t. ap (λ (s : FilesState). s.shelf) (c.ask.ensures.same t))).node node is))),
)

pub returns-in-Err-perform-clause-legal : goal.returns-in-Err-perform-clause-legal
returns-in-Err-perform-clause-legal g c =
    cut_legal (g.R.Rules.setting c.args.rules.now) g.T.Texts.read c.requires.priorities c.args.now g.F.Files.observable g.L.Lines.observable c.args.sid.number (map seen_effect c.in-Ok-reaction_behind.reaction.effects.items) c.in-Err-perform.fault
    (spot c.args.registry.now.entries (g.F.Files.state c.ask.new.files).shelf c.args.phase.now c.args.owners.now (g.L.Lines.traffic c.args.lines.now))
    (spot c.perform.new.registry.entries (g.F.Files.state c.perform.new.files).shelf c.perform.new.phase c.perform.new.owners (g.L.Lines.traffic c.perform.new.lines))
    c.requires.legal
    (made_fits (g.R.Rules.setting c.args.rules.now) g.T.Texts.read c.requires.priorities c.args.now c.args.registry.now.entries c.book-2.result.now.entries c.args.phase.now
    (answers_of c.args.now c.ask.new.given c.as_slice.result.now) c.args.then.now (seen_reaction c.in-Ok-reaction_behind.reaction) c.book-2.ensures c.in-Ok-reaction_behind.ensures.reaction c.requires.legal c.requires.on_time refl)
    c.in-Err-perform.ensures.cut

pub returns-in-Err-perform-clause-on_time : goal.returns-in-Err-perform-clause-on_time
returns-in-Err-perform-clause-on_time g c =
    cut_on_time (g.R.Rules.setting c.args.rules.now) g.T.Texts.read c.requires.priorities c.args.now g.F.Files.observable g.L.Lines.observable c.args.sid.number (map seen_effect c.in-Ok-reaction_behind.reaction.effects.items) c.in-Err-perform.fault
    (spot c.args.registry.now.entries (g.F.Files.state c.ask.new.files).shelf c.args.phase.now c.args.owners.now (g.L.Lines.traffic c.args.lines.now))
    (spot c.perform.new.registry.entries (g.F.Files.state c.perform.new.files).shelf c.perform.new.phase c.perform.new.owners (g.L.Lines.traffic c.perform.new.lines))
    c.requires.on_time
    (made_fits (g.R.Rules.setting c.args.rules.now) g.T.Texts.read c.requires.priorities c.args.now c.args.registry.now.entries c.book-2.result.now.entries c.args.phase.now
    (answers_of c.args.now c.ask.new.given c.as_slice.result.now) c.args.then.now (seen_reaction c.in-Ok-reaction_behind.reaction) c.book-2.ensures c.in-Ok-reaction_behind.ensures.reaction c.requires.legal c.requires.on_time refl)
    c.in-Err-perform.ensures.cut
