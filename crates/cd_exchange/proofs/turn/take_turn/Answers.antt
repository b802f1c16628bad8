use Rattle.std.proofs.Common.{◌≡◌, ℕ, List, Option, true, false, inl, inr, refl, sym, ap, subst, ◌∙◌}
use Rattle.std.proofs.lemmas.Bool.{false≢true}
use Rattle.cd_entries.specs.declared.entry.Entry.{Entry}
use Rattle.cd_frames.specs.Message.{Message, message_of}
use Rattle.cd_frames.specs.Run.{Run}
use Rattle.cd_protocol.specs.Closing.{own_number}
use Rattle.cd_protocol.specs.Rows.{row_end}
use Rattle.cd_effects.specs.Stands.{spot}
use Rattle.cd_exchange.specs.Arriving.{and_one, is_over_for}
use Rattle.cd_exchange.proofs.Coming.{ended_so, later_rose}
use Rattle.cd_exchange.specs.Handling.{the_case}
use Rattle.cd_exchange.proofs.Crashing.{so_heard, at_heard}
use Rattle.cd_exchange.proofs.Taken.{ended_taken, end_stopped_taken, handled_since, failed_since}
use Rattle.cd_exchange.proofs.OpenLaw.{lines_advanced, open_still, advanced_then, cause_since}
use Rattle.cd_exchange.proofs.turn.take_turn.Goals as goal

pub returns-in-Ok-clause-handled : goal.returns-in-Ok-clause-handled
returns-in-Ok-clause-handled g c = inr (
  refl,
  inr (record {
    over = subst (λ (es : List Entry). is_over_for es (own_number c.args.phase.now) ≡ true) c.book.ensures
        (subst (λ (n : Option ℕ). is_over_for c.book.result.now.entries n ≡ true) c.own_number.ensures (sym c.is_over_for.ensures ∙ c.if-is_over_for.true));
    same = refl;
    ended = c.in-Ok.ensures.done;
  }),
)

pub returns-in-Err-clause-failed : goal.returns-in-Err-clause-failed
returns-in-Err-clause-failed g c = inr (inr (record {
  over = subst (λ (es : List Entry). is_over_for es (own_number c.args.phase.now) ≡ true) c.book.ensures
      (subst (λ (n : Option ℕ). is_over_for c.book.result.now.entries n ≡ true) c.own_number.ensures (sym c.is_over_for.ensures ∙ c.if-is_over_for.true));
  same = refl;
  failed = c.in-Err.ensures.stopped;
}))

pub returns-in-Ok-take_frame-clause-handled : goal.returns-in-Ok-take_frame-clause-handled
returns-in-Ok-take_frame-clause-handled g c = inl (record {
  frame = message_of c.in-Some.frame;
  heard = g.L.Lines.traffic c.next_frame-came.new.lines;
  came = record {
    live = subst (λ (es : List Entry). is_over_for es (own_number c.args.phase.now) ≡ false) c.book.ensures
        (subst (λ (n : Option ℕ). is_over_for c.book.result.now.entries n ≡ false) c.own_number.ensures (sym c.is_over_for.ensures ∙ c.if-is_over_for.false));
    heard_only = c.next_frame-came.ensures.heard;
    at_hand = λ told not. ap g.L.Lines.traffic (c.next_frame-came.ensures.at_hand not);
    next = λ told given run. subst (λ (came : Option Message). Run ((g.L.Lines.traffic c.next_frame-came.new.lines).taken c.args.sid.number) (and_one given came) c.next_frame-came.new.reader) (sym c.in-Some.ensures) (c.next_frame-came.ensures.run told given run);
  };
  handled = handled_since (the_case g.F.Files.observable g.L.Lines.observable (g.R.Rules.setting c.args.rules.now) g.T.Texts.read c.args.sid.number c.args.now c.args.others.now (message_of c.in-Some.frame)) (g.L.Lines.counts c.next_frame-came.new.lines) (g.L.Lines.counts c.take_frame.new.lines)
      (g.L.Lines.counts c.args.lines.now) c.in-Ok-take_frame.ending
      (spot c.args.registry.now.entries (g.F.Files.state c.args.files.now).shelf c.args.phase.now c.args.owners.now (g.L.Lines.traffic c.next_frame-came.new.lines))
      (spot c.take_frame.new.registry.entries (g.F.Files.state c.take_frame.new.files).shelf c.take_frame.new.phase c.take_frame.new.owners (g.L.Lines.traffic c.take_frame.new.lines))
      c.next_frame-came.ensures.later c.in-Ok-take_frame.ensures.handled;
})

pub returns-in-Err-take_frame-clause-failed : goal.returns-in-Err-take_frame-clause-failed
returns-in-Err-take_frame-clause-failed g c = inl (record {
  frame = message_of c.in-Some.frame;
  heard = g.L.Lines.traffic c.next_frame-came.new.lines;
  came = record {
    live = subst (λ (es : List Entry). is_over_for es (own_number c.args.phase.now) ≡ false) c.book.ensures
        (subst (λ (n : Option ℕ). is_over_for c.book.result.now.entries n ≡ false) c.own_number.ensures (sym c.is_over_for.ensures ∙ c.if-is_over_for.false));
    heard_only = c.next_frame-came.ensures.heard;
    at_hand = λ told not. ap g.L.Lines.traffic (c.next_frame-came.ensures.at_hand not);
    next = λ told given run. subst (λ (came : Option Message). Run ((g.L.Lines.traffic c.next_frame-came.new.lines).taken c.args.sid.number) (and_one given came) c.next_frame-came.new.reader) (sym c.in-Some.ensures) (c.next_frame-came.ensures.run told given run);
  };
  failed = failed_since (the_case g.F.Files.observable g.L.Lines.observable (g.R.Rules.setting c.args.rules.now) g.T.Texts.read c.args.sid.number c.args.now c.args.others.now (message_of c.in-Some.frame)) (g.L.Lines.counts c.next_frame-came.new.lines) (g.L.Lines.counts c.take_frame.new.lines)
      (g.L.Lines.counts c.args.lines.now) c.in-Err-take_frame.fault
      (spot c.args.registry.now.entries (g.F.Files.state c.args.files.now).shelf c.args.phase.now c.args.owners.now (g.L.Lines.traffic c.next_frame-came.new.lines))
      (spot c.take_frame.new.registry.entries (g.F.Files.state c.take_frame.new.files).shelf c.take_frame.new.phase c.take_frame.new.owners (g.L.Lines.traffic c.take_frame.new.lines))
      c.next_frame-came.ensures.later c.in-Err-take_frame.ensures.failed;
})

pub returns-in-Ok-on_end-clause-handled : goal.returns-in-Ok-on_end-clause-handled
returns-in-Ok-on_end-clause-handled g c = inr (
  refl,
  inl (record {
    heard = g.L.Lines.traffic c.next_frame-came.new.lines;
    came = record {
      live = subst (λ (es : List Entry). is_over_for es (own_number c.args.phase.now) ≡ false) c.book.ensures
          (subst (λ (n : Option ℕ). is_over_for c.book.result.now.entries n ≡ false) c.own_number.ensures (sym c.is_over_for.ensures ∙ c.if-is_over_for.false));
      heard_only = c.next_frame-came.ensures.heard;
      at_hand = λ told not. ap g.L.Lines.traffic (c.next_frame-came.ensures.at_hand not);
      next = λ told given run. subst (λ (came : Option Message). Run ((g.L.Lines.traffic c.next_frame-came.new.lines).taken c.args.sid.number) (and_one given came) c.next_frame-came.new.reader) (sym c.in-None.ensures) (c.next_frame-came.ensures.run told given run);
    };
    why = ended_so c.next_frame-came.result c.next_frame-came.new.reader c.args.sid.number (g.L.Lines.counts c.args.lines.now) (g.L.Lines.counts c.next_frame-came.new.lines) (g.L.Lines.counts c.on_end-in-None.new.lines)
        c.next_frame-came.ensures.why (sym c.in-None.ensures) c.in-Ok-on_end.ensures.advanced.lines_later;
    ended = c.in-Ok-on_end.ensures.done;
  }),
)

pub returns-in-Err-on_end-clause-failed : goal.returns-in-Err-on_end-clause-failed
returns-in-Err-on_end-clause-failed g c = inr (inl (record {
  heard = g.L.Lines.traffic c.next_frame-came.new.lines;
  came = record {
    live = subst (λ (es : List Entry). is_over_for es (own_number c.args.phase.now) ≡ false) c.book.ensures
        (subst (λ (n : Option ℕ). is_over_for c.book.result.now.entries n ≡ false) c.own_number.ensures (sym c.is_over_for.ensures ∙ c.if-is_over_for.false));
    heard_only = c.next_frame-came.ensures.heard;
    at_hand = λ told not. ap g.L.Lines.traffic (c.next_frame-came.ensures.at_hand not);
    next = λ told given run. subst (λ (came : Option Message). Run ((g.L.Lines.traffic c.next_frame-came.new.lines).taken c.args.sid.number) (and_one given came) c.next_frame-came.new.reader) (sym c.in-None.ensures) (c.next_frame-came.ensures.run told given run);
  };
  cause = ended_so c.next_frame-came.result c.next_frame-came.new.reader c.args.sid.number (g.L.Lines.counts c.args.lines.now) (g.L.Lines.counts c.next_frame-came.new.lines) (g.L.Lines.counts c.on_end-in-None.new.lines)
      c.next_frame-came.ensures.why (sym c.in-None.ensures) c.in-Err-on_end.ensures.advanced.lines_later;
  failed = c.in-Err-on_end.ensures.stopped;
}))

pub returns-in-Ok-clause-lost : goal.returns-in-Ok-clause-lost
returns-in-Ok-clause-lost g c = λ is. inl (subst (λ (es : List Entry). is_over_for es (own_number c.args.phase.now) ≡ true) c.book.ensures
    (subst (λ (n : Option ℕ). is_over_for c.book.result.now.entries n ≡ true) c.own_number.ensures (sym c.is_over_for.ensures ∙ c.if-is_over_for.true)))

pub returns-in-Ok-take_frame-clause-lost : goal.returns-in-Ok-take_frame-clause-lost
returns-in-Ok-take_frame-clause-lost g c = λ is. inr (inr (later_rose ((g.L.Lines.counts c.args.lines.now).faults c.args.sid.number) ((g.L.Lines.counts c.next_frame-came.new.lines).faults c.args.sid.number) ((g.L.Lines.counts c.take_frame.new.lines).faults c.args.sid.number)
    (c.next_frame-came.ensures.later.faults c.args.sid.number) (c.in-Ok-take_frame.ensures.lost is)))

pub returns-in-Ok-on_end-clause-lost : goal.returns-in-Ok-on_end-clause-lost
returns-in-Ok-on_end-clause-lost g c = λ is. inr (inl (ended_so c.next_frame-came.result c.next_frame-came.new.reader c.args.sid.number (g.L.Lines.counts c.args.lines.now) (g.L.Lines.counts c.next_frame-came.new.lines) (g.L.Lines.counts c.on_end-in-None.new.lines)
    c.next_frame-came.ensures.why (sym c.in-None.ensures) c.in-Ok-on_end.ensures.advanced.lines_later))

pub returns-in-Ok-clause-unheard : goal.returns-in-Ok-clause-unheard
returns-in-Ok-clause-unheard g c = λ told over. ended_taken g.F.Files.observable g.L.Lines.observable (g.R.Rules.setting c.args.rules.now) g.T.Texts.read c.args.sid.number c.args.now row_end
    (spot c.args.registry.now.entries (g.F.Files.state c.args.files.now).shelf c.args.phase.now c.args.owners.now (g.L.Lines.traffic c.args.lines.now))
    (spot c.on_end.new.registry.entries (g.F.Files.state c.on_end.new.files).shelf c.on_end.new.phase c.on_end.new.owners (g.L.Lines.traffic c.on_end.new.lines))
    c.in-Ok.ensures.done told

pub returns-in-Err-clause-unheard : goal.returns-in-Err-clause-unheard
returns-in-Err-clause-unheard g c = λ told over. end_stopped_taken g.F.Files.observable g.L.Lines.observable (g.R.Rules.setting c.args.rules.now) g.T.Texts.read c.args.sid.number c.args.now row_end c.in-Err.fault
    (spot c.args.registry.now.entries (g.F.Files.state c.args.files.now).shelf c.args.phase.now c.args.owners.now (g.L.Lines.traffic c.args.lines.now))
    (spot c.on_end.new.registry.entries (g.F.Files.state c.on_end.new.files).shelf c.on_end.new.phase c.on_end.new.owners (g.L.Lines.traffic c.on_end.new.lines))
    c.in-Err.ensures.stopped told

pub returns-in-Ok-take_frame-clause-unheard : goal.returns-in-Ok-take_frame-clause-unheard
returns-in-Ok-take_frame-clause-unheard g c = λ told over. absurd (false≢true (sym (subst (λ (es : List Entry). is_over_for es (own_number c.args.phase.now) ≡ false) c.book.ensures
    (subst (λ (n : Option ℕ). is_over_for c.book.result.now.entries n ≡ false) c.own_number.ensures (sym c.is_over_for.ensures ∙ c.if-is_over_for.false))) ∙ over))

pub returns-in-Err-take_frame-clause-unheard : goal.returns-in-Err-take_frame-clause-unheard
returns-in-Err-take_frame-clause-unheard g c = λ told over. absurd (false≢true (sym (subst (λ (es : List Entry). is_over_for es (own_number c.args.phase.now) ≡ false) c.book.ensures
    (subst (λ (n : Option ℕ). is_over_for c.book.result.now.entries n ≡ false) c.own_number.ensures (sym c.is_over_for.ensures ∙ c.if-is_over_for.false))) ∙ over))

pub returns-in-Ok-on_end-clause-unheard : goal.returns-in-Ok-on_end-clause-unheard
returns-in-Ok-on_end-clause-unheard g c = λ told over. absurd (false≢true (sym (subst (λ (es : List Entry). is_over_for es (own_number c.args.phase.now) ≡ false) c.book.ensures
    (subst (λ (n : Option ℕ). is_over_for c.book.result.now.entries n ≡ false) c.own_number.ensures (sym c.is_over_for.ensures ∙ c.if-is_over_for.false))) ∙ over))

pub returns-in-Err-on_end-clause-unheard : goal.returns-in-Err-on_end-clause-unheard
returns-in-Err-on_end-clause-unheard g c = λ told over. absurd (false≢true (sym (subst (λ (es : List Entry). is_over_for es (own_number c.args.phase.now) ≡ false) c.book.ensures
    (subst (λ (n : Option ℕ). is_over_for c.book.result.now.entries n ≡ false) c.own_number.ensures (sym c.is_over_for.ensures ∙ c.if-is_over_for.false))) ∙ over))

pub returns-in-Ok-clause-crash : goal.returns-in-Ok-clause-crash
returns-in-Ok-clause-crash g c = λ told files_told node is. inr (c.on_end.ensures.moments told files_told node is.so)

pub returns-in-Ok-on_end-clause-crash : goal.returns-in-Ok-on_end-clause-crash
returns-in-Ok-on_end-clause-crash g c = λ told files_told node is. inr (c.on_end-in-None.ensures.moments told files_told node
    (so_heard g.F.Files.observable (g.R.Rules.setting c.args.rules.now) g.T.Texts.read c.args.sid.number node
    (spot c.args.registry.now.entries (g.F.Files.state c.args.files.now).shelf c.args.phase.now c.args.owners.now (g.L.Lines.traffic c.args.lines.now))
    (g.L.Lines.traffic c.next_frame-came.new.lines) is.so))

pub returns-in-Ok-take_frame-clause-crash : goal.returns-in-Ok-take_frame-clause-crash
returns-in-Ok-take_frame-clause-crash g c = λ told files_told node is. inl (record {
  frame = message_of c.in-Some.frame;
  heard = g.L.Lines.traffic c.next_frame-came.new.lines;
  came = record {
    live = subst (λ (es : List Entry). is_over_for es (own_number c.args.phase.now) ≡ false) c.book.ensures
        (subst (λ (n : Option ℕ). is_over_for c.book.result.now.entries n ≡ false) c.own_number.ensures (sym c.is_over_for.ensures ∙ c.if-is_over_for.false));
    heard_only = c.next_frame-came.ensures.heard;
    at_hand = λ told not. ap g.L.Lines.traffic (c.next_frame-came.ensures.at_hand not);
    next = λ told given run. subst (λ (came : Option Message). Run ((g.L.Lines.traffic c.next_frame-came.new.lines).taken c.args.sid.number) (and_one given came) c.next_frame-came.new.reader) (sym c.in-Some.ensures) (c.next_frame-came.ensures.run told given run);
  };
  leaves = c.take_frame.ensures.crash told files_told node
      (at_heard g.F.Files.observable (g.R.Rules.setting c.args.rules.now) g.T.Texts.read c.args.sid.number c.args.others.now node
      (spot c.args.registry.now.entries (g.F.Files.state c.args.files.now).shelf c.args.phase.now c.args.owners.now (g.L.Lines.traffic c.args.lines.now))
      (g.L.Lines.traffic c.next_frame-came.new.lines) is);
})

pub returns-in-Err-clause-crash : goal.returns-in-Err-clause-crash
returns-in-Err-clause-crash g c = λ told files_told node is. inr (c.on_end.ensures.moments told files_told node is.so)

pub returns-in-Err-on_end-clause-crash : goal.returns-in-Err-on_end-clause-crash
returns-in-Err-on_end-clause-crash g c = λ told files_told node is. inr (c.on_end-in-None.ensures.moments told files_told node
    (so_heard g.F.Files.observable (g.R.Rules.setting c.args.rules.now) g.T.Texts.read c.args.sid.number node
    (spot c.args.registry.now.entries (g.F.Files.state c.args.files.now).shelf c.args.phase.now c.args.owners.now (g.L.Lines.traffic c.args.lines.now))
    (g.L.Lines.traffic c.next_frame-came.new.lines) is.so))

pub returns-in-Err-take_frame-clause-crash : goal.returns-in-Err-take_frame-clause-crash
returns-in-Err-take_frame-clause-crash g c = λ told files_told node is. inl (record {
  frame = message_of c.in-Some.frame;
  heard = g.L.Lines.traffic c.next_frame-came.new.lines;
  came = record {
    live = subst (λ (es : List Entry). is_over_for es (own_number c.args.phase.now) ≡ false) c.book.ensures
        (subst (λ (n : Option ℕ). is_over_for c.book.result.now.entries n ≡ false) c.own_number.ensures (sym c.is_over_for.ensures ∙ c.if-is_over_for.false));
    heard_only = c.next_frame-came.ensures.heard;
    at_hand = λ told not. ap g.L.Lines.traffic (c.next_frame-came.ensures.at_hand not);
    next = λ told given run. subst (λ (came : Option Message). Run ((g.L.Lines.traffic c.next_frame-came.new.lines).taken c.args.sid.number) (and_one given came) c.next_frame-came.new.reader) (sym c.in-Some.ensures) (c.next_frame-came.ensures.run told given run);
  };
  leaves = c.take_frame.ensures.crash told files_told node
      (at_heard g.F.Files.observable (g.R.Rules.setting c.args.rules.now) g.T.Texts.read c.args.sid.number c.args.others.now node
      (spot c.args.registry.now.entries (g.F.Files.state c.args.files.now).shelf c.args.phase.now c.args.owners.now (g.L.Lines.traffic c.args.lines.now))
      (g.L.Lines.traffic c.next_frame-came.new.lines) is);
})

pub take_frame-requires-clause-home : goal.take_frame-requires-clause-home
take_frame-requires-clause-home g c = open_still c.requires.home c.next_frame-came.ensures.last

pub on_end-requires-in-None-clause-home : goal.on_end-requires-in-None-clause-home
on_end-requires-in-None-clause-home g c = open_still c.requires.home c.next_frame-came.ensures.last

pub returns-in-Ok-clause-home : goal.returns-in-Ok-clause-home
returns-in-Ok-clause-home g c = c.in-Ok.ensures.home

pub returns-in-Ok-clause-cause : goal.returns-in-Ok-clause-cause
returns-in-Ok-clause-cause g c = c.in-Ok.ensures.cause

pub returns-in-Ok-clause-advanced : goal.returns-in-Ok-clause-advanced
returns-in-Ok-clause-advanced g c = c.on_end.ensures.advanced

pub returns-in-Ok-on_end-clause-home : goal.returns-in-Ok-on_end-clause-home
returns-in-Ok-on_end-clause-home g c = c.in-Ok-on_end.ensures.home

pub returns-in-Ok-on_end-clause-cause : goal.returns-in-Ok-on_end-clause-cause
returns-in-Ok-on_end-clause-cause g c = cause_since (lines_advanced (g.D.Disk.faults c.args.disk.now) (g.F.Files.faults c.args.files.now) (g.L.Lines.counts c.args.lines.now) (g.L.Lines.counts c.next_frame-came.new.lines) (g.L.Lines.last c.args.lines.now) (g.L.Lines.last c.next_frame-came.new.lines) c.args.beat.now c.next_frame-came.ensures.last c.next_frame-came.ensures.later c.next_frame-came.ensures.nones) c.in-Ok-on_end.ensures.cause

pub returns-in-Ok-on_end-clause-advanced : goal.returns-in-Ok-on_end-clause-advanced
returns-in-Ok-on_end-clause-advanced g c = advanced_then (lines_advanced (g.D.Disk.faults c.args.disk.now) (g.F.Files.faults c.args.files.now) (g.L.Lines.counts c.args.lines.now) (g.L.Lines.counts c.next_frame-came.new.lines) (g.L.Lines.last c.args.lines.now) (g.L.Lines.last c.next_frame-came.new.lines) c.args.beat.now c.next_frame-came.ensures.last c.next_frame-came.ensures.later c.next_frame-came.ensures.nones) c.on_end-in-None.ensures.advanced

pub returns-in-Ok-take_frame-clause-home : goal.returns-in-Ok-take_frame-clause-home
returns-in-Ok-take_frame-clause-home g c = c.in-Ok-take_frame.ensures.home

pub returns-in-Ok-take_frame-clause-cause : goal.returns-in-Ok-take_frame-clause-cause
returns-in-Ok-take_frame-clause-cause g c = cause_since (lines_advanced (g.D.Disk.faults c.args.disk.now) (g.F.Files.faults c.args.files.now) (g.L.Lines.counts c.args.lines.now) (g.L.Lines.counts c.next_frame-came.new.lines) (g.L.Lines.last c.args.lines.now) (g.L.Lines.last c.next_frame-came.new.lines) c.args.beat.now c.next_frame-came.ensures.last c.next_frame-came.ensures.later c.next_frame-came.ensures.nones) c.in-Ok-take_frame.ensures.cause

pub returns-in-Ok-take_frame-clause-advanced : goal.returns-in-Ok-take_frame-clause-advanced
returns-in-Ok-take_frame-clause-advanced g c = advanced_then (lines_advanced (g.D.Disk.faults c.args.disk.now) (g.F.Files.faults c.args.files.now) (g.L.Lines.counts c.args.lines.now) (g.L.Lines.counts c.next_frame-came.new.lines) (g.L.Lines.last c.args.lines.now) (g.L.Lines.last c.next_frame-came.new.lines) c.args.beat.now c.next_frame-came.ensures.last c.next_frame-came.ensures.later c.next_frame-came.ensures.nones) c.take_frame.ensures.advanced

pub returns-in-Err-clause-home : goal.returns-in-Err-clause-home
returns-in-Err-clause-home g c = c.in-Err.ensures.home

pub returns-in-Err-clause-cause : goal.returns-in-Err-clause-cause
returns-in-Err-clause-cause g c = c.in-Err.ensures.cause

pub returns-in-Err-clause-advanced : goal.returns-in-Err-clause-advanced
returns-in-Err-clause-advanced g c = c.on_end.ensures.advanced

pub returns-in-Err-on_end-clause-home : goal.returns-in-Err-on_end-clause-home
returns-in-Err-on_end-clause-home g c = c.in-Err-on_end.ensures.home

pub returns-in-Err-on_end-clause-cause : goal.returns-in-Err-on_end-clause-cause
returns-in-Err-on_end-clause-cause g c = cause_since (lines_advanced (g.D.Disk.faults c.args.disk.now) (g.F.Files.faults c.args.files.now) (g.L.Lines.counts c.args.lines.now) (g.L.Lines.counts c.next_frame-came.new.lines) (g.L.Lines.last c.args.lines.now) (g.L.Lines.last c.next_frame-came.new.lines) c.args.beat.now c.next_frame-came.ensures.last c.next_frame-came.ensures.later c.next_frame-came.ensures.nones) c.in-Err-on_end.ensures.cause

pub returns-in-Err-on_end-clause-advanced : goal.returns-in-Err-on_end-clause-advanced
returns-in-Err-on_end-clause-advanced g c = advanced_then (lines_advanced (g.D.Disk.faults c.args.disk.now) (g.F.Files.faults c.args.files.now) (g.L.Lines.counts c.args.lines.now) (g.L.Lines.counts c.next_frame-came.new.lines) (g.L.Lines.last c.args.lines.now) (g.L.Lines.last c.next_frame-came.new.lines) c.args.beat.now c.next_frame-came.ensures.last c.next_frame-came.ensures.later c.next_frame-came.ensures.nones) c.on_end-in-None.ensures.advanced

pub returns-in-Err-take_frame-clause-home : goal.returns-in-Err-take_frame-clause-home
returns-in-Err-take_frame-clause-home g c = c.in-Err-take_frame.ensures.home

pub returns-in-Err-take_frame-clause-cause : goal.returns-in-Err-take_frame-clause-cause
returns-in-Err-take_frame-clause-cause g c = cause_since (lines_advanced (g.D.Disk.faults c.args.disk.now) (g.F.Files.faults c.args.files.now) (g.L.Lines.counts c.args.lines.now) (g.L.Lines.counts c.next_frame-came.new.lines) (g.L.Lines.last c.args.lines.now) (g.L.Lines.last c.next_frame-came.new.lines) c.args.beat.now c.next_frame-came.ensures.last c.next_frame-came.ensures.later c.next_frame-came.ensures.nones) c.in-Err-take_frame.ensures.cause

pub returns-in-Err-take_frame-clause-advanced : goal.returns-in-Err-take_frame-clause-advanced
returns-in-Err-take_frame-clause-advanced g c = advanced_then (lines_advanced (g.D.Disk.faults c.args.disk.now) (g.F.Files.faults c.args.files.now) (g.L.Lines.counts c.args.lines.now) (g.L.Lines.counts c.next_frame-came.new.lines) (g.L.Lines.last c.args.lines.now) (g.L.Lines.last c.next_frame-came.new.lines) c.args.beat.now c.next_frame-came.ensures.last c.next_frame-came.ensures.later c.next_frame-came.ensures.nones) c.take_frame.ensures.advanced
