use Rattle.std.proofs.Common.{◌≡◌, length, Ok, refl, sym, ap, subst, ◌∙◌, arith}
use Rattle.cd_frames.specs.Reading.{Reading, front}
use Rattle.cd_frames.specs.Run.{Run}
use Rattle.cd_frames.specs.Stream.{waits}
use Rattle.cd_frames.proofs.StreamLaw.{waits_short}
use Rattle.cd_exchange.specs.Arriving.{and_one}
use Rattle.cd_exchange.proofs.Coming.{stepped_none, stepped_bad, stepped_one, waits_same, waits_is, heard_then, fell_then, ends_since}
use Rattle.cd_exchange.proofs.arriving.next_frame.Goals as goal

pub returns-in-Ok-true-clause-run : goal.returns-in-Ok-true-clause-run
returns-in-Ok-true-clause-run g c = λ told given run.
    subst (λ (r : Reading). Run ((g.L.Lines.traffic c.loop-piece.lines).taken c.args.sid.number) (and_one given r.given) r) (sym c.step.ensures.after)
    (stepped_one c.loop-piece.reader (front c.loop-piece.reader) refl (ap Ok (sym c.in-Ok-true.field-0-test) ∙ sym c.in-Ok-true.is ∙ c.step.ensures.answer)
    ((g.L.Lines.traffic c.loop-piece.lines).taken c.args.sid.number) given (c.loop-piece.invariant.run told given run))

pub returns-in-Err-clause-run : goal.returns-in-Err-clause-run
returns-in-Err-clause-run g c = λ told given run.
    subst (λ (r : Reading). Run ((g.L.Lines.traffic c.loop-piece.lines).taken c.args.sid.number) given r) (sym c.step.ensures.after)
    (stepped_bad c.loop-piece.reader (front c.loop-piece.reader) c.in-Err.field-0 refl (sym c.in-Err.is ∙ c.step.ensures.answer)
    ((g.L.Lines.traffic c.loop-piece.lines).taken c.args.sid.number) given (c.loop-piece.invariant.run told given run))

pub returns-then-take_bytes-eq0-clause-run : goal.returns-then-take_bytes-eq0-clause-run
returns-then-take_bytes-eq0-clause-run g c = λ told given run. c.take_bytes.ensures.run told given
    (subst (λ (r : Reading). Run ((g.L.Lines.traffic c.loop-piece.lines).taken c.args.sid.number) given r) (sym c.step.ensures.after)
    (stepped_none c.loop-piece.reader (front c.loop-piece.reader) refl (ap Ok (sym c.in-Ok-false.field-0-test) ∙ sym c.in-Ok-false.is ∙ c.step.ensures.answer)
    ((g.L.Lines.traffic c.loop-piece.lines).taken c.args.sid.number) given (c.loop-piece.invariant.run told given run)))

pub loop-piece-preserved : goal.loop-piece-preserved
loop-piece-preserved g c =
    let says = ap Ok (sym c.in-Ok-false.field-0-test) ∙ sym c.in-Ok-false.is ∙ c.step.ensures.answer in
    let i = c.loop-piece.invariant in
    let e = c.take_bytes.ensures in
    let same = waits_same c.loop-piece.reader (front c.loop-piece.reader) refl says in
    let rest : c.step.new.self.rest ≡ c.loop-piece.reader.rest = ap (λ (r : Reading). r.rest) c.step.ensures.after ∙ same in
    let short = waits_short c.loop-piece.reader.place c.loop-piece.reader.rest (waits_is (front c.loop-piece.reader) says) in
    let longer = ap length rest in
    record {
      run = λ told given run. e.run told given
          (subst (λ (r : Reading). Run ((g.L.Lines.traffic c.loop-piece.lines).taken c.args.sid.number) given r) (sym c.step.ensures.after)
          (stepped_none c.loop-piece.reader (front c.loop-piece.reader) refl says ((g.L.Lines.traffic c.loop-piece.lines).taken c.args.sid.number) given (i.run told given run)));
      more = omega (arith, i.more, e.more, longer, c.if-take_bytes-eq0.false);
      most = omega (arith, i.more, short);
      at_hand = λ not. absurd (not (subst (λ (r : Reading). front r ≡ waits) (i.at_hand not).0 (waits_is (front c.loop-piece.reader) says)));
      heard = λ told. heard_then _ _ _ _ (i.heard told) (e.heard told);
      last = e.last ∙ i.last;
      later = fell_then _ _ _ i.later e.later;
      nones = e.nones ∙ i.nones;
    }

pub returns-in-Ok-true-clause-at_hand : goal.returns-in-Ok-true-clause-at_hand
returns-in-Ok-true-clause-at_hand g c = λ not. (c.loop-piece.invariant.at_hand not).1

pub returns-in-Err-clause-at_hand : goal.returns-in-Err-clause-at_hand
returns-in-Err-clause-at_hand g c = λ not. (c.loop-piece.invariant.at_hand not).1

pub returns-then-take_bytes-eq0-clause-at_hand : goal.returns-then-take_bytes-eq0-clause-at_hand
returns-then-take_bytes-eq0-clause-at_hand g c = λ not.
    absurd (not (subst (λ (r : Reading). front r ≡ waits) (c.loop-piece.invariant.at_hand not).0 (waits_is (front c.loop-piece.reader) (ap Ok (sym c.in-Ok-false.field-0-test) ∙ sym c.in-Ok-false.is ∙ c.step.ensures.answer))))

pub returns-then-take_bytes-eq0-clause-why : goal.returns-then-take_bytes-eq0-clause-why
returns-then-take_bytes-eq0-clause-why g c = (
  c.take_bytes.ensures.stays c.if-take_bytes-eq0.true,
  ends_since c.args.sid.number (g.L.Lines.counts c.args.lines.now) (g.L.Lines.counts c.loop-piece.lines) (g.L.Lines.counts c.take_bytes.new.lines) c.loop-piece.invariant.later (c.take_bytes.ensures.none c.if-take_bytes-eq0.true),
)

pub returns-clause-at_hand : goal.returns-clause-at_hand
returns-clause-at_hand g c = λ not. (c.loop-piece.invariant.at_hand not).1
