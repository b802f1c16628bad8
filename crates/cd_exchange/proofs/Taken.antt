-- Effects take no bytes of sessions, so what was heard in a turn is all that was taken in it.
use Rattle.std.proofs.Common.{◌≡◌, inl, inr, ⊎_elim, ℕ, List, [], ◌∷◌, eqb, refl, ap, ◌∙◌, arith}
use Rattle.std.proofs.lemmas.Bool.{eq-eqb, cond-true}
use Rattle.cd_outside.specs.Counts.{Rose}
use Rattle.cd_outside.specs.Lines.{Traffic, LineCounts, NeverFell, sent}
use Rattle.cd_frames.specs.Frame.{frame_bytes}
use Rattle.cd_frames.specs.Message.{Message}
use Rattle.cd_frames.specs.Reading.{Reading}
use Rattle.cd_rules.specs.Steps as steps
use Rattle.cd_protocol.specs.Node.{Node, Effect, Keep, Touch, AskSize, AskBytes, Begin, Go, sends}
use Rattle.cd_protocol.specs.Rows.{row, row_end, row_trouble}
use Rattle.cd_effects.specs.Stands.{Spot, WereDone, WereCut, TrafficTorn, gave}
use Rattle.cd_effects.specs.declared.fault.Fault.{Fault}
use Rattle.cd_effects.specs.declared.fault.Fault.TheVariants as fault
use Rattle.cd_exchange.specs.Going.{WereLeft, WereStopped}
use Rattle.cd_exchange.specs.Question.{Setting, view_with}
use Rattle.cd_exchange.specs.Sessions.{IsAt, phase_among, sessions_with}
use Rattle.cd_exchange.specs.declared.session.Session.{Session}
use Rattle.cd_exchange.specs.Handling.{Case, the_case, DidEnd, EndStopped, GaveUp, GivingUpFailed, WasHandled, HasFailed}
use Rattle.cd_exchange.specs.Turn.{TookTurn, heard_at}
use Rattle.cd_exchange.specs.declared.ending.Ending.{Ending}
use Rattle.cd_exchange.specs.declared.ending.Ending.TheVariants.{Went, Lost, Troubled}
use Rattle.cd_exchange.proofs.Coming.{ended_later, rose_later, later_rose}

-- counts of earlier, and of later
fell_none : (counts : LineCounts) → NeverFell counts counts
fell_none counts = record {
  faults = λ session. omega arith;
  connects = omega arith;
  accepts = omega arith;
  ends = λ session. omega arith;
  nones = omega arith;
}

wider : (sid : ℕ) (first before now last : LineCounts) → NeverFell first before → NeverFell now last → Rose (before.faults sid) (now.faults sid) → Rose (first.faults sid) (last.faults sid)
wider sid first before now last early late rose =
    rose_later (first.faults sid) (now.faults sid) (last.faults sid) (later_rose (first.faults sid) (before.faults sid) (now.faults sid) (early.faults sid) rose) (late.faults sid)

gave_taken : (sid : ℕ) (frames : List Message) (traffic : Traffic) → (gave sid frames traffic).taken ≡ traffic.taken
gave_taken sid [] traffic = refl
gave_taken sid (m ∷ frames) traffic = gave_taken sid frames (sent sid (frame_bytes m) traffic)

torn_taken : (sid : ℕ) (effect : Effect) (before after : Traffic) → TrafficTorn sid effect before after → after.taken ≡ before.taken
torn_taken sid (Go phase frames) before after some = some.front.taken ∙ gave_taken sid some.given before
torn_taken sid (Keep e) before after same = ap (λ (t : Traffic). t.taken) same
torn_taken sid (Touch change) before after same = ap (λ (t : Traffic). t.taken) same
torn_taken sid (AskSize name) before after same = ap (λ (t : Traffic). t.taken) same
torn_taken sid (AskBytes name at len) before after same = ap (λ (t : Traffic). t.taken) same
torn_taken sid (Begin key phase) before after same = ap (λ (t : Traffic). t.taken) same

module _ (files_told lines_told : Type 0) (sid : ℕ) where
  pub done_taken : (effects : List Effect) (before after : Spot) → WereDone files_told lines_told sid effects before after → lines_told → after.traffic.taken ≡ before.traffic.taken
  done_taken effects before after done told = ap (λ (t : Traffic). t.taken) (done.traffic told) ∙ gave_taken sid (sends effects) before.traffic

  pub cut_taken : (effects : List Effect) (why : Fault) (before after : Spot) → WereCut files_told lines_told sid effects why before after → lines_told → after.traffic.taken ≡ before.traffic.taken
  cut_taken effects why before after cut told = torn_taken sid cut.torn cut.middle.traffic after.traffic (cut.rest.traffic told) ∙ done_taken cut.done before cut.middle cut.first told

  stopped_taken : (effects : List Effect) (why : Fault) (before after : Spot) → WereStopped files_told lines_told sid effects why before after → lines_told → after.traffic.taken ≡ before.traffic.taken
  stopped_taken effects why before after stopped told = ⊎_elim
      (λ (left : WereLeft files_told lines_told sid effects why before after). done_taken left.done before after left.first told)
      (λ (cut : WereCut files_told lines_told sid effects why before after). cut_taken effects why before after cut told)
      stopped

  -- what was done, where the lines then tell the same as before
  done_then : (effects : List Effect) (before after : Spot) (then_told : Traffic) → (lines_told → then_told ≡ after.traffic) → WereDone files_told lines_told sid effects before after → WereDone files_told lines_told sid effects before (heard_at then_told after)
  done_then effects before after then_told same done = record {
    node = λ node is. let now = done.node node is in record { journal = now.journal; shelf = now.shelf; phase = now.phase; holder = now.holder };
    traffic = λ told. same told ∙ done.traffic told;
    frames = done.frames;
  }

-- a node that stands so, with these other sessions
pub node_at : Setting → steps.Reading → ℕ → List Session → Spot → Node
node_at setting read sid others at = record { view = view_with setting read at.entries; shelf = at.shelf; sessions = sessions_with [] sid at.phase others at.holdings }

pub node_is : (files_told : Type 0) (setting : Setting) (read : steps.Reading) (sid : ℕ) (others : List Session) (at : Spot) → IsAt files_told setting read sid others (node_at setting read sid others at) at
unfolding node_at
node_is files_told setting read sid others at = record {
  so = record {
    config = refl;
    stands = record { journal = refl; shelf = λ told. refl; phase = cond-true (eqb sid sid) at.phase (phase_among others sid) (eq-eqb sid sid refl); holder = λ key. refl };
  };
  phases = refl;
  owners = refl;
}

module _ (files_told lines_told : Type 0) (setting : Setting) (read : steps.Reading) (sid now : ℕ) where
  pub ended_taken : (rule : Node → ℕ → ℕ → List Effect) (before after : Spot) → DidEnd files_told lines_told setting read sid now rule before after → lines_told → after.traffic.taken ≡ before.traffic.taken
  ended_taken rule before after ended told =
      let node = node_at setting read sid [] before in
      done_taken files_told lines_told sid (rule node sid now) before after (ended node (node_is files_told setting read sid [] before).so) told

  pub end_stopped_taken : (rule : Node → ℕ → ℕ → List Effect) (why : Fault) (before after : Spot) → EndStopped files_told lines_told setting read sid now rule why before after → lines_told → after.traffic.taken ≡ before.traffic.taken
  end_stopped_taken rule why before after stopped told =
      let node = node_at setting read sid [] before in
      stopped_taken files_told lines_told sid (rule node sid now) why before after (stopped node (node_is files_told setting read sid [] before).so) told

  pub ended_then : (rule : Node → ℕ → ℕ → List Effect) (before after : Spot) (then_told : Traffic) → (lines_told → then_told ≡ after.traffic) → DidEnd files_told lines_told setting read sid now rule before after → DidEnd files_told lines_told setting read sid now rule before (heard_at then_told after)
  ended_then rule before after then_told same ended = λ node is. done_then files_told lines_told sid (rule node sid now) before after then_told same (ended node is)

-- What the lines counted may be taken earlier before and later after.
module _ (files_told lines_told : Type 0) (setting : Setting) (read : steps.Reading) (sid now : ℕ) (counts_before counts : LineCounts) where
  gave_up_taken : (before after : Spot) → GaveUp files_told lines_told setting read sid now counts_before counts before after → lines_told → after.traffic.taken ≡ before.traffic.taken
  gave_up_taken before after gave told =
      elim gave [
        | inl did ↦ ended_taken files_told lines_told setting read sid now row_trouble before after did told
        | inr lost ↦ ended_taken files_told lines_told setting read sid now row_end lost.at after lost.ended told ∙ end_stopped_taken files_told lines_told setting read sid now row_trouble fault.Line before lost.at lost.stopped told
      ]

  gave_up_then : (first last : LineCounts) (before after : Spot) (then_told : Traffic) → NeverFell first counts_before → NeverFell counts last → (lines_told → then_told ≡ after.traffic)
      → GaveUp files_told lines_told setting read sid now counts_before counts before after → GaveUp files_told lines_told setting read sid now first last before (heard_at then_told after)
  gave_up_then first last before after then_told early late same gave =
      elim gave [
        | inl did ↦ inl (ended_then files_told lines_told setting read sid now row_trouble before after then_told same did)
        | inr lost ↦ inr (record {
          at = lost.at;
          cause = wider sid first counts_before counts last early late lost.cause;
          stopped = lost.stopped;
          ended = ended_then files_told lines_told setting read sid now row_end lost.at after then_told same lost.ended;
        })
      ]

  pub gave_up_since : (first : LineCounts) (before after : Spot) → NeverFell first counts_before
      → GaveUp files_told lines_told setting read sid now counts_before counts before after → GaveUp files_told lines_told setting read sid now first counts before after
  gave_up_since first before after early gave =
      elim gave [
        | inl did ↦ inl did
        | inr lost ↦ inr (record { at = lost.at; cause = wider sid first counts_before counts counts early (fell_none counts) lost.cause; stopped = lost.stopped; ended = lost.ended })
      ]

  pub gave_failed_since : (first : LineCounts) (why : Fault) (before after : Spot) → NeverFell first counts_before
      → GivingUpFailed files_told lines_told setting read sid now counts_before counts why before after → GivingUpFailed files_told lines_told setting read sid now first counts why before after
  gave_failed_since first why before after early gave =
      elim gave [
        | inl stopped ↦ inl stopped
        | inr lost ↦ inr (record { at = lost.at; cause = wider sid first counts_before counts counts early (fell_none counts) lost.cause; stopped = lost.stopped; ended = lost.ended })
      ]

module _ (it : Case) (counts_before counts : LineCounts) where
  pub handled_taken : (ending : Ending) (before after : Spot) → WasHandled it counts_before counts ending before after → it.lines_told → after.traffic.taken ≡ before.traffic.taken
  handled_taken Went before after did told =
      let node = node_at it.setting it.read it.sid it.others before in
      done_taken it.files_told it.lines_told it.sid (row node it.sid did.answers it.frame) before after (did.done node (node_is it.files_told it.setting it.read it.sid it.others before)) told
  handled_taken Lost before after lost told =
      let node = node_at it.setting it.read it.sid it.others before in
      ended_taken it.files_told it.lines_told it.setting it.read it.sid it.now row_end lost.at after lost.ended told
      ∙ stopped_taken it.files_told it.lines_told it.sid (row node it.sid lost.cut.answers it.frame) fault.Line before lost.at (lost.cut.stopped node (node_is it.files_told it.setting it.read it.sid it.others before)) told
  handled_taken Troubled before after trouble told =
      let node = node_at it.setting it.read it.sid it.others before in
      gave_up_taken it.files_told it.lines_told it.setting it.read it.sid it.now counts_before counts trouble.at after trouble.ended told
      ∙ stopped_taken it.files_told it.lines_told it.sid (row node it.sid trouble.cut.answers it.frame) fault.Files before trouble.at (trouble.cut.stopped node (node_is it.files_told it.setting it.read it.sid it.others before)) told

  -- the same, by counts of earlier and of later
  handled_then : (first last : LineCounts) (ending : Ending) (before after : Spot) (then_told : Traffic) → NeverFell first counts_before → NeverFell counts last → (it.lines_told → then_told ≡ after.traffic)
      → WasHandled it counts_before counts ending before after → WasHandled it first last ending before (heard_at then_told after)
  handled_then first last Went before after then_told early late same did = record {
    answers = did.answers;
    moment = did.moment;
    done = λ node is. done_then it.files_told it.lines_told it.sid (row node it.sid did.answers it.frame) before after then_told same (did.done node is);
    told = did.told;
  }
  handled_then first last Lost before after then_told early late same lost = record {
    at = lost.at;
    cause = wider it.sid first counts_before counts last early late lost.cause;
    cut = lost.cut;
    ended = ended_then it.files_told it.lines_told it.setting it.read it.sid it.now row_end lost.at after then_told same lost.ended;
  }
  handled_then first last Troubled before after then_told early late same trouble = record {
    at = trouble.at;
    cut = trouble.cut;
    ended = gave_up_then it.files_told it.lines_told it.setting it.read it.sid it.now counts_before counts first last trouble.at after then_told early late same trouble.ended;
  }

  pub handled_since : (first : LineCounts) (ending : Ending) (before after : Spot) → NeverFell first counts_before → WasHandled it counts_before counts ending before after → WasHandled it first counts ending before after
  handled_since first Went before after early did = record { answers = did.answers; moment = did.moment; done = did.done; told = did.told }
  handled_since first Lost before after early lost = record { at = lost.at; cause = wider it.sid first counts_before counts counts early (fell_none counts) lost.cause; cut = lost.cut; ended = lost.ended }
  handled_since first Troubled before after early trouble = record {
    at = trouble.at;
    cut = trouble.cut;
    ended = gave_up_since it.files_told it.lines_told it.setting it.read it.sid it.now counts_before counts first trouble.at after early trouble.ended;
  }

  pub failed_since : (first : LineCounts) (why : Fault) (before after : Spot) → NeverFell first counts_before → HasFailed it counts_before counts why before after → HasFailed it first counts why before after
  failed_since first why before after early failed =
      elim failed [
        | inl cut ↦ inl cut
        | inr more ↦ inr (elim more [
          | inl losing ↦ inl (record { at = losing.at; cause = wider it.sid first counts_before counts counts early (fell_none counts) losing.cause; cut = losing.cut; ended = losing.ended })
          | inr telling ↦ inr (record {
            at = telling.at;
            cut = telling.cut;
            ended = gave_failed_since it.files_told it.lines_told it.setting it.read it.sid it.now counts_before counts first why telling.at after early telling.ended;
          })
        ])
      ]

-- A turn.
module _ (files_told lines_told : Type 0) (setting : Setting) (read : steps.Reading) (sid now : ℕ) (others : List Session) (ending : Ending) (counts_before counts : LineCounts) (reader_before reader : Reading) (before after : Spot) where
  pub turn_then : (then_counts : LineCounts) (then_told : Traffic) → NeverFell counts then_counts → (lines_told → then_told ≡ after.traffic)
      → TookTurn files_told lines_told setting read sid now others ending counts_before counts reader_before reader before after
      → TookTurn files_told lines_told setting read sid now others ending counts_before then_counts reader_before reader before (heard_at then_told after)
  turn_then then_counts then_told later same turn =
      elim turn [
        | inl took ↦ inl (record {
          frame = took.frame;
          heard = took.heard;
          came = took.came;
          handled = handled_then (the_case files_told lines_told setting read sid now others took.frame) counts_before counts counts_before then_counts ending (heard_at took.heard before) after then_told (fell_none counts_before) later same took.handled;
        })
        | inr lost ↦ inr (
          lost.0,
          elim lost.1 [
            | inl took ↦ inl (record {
              heard = took.heard;
              came = took.came;
              why = ended_later reader sid counts_before counts then_counts took.why later;
              ended = ended_then files_told lines_told setting read sid now row_end (heard_at took.heard before) after then_told same took.ended;
            })
            | inr none ↦ inr (record { over = none.over; same = none.same; ended = ended_then files_told lines_told setting read sid now row_end before after then_told same none.ended })
          ],
        )
      ]
