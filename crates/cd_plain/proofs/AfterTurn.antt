-- What a turn makes of a node, from what it makes of the session at hand.
use Rattle.std.proofs.Common.{◌≡◌, ℕ, List, Some, refl, sym, ap, subst, ◌∙◌}
use Rattle.std.specs.Prelude.{slice_get, slice_set}
use Rattle.std.proofs.lemmas.List.{set-set}
use Rattle.cd_outside.specs.Counts.{Rose}
use Rattle.cd_outside.specs.Lines.{Traffic}
use Rattle.cd_outside.specs.declared.sid.Sid.{Sid}
use Rattle.cd_frames.specs.Reading.{Reading}
use Rattle.cd_rules.specs.Steps as steps
use Rattle.cd_protocol.specs.Node.{Node}
use Rattle.cd_protocol.specs.declared.session.Phase.{Phase}
use Rattle.cd_protocol.specs.declared.session.Phase.TheVariants.{Gone}
use Rattle.cd_effects.specs.Joint.{NodeImage}
use Rattle.cd_effects.specs.declared.fault.Fault.{Fault}
use Rattle.cd_exchange.specs.Sessions.{IsAt}
use Rattle.cd_exchange.specs.declared.session.Session.{Session}
use Rattle.cd_exchange.specs.Crash.{TurnLeaves}
use Rattle.cd_plain.specs.Crash.{NodeLeaves}
use Rattle.cd_exchange.specs.Arriving.{TookOfOne}
use Rattle.cd_plain.specs.NodeState.{NodeState, HasSessions, AreRising, AreRead, WasRead}
use Rattle.cd_exchange.specs.Setting.{setting_of}
use Rattle.cd_exchange.specs.Turn.{MayBeLost, TookTurn, TurnFailed}
use Rattle.cd_plain.specs.Turned.{handled_of, in_phase, others_at, place_of, spot_of, Told, HadTurn, FailedTurn}
use Rattle.cd_exchange.specs.declared.ending.Ending.{Ending}
use Rattle.cd_exchange.specs.declared.ending.Ending.TheVariants as an_ending
use Rattle.cd_plain.proofs.Places.{get_set, rising_set, read_at, read_phase, read_same, read_set}
use Rattle.cd_plain.proofs.Reading.{turn_read, turn_others}

-- a phase was taken out, and another one put back
pub swapped_back : (xs ys zs : List Session) (at : ℕ) (s : Session) (was phase : Phase) → slice_get xs at ≡ Some s → ys ≡ slice_set xs at (in_phase Gone s)
    → ((t : Session) → slice_get ys at ≡ Some t → (was ≡ t.phase) × (zs ≡ slice_set ys at (in_phase phase t)))
    → zs ≡ slice_set xs at (in_phase phase s)
swapped_back xs ys zs at s was phase is first again =
    let gone = subst (λ (l : List Session). slice_get l at ≡ Some (in_phase Gone s)) (sym first) (get_set xs at s (in_phase Gone s) is) in
    (again (in_phase Gone s) gone).1 ∙ ap (λ (l : List Session). slice_set l at (in_phase phase s)) first ∙ set-set xs at (in_phase Gone s) (in_phase phase s)

module _ (files_told lines_told : Type 0) (read : steps.Reading) (now : ℕ) (sid : Sid) (node after : NodeState) (before now_told : Told) (at : ℕ) (s : Session) (was phase : Phase) (others : List Session) (reader_before reader : Reading)
    (first : place_of sid.number node.sessions ≡ Some at) (is : slice_get node.sessions at ≡ Some s) (number : s.sid.number ≡ sid.number) (reads : slice_get node.readings at ≡ Some reader_before)
    (sessions : after.sessions ≡ slice_set node.sessions at (in_phase phase s)) (readers : after.readings ≡ slice_set node.readings at reader)
    (was_is : was ≡ s.phase) (others_are : others ≡ slice_set node.sessions at (in_phase Gone s)) where
  pub had_turn : (ending : Ending)
      → TookTurn files_told lines_told (setting_of node.config) read sid.number now others ending before.counts now_told.counts reader_before reader (spot_of node was before) (spot_of after phase now_told)
      → (ending ≡ an_ending.Lost → MayBeLost node.registry.entries was reader sid.number before.counts now_told.counts)
      → (ending ≡ an_ending.Troubled → Rose before.files now_told.files)
      → HadTurn files_told lines_told read now sid (handled_of ending sid) node after before now_told
  had_turn ending turn lost troubled = record {
    at = at;
    session = s;
    phase = phase;
    reader_before = reader_before;
    reader = reader;
    ending = ending;
    is = record { first = first; stands = is; number = number; reads = reads };
    sessions = sessions;
    readers = readers;
    answered = refl;
    turn = subst (λ (p : Phase). TookTurn files_told lines_told (setting_of node.config) read sid.number now (others_at at s node.sessions) ending before.counts now_told.counts reader_before reader (spot_of node p before) (spot_of after phase now_told)) was_is
        (subst (λ (l : List Session). TookTurn files_told lines_told (setting_of node.config) read sid.number now l ending before.counts now_told.counts reader_before reader (spot_of node was before) (spot_of after phase now_told)) others_are turn);
    lost = λ so. subst (λ (p : Phase). MayBeLost node.registry.entries p reader sid.number before.counts now_told.counts) was_is (lost so);
    troubled = troubled;
  }

  pub failed_turn : (why : Fault)
      → TurnFailed files_told lines_told (setting_of node.config) read sid.number now others why before.counts now_told.counts reader_before reader (spot_of node was before) (spot_of after phase now_told)
      → FailedTurn files_told lines_told read now sid why node after before now_told
  failed_turn why failed = record {
    at = at;
    session = s;
    phase = phase;
    reader_before = reader_before;
    reader = reader;
    is = record { first = first; stands = is; number = number; reads = reads };
    sessions = sessions;
    readers = readers;
    failed = subst (λ (p : Phase). TurnFailed files_told lines_told (setting_of node.config) read sid.number now (others_at at s node.sessions) why before.counts now_told.counts reader_before reader (spot_of node p before) (spot_of after phase now_told)) was_is
        (subst (λ (l : List Session). TurnFailed files_told lines_told (setting_of node.config) read sid.number now l why before.counts now_told.counts reader_before reader (spot_of node was before) (spot_of after phase now_told)) others_are failed);
  }

  -- what a crash leaves
  pub node_leaves : (first_left last_left : ℕ → NodeImage → Type 0) (from : ℕ)
      → ((n : Node) → IsAt files_told (setting_of node.config) read sid.number others n (spot_of node was before)
      → TurnLeaves files_told lines_told (setting_of node.config) read sid.number now others reader_before reader (spot_of node was before) n first_left last_left from)
      → NodeLeaves files_told lines_told read now sid node before first_left last_left from
  node_leaves first_left last_left from run = record {
    at = at;
    session = s;
    reader_before = reader_before;
    reader = reader;
    is = record { first = first; stands = is; number = number; reads = reads };
    leaves = subst (λ (p : Phase). (n : Node) → IsAt files_told (setting_of node.config) read sid.number (others_at at s node.sessions) n (spot_of node p before)
        → TurnLeaves files_told lines_told (setting_of node.config) read sid.number now (others_at at s node.sessions) reader_before reader (spot_of node p before) n first_left last_left from) was_is
        (subst (λ (l : List Session). (n : Node) → IsAt files_told (setting_of node.config) read sid.number l n (spot_of node was before)
        → TurnLeaves files_told lines_told (setting_of node.config) read sid.number now l reader_before reader (spot_of node was before) n first_left last_left from) others_are run);
  }

  -- the sessions stand as before
  pub sessions_turned : (last : ℕ) (ending : Ending)
      → TookTurn files_told lines_told (setting_of node.config) read sid.number now others ending before.counts now_told.counts reader_before reader (spot_of node was before) (spot_of after phase now_told)
      → HasSessions lines_told node before.traffic last → HasSessions lines_told after now_told.traffic last
  sessions_turned last ending turn has = record {
    sids = subst (λ (l : List Session). AreRising 0 last l) (sym sessions) (rising_set 0 last node.sessions at s phase has.sids is);
    reads = λ told.
        let took = turn_others files_told lines_told (setting_of node.config) read sid.number now others ending before.counts now_told.counts reader_before reader (spot_of node was before) (spot_of after phase now_told) turn told in
        let read_now = turn_read files_told lines_told (setting_of node.config) read sid.number now others ending before.counts now_told.counts reader_before reader (spot_of node was before) (spot_of after phase now_told) turn told (subst (λ (n : ℕ). WasRead (before.traffic.taken n) reader_before) number (read_at before.traffic node.sessions node.readings at s reader_before is reads (has.reads told))) in
        subst (λ (l : List Session). AreRead now_told.traffic l after.readings) (sym sessions)
        (subst (λ (l : List Reading). AreRead now_told.traffic (slice_set node.sessions at (in_phase phase s)) l) (sym readers)
        (read_set 0 last before.traffic now_told.traffic node.sessions node.readings at s phase reader has.sids is
        (subst (λ (n : ℕ). TookOfOne n before.traffic now_told.traffic) (sym number) took)
        (subst (λ (n : ℕ). WasRead (now_told.traffic.taken n) reader) (sym number) read_now)
        (has.reads told)));
  }

-- they stand as before where a session was left, too
pub sessions_left : (lines_told : Type 0) (node after : NodeState) (before now : Traffic) (last at : ℕ) (s : Session) (phase : Phase) → slice_get node.sessions at ≡ Some s
    → after.sessions ≡ slice_set node.sessions at (in_phase phase s) → after.readings ≡ node.readings → (lines_told → now.taken ≡ before.taken)
    → HasSessions lines_told node before last → HasSessions lines_told after now last
sessions_left lines_told node after before now last at s phase is sessions readings same has = record {
  sids = subst (λ (l : List Session). AreRising 0 last l) (sym sessions) (rising_set 0 last node.sessions at s phase has.sids is);
  reads = λ told. subst (λ (l : List Session). AreRead now l after.readings) (sym sessions)
      (subst (λ (l : List Reading). AreRead now (slice_set node.sessions at (in_phase phase s)) l) (sym readings)
      (read_phase now node.sessions node.readings at s phase is (read_same before now node.sessions node.readings (same told) (has.reads told))));
}
