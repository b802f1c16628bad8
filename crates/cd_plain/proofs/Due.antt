-- What is chosen, and what was taken, by the rules' rows.
use Rattle.std.proofs.Common.{◌≡◌, inl, inr, ℕ, ◌+◌, ◌<◌, ◌≤◌, List, [], ◌∷◌, ◌++◌, map, min, Bool, true, false, cond, Option, Some, None, eqb, leb, refl, sym, ap, subst, ◌∙◌, arith}
use Rattle.std.specs.Prelude.{◌&&◌, nat_lt}
use Rattle.std.specs.List.{filter_map, cons_option}
use Rattle.std.proofs.lemmas.Bool.{and_from, and_parts, cond-true, cond-false, eq-eqb, ne_eqb, eqb-true, cases_Bool, le-leb, lt-ltb}
use Rattle.std.proofs.Math.Nat.{min-le_right}
use Rattle.std.proofs.lemmas.List.{map_push, append-nil}
use Rattle.cd_types.specs.declared.choices.Queue.TheVariants as queue
use Rattle.cd_types.specs.declared.choices.Reason.TheVariants as reason
use Rattle.cd_types.specs.declared.rows.Placing.{Placing}
use Rattle.cd_types.specs.declared.rows.Row.{Row}
use Rattle.cd_entries.specs.declared.entry.Entry.{Entry}
use Rattle.cd_entries.specs.declared.entry.Entry.TheVariants as entry
use Rattle.cd_outside.specs.declared.sid.Sid.{Sid}
use Rattle.cd_rules.specs.Processes.{moment_of}
use Rattle.cd_rules.specs.Queue.{Waits, after_wait, after_attempts, retried, next_due}
use Rattle.cd_rules.specs.Legal.{allowed, is_legal}
use Rattle.cd_rules.specs.Steps.{Reading}
use Rattle.cd_protocol.specs.Closing.{own_number}
use Rattle.cd_protocol.specs.Node.{NodeView, Node, Effect, does}
use Rattle.cd_protocol.specs.Promises.{StaysLegal}
use Rattle.cd_protocol.specs.Rows.{is_by, is_formed, may_record, place_in, opened, row_accept, busy, call, row_chosen, row_choose}
use Rattle.cd_protocol.specs.declared.session.Phase.{Phase}
use Rattle.cd_protocol.specs.declared.session.Phase.TheVariants.{Fresh}
use Rattle.cd_effects.specs.declared.owners.Holding.{Holding}
use Rattle.cd_effects.specs.Stands.{holder_of}
use Rattle.cd_exchange.specs.Sessions.{phase_among}
use Rattle.cd_exchange.specs.declared.session.Session.{Session}
use Rattle.cd_session_rules.specs.NodeView.{view_of}
use Rattle.cd_plain.specs.Choice.{placing_of}
use Rattle.cd_plain.specs.Chosen.{busy_with, busy_in, placed_in}
use Rattle.cd_plain.specs.Law.{number_of, IsNodeOf}
use Rattle.cd_plain.specs.NodeState.{NodeState, AreRising, AreMade, IsNewest}

-- each session is in this phase
abbrev AllPhases : (ℕ → Phase) → List Session → Type 0
AllPhases phase [] = Unit {0}
AllPhases phase (s ∷ sessions) = (phase s.sid.number ≡ s.phase) × AllPhases phase sessions

phases_from : (phase : ℕ → Phase) (above last : ℕ) (sessions : List Session) → AreRising above last sessions → ((sid : ℕ) → above < sid → phase sid ≡ phase_among sessions sid) → AllPhases phase sessions
phases_from phase above last [] rising same = tt
phases_from phase above last (s ∷ sessions) rising same = (
  same s.sid.number rising.0 ∙ cond-true (eqb s.sid.number s.sid.number) s.phase (phase_among sessions s.sid.number) (eq-eqb s.sid.number s.sid.number refl),
  phases_from phase s.sid.number last sessions rising.1 (λ sid newer. same sid (omega (arith, rising.0, newer))
      ∙ cond-false (eqb s.sid.number sid) s.phase (phase_among sessions sid) (ne_eqb s.sid.number sid (λ is. absurd (omega (arith, newer, is))))),
)

busy_more : (own : Option ℕ) (numbers busy_now : List ℕ) → numbers ≡ busy_now → cons_option own numbers ≡ busy_with own busy_now
busy_more None numbers busy_now same = same
busy_more (Some n) numbers busy_now same = ap (λ (l : List ℕ). n ∷ l) same

busy_is : (phase : ℕ → Phase) (sessions : List Session) → AllPhases phase sessions → filter_map (λ sid. own_number (phase sid)) (map number_of sessions) ≡ busy_in sessions
busy_is phase [] all = refl
busy_is phase (s ∷ sessions) all =
    subst (λ (p : Phase). cons_option (own_number p) (filter_map (λ sid. own_number (phase sid)) (map number_of sessions)) ≡ busy_with (own_number s.phase) (busy_in sessions)) (sym all.0)
    (busy_more (own_number s.phase) (filter_map (λ sid. own_number (phase sid)) (map number_of sessions)) (busy_in sessions) (busy_is phase sessions all.1))

pub choice_is : (read : Reading) (state : NodeState) (node : Node) (last now : ℕ) (connected : Bool) → AreMade last state.sessions → IsNodeOf read state node
    → row_choose node now connected ≡ row_chosen (view_of read state.config state.registry.entries) now connected (next_due state.registry.entries now (busy_in state.sessions))
choice_is read state node last now connected rising is =
    let all = phases_from node.sessions.phase 0 last state.sessions rising (λ sid newer. is.phases sid) in
    let same : busy node.sessions ≡ busy_in state.sessions = ap (filter_map (λ sid. own_number (node.sessions.phase sid))) is.sids ∙ busy_is node.sessions.phase state.sessions all in
    ap (λ (numbers : List ℕ). row_chosen node.view now connected (next_due node.view.journal now numbers)) same
    ∙ ap (λ (view : NodeView). row_chosen view now connected (next_due view.journal now (busy_in state.sessions))) is.view

-- A session that was taken.

-- the phases, with a newer session behind the others
phase_more : (sessions : List Session) (sid : Sid) (phase : Phase) → IsNewest sid.number sessions → (other : ℕ)
    → cond (eqb sid.number other) phase (phase_among sessions other) ≡ phase_among (sessions ++ (record { sid = sid; phase = phase }) ∷ []) other
phase_more [] sid phase newest other = refl
phase_more (s ∷ sessions) sid phase newest other = elim (cases_Bool (eqb s.sid.number other)) [
  | inl first ↦
      let is : s.sid.number ≡ other = eqb-true s.sid.number other first in
      let apart : eqb sid.number other ≡ false = ne_eqb sid.number other (λ same. absurd (omega (arith, newest.0, is, same))) in
      cond-false (eqb sid.number other) phase (phase_among (s ∷ sessions) other) apart
      ∙ cond-true (eqb s.sid.number other) s.phase (phase_among sessions other) first
      ∙ sym (cond-true (eqb s.sid.number other) s.phase (phase_among (sessions ++ (record { sid = sid; phase = phase }) ∷ []) other) first)
  | inr later ↦
      ap (λ (rest : Phase). cond (eqb sid.number other) phase rest) (cond-false (eqb s.sid.number other) s.phase (phase_among sessions other) later)
      ∙ phase_more sessions sid phase newest.1 other
      ∙ sym (cond-false (eqb s.sid.number other) s.phase (phase_among (sessions ++ (record { sid = sid; phase = phase }) ∷ []) other) later)
]

pub taken_is : (read : Reading) (state after : NodeState) (node : Node) (sid : Sid) → IsNewest sid.number state.sessions → IsNodeOf read state node
    → after.registry ≡ state.registry → after.config ≡ state.config → after.holdings ≡ state.holdings → after.sessions ≡ state.sessions ++ (record { sid = sid; phase = Fresh }) ∷ []
    → IsNodeOf read after (does sid.number row_accept (opened sid.number node))
taken_is read state after node sid newest is registry config holdings sessions =
    let s : Session = record { sid = sid; phase = Fresh } in
    record {
      view = is.view ∙ ap (λ r. view_of read state.config r.entries) (sym registry) ∙ ap (λ k. view_of read k after.registry.entries) (sym config);
      sids = ap (λ (l : List ℕ). l ++ sid.number ∷ []) is.sids ∙ sym (map_push number_of state.sessions s) ∙ ap (map number_of) (sym sessions);
      phases = λ other. ap (λ (rest : Phase). cond (eqb sid.number other) Fresh rest) (is.phases other) ∙ phase_more state.sessions sid Fresh newest other ∙ ap (λ (l : List Session). phase_among l other) (sym sessions);
      owners = λ key. is.owners key ∙ ap (λ (l : List Holding). holder_of l key) (sym holdings);
    }

-- A placing of what is due.

either_placing : (b : Bool) (one other : Placing) → nat_lt one.due 250000000000 ≡ true → nat_lt other.due 250000000000 ≡ true → nat_lt (cond b one other).due 250000000000 ≡ true
either_placing true one other x y = x
either_placing false one other x y = y

soon : (now wait : ℕ) → nat_lt (after_wait now wait) 250000000000 ≡ true
soon now wait = let low : min (now + wait) 249999999999 ≤ 249999999999 = min-le_right (now + wait) 249999999999 in lt-ltb (min (now + wait) 249999999999) 250000000000 (omega (arith, low))

due_formed : (waits : Waits) (now attempts prty : ℕ) → nat_lt (after_attempts waits now attempts prty).due 250000000000 ≡ true
due_formed waits now attempts prty =
    either_placing (leb attempts waits.short_attempts) _ _ (soon now waits.short) (either_placing (leb attempts (waits.short_attempts + waits.long_attempts)) _ _ (soon now waits.long) refl)

retried_formed : (waits : Waits) (now : ℕ) (placed : Placing) (n : ℕ) → is_formed (entry.Placed n (retried waits now placed) now) ≡ true
unfolding is_formed
retried_formed waits now placed n = due_formed waits now (min (placed.attempts + 1) 65535) placed.prty

hold_formed : (n now : ℕ) (placed : Placing) → is_formed (place_in n now queue.Hold reason.UnknownNode placed) ≡ true
unfolding is_formed
hold_formed n now placed = refl

-- it may be recorded where the journal with it is legal
may_be : (read : Reading) (entries : List Entry) (n now : ℕ) (placed : Placing) → is_formed (entry.Placed n placed now) ≡ true → is_legal read (entry.Placed n placed now ∷ entries) ≡ true → may_record read now entries (entry.Placed n placed now) ≡ true
unfolding is_legal
may_be read entries n now placed formed legal =
    let e : Entry = entry.Placed n placed now in
    let fits = (and_parts (is_legal read entries) (allowed read entries e) legal).1 in
    and_from (allowed read entries e && is_by now (moment_of e)) (is_formed e) (and_from (allowed read entries e) (is_by now (moment_of e)) fits (le-leb now now (omega arith))) formed

placed_may : (view : NodeView) (now : ℕ) (row : Row) (waits : Option Waits) (e : Entry) (node : Node) → placed_in (call view now false row waits) ≡ Some e
    → is_legal view.config.read (does 0 (call view now false row waits) node).view.journal ≡ true → node.view.journal ≡ view.journal → may_record view.config.read now view.journal e ≡ true
placed_may view now row None e node is legal journal =
    let own : place_in row.number now queue.Hold reason.UnknownNode row.placing ≡ e = cc in
    subst (λ (x : Entry). may_record view.config.read now view.journal x ≡ true) own
    (may_be view.config.read view.journal row.number now _ (hold_formed row.number now row.placing)
    (subst (λ (es : List Entry). is_legal view.config.read (place_in row.number now queue.Hold reason.UnknownNode row.placing ∷ es) ≡ true) journal legal))
placed_may view now row (Some waits) e node is legal journal =
    let own : entry.Placed row.number (retried waits now row.placing) now ≡ e = cc in
    subst (λ (x : Entry). may_record view.config.read now view.journal x ≡ true) own
    (may_be view.config.read view.journal row.number now _ (retried_formed waits now row.placing row.number)
    (subst (λ (es : List Entry). is_legal view.config.read (entry.Placed row.number (retried waits now row.placing) now ∷ es) ≡ true) journal legal))

pub placing_may : (read : Reading) (state : NodeState) (node : Node) (last now : ℕ) (row : Row) (e : Entry) → AreMade last state.sessions → IsNodeOf read state node
    → StaysLegal 0 now node (row_choose node now false)
    → next_due state.registry.entries now (busy_in state.sessions) ≡ Some row → placing_of (view_of read state.config state.registry.entries) now row ≡ Some e
    → may_record read now state.registry.entries e ≡ true
placing_may read state node last now row e rising is stays due placing =
    let view = view_of read state.config state.registry.entries in
    let chosen : row_choose node now false ≡ row_chosen view now false (Some row) = choice_is read state node last now false rising is ∙ ap (row_chosen view now false) due in
    let legal = (stays (row_choose node now false) [] (sym (append-nil (row_choose node now false)))).legal in
    let here : is_legal view.config.read (does 0 (row_chosen view now false (Some row)) node).view.journal ≡ true =
    subst (λ (effects : List Effect). is_legal view.config.read (does 0 effects node).view.journal ≡ true) chosen (subst (λ (d : NodeView). is_legal d.config.read (does 0 (row_choose node now false) node).view.journal ≡ true) is.view legal) in
    placed_may view now row (view.config.partner row.snode) e node placing here (ap (λ (d : NodeView). d.journal) is.view)
