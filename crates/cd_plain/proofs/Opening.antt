-- A session that is new stands behind those that were there.
use Rattle.std.proofs.Common.{◌≡◌, ℕ, ◌<◌, ◌≤◌, List, [], ◌∷◌, ◌++◌, sym, ap, subst, ◌∙◌}
use Rattle.cd_outside.specs.Lines.{Traffic}
use Rattle.cd_frames.specs.Reading.{Reading}
use Rattle.cd_exchange.specs.declared.session.Session.{Session}
use Rattle.cd_plain.specs.NodeState.{NodeState, AreRising, AreRead, IsNewest, HasNewReader, HasSessions}
use Rattle.cd_plain.proofs.Places.{read_same, read_more, rising_more, unread_was}

pub opened : (lines_told : Type 0) (node after : NodeState) (before now : Traffic) (last now_last : ℕ) (s : Session)
    → HasSessions lines_told node before last → IsNewest s.sid.number node.sessions → 0 < s.sid.number → s.sid.number ≤ now_last
    → (lines_told → now.taken ≡ before.taken) → (lines_told → before.taken s.sid.number ≡ [])
    → after.sessions ≡ node.sessions ++ s ∷ [] → HasNewReader node.readings after.readings
    → HasSessions lines_told after now now_last
opened lines_told node after before now last now_last s has newest from to same fresh sessions readings = record {
  sids = subst (λ (l : List Session). AreRising 0 now_last l) (sym sessions) (rising_more 0 last now_last node.sessions s has.sids newest from to);
  reads = λ told.
      let none : now.taken s.sid.number ≡ [] = ap (λ (taken : ℕ → List ℕ). taken s.sid.number) (same told) ∙ fresh told in
      subst (λ (l : List Session). AreRead now l after.readings) (sym sessions)
      (subst (λ (l : List Reading). AreRead now (node.sessions ++ s ∷ []) l) (sym readings.readings)
      (read_more now node.sessions node.readings s readings.reader (unread_was readings.reader (now.taken s.sid.number) readings.unread none)
      (read_same before now node.sessions node.readings (same told) (has.reads told))));
}
