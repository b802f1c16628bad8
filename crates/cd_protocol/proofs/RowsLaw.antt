-- Whatever comes in whatever phase, each effect of its row leaves a legal journal that has the earlier one behind it.
use Rattle.std.proofs.Common.{◌≡◌, ℕ, zero, suc, ◌+◌, ◌≤◌, Bool, true, false, cond, ◌&&◌, eqb, leb, List, [], ◌∷◌, ◌++◌, Option, Some, None, inl, inr, refl, sym, ◌∙◌, ap, subst, min, arith}
use Rattle.std.proofs.Math.Nat.{max-le, min-le_right}
use Rattle.std.proofs.lemmas.List.{append-nil}
use Rattle.std.specs.Prelude.{◌||◌, not, nat_lt, filter}
use Rattle.std.specs.List.{list_any, list_all, cons_option, filter_map}
use Rattle.std.proofs.lemmas.Bool.{cases_Bool, and_parts, and_from, or_cases, or_left, or_right, le-leb, leb-true, lt-ltb, eq-eqb, cond-true, cond-false, false≢true}
use Rattle.cd_types.specs.Format.{◌>>=◌}
use Rattle.cd_types.specs.declared.choices.Cause.TheVariants as cause
use Rattle.cd_types.specs.declared.choices.Queue.{Queue}
use Rattle.cd_types.specs.declared.choices.Queue.TheVariants as queue
use Rattle.cd_types.specs.declared.choices.Reason.TheVariants as reason
use Rattle.cd_types.specs.declared.rows.Placing.{Placing}
use Rattle.cd_types.specs.declared.rows.Row.{Row}
use Rattle.cd_entries.specs.declared.entry.Entry.{Entry}
use Rattle.cd_entries.specs.declared.entry.Entry.TheVariants as entry
use Rattle.cd_types.specs.declared.key.Key.{Key}
use Rattle.cd_frames.specs.Frame.{is_abort}
use Rattle.cd_frames.specs.Message as message
use Rattle.cd_frames.specs.Message.{Message}
use Rattle.cd_rules.specs.Processes.{Submission, submission, is_live, live_numbers, moment_of, later_of, latest}
use Rattle.cd_rules.specs.Queue.{Waits, placing, queue_of, queue_at, runs_in, is_due, goes_before, the_earlier, choice, row_made, row_of, rows, next_due, retried, after_wait, after_attempts}
use Rattle.cd_rules.specs.Legal.{allowed, is_legal, is_empty, may_place, is_reason_in, is_hold}
use Rattle.cd_rules.proofs.PlacingsLaw.{well_placed}
use Rattle.cd_rules.specs.Promises.{HavePriorities, WellPlaced}
use Rattle.cd_rules.specs.Steps.{Reading, runs_itself}
use Rattle.cd_protocol.specs.Closing.{own_number, key_under_way, is_running, waits_for, retry, retry_own, close, trouble_for, trouble}
use Rattle.cd_protocol.specs.declared.session.Phase.{Phase}
use Rattle.cd_protocol.specs.declared.session.Phase.TheVariants.{Gone}
use Rattle.cd_protocol.specs.declared.session.Continuation.{Continuation}
use Rattle.cd_protocol.specs.declared.session.Continuation.TheVariants.{Done, Next, Undo, Push, Offered, Onto, Piece}
use Rattle.cd_protocol.specs.Node.{Config, NodeView, Sessions, Node, Effect, Keep, Touch, AskSize, AskBytes, Begin, Go, Reaction, only, did, does, Answers}
use Rattle.cd_protocol.specs.Rows.{is_by, is_formed, is_sendable, may_record, are_allowed, checked, reaction_in, first_reaction, reaction_behind, asked, is_done, all_reactions, most_reactions, row, row_accept, row_end, row_trouble, is_dead, is_detached, place_in, connect, call, row_chosen, row_choose, busy}
use Rattle.cd_protocol.specs.Promises.{IsLegalAfter, StaysLegal}

-- A journal into which a row was recorded.

legal_more : (read : Reading) (e : Entry) (journal : List Entry) → is_legal read journal ≡ true → allowed read journal e ≡ true → is_legal read (e ∷ journal) ≡ true
unfolding is_legal
legal_more read e journal legal fits = and_from (is_legal read journal) (allowed read journal e) legal fits

later_by : (m : Option ℕ) (before now : ℕ) → is_by now m ≡ true → before ≤ now → later_of m before ≤ now
later_by None before now by early = early
later_by (Some moment) before now by early = max-le early (leb-true moment now by)

latest_more : (e : Entry) (journal : List Entry) (now : ℕ) → is_by now (moment_of e) ≡ true → latest journal ≤ now → latest (e ∷ journal) ≤ now
unfolding latest
latest_more e journal now by early = later_by (moment_of e) (latest journal) now by early

-- what an entry that may be recorded has
kept_parts : (read : Reading) (now : ℕ) (journal : List Entry) (e : Entry) (effects : List Effect) → are_allowed read now journal (Keep e ∷ effects) ≡ true
    → (allowed read journal e ≡ true) × (is_by now (moment_of e) ≡ true) × (are_allowed read now (e ∷ journal) effects ≡ true)
kept_parts read now journal e effects fits =
    let outer = and_parts (may_record read now journal e) (are_allowed read now (e ∷ journal) effects) fits in
    let inner = and_parts (allowed read journal e && is_by now (moment_of e)) (is_formed e) outer.0 in
    let both = and_parts (allowed read journal e) (is_by now (moment_of e)) inner.0 in
    (both.0, both.1, outer.1)

-- an entry of this very moment
of_now : (read : Reading) (now : ℕ) (journal : List Entry) (e : Entry) → moment_of e ≡ Some now → allowed read journal e ≡ true → is_formed e ≡ true → may_record read now journal e ≡ true
of_now read now journal e at fits formed =
    and_from (allowed read journal e && is_by now (moment_of e)) (is_formed e)
    (and_from (allowed read journal e) _ fits (ap (is_by now) at ∙ le-leb now now (omega arith))) formed

kept_fits : (read : Reading) (now : ℕ) (journal : List Entry) (e : Entry) (effects : List Effect) → may_record read now journal e ≡ true
    → are_allowed read now (e ∷ journal) effects ≡ true → are_allowed read now journal (Keep e ∷ effects) ≡ true
kept_fits read now journal e effects fits rest = and_from (may_record read now journal e) _ fits rest

-- each reaction of a row whose entries may follow leaves a legal journal
pub reaction_legal : (sid now : ℕ) (done more : List Effect) (node : Node) → is_legal node.view.config.read node.view.journal ≡ true
    → are_allowed node.view.config.read now node.view.journal (done ++ more) ≡ true → is_legal node.view.config.read (does sid done node).view.journal ≡ true
reaction_legal sid now [] more node legal fits = legal
reaction_legal sid now (Keep e ∷ done) more node legal fits =
    let reactions = kept_parts node.view.config.read now node.view.journal e (done ++ more) fits in
    reaction_legal sid now done more (did sid (Keep e) node) (legal_more node.view.config.read e node.view.journal legal reactions.0) reactions.2
reaction_legal sid now (Touch change ∷ done) more node legal fits = reaction_legal sid now done more (did sid (Touch change) node) legal fits
reaction_legal sid now (AskSize name ∷ done) more node legal fits = reaction_legal sid now done more node legal fits
reaction_legal sid now (AskBytes name at len ∷ done) more node legal fits = reaction_legal sid now done more node legal fits
reaction_legal sid now (Begin key phase ∷ done) more node legal fits = reaction_legal sid now done more (did sid (Begin key phase) node) legal fits
reaction_legal sid now (Go phase frames ∷ done) more node legal fits = reaction_legal sid now done more (did sid (Go phase frames) node) legal (and_parts (list_all is_sendable frames) _ fits).1

-- one without a later moment
pub reaction_on_time : (sid now : ℕ) (done more : List Effect) (node : Node) → latest node.view.journal ≤ now
    → are_allowed node.view.config.read now node.view.journal (done ++ more) ≡ true → latest (does sid done node).view.journal ≤ now
reaction_on_time sid now [] more node early fits = early
reaction_on_time sid now (Keep e ∷ done) more node early fits =
    let reactions = kept_parts node.view.config.read now node.view.journal e (done ++ more) fits in
    reaction_on_time sid now done more (did sid (Keep e) node) (latest_more e node.view.journal now reactions.1 early) reactions.2
reaction_on_time sid now (Touch change ∷ done) more node early fits = reaction_on_time sid now done more (did sid (Touch change) node) early fits
reaction_on_time sid now (AskSize name ∷ done) more node early fits = reaction_on_time sid now done more node early fits
reaction_on_time sid now (AskBytes name at len ∷ done) more node early fits = reaction_on_time sid now done more node early fits
reaction_on_time sid now (Begin key phase ∷ done) more node early fits = reaction_on_time sid now done more (did sid (Begin key phase) node) early fits
reaction_on_time sid now (Go phase frames ∷ done) more node early fits = reaction_on_time sid now done more (did sid (Go phase frames) node) early (and_parts (list_all is_sendable frames) _ fits).1

-- and one that has the earlier one behind it
pub reaction_extends : (sid : ℕ) (done : List Effect) (node : Node) → (later : List Entry) × ((does sid done node).view.journal ≡ later ++ node.view.journal)
reaction_extends sid [] node = ([], refl)
reaction_extends sid (Keep e ∷ done) node =
    let rest = reaction_extends sid done (did sid (Keep e) node) in
    (rest.0 ++ e ∷ [], rest.1 ∙ moved rest.0 e node.view.journal) where
      moved : (later : List Entry) (e : Entry) (journal : List Entry) → later ++ e ∷ journal ≡ (later ++ e ∷ []) ++ journal
      moved [] e journal = refl
      moved (x ∷ later) e journal = ap (λ (rest : List Entry). x ∷ rest) (moved later e journal)
reaction_extends sid (Touch change ∷ done) node = reaction_extends sid done (did sid (Touch change) node)
reaction_extends sid (AskSize name ∷ done) node = reaction_extends sid done node
reaction_extends sid (AskBytes name at len ∷ done) node = reaction_extends sid done node
reaction_extends sid (Begin key phase ∷ done) node = reaction_extends sid done (did sid (Begin key phase) node)
reaction_extends sid (Go phase frames ∷ done) node = reaction_extends sid done (did sid (Go phase frames) node)

-- the texts are read as before
pub same_config : (sid : ℕ) (done : List Effect) (node : Node) → (does sid done node).view.config ≡ node.view.config
same_config sid [] node = refl
same_config sid (Keep e ∷ done) node = same_config sid done (did sid (Keep e) node)
same_config sid (Touch change ∷ done) node = same_config sid done (did sid (Touch change) node)
same_config sid (AskSize name ∷ done) node = same_config sid done node
same_config sid (AskBytes name at len ∷ done) node = same_config sid done node
same_config sid (Begin key phase ∷ done) node = same_config sid done (did sid (Begin key phase) node)
same_config sid (Go phase frames ∷ done) node = same_config sid done (did sid (Go phase frames) node)

-- entries that may follow, and behind them others that may
both_fit : (sid now : ℕ) (read : Reading) (first second : List Effect) (node : Node) → are_allowed read now node.view.journal first ≡ true
    → are_allowed read now (does sid first node).view.journal second ≡ true → are_allowed read now node.view.journal (first ++ second) ≡ true
both_fit sid now read [] second node fits more = more
both_fit sid now read (Keep e ∷ first) second node fits more =
    let reactions = and_parts (may_record read now node.view.journal e) (are_allowed read now (e ∷ node.view.journal) first) fits in
    kept_fits read now node.view.journal e (first ++ second) reactions.0 (both_fit sid now read first second (did sid (Keep e) node) reactions.1 more)
both_fit sid now read (Touch change ∷ first) second node fits more = both_fit sid now read first second (did sid (Touch change) node) fits more
both_fit sid now read (AskSize name ∷ first) second node fits more = both_fit sid now read first second node fits more
both_fit sid now read (AskBytes name at len ∷ first) second node fits more = both_fit sid now read first second node fits more
both_fit sid now read (Begin key phase ∷ first) second node fits more = both_fit sid now read first second (did sid (Begin key phase) node) fits more
both_fit sid now read (Go phase frames ∷ first) second node fits more =
    let reactions = and_parts (list_all is_sendable frames) _ fits in
    and_from (list_all is_sendable frames) _ reactions.0 (both_fit sid now read first second (did sid (Go phase frames) node) reactions.1 more)

-- A Process that is placed anew.

not_empty : (journal : List Entry) (n : ℕ) → is_live journal n ≡ true → not (is_empty journal) ≡ true
unfolding is_live
not_empty [] n live = absurd (false≢true live)
not_empty (e ∷ journal) n live = refl

-- who runs isn't held
not_held : (now : ℕ) (placed : Placing) → is_running now placed ≡ true → is_hold placed.queue ≡ false
not_held now placed runs = by_queue placed.queue runs where
  by_queue : (q : Queue) → runs_in (queue_of now placed.due q) ≡ true → is_hold q ≡ false
  by_queue queue.Execution runs = refl
  by_queue queue.Wait runs = refl
  by_queue queue.Timer runs = refl
  by_queue queue.Hold runs = absurd (false≢true runs)

-- what every placing after an attempt is like
either_placing : (b : Bool) (p q : Placing) (P : Placing → Type 0) → P p → P q → P (cond b p q)
either_placing true p q P x y = x
either_placing false p q P x y = y

retried_reason : (waits : Waits) (now attempts prty : ℕ) → is_reason_in (after_attempts waits now attempts prty).queue (after_attempts waits now attempts prty).reason ≡ true
retried_reason waits now attempts prty =
    let P : Placing → Type 0 = λ p. is_reason_in p.queue p.reason ≡ true in
    either_placing (leb attempts waits.short_attempts) _ _ P refl (either_placing (leb attempts (waits.short_attempts + waits.long_attempts)) _ _ P refl refl)

retried_prty : (waits : Waits) (now attempts prty : ℕ) → (after_attempts waits now attempts prty).prty ≡ prty
retried_prty waits now attempts prty =
    let P : Placing → Type 0 = λ p. p.prty ≡ prty in
    either_placing (leb attempts waits.short_attempts) _ _ P refl (either_placing (leb attempts (waits.short_attempts + waits.long_attempts)) _ _ P refl refl)

-- it is due at a moment
due_formed : (waits : Waits) (now attempts prty : ℕ) → nat_lt (after_attempts waits now attempts prty).due 250000000000 ≡ true
due_formed waits now attempts prty =
    let P : Placing → Type 0 = λ p. nat_lt p.due 250000000000 ≡ true in
    either_placing (leb attempts waits.short_attempts) _ _ P (soon waits.short) (either_placing (leb attempts (waits.short_attempts + waits.long_attempts)) _ _ P (soon waits.long) refl)
  where
    soon : (wait : ℕ) → nat_lt (after_wait now wait) 250000000000 ≡ true
    soon wait = let low : min (now + wait) 249999999999 ≤ 249999999999 = min-le_right (now + wait) 249999999999 in lt-ltb (min (now + wait) 249999999999) 250000000000 (omega (arith, low))

retried_formed : (waits : Waits) (now : ℕ) (placed : Placing) (n : ℕ) → is_formed (entry.Placed n (retried waits now placed) now) ≡ true
unfolding is_formed
retried_formed waits now placed n = due_formed waits now (min (placed.attempts + 1) 65535) placed.prty

abort_sends : (key : Key) → nat_lt key.place 1024 ≡ true → is_sendable (message.Abort key cause.Trouble) ≡ true
unfolding is_sendable is_abort
abort_sends key low = and_from (nat_lt key.place 1024) true low refl

sends_if : (b : Bool) (m : Message) → (b ≡ true → is_sendable m ≡ true) → list_all is_sendable (cond b (m ∷ []) []) ≡ true
sends_if true m sends = and_from (is_sendable m) true (sends refl) refl
sends_if false m sends = refl

trouble_sends : (key : Option Key) → list_all is_sendable (trouble_for key) ≡ true
trouble_sends None = refl
trouble_sends (Some key) = sends_if (nat_lt key.place 1024) (message.Abort key cause.Trouble) (abort_sends key)

hold_formed : (n now : ℕ) (placed : Placing) → is_formed (place_in n now queue.Hold reason.UnknownNode placed) ≡ true
unfolding is_formed
hold_formed n now placed = refl

module _ (view : NodeView) (priorities : HavePriorities view.config.read) (legal : is_legal view.config.read view.journal ≡ true) (now : ℕ) (on_time : latest view.journal ≤ now) where
  retry_allowed : (n : ℕ) (placed : Placing) (waits : Waits) → placing view.journal n ≡ Some placed → is_live view.journal n ≡ true → is_running now placed ≡ true
      → allowed view.config.read view.journal (entry.Placed n (retried waits now placed) now) ≡ true
  unfolding allowed
  retry_allowed n placed waits is live runs =
      let well : WellPlaced (runs_itself view.journal n) placed = well_placed view.config.read priorities view.journal n placed legal is in
      let again : Placing = retried waits now placed in
      let prty : again.prty ≡ placed.prty = retried_prty waits now (min (placed.attempts + 1) 65535) placed.prty in
      let why : is_reason_in again.queue again.reason ≡ true = retried_reason waits now (min (placed.attempts + 1) 65535) placed.prty in
      let itself : runs_itself view.journal n ≡ true =
      elim (or_cases (runs_itself view.journal n) (is_hold placed.queue) well.held) [
        | inl runs_it ↦ runs_it
        | inr held ↦ absurd (false≢true (sym (not_held now placed runs) ∙ held))
      ] in
      let low : leb 1 again.prty ≡ true = le-leb 1 again.prty (omega (arith, prty, well.low)) in
      let high : leb again.prty 15 ≡ true = le-leb again.prty 15 (omega (arith, prty, well.high)) in
      let place : may_place view.journal n again ≡ true =
      and_from _ _ (and_from _ _ (and_from _ _ (and_from _ _ live why) low) high) (or_left (runs_itself view.journal n) (is_hold again.queue) itself) in
      and_from _ _ (and_from _ _ (not_empty view.journal n live) (le-leb (latest view.journal) now on_time)) place

  retry_fits : (n : ℕ) (found : Option Placing) (last : Effect) → placing view.journal n ≡ found → are_allowed view.config.read now view.journal (last ∷ []) ≡ true
      → ((journal : List Entry) → are_allowed view.config.read now journal (last ∷ []) ≡ true)
      → are_allowed view.config.read now view.journal (retry view now n found ++ last ∷ []) ≡ true
  retry_fits n None last is plain always = plain
  retry_fits n (Some placed) last is plain always =
      elim (cases_Bool (is_live view.journal n && is_running now placed)) [
        | inl runs ↦
            let reactions = and_parts (is_live view.journal n) (is_running now placed) runs in
            let e : Entry = entry.Placed n (retried (waits_for view (submission view.journal n)) now placed) now in
            let kept : are_allowed view.config.read now view.journal (Keep e ∷ last ∷ []) ≡ true =
            kept_fits view.config.read now view.journal e (last ∷ [])
            (of_now view.config.read now view.journal e refl (retry_allowed n placed (waits_for view (submission view.journal n)) is reactions.0 reactions.1)
            (retried_formed (waits_for view (submission view.journal n)) now placed n)) (always (e ∷ view.journal)) in
            subst (λ (effects : List Effect). are_allowed view.config.read now view.journal (effects ++ last ∷ []) ≡ true)
            (sym (cond-true (is_live view.journal n && is_running now placed) (Keep e ∷ []) [] runs)) kept
        | inr rests ↦
            subst (λ (effects : List Effect). are_allowed view.config.read now view.journal (effects ++ last ∷ []) ≡ true)
            (sym (cond-false (is_live view.journal n && is_running now placed) _ [] rests)) plain
      ]

  end_fits : (own : Option ℕ) → are_allowed view.config.read now view.journal (retry_own view now own ++ Go Gone [] ∷ []) ≡ true
  end_fits None = refl
  end_fits (Some n) = retry_fits n (placing view.journal n) (Go Gone []) refl refl (λ _. refl)

  pub close_fits : (phase : Phase) → are_allowed view.config.read now view.journal (close view now phase) ≡ true
  close_fits phase = end_fits (own_number phase)

  pub trouble_fits : (phase : Phase) → are_allowed view.config.read now view.journal (trouble view now phase) ≡ true
  trouble_fits phase = and_from (list_all is_sendable (trouble_for (key_under_way phase))) _ (trouble_sends (key_under_way phase)) (close_fits phase)

  -- a reaction whose entries may follow, or else the end
  pub checked_fits : (phase : Phase) (reaction : Reaction) → are_allowed view.config.read now view.journal (checked view now phase reaction).effects ≡ true
  checked_fits phase reaction =
      elim (cases_Bool (are_allowed view.config.read now view.journal reaction.effects)) [
        | inl fits ↦ subst (λ (chosen : Reaction). are_allowed view.config.read now view.journal chosen.effects ≡ true) (sym (cond-true (are_allowed view.config.read now view.journal reaction.effects) reaction (only (close view now phase)) fits)) fits
        | inr not_fits ↦ subst (λ (chosen : Reaction). are_allowed view.config.read now view.journal chosen.effects ≡ true) (sym (cond-false (are_allowed view.config.read now view.journal reaction.effects) reaction (only (close view now phase)) not_fits)) (close_fits phase)
      ]

-- questions record nothing
asked_fits : (read : Reading) (now : ℕ) (journal : List Entry) (view : NodeView) (last : Continuation) (more : List Effect) → are_allowed read now journal more ≡ true
    → are_allowed read now journal (asked view last ++ more) ≡ true
asked_fits read now journal view Done more fits = fits
asked_fits read now journal view (Next terms n) more fits = fits
asked_fits read now journal view (Undo role terms key why) more fits = fits
asked_fits read now journal view (Push terms key) more fits = fits
asked_fits read now journal view (Offered terms key name interval) more fits = fits
asked_fits read now journal view (Onto role terms key a) more fits = fits
asked_fits read now journal view (Piece role terms key source offset) more fits = fits

-- all reactions, where the first one may follow
reactions_fit : (more : ℕ) (node : Node) → HavePriorities node.view.config.read → (sid : ℕ) (answers : Answers) (reaction : Reaction)
    → is_legal node.view.config.read node.view.journal ≡ true → latest node.view.journal ≤ answers.now
    → are_allowed node.view.config.read answers.now node.view.journal reaction.effects ≡ true
    → are_allowed node.view.config.read answers.now node.view.journal (all_reactions more node sid answers reaction) ≡ true
unfolding all_reactions
reactions_fit zero node priorities sid answers reaction legal early fits = fits
reactions_fit (suc more) node priorities sid answers reaction legal early fits =
    let after : Node = does sid reaction.effects node in
    let same : after.view.config ≡ node.view.config = same_config sid reaction.effects node in
    let whole : are_allowed node.view.config.read answers.now node.view.journal (reaction.effects ++ []) ≡ true = subst (λ (effects : List Effect). are_allowed node.view.config.read answers.now node.view.journal effects ≡ true) (sym (append-nil reaction.effects)) fits in
    let legal2 : is_legal after.view.config.read after.view.journal ≡ true = subst (λ (config : Config). is_legal config.read after.view.journal ≡ true) (sym same) (reaction_legal sid answers.now reaction.effects [] node legal whole) in
    let early2 : latest after.view.journal ≤ answers.now = reaction_on_time sid answers.now reaction.effects [] node early whole in
    let priorities2 : HavePriorities after.view.config.read = subst (λ (config : Config). HavePriorities config.read) (sym same) priorities in
    let following : Reaction = checked after.view answers.now (after.sessions.phase sid) (reaction_behind after.view answers.now (after.sessions.phase sid) answers reaction.later) in
    let rest : are_allowed after.view.config.read answers.now after.view.journal (all_reactions more after sid answers following) ≡ true =
    reactions_fit more after priorities2 sid answers following legal2 early2 (checked_fits after.view priorities2 legal2 answers.now early2 (after.sessions.phase sid) (reaction_behind after.view answers.now (after.sessions.phase sid) answers reaction.later)) in
    let rest2 : are_allowed node.view.config.read answers.now after.view.journal (all_reactions more after sid answers following) ≡ true = subst (λ (config : Config). are_allowed config.read answers.now after.view.journal (all_reactions more after sid answers following) ≡ true) same rest in
    both_fit sid answers.now node.view.config.read reaction.effects _ node fits
    (either (is_done reaction.later) (asked after.view reaction.later ++ all_reactions more after sid answers following) (asked_fits node.view.config.read answers.now after.view.journal after.view reaction.later _ rest2))
  where
    either : (b : Bool) (effects : List Effect) → are_allowed node.view.config.read answers.now (does sid reaction.effects node).view.journal effects ≡ true
        → are_allowed node.view.config.read answers.now (does sid reaction.effects node).view.journal (cond b [] effects) ≡ true
    either true effects h = refl
    either false effects h = h

stays : (sid now : ℕ) (node : Node) (effects : List Effect) → is_legal node.view.config.read node.view.journal ≡ true → latest node.view.journal ≤ now → are_allowed node.view.config.read now node.view.journal effects ≡ true
    → StaysLegal sid now node effects
stays sid now node effects legal early fits done more split =
    let reactions : are_allowed node.view.config.read now node.view.journal (done ++ more) ≡ true = subst (λ (all : List Effect). are_allowed node.view.config.read now node.view.journal all ≡ true) split fits in
    record {
      legal = reaction_legal sid now done more node legal reactions;
      later = (reaction_extends sid done node).0;
      extends = (reaction_extends sid done node).1;
      on_time = reaction_on_time sid now done more node early reactions;
    }

pub first_fits : (view : NodeView) (sessions : Sessions) → HavePriorities view.config.read → (sid now : ℕ) (m : Message)
    → is_legal view.config.read view.journal ≡ true → latest view.journal ≤ now → are_allowed view.config.read now view.journal (first_reaction view sessions now sid m).effects ≡ true
first_fits view sessions priorities sid now m legal early =
    elim (is_dead view (own_number (sessions.phase sid)) || is_detached sessions sid (key_under_way (sessions.phase sid))) as (λ b. are_allowed view.config.read now view.journal (cond b (only (close view now (sessions.phase sid))) (checked view now (sessions.phase sid) (reaction_in view sessions now sid m (sessions.phase sid)))).effects ≡ true) [
      | true ↦ close_fits view priorities legal now early (sessions.phase sid)
      | false ↦ checked_fits view priorities legal now early (sessions.phase sid) (reaction_in view sessions now sid m (sessions.phase sid))
    ]

pub row_stays : (node : Node) → HavePriorities node.view.config.read → (sid : ℕ) (answers : Answers) (m : Message)
    → is_legal node.view.config.read node.view.journal ≡ true → latest node.view.journal ≤ answers.now → StaysLegal sid answers.now node (row node sid answers m)
row_stays node priorities sid answers m legal early =
    stays sid answers.now node (row node sid answers m) legal early
    (reactions_fit most_reactions node priorities sid answers (first_reaction node.view node.sessions answers.now sid m) legal early (first_fits node.view node.sessions priorities sid answers.now m legal early))

pub row_end_stays : (node : Node) → HavePriorities node.view.config.read → (sid now : ℕ)
    → is_legal node.view.config.read node.view.journal ≡ true → latest node.view.journal ≤ now → StaysLegal sid now node (row_end node sid now)
row_end_stays node priorities sid now legal early = stays sid now node (row_end node sid now) legal early (close_fits node.view priorities legal now early (node.sessions.phase sid))

pub row_trouble_stays : (node : Node) → HavePriorities node.view.config.read → (sid now : ℕ)
    → is_legal node.view.config.read node.view.journal ≡ true → latest node.view.journal ≤ now → StaysLegal sid now node (row_trouble node sid now)
row_trouble_stays node priorities sid now legal early = stays sid now node (row_trouble node sid now) legal early (trouble_fits node.view priorities legal now early (node.sessions.phase sid))

-- a fault of the files behind a first part of a row
pub fault_stays : (node : Node) → HavePriorities node.view.config.read → (sid now : ℕ) (effects : List Effect)
    → StaysLegal sid now node effects → (done more : List Effect) → effects ≡ done ++ more → StaysLegal sid now (does sid done node) (row_trouble (does sid done node) sid now)
fault_stays node priorities sid now effects stays done more split =
    let after : IsLegalAfter sid now node done = stays done more split in
    let same : (does sid done node).view.config ≡ node.view.config = same_config sid done node in
    row_trouble_stays (does sid done node) (subst (λ (config : Config). HavePriorities config.read) (sym same) priorities) sid now
    (subst (λ (config : Config). is_legal config.read (does sid done node).view.journal ≡ true) (sym same) after.legal) after.on_time

pub row_accept_stays : (node : Node) → (sid now : ℕ)
    → is_legal node.view.config.read node.view.journal ≡ true → latest node.view.journal ≤ now → StaysLegal sid now node row_accept
row_accept_stays node sid now legal early = stays sid now node row_accept legal early refl

-- The choice: the Process that is taken is live, stands as its row says, and runs.

abbrev AllSo : (ℕ → Bool) → List ℕ → Type 0
AllSo so [] = Unit {0}
AllSo so (n ∷ ns) = (so n ≡ true) × AllSo so ns

all_more : (so more : ℕ → Bool) → ((n : ℕ) → so n ≡ true → more n ≡ true) → (ns : List ℕ) → AllSo so ns → AllSo more ns
all_more so more then [] all = tt
all_more so more then (n ∷ ns) all = (then n all.0, all_more so more then ns all.1)

all_last : (so : ℕ → Bool) (ns : List ℕ) (n : ℕ) → AllSo so ns → so n ≡ true → AllSo so (ns ++ n ∷ [])
all_last so [] n all last = (last, tt)
all_last so (m ∷ ns) n all last = (all.0, all_last so ns n all.1 last)

all_filtered : (so test : ℕ → Bool) (ns : List ℕ) → AllSo so ns → AllSo (λ n. test n && so n) (filter test ns)
all_filtered so test [] all = tt
all_filtered so test (n ∷ ns) all =
    elim (cases_Bool (test n)) [
      | inl kept ↦ subst (λ (rest : List ℕ). AllSo (λ m. test m && so m) rest) (sym (cond-true (test n) (n ∷ filter test ns) (filter test ns) kept)) (and_from (test n) (so n) kept all.0, all_filtered so test ns all.1)
      | inr left ↦ subst (λ (rest : List ℕ). AllSo (λ m. test m && so m) rest) (sym (cond-false (test n) (n ∷ filter test ns) (filter test ns) left)) (all_filtered so test ns all.1)
    ]

all_live : (journal : List Entry) → AllSo (is_live journal) (live_numbers journal)
unfolding is_live live_numbers
all_live [] = tt
all_live (entry.Submitted number moment origin card text ∷ journal) =
    all_last (is_live (entry.Submitted number moment origin card text ∷ journal)) (live_numbers journal) number
    (all_more (is_live journal) (is_live (entry.Submitted number moment origin card text ∷ journal)) (λ n live. or_right (eqb number n) (is_live journal n) live) (live_numbers journal) (all_live journal))
    (or_left (eqb number number) (is_live journal number) (eq-eqb number number refl))
all_live (entry.Closed number how moment ∷ journal) = all_filtered (is_live journal) (λ n. not (eqb number n)) (live_numbers journal) (all_live journal)
all_live (e ∷ journal) = all_live journal

-- a row of such a Process
record IsLiveRow (journal : List Entry) (row : Row) : Type 0 where
  live : is_live journal row.number ≡ true
  placed : placing journal row.number ≡ Some row.placing

abbrev AreLiveRows : List Entry → List Row → Type 0
AreLiveRows journal [] = Unit {0}
AreLiveRows journal (row ∷ more) = IsLiveRow journal row × AreLiveRows journal more

one_row : (journal : List Entry) (n : ℕ) (s : Option Submission) (p : Option Placing) (more : List Row) → is_live journal n ≡ true → placing journal n ≡ p → AreLiveRows journal more
    → AreLiveRows journal (cons_option (s >>= (λ found. p >>= (λ placed. Some (row_made n found.card placed)))) more)
one_row journal n None p more live is rest = rest
one_row journal n (Some s) None more live is rest = rest
one_row journal n (Some s) (Some placed) more live is rest = (record { live = live; placed = is }, rest)

live_rows : (journal : List Entry) (ns : List ℕ) → AllSo (is_live journal) ns → AreLiveRows journal (filter_map (row_of journal) ns)
live_rows journal [] all = tt
live_rows journal (n ∷ ns) all = one_row journal n (submission journal n) (placing journal n) (filter_map (row_of journal) ns) all.0 refl (live_rows journal ns all.1)

-- the row that is chosen is such a row, and runs
record MayRun (journal : List Entry) (now : ℕ) (row : Row) : Type 0 where
  live_row : IsLiveRow journal row
  runs : is_running now row.placing ≡ true

abbrev OfChosen : List Entry → ℕ → Option Row → Type 0
OfChosen journal now None = Unit {0}
OfChosen journal now (Some row) = MayRun journal now row

earlier_runs : (journal : List Entry) (now : ℕ) (row : Row) (other : Option Row) → MayRun journal now row → OfChosen journal now other → MayRun journal now (the_earlier row other)
earlier_runs journal now row None own others = own
earlier_runs journal now row (Some other) own others = elim (goes_before other row) as (λ b. MayRun journal now (cond b other row)) [ true ↦ others | false ↦ own ]

choice_runs : (journal : List Entry) (now : ℕ) (numbers : List ℕ) (among : List Row) → AreLiveRows journal among → OfChosen journal now (choice now numbers among)
choice_runs journal now numbers [] all = tt
choice_runs journal now numbers (row ∷ more) all =
    let rest : OfChosen journal now (choice now numbers more) = choice_runs journal now numbers more all.1 in
    elim (cases_Bool (is_due now numbers row)) [
      | inl due ↦
          let runs : is_running now row.placing ≡ true = (and_parts (runs_in (queue_at now row.placing)) (not (list_any (λ n. eqb n row.number) numbers)) due).0 in
          subst (λ (chosen : Option Row). OfChosen journal now chosen)
          (sym (cond-true (is_due now numbers row) (Some (the_earlier row (choice now numbers more))) (choice now numbers more) due))
          (earlier_runs journal now row (choice now numbers more) (record { live_row = all.0; runs = runs }) rest)
      | inr not_due ↦
          subst (λ (chosen : Option Row). OfChosen journal now chosen)
          (sym (cond-false (is_due now numbers row) (Some (the_earlier row (choice now numbers more))) (choice now numbers more) not_due)) rest
    ]

module _ (view : NodeView) (priorities : HavePriorities view.config.read) (legal : is_legal view.config.read view.journal ≡ true) (now : ℕ) (on_time : latest view.journal ≤ now) where
  -- the Process is held
  hold_allowed : (n : ℕ) (placed : Placing) → placing view.journal n ≡ Some placed → is_live view.journal n ≡ true
      → allowed view.config.read view.journal (place_in n now queue.Hold reason.UnknownNode placed) ≡ true
  unfolding allowed
  hold_allowed n placed is live =
      let well : WellPlaced (runs_itself view.journal n) placed = well_placed view.config.read priorities view.journal n placed legal is in
      let place : may_place view.journal n (record { queue = queue.Hold; reason = reason.UnknownNode; due = 0; attempts = 0; prty = placed.prty }) ≡ true =
      and_from _ _ (and_from _ _ (and_from _ _ (and_from _ _ live refl) (le-leb 1 placed.prty well.low)) (le-leb placed.prty 15 well.high)) (or_right (runs_itself view.journal n) true refl) in
      and_from _ _ (and_from _ _ (not_empty view.journal n live) (le-leb (latest view.journal) now on_time)) place

  held_fits : (row : Row) → MayRun view.journal now row → are_allowed view.config.read now view.journal (call view now true row None) ≡ true
  held_fits row may =
      let e : Entry = place_in row.number now queue.Hold reason.UnknownNode row.placing in
      kept_fits view.config.read now view.journal e []
      (of_now view.config.read now view.journal e refl (hold_allowed row.number row.placing may.live_row.placed may.live_row.live) (hold_formed row.number now row.placing)) refl

  failed_fits : (row : Row) (waits : Waits) → MayRun view.journal now row → are_allowed view.config.read now view.journal (connect view now row waits false) ≡ true
  failed_fits row waits may =
      let e : Entry = entry.Placed row.number (retried waits now row.placing) now in
      kept_fits view.config.read now view.journal e []
      (of_now view.config.read now view.journal e refl (retry_allowed view priorities legal now on_time row.number row.placing waits may.live_row.placed may.live_row.live may.runs) (retried_formed waits now row.placing row.number)) refl

-- an effect that records nothing leaves the journal
go_stays : (sid now : ℕ) (node : Node) (phase : Phase) (frames : List Message) → is_legal node.view.config.read node.view.journal ≡ true → latest node.view.journal ≤ now
    → StaysLegal sid now node (Go phase frames ∷ [])
go_stays sid now node phase frames legal early [] more split = record { legal = legal; later = []; extends = refl; on_time = early }
go_stays sid now node phase frames legal early (Go phase2 frames2 ∷ []) more split = record { legal = legal; later = []; extends = refl; on_time = early }
go_stays sid now node phase frames legal early (Go phase2 frames2 ∷ effect ∷ done) more split = absurd cc
go_stays sid now node phase frames legal early (Keep e ∷ done) more split = absurd cc
go_stays sid now node phase frames legal early (Touch change ∷ done) more split = absurd cc
go_stays sid now node phase frames legal early (AskSize name ∷ done) more split = absurd cc
go_stays sid now node phase frames legal early (AskBytes name at len ∷ done) more split = absurd cc
go_stays sid now node phase frames legal early (Begin key phase2 ∷ done) more split = absurd cc

module _ (node : Node) (priorities : HavePriorities node.view.config.read) (legal : is_legal node.view.config.read node.view.journal ≡ true) (sid now : ℕ) (early : latest node.view.journal ≤ now) where
  call_stays : (row : Row) (waits : Option Waits) (connected : Bool) → MayRun node.view.journal now row → StaysLegal sid now node (call node.view now connected row waits)
  call_stays row None connected may = stays sid now node _ legal early (held_fits node.view priorities legal now early row may)
  call_stays row (Some waits) true may = go_stays sid now node _ _ legal early
  call_stays row (Some waits) false may = stays sid now node _ legal early (failed_fits node.view priorities legal now early row waits may)

  chosen_stays : (chosen : Option Row) (connected : Bool) → OfChosen node.view.journal now chosen → StaysLegal sid now node (row_chosen node.view now connected chosen)
  chosen_stays None connected of_chosen = stays sid now node [] legal early refl
  chosen_stays (Some row) connected of_chosen = call_stays row (node.view.config.partner row.snode) connected of_chosen

pub row_choose_stays : (node : Node) → HavePriorities node.view.config.read → (sid now : ℕ) (sessions : Sessions) (connected : Bool)
    → is_legal node.view.config.read node.view.journal ≡ true → latest node.view.journal ≤ now → StaysLegal sid now (record node { sessions = sessions }) (row_choose node now connected)
row_choose_stays node priorities sid now sessions connected legal early =
    chosen_stays (record node { sessions = sessions }) priorities legal sid now early (next_due node.view.journal now (busy node.sessions)) connected
    (choice_runs node.view.journal now (busy node.sessions) (rows node.view.journal) (live_rows node.view.journal (live_numbers node.view.journal) (all_live node.view.journal)))
