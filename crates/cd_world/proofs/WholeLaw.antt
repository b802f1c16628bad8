-- After every list of events what landed is the source, whole.
use Rattle.std.proofs.Common.{◌≡◌, ℕ, ◌+◌, ◌≤◌, Bool, true, false, cond, ◌&&◌, eqb, ltb, List, [], ◌∷◌, ◌++◌, length, take, drop, Option, Some, None, inl, inr, refl, sym, ◌∙◌, ap, subst, min, arith, length-take}
use Rattle.std.proofs.lemmas.List.{append-nil, take-append-drop, take-take}
use Rattle.std.proofs.lemmas.Bool.{cases_Bool, and_parts, or_parts, cond-true, cond-false, false≢true, eq-eqb}
use Rattle.std.specs.List.{list_any}
use Rattle.std.specs.Str.{bytes_eq}
use Rattle.std.proofs.lemmas.Slice.Eq.{bytes_eq-Decides}
use Rattle.cd_outside.specs.Shelf as shelves
use Rattle.cd_outside.specs.Shelf.{content_of, settled_file}
use Rattle.cd_types.specs.declared.card.Filed.{Filed as Card}
use Rattle.cd_types.specs.declared.choices.Cause.TheVariants as cause
use Rattle.cd_types.specs.declared.key.Key.{Key}
use Rattle.cd_types.specs.declared.rows.Receiving.{Receiving}
use Rattle.cd_types.specs.declared.rows.Row.{Row}
use Rattle.cd_entries.specs.declared.entry.Entry.{Entry}
use Rattle.cd_frames.specs.Message as message
use Rattle.cd_frames.specs.Message.{Message}
use Rattle.cd_rules.specs.Openings.{open_on}
use Rattle.cd_rules.specs.Queue.{Waits, next_due}
use Rattle.cd_rules.specs.Status as status
use Rattle.cd_rules.specs.Status.{Status, mark}
use Rattle.cd_rules.proofs.StatusLaw.{status_says}
use Rattle.cd_rules.specs.Legal.{allowed, is_legal}
use Rattle.cd_rules.proofs.OpeningsLaw as openings
use Rattle.cd_rules.specs.Steps.{Reading}
use Rattle.cd_protocol.specs.declared.session.Phase.{Phase}
use Rattle.cd_protocol.specs.declared.session.Phase.TheVariants.{Gone, Take}
use Rattle.cd_protocol.specs.Closing.{own_number, key_under_way, retry_own, trouble_for, trouble}
use Rattle.cd_protocol.specs.Node.{Config, NodeView, Sessions, Node, Effect, Keep, Touch, AskSize, AskBytes, Begin, Go, Answers, does, recorded}
use Rattle.cd_protocol.specs.Rows.{row, row_choose, row_trouble, row_chosen, call, busy}
use Rattle.cd_protocol.proofs.RowsLaw.{same_config}
use Rattle.cd_world.specs.World.{At, A, B, across, Note, Wrote, Half, World, seen_from, is_gone, at_session, world_did, world_does, Happening, Choice, Call, Frame, End, Task, nothing, opens, with_session, called, answers_now, came, ended, task_of, task, ToldFor, Told, world_after, world_within, effects_left, Cut, Unchanged, Begun, cut_off, IsCutOff, with_shelf, world_faulted, IsLeft, down, world_stopped, no_sessions, marked, world_started, world_lost, spoiled_by, world_written, submission_of, world_submitted, Event, Does, Fails, Stops, Starts, Loses, Writes, Later, Submits, later, happens, IsPossible, after, ArePossible, IsNew, IsFirst}
use Rattle.cd_world.specs.Holds.{journal_of, AreSources}
use Rattle.cd_world.proofs.FrontsLaw.{front_take}
use Rattle.cd_world.proofs.GrownLaw.{does_node, BothGrown, BothSound, within_grown, whole_grown, trouble_grown, legal_more, happens_grown, first_sound}
use Rattle.cd_world.proofs.AgreedLaw.{fresh_first}
use Rattle.cd_world.proofs.PiecesLaw.{speaks, speaking, on_way, OfOpen, Silent, Took, HeardTrue, RestsOn, GoesOn, AllGood, Goes, rested, rested_last, rested_close, row_good, choose_good, close_good, told_abort, still_takes}
use Rattle.cd_world.proofs.FilesLaw.{IsSafe, NotSpoiled, front_of, Held, Rested, put_there}
use Rattle.cd_world.proofs.StandsLaw.{Filed, FiledIn, BothFiled, filed_in, filed_out, SameAt, keyed, same_held, rested_more, keep_filed, does_filed, others_filed, cut_filed, down_filed}
use Rattle.cd_world.proofs.SourcesLaw.{TookAt, HeardAt, AllHeardAt, Sourced, BothSourced, renoted, go_tokens, heard_take, speaking_take, way_at, keep_sourced, does_sourced}

-- The effects behind a first reaction.
good_first : (x : At) (sid : ℕ) (done more : List Effect) (w : World) → AllGood x sid w (done ++ more) → AllGood x sid w done
good_first x sid [] more w good = tt
good_first x sid (Keep e ∷ done) more w good = (good.0, good_first x sid done more (world_did x sid (Keep e) w) good.1)
good_first x sid (Touch change ∷ done) more w good = (good.0, good.1, good_first x sid done more (world_did x sid (Touch change) w) good.2)
good_first x sid (AskSize name ∷ done) more w good = (good.0, good_first x sid done more (world_did x sid (AskSize name) w) good.1)
good_first x sid (AskBytes name at len ∷ done) more w good = (good.0, good_first x sid done more (world_did x sid (AskBytes name at len) w) good.1)
good_first x sid (Begin key phase ∷ done) more w good = (good.0, good.1, good_first x sid done more (world_did x sid (Begin key phase) w) good.2)
good_first x sid (Go phase frames ∷ done) more w good = (good.0, good_first x sid done more (world_did x sid (Go phase frames) w) good.1)

good_rest : (x : At) (sid : ℕ) (done more : List Effect) (w : World) → AllGood x sid w (done ++ more) → AllGood x sid (world_does x sid done w) more
good_rest x sid [] more w good = good
good_rest x sid (Keep e ∷ done) more w good = good_rest x sid done more (world_did x sid (Keep e) w) good.1
good_rest x sid (Touch change ∷ done) more w good = good_rest x sid done more (world_did x sid (Touch change) w) good.2
good_rest x sid (AskSize name ∷ done) more w good = good_rest x sid done more (world_did x sid (AskSize name) w) good.1
good_rest x sid (AskBytes name at len ∷ done) more w good = good_rest x sid done more (world_did x sid (AskBytes name at len) w) good.1
good_rest x sid (Begin key phase ∷ done) more w good = good_rest x sid done more (world_did x sid (Begin key phase) w) good.2
good_rest x sid (Go phase frames ∷ done) more w good = good_rest x sid done more (world_did x sid (Go phase frames) w) good.1

-- a call of the files comes where nobody spoke yet
call_silent : (x : At) (sid : ℕ) (cut : Cut) (more : List Effect) (shelf : shelves.Shelf) (w : World) → IsCutOff cut more shelf → AllGood x sid w more → Silent x sid w
call_silent x sid (Begun left) (Touch change ∷ more) shelf w is good = good.0
call_silent x sid (Begun left) [] shelf w is good = absurd is
call_silent x sid (Begun left) (Keep e ∷ more) shelf w is good = absurd is
call_silent x sid (Begun left) (AskSize name ∷ more) shelf w is good = absurd is
call_silent x sid (Begun left) (AskBytes name at len ∷ more) shelf w is good = absurd is
call_silent x sid (Begun left) (Begin key phase ∷ more) shelf w is good = absurd is
call_silent x sid (Begun left) (Go phase frames ∷ more) shelf w is good = absurd is
call_silent x sid Unchanged (Touch change ∷ more) shelf w is good = good.0
call_silent x sid Unchanged (AskSize name ∷ more) shelf w is good = good.0
call_silent x sid Unchanged (AskBytes name at len ∷ more) shelf w is good = good.0
call_silent x sid Unchanged [] shelf w is good = absurd is
call_silent x sid Unchanged (Keep e ∷ more) shelf w is good = absurd is
call_silent x sid Unchanged (Begin key phase ∷ more) shelf w is good = absurd is
call_silent x sid Unchanged (Go phase frames ∷ more) shelf w is good = absurd is

took_of : (x : At) (n now : ℕ) (w : World) (phase : Phase) → TookAt n w.a phase → Took x n now w phase
took_of x n now w (Take role terms key came) t = t
took_of x n now w phase t = tt

heard_of : (x : At) (n now : ℕ) (w : World) (m : Message) → HeardAt x n w.a w.notes m → HeardTrue x n now w m
heard_of x n now w (message.Data key offset bytes) h = h
heard_of x n now w m h = tt

-- a choice that opens no session sends nothing
quiet_choice : (x : At) (sid : ℕ) (w : World) (view : NodeView) (now : ℕ) (connected : Bool) (chosen : Option Row) → opens (row_chosen view now connected chosen) ≡ false → AllGood x sid w (row_chosen view now connected chosen)
quiet_choice x sid w view now connected None quiet = tt
quiet_choice x sid w view now connected (Some chosen) quiet = by_waits connected (view.config.partner chosen.snode) quiet where
  by_waits : (b : Bool) (waits : Option Waits) → opens (call view now b chosen waits) ≡ false → AllGood x sid w (call view now b chosen waits)
  by_waits b None q = (tt, tt)
  by_waits true (Some waits) q = absurd (false≢true (sym q))
  by_waits false (Some waits) q = (tt, tt)

-- a task begins in such a world, and its effects are good
record GoodTask (x : At) (t : Task) : Type 0 where
  sourced : BothSourced x t.world
  filed : BothFiled t.world
  good : AllGood x t.sid t.world t.effects
  back : rested true t.effects ≡ true

-- the session that is chosen is at rest
chosen_back : (view : NodeView) (now : ℕ) (connected : Bool) (chosen : Option Row) → rested true (row_chosen view now connected chosen) ≡ true
chosen_back view now connected None = refl
chosen_back view now connected (Some chosen) = by_waits connected (view.config.partner chosen.snode) where
  by_waits : (b : Bool) (waits : Option Waits) → rested true (call view now b chosen waits) ≡ true
  by_waits b None = refl
  by_waits true (Some waits) = refl
  by_waits false (Some waits) = refl

-- the journal is legal after these effects
effects_legal : {before : World} (x : At) (v : World) (sid : ℕ) (done : List Effect) → BothGrown before (world_does x sid done v) → is_legal v.a.node.view.config.read (does sid done v.a.node).view.journal ≡ true
effects_legal x v sid done grown =
    let there : is_legal (does sid done v.a.node).view.config.read (does sid done v.a.node).view.journal ≡ true =
    subst (λ (node : Node). is_legal node.view.config.read node.view.journal ≡ true) (does_node x sid done v) grown.a.sound.legal in
    subst (λ (c : Config). is_legal c.read (does sid done v.a.node).view.journal ≡ true) (same_config sid done v.a.node) there

-- a fault leaves the session closed
trouble_back : (view : NodeView) (now : ℕ) (phase : Phase) → rested false (trouble view now phase) ≡ true
trouble_back view now phase = rested_last false (Go phase (trouble_for (key_under_way phase)) ∷ retry_own view now (own_number phase)) Gone [] refl

module _ (x : At) (w : World) (h : BothSourced x w) (f : BothFiled w) (sound : BothSound w) where
  nothing_good : GoodTask x (nothing w)
  nothing_good = record { sourced = h; filed = f; good = tt; back = refl }

  with_session_filed : BothFiled (with_session w)
  with_session_filed = record {
    a = record { stands = record { free = f.a.stands.free; held = f.a.stands.held }; rests = f.a.rests };
    b = record { stands = record { free = f.b.stands.free; held = f.b.stands.held }; rests = f.b.rests };
  }

  with_session_sourced : BothSourced x (with_session w)
  with_session_sourced = record {
    a = record {
      marks = h.a.marks;
      bytes = h.a.bytes;
      takes = h.a.takes;
      datas = way_at (λ n more. AllHeardAt x n w.a w.notes more) w.sessions [] w.a.way tt h.a.datas;
    };
    b = record {
      marks = h.b.marks;
      bytes = h.b.bytes;
      takes = h.b.takes;
      datas = way_at (λ n more. AllHeardAt (across x) n w.b w.notes more) w.sessions [] w.b.way tt h.b.datas;
    };
    tokens = λ n. elim (eqb w.sessions n) as (λ b. speaking (cond b [] (w.a.way n)) + speaking (cond b [] (w.b.way n)) ≤ 1) [ true ↦ omega arith | false ↦ h.tokens n ];
    sources = h.sources;
  }

  new_silent : Silent x w.sessions (with_session w)
  new_silent =
      let one : speaking (at_session w.sessions [] w.a.way w.sessions) ≡ 0 = ap speaking (cond-true (eqb w.sessions w.sessions) [] (w.a.way w.sessions) (eq-eqb w.sessions w.sessions refl)) in
      let two : speaking (at_session w.sessions [] w.b.way w.sessions) ≡ 0 = ap speaking (cond-true (eqb w.sessions w.sessions) [] (w.b.way w.sessions) (eq-eqb w.sessions w.sessions refl)) in
      omega (arith, one, two)

  choice_back : (connected : Bool) → rested true (row_choose w.a.node w.clock connected) ≡ true
  choice_back connected = chosen_back w.a.node.view w.clock connected (next_due (journal_of w.a) w.clock (busy w.a.node.sessions))

  chosen_task : (connected : Bool) → GoodTask x (record { sid = w.sessions; effects = row_choose w.a.node w.clock connected; world = cond (opens (row_choose w.a.node w.clock connected)) (with_session w) w })
  chosen_task connected =
      let effects : List Effect = row_choose w.a.node w.clock connected in
      elim (cases_Bool (opens effects)) [
        | inl new ↦
            subst (λ (v : World). GoodTask x (record { sid = w.sessions; effects = effects; world = v })) (sym (cond-true (opens effects) (with_session w) w new))
            (record { sourced = with_session_sourced; filed = with_session_filed; good = choose_good x w.sessions (with_session w) w.a.node w.clock connected new_silent; back = choice_back connected })
        | inr none ↦
            subst (λ (v : World). GoodTask x (record { sid = w.sessions; effects = effects; world = v })) (sym (cond-false (opens effects) (with_session w) w none))
            (record { sourced = h; filed = f; back = choice_back connected; good = quiet_choice x w.sessions w w.a.node.view w.clock connected (next_due (journal_of w.a) w.clock (busy w.a.node.sessions)) none })
      ]

  called_task : (calls : List ℕ) → GoodTask x (called w calls)
  called_task [] = nothing_good
  called_task (sid ∷ more) =
      let calm : on_way sid w ≤ 1 = h.tokens sid in
      record {
        sourced = record { a = record { marks = h.a.marks; bytes = h.a.bytes; takes = h.a.takes; datas = h.a.datas }; b = h.b; tokens = h.tokens; sources = h.sources };
        filed = record { a = record { stands = record { free = f.a.stands.free; held = f.a.stands.held }; rests = f.a.rests }; b = f.b };
        good = (record { quiet = omega (arith, calm); sent = tt; takes = tt; rests = tt }, tt);
        back = refl;
      }

  came_task : (sid : ℕ) (answers : Answers) (frames : List Message) → w.a.way sid ≡ frames → ToldFor w sid answers frames → GoodTask x (came w sid answers frames)
  came_task sid answers [] is told = nothing_good
  came_task sid answers (m ∷ more) is told =
      let v : World = (came w sid answers (m ∷ more)).world in
      let first : AllHeardAt x sid w.a w.notes (m ∷ more) = subst (AllHeardAt x sid w.a w.notes) is (h.a.datas sid) in
      let count : speaking (w.a.way sid) ≡ speaks m + speaking more = ap speaking is in
      let before : on_way sid w ≤ 1 = h.tokens sid in
      let left : speaking (at_session sid more w.a.way sid) ≡ speaking more = ap speaking (cond-true (eqb sid sid) more (w.a.way sid) (eq-eqb sid sid refl)) in
      let tokens : (n : ℕ) → on_way n v ≤ 1 =
      way_at (λ n frames. speaking frames + speaking (w.b.way n) ≤ 1) sid more w.a.way (omega (arith, count, before)) h.tokens in
      let goes : Goes x sid v (row v.a.node sid (answers_now w answers) m) = row_good x sid v (answers_now w answers) m
      (record { keyed = λ key r safe opens_is. (openings.open-on w.a.node.view.config.read (journal_of w.a) key r safe sound.a.legal opens_is).0; files = f.a.stands.held })
      (tokens sid) (λ speaks_is. omega (arith, speaks_is, count, before, left)) (took_of x sid w.clock v (w.a.node.sessions.phase sid) (h.a.takes sid)) (f.a.rests sid) (heard_of x sid w.clock v m first.0) told in
      record {
        sourced = record {
          a = record { marks = h.a.marks; bytes = h.a.bytes; takes = h.a.takes; datas = way_at (λ n frames. AllHeardAt x n w.a w.notes frames) sid more w.a.way first.1 h.a.datas };
          b = h.b;
          tokens = tokens;
          sources = h.sources;
        };
        filed = record { a = record { stands = record { free = f.a.stands.free; held = f.a.stands.held }; rests = f.a.rests }; b = f.b };
        good = goes.fit;
        back = goes.back;
      }

  ended_task : (sid : ℕ) (b : Bool) (frames : List Message) → GoodTask x (ended w sid b frames)
  ended_task sid true [] = record { sourced = h; filed = f; good = close_good x sid w w.clock (w.a.node.sessions.phase sid) (h.tokens sid); back = rested_close true w.a.node.view w.clock (w.a.node.sessions.phase sid) }
  ended_task sid true (m ∷ frames) = nothing_good
  ended_task sid false frames = nothing_good

  unless_good : (b : Bool) (t : Task) → GoodTask x t → GoodTask x (cond b (nothing w) t)
  unless_good true t good = nothing_good
  unless_good false t good = good

  while_good : (b : Bool) (t : Task) → GoodTask x t → GoodTask x (cond b t (nothing w))
  while_good true t good = good
  while_good false t good = nothing_good

  task_of_good : (happening : Happening) → Told w happening → GoodTask x (task_of w happening)
  task_of_good (Choice connected) told = chosen_task (connected && w.b.up)
  task_of_good Call told = called_task w.a.calls
  task_of_good (Frame sid answers) told = unless_good (is_gone (w.a.node.sessions.phase sid)) _ (came_task sid answers (w.a.way sid) refl told)
  task_of_good (End sid) told = unless_good (is_gone (w.a.node.sessions.phase sid)) _ (ended_task sid (w.a.ends sid) (w.a.way sid))

  task_good : (happening : Happening) → Told w happening → GoodTask x (task w happening)
  task_good happening told = while_good w.a.up (task_of w happening) (task_of_good happening told)

  -- after a first part of a task
  reaction_filed : (t : Task) → GoodTask x t → (done more : List Effect) → t.effects ≡ done ++ more → BothGrown w (world_does x t.sid done t.world) → FiledIn t.sid (rested true done) (world_does x t.sid done t.world).a
  reaction_filed t good done more split grown =
      does_filed x t.sid done t.world true (filed_in t.sid t.world.a good.filed.a) (good_first x t.sid done more t.world (subst (AllGood x t.sid t.world) split good.good)) (effects_legal x t.world t.sid done grown)

  -- and after all of it
  whole_filed : (t : Task) → GoodTask x t → BothGrown w (world_does x t.sid t.effects t.world) → BothFiled (world_does x t.sid t.effects t.world)
  whole_filed t good grown = record {
    a = filed_out t.sid (world_does x t.sid t.effects t.world).a (subst (λ (b : Bool). FiledIn t.sid b (world_does x t.sid t.effects t.world).a) good.back (reaction_filed t good t.effects [] (sym (append-nil t.effects)) grown));
    b = others_filed x t.sid t.effects t.world good.filed.b;
  }

  reaction_sourced : (t : Task) → GoodTask x t → (done more : List Effect) → t.effects ≡ done ++ more → BothGrown w (world_does x t.sid done t.world) → BothSourced x (world_does x t.sid done t.world)
  reaction_sourced t good done more split grown =
      let fit : AllGood x t.sid t.world done = good_first x t.sid done more t.world (subst (AllGood x t.sid t.world) split good.good) in
      does_sourced x t.sid done t.world good.sourced fit (effects_legal x t.world t.sid done grown)

  within_sourced : (happening : Happening) → Told w happening → (k : ℕ) → BothSourced x (world_within x happening k w)
  within_sourced happening told k =
      reaction_sourced (task w happening) (task_good happening told) (take k (task w happening).effects) (drop k (task w happening).effects) (sym (take-append-drop k (task w happening).effects)) (within_grown x w sound happening k)

  happened_filed : (happening : Happening) → Told w happening → BothFiled (world_after x happening w)
  happened_filed happening told = whole_filed (task w happening) (task_good happening told) (whole_grown x w sound happening)

  within_filed : (happening : Happening) → Told w happening → (k : ℕ) → FiledIn (task w happening).sid (rested true (take k (task w happening).effects)) (world_within x happening k w).a
  within_filed happening told k =
      reaction_filed (task w happening) (task_good happening told) (take k (task w happening).effects) (drop k (task w happening).effects) (sym (take-append-drop k (task w happening).effects)) (within_grown x w sound happening k)

  within_others : (happening : Happening) → Told w happening → (k : ℕ) → Filed (world_within x happening k w).b
  within_others happening told k = others_filed x (task w happening).sid (take k (task w happening).effects) (task w happening).world (task_good happening told).filed.b

  -- the effects that are left
  within_good : (happening : Happening) → Told w happening → (k : ℕ) → AllGood x (task w happening).sid (world_within x happening k w) (effects_left happening k w)
  within_good happening told k =
      good_rest x (task w happening).sid (take k (task w happening).effects) (drop k (task w happening).effects) (task w happening).world
      (subst (AllGood x (task w happening).sid (task w happening).world) (sym (take-append-drop k (task w happening).effects)) (task_good happening told).good)

  whole_sourced : (happening : Happening) → Told w happening → BothSourced x (world_after x happening w)
  whole_sourced happening told =
      reaction_sourced (task w happening) (task_good happening told) (task w happening).effects [] (sym (append-nil (task w happening).effects)) (whole_grown x w sound happening)

-- what is told of trouble goes on to nothing
abort_rests : (x : At) (sid : ℕ) (w : World) (key : Option Key) (phase : Phase) → RestsOn x sid w (trouble_for key) phase
abort_rests x sid w None (Take role terms key came) = λ goes. absurd (false≢true goes)
abort_rests x sid w (Some step) (Take role terms key came) = by_place (ltb step.place 1024) where
  by_place : (b : Bool) → RestsOn x sid w (cond b (message.Abort step cause.Trouble ∷ []) []) (Take role terms key came)
  by_place true = λ goes. absurd (false≢true goes)
  by_place false = λ goes. absurd (false≢true goes)
abort_rests x sid w key phase = tt

trouble_good : (x : At) (sid : ℕ) (w : World) → BothSourced x w → Silent x sid w → AllGood x sid w (row_trouble w.a.node sid w.clock)
trouble_good x sid w h silent =
    let phase : Phase = w.a.node.sessions.phase sid in
    let frames : List Message = trouble_for (key_under_way phase) in
    let told = told_abort x sid (key_under_way phase) in
    let few : speaking frames ≤ 1 = told.0 in
    let quiet : speaking frames + on_way sid w ≤ 1 = omega (arith, silent, few) in
    let goes : GoesOn x sid w phase frames = record { quiet = quiet; sent = told.1 w; takes = still_takes x sid w frames phase w.clock told.2 (took_of x sid w.clock w phase (h.a.takes sid)); rests = abort_rests x sid w (key_under_way phase) phase } in
    (goes, close_good x sid (world_did x sid (Go phase frames) w) w.clock phase (go_tokens x sid w phase frames quiet h.tokens sid))

faulted_both : (x : At) (w : World) → BothSourced x w → BothFiled w → BothSound w → (happening : Happening) → Told w happening → (k : ℕ) (cut : Cut)
    → IsCutOff cut (effects_left happening k w) (world_within x happening k w).a.node.shelf → BothSourced x (world_faulted x happening k cut w) × BothFiled (world_faulted x happening k cut w)
faulted_both x w h f sound happening told k cut is =
    let t : Task = task w happening in
    let first : World = world_within x happening k w in
    let short : World = with_shelf (cut_off cut (effects_left happening k w) first.a.node.shelf) first in
    let grown : BothGrown w first = within_grown x w sound happening k in
    let sourced : BothSourced x first = within_sourced x w h f sound happening told k in
    let short_sound : BothSound short = record { a = grown.a.sound; b = grown.b.sound } in
    let short_sourced : BothSourced x short =
    record { a = record { marks = sourced.a.marks; bytes = sourced.a.bytes; takes = sourced.a.takes; datas = sourced.a.datas }; b = sourced.b; tokens = sourced.tokens; sources = sourced.sources } in
    let left : AllGood x t.sid first (drop k t.effects) = within_good x w h f sound happening told k in
    let silent : Silent x t.sid short = call_silent x t.sid cut (drop k t.effects) first.a.node.shelf first is left in
    let closing : Task = record { sid = t.sid; effects = row_trouble short.a.node t.sid short.clock; world = short } in
    let good : AllGood x t.sid short closing.effects = trouble_good x t.sid short short_sourced silent in
    let closed : BothGrown short (world_does x t.sid closing.effects short) = trouble_grown x short short_sound t.sid in
    let short_filed : FiledIn t.sid false short.a =
    cut_filed x t.sid cut (drop k t.effects) first (rested true (take k t.effects)) grown.a.sound.legal is left (within_filed x w h f sound happening told k) in
    let legal : is_legal short.a.node.view.config.read (does t.sid closing.effects short.a.node).view.journal ≡ true = effects_legal x short t.sid closing.effects closed in
    let ends : rested false closing.effects ≡ true = trouble_back short.a.node.view short.clock (short.a.node.sessions.phase t.sid) in (
      does_sourced x t.sid closing.effects short short_sourced good legal,
      record {
        a = filed_out t.sid (world_does x t.sid closing.effects short).a (subst (λ (b : Bool). FiledIn t.sid b (world_does x t.sid closing.effects short).a) ends (does_filed x t.sid closing.effects short false short_filed good legal));
        b = others_filed x t.sid closing.effects short (within_others x w h f sound happening told k);
      },
    )

pub marked_enough : (s : Status) (last : Option Receiving) (safe tries : ℕ) (r : Receiving) (m : ℕ) → status.Says s last safe tries → s ≡ status.Open r m → safe ≡ m
marked_enough status.Fresh last safe tries r m says is = absurd cc
marked_enough (status.Started times kind) last safe tries r m says is = absurd cc
marked_enough (status.Done o) last safe tries r m says is = absurd cc
marked_enough (status.Open q n) last safe tries r m says is = let same : n ≡ m = cc in says.1 ∙ same

module _ (x : At) (w : World) (h : BothSourced x w) where
  down_sourced : (image : shelves.FileMap) → BothSourced x (down image w)
  down_sourced image = record {
    a = record { marks = h.a.marks; bytes = h.a.bytes; takes = λ n. tt; datas = λ n. tt };
    b = record { marks = h.b.marks; bytes = h.b.bytes; takes = h.b.takes; datas = h.b.datas };
    tokens = λ n. let before : on_way n w ≤ 1 = h.tokens n in omega (arith, before);
    sources = h.sources;
  }

  marked_marks : (key : Key) → OfOpen (journal_of w.a) key (λ r safe. safe ≤ length (marked (journal_of w.a) w.a.received key))
  marked_marks key r safe is =
      let same : mark (journal_of w.a) key ≡ safe = marked_enough (status.status (journal_of w.a) key) _ (mark (journal_of w.a) key) _ r safe (status_says (journal_of w.a) key) is in
      let enough : safe ≤ length (w.a.received key) = h.a.marks key r safe is in
      let len : length (take (mark (journal_of w.a) key) (w.a.received key)) ≡ min (mark (journal_of w.a) key) (length (w.a.received key)) = length-take (mark (journal_of w.a) key) (w.a.received key) in
      omega (arith, same, enough, len)

  started_sourced : (b : Bool) → BothSourced x (cond b w (record w { a = record w.a { node = record w.a.node { sessions = no_sessions }; up = true; received = marked w.a.node.view.journal w.a.received } }))
  started_sourced true = h
  started_sourced false = record {
    a = record {
      marks = marked_marks;
      bytes = λ key r safe is source len agrees. front_take (mark (journal_of w.a) key) (w.a.received key) source (h.a.bytes key r safe is source len agrees);
      takes = λ n. tt;
      datas = λ n. no_holder n (w.a.way n);
    };
    b = h.b;
    tokens = h.tokens;
    sources = h.sources;
  } where
    no_holder : (n : ℕ) (frames : List Message) → AllHeardAt x n (record w.a { node = record w.a.node { sessions = no_sessions }; up = true; received = marked w.a.node.view.journal w.a.received }) w.notes frames
    no_holder n [] = tt
    no_holder n (message.Data key offset bytes ∷ frames) = (λ held. absurd cc, no_holder n frames)
    no_holder n (message.Bye ∷ frames) = (tt, no_holder n frames)
    no_holder n (m ∷ frames) = (tt, no_holder n frames)

  lost_sourced : (sid k : ℕ) → BothSourced x (world_lost sid k w)
  lost_sourced sid k =
      let before : on_way sid w ≤ 1 = h.tokens sid in
      let less : speaking (take k (w.a.way sid)) ≤ speaking (w.a.way sid) = speaking_take k (w.a.way sid) in
      record {
        a = record {
          marks = h.a.marks;
          bytes = h.a.bytes;
          takes = h.a.takes;
          datas = way_at (λ n frames. AllHeardAt x n w.a w.notes frames) sid (take k (w.a.way sid)) w.a.way (heard_take x sid w.a w.notes k (w.a.way sid) (h.a.datas sid)) h.a.datas;
        };
        b = h.b;
        tokens = way_at (λ n frames. speaking frames + speaking (w.b.way n) ≤ 1) sid (take k (w.a.way sid)) w.a.way (omega (arith, before, less)) h.tokens;
        sources = h.sources;
      }

  written_sourced : (name bytes : List ℕ) → BothSourced x (world_written x name bytes w)
  written_sourced name bytes =
      let notes : List Note = Wrote x name bytes ∷ w.notes in
      record {
        a = renoted x (world_written x name bytes w).a w.notes notes (λ key source agrees. agrees) (record { marks = h.a.marks; bytes = h.a.bytes; takes = h.a.takes; datas = h.a.datas });
        b = renoted (across x) w.b w.notes notes (λ key source agrees. agrees) h.b;
        tokens = h.tokens;
        sources = h.sources;
      }

  later_sourced : (seconds : ℕ) → BothSourced x (later seconds w)
  later_sourced seconds = record { a = h.a; b = h.b; tokens = h.tokens; sources = h.sources }

  submitted_sourced : (sound : BothSound w) (card : Card) (text : List ℕ) → BothSourced x (world_submitted card text w)
  submitted_sourced sound card text =
      let e : Entry = submission_of card text w in
      let new : World = record w { a = record w.a { node = record w.a.node { view = recorded e w.a.node.view } } } in
      let test : Bool = w.a.up && allowed w.a.node.view.config.read (journal_of w.a) e in
      elim (cases_Bool test) [
        | inl fits ↦
            let kept : BothSourced x (world_did x 0 (Keep e) w) = keep_sourced x 0 w e h sound.a.legal tt in
            subst (λ (b : Bool). BothSourced x (cond b new w)) (sym fits) kept
        | inr none ↦ subst (λ (b : Bool). BothSourced x (cond b new w)) (sym none) h
      ]

-- What the files hold, over the other events.
module _ (x : At) (w : World) (f : BothFiled w) (sound : BothSound w) where
  -- only what is marked stays
  marked_held : (r : Receiving) (safe : ℕ) → status.status (journal_of w.a) r.key ≡ status.Open r safe → Held w.a r safe
      → Held (record w.a { node = record w.a.node { sessions = no_sessions }; up = true; received = marked (journal_of w.a) w.a.received }) r safe
  marked_held r safe is held =
      let m : ℕ = mark (journal_of w.a) r.key in
      let g : List ℕ = w.a.received r.key in
      let same : m ≡ safe = marked_enough (status.status (journal_of w.a) r.key) _ m _ r safe (status_says (journal_of w.a) r.key) is in
      let enough : safe ≤ length g = held.0 in
      let short : length g ≤ r.length = held.1 in
      let len : length (take m g) ≡ min m (length g) = length-take m g in
      let front : front_of w.a r safe ≡ take r.base (content_of (w.a.settled r.name)) ++ take safe (take m g) =
      ap (λ (got : List ℕ). take r.base (content_of (w.a.settled r.name)) ++ got) (sym (take-take safe m g (omega (arith, same)))) in (
        omega (arith, len, same, enough),
        omega (arith, len, short),
        λ clean. ((held.2 clean).0, subst (λ (l : List ℕ). IsSafe l (w.a.node.shelf.seen r.name) (w.a.node.shelf.doubt r.name)) front (held.2 clean).1),
      )

  started_filed : (b : Bool) → BothFiled (cond b w (record w { a = record w.a { node = record w.a.node { sessions = no_sessions }; up = true; received = marked w.a.node.view.journal w.a.received } }))
  started_filed true = f
  started_filed false = record {
    a = record {
      stands = record {
        free = f.a.stands.free;
        held = λ key r safe is.
            let opens : status.status (journal_of w.a) r.key ≡ status.Open r safe = subst (λ (k : Key). status.status (journal_of w.a) k ≡ status.Open r safe) (sym (keyed w.a.node.view.config.read (journal_of w.a) sound.a.legal key r safe is)) is in
            marked_held r safe opens (f.a.stands.held key r safe is);
      };
      rests = λ n. tt;
    };
    b = f.b;
  }

  lost_filed : (sid k : ℕ) → BothFiled (world_lost sid k w)
  lost_filed sid k = record { a = record { stands = record { free = f.a.stands.free; held = f.a.stands.held }; rests = f.a.rests }; b = f.b }

  -- someone else writes
  module _ (name bytes : List ℕ) where
    abbrev a_written : Half
    a_written = (world_written x name bytes w).a

    was_clean : (found : Option Receiving) (other : List ℕ) → list_any (bytes_eq other) (spoiled_by found name w.a.spoiled) ≡ false → NotSpoiled w.a other
    was_clean None other clean = clean
    was_clean (Some r) other clean = (or_parts (bytes_eq other name) (list_any (bytes_eq other) w.a.spoiled) clean).1

    now_spoiled : (r : Receiving) (found : Option Receiving) → found ≡ Some r → bytes_eq name r.name ≡ true → list_any (bytes_eq r.name) (spoiled_by found name w.a.spoiled) ≡ false → ⊥
    now_spoiled r None is same clean = absurd cc
    now_spoiled r (Some q) is same clean =
        let names : r.name ≡ name = sym ((bytes_eq-Decides name r.name).0 same) in
        false≢true (sym (or_parts (bytes_eq r.name name) (list_any (bytes_eq r.name) w.a.spoiled) clean).0 ∙ (bytes_eq-Decides r.name name).1 names)

    written_same : (key : Key) (r : Receiving) (safe : ℕ) → status.status (journal_of w.a) key ≡ status.Open r safe → SameAt w.a a_written r
    written_same key r safe is = record {
      got = refl;
      file = λ clean.
          elim (cases_Bool (bytes_eq name r.name)) [
            | inl same ↦
                let found : open_on (journal_of w.a) r.name ≡ Some r = (openings.open-on w.a.node.view.config.read (journal_of w.a) key r safe sound.a.legal is).1 in
                let here : open_on (journal_of w.a) name ≡ Some r = ap (open_on (journal_of w.a)) ((bytes_eq-Decides name r.name).0 same) ∙ found in
                absurd (now_spoiled r (open_on (journal_of w.a) name) here same clean)
            | inr apart ↦ (was_clean (open_on (journal_of w.a) name) r.name clean, put_there (Some bytes) w.a.settled name r.name apart, put_there (Some bytes) w.a.node.shelf.seen name r.name apart, put_there (settled_file (Some bytes)) w.a.node.shelf.doubt name r.name apart)
          ];
    }

    written_filed : BothFiled (world_written x name bytes w)
    written_filed = record {
      a = record {
        stands = record {
          free = λ other clean nobody.
              elim (cases_Bool (bytes_eq name other)) [
                | inl same ↦
                    let now : shelves.put name (Some bytes) w.a.settled other ≡ Some bytes = cond-true (bytes_eq name other) (Some bytes) (w.a.settled other) same in (
                      cond-true (bytes_eq name other) (Some bytes) (w.a.node.shelf.seen other) same ∙ sym now,
                      cond-true (bytes_eq name other) (settled_file (Some bytes)) (w.a.node.shelf.doubt other) same ∙ ap settled_file (sym now),
                    )
                | inr apart ↦
                    let now : shelves.put name (Some bytes) w.a.settled other ≡ w.a.settled other = put_there (Some bytes) w.a.settled name other apart in
                    let before = f.a.stands.free other (was_clean (open_on (journal_of w.a) name) other clean) nobody in (
                      put_there (Some bytes) w.a.node.shelf.seen name other apart ∙ before.0 ∙ sym now,
                      put_there (settled_file (Some bytes)) w.a.node.shelf.doubt name other apart ∙ before.1 ∙ ap settled_file (sym now),
                    )
              ];
          held = λ key r safe is. same_held w.a a_written r safe (written_same key r safe is) (f.a.stands.held key r safe is);
        };
        rests = λ n. rested_more n w.a a_written (λ key held. held) (λ key r safe held is. (is, written_same key r safe is)) (w.a.node.sessions.phase n) (f.a.rests n);
      };
      b = f.b;
    }

  later_filed : (seconds : ℕ) → BothFiled (later seconds w)
  later_filed seconds = record { a = f.a; b = f.b }

  submitted_filed : (card : Card) (text : List ℕ) → BothFiled (world_submitted card text w)
  submitted_filed card text =
      let e : Entry = submission_of card text w in
      let new : World = record w { a = record w.a { node = record w.a.node { view = recorded e w.a.node.view } } } in
      let read : Reading = w.a.node.view.config.read in
      let test : Bool = w.a.up && allowed read (journal_of w.a) e in
      elim (cases_Bool test) [
        | inl fits ↦
            let may : allowed read (journal_of w.a) e ≡ true = (and_parts w.a.up (allowed read (journal_of w.a) e) fits).1 in
            let legal2 : is_legal read (e ∷ journal_of w.a) ≡ true = legal_more w sound read e (journal_of w.a) sound.a.legal may in
            let kept : FiledIn 0 true (world_did x 0 (Keep e) w).a = keep_filed x 0 w true e legal2 tt (filed_in 0 w.a f.a) in
            subst (λ (b : Bool). BothFiled (cond b new w)) (sym fits) (record { a = filed_out 0 (world_did x 0 (Keep e) w).a kept; b = f.b })
        | inr none ↦ subst (λ (b : Bool). BothFiled (cond b new w)) (sym none) f
      ]

-- What what landed was, and what the files hold.
pub record BothWhole (x : At) (w : World) : Type 0 where
  pub sourced : BothSourced x w
  pub filed : BothFiled w

stopped_whole : (x : At) (w : World) → BothWhole x w → BothSound w → (happening : Happening) → Told w happening → (k : ℕ) (image : shelves.FileMap)
    → IsLeft image (effects_left happening k w) (world_within x happening k w).a.node.shelf → (b : Bool) → BothWhole x (cond b (down image (world_within x happening k w)) w)
stopped_whole x w h sound happening told k image is true =
    let first : World = world_within x happening k w in
    let other : Filed first.b = within_others x w h.sourced h.filed sound happening told k in
    record {
      sourced = down_sourced x first (within_sourced x w h.sourced h.filed sound happening told k) image;
      filed = record {
        a = down_filed x (task w happening).sid image (effects_left happening k w) first (rested true (take k (task w happening).effects)) (within_grown x w sound happening k).a.sound.legal is (within_good x w h.sourced h.filed sound happening told k)
            (within_filed x w h.sourced h.filed sound happening told k);
        b = record { stands = record { free = other.stands.free; held = other.stands.held }; rests = other.rests };
      };
    }
stopped_whole x w h sound happening told k image is false = h

faulted_whole : (x : At) (w : World) → BothWhole x w → BothSound w → (happening : Happening) → Told w happening → (k : ℕ) (cut : Cut)
    → IsCutOff cut (effects_left happening k w) (world_within x happening k w).a.node.shelf → BothWhole x (world_faulted x happening k cut w)
faulted_whole x w h sound happening told k cut is = let both = faulted_both x w h.sourced h.filed sound happening told k cut is in record { sourced = both.0; filed = both.1 }

-- an event at either node
there : (x : At) (w : World) (f : World → World) → (BothWhole x (seen_from x w) → BothSound (seen_from x w) → BothWhole x (f (seen_from x w))) → BothWhole A w → BothSound w → BothWhole A (seen_from x (f (seen_from x w)))
there A w f step h sound = step h sound
there B w f step h sound =
    let turn : BothWhole B (seen_from B w) = record {
      sourced = record { a = h.sourced.b; b = h.sourced.a; tokens = λ n. turned _ _ (h.sourced.tokens n); sources = h.sourced.sources };
      filed = record { a = h.filed.b; b = h.filed.a };
    } in
    let done = step turn (record { a = sound.b; b = sound.a }) in
    record {
      sourced = record { a = done.sourced.b; b = done.sourced.a; tokens = λ n. turned _ _ (done.sourced.tokens n); sources = done.sourced.sources };
      filed = record { a = done.filed.b; b = done.filed.a };
    } where
      turned : (m n : ℕ) → m + n ≤ 1 → n + m ≤ 1
      turned m n less = omega (arith, less)

pub happens_whole : (w : World) (event : Event) → IsPossible w event → BothWhole A w → BothSound w → BothWhole A (happens w event)
happens_whole w (Does x happening) possible h sound =
    there x w (world_after x happening)
    (λ h2 sound2. record { sourced = whole_sourced x (seen_from x w) h2.sourced h2.filed sound2 happening possible; filed = happened_filed x (seen_from x w) h2.sourced h2.filed sound2 happening possible }) h sound
happens_whole w (Fails x happening k cut) possible h sound =
    there x w (world_faulted x happening k cut) (λ h2 sound2. faulted_whole x (seen_from x w) h2 sound2 happening possible.0 k cut possible.1) h sound
happens_whole w (Stops x happening k image) possible h sound =
    there x w (world_stopped x happening k image) (λ h2 sound2. stopped_whole x (seen_from x w) h2 sound2 happening possible.0 k image possible.1 (seen_from x w).a.up) h sound
happens_whole w (Starts x) possible h sound =
    there x w world_started (λ h2 sound2. record { sourced = started_sourced x (seen_from x w) h2.sourced (seen_from x w).a.up; filed = started_filed x (seen_from x w) h2.filed sound2 (seen_from x w).a.up }) h sound
happens_whole w (Loses x sid k) possible h sound =
    there x w (world_lost sid k) (λ h2 sound2. record { sourced = lost_sourced x (seen_from x w) h2.sourced sid k; filed = lost_filed x (seen_from x w) h2.filed sound2 sid k }) h sound
happens_whole w (Writes x name bytes) possible h sound =
    there x w (world_written x name bytes) (λ h2 sound2. record { sourced = written_sourced x (seen_from x w) h2.sourced name bytes; filed = written_filed x (seen_from x w) h2.filed sound2 name bytes }) h sound
happens_whole w (Later seconds) possible h sound = record { sourced = later_sourced A w h.sourced seconds; filed = later_filed A w h.filed sound seconds }
happens_whole w (Submits x card text) possible h sound =
    there x w (world_submitted card text) (λ h2 sound2. record { sourced = submitted_sourced x (seen_from x w) h2.sourced sound2 card text; filed = submitted_filed x (seen_from x w) h2.filed sound2 card text }) h sound

pub after_whole : (w : World) (events : List Event) → ArePossible w events → BothWhole A w → BothSound w → BothWhole A (after w events)
after_whole w [] possible h sound = h
after_whole w (event ∷ events) possible h sound =
    let grown : BothGrown w (happens w event) = happens_grown w event sound in
    after_whole (happens w event) events possible.1 (happens_whole w event possible.0 h sound) (record { a = grown.a.sound; b = grown.b.sound })

new_sourced : (x : At) (name : List ℕ) (home : ℕ) (half : Half) (notes : List Note) → IsNew name home half → Sourced x half notes
new_sourced x name home half notes new =
    let fresh : (key : Key) → status.status (journal_of half) key ≡ status.Fresh = λ key. ap (λ (journal : List Entry). status.status journal key) new.journal ∙ fresh_first name home key in
    let closed : (key : Key) → OfOpen (journal_of half) key (λ r safe. ⊥) = λ key r safe is. never r safe (sym (fresh key) ∙ is) in
    record {
      marks = λ key r safe is. absurd (closed key r safe is);
      bytes = λ key r safe is. absurd (closed key r safe is);
      takes = λ n. subst (TookAt n half) (ap (λ (s : Sessions). s.phase n) (sym new.sessions)) tt;
      datas = λ n. subst (AllHeardAt x n half notes) (ap (λ (way : ℕ → List Message). way n) (sym new.way)) tt;
    } where
      never : (r : Receiving) (safe : ℕ) → status.Fresh ≡ status.Open r safe → ⊥
      never r safe is = cc

pub first_sourced : (w : World) → IsFirst w → BothSourced A w
first_sourced w first = record {
  a = new_sourced A first.name_a first.home_a w.a w.notes first.a;
  b = new_sourced B first.name_b first.home_b w.b w.notes first.b;
  tokens = λ n.
      let a : speaking (w.a.way n) ≡ 0 = ap (λ (way : ℕ → List Message). speaking (way n)) first.a.way in
      let b : speaking (w.b.way n) ≡ 0 = ap (λ (way : ℕ → List Message). speaking (way n)) first.b.way in
      omega (arith, a, b);
  sources = subst AreSources (sym first.notes) tt;
}

new_filed : (name : List ℕ) (home : ℕ) (half : Half) → IsNew name home half → Filed half
new_filed name home half new =
    let fresh : (key : Key) → status.status (journal_of half) key ≡ status.Fresh = λ key. ap (λ (journal : List Entry). status.status journal key) new.journal ∙ fresh_first name home key in
    record {
      stands = record {
        free = λ n clean nobody. (ap (λ (s : shelves.Shelf). s.seen n) new.shelf ∙ ap (λ (files : shelves.FileMap). files n) (sym new.settled), ap (λ (s : shelves.Shelf). s.doubt n) new.shelf ∙ ap (λ (files : shelves.FileMap). settled_file (files n)) (sym new.settled));
        held = λ key r safe is. absurd (never r safe (sym (fresh key) ∙ is));
      };
      rests = λ n. subst (Rested n half) (ap (λ (s : Sessions). s.phase n) (sym new.sessions)) tt;
    } where
      never : (r : Receiving) (safe : ℕ) → status.Fresh ≡ status.Open r safe → ⊥
      never r safe is = cc

pub first_whole : (w : World) → IsFirst w → BothWhole A w
first_whole w first = record { sourced = first_sourced w first; filed = record { a = new_filed first.name_a first.home_a w.a first.a; b = new_filed first.name_b first.home_b w.b first.b } }

pub events_whole : (w : World) (events : List Event) → IsFirst w → ArePossible w events → BothWhole A (after w events)
events_whole w events first possible = after_whole w events possible (first_whole w first) (first_sound w first)

pub events_sources : (w : World) (events : List Event) → IsFirst w → ArePossible w events → AreSources (after w events).notes
events_sources w events first possible = (events_whole w events first possible).sourced.sources
