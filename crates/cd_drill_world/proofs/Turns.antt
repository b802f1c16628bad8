-- A turn of a session, in the world: the next frame on the way is handled; or nothing arrives of what is on the way, and its end is.
use Rattle.std.proofs.Common.{◌≡◌, ℕ, zero, suc, Bool, true, false, cond, ◌&&◌, eqb, List, [], ◌∷◌, ◌++◌, length, take, drop, Option, Some, None, refl, sym, ◌∙◌, ap, subst, append_assoc, arith, length-append, take-append-drop}
use Rattle.std.specs.Prelude.{slice_get, slice_set}
use Rattle.std.proofs.Math.Seq.{get_or-append_seam}
use Rattle.std.proofs.lemmas.Bool.{cond-true, cond-false, eq-eqb, ne_eqb}
use Rattle.std.proofs.lemmas.List.{append-nil, drop_at}
use Rattle.std.proofs.lemmas.Grind.{flat_map-append}
use Rattle.cd_types.specs.declared.rows.Placing.{Placing}
use Rattle.cd_outside.specs.Lines.{Traffic}
use Rattle.cd_frames.specs.Frame.{frame_bytes, IsFrame}
use Rattle.cd_frames.specs.Message.{Message}
use Rattle.cd_frames.specs.Reading as streams
use Rattle.cd_frames.specs.Run.{Run}
use Rattle.cd_frames.proofs.RunLaw.{run_stands}
use Rattle.cd_frames.specs.Stream.{gives, front_of, joined}
use Rattle.cd_frames.proofs.StreamLaw.{frame_long, front_again}
use Rattle.cd_rules.specs.Steps.{Reading}
use Rattle.cd_protocol.specs.declared.session.Phase.{Phase}
use Rattle.cd_protocol.specs.declared.session.Phase.TheVariants.{Gone}
use Rattle.cd_protocol.specs.declared.session.Continuation.{Continuation}
use Rattle.cd_protocol.specs.declared.session.Continuation.TheVariants.{Done, Next, Undo, Push, Offered, Onto, Piece}
use Rattle.cd_protocol.specs.Closing.{own_number, is_running, retry, retry_own, close}
use Rattle.cd_protocol.specs.Node.{NodeView, Node, Effect, Keep, Touch, AskSize, AskBytes, Begin, Go, Reaction, Answers, did, does, sends}
use Rattle.cd_protocol.specs.Rows.{first_reaction, most_reactions, row, row_end, is_done}
use Rattle.cd_rules.specs.Processes.{is_live}
use Rattle.cd_rules.specs.Queue.{placing}
use Rattle.cd_effects.specs.Stands.{AreFrames, WereDone}
use Rattle.cd_exchange.specs.Going as going
use Rattle.cd_exchange.specs.Going.{IsSo}
use Rattle.cd_exchange.specs.Rest.{reaction_after}
use Rattle.cd_exchange.specs.Sessions.{IsAt}
use Rattle.cd_exchange.specs.declared.session.Session.{Session}
use Rattle.cd_exchange.specs.Handling.{the_case, AllDone, DidEnd}
use Rattle.cd_plain.specs.NodeState.{NodeState}
use Rattle.cd_exchange.specs.Setting.{setting_of}
use Rattle.cd_exchange.specs.Turn.{heard_at, WasHeard}
use Rattle.cd_plain.specs.Turned.{Told, in_phase, others_at, spot_of}
use Rattle.cd_world.specs.World as worlds
use Rattle.cd_world.specs.World.{At, Half, World, is_gone, at_session, world_does, world_after, world_lost, Frame, End, Task, nothing, task_of, task, came, ended, answers_now, ToldFor, AllTold}
use Rattle.cd_drill_world.proofs.Brought.{Brought, way_is, taken_front, all_counted}
use Rattle.cd_drill_world.proofs.Led.{does_leads, loses_leads, leads_then}
use Rattle.cd_drill_world.proofs.Mirrors.{Spoken, IsWorldOf, LeadsTo}
use Rattle.cd_drill_world.proofs.Numbered.{numbered_at, phase_at, phase_with}
use Rattle.cd_drill_world.proofs.Orderly.{row_orderly, close_orderly}
use Rattle.cd_drill_world.proofs.TurnDone.{gave_taken, spoken_same, IsReadyFor, WasRow, row_done}

-- The next frame.

front_cut : (xs ys zs : List ℕ) → xs ++ ys ≡ xs ++ zs → ys ≡ zs
front_cut xs ys zs same = sym (drop_at xs ys (length xs) refl) ∙ ap (drop (length xs)) same ∙ drop_at xs zs (length xs) refl

joined_one : (heard : List Message) (m : Message) → joined (heard ++ m ∷ []) ≡ joined heard ++ frame_bytes m
joined_one heard m = flat_map-append frame_bytes heard (m ∷ []) ∙ ap (λ (l : List ℕ). joined heard ++ l) (append-nil (frame_bytes m))

-- what a reader gives of a stream that begins what was given is the next of the frames
pub next_is : (taken given later : List ℕ) (heard way : List Message) (m : Message) (reader : streams.Reading)
    → Run taken (heard ++ m ∷ []) reader → given ≡ joined (heard ++ way) → given ≡ taken ++ later → AreFrames way → (more : List Message) × (way ≡ m ∷ more)
next_is taken given later heard way m reader run bytes fed each = by_way way each same where
  frame : IsFrame m
  frame = subst IsFrame (get_or-append_seam heard m [] m) ((run_stands run).each (length heard) m (omega (arith, length-append heard (m ∷ []))))

  same : joined way ≡ frame_bytes m ++ (reader.rest ++ later)
  same =
      let stands = run_stands run in
      let one : joined (heard ++ m ∷ []) ≡ joined heard ++ frame_bytes m = joined_one heard m in
      let all : joined heard ++ joined way ≡ joined heard ++ (frame_bytes m ++ (reader.rest ++ later)) =
      sym (flat_map-append frame_bytes heard way) ∙ sym bytes ∙ fed ∙ ap (λ (l : List ℕ). l ++ later) (stands.whole ∙ ap (λ (l : List ℕ). l ++ reader.rest) one)
      ∙ append_assoc (joined heard ++ frame_bytes m) reader.rest later ∙ append_assoc (joined heard) (frame_bytes m) (reader.rest ++ later) in
      front_cut (joined heard) (joined way) (frame_bytes m ++ (reader.rest ++ later)) all

  by_way : (way : List Message) → AreFrames way → joined way ≡ frame_bytes m ++ (reader.rest ++ later) → (more : List Message) × (way ≡ m ∷ more)
  by_way [] each is = absurd (omega (arith, ap length is, length-append (frame_bytes m) (reader.rest ++ later), frame_long m))
  by_way (n ∷ more) each is =
      let two : gives n (length (frame_bytes n)) ≡ gives m (length (frame_bytes m)) =
      sym (front_again 0 n (joined more) each.0) ∙ ap (front_of 0) is ∙ front_again 0 m (reader.rest ++ later) frame in
      let first : n ≡ m = cc in
      (more, ap (λ (k : Message). k ∷ more) first)

-- What the files answered.

pub told_all : (k : ℕ) (node : Node) (sid : ℕ) (answers : Answers) (reaction : Reaction) → going.AreTold k (does sid reaction.effects node) sid answers reaction.later → AllTold k node sid answers reaction
unfolding AllTold going.AreTold
told_all zero node sid answers reaction told = tt
told_all (suc k) node sid answers reaction told = by_later reaction.later told (told_all k (does sid reaction.effects node) sid answers (reaction_after (does sid reaction.effects node) sid answers reaction.later)) where
  by_later : (later : Continuation) → going.AreTold (suc k) (does sid reaction.effects node) sid answers later
      → (going.AreTold k (does sid (reaction_after (does sid reaction.effects node) sid answers later).effects (does sid reaction.effects node)) sid answers (reaction_after (does sid reaction.effects node) sid answers later).later
      → AllTold k (does sid reaction.effects node) sid answers (reaction_after (does sid reaction.effects node) sid answers later))
      → worlds.AreTold (does sid reaction.effects node) later answers × worlds.Unless (is_done later) (AllTold k (does sid reaction.effects node) sid answers (reaction_after (does sid reaction.effects node) sid answers later))
  by_later Done told more = (tt, tt)
  by_later (Next terms n) told more = (tt, more told.1)
  by_later (Undo role terms key why) told more = (tt, more told.1)
  by_later (Push terms key) told more = (told.0, more told.1)
  by_later (Offered terms key name interval) told more = (told.0, more told.1)
  by_later (Onto role terms key a) told more = (told.0, more told.1)
  by_later (Piece role terms key source offset) told more = (told.0, more told.1)

-- Ends of sessions.

last_gone : (sid : ℕ) (first : List Effect) (node : Node) → (does sid (first ++ Go Gone [] ∷ []) node).sessions.phase sid ≡ Gone
last_gone sid [] node = cond-true (eqb sid sid) Gone (node.sessions.phase sid) (eq-eqb sid sid refl)
last_gone sid (Keep e ∷ first) node = last_gone sid first (did sid (Keep e) node)
last_gone sid (Touch change ∷ first) node = last_gone sid first (did sid (Touch change) node)
last_gone sid (AskSize name ∷ first) node = last_gone sid first node
last_gone sid (AskBytes name at len ∷ first) node = last_gone sid first node
last_gone sid (Begin key phase ∷ first) node = last_gone sid first (did sid (Begin key phase) node)
last_gone sid (Go phase frames ∷ first) node = last_gone sid first (did sid (Go phase frames) node)

retry_silent : (b : Bool) (effect : Effect) → sends (effect ∷ []) ≡ [] → sends (cond b (effect ∷ []) [] ++ Go Gone [] ∷ []) ≡ []
retry_silent true (Keep e) is = refl
retry_silent true (Touch change) is = refl
retry_silent true (AskSize name) is = refl
retry_silent true (AskBytes name at len) is = refl
retry_silent true (Begin key phase) is = refl
retry_silent true (Go phase frames) is = ap (λ (l : List Message). l) is
retry_silent false effect is = refl

own_silent : (view : NodeView) (now : ℕ) (number : Option ℕ) → sends (retry_own view now number ++ Go Gone [] ∷ []) ≡ []
own_silent view now None = refl
own_silent view now (Some n) = by_placing (placing view.journal n) where
  by_placing : (found : Option Placing) → sends (retry view now n found ++ Go Gone [] ∷ []) ≡ []
  by_placing None = refl
  by_placing (Some placed) = retry_silent (is_live view.journal n && is_running now placed) _ refl

close_silent : (view : NodeView) (now : ℕ) (phase : Phase) → sends (close view now phase) ≡ []
close_silent view now phase = own_silent view now (own_number phase)

-- What the world makes of it.

frame_task : (w : World) (n : ℕ) (answers : Answers) (m : Message) (more : List Message) → w.a.up ≡ true → is_gone (w.a.node.sessions.phase n) ≡ false → w.a.way n ≡ m ∷ more
    → task w (Frame n answers) ≡ came w n answers (m ∷ more)
frame_task w n answers m more up stays way =
    cond-true w.a.up (task_of w (Frame n answers)) (nothing w) up
    ∙ cond-false (is_gone (w.a.node.sessions.phase n)) (nothing w) (came w n answers (w.a.way n)) stays
    ∙ ap (came w n answers) way

end_task : (w : World) (n : ℕ) → w.a.up ≡ true → is_gone (w.a.node.sessions.phase n) ≡ false → w.a.ends n ≡ true → w.a.way n ≡ []
    → task w (End n) ≡ record { sid = n; effects = row_end w.a.node n w.clock; world = w }
end_task w n up stays ends way =
    cond-true w.a.up (task_of w (End n)) (nothing w) up
    ∙ cond-false (is_gone (w.a.node.sessions.phase n)) (nothing w) (ended w n (w.a.ends n) (w.a.way n)) stays
    ∙ ap (λ (b : Bool). ended w n b (w.a.way n)) ends ∙ ap (ended w n true) way

answers_same : (answers : Answers) (now : ℕ) → answers.now ≡ now → record answers { now = now } ≡ answers
answers_same answers now is = λ i. record answers { now = (sym is) i }

-- A node had its turn in a session.
module _ (read : Reading) (now : ℕ) (here other after : NodeState) (told told_after told_other : Told) (w : World) (x : At)
    (at : ℕ) (session : Session) (phase : Phase) (reader_before reader : streams.Reading) (h : IsWorldOf read now here other told told_other w) where
  abbrev pub n : ℕ
  n = session.sid.number

  -- the session's place, and what is written there
  pub record HadPlace : Type 0 where
    pub stands : slice_get here.sessions at ≡ Some session
    pub reads : slice_get here.readings at ≡ Some reader_before
    pub open_before : is_gone session.phase ≡ false
    pub sessions : after.sessions ≡ slice_set here.sessions at (in_phase phase session)
    pub readings : after.readings ≡ slice_set here.readings at reader
    pub config : after.config ≡ here.config

  module _ (p : HadPlace) where
    abbrev spoken : Spoken other n reader_before (told.traffic.taken n) (told_other.traffic.given n) (w.a.way n) (w.a.ends n)
    spoken = h.a.spoken at session reader_before p.stands p.open_before p.reads

    phase_now : w.a.node.sessions.phase n ≡ session.phase
    phase_now = h.a.node.phases n ∙ phase_at 1 here.sessions at session h.a.numbered p.stands

    -- the node of the world stands so
    stands_so : (heard : Traffic) → IsSo (Unit {0}) (setting_of here.config) read n w.a.node (heard_at heard (spot_of here session.phase told))
    stands_so heard = record {
      config = ap (λ (d : NodeView). d.config) h.a.node.view;
      stands = record { journal = ap (λ (d : NodeView). d.journal) h.a.node.view; shelf = λ told. h.a.shelf; phase = phase_now; holder = h.a.node.owners };
    }

    stands_at : (heard : Traffic) → IsAt (Unit {0}) (setting_of here.config) read n (others_at at session here.sessions) w.a.node (heard_at heard (spot_of here session.phase told))
    stands_at heard = record {
      so = stands_so heard;
      phases = λ i k. (h.a.node.phases k ∙ phase_with 1 here.sessions at session k h.a.numbered p.stands) i;
      owners = λ i key. (h.a.node.owners key) i;
    }

    -- other sessions at hand
    apart_from : (at2 : ℕ) (s : Session) → eqb at at2 ≡ false → slice_get here.sessions at2 ≡ Some s → eqb n s.sid.number ≡ false
    apart_from at2 s apart is =
        let first = numbered_at 1 here.sessions at session h.a.numbered p.stands in
        let second = numbered_at 1 here.sessions at2 s h.a.numbered is in
        ne_eqb n s.sid.number (λ same. let never : true ≡ false = sym (eq-eqb at at2 (omega (arith, first, second, same))) ∙ apart in absurd cc)

    -- what the other node gave is what was taken, and the frames on the way
    begins : told_other.traffic.given n ≡ told.traffic.taken n ++ joined (w.a.way n)
    begins = spoken.bytes ∙ flat_map-append frame_bytes spoken.heard (w.a.way n) ∙ ap (λ (l : List ℕ). l ++ joined (w.a.way n)) (sym spoken.all_heard)

    -- so many bytes were taken as came
    pub taken_counted : (way : List ℕ) (passed now_passed : ℕ) → Brought way passed now_passed (told.traffic.taken n) (told_after.traffic.taken n) (told_other.traffic.given n) → now_passed ≡ length (told_after.traffic.taken n)
    taken_counted way passed now_passed brought = all_counted way passed now_passed (told.traffic.taken n) (told_after.traffic.taken n) (told_other.traffic.given n) brought (joined (w.a.way n)) begins

    -- a frame came, and was taken whole
    module _ (frame : Message) (heard : Traffic) (came_so : WasHeard (Unit {0}) n (Some frame) (spot_of here session.phase told) heard reader_before reader)
        (taken_is : told_after.traffic.taken ≡ heard.taken)
        (way : List ℕ) (passed now_passed : ℕ) (brought : Brought way passed now_passed (told.traffic.taken n) (told_after.traffic.taken n) (told_other.traffic.given n)) where
      run_on : Run (told_after.traffic.taken n) (spoken.heard ++ frame ∷ []) reader
      run_on = subst (λ (taken : ℕ → List ℕ). Run (taken n) (spoken.heard ++ frame ∷ []) reader) (sym taken_is) (came_so.next tt spoken.heard spoken.run)

      fed : told_other.traffic.given n ≡ told_after.traffic.taken n ++ drop now_passed (told_other.traffic.given n)
      fed = sym (take-append-drop now_passed (told_other.traffic.given n)) ∙ ap (λ (l : List ℕ). l ++ drop now_passed (told_other.traffic.given n)) (sym brought.all_taken)

      next_found : (more : List Message) × (w.a.way n ≡ frame ∷ more)
      next_found = next_is (told_after.traffic.taken n) (told_other.traffic.given n) (drop now_passed (told_other.traffic.given n)) spoken.heard (w.a.way n) frame reader run_on spoken.bytes fed spoken.each

      -- it stood at the front of what was on the way
      at_front : way ≡ frame_bytes frame ++ joined next_found.0
      at_front = way_is way passed now_passed (told.traffic.taken n) (told_after.traffic.taken n) (told_other.traffic.given n) brought (joined (w.a.way n)) begins ∙ ap joined next_found.1

      pub some_came : way ≡ [] → ⊥
      some_came none = absurd (omega (arith, ap length (sym none ∙ at_front), length-append (frame_bytes frame) (joined next_found.0), frame_long frame))

      frame_heard : told_after.traffic.taken n ≡ joined (spoken.heard ++ frame ∷ [])
      frame_heard =
          taken_front way passed now_passed (told.traffic.taken n) (told_after.traffic.taken n) (told_other.traffic.given n) brought (joined (w.a.way n)) begins frame (joined next_found.0)
          (subst AreFrames next_found.1 spoken.each).0 at_front
          ∙ ap (λ (l : List ℕ). l ++ frame_bytes frame) spoken.all_heard ∙ sym (joined_one spoken.heard frame)

    -- the next frame was handled, and its row was done
    module _ (frame : Message) (heard : Traffic) (came_so : WasHeard (Unit {0}) n (Some frame) (spot_of here session.phase told) heard reader_before reader)
        (done : AllDone (the_case (Unit {0}) (Unit {0}) (setting_of here.config) read n now (others_at at session here.sessions) frame) (heard_at heard (spot_of here session.phase told)) (spot_of after phase told_after))
        (way : List ℕ) (passed now_passed : ℕ) (brought : Brought way passed now_passed (told.traffic.taken n) (told_after.traffic.taken n) (told_other.traffic.given n)) where
      effects : List Effect
      effects = row w.a.node n done.answers frame

      done_here : WereDone (Unit {0}) (Unit {0}) n (row w.a.node n done.answers frame) (heard_at heard (spot_of here session.phase told)) (spot_of after phase told_after)
      done_here = done.done w.a.node (stands_at heard)

      taken_then : told_after.traffic.taken ≡ heard.taken
      taken_then = ap (λ (t : Traffic). t.taken) (done_here.traffic tt) ∙ gave_taken n (sends (row w.a.node n done.answers frame)) heard

      abbrev found : (more : List Message) × (w.a.way n ≡ frame ∷ more)
      found = next_found frame heard came_so taken_then way passed now_passed brought

      abbrev more : List Message
      more = found.0

      -- the frame is taken from those on the way
      abbrev taken_from : List Message → World
      taken_from rest = record w { a = record w.a { way = at_session n rest w.a.way } }

      ready_for : IsReadyFor read now here other after told told_after told_other (taken_from more) x at session phase reader (row w.a.node n done.answers frame) heard
      ready_for = record {
        stands = p.stands;
        open_before = p.open_before;
        sessions = p.sessions;
        readings = p.readings;
        config = p.config;
        node = h.a.node;
        up = h.a.up;
        calls = h.a.calls;
        numbered = h.a.numbered;
        readers = h.a.readers;
        clock = h.clock;
        count = h.count;
        world_sessions = h.sessions;
        others = λ at2 s r apart is open_s reads.
            let elsewhere : eqb n s.sid.number ≡ false = apart_from at2 s apart is in
            let taken : told_after.traffic.taken s.sid.number ≡ told.traffic.taken s.sid.number = ap (λ (t : ℕ → List ℕ). t s.sid.number) taken_then ∙ (came_so.heard_only tt).others s.sid.number elsewhere in
            spoken_same other other s.sid.number r _ _ _ _ _ _ _ _ taken refl (cond-false (eqb n s.sid.number) more (w.a.way s.sid.number) elsewhere) refl refl (h.a.spoken at2 s r is open_s reads);
        own = λ stays. record {
          heard = spoken.heard ++ frame ∷ [];
          run = run_on frame heard came_so taken_then way passed now_passed brought;
          all_heard = frame_heard frame heard came_so taken_then way passed now_passed brought;
          bytes = spoken.bytes ∙ ap (λ (l : List Message). joined (spoken.heard ++ l)) found.1 ∙ ap joined (sym (append_assoc spoken.heard (frame ∷ []) more))
              ∙ ap (λ (l : List Message). joined ((spoken.heard ++ frame ∷ []) ++ l)) (sym way_is);
          each = subst AreFrames (sym way_is) (subst AreFrames found.1 spoken.each).1;
          ends = spoken.ends;
        };
        there = h.b;
      }
        where
          way_is : at_session n more w.a.way n ≡ more
          way_is = cond-true (eqb n n) more (w.a.way n) (eq-eqb n n refl)

      was_row : WasRow read now here other after told told_after told_other (taken_from more) x at session phase reader (row w.a.node n done.answers frame) heard
      was_row = record {
        orderly_row = row_orderly w.a.node n done.answers frame;
        frames = done_here.frames;
        given = (came_so.heard_only tt).given;
        traffic = done_here.traffic tt;
        stands_after = done_here.node w.a.node (stands_so heard).stands;
      }

      row_world : IsWorldOf read now after other told_after told_other (world_does x n (row w.a.node n done.answers frame) (taken_from more))
      row_world = row_done read now here other after told told_after told_other (taken_from more) x at session phase reader (row w.a.node n done.answers frame) heard ready_for was_row

      now_is : done.answers.now ≡ w.clock
      now_is = done.moment ∙ sym h.clock

      same_answers : answers_now w done.answers ≡ done.answers
      same_answers = answers_same done.answers w.clock now_is

      stays_open : is_gone (w.a.node.sessions.phase n) ≡ false
      stays_open = ap is_gone phase_now ∙ p.open_before

      world_is : world_does x n (row w.a.node n done.answers frame) (taken_from more) ≡ world_after x (Frame n done.answers) w
      world_is =
          ap (λ (a : Answers). world_does x n (row w.a.node n a frame) (taken_from more)) (sym same_answers)
          ∙ sym (ap (λ (t : Task). world_does x t.sid t.effects t.world) (frame_task w n done.answers frame more h.a.up stays_open found.1))

      told_reaction : (moment : ℕ) → moment ≡ now → going.AreTold most_reactions (does n (first_reaction w.a.node.view w.a.node.sessions moment n frame).effects w.a.node) n done.answers (first_reaction w.a.node.view w.a.node.sessions moment n frame).later
      told_reaction moment is = subst (λ (m : ℕ). going.AreTold most_reactions (does n (first_reaction w.a.node.view w.a.node.sessions m n frame).effects w.a.node) n done.answers (first_reaction w.a.node.view w.a.node.sessions m n frame).later) (sym is) (done.told tt w.a.node (stands_at heard))

      told_here : worlds.Told w (Frame n done.answers)
      told_here = subst (ToldFor w n done.answers) (sym found.1)
          (subst (λ (a : Answers). AllTold most_reactions w.a.node n a (first_reaction w.a.node.view w.a.node.sessions w.clock n frame)) (sym same_answers)
          (told_all most_reactions w.a.node n done.answers (first_reaction w.a.node.view w.a.node.sessions w.clock n frame) (told_reaction w.clock h.clock)))

      pub frame_led : LeadsTo x w (IsWorldOf read now after other told_after told_other)
      frame_led = record {
        last = world_after x (Frame n done.answers) w;
        leads = does_leads x w (Frame n done.answers) told_here;
        so = subst (IsWorldOf read now after other told_after told_other) world_is row_world;
      }

    -- nothing arrives any more, and the end was handled
    module _ (heard : Traffic) (given : heard.given ≡ told.traffic.given) (others : (k : ℕ) → eqb n k ≡ false → heard.taken k ≡ told.traffic.taken k)
        (done : DidEnd (Unit {0}) (Unit {0}) (setting_of here.config) read n now row_end (heard_at heard (spot_of here session.phase told)) (spot_of after phase told_after)) where
      lost : World
      lost = world_lost n 0 w

      end_here : WereDone (Unit {0}) (Unit {0}) n (row_end w.a.node n now) (heard_at heard (spot_of here session.phase told)) (spot_of after phase told_after)
      end_here = done w.a.node (stands_so heard)

      silent : sends (row_end w.a.node n now) ≡ []
      silent = close_silent w.a.node.view now (w.a.node.sessions.phase n)

      closed_phase : phase ≡ Gone
      closed_phase = sym (end_here.node w.a.node (stands_so heard).stands).phase ∙ last_gone n (retry_own w.a.node.view now (own_number (w.a.node.sessions.phase n))) w.a.node

      end_taken : told_after.traffic.taken ≡ heard.taken
      end_taken = ap (λ (t : Traffic). t.taken) (end_here.traffic tt) ∙ gave_taken n (sends (row_end w.a.node n now)) heard

      end_ready : IsReadyFor read now here other after told told_after told_other (world_lost n 0 w) x at session phase reader (row_end w.a.node n now) heard
      end_ready = record {
        stands = p.stands;
        open_before = p.open_before;
        sessions = p.sessions;
        readings = p.readings;
        config = p.config;
        node = h.a.node;
        up = h.a.up;
        calls = h.a.calls;
        numbered = h.a.numbered;
        readers = h.a.readers;
        clock = h.clock;
        count = h.count;
        world_sessions = h.sessions;
        others = λ at2 s r apart is open_s reads.
            let elsewhere : eqb n s.sid.number ≡ false = apart_from at2 s apart is in
            let taken : told_after.traffic.taken s.sid.number ≡ told.traffic.taken s.sid.number = ap (λ (t : ℕ → List ℕ). t s.sid.number) end_taken ∙ others s.sid.number elsewhere in
            spoken_same other other s.sid.number r _ _ _ _ _ _ _ _ taken refl (cond-false (eqb n s.sid.number) (take 0 (w.a.way n)) (w.a.way s.sid.number) elsewhere)
            (cond-false (eqb n s.sid.number) true (w.a.ends s.sid.number) elsewhere) refl (h.a.spoken at2 s r is open_s reads);
        own = λ stays. let never : true ≡ false = sym (ap is_gone closed_phase) ∙ stays in absurd cc;
        there = h.b;
      }

      end_row : WasRow read now here other after told told_after told_other (world_lost n 0 w) x at session phase reader (row_end w.a.node n now) heard
      end_row = record {
        orderly_row = close_orderly w.a.node.view now (w.a.node.sessions.phase n);
        frames = subst AreFrames (sym silent) tt;
        given = given;
        traffic = end_here.traffic tt;
        stands_after = end_here.node w.a.node (stands_so heard).stands;
      }

      end_world : IsWorldOf read now after other told_after told_other (world_does x n (row_end w.a.node n now) (world_lost n 0 w))
      end_world = row_done read now here other after told told_after told_other (world_lost n 0 w) x at session phase reader (row_end w.a.node n now) heard end_ready end_row

      end_is : world_does x n (row_end w.a.node n now) (world_lost n 0 w) ≡ world_after x (End n) (world_lost n 0 w)
      end_is =
          ap (λ (moment : ℕ). world_does x n (row_end w.a.node n moment) (world_lost n 0 w)) (sym h.clock)
          ∙ sym (ap (λ (t : Task). world_does x t.sid t.effects t.world) (end_task (world_lost n 0 w) n h.a.up (ap is_gone phase_now ∙ p.open_before)
          (cond-true (eqb n n) true (w.a.ends n) (eq-eqb n n refl)) (cond-true (eqb n n) (take 0 (w.a.way n)) (w.a.way n) (eq-eqb n n refl))))

      pub end_led : LeadsTo x w (IsWorldOf read now after other told_after told_other)
      end_led = record {
        last = world_after x (End n) (world_lost n 0 w);
        leads = leads_then x w (world_lost n 0 w) (world_after x (End n) (world_lost n 0 w)) (loses_leads x w n 0) (does_leads x (world_lost n 0 w) (End n) tt);
        so = subst (IsWorldOf read now after other told_after told_other) end_is end_world;
      }
