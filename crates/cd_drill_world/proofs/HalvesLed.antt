-- What a node of a drill does, in the world.
use Rattle.std.proofs.Common.{◌≡◌, ◌⊎◌, inl, inr, ℕ, suc, ◌+◌, Bool, true, false, eqb, List, [], ◌∷◌, length, ltb, Option, Some, None, refl, sym, ◌∙◌, ap, subst, arith, length-append}
use Rattle.std.proofs.lemmas.Bool.{lt-ltb, le-ltb}
use Rattle.cd_types.specs.declared.rows.Row.{Row}
use Rattle.cd_outside.specs.Lines.{IsFresh, Traffic}
use Rattle.cd_outside.specs.declared.sid.Sid.{Sid}
use Rattle.cd_memory.specs.MemoryFiles as files
use Rattle.cd_memory.specs.MemoryLines.{last_of, traffic_of, counts_of}
use Rattle.cd_memory.specs.declared.files.MemoryFiles.{MemoryFiles}
use Rattle.cd_rules.specs.Queue.{next_due}
use Rattle.cd_protocol.specs.declared.session.Phase.TheVariants.{Gone, Fresh}
use Rattle.cd_protocol.specs.Rows.{row_chosen}
use Rattle.cd_exchange.proofs.Taken.{done_taken}
use Rattle.cd_session_rules.specs.NodeView.{view_of}
use Rattle.cd_exchange.specs.declared.session.Session.{Session}
use Rattle.cd_canonical.specs.Read.{canonical_reading}
use Rattle.cd_plain.specs.Choice.{MadeSession, WasConnected, WasLost, WasChosen, TookSession, HadNone}
use Rattle.cd_plain.specs.Chosen.{busy_in}
use Rattle.cd_plain.specs.NodeState.{NodeState}
use Rattle.cd_plain.specs.Turned.{Told, HadTurn, NoTurn, spot_of}
use Rattle.cd_plain.specs.declared.handled.Handled.{Handled}
use Rattle.cd_plain.specs.declared.handled.Handled.TheVariants as handled
use Rattle.cd_drill.specs.AtRest.{entries_of, told_of, IsSame, TookTurn, Chose, WasOffered}
use Rattle.cd_drill.specs.Pairs.{frame_len, answer_to, CameOf, Accepted}
use Rattle.cd_drill.specs.declared.test_node.TestNode.{TestNode}
use Rattle.cd_world.specs.World.{At, World}
use Rattle.cd_drill_world.proofs.Brought.{Brought}
use Rattle.cd_drill_world.proofs.ChoicesLed.{ChoiceIs, same_world, placed_led}
use Rattle.cd_drill_world.proofs.ConnectedLed.{connected_led}
use Rattle.cd_drill_world.proofs.Led.{leads_none}
use Rattle.cd_drill_world.proofs.Mirrors.{IsWorldOf, LeadsTo}
use Rattle.cd_drill_world.proofs.Numbered.{AreNumbered, numbered_more, last_number}
use Rattle.cd_drill_world.proofs.TurnsLed.{turn_counted, turn_led, none_led, none_came, taken_elsewhere, same_many}

-- two nodes of a drill, at this moment, are this world
abbrev pub AreWorld : ℕ → TestNode → TestNode → World → Type 0
AreWorld now here other w = IsWorldOf canonical_reading now here.node other.node (told_of here) (told_of other) w

-- what comes to a node changes nothing of the world
module _ (now : ℕ) (here at other : TestNode) (w : World) (h : AreWorld now here other w) where
  offered_world : (sid : Sid) (bytes : List ℕ) → WasOffered sid bytes here at → AreWorld now at other w
  offered_world sid bytes was = same_world canonical_reading now here.node other.node at.node (told_of here) (told_of at) (told_of other) w h (record {
    entries = ap (λ (n : NodeState). n.registry.entries) was.node;
    kept = record { sessions = ap (λ (n : NodeState). n.sessions) was.node; readings = ap (λ (n : NodeState). n.readings) was.node; holdings = ap (λ (n : NodeState). n.holdings) was.node };
    config = ap (λ (n : NodeState). n.config) was.node;
    shelf = ap (λ (m : MemoryFiles). (files.state_of m).shelf) was.files;
    traffic = was.lines.traffic;
  })

  pub came_world : (way : List ℕ) (sid : Sid) (passed now_passed : ℕ) → CameOf way sid passed here at now_passed → AreWorld now at other w
  came_world [] sid passed now_passed came = subst (λ (half : TestNode). AreWorld now half other w) (sym came.0) h
  came_world (b ∷ bytes) sid passed now_passed came = offered_world sid _ came.0

pub came_same : (way : List ℕ) (sid : Sid) (passed now_passed : ℕ) (here at : TestNode) → CameOf way sid passed here at now_passed → IsSame here at
came_same [] sid passed now_passed here at came = record { config = ap (λ (half : TestNode). half.node.config) came.0; moment = ap (λ (half : TestNode). half.moment) came.0 }
came_same (b ∷ bytes) sid passed now_passed here at came = record { config = ap (λ (n : NodeState). n.config) came.0.node; moment = came.0.moment }

pub came_sessions : (way : List ℕ) (sid : Sid) (passed now_passed : ℕ) (here at : TestNode) → CameOf way sid passed here at now_passed → length at.node.sessions ≡ length here.node.sessions
came_sessions [] sid passed now_passed here at came = ap (λ (half : TestNode). length half.node.sessions) came.0
came_sessions (b ∷ bytes) sid passed now_passed here at came = ap (λ (n : NodeState). length n.sessions) came.0.node

-- what the lines of a node took of each session
abbrev pub taken_in : TestNode → ℕ → List ℕ
taken_in half = (traffic_of half.lines).taken

-- what comes isn't taken yet, and is the frame at the front
pub came_taken : (way : List ℕ) (sid : Sid) (passed now_passed : ℕ) (here at : TestNode) → CameOf way sid passed here at now_passed → taken_in at ≡ taken_in here
came_taken [] sid passed now_passed here at came = ap taken_in came.0
came_taken (b ∷ bytes) sid passed now_passed here at came = ap (λ (t : Traffic). t.taken) came.0.lines.traffic

pub came_passed : (way : List ℕ) (sid : Sid) (passed now_passed : ℕ) (here at : TestNode) → CameOf way sid passed here at now_passed → now_passed ≡ passed + frame_len way
came_passed [] sid passed now_passed here at came = omega (arith, came.1)
came_passed (b ∷ bytes) sid passed now_passed here at came = came.1

-- A session had its turn, about what was on the way to it.
module _ (now : ℕ) (here after other : TestNode) (w : World) (x : At) (way : List ℕ) (sid : Sid) (answer : Handled) (answered : answer ≡ answer_to way sid) (h : AreWorld now here other w) (moment : here.moment ≡ now) (t : TookTurn sid answer here after)
    (passed now_passed : ℕ) (brought : Brought way passed now_passed (taken_in here sid.number) (taken_in after sid.number) ((traffic_of other.lines).given sid.number)) where
  h_then : AreWorld here.moment here other w
  h_then = subst (λ (m : ℕ). AreWorld m here other w) (sym moment) h

  abbrev HowTurned : Type 0
  HowTurned = HadTurn (Unit {0}) (Unit {0}) canonical_reading here.moment sid answer here.node after.node (told_of here) (told_of after) ⊎ NoTurn sid answer here.node after.node (told_of here) (told_of after)

  pub half_turned : LeadsTo x w (AreWorld now after other)
  half_turned = subst (λ (m : ℕ). LeadsTo x w (AreWorld m after other)) moment (by_turn t.turned) where
    by_turn : HowTurned → LeadsTo x w (AreWorld here.moment after other)
    by_turn (inl had) = turn_led canonical_reading here.moment here.node other.node after.node (told_of here) (told_of after) (told_of other) w x h_then sid answer had t.same.config way passed now_passed answered brought
    by_turn (inr none) = none_led canonical_reading here.moment here.node other.node after.node (told_of here) (told_of after) (told_of other) w x h_then sid answer none

  -- so many bytes were taken as came
  pub half_counted : now_passed ≡ length (taken_in after sid.number)
  half_counted = by_turn t.turned where
    by_turn : HowTurned → now_passed ≡ length (taken_in after sid.number)
    by_turn (inl had) = turn_counted canonical_reading here.moment here.node other.node after.node (told_of here) (told_of after) (told_of other) w x h_then sid answer had t.same.config way passed now_passed brought
    by_turn (inr none) = none_came canonical_reading here.moment here.node other.node after.node (told_of here) (told_of after) (told_of other) w x h_then sid answer none way passed now_passed answered brought

-- in no other session any were
pub half_elsewhere : (here after : TestNode) (sid : Sid) (answer : Handled) (t : TookTurn sid answer here after) (k : ℕ) → eqb sid.number k ≡ false → taken_in after k ≡ taken_in here k
half_elsewhere here after sid answer t k apart = taken_elsewhere canonical_reading here.moment here.node after.node (told_of here) (told_of after) sid answer t.turned k apart

pub half_sessions : (here after : TestNode) (sid : Sid) (answer : Handled) (t : TookTurn sid answer here after) → length after.node.sessions ≡ length here.node.sessions
half_sessions here after sid answer t = same_many canonical_reading here.moment here.node after.node (told_of here) (told_of after) sid answer t.turned

-- a choice takes nothing of a session
pub chose_taken : (answer : Handled) (here after : TestNode) → ((sid : Sid) → answer ≡ handled.Lost sid → ⊥) → Chose answer here after → taken_in after ≡ taken_in here
chose_taken answer here after stays chose = by_due (next_due (entries_of here) here.moment (busy_in here.node.sessions)) refl where
  by_chosen : (row : Row) → WasChosen (Unit {0}) (Unit {0}) canonical_reading here.moment row answer here.node after.node (told_of here) (told_of after) → taken_in after ≡ taken_in here
  by_chosen row (inl began) = by_began began.began where
    by_began : WasConnected (Unit {0}) (Unit {0}) canonical_reading here.moment row answer here.node after.node (told_of here) (told_of after) began.sid
        ⊎ WasLost (Unit {0}) (Unit {0}) canonical_reading here.moment row answer here.node after.node (told_of here) (told_of after) began.sid → taken_in after ≡ taken_in here
    by_began (inl c) = done_taken (Unit {0}) (Unit {0}) began.sid.number (row_chosen (view_of canonical_reading here.node.config (entries_of here)) here.moment true (Some row)) (spot_of here.node Gone (told_of here)) (spot_of after.node c.phase (told_of after)) c.done tt
    by_began (inr lost) = absurd (stays began.sid lost.answered)
  by_chosen row (inr (inl held)) = ap (λ (d : Told). d.traffic.taken) held.untouched
  by_chosen row (inr (inr failed)) = ap (λ (t : Traffic). t.taken) (failed.traffic tt)

  by_due : (found : Option Row) → next_due (entries_of here) here.moment (busy_in here.node.sessions) ≡ found → taken_in after ≡ taken_in here
  by_due None is = ap taken_in (chose.idle (chose.none is)).1
  by_due (Some row) is = by_chosen row (chose.chosen row is)

-- FollowedBy of a pair says so of the links too; here of the other node alone
abbrev pub Follows : TestNode → TestNode → Bool → Type 0
Follows other other_after true = Accepted other other_after
Follows other other_after false = other_after ≡ other

stays_there : (other other_after : TestNode) (more : Bool) → more ≡ false → Follows other other_after more → other_after ≡ other
stays_there other other_after true is follows = absurd cc
stays_there other other_after false is follows = follows

takes_there : (other other_after : TestNode) (more : Bool) → more ≡ true → Follows other other_after more → Accepted other other_after
takes_there other other_after true is follows = follows
takes_there other other_after false is follows = absurd cc

-- the newest session of each node's lines has the number of all its sessions, where there is one more
abbrev pub AreNewest : Bool → TestNode → TestNode → Type 0
AreNewest true here other = (last_of here.lines ≡ length here.node.sessions) × (last_of other.lines ≡ length other.node.sessions)
AreNewest false here other = Unit {0}

-- A choice, and what the other node did about it.
module _ (choice_is : ChoiceIs) (now : ℕ) (here after other other_after : TestNode) (w : World) (x : At) (h : AreWorld now here other w) where
  -- what is asked of both nodes before and behind it
  pub record CanChoose : Type 0 where
    pub moment : here.moment ≡ now
    pub counted : AreNewest (ltb (length here.node.sessions) (length after.node.sessions)) after other_after

  abbrev Led : Type 0
  Led = LeadsTo x w (IsWorldOf canonical_reading now after.node other_after.node (told_of after) (told_of other_after))

  module _ (can : CanChoose) (answer : Handled) (stays : (sid : Sid) → answer ≡ handled.Lost sid → ⊥) (chose : Chose answer here after) (follows : Follows other other_after (ltb (length here.node.sessions) (length after.node.sessions))) where
    no_more : after.node.sessions ≡ here.node.sessions → other_after ≡ other
    no_more same = stays_there other other_after (ltb (length here.node.sessions) (length after.node.sessions)) (le-ltb (length here.node.sessions) (length after.node.sessions) (omega (arith, ap length same))) follows

    with_other : other_after ≡ other → LeadsTo x w (IsWorldOf canonical_reading now after.node other.node (told_of after) (told_of other)) → Led
    with_other same led = subst (λ (half : TestNode). LeadsTo x w (IsWorldOf canonical_reading now after.node half.node (told_of after) (told_of half))) (sym same) led

    -- nothing was due
    pub idle_led : answer ≡ handled.Idle → Led
    idle_led is =
        let same : after ≡ here = (chose.idle is).1 in
        with_other (no_more (ap (λ (half : TestNode). half.node.sessions) same))
        (subst (λ (half : TestNode). LeadsTo x w (IsWorldOf canonical_reading now half.node other.node (told_of half) (told_of other))) (sym same) (record { last = w; leads = leads_none x w; so = h }))

    module _ (row : Row) (due : next_due (entries_of here) now (busy_in here.node.sessions) ≡ Some row) where
      began_led : (sid : Sid) → WasConnected (Unit {0}) (Unit {0}) canonical_reading now row answer here.node after.node (told_of here) (told_of after) sid → Led
      began_led sid c = by_taken (takes_there other other_after (ltb (length here.node.sessions) (length after.node.sessions)) more follows) where
        longer : length after.node.sessions ≡ suc (length here.node.sessions)
        longer = omega (arith, ap length c.sessions, length-append here.node.sessions ((record { sid = sid; phase = c.phase }) ∷ []))

        more : ltb (length here.node.sessions) (length after.node.sessions) ≡ true
        more = lt-ltb (length here.node.sessions) (length after.node.sessions) (omega (arith, longer))

        counted : AreNewest true after other_after
        counted = subst (λ (b : Bool). AreNewest b after other_after) more can.counted

        numbered : AreNumbered 1 after.node.sessions
        numbered = by_made chose.made where
          by_made : MadeSession (last_of here.lines) (last_of after.lines) here.node after.node → AreNumbered 1 after.node.sessions
          by_made (inl one) = subst (AreNumbered 1) (sym one.opened.sessions)
              (numbered_more 1 here.node.sessions (record { sid = record { number = last_of after.lines }; phase = one.opened.phase }) h.a.numbered (omega (arith, counted.0, longer)))
          by_made (inr none) = absurd (omega (arith, ap (λ (l : List Session). length l) none.sessions, longer))

        number : sid.number ≡ w.sessions
        number = last_number 1 here.node.sessions (record { sid = sid; phase = c.phase }) (subst (AreNumbered 1) c.sessions numbered) ∙ omega (arith, h.sessions)

        -- the session is one that the lines made in this call
        fresh_here : MadeSession (last_of here.lines) (last_of after.lines) here.node after.node → IsFresh w.sessions (traffic_of here.lines)
        fresh_here (inl one) =
            let last : last_of after.lines ≡ w.sessions = omega (arith, counted.0, longer, h.sessions) in
            subst (λ (n : ℕ). IsFresh n (traffic_of here.lines)) last (chose.unused one.newer)
        fresh_here (inr none) = absurd (omega (arith, ap (λ (l : List Session). length l) none.sessions, longer))

        by_taken : Accepted other other_after → Led
        by_taken took = by_answer took.took.accepted where
          last_there : TookSession handled.Went (last_of other.lines) (last_of other_after.lines) (counts_of other.lines) (counts_of other_after.lines) other.node other_after.node → last_of other_after.lines ≡ w.sessions
          last_there session =
              omega (arith, counted.1, ap (λ (l : List Session). length l) session.sessions, length-append other.node.sessions ((record { sid = record { number = last_of other_after.lines }; phase = Fresh }) ∷ []), h.sessions, h.count)

          by_answer : TookSession handled.Went (last_of other.lines) (last_of other_after.lines) (counts_of other.lines) (counts_of other_after.lines) other.node other_after.node
              ⊎ HadNone handled.Went (last_of other.lines) (last_of other_after.lines) (counts_of other.lines) (counts_of other_after.lines) other.node other_after.node → Led
          by_answer (inl session) =
              connected_led choice_is canonical_reading now here.node other.node after.node other_after.node (told_of here) (told_of after) (told_of other) (told_of other_after) w x h row due sid answer handled.Went
              (last_of other.lines) (last_of other_after.lines) (counts_of other.lines) (counts_of other_after.lines) (record {
                connected = c;
                config = chose.same.config;
                took = session;
                entries_there = ap (λ r. r.entries) took.took.registry;
                holdings_there = took.took.holdings;
                config_there = took.took.same.config;
                shelf_there = ap (λ (m : MemoryFiles). (files.state_of m).shelf) took.took.files;
                traffic_there = took.took.traffic;
                number = number;
                number_there = last_there session;
                unused = fresh_here chose.made;
                unused_there = subst (λ (n : ℕ). IsFresh n (traffic_of other.lines)) (last_there session) (subst (IsFresh (last_of other_after.lines)) took.took.traffic (took.took.unused session.made));
              })
          by_answer (inr none) = let clash : handled.Went ≡ handled.NoMore = none.answered in absurd cc

      chosen_led : WasChosen (Unit {0}) (Unit {0}) canonical_reading now row answer here.node after.node (told_of here) (told_of after) → Led
      chosen_led (inl began) = by_began began.began where
        by_began : WasConnected (Unit {0}) (Unit {0}) canonical_reading now row answer here.node after.node (told_of here) (told_of after) began.sid
            ⊎ WasLost (Unit {0}) (Unit {0}) canonical_reading now row answer here.node after.node (told_of here) (told_of after) began.sid → Led
        by_began (inl c) = began_led began.sid c
        by_began (inr lost) = absurd (stays began.sid lost.answered)
      chosen_led (inr (inl held)) =
          with_other (no_more held.kept.sessions) (placed_led choice_is canonical_reading now here.node other.node after.node (told_of here) (told_of after) (told_of other) w x h row due held.placed held.kept chose.same.config
          (ap (λ (t : Told). t.shelf) held.untouched) (ap (λ (t : Told). t.traffic) held.untouched))
      chosen_led (inr (inr failed)) =
          with_other (no_more failed.kept.sessions) (placed_led choice_is canonical_reading now here.node other.node after.node (told_of here) (told_of after) (told_of other) w x h row due failed.placed failed.kept chose.same.config
          failed.shelf (failed.traffic tt))

    pub chose_led : Led
    chose_led = by_due (next_due (entries_of here) here.moment (busy_in here.node.sessions)) refl where
      by_due : (found : Option Row) → next_due (entries_of here) here.moment (busy_in here.node.sessions) ≡ found → Led
      by_due None is = idle_led (chose.none is)
      by_due (Some row) is =
          chosen_led row (ap (λ (m : ℕ). next_due (entries_of here) m (busy_in here.node.sessions)) (sym can.moment) ∙ is)
          (subst (λ (m : ℕ). WasChosen (Unit {0}) (Unit {0}) canonical_reading m row answer here.node after.node (told_of here) (told_of after)) can.moment (chose.chosen row is))
