-- Whatever a node did in a turn, events lead to the world behind it.
use Rattle.std.proofs.Common.{◌≡◌, ◌⊎◌, inl, inr, ℕ, false, eqb, List, [], ◌∷◌, length, Some, refl, sym, ◌∙◌, ap, subst}
use Rattle.cd_outside.specs.Lines.{Traffic}
use Rattle.cd_outside.specs.declared.sid.Sid.{Sid}
use Rattle.cd_rules.specs.Steps.{Reading}
use Rattle.cd_protocol.specs.Rows.{row_end}
use Rattle.cd_frames.specs.Message.{Message}
use Rattle.cd_exchange.specs.Handling.{the_case, WasHandled}
use Rattle.cd_plain.specs.NodeState.{NodeState}
use Rattle.cd_exchange.specs.Setting.{setting_of}
use Rattle.cd_exchange.specs.Turn.{TookTurn, WasHeard, heard_at}
use Rattle.cd_exchange.proofs.Taken.{ended_taken, handled_taken}
use Rattle.cd_plain.specs.Turned.{Told, HadTurn, NoTurn, handled_of, in_phase, others_at, spot_of}
use Rattle.cd_drill.specs.Pairs.{answer_to}
use Rattle.cd_exchange.specs.declared.ending.Ending.{Ending}
use Rattle.cd_exchange.specs.declared.ending.Ending.TheVariants as an_ending
use Rattle.cd_plain.specs.declared.handled.Handled.{Handled}
use Rattle.cd_plain.specs.declared.handled.Handled.TheVariants as handled
use Rattle.cd_world.specs.World.{At, World}
use Rattle.cd_drill_world.proofs.Brought.{Brought, none_counted}
use Rattle.cd_drill_world.proofs.Led.{leads_none}
use Rattle.cd_drill_world.proofs.Mirrors.{IsWorldOf, LeadsTo}
use Rattle.cd_drill_world.proofs.Numbered.{open_at, set_length}
use Rattle.cd_drill_world.proofs.Turns.{HadPlace, taken_counted, some_came, frame_led, end_led}

module _ (read : Reading) (now : ℕ) (here other after : NodeState) (told told_after told_other : Told) (w : World) (x : At) (h : IsWorldOf read now here other told told_other w) where
  -- a session is lost only where nothing was on the way in it, and no one is told of trouble
  abbrev MayEnd : List ℕ → Ending → Type 0
  MayEnd way an_ending.Went = Unit {0}
  MayEnd way an_ending.Lost = way ≡ []
  MayEnd way an_ending.Troubled = ⊥

  module _ (sid : Sid) (answer : Handled) (t : HadTurn (Unit {0}) (Unit {0}) read now sid answer here after told told_after) (config : after.config ≡ here.config) where
    place : HadPlace read now here other after told told_after told_other w x t.at t.session t.phase t.reader_before t.reader h
    place = record {
      stands = t.is.stands;
      reads = t.is.reads;
      open_before = open_at here.sessions t.at sid.number t.session t.is.first t.is.stands;
      sessions = t.sessions;
      readings = t.readers;
      config = config;
    }

    abbrev BroughtAt : List ℕ → ℕ → ℕ → ℕ → Type 0
    BroughtAt way passed now_passed k = Brought way passed now_passed (told.traffic.taken k) (told_after.traffic.taken k) (told_other.traffic.given k)

    -- so many bytes were taken as came
    pub turn_counted : (way : List ℕ) (passed now_passed : ℕ) → Brought way passed now_passed (told.traffic.taken sid.number) (told_after.traffic.taken sid.number) (told_other.traffic.given sid.number) → now_passed ≡ length (told_after.traffic.taken sid.number)
    turn_counted way passed now_passed brought = subst (λ (k : ℕ). BroughtAt way passed now_passed k → now_passed ≡ length (told_after.traffic.taken k)) t.is.number
        (taken_counted read now here other after told told_after told_other w x t.at t.session t.phase t.reader_before t.reader h place way passed now_passed) brought

    module _ (way : List ℕ) (passed now_passed : ℕ) where
      abbrev At_number : ℕ → Type 0
      At_number k = (took : TookTurn (Unit {0}) (Unit {0}) (setting_of here.config) read k now (others_at t.at t.session here.sessions) t.ending told.counts told_after.counts t.reader_before t.reader (spot_of here t.session.phase told) (spot_of after t.phase told_after))
          → MayEnd way t.ending → Brought way passed now_passed (told.traffic.taken k) (told_after.traffic.taken k) (told_other.traffic.given k)
          → LeadsTo x w (IsWorldOf read now after other told_after told_other)

      by_ending : (ending : Ending) (frame : Message) (heard : Traffic) → WasHeard (Unit {0}) t.session.sid.number (Some frame) (spot_of here t.session.phase told) heard t.reader_before t.reader
          → (handled : WasHandled (the_case (Unit {0}) (Unit {0}) (setting_of here.config) read t.session.sid.number now (others_at t.at t.session here.sessions) frame) told.counts told_after.counts ending (heard_at heard (spot_of here t.session.phase told)) (spot_of after t.phase told_after))
          → MayEnd way ending → Brought way passed now_passed (told.traffic.taken t.session.sid.number) (told_after.traffic.taken t.session.sid.number) (told_other.traffic.given t.session.sid.number)
          → LeadsTo x w (IsWorldOf read now after other told_after told_other)
      by_ending an_ending.Went frame heard came handled may brought =
          frame_led read now here other after told told_after told_other w x t.at t.session t.phase t.reader_before t.reader h place frame heard came handled way passed now_passed brought
      by_ending an_ending.Lost frame heard came handled may brought =
          absurd (some_came read now here other after told told_after told_other w x t.at t.session t.phase t.reader_before t.reader h place frame heard came
          (handled_taken (the_case (Unit {0}) (Unit {0}) (setting_of here.config) read t.session.sid.number now (others_at t.at t.session here.sessions) frame) told.counts told_after.counts an_ending.Lost
          (heard_at heard (spot_of here t.session.phase told)) (spot_of after t.phase told_after) handled tt) way passed now_passed brought may)
      by_ending an_ending.Troubled frame heard came handled may brought = absurd may

      by_turn : At_number t.session.sid.number
      by_turn (inl took) may brought = by_ending t.ending took.frame took.heard took.came took.handled may brought
      by_turn (inr ended) may brought = elim ended.1 [
        | inl end ↦ end_led read now here other after told told_after told_other w x t.at t.session t.phase t.reader_before t.reader h place end.heard (end.came.heard_only tt).given (end.came.heard_only tt).others end.ended
        | inr nothing ↦ end_led read now here other after told told_after told_other w x t.at t.session t.phase t.reader_before t.reader h place told.traffic refl (λ k apart. refl) nothing.ended
      ]

      -- what was answered says how the turn ended
      may_from : (way : List ℕ) (ending : Ending) → handled_of ending sid ≡ answer_to way sid → MayEnd way ending
      may_from way an_ending.Went is = tt
      may_from [] an_ending.Lost is = refl
      may_from (b ∷ way) an_ending.Lost is = absurd cc
      may_from [] an_ending.Troubled is = absurd cc
      may_from (b ∷ way) an_ending.Troubled is = absurd cc

      pub turn_led : answer ≡ answer_to way sid → Brought way passed now_passed (told.traffic.taken sid.number) (told_after.traffic.taken sid.number) (told_other.traffic.given sid.number)
          → LeadsTo x w (IsWorldOf read now after other told_after told_other)
      turn_led answered brought = subst (λ (k : ℕ). At_number k) t.is.number by_turn t.turn (may_from way t.ending (sym t.answered ∙ answered)) brought

  pub none_led : (sid : Sid) (answer : Handled) → NoTurn sid answer here after told told_after → LeadsTo x w (IsWorldOf read now after other told_after told_other)
  none_led sid answer t = record {
    last = w;
    leads = leads_none x w;
    so = subst (λ (n : NodeState). IsWorldOf read now n other told_after told_other w) (sym t.same) (subst (λ (d : Told). IsWorldOf read now here other d told_other w) (sym t.untouched) h);
  }

  -- where there is no such session, nothing was on the way in it
  pub none_came : (sid : Sid) (answer : Handled) → NoTurn sid answer here after told told_after → (way : List ℕ) (passed now_passed : ℕ) → answer ≡ answer_to way sid
      → Brought way passed now_passed (told.traffic.taken sid.number) (told_after.traffic.taken sid.number) (told_other.traffic.given sid.number) → now_passed ≡ length (told_after.traffic.taken sid.number)
  none_came sid answer t way passed now_passed answered brought =
      none_counted way passed now_passed (told.traffic.taken sid.number) (told_after.traffic.taken sid.number) (told_other.traffic.given sid.number) brought (none_on_way way (sym t.answered ∙ answered))
      (ap (λ (d : Told). d.traffic.taken sid.number) t.untouched)
    where
      none_on_way : (way : List ℕ) → handled.Lost sid ≡ answer_to way sid → way ≡ []
      none_on_way [] is = refl
      none_on_way (b ∷ way) is = absurd cc

-- In a turn bytes are taken of its session alone.
module _ (read : Reading) (now : ℕ) (here after : NodeState) (told told_after : Told) (sid : Sid) (answer : Handled) where
  had_elsewhere : HadTurn (Unit {0}) (Unit {0}) read now sid answer here after told told_after → (k : ℕ) → eqb sid.number k ≡ false → told_after.traffic.taken k ≡ told.traffic.taken k
  had_elsewhere t k apart = by_turn t.turn where
    by_turn : TookTurn (Unit {0}) (Unit {0}) (setting_of here.config) read sid.number now (others_at t.at t.session here.sessions) t.ending told.counts told_after.counts t.reader_before t.reader (spot_of here t.session.phase told) (spot_of after t.phase told_after)
        → told_after.traffic.taken k ≡ told.traffic.taken k
    by_turn (inl took) =
        ap (λ (f : ℕ → List ℕ). f k) (handled_taken (the_case (Unit {0}) (Unit {0}) (setting_of here.config) read sid.number now (others_at t.at t.session here.sessions) took.frame) told.counts told_after.counts t.ending
        (heard_at took.heard (spot_of here t.session.phase told)) (spot_of after t.phase told_after) took.handled tt)
        ∙ (took.came.heard_only tt).others k apart
    by_turn (inr ended) = elim ended.1 [
      | inl end ↦
          ap (λ (f : ℕ → List ℕ). f k) (ended_taken (Unit {0}) (Unit {0}) (setting_of here.config) read sid.number now row_end (heard_at end.heard (spot_of here t.session.phase told)) (spot_of after t.phase told_after) end.ended tt)
          ∙ (end.came.heard_only tt).others k apart
      | inr nothing ↦ ap (λ (f : ℕ → List ℕ). f k) (ended_taken (Unit {0}) (Unit {0}) (setting_of here.config) read sid.number now row_end (spot_of here t.session.phase told) (spot_of after t.phase told_after) nothing.ended tt)
    ]

  pub taken_elsewhere : HadTurn (Unit {0}) (Unit {0}) read now sid answer here after told told_after ⊎ NoTurn sid answer here after told told_after → (k : ℕ) → eqb sid.number k ≡ false → told_after.traffic.taken k ≡ told.traffic.taken k
  taken_elsewhere (inl t) k apart = had_elsewhere t k apart
  taken_elsewhere (inr t) k apart = ap (λ (d : Told). d.traffic.taken k) t.untouched

  -- and there are as many sessions as before
  pub same_many : HadTurn (Unit {0}) (Unit {0}) read now sid answer here after told told_after ⊎ NoTurn sid answer here after told told_after → length after.sessions ≡ length here.sessions
  same_many (inl t) = ap length t.sessions ∙ set_length here.sessions t.at (in_phase t.phase t.session)
  same_many (inr t) = ap (λ (n : NodeState). length n.sessions) t.same
