-- Whatever happens, both journals stay legal and have the earlier ones behind their new entries.
use Rattle.std.proofs.Common.{◌≡◌, ℕ, ◌+◌, ◌≤◌, Bool, true, false, cond, ◌&&◌, List, [], ◌∷◌, ◌++◌, take, drop, refl, sym, ◌∙◌, ap, subst, inl, inr, arith, append_assoc}
use Rattle.std.proofs.Math.Nat.{max-le}
use Rattle.std.proofs.lemmas.List.{append-nil, take-append-drop}
use Rattle.std.proofs.lemmas.Bool.{cases_Bool, and_parts, and_from}
use Rattle.cd_types.specs.declared.card.Filed.{Filed}
use Rattle.cd_entries.specs.declared.entry.Entry.{Entry}
use Rattle.cd_entries.specs.declared.entry.Entry.TheVariants as entry
use Rattle.cd_outside.specs.Shelf as shelves
use Rattle.cd_frames.specs.Message.{Message}
use Rattle.cd_rules.specs.Processes.{latest}
use Rattle.cd_rules.specs.Legal.{allowed, is_legal}
use Rattle.cd_rules.specs.Promises.{HavePriorities}
use Rattle.cd_rules.specs.Steps.{Reading}
use Rattle.cd_protocol.specs.Node.{NodeView, Node, Effect, Keep, Touch, AskSize, AskBytes, Begin, Go, Answers, does, recorded}
use Rattle.cd_protocol.specs.Promises.{IsLegalAfter, StaysLegal}
use Rattle.cd_protocol.specs.Rows.{row_choose, row_trouble}
use Rattle.cd_protocol.proofs.RowsLaw.{same_config, row_stays, row_accept_stays, row_choose_stays, row_end_stays, row_trouble_stays}
use Rattle.cd_world.specs.World.{At, A, B, Half, World, seen_from, world_did, world_does, Happening, Choice, Call, Frame, End, Task, nothing, opens, with_session, called, answers_now, came, ended, is_gone, task_of, task, ArePossible, world_after, world_within, effects_left, Cut, cut_off, with_shelf, world_faulted, down, world_stopped, no_sessions, marked, world_lost, world_written, submission_of, world_submitted, Event, Does, Fails, Stops, Starts, Loses, Writes, Later, Submits, happens, after, IsNew, IsFirst}
use Rattle.cd_world.specs.Holds.{AreLegal, Extend}

-- The effects in the world are those of the node.

pub does_node : (x : At) (sid : ℕ) (effects : List Effect) (w : World) → (world_does x sid effects w).a.node ≡ does sid effects w.a.node
does_node x sid [] w = refl
does_node x sid (Keep e ∷ effects) w = does_node x sid effects (world_did x sid (Keep e) w)
does_node x sid (Touch change ∷ effects) w = does_node x sid effects (world_did x sid (Touch change) w)
does_node x sid (AskSize name ∷ effects) w = does_node x sid effects (world_did x sid (AskSize name) w)
does_node x sid (AskBytes name at len ∷ effects) w = does_node x sid effects (world_did x sid (AskBytes name at len) w)
does_node x sid (Begin key phase ∷ effects) w = does_node x sid effects (world_did x sid (Begin key phase) w)
does_node x sid (Go phase frames ∷ effects) w = does_node x sid effects (world_did x sid (Go phase frames) w)

pub does_other : (x : At) (sid : ℕ) (effects : List Effect) (w : World) → (world_does x sid effects w).b.node ≡ w.b.node
does_other x sid [] w = refl
does_other x sid (Keep e ∷ effects) w = does_other x sid effects (world_did x sid (Keep e) w)
does_other x sid (Touch change ∷ effects) w = does_other x sid effects (world_did x sid (Touch change) w)
does_other x sid (AskSize name ∷ effects) w = does_other x sid effects (world_did x sid (AskSize name) w)
does_other x sid (AskBytes name at len ∷ effects) w = does_other x sid effects (world_did x sid (AskBytes name at len) w)
does_other x sid (Begin key phase ∷ effects) w = does_other x sid effects (world_did x sid (Begin key phase) w)
does_other x sid (Go phase frames ∷ effects) w = does_other x sid effects (world_did x sid (Go phase frames) w)

pub does_clock : (x : At) (sid : ℕ) (effects : List Effect) (w : World) → (world_does x sid effects w).clock ≡ w.clock
does_clock x sid [] w = refl
does_clock x sid (Keep e ∷ effects) w = does_clock x sid effects (world_did x sid (Keep e) w)
does_clock x sid (Touch change ∷ effects) w = does_clock x sid effects (world_did x sid (Touch change) w)
does_clock x sid (AskSize name ∷ effects) w = does_clock x sid effects (world_did x sid (AskSize name) w)
does_clock x sid (AskBytes name at len ∷ effects) w = does_clock x sid effects (world_did x sid (AskBytes name at len) w)
does_clock x sid (Begin key phase ∷ effects) w = does_clock x sid effects (world_did x sid (Begin key phase) w)
does_clock x sid (Go phase frames ∷ effects) w = does_clock x sid effects (world_did x sid (Go phase frames) w)

-- What holds of one node, and of it after more entries.

pub record Sound (clock : ℕ) (view : NodeView) : Type 0 where
  pub legal : is_legal view.config.read view.journal ≡ true
  pub priorities : HavePriorities view.config.read
  pub on_time : latest view.journal ≤ clock

pub record Grown (clock : ℕ) (before view : NodeView) : Type 0 where
  pub sound : Sound clock view
  pub entries : List Entry
  pub is : view.journal ≡ entries ++ before.journal

pub grown_none : (clock : ℕ) (view : NodeView) → Sound clock view → Grown clock view view
grown_none clock view sound = record { sound = sound; entries = []; is = refl }

pub grown_twice : (clock : ℕ) (first second third : NodeView) → Grown clock first second → Grown clock second third → Grown clock first third
grown_twice clock first second third one two = record {
  sound = two.sound;
  entries = two.entries ++ one.entries;
  is = two.is ∙ ap (λ (more : List Entry). two.entries ++ more) one.is ∙ sym (append_assoc two.entries one.entries first.journal);
}

-- after effects that keep the journal legal
grown_by : (sid now : ℕ) (node : Node) (done : List Effect) → HavePriorities node.view.config.read → IsLegalAfter sid now node done → Grown now node.view (does sid done node).view
grown_by sid now node done priorities after = record {
  sound = record {
    legal = subst (λ (read : Reading). is_legal read (does sid done node).view.journal ≡ true) (ap (λ c. c.read) (sym (same_config sid done node))) after.legal;
    priorities = subst (λ (read : Reading). HavePriorities read) (ap (λ c. c.read) (sym (same_config sid done node))) priorities;
    on_time = after.on_time;
  };
  entries = after.later;
  is = after.extends;
}

-- What a happening begins with.

pub record IsTask (w : World) (t : Task) : Type 0 where
  pub view : t.world.a.node.view ≡ w.a.node.view
  pub other : t.world.b.node.view ≡ w.b.node.view
  pub clock : t.world.clock ≡ w.clock
  pub stays : StaysLegal t.sid w.clock t.world.a.node t.effects

no_effects : (sid now : ℕ) (node : Node) → is_legal node.view.config.read node.view.journal ≡ true → latest node.view.journal ≤ now → StaysLegal sid now node []
no_effects sid now node legal early [] more split = record { legal = legal; later = []; extends = refl; on_time = early }
no_effects sid now node legal early (effect ∷ done) more split = absurd cc

module _ (w : World) (sound : Sound w.clock w.a.node.view) where
  nothing_is : IsTask w (nothing w)
  nothing_is = record { view = refl; other = refl; clock = refl; stays = no_effects w.sessions w.clock w.a.node sound.legal sound.on_time }

  chosen_is : (connected b : Bool) → IsTask w (record { sid = w.sessions; effects = row_choose w.a.node w.clock connected; world = cond b (with_session w) w })
  chosen_is connected true = record {
    view = refl;
    other = refl;
    clock = refl;
    stays = row_choose_stays w.a.node sound.priorities w.sessions w.clock (with_session w).a.node.sessions connected sound.legal sound.on_time;
  }
  chosen_is connected false = record {
    view = refl;
    other = refl;
    clock = refl;
    stays = row_choose_stays w.a.node sound.priorities w.sessions w.clock w.a.node.sessions connected sound.legal sound.on_time;
  }

  called_is : (calls : List ℕ) → IsTask w (called w calls)
  called_is [] = nothing_is
  called_is (sid ∷ more) = record {
    view = refl;
    other = refl;
    clock = refl;
    stays = row_accept_stays (called w (sid ∷ more)).world.a.node sid w.clock sound.legal sound.on_time;
  }

  came_is : (sid : ℕ) (answers : Answers) (frames : List Message) → IsTask w (came w sid answers frames)
  came_is sid answers [] = nothing_is
  came_is sid answers (m ∷ more) = record {
    view = refl;
    other = refl;
    clock = refl;
    stays = row_stays w.a.node sound.priorities sid (answers_now w answers) m sound.legal sound.on_time;
  }

  ended_is : (sid : ℕ) (b : Bool) (frames : List Message) → IsTask w (ended w sid b frames)
  ended_is sid true [] = record { view = refl; other = refl; clock = refl; stays = row_end_stays w.a.node sound.priorities sid w.clock sound.legal sound.on_time }
  ended_is sid true (m ∷ frames) = nothing_is
  ended_is sid false frames = nothing_is

  unless_gone : (b : Bool) (t : Task) → IsTask w t → IsTask w (cond b (nothing w) t)
  unless_gone true t is = nothing_is
  unless_gone false t is = is

  while_up : (b : Bool) (t : Task) → IsTask w t → IsTask w (cond b t (nothing w))
  while_up true t is = is
  while_up false t is = nothing_is

  task_of_is : (happening : Happening) → IsTask w (task_of w happening)
  task_of_is (Choice connected) = chosen_is (connected && w.b.up) (opens (row_choose w.a.node w.clock (connected && w.b.up)))
  task_of_is Call = called_is w.a.calls
  task_of_is (Frame sid answers) = unless_gone (is_gone (w.a.node.sessions.phase sid)) _ (came_is sid answers (w.a.way sid))
  task_of_is (End sid) = unless_gone (is_gone (w.a.node.sessions.phase sid)) _ (ended_is sid (w.a.ends sid) (w.a.way sid))

  pub task_is : (happening : Happening) → IsTask w (task w happening)
  task_is happening = while_up w.a.up (task_of w happening) (task_of_is happening)

-- Both nodes.

pub record BothGrown (before w : World) : Type 0 where
  pub clock : before.clock ≤ w.clock
  pub a : Grown w.clock before.a.node.view w.a.node.view
  pub b : Grown w.clock before.b.node.view w.b.node.view

pub record BothSound (w : World) : Type 0 where
  pub a : Sound w.clock w.a.node.view
  pub b : Sound w.clock w.b.node.view

pub still : (before w : World) → BothSound before → w.a.node.view ≡ before.a.node.view → w.b.node.view ≡ before.b.node.view → w.clock ≡ before.clock → BothGrown before w
still before w sound a b clock = record {
  clock = omega (arith, clock);
  a = subst (λ (n : ℕ). Grown n before.a.node.view w.a.node.view) (sym clock) (subst (λ (d : NodeView). Grown before.clock before.a.node.view d) (sym a) (grown_none before.clock before.a.node.view sound.a));
  b = subst (λ (n : ℕ). Grown n before.b.node.view w.b.node.view) (sym clock) (subst (λ (d : NodeView). Grown before.clock before.b.node.view d) (sym b) (grown_none before.clock before.b.node.view sound.b));
}

-- after a first part of a row
reaction_grown : (x : At) (w : World) (sound : BothSound w) (t : Task) → IsTask w t → (done more : List Effect) → t.effects ≡ done ++ more → BothGrown w (world_does x t.sid done t.world)
reaction_grown x w sound t is done more split =
    let node : Node = t.world.a.node in
    let priorities : HavePriorities node.view.config.read = subst (λ (d : NodeView). HavePriorities d.config.read) (sym is.view) sound.a.priorities in
    let grown : Grown w.clock node.view (does t.sid done node).view = grown_by t.sid w.clock node done priorities (is.stays done more split) in
    let from : Grown w.clock w.a.node.view (does t.sid done node).view = subst (λ (d : NodeView). Grown w.clock d (does t.sid done node).view) is.view grown in
    let last : World = world_does x t.sid done t.world in
    let clock : last.clock ≡ w.clock = does_clock x t.sid done t.world ∙ is.clock in
    record {
      clock = omega (arith, clock);
      a = subst (λ (n : ℕ). Grown n w.a.node.view last.a.node.view) (sym clock)
          (subst (λ (node2 : Node). Grown w.clock w.a.node.view node2.view) (sym (does_node x t.sid done t.world)) from);
      b = subst (λ (n : ℕ). Grown n w.b.node.view last.b.node.view) (sym clock)
          (subst (λ (d : NodeView). Grown w.clock w.b.node.view d) (sym (ap (λ (node2 : Node). node2.view) (does_other x t.sid done t.world) ∙ is.other)) (grown_none w.clock w.b.node.view sound.b));
    }

sound_after : (before w : World) → BothGrown before w → BothSound w
sound_after before w grown = record { a = grown.a.sound; b = grown.b.sound }

grown_later : (early late : ℕ) (before view : NodeView) → early ≤ late → Grown early before view → Grown late before view
grown_later early late before view order grown = record {
  sound = record { legal = grown.sound.legal; priorities = grown.sound.priorities; on_time = omega (arith, order, grown.sound.on_time) };
  entries = grown.entries;
  is = grown.is;
}

pub both_twice : (first second third : World) → BothGrown first second → BothGrown second third → BothGrown first third
both_twice first second third one two = record {
  clock = omega (arith, one.clock, two.clock);
  a = grown_twice third.clock first.a.node.view second.a.node.view third.a.node.view (grown_later second.clock third.clock first.a.node.view second.a.node.view two.clock one.a) two.a;
  b = grown_twice third.clock first.b.node.view second.b.node.view third.b.node.view (grown_later second.clock third.clock first.b.node.view second.b.node.view two.clock one.b) two.b;
}

-- a fault closes the session
pub trouble_grown : (x : At) (w : World) (sound : BothSound w) (sid : ℕ) → BothGrown w (world_does x sid (row_trouble w.a.node sid w.clock) w)
trouble_grown x w sound sid =
    let trouble : Task = record { sid = sid; effects = row_trouble w.a.node sid w.clock; world = w } in
    let is : IsTask w trouble = record { view = refl; other = refl; clock = refl; stays = row_trouble_stays w.a.node sound.a.priorities sid w.clock sound.a.legal sound.a.on_time } in
    reaction_grown x w sound trouble is trouble.effects [] (sym (append-nil trouble.effects))

module _ (x : At) (w : World) (sound : BothSound w) (happening : Happening) where
  pub within_grown : (k : ℕ) → BothGrown w (world_within x happening k w)
  within_grown k =
      reaction_grown x w sound (task w happening) (task_is w sound.a happening) (take k (task w happening).effects) (drop k (task w happening).effects) (sym (take-append-drop k (task w happening).effects))

  pub whole_grown : BothGrown w (world_after x happening w)
  whole_grown = reaction_grown x w sound (task w happening) (task_is w sound.a happening) (task w happening).effects [] (sym (append-nil (task w happening).effects))

  faulted_grown : (k : ℕ) (cut : Cut) → BothGrown w (world_faulted x happening k cut w)
  faulted_grown k cut =
      let first : World = world_within x happening k w in
      let short : World = with_shelf (cut_off cut (effects_left happening k w) first.a.node.shelf) first in
      let grown : BothGrown w first = within_grown k in
      let sound2 : BothSound short = record { a = grown.a.sound; b = grown.b.sound } in
      let sid : ℕ = (task w happening).sid in
      let rest : BothGrown short (world_does x sid (row_trouble short.a.node sid short.clock) short) = trouble_grown x short sound2 sid in
      both_twice w short (world_does x sid (row_trouble short.a.node sid short.clock) short) (record { clock = grown.clock; a = grown.a; b = grown.b }) rest

  stopped_grown : (k : ℕ) (image : shelves.FileMap) (b : Bool) → BothGrown w (cond b (down image (world_within x happening k w)) w)
  stopped_grown k image true = record { clock = (within_grown k).clock; a = (within_grown k).a; b = (within_grown k).b }
  stopped_grown k image false = still w w sound refl refl refl

  pub stops_grown : (k : ℕ) (image : shelves.FileMap) → BothGrown w (world_stopped x happening k image w)
  stops_grown k image = stopped_grown k image w.a.up

module _ (w : World) (sound : BothSound w) where
  started_grown : (b : Bool) → BothGrown w (cond b w (record w { a = record w.a { node = record w.a.node { sessions = no_sessions }; up = true; received = marked w.a.node.view.journal w.a.received } }))
  started_grown true = still w w sound refl refl refl
  started_grown false = still w _ sound refl refl refl

  pub legal_more : (read : Reading) (e : Entry) (journal : List Entry) → is_legal read journal ≡ true → allowed read journal e ≡ true → is_legal read (e ∷ journal) ≡ true
  unfolding is_legal
  legal_more read e journal legal fits = and_from (is_legal read journal) (allowed read journal e) legal fits

  submitted_time : (card : Filed) (text : List ℕ) → latest (submission_of card text w ∷ w.a.node.view.journal) ≤ w.clock
  unfolding latest
  submitted_time card text = max-le sound.a.on_time (omega arith)

  submitted_grown : (card : Filed) (text : List ℕ) → BothGrown w (world_submitted card text w)
  submitted_grown card text =
      let e : Entry = submission_of card text w in
      let new : World = record w { a = record w.a { node = record w.a.node { view = recorded e w.a.node.view } } } in
      let test : Bool = w.a.up && allowed w.a.node.view.config.read w.a.node.view.journal e in
      elim (cases_Bool test) [
        | inl fits ↦
            let may : allowed w.a.node.view.config.read w.a.node.view.journal e ≡ true = (and_parts w.a.up (allowed w.a.node.view.config.read w.a.node.view.journal e) fits).1 in
            let grown : BothGrown w new = record {
              clock = omega arith;
              a = record {
                sound = record { legal = legal_more w.a.node.view.config.read e w.a.node.view.journal sound.a.legal may; priorities = sound.a.priorities; on_time = submitted_time card text };
                entries = e ∷ [];
                is = refl;
              };
              b = grown_none w.clock w.b.node.view sound.b;
            } in
            subst (λ (b : Bool). BothGrown w (cond b new w)) (sym fits) grown
        | inr none ↦ subst (λ (b : Bool). BothGrown w (cond b new w)) (sym none) (still w w sound refl refl refl)
      ]

from_there : (x : At) (w v : World) → BothGrown (seen_from x w) v → BothGrown w (seen_from x v)
from_there A w v grown = grown
from_there B w v grown = record { clock = grown.clock; a = grown.b; b = grown.a }

sound_there : (x : At) (w : World) → BothSound w → BothSound (seen_from x w)
sound_there A w sound = sound
sound_there B w sound = record { a = sound.b; b = sound.a }

pub happens_grown : (w : World) (event : Event) → BothSound w → BothGrown w (happens w event)
happens_grown w (Does x happening) sound = from_there x w _ (whole_grown x (seen_from x w) (sound_there x w sound) happening)
happens_grown w (Fails x happening k cut) sound = from_there x w _ (faulted_grown x (seen_from x w) (sound_there x w sound) happening k cut)
happens_grown w (Stops x happening k image) sound = from_there x w _ (stops_grown x (seen_from x w) (sound_there x w sound) happening k image)
happens_grown w (Starts x) sound = from_there x w _ (started_grown (seen_from x w) (sound_there x w sound) (seen_from x w).a.up)
happens_grown w (Loses x sid k) sound = from_there x w _ (still (seen_from x w) (world_lost sid k (seen_from x w)) (sound_there x w sound) refl refl refl)
happens_grown w (Writes x name bytes) sound = from_there x w _ (still (seen_from x w) (world_written x name bytes (seen_from x w)) (sound_there x w sound) refl refl refl)
happens_grown w (Later seconds) sound = record {
  clock = omega arith;
  a = grown_later w.clock (w.clock + seconds) w.a.node.view w.a.node.view (omega arith) (grown_none w.clock w.a.node.view sound.a);
  b = grown_later w.clock (w.clock + seconds) w.b.node.view w.b.node.view (omega arith) (grown_none w.clock w.b.node.view sound.b);
}
happens_grown w (Submits x card text) sound = from_there x w _ (submitted_grown (seen_from x w) (sound_there x w sound) card text)

pub after_grown : (w : World) (events : List Event) → BothSound w → BothGrown w (after w events)
after_grown w [] sound = still w w sound refl refl refl
after_grown w (event ∷ events) sound =
    let once : BothGrown w (happens w event) = happens_grown w event sound in
    both_twice w (happens w event) (after (happens w event) events) once (after_grown (happens w event) events (sound_after w (happens w event) once))

home_sound : (read : Reading) (name : List ℕ) (home : ℕ) → is_legal read (entry.Home name home ∷ []) ≡ true
unfolding is_legal allowed latest
home_sound read name home = refl

home_time : (name : List ℕ) (home clock : ℕ) → latest (entry.Home name home ∷ []) ≤ clock
unfolding latest
home_time name home clock = omega arith

pub new_sound : (name : List ℕ) (home clock : ℕ) (half : Half) → IsNew name home half → Sound clock half.node.view
new_sound name home clock half new = record {
  legal = subst (λ (journal : List Entry). is_legal half.node.view.config.read journal ≡ true) (sym new.journal) (home_sound half.node.view.config.read name home);
  priorities = new.priorities;
  on_time = subst (λ (journal : List Entry). latest journal ≤ clock) (sym new.journal) (home_time name home clock);
}

pub first_sound : (w : World) → IsFirst w → BothSound w
first_sound w first = record { a = new_sound first.name_a first.home_a w.clock w.a first.a; b = new_sound first.name_b first.home_b w.clock w.b first.b }

pub after_append : (w : World) (events more : List Event) → after w (events ++ more) ≡ after (after w events) more
after_append w [] more = refl
after_append w (event ∷ events) more = after_append (happens w event) events more

-- The promises.

pub events_legal : (w : World) (events : List Event) → IsFirst w → ArePossible w events → AreLegal (after w events)
events_legal w events first possible =
    let grown : BothGrown w (after w events) = after_grown w events (first_sound w first) in
    record { a = grown.a.sound.legal; b = grown.b.sound.legal }

pub events_extend : (w : World) (events more : List Event) → IsFirst w → ArePossible w (events ++ more) → Extend (after w events) (after w (events ++ more))
events_extend w events more first possible =
    let then : World = after w events in
    let grown : BothGrown then (after then more) = after_grown then more (sound_after w then (after_grown w events (first_sound w first))) in
    subst (λ (last : World). Extend then last) (sym (after_append w events more))
    (record { a = record { entries = grown.a.entries; is = grown.a.is }; b = record { entries = grown.b.entries; is = grown.b.is } })
