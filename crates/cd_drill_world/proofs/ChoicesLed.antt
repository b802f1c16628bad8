-- A choice of a node, in the world, and what the other node does about it.
use Rattle.std.proofs.Common.{◌≡◌, inl, inr, ℕ, suc, ◌+◌, Bool, false, ◌&&◌, List, [], ◌∷◌, length, map, Option, Some, None, refl, sym, ◌∙◌, ap, subst, arith}
use Rattle.std.specs.Prelude.{slice_get}
use Rattle.std.proofs.lemmas.Bool.{cond-true}
use Rattle.cd_types.specs.declared.rows.Row.{Row}
use Rattle.cd_entries.specs.declared.entry.Entry.{Entry}
use Rattle.cd_outside.specs.Lines.{Traffic}
use Rattle.cd_frames.specs.Message.{Message}
use Rattle.cd_frames.specs.Reading as streams
use Rattle.cd_rules.specs.Queue.{Waits, next_due}
use Rattle.cd_rules.specs.Steps.{Reading}
use Rattle.cd_protocol.specs.Node.{NodeView, Node, Effect, Keep, recorded}
use Rattle.cd_protocol.specs.Rows.{call, row_chosen, row_choose}
use Rattle.cd_effects.specs.Stands.{holder_of}
use Rattle.cd_effects.specs.declared.owners.Holding.{Holding}
use Rattle.cd_exchange.specs.Sessions.{phase_among}
use Rattle.cd_exchange.specs.declared.session.Session.{Session}
use Rattle.cd_session_rules.specs.NodeView.{view_of}
use Rattle.cd_plain.specs.Choice.{placing_of}
use Rattle.cd_plain.specs.Chosen.{busy_in, placed_in, IsPlaced}
use Rattle.cd_plain.specs.Law.{IsNodeOf, number_of}
use Rattle.cd_plain.specs.NodeState.{NodeState, AreRising, AreMade, KeptSessions}
use Rattle.cd_plain.specs.Turned.{Told}
use Rattle.cd_world.specs.World.{At, World, chosen, nothing, Choice, Task, task, task_of, world_did, world_does, world_after}
use Rattle.cd_drill_world.proofs.Led.{leads_none, does_leads}
use Rattle.cd_drill_world.proofs.Mirrors.{IsHalf, IsWorldOf, LeadsTo}
use Rattle.cd_drill_world.proofs.Numbered.{AreNumbered}
use Rattle.cd_drill_world.proofs.TurnDone.{spoken_same, view_is}

-- sessions that are numbered were made by lines
made_from : (above : ℕ) (sessions : List Session) → AreNumbered (suc above) sessions → AreRising above (above + length sessions) sessions
made_from above [] numbered = omega arith
made_from above (s ∷ sessions) numbered =
    let more : AreRising (suc above) (suc above + length sessions) sessions = made_from (suc above) sessions numbered.1 in
    let last : suc above + length sessions ≡ above + length (s ∷ sessions) = omega arith in
    (omega (arith, numbered.0), subst (λ (k : ℕ). AreRising k (above + length (s ∷ sessions)) sessions) (sym numbered.0) (subst (λ (k : ℕ). AreRising (suc above) k sessions) last more))

pub numbered_made : (sessions : List Session) → AreNumbered 1 sessions → AreMade (0 + length sessions) sessions
numbered_made sessions numbered = made_from 0 sessions numbered

-- An entry is recorded, and nothing else is done.
module _ (read : Reading) (now : ℕ) (here other after : NodeState) (told told_after told_other : Told) (w : World) (h : IsWorldOf read now here other told told_other w) where
  pub record OnlyKept (e : Entry) : Type 0 where
    pub entries : after.registry.entries ≡ e ∷ here.registry.entries
    pub kept : KeptSessions here after
    pub config : after.config ≡ here.config
    pub shelf : told_after.shelf ≡ told.shelf
    pub traffic : told_after.traffic ≡ told.traffic

  -- what is made of the world
  pub record OnlyDesk (e : Entry) (w2 : World) : Type 0 where
    pub node : w2.a.node ≡ record w.a.node { view = recorded e w.a.node.view }
    pub up : w2.a.up ≡ w.a.up
    pub calls : w2.a.calls ≡ w.a.calls
    pub way : w2.a.way ≡ w.a.way
    pub ends : w2.a.ends ≡ w.a.ends
    pub there : w2.b ≡ w.b
    pub clock : w2.clock ≡ w.clock
    pub sessions : w2.sessions ≡ w.sessions

  pub kept_world : (e : Entry) (w2 : World) → OnlyKept e → OnlyDesk e w2 → IsWorldOf read now after other told_after told_other w2
  kept_world e w2 k d = record {
    a = record {
      node = subst (IsNodeOf read after) (sym d.node) (record {
        view = view_is (recorded e w.a.node.view) (view_of read after.config after.registry.entries).config after.registry.entries
            (ap (λ (view : NodeView). view.config) h.a.node.view ∙ sym (ap (λ c. (view_of read c after.registry.entries).config) k.config))
            (ap (λ (view : NodeView). e ∷ view.journal) h.a.node.view ∙ sym k.entries);
        sids = h.a.node.sids ∙ sym (ap (map number_of) k.kept.sessions);
        phases = λ n. h.a.node.phases n ∙ sym (ap (λ (l : List Session). phase_among l n) k.kept.sessions);
        owners = λ key. h.a.node.owners key ∙ sym (ap (λ (l : List Holding). holder_of l key) k.kept.holdings);
      });
      shelf = ap (λ (n : Node). n.shelf) d.node ∙ h.a.shelf ∙ sym k.shelf;
      up = d.up ∙ h.a.up;
      calls = d.calls ∙ h.a.calls;
      numbered = subst (AreNumbered 1) (sym k.kept.sessions) h.a.numbered;
      readers = ap length k.kept.readings ∙ h.a.readers ∙ sym (ap length k.kept.sessions);
      spoken = λ at s r is open_s reads.
          spoken_same other other s.sid.number r _ _ _ _ _ _ _ _ (ap (λ (t : Traffic). t.taken s.sid.number) k.traffic) refl (ap (λ (f : ℕ → List Message). f s.sid.number) d.way) (ap (λ (f : ℕ → Bool). f s.sid.number) d.ends) refl
          (h.a.spoken at s r (sym (ap (λ (l : List Session). slice_get l at) k.kept.sessions) ∙ is) open_s (sym (ap (λ (l : List streams.Reading). slice_get l at) k.kept.readings) ∙ reads));
    };
    b = subst (IsHalf read other after told_other told_after.traffic.given) (sym d.there) (record {
      node = h.b.node;
      shelf = h.b.shelf;
      up = h.b.up;
      calls = h.b.calls;
      numbered = h.b.numbered;
      readers = h.b.readers;
      spoken = λ at s r is open_s reads.
          spoken_same here after s.sid.number r _ _ _ _ _ _ _ _ refl (ap (λ (t : Traffic). t.given s.sid.number) k.traffic) refl refl (ap (λ (l : List Session). phase_among l s.sid.number) k.kept.sessions) (h.b.spoken at s r is open_s reads);
    });
    clock = d.clock ∙ h.clock;
    count = h.count ∙ sym (ap length k.kept.sessions);
    sessions = d.sessions ∙ h.sessions ∙ ap suc (sym (ap length k.kept.sessions));
  }

  -- nothing is recorded either
  pub record OnlySame : Type 0 where
    pub entries : after.registry.entries ≡ here.registry.entries
    pub kept : KeptSessions here after
    pub config : after.config ≡ here.config
    pub shelf : told_after.shelf ≡ told.shelf
    pub traffic : told_after.traffic ≡ told.traffic

  pub same_world : OnlySame → IsWorldOf read now after other told_after told_other w
  same_world k = record {
    a = record {
      node = record {
        view = view_is w.a.node.view (view_of read after.config after.registry.entries).config after.registry.entries
            (ap (λ (view : NodeView). view.config) h.a.node.view ∙ sym (ap (λ c. (view_of read c after.registry.entries).config) k.config))
            (ap (λ (view : NodeView). view.journal) h.a.node.view ∙ sym k.entries);
        sids = h.a.node.sids ∙ sym (ap (map number_of) k.kept.sessions);
        phases = λ n. h.a.node.phases n ∙ sym (ap (λ (l : List Session). phase_among l n) k.kept.sessions);
        owners = λ key. h.a.node.owners key ∙ sym (ap (λ (l : List Holding). holder_of l key) k.kept.holdings);
      };
      shelf = h.a.shelf ∙ sym k.shelf;
      up = h.a.up;
      calls = h.a.calls;
      numbered = subst (AreNumbered 1) (sym k.kept.sessions) h.a.numbered;
      readers = ap length k.kept.readings ∙ h.a.readers ∙ sym (ap length k.kept.sessions);
      spoken = λ at s r is open_s reads.
          spoken_same other other s.sid.number r _ _ _ _ _ _ _ _ (ap (λ (t : Traffic). t.taken s.sid.number) k.traffic) refl refl refl refl
          (h.a.spoken at s r (sym (ap (λ (l : List Session). slice_get l at) k.kept.sessions) ∙ is) open_s (sym (ap (λ (l : List streams.Reading). slice_get l at) k.kept.readings) ∙ reads));
    };
    b = record {
      node = h.b.node;
      shelf = h.b.shelf;
      up = h.b.up;
      calls = h.b.calls;
      numbered = h.b.numbered;
      readers = h.b.readers;
      spoken = λ at s r is open_s reads.
          spoken_same here after s.sid.number r _ _ _ _ _ _ _ _ refl (ap (λ (t : Traffic). t.given s.sid.number) k.traffic) refl refl (ap (λ (l : List Session). phase_among l s.sid.number) k.kept.sessions) (h.b.spoken at s r is open_s reads);
    };
    clock = h.clock;
    count = h.count ∙ sym (ap length k.kept.sessions);
    sessions = h.sessions ∙ ap suc (sym (ap length k.kept.sessions));
  }

-- A Process is placed.

record IsPlacing (effects : List Effect) : Type 0 where
  e : Entry
  is : effects ≡ Keep e ∷ []
  placed : placed_in effects ≡ Some e

placing_is : (view : NodeView) (now : ℕ) (row : Row) (found : Option Waits) → IsPlacing (call view now false row found)
placing_is view now row None = record { e = _; is = refl; placed = refl }
placing_is view now row (Some waits) = record { e = _; is = refl; placed = refl }

-- what is chosen is what the rules say, as a node's own law says
abbrev pub ChoiceIs : Type 0
ChoiceIs = (read : Reading) (state : NodeState) (node : Node) (last now : ℕ) (connected : Bool) → AreMade last state.sessions → IsNodeOf read state node
    → row_choose node now connected ≡ row_chosen (view_of read state.config state.registry.entries) now connected (next_due state.registry.entries now (busy_in state.sessions))

module _ (choice_is : ChoiceIs) (read : Reading) (now : ℕ) (here other after : NodeState) (told told_after told_other : Told) (w : World) (x : At) (h : IsWorldOf read now here other told told_other w)
    (row : Row) (due : next_due here.registry.entries now (busy_in here.sessions) ≡ Some row) where
  abbrev view : NodeView
  view = view_of read here.config here.registry.entries

  rows_are : (connected : Bool) → row_choose w.a.node w.clock connected ≡ row_chosen (view_of read here.config here.registry.entries) now connected (Some row)
  rows_are connected =
      ap (λ (moment : ℕ). row_choose w.a.node moment connected) h.clock
      ∙ choice_is read here w.a.node (0 + length here.sessions) now connected (numbered_made here.sessions h.a.numbered) h.a.node
      ∙ ap (row_chosen (view_of read here.config here.registry.entries) now connected) due

  pub choice_task : (connected : Bool) → task w (Choice connected) ≡ chosen w (row_chosen (view_of read here.config here.registry.entries) now (connected && w.b.up) (Some row))
  choice_task connected = cond-true w.a.up (task_of w (Choice connected)) (nothing w) h.a.up ∙ ap (chosen w) (rows_are (connected && w.b.up))

  pub placed_led : IsPlaced read now (placing_of (view_of read here.config here.registry.entries) now row) here.registry.entries after.registry.entries
      → KeptSessions here after → after.config ≡ here.config → told_after.shelf ≡ told.shelf → told_after.traffic ≡ told.traffic → LeadsTo x w (IsWorldOf read now after other told_after told_other)
  placed_led placed kept config shelf traffic = by_placed (subst (λ (found : Option Entry). IsPlaced read now found here.registry.entries after.registry.entries) p.placed placed) where
    p : IsPlacing (call (view_of read here.config here.registry.entries) now false row ((view_of read here.config here.registry.entries).config.partner row.snode))
    p = placing_is (view_of read here.config here.registry.entries) now row ((view_of read here.config here.registry.entries).config.partner row.snode)

    by_placed : IsPlaced read now (Some p.e) here.registry.entries after.registry.entries → LeadsTo x w (IsWorldOf read now after other told_after told_other)
    by_placed (inl entries) = record {
      last = world_after x (Choice false) w;
      leads = does_leads x w (Choice false) tt;
      so = subst (IsWorldOf read now after other told_after told_other)
          (sym (ap (λ (t : Task). world_does x t.sid t.effects t.world) (choice_task false ∙ ap (chosen w) p.is)))
          (kept_world read now here other after told told_after told_other w h p.e (world_did x w.sessions (Keep p.e) w)
          (record { entries = entries; kept = kept; config = config; shelf = shelf; traffic = traffic })
          (record { node = refl; up = refl; calls = refl; way = refl; ends = refl; there = refl; clock = refl; sessions = refl }));
    }
    by_placed (inr none) = record {
      last = w;
      leads = leads_none x w;
      so = same_world read now here other after told told_after told_other w h (record { entries = none.1; kept = kept; config = config; shelf = shelf; traffic = traffic });
    }
