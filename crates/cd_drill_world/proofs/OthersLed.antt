-- A file that is put, and a Process that is submitted, in the world.
use Rattle.std.proofs.Common.{◌≡◌, ℕ, ◌+◌, true, ◌&&◌, List, ◌∷◌, Some, refl, sym, ◌∙◌, ap, subst}
use Rattle.std.specs.Prelude.{None}
use Rattle.std.proofs.lemmas.Bool.{cond-true, and_from, and_parts}
use Rattle.cd_types.specs.declared.card.Filed.{Filed}
use Rattle.cd_entries.specs.declared.entry.Entry.{Entry}
use Rattle.cd_entries.specs.declared.entry.Entry.TheVariants as entry
use Rattle.cd_outside.specs.Lines.{Traffic}
use Rattle.cd_outside.specs.Shelf as shelves
use Rattle.cd_outside.specs.Shelf.{Shelf, settled_file}
use Rattle.cd_rules.specs.Processes.{submitted, moment_of}
use Rattle.cd_rules.specs.Legal.{allowed}
use Rattle.cd_rules.specs.Steps.{Reading}
use Rattle.cd_protocol.specs.Node.{recorded}
use Rattle.cd_protocol.specs.Rows.{may_record, is_by, is_formed}
use Rattle.cd_plain.specs.NodeState.{NodeState, KeptSessions}
use Rattle.cd_plain.specs.Turned.{Told}
use Rattle.cd_world.specs.World.{At, World, world_written, submission_of, world_submitted}
use Rattle.cd_drill_world.proofs.ChoicesLed.{kept_world}
use Rattle.cd_drill_world.proofs.Led.{writes_leads, submits_leads}
use Rattle.cd_drill_world.proofs.Mirrors.{IsWorldOf, LeadsTo}
use Rattle.cd_drill_world.proofs.TurnDone.{spoken_same}

-- a shelf on which a name has these bytes, which are settled
abbrev pub put_on : List ℕ → List ℕ → Shelf → Shelf
put_on name bytes shelf = record { seen = shelves.put name (Some bytes) shelf.seen; doubt = shelves.put name (settled_file (Some bytes)) shelf.doubt }

module _ (read : Reading) (now : ℕ) (here other : NodeState) (told told_after told_other : Told) (w : World) (x : At) (h : IsWorldOf read now here other told told_other w) where
  pub put_led : (name bytes : List ℕ) → told_after.shelf ≡ put_on name bytes told.shelf → told_after.traffic ≡ told.traffic → LeadsTo x w (IsWorldOf read now here other told_after told_other)
  put_led name bytes shelf traffic = record {
    last = world_written x name bytes w;
    leads = writes_leads x w name bytes;
    so = record {
      a = record {
        node = record { view = h.a.node.view; sids = h.a.node.sids; phases = h.a.node.phases; owners = h.a.node.owners };
        shelf = ap (put_on name bytes) h.a.shelf ∙ sym shelf;
        up = h.a.up;
        calls = h.a.calls;
        numbered = h.a.numbered;
        readers = h.a.readers;
        spoken = λ at s r is open_s reads.
            spoken_same other other s.sid.number r _ _ _ _ _ _ _ _ (ap (λ (t : Traffic). t.taken s.sid.number) traffic) refl refl refl refl (h.a.spoken at s r is open_s reads);
      };
      b = record {
        node = h.b.node;
        shelf = h.b.shelf;
        up = h.b.up;
        calls = h.b.calls;
        numbered = h.b.numbered;
        readers = h.b.readers;
        spoken = λ at s r is open_s reads.
            spoken_same here here s.sid.number r _ _ _ _ _ _ _ _ refl (ap (λ (t : Traffic). t.given s.sid.number) traffic) refl refl refl (h.b.spoken at s r is open_s reads);
      };
      clock = h.clock;
      count = h.count;
      sessions = h.sessions;
    };
  }

module _ (read : Reading) (now : ℕ) (here other after : NodeState) (told told_after told_other : Told) (w : World) (x : At) (h : IsWorldOf read now here other told told_other w) (card : Filed) (text : List ℕ) where
  abbrev filing : Entry
  filing = entry.Submitted (submitted here.registry.entries + 1) now None card text

  abbrev filed : World
  filed = record w { a = record w.a { node = record w.a.node { view = recorded (submission_of card text w) w.a.node.view } } }

  same_entry : submission_of card text w ≡ filing
  same_entry = λ i. entry.Submitted (submitted (h.a.node.view i).journal + 1) (h.clock i) None card text

  may : may_record read now here.registry.entries filing ≡ true → allowed w.a.node.view.config.read w.a.node.view.journal (submission_of card text w) ≡ true
  may recorded =
      let reactions = and_parts (allowed read here.registry.entries filing && is_by now (moment_of filing)) (is_formed filing) recorded in
      let one = and_parts (allowed read here.registry.entries filing) (is_by now (moment_of filing)) reactions.0 in
      (λ i. allowed (h.a.node.view i).config.read (h.a.node.view i).journal (same_entry i)) ∙ one.0

  pub submit_led : may_record read now here.registry.entries filing ≡ true → after.registry.entries ≡ filing ∷ here.registry.entries → KeptSessions here after → after.config ≡ here.config
      → told_after.shelf ≡ told.shelf → told_after.traffic ≡ told.traffic → LeadsTo x w (IsWorldOf read now after other told_after told_other)
  submit_led recorded_may entries kept config shelf traffic = record {
    last = world_submitted card text w;
    leads = submits_leads x w card text;
    so = subst (IsWorldOf read now after other told_after told_other)
        (sym (cond-true (w.a.up && allowed w.a.node.view.config.read w.a.node.view.journal (submission_of card text w)) filed w
        (and_from w.a.up (allowed w.a.node.view.config.read w.a.node.view.journal (submission_of card text w)) h.a.up (may recorded_may))))
        (kept_world read now here other after told told_after told_other w h (submission_of card text w) filed
        (record { entries = entries ∙ ap (λ (e : Entry). e ∷ here.registry.entries) (sym same_entry); kept = kept; config = config; shelf = shelf; traffic = traffic })
        (record { node = refl; up = refl; calls = refl; way = refl; ends = refl; there = refl; clock = refl; sessions = refl }));
  }
