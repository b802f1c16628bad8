-- A row that a node did in one session, in the world.
use Rattle.std.proofs.Common.{◌≡◌, inl, inr, ℕ, zero, suc, ◌+◌, Bool, true, false, eqb, List, [], ◌∷◌, ◌++◌, length, map, Some, refl, sym, ◌∙◌, ap, subst, append_assoc, arith}
use Rattle.std.specs.Prelude.{slice_get, slice_set}
use Rattle.std.proofs.lemmas.Bool.{cases_Bool, cond-true, cond-false, eq-eqb, eqb-true, ne_eqb}
use Rattle.std.proofs.lemmas.List.{append-nil}
use Rattle.std.proofs.lemmas.Grind.{flat_map-append}
use Rattle.cd_entries.specs.declared.entry.Entry.{Entry}
use Rattle.cd_outside.specs.Lines.{Traffic, sent}
use Rattle.cd_frames.specs.Frame.{frame_bytes}
use Rattle.cd_frames.specs.Message.{Message}
use Rattle.cd_frames.specs.Reading as streams
use Rattle.cd_frames.specs.Run.{Run}
use Rattle.cd_frames.specs.Stream.{joined}
use Rattle.cd_rules.specs.Steps.{Reading}
use Rattle.cd_protocol.proofs.RowsLaw.{same_config}
use Rattle.cd_protocol.specs.declared.session.Phase.{Phase}
use Rattle.cd_protocol.specs.Node.{Config, NodeView, Node, Effect, does, sends}
use Rattle.cd_effects.specs.Stands.{Stands, gave, AreFrames}
use Rattle.cd_effects.proofs.Frames.{frames_both}
use Rattle.cd_exchange.specs.Sessions.{phase_among, phases_with}
use Rattle.cd_exchange.specs.declared.session.Session.{Session}
use Rattle.cd_session_rules.specs.NodeView.{view_of}
use Rattle.cd_plain.specs.Law.{IsNodeOf, number_of}
use Rattle.cd_plain.specs.NodeState.{NodeState}
use Rattle.cd_plain.specs.Turned.{Told, in_phase, others_at, spot_of}
use Rattle.cd_world.proofs.GrownLaw.{does_node, does_other, does_clock}
use Rattle.cd_world.specs.World.{At, World, is_gone, world_does}
use Rattle.cd_drill_world.proofs.EffectsDone.{Unmoved, does_unmoved, does_sids, does_elsewhere, does_here, does_there}
use Rattle.cd_drill_world.proofs.Mirrors.{Spoken, AllSpoken, IsHalf, IsWorldOf}
use Rattle.cd_drill_world.proofs.Numbered.{AreNumbered, numbered_at, numbered_set, get_set, get_other, set_length, set_numbers, phase_at, phase_set, phase_with}
use Rattle.cd_drill_world.proofs.Orderly.{orderly}

-- Frames that are given.

pub gave_taken : (sid : ℕ) (frames : List Message) (t : Traffic) → (gave sid frames t).taken ≡ t.taken
gave_taken sid [] t = refl
gave_taken sid (m ∷ frames) t = gave_taken sid frames (sent sid (frame_bytes m) t)

pub gave_elsewhere : (sid n : ℕ) → eqb sid n ≡ false → (frames : List Message) (t : Traffic) → (gave sid frames t).given n ≡ t.given n
gave_elsewhere sid n apart [] t = refl
gave_elsewhere sid n apart (m ∷ frames) t =
    gave_elsewhere sid n apart frames (sent sid (frame_bytes m) t) ∙ cond-false (eqb sid n) (t.given sid ++ frame_bytes m) (t.given n) apart

pub gave_here : (sid : ℕ) (frames : List Message) (t : Traffic) → (gave sid frames t).given sid ≡ t.given sid ++ joined frames
gave_here sid [] t = sym (append-nil (t.given sid))
gave_here sid (m ∷ frames) t =
    gave_here sid frames (sent sid (frame_bytes m) t)
    ∙ ap (λ (bytes : List ℕ). bytes ++ joined frames) (cond-true (eqb sid sid) (t.given sid ++ frame_bytes m) (t.given sid) (eq-eqb sid sid refl))
    ∙ append_assoc (t.given sid) (frame_bytes m) (joined frames)

-- the same in a session of which nothing was changed
pub spoken_same : (other other2 : NodeState) (number : ℕ) (reader : streams.Reading) (taken taken2 given given2 : List ℕ) (way way2 : List Message) (ended ended2 : Bool)
    → taken2 ≡ taken → given2 ≡ given → way2 ≡ way → ended2 ≡ ended → phase_among other2.sessions number ≡ phase_among other.sessions number
    → Spoken other number reader taken given way ended → Spoken other2 number reader taken2 given2 way2 ended2
spoken_same other other2 number reader taken taken2 given given2 way way2 ended ended2 t g y e p s = record {
  heard = s.heard;
  run = subst (λ (bytes : List ℕ). Run bytes s.heard reader) (sym t) s.run;
  all_heard = t ∙ s.all_heard;
  bytes = g ∙ s.bytes ∙ ap (λ (l : List Message). joined (s.heard ++ l)) (sym y);
  each = subst AreFrames (sym y) s.each;
  ends = λ is. ap is_gone p ∙ s.ends (sym e ∙ is);
}

pub view_is : (view : NodeView) (config : Config) (journal : List Entry) → view.config ≡ config → view.journal ≡ journal → view ≡ record { config = config; journal = journal }
view_is view config journal c j = λ i. record { config = c i; journal = j i }

-- A node did a row in its session at this place, and is another one then.
module _ (read : Reading) (now : ℕ) (here other after : NodeState) (told told_after told_other : Told) (v : World) (x : At)
    (at : ℕ) (session : Session) (phase : Phase) (reader : streams.Reading) (effects : List Effect) (heard : Traffic) where
  abbrev pub sid : ℕ
  sid = session.sid.number

  abbrev pub w2 : World
  w2 = world_does x sid effects v

  -- what stands before it, where the frame at hand is no longer on the way
  pub record IsReadyFor : Type 0 where
    pub stands : slice_get here.sessions at ≡ Some session
    pub open_before : is_gone session.phase ≡ false
    pub sessions : after.sessions ≡ slice_set here.sessions at (in_phase phase session)
    pub readings : after.readings ≡ slice_set here.readings at reader
    pub config : after.config ≡ here.config
    pub node : IsNodeOf read here v.a.node
    pub up : v.a.up ≡ true
    pub calls : v.a.calls ≡ []
    pub numbered : AreNumbered 1 here.sessions
    pub readers : length here.readings ≡ length here.sessions
    pub clock : v.clock ≡ now
    pub count : length other.sessions ≡ length here.sessions
    pub world_sessions : v.sessions ≡ suc (length here.sessions)
    pub others : (at2 : ℕ) (s : Session) (r : streams.Reading) → eqb at at2 ≡ false → slice_get here.sessions at2 ≡ Some s → is_gone s.phase ≡ false → slice_get here.readings at2 ≡ Some r
        → Spoken other s.sid.number r (told_after.traffic.taken s.sid.number) (told_other.traffic.given s.sid.number) (v.a.way s.sid.number) (v.a.ends s.sid.number)
    pub own : is_gone phase ≡ false → Spoken other sid reader (told_after.traffic.taken sid) (told_other.traffic.given sid) (v.a.way sid) (v.a.ends sid)
    pub there : IsHalf read other here told_other told.traffic.given v.b

  -- what was done
  pub record WasRow : Type 0 where
    pub orderly_row : orderly false effects ≡ true
    pub frames : AreFrames (sends effects)
    pub given : heard.given ≡ told.traffic.given
    pub traffic : told_after.traffic ≡ gave sid (sends effects) heard
    pub stands_after : Stands (Unit {0}) sid (does sid effects v.a.node) (spot_of after phase told_after)

  module _ (r : IsReadyFor) (d : WasRow) where
    last_node : w2.a.node ≡ does sid effects v.a.node
    last_node = does_node x sid effects v

    phase_last : w2.a.node.sessions.phase sid ≡ phase
    phase_last = ap (λ (n : Node). n.sessions.phase sid) last_node ∙ d.stands_after.phase

    number : sid ≡ 1 + at
    number = numbered_at 1 here.sessions at session r.numbered r.stands

    open_other : (at2 : ℕ) (s : Session) → eqb at at2 ≡ false → slice_get here.sessions at2 ≡ Some s → eqb sid s.sid.number ≡ false
    open_other at2 s apart is =
        let second = numbered_at 1 here.sessions at2 s r.numbered is in
        ne_eqb sid s.sid.number (λ same. let never : true ≡ false = sym (eq-eqb at at2 (omega (arith, number, second, same))) ∙ apart in absurd cc)

    phases_after : (n : ℕ) → phase_among after.sessions n ≡ phases_with sid phase (others_at at session here.sessions) n
    phases_after n = ap (λ (l : List Session). phase_among l n) r.sessions ∙ phase_set 1 here.sessions at session phase n r.numbered r.stands

    phases_before : (n : ℕ) → phase_among here.sessions n ≡ phases_with sid session.phase (others_at at session here.sessions) n
    phases_before n = phase_with 1 here.sessions at session n r.numbered r.stands

    phase_elsewhere : (n : ℕ) → eqb sid n ≡ false → phase_among after.sessions n ≡ phase_among here.sessions n
    phase_elsewhere n apart =
        phases_after n ∙ cond-false (eqb sid n) phase (phase_among (others_at at session here.sessions) n) apart
        ∙ sym (phases_before n ∙ cond-false (eqb sid n) session.phase (phase_among (others_at at session here.sessions) n) apart)

    phase_own : phase_among after.sessions sid ≡ phase
    phase_own = phases_after sid ∙ cond-true (eqb sid sid) phase (phase_among (others_at at session here.sessions) sid) (eq-eqb sid sid refl)

    node_phase : (n : ℕ) → w2.a.node.sessions.phase n ≡ phase_among after.sessions n
    node_phase n = elim (cases_Bool (eqb sid n)) [
      | inl same ↦
          let is : sid ≡ n = eqb-true sid n same in
          subst (λ (k : ℕ). w2.a.node.sessions.phase k ≡ phase_among after.sessions k) is (phase_last ∙ sym phase_own)
      | inr apart ↦ (does_elsewhere sid n apart x effects v).phase ∙ r.node.phases n ∙ sym (phase_elsewhere n apart)
    ]

    view_last : w2.a.node.view ≡ view_of read after.config after.registry.entries
    view_last =
        let config : (does sid effects v.a.node).view.config ≡ (view_of read after.config after.registry.entries).config =
        same_config sid effects v.a.node ∙ ap (λ (k : NodeView). k.config) r.node.view ∙ sym (ap (λ c. (view_of read c after.registry.entries).config) r.config) in
        ap (λ (n : Node). n.view) last_node ∙ view_is (does sid effects v.a.node).view (view_of read after.config after.registry.entries).config after.registry.entries config d.stands_after.journal

    node_last : IsNodeOf read after w2.a.node
    node_last = record {
      view = view_last;
      sids = ap (λ (n : Node). n.sessions.sids) last_node ∙ does_sids sid effects v.a.node ∙ r.node.sids ∙ sym (ap (map number_of) r.sessions ∙ set_numbers here.sessions at session phase r.stands);
      phases = node_phase;
      owners = λ key. ap (λ (n : Node). n.sessions.holder key) last_node ∙ d.stands_after.holder key;
    }

    moved : Unmoved v w2
    moved = does_unmoved x sid effects v

    -- what is on the way to this node
    spoken_here : AllSpoken after other told_after.traffic.taken told_other.traffic.given w2.a
    spoken_here at2 s r2 is open_s reads = elim (cases_Bool (eqb at at2)) [
      | inl same ↦
          let there : at ≡ at2 = eqb-true at at2 same in
          let at_place : slice_get after.sessions at ≡ Some s = ap (slice_get after.sessions) there ∙ is in
          let one : Some (in_phase phase session) ≡ Some s = sym (get_set here.sessions at session (in_phase phase session) r.stands) ∙ sym (ap (λ (l : List Session). slice_get l at) r.sessions) ∙ at_place in
          let s_is : in_phase phase session ≡ s = cc in
          let read_at : slice_get (slice_set here.readings at reader) at ≡ Some r2 = sym (ap (λ (l : List streams.Reading). slice_get l at) r.readings) ∙ ap (slice_get after.readings) there ∙ reads in
          let r_is : reader ≡ r2 = reader_at here.readings at reader r2 read_at in
          let open_own : is_gone phase ≡ false = ap (λ (u : Session). is_gone u.phase) s_is ∙ open_s in
          let way = does_here x sid effects v d.orderly_row (ap is_gone phase_last ∙ open_own) in
          subst (λ (u : Session). Spoken other u.sid.number r2 (told_after.traffic.taken u.sid.number) (told_other.traffic.given u.sid.number) (w2.a.way u.sid.number) (w2.a.ends u.sid.number)) s_is
          (subst (λ (q : streams.Reading). Spoken other sid q (told_after.traffic.taken sid) (told_other.traffic.given sid) (w2.a.way sid) (w2.a.ends sid)) r_is
          (spoken_same other other sid reader _ _ _ _ _ _ _ _ refl refl way.way way.ends refl (r.own open_own)))
      | inr apart ↦
          let before : slice_get here.sessions at2 ≡ Some s = sym (get_other here.sessions at at2 (in_phase phase session) apart) ∙ sym (ap (λ (l : List Session). slice_get l at2) r.sessions) ∙ is in
          let read_before : slice_get here.readings at2 ≡ Some r2 = sym (get_other here.readings at at2 reader apart) ∙ sym (ap (λ (l : List streams.Reading). slice_get l at2) r.readings) ∙ reads in
          let still = does_elsewhere sid s.sid.number (open_other at2 s apart before) x effects v in
          spoken_same other other s.sid.number r2 _ _ _ _ _ _ _ _ refl refl still.way_a still.ends_a refl (r.others at2 s r2 apart before open_s read_before)
    ]
      where
        reader_at : (xs : List streams.Reading) (k : ℕ) (y z : streams.Reading) → slice_get (slice_set xs k y) k ≡ Some z → y ≡ z
        reader_at [] k y z is = absurd cc
        reader_at (u ∷ xs) zero y z is = cc
        reader_at (u ∷ xs) (suc k) y z is = reader_at xs k y z is

    -- what is on the way to the other one
    spoken_there : AllSpoken other after told_other.traffic.taken told_after.traffic.given w2.b
    spoken_there at2 s r2 is open_s reads =
        let before = r.there.spoken at2 s r2 is open_s reads in
        elim (cases_Bool (eqb sid s.sid.number)) [
          | inl same ↦
              let n_is : sid ≡ s.sid.number = eqb-true sid s.sid.number same in
              own_there s r2 n_is (subst (λ (n : ℕ). Spoken here n r2 (told_other.traffic.taken n) (told.traffic.given n) (v.b.way n) (v.b.ends n)) (sym n_is) before)
          | inr apart ↦
              let still = does_elsewhere sid s.sid.number apart x effects v in
              let given : told_after.traffic.given s.sid.number ≡ told.traffic.given s.sid.number =
              ap (λ (t : Traffic). t.given s.sid.number) d.traffic ∙ gave_elsewhere sid s.sid.number apart (sends effects) heard ∙ ap (λ (g : ℕ → List ℕ). g s.sid.number) d.given in
              spoken_same here after s.sid.number r2 _ _ _ _ _ _ _ _ refl given still.way_b still.ends_b (phase_elsewhere s.sid.number apart) before
        ]
      where
        waits : (b : Bool) → v.b.ends sid ≡ b → (v.b.ends sid ≡ true → is_gone (phase_among here.sessions sid) ≡ true) → v.b.ends sid ≡ false
        waits true is gone =
            let closed : is_gone session.phase ≡ true = sym (ap is_gone (phase_at 1 here.sessions at session r.numbered r.stands)) ∙ gone is in
            let never : true ≡ false = sym closed ∙ r.open_before in
            absurd cc
        waits false is gone = is

        own_there : (s : Session) (r2 : streams.Reading) → sid ≡ s.sid.number → Spoken here sid r2 (told_other.traffic.taken sid) (told.traffic.given sid) (v.b.way sid) (v.b.ends sid)
            → Spoken after s.sid.number r2 (told_other.traffic.taken s.sid.number) (told_after.traffic.given s.sid.number) (w2.b.way s.sid.number) (w2.b.ends s.sid.number)
        own_there s r2 n_is before =
            let way = does_there x sid effects v d.orderly_row (waits (v.b.ends sid) refl before.ends) in
            let given : told_after.traffic.given sid ≡ told.traffic.given sid ++ joined (sends effects) =
            ap (λ (t : Traffic). t.given sid) d.traffic ∙ gave_here sid (sends effects) heard ∙ ap (λ (g : ℕ → List ℕ). g sid ++ joined (sends effects)) d.given in
            subst (λ (n : ℕ). Spoken after n r2 (told_other.traffic.taken n) (told_after.traffic.given n) (w2.b.way n) (w2.b.ends n)) n_is (record {
              heard = before.heard;
              run = before.run;
              all_heard = before.all_heard;
              bytes = given ∙ ap (λ (bytes : List ℕ). bytes ++ joined (sends effects)) before.bytes
                  ∙ sym (flat_map-append frame_bytes (before.heard ++ v.b.way sid) (sends effects))
                  ∙ ap joined (append_assoc before.heard (v.b.way sid) (sends effects) ∙ ap (λ (l : List Message). before.heard ++ l) (sym way.way));
              each = subst AreFrames (sym way.way) (frames_both (v.b.way sid) (sends effects) before.each d.frames);
              ends = λ ended. ap is_gone (phase_own ∙ sym phase_last) ∙ way.ends ended;
            })

    -- So the world behind the row is that of the nodes.
    pub row_done : IsWorldOf read now after other told_after told_other w2
    row_done = record {
      a = record {
        node = node_last;
        shelf = ap (λ (n : Node). n.shelf) last_node ∙ d.stands_after.shelf tt;
        up = moved.up_a ∙ r.up;
        calls = moved.calls_a ∙ r.calls;
        numbered = subst (AreNumbered 1) (sym r.sessions) (numbered_set 1 here.sessions at session phase r.numbered r.stands);
        readers = ap length r.readings ∙ set_length here.readings at reader ∙ r.readers ∙ sym (ap length r.sessions ∙ set_length here.sessions at (in_phase phase session));
        spoken = spoken_here;
      };
      b = record {
        node = subst (IsNodeOf read other) (sym (does_other x sid effects v)) r.there.node;
        shelf = ap (λ (n : Node). n.shelf) (does_other x sid effects v) ∙ r.there.shelf;
        up = moved.up_b ∙ r.there.up;
        calls = moved.calls_b ∙ r.there.calls;
        numbered = r.there.numbered;
        readers = r.there.readers;
        spoken = spoken_there;
      };
      clock = does_clock x sid effects v ∙ r.clock;
      count = r.count ∙ sym (ap length r.sessions ∙ set_length here.sessions at (in_phase phase session));
      sessions = moved.sessions ∙ r.world_sessions ∙ ap suc (sym (ap length r.sessions ∙ set_length here.sessions at (in_phase phase session)));
    }
