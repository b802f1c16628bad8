-- A session begins at both nodes, in the world: one chooses and is connected, and the other one takes the call.
use Rattle.std.proofs.Common.{◌≡◌, ◌⊎◌, inl, inr, ℕ, suc, ◌+◌, ◌<◌, Bool, true, false, cond, eqb, List, [], ◌∷◌, ◌++◌, length, map, Option, Some, None, refl, sym, ◌∙◌, ap, subst, arith, length-append}
use Rattle.std.specs.Prelude.{slice_get}
use Rattle.std.proofs.lemmas.Bool.{cond-true, cond-false, eq-eqb, ne_eqb}
use Rattle.std.proofs.lemmas.List.{append-nil, map_push}
use Rattle.cd_types.specs.declared.key.Key.{Key}
use Rattle.cd_types.specs.declared.rows.Row.{Row}
use Rattle.cd_outside.specs.Lines.{Traffic, IsFresh, LineCounts}
use Rattle.cd_outside.specs.declared.sid.Sid.{Sid}
use Rattle.cd_frames.specs.Message.{Message}
use Rattle.cd_frames.specs.Reading as streams
use Rattle.cd_frames.specs.Run.{Run, made}
use Rattle.cd_frames.specs.Stream.{joined}
use Rattle.cd_rules.specs.Processes.{own_home}
use Rattle.cd_rules.specs.Queue.{Waits, next_due}
use Rattle.cd_rules.specs.Steps.{Reading}
use Rattle.cd_protocol.specs.declared.session.Phase.TheVariants.{Gone, Greet, Fresh}
use Rattle.cd_protocol.specs.Node.{NodeView, Node, Effect, Go, did, does}
use Rattle.cd_protocol.specs.Rows.{opened, hello, call, row_chosen}
use Rattle.cd_effects.specs.Stands.{Stands, AreFrames, WereDone, gave, holder_of}
use Rattle.cd_effects.specs.declared.owners.Holding.{Holding}
use Rattle.cd_exchange.specs.Sessions.{phase_among}
use Rattle.cd_exchange.specs.declared.session.Session.{Session}
use Rattle.cd_session_rules.specs.NodeView.{view_of}
use Rattle.cd_plain.specs.Choice.{TookSession, WasConnected}
use Rattle.cd_plain.specs.Chosen.{busy_in, IsCalled}
use Rattle.cd_plain.specs.Law.{IsNodeOf, number_of}
use Rattle.cd_plain.specs.NodeState.{NodeState, HasNewReader, IsUnread}
use Rattle.cd_plain.specs.Turned.{Told, spot_of}
use Rattle.cd_plain.specs.declared.handled.Handled.{Handled}
use Rattle.cd_world.specs.World.{At, B, across, Half, World, seen_from, at_session, behind_them, with_session, called, chosen, nothing, Choice, Call, Task, task_of, world_did, world_does, world_after}
use Rattle.cd_drill_world.proofs.ChoicesLed.{ChoiceIs, choice_task}
use Rattle.cd_drill_world.proofs.Led.{leads_then, leads_there, does_leads}
use Rattle.cd_drill_world.proofs.Mirrors.{Spoken, AllSpoken, IsWorldOf, Leads, LeadsTo}
use Rattle.cd_drill_world.proofs.Numbered.{AreNumbered, numbered_at, numbered_more, phase_past, phase_more, get_past, get_within, get_low}
use Rattle.cd_drill_world.proofs.TurnDone.{gave_taken, gave_elsewhere, gave_here, spoken_same, view_is}

-- A node with one session more.
module _ (read : Reading) (here after : NodeState) (s : Session) (frames : List Message) (numbered : AreNumbered 1 here.sessions) (next : s.sid.number ≡ 1 + length here.sessions)
    (sessions : after.sessions ≡ here.sessions ++ s ∷ []) where
  pub node_more : (node : Node) → IsNodeOf read here node → after.config ≡ here.config → node.view.journal ≡ after.registry.entries → ((key : Key) → node.sessions.holder key ≡ holder_of after.holdings key)
      → IsNodeOf read after (did s.sid.number (Go s.phase frames) (opened s.sid.number node))
  node_more node is config journal owners = record {
    view = view_is node.view (view_of read after.config after.registry.entries).config after.registry.entries
        (ap (λ (view : NodeView). view.config) is.view ∙ sym (ap (λ c. (view_of read c after.registry.entries).config) config)) journal;
    sids = ap (λ (l : List ℕ). l ++ s.sid.number ∷ []) is.sids ∙ sym (ap (map number_of) sessions ∙ map_push number_of here.sessions s);
    phases = λ n. ap (cond (eqb s.sid.number n) s.phase) (is.phases n) ∙ sym (ap (λ (l : List Session). phase_among l n) sessions ∙ phase_more 1 here.sessions s n numbered next);
    owners = owners;
  }

  phase_same : (n : ℕ) → eqb s.sid.number n ≡ false → phase_among after.sessions n ≡ phase_among here.sessions n
  phase_same n apart = ap (λ (l : List Session). phase_among l n) sessions ∙ phase_more 1 here.sessions s n numbered next ∙ cond-false (eqb s.sid.number n) s.phase (phase_among here.sessions n) apart

  more_numbered : AreNumbered 1 after.sessions
  more_numbered = subst (AreNumbered 1) (sym sessions) (numbered_more 1 here.sessions s numbered next)

  more_length : length after.sessions ≡ suc (length here.sessions)
  more_length = ap length sessions ∙ omega (arith, length-append here.sessions (s ∷ []))

  module _ (readers : length here.readings ≡ length here.sessions) (new : HasNewReader here.readings after.readings) where
    more_readers : length after.readings ≡ length after.sessions
    more_readers = omega (arith, ap length new.readings, length-append here.readings (new.reader ∷ []), more_length, readers)

    -- what is on the way to it
    pub spoken_more : (other other2 : NodeState) (taken taken2 given given2 : ℕ → List ℕ) (half half2 : Half)
        → ((m : ℕ) → eqb s.sid.number m ≡ false → (taken2 m ≡ taken m) × (given2 m ≡ given m) × (half2.way m ≡ half.way m) × (half2.ends m ≡ half.ends m) × (phase_among other2.sessions m ≡ phase_among other.sessions m))
        → Spoken other2 s.sid.number new.reader (taken2 s.sid.number) (given2 s.sid.number) (half2.way s.sid.number) (half2.ends s.sid.number)
        → AllSpoken here other taken given half → AllSpoken after other2 taken2 given2 half2
    spoken_more other other2 taken taken2 given given2 half half2 still newest all at t r is open_t reads =
        by_place (get_past here.sessions s at t (ap (λ (l : List Session). slice_get l at) (sym sessions) ∙ is))
      where
        by_place : (slice_get here.sessions at ≡ Some t) ⊎ ((at ≡ length here.sessions) × (s ≡ t)) → Spoken other2 t.sid.number r (taken2 t.sid.number) (given2 t.sid.number) (half2.way t.sid.number) (half2.ends t.sid.number)
        by_place (inl there) =
            let low : at < length here.sessions = get_within here.sessions at t there in
            let number : t.sid.number ≡ 1 + at = numbered_at 1 here.sessions at t numbered there in
            let apart : eqb s.sid.number t.sid.number ≡ false = ne_eqb s.sid.number t.sid.number (λ same. absurd (omega (arith, low, number, next, same))) in
            let read_at : slice_get here.readings at ≡ Some r = get_low here.readings new.reader at r (omega (arith, low, readers)) (ap (λ (l : List streams.Reading). slice_get l at) (sym new.readings) ∙ reads) in
            let same = still t.sid.number apart in
            spoken_same other other2 t.sid.number r _ _ _ _ _ _ _ _ same.0 same.1 same.2 same.3 same.4 (all at t r there open_t read_at)
        by_place (inr last) =
            let r_is : new.reader ≡ r = by_reader (get_past here.readings new.reader at r (ap (λ (l : List streams.Reading). slice_get l at) (sym new.readings) ∙ reads)) in
            subst (λ (q : streams.Reading). Spoken other2 t.sid.number q (taken2 t.sid.number) (given2 t.sid.number) (half2.way t.sid.number) (half2.ends t.sid.number)) r_is
            (subst (λ (u : Session). Spoken other2 u.sid.number new.reader (taken2 u.sid.number) (given2 u.sid.number) (half2.way u.sid.number) (half2.ends u.sid.number)) last.1 newest)
          where
            by_reader : (slice_get here.readings at ≡ Some r) ⊎ ((at ≡ length here.readings) × (new.reader ≡ r)) → new.reader ≡ r
            by_reader (inl there) = let low : at < length here.readings = get_within here.readings at r there in absurd (omega (arith, low, last.0, readers))
            by_reader (inr found) = found.1

-- nothing of a session is on the way to one that read nothing of it
unread_spoken : (other : NodeState) (number : ℕ) (reader : streams.Reading) (taken given : List ℕ) (way : List Message) (ended : Bool) → IsUnread reader → taken ≡ [] → given ≡ joined way → AreFrames way → ended ≡ false
    → Spoken other number reader taken given way ended
unread_spoken other number reader taken given way ended unread none bytes each waits = record {
  heard = [];
  run = subst (λ (bytes : List ℕ). Run bytes [] reader) (sym none) (made reader unread.place unread.rest);
  all_heard = none;
  bytes = bytes;
  each = each;
  ends = λ is. let never : true ≡ false = sym is ∙ waits in absurd cc;
}

-- the partner of the Process can be called
called_row : (view : NodeView) (now : ℕ) (row : Row) (found : Option Waits) → IsCalled found → call view now true row found ≡ Go (Greet row.number) (hello (own_home view.journal) view.config.block) ∷ []
called_row view now row None known = absurd known
called_row view now row (Some waits) known = refl

at_here : {T : Type 0} (n : ℕ) (value : T) (others : ℕ → T) → at_session n value others n ≡ value
at_here n value others = cond-true (eqb n n) value (others n) (eq-eqb n n refl)

at_other : {T : Type 0} (n m : ℕ) (value : T) (others : ℕ → T) → eqb n m ≡ false → at_session n value others m ≡ others m
at_other n m value others apart = cond-false (eqb n m) value (others m) apart

module _ (choice_is : ChoiceIs) (read : Reading) (now : ℕ) (here other after other_after : NodeState) (told told_after told_other told_other_after : Told) (w : World) (x : At) (h : IsWorldOf read now here other told told_other w)
    (row : Row) (due : next_due here.registry.entries now (busy_in here.sessions) ≡ Some row) (sid : Sid) (answer answer_there : Handled) (last_before last : ℕ) (counts counts_after : LineCounts) where
  -- a session began here, and was taken there
  pub record BeganAtBoth : Type 0 where
    pub connected : WasConnected (Unit {0}) (Unit {0}) read now row answer here after told told_after sid
    pub config : after.config ≡ here.config
    pub took : TookSession answer_there last_before last counts counts_after other other_after
    pub entries_there : other_after.registry.entries ≡ other.registry.entries
    pub holdings_there : other_after.holdings ≡ other.holdings
    pub config_there : other_after.config ≡ other.config
    pub shelf_there : told_other_after.shelf ≡ told_other.shelf
    pub traffic_there : told_other_after.traffic ≡ told_other.traffic
    pub number : sid.number ≡ w.sessions
    pub number_there : last ≡ w.sessions
    pub unused : IsFresh w.sessions told.traffic
    pub unused_there : IsFresh w.sessions told_other.traffic

  module _ (b : BeganAtBoth) where
    abbrev frames : List Message
    frames = hello (own_home here.registry.entries) here.config.block

    abbrev new_here : Session
    new_here = record { sid = record { number = w.sessions }; phase = Greet row.number }

    abbrev new_there : Session
    new_there = record { sid = record { number = w.sessions }; phase = Fresh }

    abbrev begun : World
    begun = world_did x w.sessions (Go (Greet row.number) frames) (with_session w)

    abbrev calling : World
    calling = seen_from B begun

    abbrev taken_there : World
    taken_there = world_did (across x) w.sessions (Go Fresh []) (record calling { a = record calling.a { node = opened w.sessions calling.a.node; calls = [] } })

    abbrev both : World
    both = seen_from B taken_there

    next_here : w.sessions ≡ 1 + length here.sessions
    next_here = omega (arith, h.sessions)

    next_there : w.sessions ≡ 1 + length other.sessions
    next_there = omega (arith, h.sessions, h.count)

    row_is : row_chosen (view_of read here.config here.registry.entries) now true (Some row) ≡ Go (Greet row.number) frames ∷ []
    row_is = called_row (view_of read here.config here.registry.entries) now row ((view_of read here.config here.registry.entries).config.partner row.snode) b.connected.known

    done : WereDone (Unit {0}) (Unit {0}) sid.number (Go (Greet row.number) frames ∷ []) (spot_of here Gone told) (spot_of after b.connected.phase told_after)
    done = subst (λ (effects : List Effect). WereDone (Unit {0}) (Unit {0}) sid.number effects (spot_of here Gone told) (spot_of after b.connected.phase told_after)) row_is b.connected.done

    written : AreFrames frames
    written = subst AreFrames (append-nil frames) done.frames

    stood : Stands (Unit {0}) sid.number w.a.node (spot_of here Gone told)
    stood = record {
      journal = ap (λ (view : NodeView). view.journal) h.a.node.view;
      shelf = λ told. h.a.shelf;
      phase = h.a.node.phases sid.number ∙ phase_past 1 sid.number here.sessions h.a.numbered (omega (arith, b.number, next_here));
      holder = h.a.node.owners;
    }

    stands : Stands (Unit {0}) sid.number (does sid.number (Go (Greet row.number) frames ∷ []) w.a.node) (spot_of after b.connected.phase told_after)
    stands = done.node w.a.node stood

    phase_is : b.connected.phase ≡ Greet row.number
    phase_is = sym stands.phase ∙ cond-true (eqb sid.number sid.number) (Greet row.number) (w.a.node.sessions.phase sid.number) (eq-eqb sid.number sid.number refl)

    sessions_here : after.sessions ≡ here.sessions ++ new_here ∷ []
    sessions_here = b.connected.sessions ∙ (λ i. here.sessions ++ (record { sid = record { number = b.number i }; phase = phase_is i }) ∷ [])

    sessions_there : other_after.sessions ≡ other.sessions ++ new_there ∷ []
    sessions_there = b.took.sessions ∙ (λ i. other.sessions ++ (record { sid = record { number = b.number_there i }; phase = Fresh }) ∷ [])

    traffic_is : told_after.traffic ≡ gave w.sessions (frames ++ []) told.traffic
    traffic_is = done.traffic tt ∙ ap (λ (n : ℕ). gave n (frames ++ []) told.traffic) b.number

    taken_is : told_after.traffic.taken ≡ told.traffic.taken
    taken_is = ap (λ (t : Traffic). t.taken) traffic_is ∙ gave_taken w.sessions (frames ++ []) told.traffic

    -- both sides of the world
    way_a : both.a.way w.sessions ≡ []
    way_a =
        at_here w.sessions (behind_them (begun.a.ends w.sessions) (begun.a.way w.sessions) []) begun.a.way
        ∙ ap (λ (e : Bool). behind_them e (begun.a.way w.sessions) []) (at_here w.sessions false w.a.ends)
        ∙ ap (λ (l : List Message). l ++ []) (at_here w.sessions [] w.a.way)

    way_b : both.b.way w.sessions ≡ frames
    way_b =
        at_here w.sessions (behind_them ((with_session w).b.ends w.sessions) ((with_session w).b.way w.sessions) frames) (with_session w).b.way
        ∙ ap (λ (e : Bool). behind_them e ((with_session w).b.way w.sessions) frames) (at_here w.sessions false w.b.ends)
        ∙ ap (λ (l : List Message). l ++ frames) (at_here w.sessions [] w.b.way)

    given_here : told_other_after.traffic.given w.sessions ≡ joined (both.a.way w.sessions)
    given_here = ap (λ (t : Traffic). t.given w.sessions) b.traffic_there ∙ b.unused_there.given ∙ ap joined (sym way_a)

    given_there : told_after.traffic.given w.sessions ≡ joined (both.b.way w.sessions)
    given_there =
        ap (λ (t : Traffic). t.given w.sessions) traffic_is ∙ gave_here w.sessions (frames ++ []) told.traffic
        ∙ ap (λ (bytes : List ℕ). bytes ++ joined (frames ++ [])) b.unused.given ∙ ap joined (append-nil frames ∙ sym way_b)

    world_both : IsWorldOf read now after other_after told_after told_other_after both
    world_both = record {
      a = record {
        node = node_more read here after new_here frames h.a.numbered next_here sessions_here w.a.node h.a.node b.config stands.journal stands.holder;
        shelf = stands.shelf tt;
        up = h.a.up;
        calls = h.a.calls;
        numbered = more_numbered read here after new_here frames h.a.numbered next_here sessions_here;
        readers = more_readers read here after new_here frames h.a.numbered next_here sessions_here h.a.readers b.connected.readings;
        spoken = spoken_more read here after new_here frames h.a.numbered next_here sessions_here h.a.readers b.connected.readings other other_after told.traffic.taken told_after.traffic.taken told_other.traffic.given told_other_after.traffic.given w.a both.a
            (λ m apart. (
              ap (λ (t : ℕ → List ℕ). t m) taken_is,
              ap (λ (t : Traffic). t.given m) b.traffic_there,
              at_other w.sessions m (behind_them (begun.a.ends w.sessions) (begun.a.way w.sessions) []) begun.a.way apart ∙ at_other w.sessions m [] w.a.way apart,
              at_other w.sessions m false w.a.ends apart,
              phase_same read other other_after new_there [] h.b.numbered next_there sessions_there m apart,
            ))
            (unread_spoken other_after w.sessions b.connected.readings.reader (told_after.traffic.taken w.sessions) (told_other_after.traffic.given w.sessions) (both.a.way w.sessions) (both.a.ends w.sessions) b.connected.readings.unread
            (ap (λ (t : ℕ → List ℕ). t w.sessions) taken_is ∙ b.unused.taken) given_here (subst AreFrames (sym way_a) tt) (at_here w.sessions false w.a.ends))
            h.a.spoken;
      };
      b = record {
        node = node_more read other other_after new_there [] h.b.numbered next_there sessions_there w.b.node h.b.node b.config_there
            (ap (λ (view : NodeView). view.journal) h.b.node.view ∙ sym b.entries_there) (λ key. h.b.node.owners key ∙ sym (ap (λ (l : List Holding). holder_of l key) b.holdings_there));
        shelf = h.b.shelf ∙ sym b.shelf_there;
        up = h.b.up;
        calls = refl;
        numbered = more_numbered read other other_after new_there [] h.b.numbered next_there sessions_there;
        readers = more_readers read other other_after new_there [] h.b.numbered next_there sessions_there h.b.readers b.took.readings;
        spoken = spoken_more read other other_after new_there [] h.b.numbered next_there sessions_there h.b.readers b.took.readings here after told_other.traffic.taken told_other_after.traffic.taken told.traffic.given told_after.traffic.given w.b both.b
            (λ m apart. (
              ap (λ (t : Traffic). t.taken m) b.traffic_there,
              ap (λ (t : Traffic). t.given m) traffic_is ∙ gave_elsewhere w.sessions m apart (frames ++ []) told.traffic,
              at_other w.sessions m (behind_them ((with_session w).b.ends w.sessions) ((with_session w).b.way w.sessions) frames) (with_session w).b.way apart ∙ at_other w.sessions m [] w.b.way apart,
              at_other w.sessions m false w.b.ends apart,
              phase_same read here after new_here frames h.a.numbered next_here sessions_here m apart,
            ))
            (unread_spoken after w.sessions b.took.readings.reader (told_other_after.traffic.taken w.sessions) (told_after.traffic.given w.sessions) (both.b.way w.sessions) (both.b.ends w.sessions) b.took.readings.unread
            (ap (λ (t : Traffic). t.taken w.sessions) b.traffic_there ∙ b.unused_there.taken) given_there (subst AreFrames (sym way_b) written) (at_here w.sessions false w.b.ends))
            h.b.spoken;
      };
      clock = h.clock;
      count = more_length read other other_after new_there [] h.b.numbered next_there sessions_there ∙ ap suc h.count ∙ sym (more_length read here after new_here frames h.a.numbered next_here sessions_here);
      sessions = ap suc (h.sessions ∙ sym (more_length read here after new_here frames h.a.numbered next_here sessions_here));
    }

    -- what leads there
    begun_is : world_after x (Choice true) w ≡ begun
    begun_is = ap (λ (t : Task). world_does x t.sid t.effects t.world)
        (choice_task choice_is read now here other after told told_after told_other w x h row due true
        ∙ ap (λ (up : Bool). chosen w (row_chosen (view_of read here.config here.registry.entries) now up (Some row))) h.b.up
        ∙ ap (chosen w) row_is)

    taken_so : world_after (across x) Call calling ≡ taken_there
    taken_so = ap (λ (t : Task). world_does (across x) t.sid t.effects t.world)
        (cond-true calling.a.up (task_of calling Call) (nothing calling) h.b.up ∙ ap (λ (l : List ℕ). called calling (l ++ w.sessions ∷ [])) h.b.calls)

    pub connected_led : LeadsTo x w (IsWorldOf read now after other_after told_after told_other_after)
    connected_led = record {
      last = both;
      leads = leads_then x w begun both (subst (Leads x w) begun_is (does_leads x w (Choice true) tt))
          (leads_there x begun both (subst (Leads (across x) calling) taken_so (does_leads (across x) calling Call tt)));
      so = world_both;
    }
