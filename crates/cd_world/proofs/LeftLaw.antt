-- After every list of events the files hold what is settled, and what is settled is what the notes leave.
use Rattle.std.proofs.Common.{◌≡◌, ℕ, ◌+◌, Bool, true, false, cond, ◌&&◌, List, [], ◌∷◌, length, take, Option, Some, None, inl, inr, refl, sym, ◌∙◌, ap, subst}
use Rattle.std.specs.Str.{bytes_eq}
use Rattle.std.proofs.lemmas.Bool.{cases_Bool, cond-true, cond-false}
use Rattle.std.proofs.lemmas.Slice.Eq.{bytes_eq-Decides}
use Rattle.cd_outside.specs.Disposition.{landed, dropped}
use Rattle.cd_outside.specs.Shelf as shelves
use Rattle.cd_outside.specs.Shelf.{FileMap, FileDoubt, IsFileImage}
use Rattle.cd_types.specs.declared.key.Key.{Key}
use Rattle.cd_types.specs.declared.rows.Receiving.{Receiving}
use Rattle.cd_entries.specs.declared.entry.Entry.{Entry}
use Rattle.cd_entries.specs.declared.entry.Entry.TheVariants as entry
use Rattle.cd_frames.specs.Message.{Message}
use Rattle.cd_rules.specs.Openings.{open_on}
use Rattle.cd_rules.specs.Status as status
use Rattle.cd_rules.specs.Status.{Status, mark}
use Rattle.cd_rules.proofs.StatusLaw.{status_says}
use Rattle.cd_rules.specs.Legal.{allowed, is_legal}
use Rattle.cd_rules.proofs.OpeningsLaw as openings
use Rattle.cd_protocol.specs.Closing.{key_under_way}
use Rattle.cd_protocol.specs.Node.{Effect, Keep, Touch, AskSize, AskBytes, Begin, Go, Answers}
use Rattle.cd_protocol.specs.Rows.{row_choose, row_trouble}
use Rattle.cd_world.specs.World.{At, A, B, across, Note, Half, World, seen_from, landed_by, dropped_by, landing_of, dropping_of, read_for, is_gone, world_did, world_does, Happening, Choice, Call, Frame, End, Task, nothing, opens, with_session, called, came, ended, task_of, task, world_after, world_within, effects_left, Cut, cut_off, with_shelf, world_faulted, down, world_stopped, world_started, world_lost, world_written, submission_of, world_submitted, Event, Does, Fails, Stops, Starts, Loses, Writes, Later, Submits, happens, after, ArePossible, IsFirst}
use Rattle.cd_world.specs.Holds.{journal_of, is_at, Begins, safe_reaction, IsAsSettled, Stands, AllStand, HaveFiles, left_of, AreLeft}
use Rattle.cd_world.proofs.AgreedLaw.{at_self, not_across}
use Rattle.cd_world.proofs.GrownLaw.{BothGrown, after_grown, first_sound}
use Rattle.cd_world.proofs.FilesLaw.{NotSpoiled, front_of, Held, front_length, safe_begins, safe_image, settled_image}
use Rattle.cd_world.proofs.StandsLaw.{NobodyOn, Standing}
use Rattle.cd_world.proofs.WholeLaw.{marked_enough, BothWhole, events_whole}

-- What the files hold.

module _ (a : Half) (h : Standing a) (legal : is_legal a.node.view.config.read (journal_of a) ≡ true) (name : List ℕ) (clean : NotSpoiled a name) where
  nobody : open_on (journal_of a) name ≡ None → NobodyOn a name
  nobody none key r safe is names = never r (sym none ∙ ap (open_on (journal_of a)) (sym names) ∙ (openings.open-on a.node.view.config.read (journal_of a) key r safe legal is).1) where
    never : (q : Receiving) → None ≡ Some q → ⊥
    never q is = cc

  received_stands : (r : Receiving) → open_on (journal_of a) name ≡ Some r → IsAsSettled a name (Some r) (a.node.shelf.seen name) × ((file : Option (List ℕ)) → IsFileImage (a.node.shelf.doubt name) file → IsAsSettled a name (Some r) file)
  received_stands r is =
      let found = openings.on-open a.node.view.config.read (journal_of a) name r legal is in
      let safe : ℕ = found.1.0 in
      let opens : status.status (journal_of a) r.key ≡ status.Open r safe = found.1.1 in
      let held : Held a r safe = h.held r.key r safe opens in
      let file = held.2 (subst (NotSpoiled a) (sym found.0) clean) in
      let m : mark (journal_of a) r.key ≡ safe = marked_enough (status.status (journal_of a) r.key) _ (mark (journal_of a) r.key) _ r safe (status_says (journal_of a) r.key) opens in
      let reaction : front_of a r safe ≡ safe_reaction a r = ap (front_of a r) (sym m) in
      let long : length (safe_reaction a r) ≡ r.base + mark (journal_of a) r.key = ap (λ (l : List ℕ). length l) (sym reaction) ∙ front_length a r safe file.0 held.0 ∙ ap (λ (n : ℕ). r.base + n) (sym m) in
      let told : Begins (front_of a r safe) (a.node.shelf.seen r.name) = safe_begins (front_of a r safe) (a.node.shelf.seen r.name) (a.node.shelf.doubt r.name) file.1 in (
        (subst (λ (n : List ℕ). Begins (safe_reaction a r) (a.node.shelf.seen n)) found.0 (subst (λ (front : List ℕ). Begins front (a.node.shelf.seen r.name)) reaction told), long),
        λ image left.
            let at_r : IsFileImage (a.node.shelf.doubt r.name) image = subst (λ (n : List ℕ). IsFileImage (a.node.shelf.doubt n) image) (sym found.0) left in
            (subst (λ (front : List ℕ). Begins front image) reaction (safe_image (front_of a r safe) (a.node.shelf.seen r.name) (a.node.shelf.doubt r.name) image file.1 at_r), long),
      )

  by_found : (found : Option Receiving) → open_on (journal_of a) name ≡ found → Stands a name
  by_found None is =
      let is_free = h.free name clean (nobody is) in
      record {
        told = subst (λ (f : Option Receiving). IsAsSettled a name f (a.node.shelf.seen name)) (sym is) is_free.0;
        left = λ file left. subst (λ (f : Option Receiving). IsAsSettled a name f file) (sym is) (settled_image (a.settled name) file (subst (λ (d : FileDoubt). IsFileImage d file) is_free.1 left));
      }
  by_found (Some r) is =
      let both = received_stands r is in
      record {
        told = subst (λ (f : Option Receiving). IsAsSettled a name f (a.node.shelf.seen name)) (sym is) both.0;
        left = λ file left. subst (λ (f : Option Receiving). IsAsSettled a name f file) (sym is) (both.1 file left);
      }

all_stand : (a : Half) → Standing a → is_legal a.node.view.config.read (journal_of a) ≡ true → AllStand a
all_stand a h legal = λ name clean. by_found a h legal name clean (open_on (journal_of a) name) refl

pub events_files : (w : World) (events : List Event) → IsFirst w → ArePossible w events → HaveFiles (after w events)
events_files w events first possible =
    let h : BothWhole A (after w events) = events_whole w events first possible in
    let grown : BothGrown w (after w events) = after_grown w events (first_sound w first) in
    record { a = all_stand (after w events).a h.filed.a.stands grown.a.sound.legal; b = all_stand (after w events).b h.filed.b.stands grown.b.sound.legal }

-- What the notes leave.

pub record Lefts (x : At) (here there : FileMap) (w : World) : Type 0 where
  pub a : (name : List ℕ) → w.a.settled name ≡ left_of x here w.notes name
  pub b : (name : List ℕ) → w.b.settled name ≡ left_of (across x) there w.notes name

-- what is put at a name
put_left : (x : At) (other name : List ℕ) (f : Option (List ℕ) → Option (List ℕ)) (settled left : FileMap) → ((n : List ℕ) → settled n ≡ left n)
    → shelves.put other (f (settled other)) settled name ≡ cond (is_at x x && bytes_eq other name) (f (left name)) (left name)
put_left x other name f settled left same =
    elim (cases_Bool (bytes_eq other name)) [
      | inl here ↦
          let is : (is_at x x && bytes_eq other name) ≡ true = ap (λ (b : Bool). b && bytes_eq other name) (at_self x) ∙ here in
          cond-true (bytes_eq other name) (f (settled other)) (settled name) here ∙ ap (λ (n : List ℕ). f (settled n)) ((bytes_eq-Decides other name).0 here) ∙ ap f (same name)
          ∙ sym (cond-true (is_at x x && bytes_eq other name) (f (left name)) (left name) is)
      | inr other_is ↦
          let is : (is_at x x && bytes_eq other name) ≡ false = ap (λ (b : Bool). b && bytes_eq other name) (at_self x) ∙ other_is in
          cond-false (bytes_eq other name) (f (settled other)) (settled name) other_is ∙ same name ∙ sym (cond-false (is_at x x && bytes_eq other name) (f (left name)) (left name) is)
    ]

not_there : (x : At) (other name : List ℕ) (value before : Option (List ℕ)) → before ≡ cond (is_at (across x) x && bytes_eq other name) value before
not_there x other name value before = sym (cond-false (is_at (across x) x && bytes_eq other name) value before (ap (λ (b : Bool). b && bytes_eq other name) (not_across x)))

module _ (x : At) (here there : FileMap) (sid : ℕ) where
  landing_left : (s : Status) (got : List ℕ) (settled : FileMap) (notes : List Note) → ((name : List ℕ) → settled name ≡ left_of x here notes name) → (name : List ℕ)
      → landed_by s got settled name ≡ left_of x here (landing_of x s got notes) name
  landing_left (status.Open r safe) got settled notes same name = put_left x r.name name (λ (old : Option (List ℕ)). Some (landed r.disp old got)) settled (left_of x here notes) same
  landing_left status.Fresh got settled notes same name = same name
  landing_left (status.Started tries kind) got settled notes same name = same name
  landing_left (status.Done o) got settled notes same name = same name

  dropping_left : (s : Status) (settled : FileMap) (notes : List Note) → ((name : List ℕ) → settled name ≡ left_of x here notes name) → (name : List ℕ) → dropped_by s settled name ≡ left_of x here (dropping_of x s notes) name
  dropping_left (status.Open r safe) settled notes same name = put_left x r.name name (λ (old : Option (List ℕ)). dropped r.disp old) settled (left_of x here notes) same
  dropping_left status.Fresh settled notes same name = same name
  dropping_left (status.Started tries kind) settled notes same name = same name
  dropping_left (status.Done o) settled notes same name = same name

  landing_there : (s : Status) (got : List ℕ) (notes : List Note) (name : List ℕ) → left_of (across x) there notes name ≡ left_of (across x) there (landing_of x s got notes) name
  landing_there (status.Open r safe) got notes name = not_there x r.name name _ _
  landing_there status.Fresh got notes name = refl
  landing_there (status.Started tries kind) got notes name = refl
  landing_there (status.Done o) got notes name = refl

  dropping_there : (s : Status) (notes : List Note) (name : List ℕ) → left_of (across x) there notes name ≡ left_of (across x) there (dropping_of x s notes) name
  dropping_there (status.Open r safe) notes name = not_there x r.name name _ _
  dropping_there status.Fresh notes name = refl
  dropping_there (status.Started tries kind) notes name = refl
  dropping_there (status.Done o) notes name = refl

  keep_left : (w : World) (e : Entry) → Lefts x here there w → Lefts x here there (world_did x sid (Keep e) w)
  keep_left w (entry.Result step o moment) h = record {
    a = landing_left (status.status (journal_of w.a) step) (w.a.received step) w.a.settled w.notes h.a;
    b = λ name. h.b name ∙ landing_there (status.status (journal_of w.a) step) (w.a.received step) w.notes name;
  }
  keep_left w (entry.Dropped step rc why moment) h = record {
    a = dropping_left (status.status (journal_of w.a) step) w.a.settled w.notes h.a;
    b = λ name. h.b name ∙ dropping_there (status.status (journal_of w.a) step) w.notes name;
  }
  keep_left w e h = record { a = h.a; b = h.b }

  read_left : (y z : At) (files : FileMap) (under : Option Key) (at : ℕ) (bytes : List ℕ) (notes : List Note) (name : List ℕ) → left_of y files notes name ≡ left_of y files (read_for z under at bytes notes) name
  read_left y z files None at bytes notes name = refl
  read_left y z files (Some step) at bytes notes name = refl

  does_left : (effects : List Effect) (w : World) → Lefts x here there w → Lefts x here there (world_does x sid effects w)
  does_left [] w h = h
  does_left (Keep e ∷ effects) w h = does_left effects (world_did x sid (Keep e) w) (keep_left w e h)
  does_left (Touch change ∷ effects) w h = does_left effects (world_did x sid (Touch change) w) (record { a = h.a; b = h.b })
  does_left (AskSize name ∷ effects) w h = does_left effects (world_did x sid (AskSize name) w) (record { a = h.a; b = h.b })
  does_left (AskBytes name at len ∷ effects) w h =
      let under : Option Key = key_under_way (w.a.node.sessions.phase sid) in
      does_left effects (world_did x sid (AskBytes name at len) w) (record { a = λ n. h.a n ∙ read_left x x here under at _ w.notes n; b = λ n. h.b n ∙ read_left (across x) x there under at _ w.notes n })
  does_left (Begin key phase ∷ effects) w h = does_left effects (world_did x sid (Begin key phase) w) (record { a = h.a; b = h.b })
  does_left (Go phase frames ∷ effects) w h = does_left effects (world_did x sid (Go phase frames) w) (record { a = h.a; b = h.b })

module _ (x : At) (here there : FileMap) (w : World) (h : Lefts x here there w) where
  chosen_left : (b : Bool) → Lefts x here there (cond b (with_session w) w)
  chosen_left true = record { a = h.a; b = h.b }
  chosen_left false = h

  called_left : (calls : List ℕ) → Lefts x here there (called w calls).world
  called_left [] = h
  called_left (sid ∷ more) = record { a = h.a; b = h.b }

  came_left : (sid : ℕ) (answers : Answers) (frames : List Message) → Lefts x here there (came w sid answers frames).world
  came_left sid answers [] = h
  came_left sid answers (m ∷ more) = record { a = h.a; b = h.b }

  ended_left : (sid : ℕ) (b : Bool) (frames : List Message) → Lefts x here there (ended w sid b frames).world
  ended_left sid true [] = h
  ended_left sid true (m ∷ frames) = h
  ended_left sid false frames = h

  unless_left : (b : Bool) (t : Task) → Lefts x here there t.world → Lefts x here there (cond b (nothing w) t).world
  unless_left true t left = h
  unless_left false t left = left

  while_left : (b : Bool) (t : Task) → Lefts x here there t.world → Lefts x here there (cond b t (nothing w)).world
  while_left true t left = left
  while_left false t left = h

  task_of_left : (happening : Happening) → Lefts x here there (task_of w happening).world
  task_of_left (Choice connected) = chosen_left (opens (row_choose w.a.node w.clock (connected && w.b.up)))
  task_of_left Call = called_left w.a.calls
  task_of_left (Frame sid answers) = unless_left (is_gone (w.a.node.sessions.phase sid)) _ (came_left sid answers (w.a.way sid))
  task_of_left (End sid) = unless_left (is_gone (w.a.node.sessions.phase sid)) _ (ended_left sid (w.a.ends sid) (w.a.way sid))

  task_left : (happening : Happening) → Lefts x here there (task w happening).world
  task_left happening = while_left w.a.up (task_of w happening) (task_of_left happening)

  within_left : (happening : Happening) (k : ℕ) → Lefts x here there (world_within x happening k w)
  within_left happening k = does_left x here there (task w happening).sid (take k (task w happening).effects) (task w happening).world (task_left happening)

  whole_left : (happening : Happening) → Lefts x here there (world_after x happening w)
  whole_left happening = does_left x here there (task w happening).sid (task w happening).effects (task w happening).world (task_left happening)

  faulted_left : (happening : Happening) (k : ℕ) (cut : Cut) → Lefts x here there (world_faulted x happening k cut w)
  faulted_left happening k cut =
      let sid : ℕ = (task w happening).sid in
      let first : World = world_within x happening k w in
      let short : World = with_shelf (cut_off cut (effects_left happening k w) first.a.node.shelf) first in
      let before = within_left happening k in
      does_left x here there sid (row_trouble short.a.node sid short.clock) short (record { a = before.a; b = before.b })

  stopped_left : (happening : Happening) (k : ℕ) (image : FileMap) (b : Bool) → Lefts x here there (cond b (down image (world_within x happening k w)) w)
  stopped_left happening k image true = let before = within_left happening k in record { a = before.a; b = before.b }
  stopped_left happening k image false = h

  started_left : (b : Bool) (up : World) → Lefts x here there up → Lefts x here there (cond b w up)
  started_left true up left = h
  started_left false up left = left

  written_left : (name bytes : List ℕ) → Lefts x here there (world_written x name bytes w)
  written_left name bytes = record {
    a = λ other. put_left x name other (λ (old : Option (List ℕ)). Some bytes) w.a.settled (left_of x here w.notes) h.a;
    b = λ other. h.b other ∙ not_there x name other (Some bytes) _;
  }

  submitted_left : (b : Bool) (new : World) → Lefts x here there new → Lefts x here there (cond b new w)
  submitted_left true new left = left
  submitted_left false new left = h

-- an event at either node
turned : (x : At) (files_a files_b : FileMap) (w : World) (f : World → World) → ((here there : FileMap) → Lefts x here there (seen_from x w) → Lefts x here there (f (seen_from x w)))
    → Lefts A files_a files_b w → Lefts A files_a files_b (seen_from x (f (seen_from x w)))
turned A files_a files_b w f step h = step files_a files_b h
turned B files_a files_b w f step h = let done = step files_b files_a (record { a = h.b; b = h.a }) in record { a = done.b; b = done.a }

happens_left : (files_a files_b : FileMap) (w : World) (event : Event) → Lefts A files_a files_b w → Lefts A files_a files_b (happens w event)
happens_left files_a files_b w (Does x happening) h = turned x files_a files_b w (world_after x happening) (λ here there h2. whole_left x here there (seen_from x w) h2 happening) h
happens_left files_a files_b w (Fails x happening k cut) h = turned x files_a files_b w (world_faulted x happening k cut) (λ here there h2. faulted_left x here there (seen_from x w) h2 happening k cut) h
happens_left files_a files_b w (Stops x happening k image) h = turned x files_a files_b w (world_stopped x happening k image) (λ here there h2. stopped_left x here there (seen_from x w) h2 happening k image (seen_from x w).a.up) h
happens_left files_a files_b w (Starts x) h = turned x files_a files_b w world_started (λ here there h2. started_left x here there (seen_from x w) h2 (seen_from x w).a.up _ (record { a = h2.a; b = h2.b })) h
happens_left files_a files_b w (Loses x sid k) h = turned x files_a files_b w (world_lost sid k) (λ here there h2. record { a = h2.a; b = h2.b }) h
happens_left files_a files_b w (Writes x name bytes) h = turned x files_a files_b w (world_written x name bytes) (λ here there h2. written_left x here there (seen_from x w) h2 name bytes) h
happens_left files_a files_b w (Later seconds) h = record { a = h.a; b = h.b }
happens_left files_a files_b w (Submits x card text) h =
    turned x files_a files_b w (world_submitted card text)
    (λ here there h2.
    let v : World = seen_from x w in
    submitted_left x here there v h2 (v.a.up && allowed v.a.node.view.config.read (journal_of v.a) (submission_of card text v)) _ (record { a = h2.a; b = h2.b })) h

after_left : (files_a files_b : FileMap) (w : World) (events : List Event) → Lefts A files_a files_b w → Lefts A files_a files_b (after w events)
after_left files_a files_b w [] h = h
after_left files_a files_b w (event ∷ events) h = after_left files_a files_b (happens w event) events (happens_left files_a files_b w event h)

pub events_left : (w : World) (events : List Event) → IsFirst w → ArePossible w events → AreLeft w (after w events)
events_left w events first possible =
    let begins : Lefts A w.a.settled w.b.settled w = record {
      a = λ name. ap (λ (notes : List Note). left_of A w.a.settled notes name) (sym first.notes);
      b = λ name. ap (λ (notes : List Note). left_of B w.b.settled notes name) (sym first.notes);
    } in
    let h : Lefts A w.a.settled w.b.settled (after w events) = after_left w.a.settled w.b.settled w events begins in
    record { a = h.a; b = h.b }
