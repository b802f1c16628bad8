-- A whole course of a drill, in the world.
use Rattle.std.proofs.Common.{◌≡◌, inl, inr, ℕ, ◌+◌, leb, Bool, true, false, cond, ◌&&◌, List, [], ◌∷◌, ◌++◌, length, None, refl, sym, ◌∙◌, ap, subst, arith}
use Rattle.std.specs.Prelude.{codes, Result, Ok, Err}
use Rattle.std.specs.List.{list_all}
use Rattle.std.specs.Str.{bytes_eq}
use Rattle.std.proofs.lemmas.Bool.{false≢true}
use Rattle.cd_ast.specs.Canonical.{canonical}
use Rattle.cd_ast.specs.declared.process.Process.{Process}
use Rattle.cd_commands.specs.declared.command.Command.{Command}
use Rattle.cd_commands.specs.declared.command.Command.TheVariants as command
use Rattle.cd_entries.specs.declared.entry.Entry.{Entry}
use Rattle.cd_entries.specs.declared.entry.Entry.TheVariants as entry
use Rattle.cd_rules.specs.Processes.{submitted, live_numbers}
use Rattle.cd_submission.specs.Filing.{filed}
use Rattle.cd_rules.specs.Legal.{is_empty}
use Rattle.cd_rules.specs.Promises.{HavePriorities}
use Rattle.cd_memory.specs.MemoryFiles as files
use Rattle.cd_memory.specs.MemoryLines.{traffic_of}
use Rattle.cd_memory.specs.declared.files.MemoryFiles.{MemoryFiles}
use Rattle.cd_memory.specs.declared.lines.MemoryLines.{MemoryLines}
use Rattle.cd_protocol.specs.Node.{NodeView}
use Rattle.cd_protocol.specs.Rows.{may_record}
use Rattle.cd_outside.specs.Files.{FilesState}
use Rattle.cd_plain.specs.NodeState.{NodeState}
use Rattle.cd_canonical.specs.Read.{canonical_reading}
use Rattle.cd_drill_script.specs.Script.{Order, Text, Fill, Do, Turn}
use Rattle.cd_drill_script.specs.declared.order.Party.{Party}
use Rattle.cd_drill_script.specs.declared.order.Party.TheVariants as party
use Rattle.cd_types.specs.declared.card.Filed.{Filed}
use Rattle.cd_drill.specs.AtRest.{entries_of, told_of, WasPut, IsFresh}
use Rattle.cd_drill.specs.Course.{half_of, OtherStays, PutAt, filling, MadeTurns, none, more, EndedAt, TookTurns, Did, Ran, begun, done}
use Rattle.cd_operator.specs.Doing.{if_allowed, by_rules, added_by, with_added}
use Rattle.cd_operator.specs.Filing.{is_built, may_wait, filed_as}
use Rattle.cd_operator.specs.Wanted.{numbered_so, filed_so, at_home, wanted}
use Rattle.cd_operator.specs.declared.reply.Refused.{Refused}
use Rattle.cd_operator.specs.declared.reply.Refused.TheVariants as refused
use Rattle.cd_operator.specs.declared.reply.Reply.{Reply}
use Rattle.cd_operator.specs.declared.wanted.Recording.{Recording}
use Rattle.cd_drill.specs.Commanded.{OnlyRecords, WasDone, IsReplyTo}
use Rattle.cd_drill.specs.declared.course.Course.{Course}
use Rattle.cd_drill.specs.declared.test_node.TestNode.{TestNode}
use Rattle.cd_drill.specs.declared.test_pair.TestPair.{TestPair}
use Rattle.cd_world.proofs.GrownLaw.{events_extend}
use Rattle.cd_world.specs.Holds.{journal_of, Extend}
use Rattle.cd_world.specs.World.{At, A, B, World, seen_from, IsFirst, after}
use Rattle.cd_drill_world.proofs.BegunLed.{HasHomeAlone, world_at_first, first_world, begun_world}
use Rattle.cd_drill_world.proofs.ChoicesLed.{ChoiceIs}
use Rattle.cd_drill_world.proofs.HalvesLed.{AreWorld, taken_in}
use Rattle.cd_drill_world.proofs.Linked.{AreLinked}
use Rattle.cd_drill_world.proofs.Led.{leads_none, leads_then, leads_across, seen_across}
use Rattle.cd_drill_world.proofs.Mirrors.{IsWorldOf, LeadsTo}
use Rattle.cd_drill_world.proofs.OthersLed.{put_led, submit_led}
use Rattle.cd_drill_world.proofs.PairsLed.{IsWorld, turned_led, nothing_led}

-- A file that is put at a node.
half_put : (now : ℕ) (here after other : TestNode) (w : World) (x : At) (name bytes : List ℕ) → AreWorld now here other w → WasPut name bytes here after → LeadsTo x w (AreWorld now after other)
half_put now here after other w x name bytes h was =
    subst (λ (n : NodeState). LeadsTo x w (IsWorldOf canonical_reading now n other.node (told_of after) (told_of other))) (sym was.node)
    (put_led canonical_reading now here.node other.node (told_of here) (told_of after) (told_of other) w x h name bytes (ap (λ (s : FilesState). s.shelf) was.files.state) (ap (λ (l : MemoryLines). traffic_of l) was.lines))

-- What a command adds, where the node has a home: the next Process.
record IsFiling (now : ℕ) (entries : List Entry) (recording : Recording) : Type 0 where
  card : Filed
  process : Process
  is : recording.adds ≡ entry.Submitted (submitted entries + 1) now None card (canonical process)

abbrev Files : ℕ → List Entry → Result Recording Refused → Type 0
Files now entries (Ok recording) = IsFiling now entries recording
Files now entries (Err why) = Unit {0}

module _ (now : ℕ) (entries : List Entry) where
  numbered_files : (card : Filed) (process : Process) (full spent : Bool) → Files now entries (numbered_so now card process (cond full (Err refused.Full) (cond spent (Err refused.NumbersSpent) (Ok (submitted entries + 1)))))
  numbered_files card process true spent = tt
  numbered_files card process false true = tt
  numbered_files card process false false = record { card = card; process = process; is = refl }

  filed_files : (process : Process) (found : Result Filed Refused) → Files now entries (filed_so now entries process found)
  filed_files process (Ok card) = numbered_files card process (leb 4096 (length (live_numbers entries))) (leb 99999 (submitted entries))
  filed_files process (Err why) = tt

  home_files : (process : Process) (b : Bool) → Files now entries (cond b (Err refused.NotHome) (filed_so now entries process (filed_as process.name process.card)))
  home_files process true = tt
  home_files process false = filed_files process (filed_as process.name process.card)

  built_files : (process : Process) (b : Bool) → Files now entries (cond b (at_home now entries process) (Err refused.NotYet))
  built_files process true = home_files process (is_empty entries)
  built_files process false = tt

  naming_files : (recording : Recording) (b : Bool) → b ≡ false → Files now entries (cond b (Ok recording) (Err refused.AlreadyHome))
  naming_files recording true is = absurd cc
  naming_files recording false is = tt

  wanted_files : is_empty entries ≡ false → (c : Command) → Files now entries (wanted now entries c)
  wanted_files home (command.Init name number) = naming_files _ (is_empty entries) home
  wanted_files home (command.SubmitText process options) = built_files (filed options process) (list_all (λ s. is_built s.what) process.stmts && may_wait (filed options process).card)
  wanted_files home c = tt

-- A command that a node did.
module _ (now : ℕ) (here after other : TestNode) (w : World) (x : At) (h : AreWorld now here other w) (moment : here.moment ≡ now) where
  abbrev Led : Type 0
  Led = LeadsTo x w (AreWorld now after other)

  same_led : after ≡ here → Led
  same_led same = subst (λ (half : TestNode). LeadsTo x w (AreWorld now half other)) (sym same) (record { last = w; leads = leads_none x w; so = h })

  module _ (only : OnlyRecords here after) where
    shelf_same : (told_of after).shelf ≡ (told_of here).shelf
    shelf_same = ap (λ (m : MemoryFiles). (files.state_of m).shelf) only.files

    traffic_same : (told_of after).traffic ≡ (told_of here).traffic
    traffic_same = ap (λ (l : MemoryLines). traffic_of l) only.lines

  -- an allowed submission is recorded
  allowed_led : (recording : Recording) → IsFiling here.moment (entries_of here) recording → (b : Bool) → may_record canonical_reading here.moment (entries_of here) recording.adds ≡ b → OnlyRecords here after
      → entries_of after ≡ with_added (added_by (if_allowed b recording)) (entries_of here) → (added_by (if_allowed b recording) ≡ None → after ≡ here) → Led
  allowed_led recording files true may only recorded nothing =
      let same : recording.adds ≡ entry.Submitted (submitted (entries_of here) + 1) now None files.card (canonical files.process) = files.is ∙ (λ i. entry.Submitted (submitted (entries_of here) + 1) (moment i) None files.card (canonical files.process)) in
      submit_led canonical_reading now here.node other.node after.node (told_of here) (told_of after) (told_of other) w x h files.card (canonical files.process)
      ((λ i. may_record canonical_reading (sym moment i) (entries_of here) (sym same i)) ∙ may)
      (recorded ∙ ap (λ (e : Entry). e ∷ entries_of here) same) only.sessions only.same.config (shelf_same only) (traffic_same only)
  allowed_led recording files false may only recorded nothing = same_led (nothing refl)

  wanted_led : (found : Result Recording Refused) → Files here.moment (entries_of here) found → OnlyRecords here after
      → entries_of after ≡ with_added (added_by (by_rules here.moment (entries_of here) found)) (entries_of here) → (added_by (by_rules here.moment (entries_of here) found) ≡ None → after ≡ here) → Led
  wanted_led (Ok recording) files only recorded nothing = allowed_led recording files (may_record canonical_reading here.moment (entries_of here) recording.adds) refl only recorded nothing
  wanted_led (Err why) files only recorded nothing = same_led (nothing refl)

  done_led : is_empty (entries_of here) ≡ false → (c : Command) (answer : Reply) → WasDone c answer here after → Led
  done_led home c answer was = wanted_led (wanted here.moment (entries_of here) c) (wanted_files here.moment (entries_of here) home c) was.only was.recorded was.nothing

  reply_led : is_empty (entries_of here) ≡ false → (text : List ℕ) (answer : Reply) → IsReplyTo text answer here after → Led
  reply_led home text answer (inl d) = done_led home d.c answer d.done
  reply_led home text answer (inr r) = same_led r.same

-- the moment stays
reply_moment : (text : List ℕ) (answer : Reply) (here after : TestNode) → IsReplyTo text answer here after → after.moment ≡ here.moment
reply_moment text answer here after (inl d) = d.done.only.same.moment
reply_moment text answer here after (inr r) = ap (λ (half : TestNode). half.moment) r.same

-- no session began, and nothing was taken of any
pub record IsQuiet (before after : TestNode) : Type 0 where
  pub taken : taken_in after ≡ taken_in before
  pub sessions : length after.node.sessions ≡ length before.node.sessions

put_quiet : (name bytes : List ℕ) (before after : TestNode) → WasPut name bytes before after → IsQuiet before after
put_quiet name bytes before after was = record { taken = ap (λ (l : MemoryLines). (traffic_of l).taken) was.lines; sessions = ap (λ (n : NodeState). length n.sessions) was.node }

reply_quiet : (text : List ℕ) (answer : Reply) (before after : TestNode) → IsReplyTo text answer before after → IsQuiet before after
reply_quiet text answer before after (inl d) = record { taken = ap (λ (l : MemoryLines). (traffic_of l).taken) d.done.only.lines; sessions = ap length d.done.only.sessions.sessions }
reply_quiet text answer before after (inr r) = record { taken = ap taken_in r.same; sessions = ap (λ (half : TestNode). length half.node.sessions) r.same }

-- what a node did, while the other one stayed
module _ (now : ℕ) (before after : TestPair) (w : World) (h : IsWorld now before w) where
  pub side_led : (p : Party) → OtherStays p before after → (half_of p after).moment ≡ (half_of p before).moment → IsQuiet (half_of p before) (half_of p after)
      → ((x : At) (other : TestNode) (v : World) → AreWorld now (half_of p before) other v → (half_of p before).moment ≡ now → LeadsTo x v (AreWorld now (half_of p after) other)) → LeadsTo A w (IsWorld now after)
  side_led party.A stays moment quiet did =
      let led : LeadsTo A w (AreWorld now after.a before.b) = did A before.b w h.are h.moment_a in
      record {
        last = led.last;
        leads = led.leads;
        so = record {
          are = subst (λ (half : TestNode). AreWorld now after.a half led.last) (sym stays.0) led.so;
          moment_a = moment ∙ h.moment_a;
          moment_b = ap (λ (half : TestNode). half.moment) stays.0 ∙ h.moment_b;
          links = subst (λ (f : ℕ → List ℕ). AreLinked 1 f (taken_in after.b) after.links.items) (sym quiet.taken)
              (subst (λ (half : TestNode). AreLinked 1 (taken_in before.a) (taken_in half) after.links.items) (sym stays.0) (subst (AreLinked 1 (taken_in before.a) (taken_in before.b)) (sym (ap (λ l. l.items) stays.1)) h.links));
          counted = ap (λ l. length l.items) stays.1 ∙ h.counted ∙ sym quiet.sessions;
        };
      }
  side_led party.B stays moment quiet did =
      let led : LeadsTo B (seen_from B w) (AreWorld now after.b before.a) = did B before.a (seen_from B w) (seen_across canonical_reading now before.a.node before.b.node (told_of before.a) (told_of before.b) w h.are) h.moment_b in
      record {
        last = seen_from B led.last;
        leads = leads_across (seen_from B w) led.last led.leads;
        so = record {
          are = seen_across canonical_reading now after.b.node after.a.node (told_of after.b) (told_of after.a) led.last (subst (λ (half : TestNode). AreWorld now after.b half led.last) (sym stays.0) led.so);
          moment_a = ap (λ (half : TestNode). half.moment) stays.0 ∙ h.moment_a;
          moment_b = moment ∙ h.moment_b;
          links = subst (λ (f : ℕ → List ℕ). AreLinked 1 (taken_in after.a) f after.links.items) (sym quiet.taken)
              (subst (λ (half : TestNode). AreLinked 1 (taken_in half) (taken_in before.b) after.links.items) (sym stays.0) (subst (AreLinked 1 (taken_in before.a) (taken_in before.b)) (sym (ap (λ l. l.items) stays.1)) h.links));
          counted = ap (λ l. length l.items) stays.1 ∙ h.counted ∙ sym (ap (λ (half : TestNode). length half.node.sessions) stays.0);
        };
      }

-- the nodes have their homes alone
pub record HaveHomesAlone (w : World) : Type 0 where
  pub a : journal_of w.a ≡ entry.Home (codes "ALPHA") 1 ∷ []
  pub b : journal_of w.b ≡ entry.Home (codes "BETA") 2 ∷ []

-- from a world at its beginning events lead to one that the pair is
pub record FromFirst (now : ℕ) (pair : TestPair) : Type 0 where
  pub first : World
  pub is_first : IsFirst first
  pub homes : HaveHomesAlone first
  pub led : LeadsTo A first (IsWorld now pair)

-- each node has its home, as journals only grow
record HaveHomes (pair : TestPair) : Type 0 where
  a : is_empty (entries_of pair.a) ≡ false
  b : is_empty (entries_of pair.b) ≡ false

home_of : (p : Party) (pair : TestPair) → HaveHomes pair → is_empty (entries_of (half_of p pair)) ≡ false
home_of party.A pair homes = homes.a
home_of party.B pair homes = homes.b

not_empty : (entries : List Entry) (e : Entry) → is_empty (entries ++ e ∷ []) ≡ false
not_empty [] e = refl
not_empty (f ∷ entries) e = refl

module _ (now : ℕ) (pair : TestPair) (from : FromFirst now pair) where
  grown : Extend from.first (after from.first from.led.leads.events)
  grown = events_extend from.first [] from.led.leads.events from.is_first from.led.leads.possible

  last_is : IsWorld now pair (after from.first from.led.leads.events)
  last_is = subst (IsWorld now pair) (sym from.led.leads.is) from.led.so

  journal_a : entries_of pair.a ≡ grown.a.entries ++ entry.Home (codes "ALPHA") 1 ∷ []
  journal_a = sym (ap (λ (d : NodeView). d.journal) last_is.are.a.node.view) ∙ grown.a.is ∙ ap (λ (l : List Entry). grown.a.entries ++ l) from.homes.a

  journal_b : entries_of pair.b ≡ grown.b.entries ++ entry.Home (codes "BETA") 2 ∷ []
  journal_b = sym (ap (λ (d : NodeView). d.journal) last_is.are.b.node.view) ∙ grown.b.is ∙ ap (λ (l : List Entry). grown.b.entries ++ l) from.homes.b

  homes_of : HaveHomes pair
  homes_of = record { a = ap is_empty journal_a ∙ not_empty grown.a.entries _; b = ap is_empty journal_b ∙ not_empty grown.b.entries _ }

-- Lines.

then_led : (w : World) (P Q : World → Type 0) → LeadsTo A w P → ((v : World) → P v → LeadsTo A v Q) → LeadsTo A w Q
then_led w P Q one two =
    let more : LeadsTo A one.last Q = two one.last one.so in
    record { last = more.last; leads = leads_then A w one.last more.last one.leads more.leads; so = more.so }

then_from : (now : ℕ) (before after : TestPair) → FromFirst now before → ((v : World) → IsWorld now before v → LeadsTo A v (IsWorld now after)) → FromFirst now after
then_from now before after from step = record { first = from.first; is_first = from.is_first; homes = from.homes; led = then_led from.first (IsWorld now before) (IsWorld now after) from.led step }

put_line : (now : ℕ) (p : Party) (name bytes : List ℕ) (before after : Course) (w : World) → IsWorld now before.pair w → PutAt p name bytes before after → LeadsTo A w (IsWorld now after.pair)
put_line now p name bytes before after w h was =
    side_led now before.pair after.pair w h p was.other was.put.moment (put_quiet name bytes (half_of p before.pair) (half_of p after.pair) was.put) (λ x other v are moment. half_put now (half_of p before.pair) (half_of p after.pair) other v x name bytes are was.put)

module _ (choice_is : ChoiceIs) (now : ℕ) where
  made_from : (first : TestPair) (n : ℕ) (last : TestPair) → MadeTurns first n last → FromFirst now first → FromFirst now last
  made_from first n last none from = from
  made_from first n last (more {n = k} {before = before} {after = after} made turned) from =
      then_from now before after (made_from first k before made from) (λ v is. turned_led choice_is now before after v is turned)

  turns_line : (n : ℕ) (before after : Course) → FromFirst now before.pair → TookTurns n before after → FromFirst now after.pair
  turns_line n before after from took = by_end took.were.ended where
    made : FromFirst now took.were.last
    made = made_from before.pair took.made took.were.last took.were.turned from

    by_end : EndedAt n took.made took.were.last after.pair → FromFirst now after.pair
    by_end (inl all) = subst (FromFirst now) (sym all.1) made
    by_end (inr found) = then_from now took.were.last after.pair made (λ v is. nothing_led choice_is now took.were.last after.pair v is found.1)

  line_from : (order : Order) (before after : Course) → Did order before after → FromFirst now before.pair → FromFirst now after.pair
  line_from (Text p name bytes) before after did from = then_from now before.pair after.pair from (λ v is. put_line now p name bytes before after v is did)
  line_from (Fill p name n) before after did from = then_from now before.pair after.pair from (λ v is. put_line now p name (filling n) before after v is did)
  line_from (Do p text) before after did from = then_from now before.pair after.pair from (λ v is.
      side_led now before.pair after.pair v is p did.other (reply_moment text did.reply (half_of p before.pair) (half_of p after.pair) did.done) (reply_quiet text did.reply (half_of p before.pair) (half_of p after.pair) did.done)
      (λ x other u are moment. reply_led now (half_of p before.pair) (half_of p after.pair) other u x are moment (home_of p before.pair (homes_of now before.pair from)) text did.reply did.done))
  line_from (Turn n) before after took from = turns_line n before after from took

-- The whole course.

alone_at : (name : List ℕ) (home now : ℕ) (half : TestNode) → entries_of half ≡ entry.Home name home ∷ [] → IsFresh now half → HasHomeAlone name home half.node (told_of half)
alone_at name home now half journal fresh = record { journal = journal; sessions = fresh.sessions; readings = fresh.readings; holdings = fresh.holdings; shelf = fresh.files }

names_apart : codes "ALPHA" ≡ codes "BETA" → ⊥
names_apart same = false≢true (ap (λ (name : List ℕ). bytes_eq name (codes "ALPHA")) (sym same))

pub course_led : (choice_is : ChoiceIs) (priorities : HavePriorities canonical_reading) (orders : List Order) (course : Course) → Ran orders course → FromFirst 1709287200 course.pair
course_led choice_is priorities orders course (begun {course = first} is) =
    let new = is.pair in
    let alone_a : HasHomeAlone (codes "ALPHA") 1 first.pair.a.node (told_of first.pair.a) = alone_at (codes "ALPHA") 1 1709287200 first.pair.a new.home_a new.fresh_a in
    let alone_b : HasHomeAlone (codes "BETA") 2 first.pair.b.node (told_of first.pair.b) = alone_at (codes "BETA") 2 1709287200 first.pair.b new.home_b new.fresh_b in
    let w : World = world_at_first canonical_reading 1709287200 first.pair.a.node first.pair.b.node (told_of first.pair.a) (told_of first.pair.b) priorities in
    record {
      first = w;
      homes = record { a = alone_a.journal; b = alone_b.journal };
      is_first = first_world canonical_reading 1709287200 first.pair.a.node first.pair.b.node (told_of first.pair.a) (told_of first.pair.b) priorities (codes "ALPHA") (codes "BETA") 1 2 names_apart (λ same. absurd (omega (arith, same))) alone_a alone_b;
      led = record {
        last = w;
        leads = leads_none A w;
        so = record {
          are = begun_world canonical_reading 1709287200 first.pair.a.node first.pair.b.node (told_of first.pair.a) (told_of first.pair.b) priorities (codes "ALPHA") (codes "BETA") 1 2 alone_a alone_b;
          moment_a = new.fresh_a.at;
          moment_b = new.fresh_b.at;
          links = subst (AreLinked 1 (taken_in first.pair.a) (taken_in first.pair.b)) (sym new.links) tt;
          counted = ap length new.links ∙ sym (ap length new.fresh_a.sessions);
        };
      };
    }
course_led choice_is priorities orders course (done {order = order} {orders = earlier} {before = before} {after = after} ran did) =
    line_from choice_is 1709287200 order before after did (course_led choice_is priorities earlier before ran)
