-- A turn of the two nodes of a drill, in the world.
use Rattle.std.proofs.Common.{◌≡◌, ◌⊎◌, inl, inr, ℕ, ◌+◌, Bool, true, false, cond, eqb, List, [], ◌∷◌, ◌++◌, length, ltb, Some, refl, sym, ◌∙◌, ap, subst, arith, length-append}
use Rattle.std.specs.Prelude.{slice_get, take, drop}
use Rattle.std.proofs.lemmas.Bool.{le-ltb, ltb-true, ltb-false}
use Rattle.cd_outside.specs.Lines.{Traffic}
use Rattle.cd_outside.specs.declared.sid.Sid.{Sid}
use Rattle.cd_memory.specs.MemoryLines.{last_of, traffic_of, counts_of}
use Rattle.cd_protocol.specs.declared.session.Phase.TheVariants.{Fresh}
use Rattle.cd_exchange.specs.declared.session.Session.{Session}
use Rattle.cd_plain.specs.Choice.{Accepted, MadeSession}
use Rattle.cd_plain.specs.declared.handled.Handled.{Handled}
use Rattle.cd_plain.specs.declared.handled.Handled.TheVariants as handled
use Rattle.cd_canonical.specs.Read.{canonical_reading}
use Rattle.cd_drill.specs.AtRest.{told_of, IsSame, Chose, Took}
use Rattle.cd_drill.specs.Pairs.{Turned, HandledIn, HandledAtB, HandledAtA, on_way, CameOf, with_a, with_b, FollowedBy, has_more, newest, newest_of, counts_all, AreCounted, ChoseAtA, ChoseAtB, ChoseThere, ChoseBehind, FoundNothing}
use Rattle.cd_drill.specs.declared.test_node.TestNode.{TestNode}
use Rattle.cd_drill.specs.declared.test_pair.Link.{Link}
use Rattle.cd_drill.specs.declared.test_pair.TestPair.{TestPair}
use Rattle.cd_world.specs.World.{A, B, World, seen_from}
use Rattle.cd_drill_world.proofs.Brought.{Brought}
use Rattle.cd_drill_world.proofs.ChoicesLed.{ChoiceIs}
use Rattle.cd_drill_world.proofs.HalvesLed.{AreWorld, taken_in, came_world, came_same, came_sessions, came_taken, came_passed, half_turned, half_counted, half_elsewhere, half_sessions, chose_taken, Follows, AreNewest, chose_led}
use Rattle.cd_drill_world.proofs.Led.{leads_across, seen_across}
use Rattle.cd_drill_world.proofs.Linked.{IsLinked, AreLinked, linked_at, linked_set, linked_more}
use Rattle.cd_drill_world.proofs.Numbered.{set_length, last_counted}
use Rattle.cd_drill_world.proofs.Mirrors.{LeadsTo}

-- the pair is this world, at this moment
pub record IsWorld (now : ℕ) (pair : TestPair) (w : World) : Type 0 where
  pub are : AreWorld now pair.a pair.b w
  pub moment_a : pair.a.moment ≡ now
  pub moment_b : pair.b.moment ≡ now
  pub links : AreLinked 1 (taken_in pair.a) (taken_in pair.b) pair.links.items
  pub counted : length pair.links.items ≡ length pair.a.node.sessions

-- what was led to from the other view
from_b : (now : ℕ) (a b : TestNode) (w : World) → LeadsTo B (seen_from B w) (AreWorld now b a) → LeadsTo A w (AreWorld now a b)
from_b now a b w led = record {
  last = seen_from B led.last;
  leads = leads_across (seen_from B w) led.last led.leads;
  so = seen_across canonical_reading now b.node a.node (told_of b) (told_of a) led.last led.so;
}

-- how a node is set up, and its moment
stays_same : (here after : TestNode) → after ≡ here → IsSame here after
stays_same here after is = record { config = ap (λ (half : TestNode). half.node.config) is; moment = ap (λ (half : TestNode). half.moment) is }

same_then : (here between after : TestNode) → IsSame here between → IsSame between after → IsSame here after
same_then here between after one two = record { config = two.config ∙ one.config; moment = two.moment ∙ one.moment }

-- what is on the way to a node in a session comes to it
brought_to : (from to at after : TestNode) (from_sid sid : Sid) (passed now_passed : ℕ) → from_sid.number ≡ sid.number → passed ≡ length (taken_in to sid.number) → CameOf (on_way from from_sid passed) sid passed to at now_passed
    → taken_in after sid.number ≡ take now_passed ((traffic_of from.lines).given from_sid.number)
    → Brought (on_way from from_sid passed) passed now_passed (taken_in at sid.number) (taken_in after sid.number) ((traffic_of from.lines).given sid.number)
brought_to from to at after from_sid sid passed now_passed same so_far came taken = record {
  on_way = ap (λ (n : ℕ). drop passed ((traffic_of from.lines).given n)) same;
  so_far = so_far ∙ ap (λ (f : ℕ → List ℕ). length (f sid.number)) (sym (came_taken (on_way from from_sid passed) sid passed now_passed to at came));
  came = came_passed (on_way from from_sid passed) sid passed now_passed to at came;
  all_taken = taken ∙ ap (λ (n : ℕ). take now_passed ((traffic_of from.lines).given n)) same;
}

module _ (now : ℕ) (before after : TestPair) (w : World) (h : IsWorld now before w) where
  across_world : AreWorld now before.b before.a (seen_from B w)
  across_world = seen_across canonical_reading now before.a.node before.b.node (told_of before.a) (told_of before.b) w h.are

  whole : (same_a : IsSame before.a after.a) (same_b : IsSame before.b after.b) → AreLinked 1 (taken_in after.a) (taken_in after.b) after.links.items → length after.links.items ≡ length after.a.node.sessions
      → LeadsTo A w (AreWorld now after.a after.b) → LeadsTo A w (IsWorld now after)
  whole same_a same_b links counted led = record {
    last = led.last;
    leads = led.leads;
    so = record {
      are = led.so;
      moment_a = same_a.moment ∙ h.moment_a;
      moment_b = same_b.moment ∙ h.moment_b;
      links = links;
      counted = counted;
    };
  }

  at_b : (at : ℕ) (link : Link) → slice_get before.links.items at ≡ Some link → (b : HandledAtB at link before after) → LeadsTo A w (IsWorld now after)
  at_b at link stands b =
      let linked : IsLinked (1 + at) (taken_in before.a) (taken_in before.b) link = linked_at 1 (1 + at) (taken_in before.a) (taken_in before.b) before.links.items at link refl h.links stands in
      let moment_at : b.was.at.moment ≡ now = (came_same (on_way before.a link.at_a link.of_a) link.at_b link.of_a b.passed before.b b.was.at b.was.came).moment ∙ h.moment_b in
      let ready : AreWorld now b.was.at before.a (seen_from B w) = came_world now before.b b.was.at before.a (seen_from B w) across_world (on_way before.a link.at_a link.of_a) link.at_b link.of_a b.passed b.was.came in
      let brought : Brought (on_way before.a link.at_a link.of_a) link.of_a b.passed (taken_in b.was.at link.at_b.number) (taken_in after.b link.at_b.number) ((traffic_of before.a.lines).given link.at_b.number) =
      brought_to before.a before.b b.was.at after.b link.at_a link.at_b link.of_a b.passed (linked.at_a ∙ sym linked.at_b) (linked.of_a ∙ ap (λ (n : ℕ). length (taken_in before.b n)) (sym linked.at_b)) b.was.came b.was.taken in
      let led : LeadsTo B (seen_from B w) (AreWorld now after.b before.a) =
      half_turned now b.was.at after.b before.a (seen_from B w) B (on_way before.a link.at_a link.of_a) link.at_b b.was.answer b.was.answered ready moment_at b.was.turned link.of_a b.passed brought in
      let one : IsLinked (1 + at) (taken_in before.a) (taken_in after.b) (with_a link b.passed) = record {
        at_a = linked.at_a;
        at_b = linked.at_b;
        of_a = half_counted now b.was.at after.b before.a (seen_from B w) B (on_way before.a link.at_a link.of_a) link.at_b b.was.answer b.was.answered ready moment_at b.was.turned link.of_a b.passed brought
            ∙ ap (λ (n : ℕ). length (taken_in after.b n)) linked.at_b;
        of_b = linked.of_b;
      } in
      let others : (k : ℕ) → eqb (1 + at) k ≡ false → taken_in after.b k ≡ taken_in before.b k = λ k apart.
      half_elsewhere b.was.at after.b link.at_b b.was.answer b.was.turned k (ap (λ (n : ℕ). eqb n k) linked.at_b ∙ apart)
      ∙ ap (λ (f : ℕ → List ℕ). f k) (came_taken (on_way before.a link.at_a link.of_a) link.at_b link.of_a b.passed before.b b.was.at b.was.came) in
      whole (stays_same before.a after.a b.other) (same_then before.b b.was.at after.b (came_same (on_way before.a link.at_a link.of_a) link.at_b link.of_a b.passed before.b b.was.at b.was.came) b.was.turned.same)
      (subst (λ (half : TestNode). AreLinked 1 (taken_in half) (taken_in after.b) after.links.items) (sym b.other) (subst (AreLinked 1 (taken_in before.a) (taken_in after.b)) (sym b.links)
      (linked_set (1 + at) (taken_in before.a) (taken_in before.b) (taken_in before.a) (taken_in after.b) (λ k apart. refl) others 1 before.links.items at (with_a link b.passed) refl h.links one)))
      (ap length b.links ∙ set_length before.links.items at (with_a link b.passed) ∙ h.counted ∙ sym (ap (λ (half : TestNode). length half.node.sessions) b.other))
      (subst (λ (half : TestNode). LeadsTo A w (AreWorld now half after.b)) (sym b.other) (from_b now before.a after.b w led))

  at_a : (at : ℕ) (link : Link) → slice_get before.links.items at ≡ Some link → (a : HandledAtA at link before after) → LeadsTo A w (IsWorld now after)
  at_a at link stands a =
      let linked : IsLinked (1 + at) (taken_in before.a) (taken_in before.b) link = linked_at 1 (1 + at) (taken_in before.a) (taken_in before.b) before.links.items at link refl h.links stands in
      let moment_at : a.was.at.moment ≡ now = (came_same (on_way before.b link.at_b link.of_b) link.at_a link.of_b a.passed before.a a.was.at a.was.came).moment ∙ h.moment_a in
      let ready : AreWorld now a.was.at before.b w = came_world now before.a a.was.at before.b w h.are (on_way before.b link.at_b link.of_b) link.at_a link.of_b a.passed a.was.came in
      let brought : Brought (on_way before.b link.at_b link.of_b) link.of_b a.passed (taken_in a.was.at link.at_a.number) (taken_in after.a link.at_a.number) ((traffic_of before.b.lines).given link.at_a.number) =
      brought_to before.b before.a a.was.at after.a link.at_b link.at_a link.of_b a.passed (linked.at_b ∙ sym linked.at_a) (linked.of_b ∙ ap (λ (n : ℕ). length (taken_in before.a n)) (sym linked.at_a)) a.was.came a.was.taken in
      let led : LeadsTo A w (AreWorld now after.a before.b) =
      half_turned now a.was.at after.a before.b w A (on_way before.b link.at_b link.of_b) link.at_a a.was.answer a.was.answered ready moment_at a.was.turned link.of_b a.passed brought in
      let one : IsLinked (1 + at) (taken_in after.a) (taken_in before.b) (with_b link a.passed) = record {
        at_a = linked.at_a;
        at_b = linked.at_b;
        of_a = linked.of_a;
        of_b = half_counted now a.was.at after.a before.b w A (on_way before.b link.at_b link.of_b) link.at_a a.was.answer a.was.answered ready moment_at a.was.turned link.of_b a.passed brought
            ∙ ap (λ (n : ℕ). length (taken_in after.a n)) linked.at_a;
      } in
      let others : (k : ℕ) → eqb (1 + at) k ≡ false → taken_in after.a k ≡ taken_in before.a k = λ k apart.
      half_elsewhere a.was.at after.a link.at_a a.was.answer a.was.turned k (ap (λ (n : ℕ). eqb n k) linked.at_a ∙ apart)
      ∙ ap (λ (f : ℕ → List ℕ). f k) (came_taken (on_way before.b link.at_b link.of_b) link.at_a link.of_b a.passed before.a a.was.at a.was.came) in
      whole (same_then before.a a.was.at after.a (came_same (on_way before.b link.at_b link.of_b) link.at_a link.of_b a.passed before.a a.was.at a.was.came) a.was.turned.same) (stays_same before.b after.b a.other)
      (subst (λ (half : TestNode). AreLinked 1 (taken_in after.a) (taken_in half) after.links.items) (sym a.other) (subst (AreLinked 1 (taken_in after.a) (taken_in before.b)) (sym a.links)
      (linked_set (1 + at) (taken_in before.a) (taken_in before.b) (taken_in after.a) (taken_in before.b) others (λ k apart. refl) 1 before.links.items at (with_b link a.passed) refl h.links one)))
      (ap length a.links ∙ set_length before.links.items at (with_b link a.passed) ∙ h.counted
      ∙ sym (half_sessions a.was.at after.a link.at_a a.was.answer a.was.turned ∙ came_sessions (on_way before.b link.at_b link.of_b) link.at_a link.of_b a.passed before.a a.was.at a.was.came))
      (subst (λ (half : TestNode). LeadsTo A w (AreWorld now after.a half)) (sym a.other) led)

  handled_led : (at : ℕ) (link : Link) → slice_get before.links.items at ≡ Some link → HandledIn at link true before after → LeadsTo A w (IsWorld now after)
  handled_led at link stands (inl b) = at_b at link stands b
  handled_led at link stands (inr a) = at_a at link stands a

-- the number of a session that was made by a choice
made_number : (before after : TestNode) → last_of after.lines ≡ length after.node.sessions → has_more before after ≡ true → MadeSession (last_of before.lines) (last_of after.lines) before.node after.node → last_of after.lines ≡ 1 + length before.node.sessions
made_number before after counted more (inl one) = omega (arith, counted, ap (λ (l : List Session). length l) one.opened.sessions, length-append before.node.sessions ((record { sid = record { number = last_of after.lines }; phase = one.opened.phase }) ∷ []))
made_number before after counted more (inr none) = absurd (omega (arith, ltb-true (length before.node.sessions) (length after.node.sessions) more, ap (λ (l : List Session). length l) none.sessions))

-- and of one that was taken
took_number : (before after : TestNode) → last_of after.lines ≡ length after.node.sessions → Took handled.Went before after → last_of after.lines ≡ 1 + length before.node.sessions
took_number before after counted took = by_accepted took.accepted where
  by_accepted : Accepted handled.Went (last_of before.lines) (last_of after.lines) (counts_of before.lines) (counts_of after.lines) before.node after.node → last_of after.lines ≡ 1 + length before.node.sessions
  by_accepted (inl session) = omega (arith, counted, ap (λ (l : List Session). length l) session.sessions, length-append before.node.sessions ((record { sid = record { number = last_of after.lines }; phase = Fresh }) ∷ []))
  by_accepted (inr none) = let clash : handled.Went ≡ handled.NoMore = none.answered in absurd cc

-- nothing was taken yet of the session that was made
made_none : (answer : Handled) (before after : TestNode) → Chose answer before after → has_more before after ≡ true → taken_in after ≡ taken_in before → taken_in after (last_of after.lines) ≡ []
made_none answer before after chose more same = by_made chose.made where
  by_made : MadeSession (last_of before.lines) (last_of after.lines) before.node after.node → taken_in after (last_of after.lines) ≡ []
  by_made (inl one) = ap (λ (f : ℕ → List ℕ). f (last_of after.lines)) same ∙ (chose.unused one.newer).taken
  by_made (inr none) = absurd (omega (arith, ltb-true (length before.node.sessions) (length after.node.sessions) more, ap (λ (l : List Session). length l) none.sessions))

took_none : (before after : TestNode) → Took handled.Went before after → taken_in after (last_of after.lines) ≡ []
took_none before after took = by_accepted took.accepted where
  by_accepted : Accepted handled.Went (last_of before.lines) (last_of after.lines) (counts_of before.lines) (counts_of after.lines) before.node after.node → taken_in after (last_of after.lines) ≡ []
  by_accepted (inl session) = (took.unused session.made).taken
  by_accepted (inr none) = let clash : handled.Went ≡ handled.NoMore = none.answered in absurd cc

-- a node that has no more sessions than before has as many
made_length : (before after : TestNode) → MadeSession (last_of before.lines) (last_of after.lines) before.node after.node → (more : Bool) → has_more before after ≡ more → length after.node.sessions ≡ length before.node.sessions + cond more 1 0
made_length before after (inl one) true is = omega (arith, ap (λ (l : List Session). length l) one.opened.sessions, length-append before.node.sessions ((record { sid = record { number = last_of after.lines }; phase = one.opened.phase }) ∷ []))
made_length before after (inl one) false is =
    absurd (omega (
      arith,
      ltb-false (length before.node.sessions) (length after.node.sessions) is,
      ap (λ (l : List Session). length l) one.opened.sessions,
      length-append before.node.sessions ((record { sid = record { number = last_of after.lines }; phase = one.opened.phase }) ∷ []),
    ))
made_length before after (inr none) true is = absurd (omega (arith, ltb-true (length before.node.sessions) (length after.node.sessions) is, ap (λ (l : List Session). length l) none.sessions))
made_length before after (inr none) false is = omega (arith, ap (λ (l : List Session). length l) none.sessions)

-- The newest session of both stands behind the others, where it has the next number at both.
module _ (other other_after : TestNode) (link : Link) (links links_after : List Link) (taken_a taken_b : ℕ → List ℕ) where
  followed_links : (more : Bool) → FollowedBy more other other_after (link ∷ []) links links_after → (more ≡ true → Took handled.Went other other_after → IsLinked (1 + length links) taken_a taken_b link)
      → AreLinked 1 taken_a taken_b links → AreLinked 1 taken_a taken_b links_after
  followed_links true f newest linked =
      subst (AreLinked 1 taken_a taken_b) (sym f.1) (linked_more 1 (1 + length links) taken_a taken_b links link refl linked (newest refl f.0.took))
  followed_links false f newest linked = subst (AreLinked 1 taken_a taken_b) (sym f.1) linked

  followed_length : (more : Bool) → FollowedBy more other other_after (link ∷ []) links links_after → length links_after ≡ length links + cond more 1 0
  followed_length true f = ap length f.1 ∙ length-append links (link ∷ [])
  followed_length false f = omega (arith, ap length f.1)

followed_taken : (more : Bool) (other other_after : TestNode) (new links links_after : List Link) → FollowedBy more other other_after new links links_after → taken_in other_after ≡ taken_in other
followed_taken true other other_after new links links_after f = ap (λ (t : Traffic). t.taken) f.0.took.traffic
followed_taken false other other_after new links links_after f = ap taken_in f.0

-- the newest session of the lines has the number of all, where one was made, and where one was taken
made_newest : (before after : TestNode) → MadeSession (last_of before.lines) (last_of after.lines) before.node after.node → has_more before after ≡ true → counts_all after.node.sessions ≡ true → last_of after.lines ≡ length after.node.sessions
made_newest before after (inl one) more counted = last_counted after.node.sessions before.node.sessions (record { sid = record { number = last_of after.lines }; phase = one.opened.phase }) one.opened.sessions counted
made_newest before after (inr none) more counted = absurd (omega (arith, ltb-true (length before.node.sessions) (length after.node.sessions) more, ap (λ (l : List Session). length l) none.sessions))

took_newest : (before after : TestNode) → Took handled.Went before after → counts_all after.node.sessions ≡ true → last_of after.lines ≡ length after.node.sessions
took_newest before after took counted = by_accepted took.accepted where
  by_accepted : Accepted handled.Went (last_of before.lines) (last_of after.lines) (counts_of before.lines) (counts_of after.lines) before.node after.node → last_of after.lines ≡ length after.node.sessions
  by_accepted (inl session) = last_counted after.node.sessions before.node.sessions (record { sid = record { number = last_of after.lines }; phase = Fresh }) session.sessions counted
  by_accepted (inr none) = let clash : handled.Went ≡ handled.NoMore = none.answered in absurd cc

newest_by : (answer : Handled) (before after other other_after : TestNode) (new links links_after : List Link) (more : Bool) → has_more before after ≡ more → Chose answer before after → FollowedBy more other other_after new links links_after
    → AreCounted more after other_after → AreNewest more after other_after
newest_by answer before after other other_after new links links_after true is chose f counted = (made_newest before after chose.made is counted.0, took_newest other other_after f.0.took counted.1)
newest_by answer before after other other_after new links links_after false is chose f counted = tt

counted_across : (more : Bool) (here other : TestNode) → AreCounted more here other → AreCounted more other here
counted_across true here other counted = (counted.1, counted.0)
counted_across false here other counted = tt

-- The link of a session that was begun at one node and taken at the other one.
module _ (answer : Handled) (here after other other_after : TestNode) (chose : Chose answer here after) (more : has_more here after ≡ true) (took : Took handled.Went other other_after) (count : length other.node.sessions ≡ length here.node.sessions)
    (same : taken_in after ≡ taken_in here) (counted : AreNewest true after other_after) where
  abbrev newest_number : ℕ
  newest_number = 1 + length here.node.sessions

  begun_number : last_of after.lines ≡ newest_number
  begun_number = made_number here after counted.0 more chose.made

  taken_number : last_of other_after.lines ≡ newest_number
  taken_number = omega (arith, took_number other other_after counted.1 took, count)

  begun_none : 0 ≡ length (taken_in after newest_number)
  begun_none = sym (ap (λ (n : ℕ). length (taken_in after n)) (sym begun_number) ∙ ap length (made_none answer here after chose more same))

  taken_none : 0 ≡ length (taken_in other_after newest_number)
  taken_none = sym (ap (λ (n : ℕ). length (taken_in other_after n)) (sym taken_number) ∙ ap length (took_none other other_after took))

-- A choice at A, of a pair whose nodes and devices are told so.
followed_there : (more : Bool) (other other_after : TestNode) (new links links_after : List Link) → FollowedBy more other other_after new links links_after → Follows other other_after more
followed_there true other other_after new links links_after f = f.0
followed_there false other other_after new links links_after f = f.0

followed_same : (more : Bool) (other other_after : TestNode) (new links links_after : List Link) → FollowedBy more other other_after new links links_after → IsSame other other_after
followed_same true other other_after new links links_after f = f.0.took.same
followed_same false other other_after new links links_after f = stays_same other other_after f.0

module _ (choice_is : ChoiceIs) (now : ℕ) (before after : TestPair) (w : World) (h : IsWorld now before w) where
  pub chose_at_a : (answer : Handled) → ((sid : Sid) → answer ≡ handled.Lost sid → ⊥) → ChoseAtA answer before after → LeadsTo A w (IsWorld now after)
  chose_at_a answer stays c =
      whole now before after w h c.chose.same (followed_same (has_more before.a after.a) before.b after.b _ _ _ c.followed)
      (followed_links before.b after.b (record { at_a = newest_of after.a; at_b = newest_of after.b; of_a = 0; of_b = 0 }) before.links.items after.links.items (taken_in after.a) (taken_in after.b) (has_more before.a after.a) c.followed
      one (subst (λ (f : ℕ → List ℕ). AreLinked 1 f (taken_in after.b) before.links.items) (sym same_a) (subst (λ (f : ℕ → List ℕ). AreLinked 1 (taken_in before.a) f before.links.items) (sym same_b) h.links)))
      (followed_length before.b after.b (record { at_a = newest_of after.a; at_b = newest_of after.b; of_a = 0; of_b = 0 }) before.links.items after.links.items (taken_in after.a) (taken_in after.b) (has_more before.a after.a) c.followed
      ∙ ap (λ (n : ℕ). n + cond (has_more before.a after.a) 1 0) h.counted ∙ sym (made_length before.a after.a c.chose.made (has_more before.a after.a) refl))
      (chose_led choice_is now before.a after.a before.b after.b w A h.are (record {
        moment = h.moment_a;
        counted = newest_by answer before.a after.a before.b after.b _ _ _ (has_more before.a after.a) refl c.chose c.followed c.counted;
      }) answer stays c.chose (followed_there (has_more before.a after.a) before.b after.b _ _ _ c.followed))
    where
      same_a : taken_in after.a ≡ taken_in before.a
      same_a = chose_taken answer before.a after.a stays c.chose

      same_b : taken_in after.b ≡ taken_in before.b
      same_b = followed_taken (has_more before.a after.a) before.b after.b _ _ _ c.followed

      one : has_more before.a after.a ≡ true → Took handled.Went before.b after.b → IsLinked (1 + length before.links.items) (taken_in after.a) (taken_in after.b) (record { at_a = newest_of after.a; at_b = newest_of after.b; of_a = 0; of_b = 0 })
      one more took =
          let counted : AreNewest true after.a after.b = subst (λ (b : Bool). AreNewest b after.a after.b) more (newest_by answer before.a after.a before.b after.b _ _ _ (has_more before.a after.a) refl c.chose c.followed c.counted) in
          subst (λ (n : ℕ). IsLinked (1 + n) (taken_in after.a) (taken_in after.b) (record { at_a = newest_of after.a; at_b = newest_of after.b; of_a = 0; of_b = 0 })) (sym h.counted) (record {
            at_a = begun_number answer before.a after.a before.b after.b c.chose more took h.are.count same_a counted;
            at_b = taken_number answer before.a after.a before.b after.b c.chose more took h.are.count same_a counted;
            of_a = taken_none answer before.a after.a before.b after.b c.chose more took h.are.count same_a counted;
            of_b = begun_none answer before.a after.a before.b after.b c.chose more took h.are.count same_a counted;
          })

  -- nothing was due at A: nothing was changed
  pub record IsStill : Type 0 where
    pub a : after.a ≡ before.a
    pub b : after.b ≡ before.b
    pub links : after.links.items ≡ before.links.items

  pub idle_at_a : ChoseAtA handled.Idle before after → IsStill
  idle_at_a c = by_more (has_more before.a after.a) refl c.followed where
    same_a : after.a ≡ before.a
    same_a = (c.chose.idle refl).1

    none_more : has_more before.a after.a ≡ false
    none_more = ap (λ (half : TestNode). ltb (length before.a.node.sessions) (length half.node.sessions)) same_a ∙ le-ltb (length before.a.node.sessions) (length before.a.node.sessions) (omega arith)

    by_more : (more : Bool) → has_more before.a after.a ≡ more → FollowedBy more before.b after.b (newest after.a after.b) before.links.items after.links.items → IsStill
    by_more true is f = let never : true ≡ false = sym is ∙ none_more in absurd cc
    by_more false is f = record { a = same_a; b = f.0; links = f.1 }

  pub still_world : IsStill → IsWorld now after w
  still_world s = record {
    are = subst (λ (half : TestNode). AreWorld now half after.b w) (sym s.a) (subst (λ (half : TestNode). AreWorld now before.a half w) (sym s.b) h.are);
    moment_a = ap (λ (half : TestNode). half.moment) s.a ∙ h.moment_a;
    moment_b = ap (λ (half : TestNode). half.moment) s.b ∙ h.moment_b;
    links = subst (λ (half : TestNode). AreLinked 1 (taken_in half) (taken_in after.b) after.links.items) (sym s.a)
        (subst (λ (half : TestNode). AreLinked 1 (taken_in before.a) (taken_in half) after.links.items) (sym s.b) (subst (AreLinked 1 (taken_in before.a) (taken_in before.b)) (sym s.links) h.links));
    counted = ap length s.links ∙ h.counted ∙ sym (ap (λ (half : TestNode). length half.node.sessions) s.a);
  }

module _ (choice_is : ChoiceIs) (now : ℕ) (before between after : TestPair) (w : World) (h : IsWorld now before w) where
  -- B chose, where A had nothing to choose
  pub chose_behind : (answer : Handled) → ((sid : Sid) → answer ≡ handled.Lost sid → ⊥) → ChoseAtA handled.Idle before between → ChoseAtB answer between after → LeadsTo A w (IsWorld now after)
  chose_behind answer stays idle c =
      whole now between after w at_between (followed_same (has_more between.b after.b) between.a after.a _ _ _ c.followed) c.chose.same
      (followed_links between.a after.a (record { at_a = newest_of after.a; at_b = newest_of after.b; of_a = 0; of_b = 0 }) between.links.items after.links.items (taken_in after.a) (taken_in after.b) (has_more between.b after.b) c.followed
      one (subst (λ (f : ℕ → List ℕ). AreLinked 1 f (taken_in after.b) between.links.items) (sym same_a) (subst (λ (f : ℕ → List ℕ). AreLinked 1 (taken_in between.a) f between.links.items) (sym same_b) at_between.links)))
      (followed_length between.a after.a (record { at_a = newest_of after.a; at_b = newest_of after.b; of_a = 0; of_b = 0 }) between.links.items after.links.items (taken_in after.a) (taken_in after.b) (has_more between.b after.b) c.followed
      ∙ ap (λ (n : ℕ). n + cond (has_more between.b after.b) 1 0) (at_between.counted ∙ sym at_between.are.count) ∙ sym (made_length between.b after.b c.chose.made (has_more between.b after.b) refl) ∙ sym led.so.count)
      (from_b now after.a after.b w led)
    where
      at_between : IsWorld now between w
      at_between = still_world choice_is now before between w h (idle_at_a choice_is now before between w h idle)

      newest_b : AreNewest (has_more between.b after.b) after.b after.a
      newest_b = newest_by answer between.b after.b between.a after.a _ _ _ (has_more between.b after.b) refl c.chose c.followed (counted_across (has_more between.b after.b) after.a after.b c.counted)

      led : LeadsTo B (seen_from B w) (AreWorld now after.b after.a)
      led = chose_led choice_is now between.b after.b between.a after.a (seen_from B w) B (across_world now between after w at_between) (record {
        moment = at_between.moment_b;
        counted = newest_b;
      }) answer stays c.chose (followed_there (has_more between.b after.b) between.a after.a _ _ _ c.followed)

      same_b : taken_in after.b ≡ taken_in between.b
      same_b = chose_taken answer between.b after.b stays c.chose

      same_a : taken_in after.a ≡ taken_in between.a
      same_a = followed_taken (has_more between.b after.b) between.a after.a _ _ _ c.followed

      one : has_more between.b after.b ≡ true → Took handled.Went between.a after.a → IsLinked (1 + length between.links.items) (taken_in after.a) (taken_in after.b) (record { at_a = newest_of after.a; at_b = newest_of after.b; of_a = 0; of_b = 0 })
      one more took =
          let counted : AreNewest true after.b after.a = subst (λ (b : Bool). AreNewest b after.b after.a) more newest_b in
          let count : length between.a.node.sessions ≡ length between.b.node.sessions = sym at_between.are.count in
          subst (λ (n : ℕ). IsLinked (1 + n) (taken_in after.a) (taken_in after.b) (record { at_a = newest_of after.a; at_b = newest_of after.b; of_a = 0; of_b = 0 })) (sym (at_between.counted ∙ count)) (record {
            at_a = taken_number answer between.b after.b between.a after.a c.chose more took count same_b counted;
            at_b = begun_number answer between.b after.b between.a after.a c.chose more took count same_b counted;
            of_a = begun_none answer between.b after.b between.a after.a c.chose more took count same_b counted;
            of_b = taken_none answer between.b after.b between.a after.a c.chose more took count same_b counted;
          })

-- a choice that found something, or nothing, lost no session
went_stays : (sid : Sid) → handled.Went ≡ handled.Lost sid → ⊥
went_stays sid is = absurd cc

idle_stays : (sid : Sid) → handled.Idle ≡ handled.Lost sid → ⊥
idle_stays sid is = absurd cc

-- A turn that did something.
pub turned_led : (choice_is : ChoiceIs) (now : ℕ) (before after : TestPair) (w : World) → IsWorld now before w → Turned before after → LeadsTo A w (IsWorld now after)
turned_led choice_is now before after w h (inl one) = handled_led now before after w h one.at one.link one.stands one.handled
turned_led choice_is now before after w h (inr chose) = by_one chose.1 where
  by_one : ChoseThere before after ⊎ ChoseBehind before after → LeadsTo A w (IsWorld now after)
  by_one (inl there) = chose_at_a choice_is now before after w h handled.Went went_stays there.chose
  by_one (inr behind) = chose_behind choice_is now before behind.between after w h handled.Went went_stays behind.idle behind.chose

-- A turn that found nothing to do.
pub nothing_led : (choice_is : ChoiceIs) (now : ℕ) (before after : TestPair) (w : World) → IsWorld now before w → FoundNothing before after → LeadsTo A w (IsWorld now after)
nothing_led choice_is now before after w h found =
    chose_behind choice_is now before found.1.between after w h handled.Idle idle_stays found.1.idle found.1.still
