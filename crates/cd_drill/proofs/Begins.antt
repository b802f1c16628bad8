-- A choice with which a session begins: the last session of each node is the newest of its lines.
use Rattle.std.proofs.Common.{◌≡◌, ◌<◌, inl, inr, ◌+◌, ◌-◌, List, [], ◌∷◌, ◌++◌, length, Bool, true, false, Option, Some, sym, ap, subst, ◌∙◌, arith, length-append}
use Rattle.std.specs.Prelude.{slice_get}
use Rattle.std.proofs.Math.Seq.{get_or-append_seam}
use Rattle.std.proofs.lemmas.Bool.{lt-ltb}
use Rattle.std.proofs.lemmas.Option.{slice_get-get_or}
use Rattle.cd_memory.specs.MemoryLines.{last_of, counts_of}
use Rattle.cd_protocol.specs.declared.session.Phase.{Phase}
use Rattle.cd_protocol.specs.declared.session.Phase.TheVariants.{Fresh}
use Rattle.cd_exchange.specs.declared.session.Session.{Session}
use Rattle.cd_plain.specs.Choice as choices
use Rattle.cd_plain.specs.Choice.{MadeSession}
use Rattle.cd_plain.specs.declared.handled.Handled.{Handled}
use Rattle.cd_plain.specs.declared.handled.Handled.TheVariants.{Went, NoMore}
use Rattle.cd_drill.specs.AtRest.{Chose, Took}
use Rattle.cd_drill.specs.Linking.{link_of, last_link}
use Rattle.cd_drill.specs.Pairs.{newest_of, newest, Accepted, FollowedBy, has_more, last_in, counts_all, AreCounted, ChoseAtA, ChoseAtB}
use Rattle.cd_drill.specs.declared.test_node.TestNode.{TestNode}
use Rattle.cd_drill.specs.declared.test_pair.Link.{Link}
use Rattle.cd_drill.specs.declared.test_pair.TestPair.{TestPair}

pub last_behind : (all before : List Session) (s : Session) → all ≡ before ++ s ∷ [] → last_in all ≡ Some s
last_behind all before s is =
    let at : length (before ++ s ∷ []) - 1 ≡ length before = omega (arith, length-append before (s ∷ [])) in
    let below : length before < length (before ++ s ∷ []) = omega (arith, length-append before (s ∷ [])) in
    ap last_in is ∙ ap (slice_get (before ++ s ∷ [])) at ∙ slice_get-get_or (before ++ s ∷ []) (length before) s below ∙ ap (λ (t : Session). Some t) (get_or-append_seam before s [] s)

record IsLast (half : TestNode) : Type 0 where
  phase : Phase
  is : last_in half.node.sessions ≡ Some (record { sid = newest_of half; phase = phase })

made_last : (before after : TestNode) → MadeSession (last_of before.lines) (last_of after.lines) before.node after.node → length before.node.sessions < length after.node.sessions → IsLast after
made_last before after (inl one) more = record {
  phase = one.opened.phase;
  is = last_behind after.node.sessions before.node.sessions (record { sid = newest_of after; phase = one.opened.phase }) one.opened.sessions;
}
made_last before after (inr none) more = absurd (omega (arith, more, ap (λ (l : List Session). length l) none.sessions))

took_last : (before after : TestNode) → Took Went before after → IsLast after
took_last before after took = by_accepted took.accepted where
  by_accepted : choices.Accepted Went (last_of before.lines) (last_of after.lines) (counts_of before.lines) (counts_of after.lines) before.node after.node → IsLast after
  by_accepted (inl session) = record { phase = Fresh; is = last_behind after.node.sessions before.node.sessions (record { sid = newest_of after; phase = Fresh }) session.sessions }
  by_accepted (inr none) = let clash : Went ≡ NoMore = none.answered in absurd cc

linked_last : (a b : TestNode) → IsLast a → IsLast b → last_link a b ≡ newest a b
linked_last a b one two =
    ap (λ (o : Option Session). link_of o (last_in b.node.sessions)) one.is ∙ ap (λ (o : Option Session). link_of (Some (record { sid = newest_of a; phase = one.phase })) o) two.is

followed_so : (more : Bool) (other other_after : TestNode) (new links links_after : List Link) → more ≡ true → Accepted other other_after → links_after ≡ links ++ new → FollowedBy more other other_after new links links_after
followed_so true other other_after new links links_after is accepted linked = (accepted, linked)
followed_so false other other_after new links links_after is accepted linked = absurd cc

abbrev AreBothCounted : TestNode → TestNode → Type 0
AreBothCounted a b = (counts_all a.node.sessions ≡ true) × (counts_all b.node.sessions ≡ true)

counted_so : (more : Bool) (a b : TestNode) → more ≡ true → AreBothCounted a b → AreCounted more a b
counted_so true a b is counted = counted
counted_so false a b is counted = absurd cc

-- the nodes and the sessions of both behind a choice
module _ (before after : TestPair) (a b : TestNode) (is_a : after.a ≡ a) (is_b : after.b ≡ b) (linked : after.links.items ≡ before.links.items ++ last_link a b) (counted : AreBothCounted a b) where
  linked_after : after.links.items ≡ before.links.items ++ last_link after.a after.b
  linked_after = linked ∙ ap (λ (half : TestNode). before.links.items ++ last_link half b) (sym is_a) ∙ ap (λ (half : TestNode). before.links.items ++ last_link after.a half) (sym is_b)

  counted_after : AreBothCounted after.a after.b
  counted_after = (ap (λ (half : TestNode). counts_all half.node.sessions) is_a ∙ counted.0, ap (λ (half : TestNode). counts_all half.node.sessions) is_b ∙ counted.1)

  pub begun_at_a : (answer : Handled) → Chose answer before.a a → length before.a.node.sessions < length a.node.sessions → Accepted before.b b → ChoseAtA answer before after
  begun_at_a answer chose more accepted =
      let chose_after : Chose answer before.a after.a = subst (λ (half : TestNode). Chose answer before.a half) (sym is_a) chose in
      let more_after : length before.a.node.sessions < length after.a.node.sessions = subst (λ (half : TestNode). length before.a.node.sessions < length half.node.sessions) (sym is_a) more in
      let accepted_after : Accepted before.b after.b = subst (λ (half : TestNode). Accepted before.b half) (sym is_b) accepted in
      let test : has_more before.a after.a ≡ true = lt-ltb (length before.a.node.sessions) (length after.a.node.sessions) more_after in
      let same : last_link after.a after.b ≡ newest after.a after.b = linked_last after.a after.b (made_last before.a after.a chose_after.made more_after) (took_last before.b after.b accepted_after.took) in
      record {
        chose = chose_after;
        followed = followed_so (has_more before.a after.a) before.b after.b (newest after.a after.b) before.links.items after.links.items test accepted_after (linked_after ∙ ap (λ (l : List Link). before.links.items ++ l) same);
        counted = counted_so (has_more before.a after.a) after.a after.b test counted_after;
      }

  pub begun_at_b : (answer : Handled) → Chose answer before.b b → length before.b.node.sessions < length b.node.sessions → Accepted before.a a → ChoseAtB answer before after
  begun_at_b answer chose more accepted =
      let chose_after : Chose answer before.b after.b = subst (λ (half : TestNode). Chose answer before.b half) (sym is_b) chose in
      let more_after : length before.b.node.sessions < length after.b.node.sessions = subst (λ (half : TestNode). length before.b.node.sessions < length half.node.sessions) (sym is_b) more in
      let accepted_after : Accepted before.a after.a = subst (λ (half : TestNode). Accepted before.a half) (sym is_a) accepted in
      let test : has_more before.b after.b ≡ true = lt-ltb (length before.b.node.sessions) (length after.b.node.sessions) more_after in
      let same : last_link after.a after.b ≡ newest after.a after.b = linked_last after.a after.b (took_last before.a after.a accepted_after.took) (made_last before.b after.b chose_after.made more_after) in
      record {
        chose = chose_after;
        followed = followed_so (has_more before.b after.b) before.a after.a (newest after.a after.b) before.links.items after.links.items test accepted_after (linked_after ∙ ap (λ (l : List Link). before.links.items ++ l) same);
        counted = counted_so (has_more before.b after.b) after.a after.b test counted_after;
      }
