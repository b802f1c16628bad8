-- The sessions of two nodes, gone over from the lowest.
use Rattle.std.proofs.Common.{◌≡◌, ◌<◌, ℕ, ◌+◌, length, take, Bool, true, false, Some, inr, refl, sym, ap, subst, ◌∙◌, arith, get_or}
use Rattle.std.specs.Prelude.{slice_get}
use Rattle.std.proofs.lemmas.Option.{slice_get-get_or}
use Rattle.cd_outside.specs.declared.sid.Sid.{Sid}
use Rattle.cd_drill.specs.declared.test_pair.Link.{Link}
use Rattle.cd_drill.specs.declared.test_pair.TestPair.{TestPair}
use Rattle.cd_plain.specs.declared.handled.Handled.TheVariants.{Idle}
use Rattle.cd_drill.specs.Linking.{choice_answer}
use Rattle.cd_drill.specs.Pairs.{is_idle, none_waits, HandledIn, HandledOne, ChoseAtA, ChoseAtB, ChoseOne}
use Rattle.cd_drill.proofs.Lists.{all_more}

abbrev no_sid : Sid
no_sid = record { number = 0 }

abbrev no_link : Link
no_link = record { at_a = no_sid; at_b = no_sid; of_a = 0; of_b = 0 }

-- the session at a place, and what was done about it
module _ (before mid after : TestPair) (at : ℕ) (there : Bool) (same : mid ≡ before) (below : at < length before.links.items)
    (done : (link : Link) → slice_get mid.links.items at ≡ Some link → HandledIn at link there mid after) where
  abbrev link_there : Link
  link_there = get_or before.links.items at no_link

  stands : slice_get before.links.items at ≡ Some link_there
  stands = slice_get-get_or before.links.items at no_link below

  done_there : HandledIn at link_there there before after
  done_there = subst (λ (m : TestPair). (link : Link) → slice_get m.links.items at ≡ Some link → HandledIn at link there m after) same done link_there stands

-- something waited in it, and nothing in those before it
pub handled_one : (before mid after : TestPair) (at : ℕ) (there : Bool) → mid ≡ before → at < length before.links.items
    → none_waits before.a before.b (take at before.links.items) ≡ true
    → ((link : Link) → slice_get mid.links.items at ≡ Some link → HandledIn at link there mid after)
    → there ≡ true → HandledOne before after
handled_one before mid after at there same below first done is = record {
  at = at;
  link = link_there before mid after at there same below done;
  stands = stands before mid after at there same below done;
  first = first;
  handled = subst (λ (t : Bool). HandledIn at (link_there before mid after at there same below done) t before after) is (done_there before mid after at there same below done);
}

-- nothing waited in it
pub none_there : (before mid after : TestPair) (at : ℕ) (there : Bool) → mid ≡ before → at < length before.links.items
    → ((link : Link) → slice_get mid.links.items at ≡ Some link → HandledIn at link there mid after)
    → there ≡ false → after ≡ before
none_there before mid after at there same below done is =
    (subst (λ (t : Bool). HandledIn at (link_there before mid after at there same below done) t before after) is (done_there before mid after at there same below done)).1

pub none_below : (before mid after : TestPair) (at : ℕ) (there : Bool) → mid ≡ before → at < length before.links.items
    → none_waits before.a before.b (take at before.links.items) ≡ true
    → ((link : Link) → slice_get mid.links.items at ≡ Some link → HandledIn at link there mid after)
    → there ≡ false → none_waits before.a before.b (take (at + 1) before.links.items) ≡ true
none_below before mid after at there same below first done is =
    all_more (is_idle before.a before.b) before.links.items at (link_there before mid after at there same below done) (stands before mid after at there same below done) first
    (subst (λ (t : Bool). HandledIn at (link_there before mid after at there same below done) t before after) is (done_there before mid after at there same below done)).0

-- A had nothing to choose, and then B had, or had nothing either
pub chose_behind : (before between after : TestPair) (there : Bool) → ChoseAtA Idle before between → ChoseAtB (choice_answer there) between after → ChoseOne there before after
chose_behind before between after true idle chose = inr (record { between = between; idle = idle; chose = chose })
chose_behind before between after false idle chose = record { between = between; idle = idle; still = chose }
