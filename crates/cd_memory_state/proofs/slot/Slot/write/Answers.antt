use Rattle.std.proofs.Common.{◌≡◌, Bool, true, false, List, ℕ, refl, sym, ◌∙◌, ap, arith, length}
use Rattle.std.specs.Prelude.{IsTrue, ◌||◌, reverse}
use Rattle.cd_outside.specs.Doubt.{IsImage}
use Rattle.cd_outside.specs.Disk.{Write, doubt_within}
use Rattle.cd_outside.specs.Content.{overwritten}
use Rattle.cd_memory_state.specs.Slot.{doubt_in}
use Rattle.cd_memory_state.proofs.Replay.{reverse_push}
use Rattle.cd_memory_state.proofs.Written.{write_image, same_image, made_is, made_still}
use Rattle.cd_memory_state.proofs.slot.Slot.write.Goals as goal
use Rattle.cd_memory_state.proofs.slot.Slot.write.Goals.{then-self, else-self}

image : (c : goal.After-self-3-1) → IsImage (record { base = c.reserve_to-2.new.to.items; ranges = reverse c.push_reserved.new.self.items; least = c.self.inside.least; greatest = c.max-self-inside.result }) c.write_within.new.to.items
image c =
    let a = c.self.inside in
    let old = (doubt_in a).bytes in
    same_image (doubt_within (Write c.args.at c.args.bytes.now) old) _ (overwritten c.args.at c.args.bytes.now a.seen.items) c.write_within.new.to.items
    c.reserve_to-2.ensures.items
    (sym (reverse_push c.reserve.new.self.items c.push_reserved.new.self.items (c.args.at, length c.args.bytes.now) (reverse a.ranges.items) (ap reverse (sym c.reserve.ensures.items)) c.push_reserved.ensures.items))
    refl
    (omega arith)
    (c.write_within.ensures.items ∙ ap (λ (l : List ℕ). overwritten c.args.at c.args.bytes.now l) c.reserve_to.ensures.items)
    (write_image c.args.at c.args.bytes.now old a.seen.items c.self.invariant.image)

moved : (c : goal.After-self-3-1) → IsTrue (c.if-self.self || c.self.inside.there)
moved c =
    let a = c.self.inside in
    elim c.if-self.branch [
      | then-self w ↦ ap (λ (b : Bool). b || a.there) (w.self-is ∙ w.if-self.true)
      | else-self w ↦ made_is c.if-self.self a.there a.exists w.self-is (c.self.invariant.still w.if-self.false)
    ]

still : (c : goal.After-self-3-1) → c.if-self.self ≡ false → c.self.inside.there ≡ true
still c =
    let a = c.self.inside in
    elim c.if-self.branch [
      | then-self w ↦ λ unmoved. cc
      | else-self w ↦ made_still c.if-self.self a.there a.exists w.self-is (c.self.invariant.still w.if-self.false)
    ]

pub invariant_of-self-2 : goal.invariant_of-self-2
invariant_of-self-2 c =
    let a = c.self.inside in
    let t = c.self.invariant in
    let base = ap length c.reserve_to-2.ensures.items in
    let greatest = c.max-self-inside.ensures in
    record {
      image = image c;
      missing = λ gone. cc;
      absent = λ gone. c.reserve_to-2.ensures.items ∙ t.absent gone;
      still = still c;
      base_from = omega (arith, base, t.base_from);
      base_to = omega (arith, base, t.base_to, greatest);
      seen_room = omega (arith, c.max.ensures, greatest, c.in_ok-reserve_to.ensures.room, c.write_within.ensures.room);
      base_room = omega (arith, c.max-2.ensures, greatest, c.in_ok-reserve_to-2.ensures.room);
    }

pub returns-clause-sound : goal.returns-clause-sound
returns-clause-sound c =
    let a = c.self.inside in
    let t = c.self.invariant in
    let base = ap length c.reserve_to-2.ensures.items in
    record {
      image = (moved c, image c);
      base_from = omega (arith, base, t.base_from);
      base_to = omega (arith, base, t.base_to, c.max-self-inside.ensures);
    }
