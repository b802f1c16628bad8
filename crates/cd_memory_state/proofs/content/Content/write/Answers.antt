use Rattle.std.proofs.Common.{◌≡◌, ◌≤◌, length, refl, sym, ◌∙◌, ap, arith, length-append}
use Rattle.cd_outside.specs.Content.{overwritten}
use Rattle.cd_outside.specs.Disk.{DiskState, Write, did}
use Rattle.cd_outside.proofs.Contents.{length-overwritten}
use Rattle.cd_memory_state.specs.Record.{Held, used_by}
use Rattle.cd_memory_state.specs.declared.entry.Entry.{Entry}
use Rattle.cd_memory_state.specs.declared.entry.Kind.TheVariants.{Written}
use Rattle.cd_memory_state.proofs.Kept.{written_is_image}
use Rattle.cd_memory_state.proofs.Replay.{used_by_push, reverse_push, state_of, state_push}
use Rattle.cd_memory_state.proofs.content.Content.write.Goals as goal

grown : (c : goal.After-self-1) → state_of c.self.inside.first c.append_within.new.to.items c.push_reserved.new.self.items ≡ did (Write c.args.at c.args.bytes.now) c.args.beat (state_of c.self.inside.first c.self.inside.kept.items c.self.inside.entries.items)
grown c =
    let a = c.self.inside in
    let t = c.self.invariant in
    let entry : Entry = record { beat = c.args.beat; kind = Written c.args.at; used = length c.args.bytes.now } in
    state_push a.first a.kept.items c.args.bytes.now c.append_within.new.to.items a.entries.items c.push_reserved.new.self.items entry t.first t.used refl c.append_within.ensures.items c.push_reserved.ensures.items

pub returns-clause-state : goal.returns-clause-state
returns-clause-state c = grown c ∙ ap (λ (h : Held). did (Write c.args.at c.args.bytes.now) c.args.beat h.state) c.self.view_is

pub invariant_of-self : goal.invariant_of-self
invariant_of-self c =
    let a = c.self.inside in
    let t = c.self.invariant in
    let bytes = c.args.bytes.now in
    let e = grown c in
    let long = length-overwritten c.args.at bytes a.seen.items in
    let len_seen = ap length c.overwrite_within.ensures.items in
    let len_kept = ap length c.append_within.ensures.items in
    let room : length bytes ≤ c.args.self.now.bytes_left = c.requires.bytes in
    let left = ap (λ (h : Held). h.bytes_left) c.self.view_is in
    let seen_was = ap (λ (h : Held). length h.state.seen) c.self.view_is in
    let seen_is = ap length t.seen in
    let greatest = c.max-self-inside.ensures in
    record {
      seen = ap (λ (s : DiskState). s.seen) e ∙ ap (λ l. overwritten c.args.at bytes l) t.seen ∙ sym c.overwrite_within.ensures.items;
      base = ap (λ (s : DiskState). s.doubt.base) e ∙ t.base;
      ranges = ap (λ (s : DiskState). s.doubt.ranges) e ∙ reverse_push a.ranges.items c.push_reserved-2.new.self.items (c.args.at, length bytes) (state_of a.first a.kept.items a.entries.items).doubt.ranges t.ranges c.push_reserved-2.ensures.items;
      least = ap (λ (s : DiskState). s.doubt.least) e ∙ t.least;
      greatest = omega (arith, ap (λ (s : DiskState). s.doubt.greatest) e, t.greatest, greatest);
      seen_from = omega (arith, len_seen, long, t.seen_from);
      seen_to = omega (arith, len_seen, long, t.seen_to, greatest);
      base_from = t.base_from;
      base_to = omega (arith, t.base_to, greatest);
      first = omega (arith, len_kept, length-append a.kept.items bytes, t.first);
      used = omega (arith, ap used_by c.push_reserved.ensures.items, used_by_push a.entries.items (record { beat = c.args.beat; kind = Written c.args.at; used = length bytes }), len_kept, length-append a.kept.items bytes, t.first, t.used);
      kept_room = omega (arith, len_kept, length-append a.kept.items bytes, greatest, c.requires.place, seen_was, seen_is, t.seen_to, t.kept_room);
      seen_room = omega (arith, c.overwrite_within.ensures.room, greatest, room, left, c.requires.place, seen_was, seen_is, t.seen_to, t.seen_room);
      base_room = omega (arith, greatest, room, left, c.requires.place, seen_was, seen_is, t.seen_to, t.base_room);
    }

pub returns-clause-image : goal.returns-clause-image
returns-clause-image c now = written_is_image c.args.at c.args.bytes.now c.args.beat c.args.self.now.state _ (returns-clause-state c) c.requires.place now
