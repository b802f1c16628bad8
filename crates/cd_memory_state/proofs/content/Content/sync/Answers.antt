use Rattle.std.proofs.Common.{◌≡◌, [], length, refl, sym, ◌∙◌, ap, arith}
use Rattle.std.proofs.lemmas.List.{append-nil}
use Rattle.cd_outside.specs.Disk.{DiskState, Sync, did}
use Rattle.cd_memory_state.specs.Record.{Held, used_by}
use Rattle.cd_memory_state.specs.declared.entry.Entry.{Entry}
use Rattle.cd_memory_state.specs.declared.entry.Kind.TheVariants.{Synced}
use Rattle.cd_memory_state.proofs.Kept.{synced_is_image}
use Rattle.cd_memory_state.proofs.Replay.{used_by_push, state_of, state_push}
use Rattle.cd_memory_state.proofs.content.Content.sync.Goals as goal
use Rattle.std.specs.Prelude.{reverse}

grown : (c : goal.After-self-2-1) → state_of c.self.inside.first c.self.inside.kept.items c.push_reserved.new.self.items ≡ did Sync c.args.beat (state_of c.self.inside.first c.self.inside.kept.items c.self.inside.entries.items)
grown c =
    let a = c.self.inside in
    let t = c.self.invariant in
    let entry : Entry = record { beat = c.args.beat; kind = Synced; used = 0 } in
    state_push a.first a.kept.items [] a.kept.items a.entries.items c.push_reserved.new.self.items entry t.first t.used refl (sym (append-nil a.kept.items)) c.push_reserved.ensures.items

pub returns-clause-state : goal.returns-clause-state
returns-clause-state c = grown c ∙ ap (λ (h : Held). did Sync c.args.beat h.state) c.self.view_is

pub invariant_of-self : goal.invariant_of-self
invariant_of-self c =
    let a = c.self.inside in
    let t = c.self.invariant in
    let e = grown c in
    let seen_is = ap length t.seen in
    let len_base = ap length c.replace_within.ensures.items in
    let read = ap length c.deref.ensures.value in
    let len = c.len-self-inside.ensures in
    let len2 = c.len-self-inside-2.ensures in
    record {
      seen = ap (λ (s : DiskState). s.seen) e ∙ t.seen;
      base = ap (λ (s : DiskState). s.doubt.base) e ∙ t.seen ∙ sym (c.replace_within.ensures.items ∙ c.deref.ensures.value);
      ranges = ap (λ (s : DiskState). s.doubt.ranges) e ∙ sym (ap reverse c.clear.ensures.items);
      least = omega (arith, ap (λ (s : DiskState). s.doubt.least) e, seen_is, len, a.seen.ok.0);
      greatest = omega (arith, ap (λ (s : DiskState). s.doubt.greatest) e, seen_is, len2, a.seen.ok.0);
      seen_from = omega (arith, len, a.seen.ok.0);
      seen_to = omega (arith, len2, a.seen.ok.0);
      base_from = omega (arith, len, a.seen.ok.0, len_base, read);
      base_to = omega (arith, len2, a.seen.ok.0, len_base, read);
      first = t.first;
      used = omega (arith, ap used_by c.push_reserved.ensures.items, used_by_push a.entries.items (record { beat = c.args.beat; kind = Synced; used = 0 }), t.first, t.used);
      kept_room = omega (arith, len2, a.seen.ok.0, t.seen_to, t.kept_room);
      seen_room = omega (arith, len2, a.seen.ok.0, t.seen_to, t.seen_room);
      base_room = omega (arith, len2, a.seen.ok.0, t.seen_to, t.base_room, c.replace_within.ensures.room);
    }

pub returns-clause-image : goal.returns-clause-image
returns-clause-image c = synced_is_image c.args.beat c.args.self.now.state _ (returns-clause-state c)
