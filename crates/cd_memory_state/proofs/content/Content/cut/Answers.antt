use Rattle.std.proofs.Common.{◌≡◌, ℕ, ◌+◌, ◌-◌, List, ◌++◌, length, replicate, sym, ◌∙◌, ap, arith, length-append}
use Rattle.std.proofs.lemmas.List.{take_all, length-replicate}
use Rattle.cd_outside.specs.Content.{resized}
use Rattle.cd_outside.specs.Disk.{DiskState, Cut, did}
use Rattle.cd_outside.proofs.Contents.{length-resized}
use Rattle.cd_memory_state.specs.Record.{Held, used_by}
use Rattle.cd_memory_state.specs.declared.entry.Entry.{Entry}
use Rattle.cd_memory_state.specs.declared.entry.Kind.TheVariants.{Resized}
use Rattle.cd_memory_state.proofs.Kept.{cut_is_image}
use Rattle.cd_memory_state.proofs.Replay.{used_by_push, state_of, state_push}
use Rattle.cd_memory_state.proofs.content.Content.cut.Goals as goal

-- longer bytes have zeros behind
longer : (used len : ℕ) (old : List ℕ) → len ≡ length old + used → resized len old ≡ old ++ replicate used 0
longer used len old is =
    let count : len - length old ≡ used = omega arith in
    ap (λ (l : List ℕ). l ++ replicate (len - length old) 0) (take_all len old (omega arith)) ∙ ap (λ (n : ℕ). old ++ replicate n 0) count

kept_grown : (c : goal.After-self-2-1) → c.resize_within.new.to.items ≡ c.self.inside.kept.items ++ replicate c.saturating_sub-used.result 0
kept_grown c = c.resize_within.ensures.items ∙ longer c.saturating_sub-used.result (c.len-2.result + c.saturating_sub-used.result) c.self.inside.kept.items (omega (arith, c.len-2.ensures, c.self.inside.kept.ok.0))

grown : (c : goal.After-self-2-1) → state_of c.self.inside.first c.resize_within.new.to.items c.push_reserved.new.self.items ≡ did (Cut c.args.len) c.args.beat (state_of c.self.inside.first c.self.inside.kept.items c.self.inside.entries.items)
grown c =
    let a = c.self.inside in
    let t = c.self.invariant in
    let used = c.saturating_sub-used.result in
    let entry : Entry = record { beat = c.args.beat; kind = Resized c.args.len; used = used } in
    state_push a.first a.kept.items (replicate used 0) c.resize_within.new.to.items a.entries.items c.push_reserved.new.self.items entry t.first t.used (sym (length-replicate {A = ℕ} used 0)) (kept_grown c) c.push_reserved.ensures.items

pub returns-clause-state : goal.returns-clause-state
returns-clause-state c = grown c ∙ ap (λ (h : Held). did (Cut c.args.len) c.args.beat h.state) c.self.view_is

pub invariant_of-self : goal.invariant_of-self
invariant_of-self c =
    let a = c.self.inside in
    let t = c.self.invariant in
    let e = grown c in
    let used = c.saturating_sub-used.result in
    let used_is : used ≡ c.args.len - length a.seen.items = omega (arith, c.saturating_sub-used.ensures, c.len.ensures, a.seen.ok.0) in
    let long = length-resized c.args.len a.seen.items in
    let len_seen = ap length c.resize_within-2.ensures.items in
    let len_kept = ap length (kept_grown c) in
    let zeros = length-replicate {A = ℕ} used 0 in
    let left = ap (λ (h : Held). h.bytes_left) c.self.view_is in
    let seen_was = ap (λ (h : Held). length h.state.seen) c.self.view_is in
    let seen_is = ap length t.seen in
    let greatest = c.max-self-inside.ensures in
    let least = c.min-self-inside.ensures in
    record {
      seen = ap (λ (s : DiskState). s.seen) e ∙ ap (λ l. resized c.args.len l) t.seen ∙ sym c.resize_within-2.ensures.items;
      base = ap (λ (s : DiskState). s.doubt.base) e ∙ t.base;
      ranges = ap (λ (s : DiskState). s.doubt.ranges) e ∙ t.ranges;
      least = omega (arith, ap (λ (s : DiskState). s.doubt.least) e, t.least, least);
      greatest = omega (arith, ap (λ (s : DiskState). s.doubt.greatest) e, t.greatest, greatest);
      seen_from = omega (arith, len_seen, long, least);
      seen_to = omega (arith, len_seen, long, greatest);
      base_from = omega (arith, least, t.base_from);
      base_to = omega (arith, greatest, t.base_to);
      first = omega (arith, len_kept, length-append a.kept.items (replicate used 0), t.first);
      used = omega (arith, ap used_by c.push_reserved.ensures.items, used_by_push a.entries.items (record { beat = c.args.beat; kind = Resized c.args.len; used = used }), len_kept, zeros, length-append a.kept.items (replicate used 0), t.first, t.used);
      kept_room = omega (arith, len_kept, zeros, length-append a.kept.items (replicate used 0), greatest, used_is, t.seen_to, t.kept_room);
      seen_room = omega (arith, c.resize_within-2.ensures.room, greatest, c.requires.bytes, left, seen_was, seen_is, t.seen_to, t.seen_room);
      base_room = omega (arith, greatest, c.requires.bytes, left, seen_was, seen_is, t.seen_to, t.base_room);
    }

pub returns-clause-image : goal.returns-clause-image
returns-clause-image c now = cut_is_image c.args.len c.args.beat c.args.self.now.state _ (returns-clause-state c) now
