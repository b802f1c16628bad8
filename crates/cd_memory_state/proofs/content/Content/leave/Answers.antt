use Rattle.std.proofs.Common.{◌≡◌, length, sym, ◌∙◌, ap, subst, arith}
use Rattle.cd_outside.specs.Doubt.{IsImage}
use Rattle.cd_outside.specs.Disk.{DiskState}
use Rattle.cd_memory_state.specs.Record.{Held, at_first}
use Rattle.cd_memory_state.proofs.Left.{left_is, image_is, length_is}
use Rattle.cd_memory_state.proofs.Replay.{state_of, state_none}
use Rattle.cd_memory_state.proofs.content.Content.leave.Goals as goal

pub replace_within-requires : goal.replace_within-requires
replace_within-requires c =
    let within = length_is c.self.inside c.self.invariant c.args.self.now c.self.view_is c.args.image c.deref.result.now c.deref-2.result.now c.deref.ensures.value c.deref-2.ensures.value c.leave.new.seen.items c.leave.ensures.items c.requires in
    omega (arith, within, ap length c.deref-3.ensures.value, c.self.invariant.base_room)

pub replace_within-requires-2 : goal.replace_within-requires-2
replace_within-requires-2 c =
    let within = length_is c.self.inside c.self.invariant c.args.self.now c.self.view_is c.args.image c.deref.result.now c.deref-2.result.now c.deref.ensures.value c.deref-2.ensures.value c.leave.new.seen.items c.leave.ensures.items c.requires in
    omega (arith, within, ap length c.deref-4.ensures.value, c.self.invariant.kept_room, c.self.inside.kept.ok.0)

settled : (c : goal.After-self-3-1) → state_of c.len-self-inside.result c.replace_within-2.new.to.items c.clear.new.self.items ≡ at_first c.leave.new.seen.items
settled c = state_none c.len-self-inside.result c.replace_within-2.new.to.items c.leave.new.seen.items c.clear.new.self.items (omega (arith, c.len-self-inside.ensures, c.leave.new.seen.ok.0)) (c.replace_within-2.ensures.items ∙ c.deref-4.ensures.value) c.clear.ensures.items

pub returns-clause-state : goal.returns-clause-state
returns-clause-state c =
    settled c ∙ ap at_first (left_is c.self.inside c.self.invariant c.args.self.now c.self.view_is c.args.image c.deref.result.now c.deref-2.result.now c.deref.ensures.value c.deref-2.ensures.value c.leave.new.seen.items c.leave.ensures.items)

pub returns-clause-image : goal.returns-clause-image
returns-clause-image c =
    let is = image_is c.self.inside c.self.invariant c.args.self.now c.self.view_is c.args.image c.deref.result.now c.deref-2.result.now c.deref.ensures.value c.deref-2.ensures.value c.leave.new.seen.items c.leave.ensures.items c.requires in
    subst (IsImage c.args.self.now.state.doubt) (sym (ap (λ (s : DiskState). s.seen) (settled c))) is

pub returns-clause-bytes : goal.returns-clause-bytes
returns-clause-bytes c =
    let within = length_is c.self.inside c.self.invariant c.args.self.now c.self.view_is c.args.image c.deref.result.now c.deref-2.result.now c.deref.ensures.value c.deref-2.ensures.value c.leave.new.seen.items c.leave.ensures.items c.requires in
    let t = c.self.invariant in
    let left = ap (λ (h : Held). h.bytes_left) c.self.view_is in
    let kept = ap length (c.replace_within-2.ensures.items ∙ c.deref-4.ensures.value) in
    omega (arith, within, left, kept, c.replace_within-2.new.to.ok.0, c.leave.new.seen.ok.0, c.self.inside.kept.ok.0, t.kept_room, c.len-self-inside-3.ensures, c.leave.ensures.room, c.replace_within.ensures.room, c.replace_within-2.ensures.room)
