use Rattle.std.proofs.Common.{◌≡◌, ℕ, List, length, take, drop, get_or, sym, ◌∙◌, ap, arith, length-take}
use Rattle.std.proofs.lemmas.List.{get_or_read}
use Rattle.cd_memory_state.specs.Parts.{PartsHeld, extent}
use Rattle.cd_memory_state.proofs.CutUp.{within, part_is, upto}
use Rattle.cd_memory_state.proofs.parts.Parts.part.Goals as goal

pub begin-requires-clause-place : goal.begin-requires-clause-place
begin-requires-clause-place c =
    let a = c.self.inside in
    let is = ap (λ (h : PartsHeld). h.items) c.self.view_is in
    let lt = within a.sizes.items a.bytes.items c.args.self.now.items c.args.i is c.self.invariant c.requires in
    omega (arith, ap length c.deref-2.ensures.value, lt)

pub index-requires : goal.index-requires
index-requires c =
    let a = c.self.inside in
    let is = ap (λ (h : PartsHeld). h.items) c.self.view_is in
    let lt = within a.sizes.items a.bytes.items c.args.self.now.items c.args.i is c.self.invariant c.requires in
    omega (arith, a.sizes.ok.0, lt)

pub part_of-requires : goal.part_of-requires
part_of-requires c =
    let a = c.self.inside in
    let is = ap (λ (h : PartsHeld). h.items) c.self.view_is in
    let lt = within a.sizes.items a.bytes.items c.args.self.now.items c.args.i is c.self.invariant c.requires in
    let from = c.begin.ensures ∙ ap (λ (l : List ℕ). extent (take c.args.i l)) c.deref-2.ensures.value in
    let size = get_or_read a.sizes.items c.args.i c.index.result.now lt c.index.ensures 0 in
    let ends = upto a.sizes.items a.bytes.items c.args.self.now.items c.args.i is c.self.invariant c.requires in
    omega (arith, from, size, ends, ap length c.deref.ensures.value)

pub returns-clause-part : goal.returns-clause-part
returns-clause-part c =
    let a = c.self.inside in
    let is = ap (λ (h : PartsHeld). h.items) c.self.view_is in
    let lt = within a.sizes.items a.bytes.items c.args.self.now.items c.args.i is c.self.invariant c.requires in
    let from = c.begin.ensures ∙ ap (λ (l : List ℕ). extent (take c.args.i l)) c.deref-2.ensures.value in
    let size = get_or_read a.sizes.items c.args.i c.index.result.now lt c.index.ensures 0 in
    c.part_of.ensures
    ∙ (λ j. take (size j) (drop (from j) (c.deref.ensures.value j)))
    ∙ sym (part_is a.sizes.items a.bytes.items c.args.self.now.items c.args.i is c.self.invariant c.requires)

pub returns-clause-range : goal.returns-clause-range
returns-clause-range c =
    let a = c.self.inside in
    let is = ap (λ (h : PartsHeld). h.items) c.self.view_is in
    let lt = within a.sizes.items a.bytes.items c.args.self.now.items c.args.i is c.self.invariant c.requires in
    let from = c.begin.ensures ∙ ap (λ (l : List ℕ). extent (take c.args.i l)) c.deref-2.ensures.value in
    let size = get_or_read a.sizes.items c.args.i c.index.result.now lt c.index.ensures 0 in
    let ends = upto a.sizes.items a.bytes.items c.args.self.now.items c.args.i is c.self.invariant c.requires in
    omega (arith, ap length c.part_of.ensures, ap length (λ j. take (size j) (drop (from j) (c.deref.ensures.value j))), length-take (get_or a.sizes.items c.args.i 0) (drop (extent (take c.args.i a.sizes.items)) a.bytes.items), ends, ap (λ (h : PartsHeld). h.bytes_left) c.self.view_is, a.bytes.ok.0, a.bytes.ok.1, a.bytes.small)
