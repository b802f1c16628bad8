use Rattle.std.proofs.Common.{◌≡◌, ℕ, ◌+◌, ◌≤◌, List, length, take, refl, ap, ◌∙◌, arith}
use Rattle.cd_memory_state.specs.Parts.{PartsHeld, extent}
use Rattle.cd_outside.proofs.Contents.{length-overwritten}
use Rattle.cd_memory_state.proofs.CutUp.{within, size_is, upto, written_over}
use Rattle.cd_memory_state.proofs.parts.Parts.overwrite.Goals as goal

pub begin-requires-clause-place : goal.begin-requires-clause-place
begin-requires-clause-place c =
    let a = c.self.inside in
    let is = ap (λ (h : PartsHeld). h.items) c.self.view_is in
    let lt = within a.sizes.items a.bytes.items c.args.self.now.items c.args.i is c.self.invariant c.requires.place in
    omega (arith, ap length c.deref.ensures.value, lt)

pub overflow_add-from : goal.overflow_add-from
overflow_add-from c =
    let a = c.self.inside in
    let is = ap (λ (h : PartsHeld). h.items) c.self.view_is in
    let lt = within a.sizes.items a.bytes.items c.args.self.now.items c.args.i is c.self.invariant c.requires.place in
    let from = c.begin.ensures ∙ ap (λ (l : List ℕ). extent (take c.args.i l)) c.deref.ensures.value in
    let ends = upto a.sizes.items a.bytes.items c.args.self.now.items c.args.i is c.self.invariant c.requires.place in
    let own = size_is a.sizes.items a.bytes.items c.args.self.now.items c.args.i is c.self.invariant c.requires.place in
    let inside : c.begin.result + c.args.at + length c.args.bytes.now ≤ length a.bytes.items = omega (arith, from, own, ends, c.requires.within) in
    omega (arith, inside, a.bytes.ok.0, a.bytes.ok.1, a.bytes.small)

pub overwrite_within-requires-clause-place : goal.overwrite_within-requires-clause-place
overwrite_within-requires-clause-place c =
    let a = c.self.inside in
    let is = ap (λ (h : PartsHeld). h.items) c.self.view_is in
    let lt = within a.sizes.items a.bytes.items c.args.self.now.items c.args.i is c.self.invariant c.requires.place in
    let from = c.begin.ensures ∙ ap (λ (l : List ℕ). extent (take c.args.i l)) c.deref.ensures.value in
    let ends = upto a.sizes.items a.bytes.items c.args.self.now.items c.args.i is c.self.invariant c.requires.place in
    let own = size_is a.sizes.items a.bytes.items c.args.self.now.items c.args.i is c.self.invariant c.requires.place in
    let inside : c.begin.result + c.args.at + length c.args.bytes.now ≤ length a.bytes.items = omega (arith, from, own, ends, c.requires.within) in
    omega (arith, inside, a.bytes.ok.0)

pub overwrite_within-requires-clause-room : goal.overwrite_within-requires-clause-room
overwrite_within-requires-clause-room c =
    let a = c.self.inside in
    let is = ap (λ (h : PartsHeld). h.items) c.self.view_is in
    let lt = within a.sizes.items a.bytes.items c.args.self.now.items c.args.i is c.self.invariant c.requires.place in
    let from = c.begin.ensures ∙ ap (λ (l : List ℕ). extent (take c.args.i l)) c.deref.ensures.value in
    let ends = upto a.sizes.items a.bytes.items c.args.self.now.items c.args.i is c.self.invariant c.requires.place in
    let own = size_is a.sizes.items a.bytes.items c.args.self.now.items c.args.i is c.self.invariant c.requires.place in
    let inside : c.begin.result + c.args.at + length c.args.bytes.now ≤ length a.bytes.items = omega (arith, from, own, ends, c.requires.within) in
    omega (arith, inside, a.bytes.ok.0, a.bytes.ok.1)

pub invariant_of-self : goal.invariant_of-self
invariant_of-self c =
    let a = c.self.inside in
    let is = ap (λ (h : PartsHeld). h.items) c.self.view_is in
    let lt = within a.sizes.items a.bytes.items c.args.self.now.items c.args.i is c.self.invariant c.requires.place in
    let from = c.begin.ensures ∙ ap (λ (l : List ℕ). extent (take c.args.i l)) c.deref.ensures.value in
    let ends = upto a.sizes.items a.bytes.items c.args.self.now.items c.args.i is c.self.invariant c.requires.place in
    let own = size_is a.sizes.items a.bytes.items c.args.self.now.items c.args.i is c.self.invariant c.requires.place in
    let inside : c.begin.result + c.args.at + length c.args.bytes.now ≤ length a.bytes.items = omega (arith, from, own, ends, c.requires.within) in
    let long : length c.overwrite_within.new.to.items ≡ length a.bytes.items =
    omega (arith, ap length c.overwrite_within.ensures.items, length-overwritten (c.begin.result + c.args.at) c.args.bytes.now a.bytes.items, inside) in
    c.self.invariant ∙ omega (arith, long)

pub returns-clause-items : goal.returns-clause-items
returns-clause-items c =
    let a = c.self.inside in
    let is = ap (λ (h : PartsHeld). h.items) c.self.view_is in
    let lt = within a.sizes.items a.bytes.items c.args.self.now.items c.args.i is c.self.invariant c.requires.place in
    let from = c.begin.ensures ∙ ap (λ (l : List ℕ). extent (take c.args.i l)) c.deref.ensures.value in
    written_over a.sizes.items a.bytes.items c.args.self.now.items c.args.i is c.self.invariant c.requires.place
    c.overwrite_within.new.to.items c.args.bytes.now c.begin.result c.args.at _ from refl c.requires.within c.overwrite_within.ensures.items

pub returns-clause-bytes : goal.returns-clause-bytes
returns-clause-bytes c =
    let a = c.self.inside in
    let is = ap (λ (h : PartsHeld). h.items) c.self.view_is in
    let lt = within a.sizes.items a.bytes.items c.args.self.now.items c.args.i is c.self.invariant c.requires.place in
    let from = c.begin.ensures ∙ ap (λ (l : List ℕ). extent (take c.args.i l)) c.deref.ensures.value in
    let ends = upto a.sizes.items a.bytes.items c.args.self.now.items c.args.i is c.self.invariant c.requires.place in
    let own = size_is a.sizes.items a.bytes.items c.args.self.now.items c.args.i is c.self.invariant c.requires.place in
    let inside : c.begin.result + c.args.at + length c.args.bytes.now ≤ length a.bytes.items = omega (arith, from, own, ends, c.requires.within) in
    let long : length c.overwrite_within.new.to.items ≡ length a.bytes.items =
    omega (arith, ap length c.overwrite_within.ensures.items, length-overwritten (c.begin.result + c.args.at) c.args.bytes.now a.bytes.items, inside) in
    omega (arith, long, ap (λ (h : PartsHeld). h.bytes_left) c.self.view_is, c.overwrite_within.ensures.room, a.bytes.ok.0, c.overwrite_within.new.to.ok.0)
