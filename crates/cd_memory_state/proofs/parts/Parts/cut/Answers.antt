use Rattle.std.proofs.Common.{◌≡◌, ℕ, ◌+◌, ◌-◌, List, ◌++◌, length, take, drop, replicate, refl, ◌∙◌, ap, arith, length-append, length-take, length-drop}
use Rattle.std.proofs.lemmas.List.{get_or_read, length-replicate}
use Rattle.cd_memory_state.specs.Parts.{PartsHeld, extent}
use Rattle.cd_memory_state.proofs.CutUp.{within, size_is, upto, cut_shorter, cut_longer, extent-set}
use Rattle.cd_memory_state.proofs.parts.Parts.cut.Goals as goal

pub index-old-requires : goal.index-old-requires
index-old-requires c =
    let a = c.self.inside in
    let is = ap (λ (h : PartsHeld). h.items) c.self.view_is in
    let lt = within a.sizes.items a.bytes.items c.args.self.now.items c.args.i is c.self.invariant c.requires.place in
    omega (arith, a.sizes.ok.0, lt)

pub begin-requires-clause-place : goal.begin-requires-clause-place
begin-requires-clause-place c =
    let a = c.self.inside in
    let is = ap (λ (h : PartsHeld). h.items) c.self.view_is in
    let lt = within a.sizes.items a.bytes.items c.args.self.now.items c.args.i is c.self.invariant c.requires.place in
    omega (arith, ap length c.deref.ensures.value, lt)

pub overflow_add-end : goal.overflow_add-end
overflow_add-end c =
    let a = c.self.inside in
    let is = ap (λ (h : PartsHeld). h.items) c.self.view_is in
    let lt = within a.sizes.items a.bytes.items c.args.self.now.items c.args.i is c.self.invariant c.requires.place in
    let from = c.begin.ensures ∙ ap (λ (l : List ℕ). extent (take c.args.i l)) c.deref.ensures.value in
    let old = get_or_read a.sizes.items c.args.i c.index-old.result.now lt c.index-old.ensures 0 in
    let ends = upto a.sizes.items a.bytes.items c.args.self.now.items c.args.i is c.self.invariant c.requires.place in
    omega (arith, from, old, ends, a.bytes.ok.0, a.bytes.ok.1, a.bytes.small)

pub index_mut-requires : goal.index_mut-requires
index_mut-requires c =
    let a = c.self.inside in
    let is = ap (λ (h : PartsHeld). h.items) c.self.view_is in
    let lt = within a.sizes.items a.bytes.items c.args.self.now.items c.args.i is c.self.invariant c.requires.place in
    omega (arith, a.sizes.ok.0, lt)

pub close_within-requires : goal.close_within-requires
close_within-requires c =
    let a = c.self.inside in
    let is = ap (λ (h : PartsHeld). h.items) c.self.view_is in
    let lt = within a.sizes.items a.bytes.items c.args.self.now.items c.args.i is c.self.invariant c.requires.place in
    let from = c.begin.ensures ∙ ap (λ (l : List ℕ). extent (take c.args.i l)) c.deref.ensures.value in
    let old = get_or_read a.sizes.items c.args.i c.index-old.result.now lt c.index-old.ensures 0 in
    let ends = upto a.sizes.items a.bytes.items c.args.self.now.items c.args.i is c.self.invariant c.requires.place in
    omega (arith, from, old, ends, a.bytes.ok.0, c.if-size-old.true)

pub open_within-requires-clause-place : goal.open_within-requires-clause-place
open_within-requires-clause-place c =
    let a = c.self.inside in
    let is = ap (λ (h : PartsHeld). h.items) c.self.view_is in
    let lt = within a.sizes.items a.bytes.items c.args.self.now.items c.args.i is c.self.invariant c.requires.place in
    let from = c.begin.ensures ∙ ap (λ (l : List ℕ). extent (take c.args.i l)) c.deref.ensures.value in
    let old = get_or_read a.sizes.items c.args.i c.index-old.result.now lt c.index-old.ensures 0 in
    let ends = upto a.sizes.items a.bytes.items c.args.self.now.items c.args.i is c.self.invariant c.requires.place in
    omega (arith, from, old, ends, a.bytes.ok.0)

pub open_within-requires-clause-room : goal.open_within-requires-clause-room
open_within-requires-clause-room c =
    let a = c.self.inside in
    let is = ap (λ (h : PartsHeld). h.items) c.self.view_is in
    let lt = within a.sizes.items a.bytes.items c.args.self.now.items c.args.i is c.self.invariant c.requires.place in
    let old = get_or_read a.sizes.items c.args.i c.index-old.result.now lt c.index-old.ensures 0 in
    let own = size_is a.sizes.items a.bytes.items c.args.self.now.items c.args.i is c.self.invariant c.requires.place in
    omega (arith, old, own, c.requires.bytes, c.if-size-old.false, ap (λ (h : PartsHeld). h.bytes_left) c.self.view_is, a.bytes.ok.1)

pub invariant_of-self : goal.invariant_of-self
invariant_of-self c =
    let a = c.self.inside in
    let is = ap (λ (h : PartsHeld). h.items) c.self.view_is in
    let lt = within a.sizes.items a.bytes.items c.args.self.now.items c.args.i is c.self.invariant c.requires.place in
    let from = c.begin.ensures ∙ ap (λ (l : List ℕ). extent (take c.args.i l)) c.deref.ensures.value in
    let old = get_or_read a.sizes.items c.args.i c.index-old.result.now lt c.index-old.ensures 0 in
    let ends = upto a.sizes.items a.bytes.items c.args.self.now.items c.args.i is c.self.invariant c.requires.place in
    let place : ℕ = c.begin.result + c.index-old.result.now - (c.index-old.result.now - c.args.size) in
    let end : ℕ = place + (c.index-old.result.now - c.args.size) in
    let long : length c.close_within.new.to.items + c.index-old.result.now ≡ length a.bytes.items + c.args.size =
    omega (arith, ap length c.close_within.ensures.items, length-append (take place a.bytes.items) (drop end a.bytes.items), length-take place a.bytes.items, length-drop end a.bytes.items, from, old, ends, c.if-size-old.true) in
    omega (arith, long, old, extent-set a.sizes.items c.args.i c.args.size lt, c.self.invariant)

pub returns-then-size-old-clause-items : goal.returns-then-size-old-clause-items
returns-then-size-old-clause-items c =
    let a = c.self.inside in
    let is = ap (λ (h : PartsHeld). h.items) c.self.view_is in
    let lt = within a.sizes.items a.bytes.items c.args.self.now.items c.args.i is c.self.invariant c.requires.place in
    let from = c.begin.ensures ∙ ap (λ (l : List ℕ). extent (take c.args.i l)) c.deref.ensures.value in
    let old = get_or_read a.sizes.items c.args.i c.index-old.result.now lt c.index-old.ensures 0 in
    cut_shorter a.sizes.items a.bytes.items c.args.self.now.items c.args.i is c.self.invariant c.requires.place
    c.close_within.new.to.items c.begin.result c.index-old.result.now c.args.size _ _ from old c.if-size-old.true refl refl c.close_within.ensures.items

pub returns-then-size-old-clause-bytes : goal.returns-then-size-old-clause-bytes
returns-then-size-old-clause-bytes c =
    let a = c.self.inside in
    let is = ap (λ (h : PartsHeld). h.items) c.self.view_is in
    let lt = within a.sizes.items a.bytes.items c.args.self.now.items c.args.i is c.self.invariant c.requires.place in
    let from = c.begin.ensures ∙ ap (λ (l : List ℕ). extent (take c.args.i l)) c.deref.ensures.value in
    let old = get_or_read a.sizes.items c.args.i c.index-old.result.now lt c.index-old.ensures 0 in
    let ends = upto a.sizes.items a.bytes.items c.args.self.now.items c.args.i is c.self.invariant c.requires.place in
    let own = size_is a.sizes.items a.bytes.items c.args.self.now.items c.args.i is c.self.invariant c.requires.place in
    let place : ℕ = c.begin.result + c.index-old.result.now - (c.index-old.result.now - c.args.size) in
    let end : ℕ = place + (c.index-old.result.now - c.args.size) in
    let long : length c.close_within.new.to.items + c.index-old.result.now ≡ length a.bytes.items + c.args.size =
    omega (arith, ap length c.close_within.ensures.items, length-append (take place a.bytes.items) (drop end a.bytes.items), length-take place a.bytes.items, length-drop end a.bytes.items, from, old, ends, c.if-size-old.true) in
    omega (arith, long, old, own, ap (λ (h : PartsHeld). h.bytes_left) c.self.view_is, c.close_within.ensures.room, a.bytes.ok.0, a.bytes.ok.1, c.close_within.new.to.ok.0, c.if-size-old.true)

pub invariant_of-self-else-size-old : goal.invariant_of-self-else-size-old
invariant_of-self-else-size-old c =
    let a = c.self.inside in
    let is = ap (λ (h : PartsHeld). h.items) c.self.view_is in
    let lt = within a.sizes.items a.bytes.items c.args.self.now.items c.args.i is c.self.invariant c.requires.place in
    let from = c.begin.ensures ∙ ap (λ (l : List ℕ). extent (take c.args.i l)) c.deref.ensures.value in
    let old = get_or_read a.sizes.items c.args.i c.index-old.result.now lt c.index-old.ensures 0 in
    let ends = upto a.sizes.items a.bytes.items c.args.self.now.items c.args.i is c.self.invariant c.requires.place in
    let end : ℕ = c.begin.result + c.index-old.result.now in
    let zeros : ℕ = c.args.size - c.index-old.result.now in
    let long : length c.open_within.new.to.items + c.index-old.result.now ≡ length a.bytes.items + c.args.size =
    omega (arith, ap length c.open_within.ensures.items, length-append (take end a.bytes.items ++ replicate zeros 0) (drop end a.bytes.items), length-append (take end a.bytes.items) (replicate zeros 0), length-replicate {A = ℕ} zeros 0, length-take end a.bytes.items, length-drop end a.bytes.items, from, old, ends, c.if-size-old.false) in
    omega (arith, long, old, extent-set a.sizes.items c.args.i c.args.size lt, c.self.invariant)

pub returns-else-size-old-clause-items : goal.returns-else-size-old-clause-items
returns-else-size-old-clause-items c =
    let a = c.self.inside in
    let is = ap (λ (h : PartsHeld). h.items) c.self.view_is in
    let lt = within a.sizes.items a.bytes.items c.args.self.now.items c.args.i is c.self.invariant c.requires.place in
    let from = c.begin.ensures ∙ ap (λ (l : List ℕ). extent (take c.args.i l)) c.deref.ensures.value in
    let old = get_or_read a.sizes.items c.args.i c.index-old.result.now lt c.index-old.ensures 0 in
    cut_longer a.sizes.items a.bytes.items c.args.self.now.items c.args.i is c.self.invariant c.requires.place
    c.open_within.new.to.items c.begin.result c.index-old.result.now c.args.size from old (omega (arith, c.if-size-old.false)) c.open_within.ensures.items

pub returns-else-size-old-clause-bytes : goal.returns-else-size-old-clause-bytes
returns-else-size-old-clause-bytes c =
    let a = c.self.inside in
    let is = ap (λ (h : PartsHeld). h.items) c.self.view_is in
    let lt = within a.sizes.items a.bytes.items c.args.self.now.items c.args.i is c.self.invariant c.requires.place in
    let from = c.begin.ensures ∙ ap (λ (l : List ℕ). extent (take c.args.i l)) c.deref.ensures.value in
    let old = get_or_read a.sizes.items c.args.i c.index-old.result.now lt c.index-old.ensures 0 in
    let ends = upto a.sizes.items a.bytes.items c.args.self.now.items c.args.i is c.self.invariant c.requires.place in
    let own = size_is a.sizes.items a.bytes.items c.args.self.now.items c.args.i is c.self.invariant c.requires.place in
    let end : ℕ = c.begin.result + c.index-old.result.now in
    let zeros : ℕ = c.args.size - c.index-old.result.now in
    let long : length c.open_within.new.to.items + c.index-old.result.now ≡ length a.bytes.items + c.args.size =
    omega (arith, ap length c.open_within.ensures.items, length-append (take end a.bytes.items ++ replicate zeros 0) (drop end a.bytes.items), length-append (take end a.bytes.items) (replicate zeros 0), length-replicate {A = ℕ} zeros 0, length-take end a.bytes.items, length-drop end a.bytes.items, from, old, ends, c.if-size-old.false) in
    omega (arith, long, old, own, ap (λ (h : PartsHeld). h.bytes_left) c.self.view_is, c.open_within.ensures.room, a.bytes.ok.0, a.bytes.ok.1, c.open_within.new.to.ok.0, c.if-size-old.false)
