use Rattle.std.proofs.Common.{◌≡◌, ℕ, ◌<◌, List, [], length, get_or, ap, ◌∙◌, sym, arith, length-set}
use Rattle.std.proofs.lemmas.List.{get_or-set_same}
use Rattle.std.specs.List.{remove}
use Rattle.cd_outside.specs.Content.{resized}
use Rattle.cd_outside.proofs.Contents.{length-resized}
use Rattle.cd_memory_state.specs.Parts.{PartsHeld, cut_up, extent}
use Rattle.cd_memory_state.proofs.CutUp.{within, size_is, extent-remove, removed, remove-set}
use Rattle.cd_memory_state.proofs.parts.Parts.remove.Goals as goal

pub remove-requires : goal.remove-requires
remove-requires c =
    let a = c.self.inside in
    let items = c.args.self.now.items in
    let cut = resized 0 (get_or items c.args.i []) in
    let is = ap (λ (h : PartsHeld). h.items) c.self.view_is in
    let here : c.args.i < length c.cut.new.self.items = omega (arith, c.requires, ap length c.cut.ensures.items, length-set items c.args.i cut) in
    let lt = within a.sizes.items a.bytes.items c.cut.new.self.items c.args.i is c.self.invariant here in
    omega (arith, lt, a.sizes.ok.0)

pub invariant_of-self : goal.invariant_of-self
invariant_of-self c =
    let a = c.self.inside in
    let items = c.args.self.now.items in
    let cut = resized 0 (get_or items c.args.i []) in
    let is = ap (λ (h : PartsHeld). h.items) c.self.view_is in
    let here : c.args.i < length c.cut.new.self.items = omega (arith, c.requires, ap length c.cut.ensures.items, length-set items c.args.i cut) in
    let lt = within a.sizes.items a.bytes.items c.cut.new.self.items c.args.i is c.self.invariant here in
    let none : get_or a.sizes.items c.args.i 0 ≡ 0 =
    sym (size_is a.sizes.items a.bytes.items c.cut.new.self.items c.args.i is c.self.invariant here)
    ∙ ap (λ (l : List (List ℕ)). length (get_or l c.args.i [])) c.cut.ensures.items
    ∙ ap length (get_or-set_same items c.args.i cut [] c.requires)
    ∙ length-resized 0 (get_or items c.args.i []) in
    ap extent c.remove.ensures.items ∙ extent-remove a.sizes.items c.args.i none ∙ c.self.invariant

pub returns-clause-items : goal.returns-clause-items
returns-clause-items c =
    let a = c.self.inside in
    let items = c.args.self.now.items in
    let cut = resized 0 (get_or items c.args.i []) in
    let is = ap (λ (h : PartsHeld). h.items) c.self.view_is in
    let here : c.args.i < length c.cut.new.self.items = omega (arith, c.requires, ap length c.cut.ensures.items, length-set items c.args.i cut) in
    let lt = within a.sizes.items a.bytes.items c.cut.new.self.items c.args.i is c.self.invariant here in
    let none : get_or a.sizes.items c.args.i 0 ≡ 0 =
    sym (size_is a.sizes.items a.bytes.items c.cut.new.self.items c.args.i is c.self.invariant here)
    ∙ ap (λ (l : List (List ℕ)). length (get_or l c.args.i [])) c.cut.ensures.items
    ∙ ap length (get_or-set_same items c.args.i cut [] c.requires)
    ∙ length-resized 0 (get_or items c.args.i []) in
    ap (λ (l : List ℕ). cut_up l a.bytes.items) c.remove.ensures.items
    ∙ removed a.sizes.items a.bytes.items c.args.i none
    ∙ ap (λ (l : List (List ℕ)). remove l c.args.i) (is ∙ c.cut.ensures.items)
    ∙ remove-set items c.args.i cut
