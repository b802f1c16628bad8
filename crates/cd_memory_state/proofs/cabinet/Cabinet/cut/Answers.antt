use Rattle.std.proofs.Common.{◌≡◌, ℕ, List, [], length, get_or, set, sym, ◌∙◌, ap, subst, arith}
use Rattle.cd_outside.specs.Content.{resized}
use Rattle.cd_outside.specs.Shelf.{content_of, put}
use Rattle.cd_memory_state.specs.Cabinet.{CabinetHeld, file_in, file_under}
use Rattle.cd_memory_state.specs.Names.{IsAt}
use Rattle.cd_memory_state.proofs.Named.{at_within}
use Rattle.cd_memory_state.proofs.Cabinets.{file_is, changed_to}
use Rattle.cd_memory_state.proofs.cabinet.Cabinet.cut.Goals as goal

pub cut-requires-clause-place : goal.cut-requires-clause-place
cut-requires-clause-place c =
    let names = c.self.inside.names.items in
    let files = c.self.inside.files.items in
    let name = c.args.name.now in
    let i = c.place-i.result in
    let at = subst (λ (h : CabinetHeld). IsAt h.names name i) (sym c.self.view_is) c.place-i.ensures.at in
    let old = file_in c.args.self.now in
    let made = ap file_in c.self.view_is ∙ c.place-i.ensures.file in
    omega (arith, at_within names name i at, c.self.invariant.0)

pub cut-requires-clause-bytes : goal.cut-requires-clause-bytes
cut-requires-clause-bytes c =
    let names = c.self.inside.names.items in
    let files = c.self.inside.files.items in
    let name = c.args.name.now in
    let i = c.place-i.result in
    let at = subst (λ (h : CabinetHeld). IsAt h.names name i) (sym c.self.view_is) c.place-i.ensures.at in
    let old = file_in c.args.self.now in
    let made = ap file_in c.self.view_is ∙ c.place-i.ensures.file in
    let lt = at_within names name i at in
    let same = ap length (file_is names files name i old (content_of (old name)) c.self.invariant.0 at made) in
    let left = ap (λ (h : CabinetHeld). h.bytes_left) c.self.view_is in
    omega (arith, same, left, c.requires.bytes, c.place-i.ensures.bytes)

pub returns-clause-file : goal.returns-clause-file
returns-clause-file c =
    let names = c.self.inside.names.items in
    let files = c.self.inside.files.items in
    let name = c.args.name.now in
    let i = c.place-i.result in
    let at = subst (λ (h : CabinetHeld). IsAt h.names name i) (sym c.self.view_is) c.place-i.ensures.at in
    let old = file_in c.args.self.now in
    let made = ap file_in c.self.view_is ∙ c.place-i.ensures.file in
    let file = file_is names files name i old (content_of (old name)) c.self.invariant.0 at made in
    ap (file_under names) (c.cut.ensures.items ∙ ap (λ (l : List ℕ). set files i (resized c.args.len l)) file)
    ∙ changed_to names files name i old (content_of (old name)) c.self.invariant.0 at made (resized c.args.len (content_of (old name)))

pub returns-clause-bytes : goal.returns-clause-bytes
returns-clause-bytes c =
    let names = c.self.inside.names.items in
    let files = c.self.inside.files.items in
    let name = c.args.name.now in
    let i = c.place-i.result in
    let at = subst (λ (h : CabinetHeld). IsAt h.names name i) (sym c.self.view_is) c.place-i.ensures.at in
    let old = file_in c.args.self.now in
    let made = ap file_in c.self.view_is ∙ c.place-i.ensures.file in
    let lt = at_within names name i at in
    let same = ap length (file_is names files name i old (content_of (old name)) c.self.invariant.0 at made) in
    let left = ap (λ (h : CabinetHeld). h.bytes_left) c.self.view_is in
    omega (arith, same, left, c.requires.bytes, c.place-i.ensures.bytes, c.cut.ensures.bytes)
