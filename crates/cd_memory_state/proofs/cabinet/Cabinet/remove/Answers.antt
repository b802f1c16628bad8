use Rattle.std.proofs.Common.{◌≡◌, ℕ, ◌<◌, List, length, None, sym, ◌∙◌, ap, arith}
use Rattle.std.proofs.lemmas.List.Edits.{length-remove}
use Rattle.cd_outside.specs.Shelf.{put}
use Rattle.cd_memory_state.specs.Cabinet.{CabinetHeld, file_in, file_under}
use Rattle.cd_memory_state.specs.Names.{are_ascending}
use Rattle.cd_memory_state.proofs.Named.{at_is, absent_is, at_within, file_none, file_remove, ascending-remove}
use Rattle.cd_memory_state.proofs.Cabinets.{put_again}
use Rattle.cd_memory_state.proofs.cabinet.Cabinet.remove.Goals as goal

pub invariant_of-self : goal.invariant_of-self
invariant_of-self c =
    let names = c.self.inside.names.items in
    let files = c.self.inside.files.items in
    let name = c.args.name.now in
    let i = c.in-Some.i in
    let at = at_is names name i (sym c.in-Some.ensures.place) in
    let lt : i < length names = at_within names name i at in (
      omega (arith, ap length c.remove.ensures.items, length-remove names i lt, ap length c.remove-in-Some.ensures.items, length-remove files i (omega (arith, lt, c.self.invariant.0)), c.self.invariant.0),
      ap are_ascending c.remove.ensures.items ∙ ascending-remove names i c.self.invariant.1,
    )

pub returns-in-Some-clause-file : goal.returns-in-Some-clause-file
returns-in-Some-clause-file c =
    let names = c.self.inside.names.items in
    let files = c.self.inside.files.items in
    let name = c.args.name.now in
    let i = c.in-Some.i in
    let at = at_is names name i (sym c.in-Some.ensures.place) in
    (λ j. file_under (c.remove.ensures.items j) (c.remove-in-Some.ensures.items j))
    ∙ (λ j other. file_remove names files name i c.self.invariant.0 at c.self.invariant.1 other j)
    ∙ ap (λ (h : CabinetHeld). put name None (file_in h)) c.self.view_is

pub returns-in-None-clause-file : goal.returns-in-None-clause-file
returns-in-None-clause-file c =
    let names = c.self.inside.names.items in
    let files = c.self.inside.files.items in
    let name = c.args.name.now in
    put_again (file_in c.args.self.now) name None (sym (ap (λ (h : CabinetHeld). file_in h name) c.self.view_is) ∙ file_none names files name (absent_is names name 0 (sym c.in-None.ensures.place)))
