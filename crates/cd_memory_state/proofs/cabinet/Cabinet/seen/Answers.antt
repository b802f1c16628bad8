use Rattle.std.proofs.Common.{Some, sym, ◌∙◌, ap}
use Rattle.cd_memory_state.specs.Cabinet.{CabinetHeld, file_in}
use Rattle.cd_memory_state.proofs.Named.{at_is, absent_is, file_at, file_none}
use Rattle.cd_memory_state.proofs.cabinet.Cabinet.seen.Goals as goal

pub returns-in-Some : goal.returns-in-Some
returns-in-Some c =
    let names = c.self.inside.names.items in
    let files = c.self.inside.files.items in
    let name = c.args.name.now in
    ap Some c.part.ensures.part ∙ sym (file_at names files name c.in-Some.i c.self.invariant.0 (at_is names name c.in-Some.i (sym c.in-Some.ensures.place))) ∙ ap (λ (h : CabinetHeld). file_in h name) c.self.view_is

pub returns-in-None : goal.returns-in-None
returns-in-None c =
    let names = c.self.inside.names.items in
    let files = c.self.inside.files.items in
    let name = c.args.name.now in
    sym (file_none names files name (absent_is names name 0 (sym c.in-None.ensures.place))) ∙ ap (λ (h : CabinetHeld). file_in h name) c.self.view_is
