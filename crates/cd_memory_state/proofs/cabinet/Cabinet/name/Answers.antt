use Rattle.std.proofs.Common.{length, sym, ap, subst, arith}
use Rattle.cd_memory_state.specs.Cabinet.{CabinetHeld, file_in}
use Rattle.cd_memory_state.specs.Names.{AreNames}
use Rattle.cd_memory_state.proofs.Named.{file_each, get_past}
use Rattle.cd_memory_state.proofs.cabinet.Cabinet.name.Goals as goal

pub returns-then-i-count-clause-names : goal.returns-then-i-count-clause-names
returns-then-i-count-clause-names c =
    subst (λ (h : CabinetHeld). AreNames h.names (file_in h)) c.self.view_is (record { ascending = c.self.invariant.1; each = λ name. file_each c.self.inside.names.items c.self.inside.files.items name c.self.invariant.0 })

pub returns-else-i-count-clause-name : goal.returns-else-i-count-clause-name
returns-else-i-count-clause-name c =
    sym (get_past c.args.self.now.names c.args.i (omega (arith, ap (λ (h : CabinetHeld). length h.names) c.self.view_is, c.count.ensures, c.if-i-count.false)))

pub returns-else-i-count-clause-names : goal.returns-else-i-count-clause-names
returns-else-i-count-clause-names c =
    subst (λ (h : CabinetHeld). AreNames h.names (file_in h)) c.self.view_is (record { ascending = c.self.invariant.1; each = λ name. file_each c.self.inside.names.items c.self.inside.files.items name c.self.invariant.0 })
