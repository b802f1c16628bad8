use Rattle.cd_memory_state.proofs.Sorted.{there_names}
use Rattle.cd_memory_state.proofs.shelves.Shelves.name.Goals as goal

pub returns-then-left-eq0-clause-names : goal.returns-then-left-eq0-clause-names
returns-then-left-eq0-clause-names c = there_names c.args.self.now.slots.items c.args.self.now.sorted

pub returns-clause-names : goal.returns-clause-names
returns-clause-names c = there_names c.args.self.now.slots.items c.args.self.now.sorted
