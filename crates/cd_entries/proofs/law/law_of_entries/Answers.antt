use Rattle.cd_entries.proofs.EntryLaw.{entry_only}
use Rattle.cd_entries.proofs.law.law_of_entries.Goals as goal

pub returns-clause-only : goal.returns-clause-only
returns-clause-only c = entry_only
