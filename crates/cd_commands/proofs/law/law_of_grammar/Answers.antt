use Rattle.cd_commands.specs.Machine.{Whole, Text, Begin}
use Rattle.cd_commands.specs.Grammar.{First}
use Rattle.cd_commands.proofs.Complete.{complete}
use Rattle.cd_commands.proofs.Sound.{sound}
use Rattle.cd_commands.proofs.law.law_of_grammar.Goals as goal

pub returns-clause-sound : goal.returns-clause-sound
returns-clause-sound c = λ len tokens command e. sound len tokens (Whole command) tt Begin e

pub returns-clause-sound_text : goal.returns-clause-sound_text
returns-clause-sound_text c = λ len tokens rest given at e. sound len tokens (Text given at rest) tt Begin e

pub returns-clause-complete : goal.returns-clause-complete
returns-clause-complete c = λ len tokens x rest. complete len First tokens x rest
