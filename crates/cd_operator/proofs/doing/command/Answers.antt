use Rattle.std.proofs.Common.{refl}
use Rattle.cd_operator.proofs.Leaving.{still}
use Rattle.cd_operator.proofs.doing.command.Goals as goal

pub returns-in-Ok-Err-clause-moments : goal.returns-in-Ok-Err-clause-moments
returns-in-Ok-Err-clause-moments g c = λ told. still _ _ _ _ _ (c.requires.home.registry told) (c.requires.home.order told) refl

pub returns-in-Err-clause-moments : goal.returns-in-Err-clause-moments
returns-in-Err-clause-moments g c = λ told. still _ _ _ _ _ (c.requires.home.registry told) (c.requires.home.order told) refl
