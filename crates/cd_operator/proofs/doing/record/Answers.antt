use Rattle.std.proofs.Common.{◌≡◌, true, false, Ok, refl, ap}
use Rattle.cd_operator.proofs.Leaving.{still, kept_moments}
use Rattle.cd_operator.proofs.doing.record.Goals as goal

pub returns-in_default-clause-moments : goal.returns-in_default-clause-moments
returns-in_default-clause-moments g c = λ told. still _ _ _ _ _ (c.requires.home.registry told) (c.requires.home.order told) refl

pub returns-in-Ok-true-clause-moments : goal.returns-in-Ok-true-clause-moments
returns-in-Ok-true-clause-moments g c = λ told.
    let is = c.in-Ok-true.is in
    let test = c.in-Ok-true.field-0-test in
    let same : c.record.result ≡ Ok true = cc in
    kept_moments _ _ _ _ _ _ (c.record.ensures.kept same).0 (c.record.ensures.moments told (λ other. cc))

pub returns-in-Ok-false-clause-moments : goal.returns-in-Ok-false-clause-moments
returns-in-Ok-false-clause-moments g c = λ told.
    let is = c.in-Ok-false.is in
    let test = c.in-Ok-false.field-0-test in
    let same : c.record.result ≡ Ok false = cc in
    still _ _ _ _ _ (c.requires.home.registry told) (c.requires.home.order told) (ap g.D.Disk.state (c.record.ensures.refused same).2)

pub returns-clause-moments : goal.returns-clause-moments
returns-clause-moments g c = λ told.
    let is = c.in-Err.is in
    kept_moments _ _ _ _ _ _ (rw is at c.record.ensures.may) (c.record.ensures.moments told (λ other. cc))
