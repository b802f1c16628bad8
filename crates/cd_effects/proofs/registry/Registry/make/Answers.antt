use Rattle.std.proofs.Common.{◌∙◌}
use Rattle.cd_journal.specs.Journal.{Held}
use Rattle.cd_effects.specs.Registry.{RegistryState}
use Rattle.cd_effects.proofs.Recording.{made_registry, made_fits, made_moments}
use Rattle.cd_effects.proofs.registry.Registry.make.Goals as goal

pub returns-in-Ok-open-clause-registry : goal.returns-in-Ok-open-clause-registry
returns-in-Ok-open-clause-registry g c = λ told.
    made_registry c.in-Ok-open.journal c.new.result.entries (g.P.Disk.state c.open.new.disk) (c.in-Ok-open.ensures.opens told) (c.open.ensures.same told ∙ (c.in-Ok.ensures.created told).seen) c.new.ensures

pub returns-in-Ok-open-clause-moments : goal.returns-in-Ok-open-clause-moments
returns-in-Ok-open-clause-moments g c = λ told.
    made_moments (g.P.Disk.state c.args.disk.now) (g.P.Disk.state c.create.new.disk) (g.P.Disk.state c.open.new.disk) c.args.beat.now c.create.new.beat
    (c.requires.rests told) (c.in-Ok.ensures.created told) c.create.ensures.beat (c.create.ensures.moments told) (c.open.ensures.moments told)

pub returns-in-Err-open-clause-unfit : goal.returns-in-Err-open-clause-unfit
returns-in-Err-open-clause-unfit g c = λ told.
    made_fits Held RegistryState c.in-Err-open.fault (g.P.Disk.state c.create.new.disk).seen (c.in-Ok.ensures.created told).seen (c.in-Err-open.ensures.unfit told)

pub returns-in-Err-open-clause-moments : goal.returns-in-Err-open-clause-moments
returns-in-Err-open-clause-moments g c = λ told.
    made_moments (g.P.Disk.state c.args.disk.now) (g.P.Disk.state c.create.new.disk) (g.P.Disk.state c.open.new.disk) c.args.beat.now c.create.new.beat
    (c.requires.rests told) (c.in-Ok.ensures.created told) c.create.ensures.beat (c.create.ensures.moments told) (c.open.ensures.moments told)
