use Rattle.cd_protocol.specs.Seen.{seen_effect}
use Rattle.cd_effects.proofs.Recording.{unchanged_by}
use Rattle.cd_effects.proofs.act.act.Goals as goal

pub returns-in-Ok-begin-clause-moments : goal.returns-in-Ok-begin-clause-moments
returns-in-Ok-begin-clause-moments g c = λ told. unchanged_by (seen_effect c.args.effect) c.args.registry.now (g.D.Disk.state c.args.disk.now) c.args.beat.now (c.requires.registry told) (c.requires.order told)

pub returns-in-Begin-clause-moments : goal.returns-in-Begin-clause-moments
returns-in-Begin-clause-moments g c = λ told. unchanged_by (seen_effect c.args.effect) c.args.registry.now (g.D.Disk.state c.args.disk.now) c.args.beat.now (c.requires.registry told) (c.requires.order told)

pub returns-in-Ok-go-clause-moments : goal.returns-in-Ok-go-clause-moments
returns-in-Ok-go-clause-moments g c = λ told. unchanged_by (seen_effect c.args.effect) c.args.registry.now (g.D.Disk.state c.args.disk.now) c.args.beat.now (c.requires.registry told) (c.requires.order told)

pub returns-in-Go-clause-moments : goal.returns-in-Go-clause-moments
returns-in-Go-clause-moments g c = λ told. unchanged_by (seen_effect c.args.effect) c.args.registry.now (g.D.Disk.state c.args.disk.now) c.args.beat.now (c.requires.registry told) (c.requires.order told)

pub returns-in-Write-clause-moments : goal.returns-in-Write-clause-moments
returns-in-Write-clause-moments g c = λ told. unchanged_by (seen_effect c.args.effect) c.args.registry.now (g.D.Disk.state c.args.disk.now) c.args.beat.now (c.requires.registry told) (c.requires.order told)

pub returns-in-Cut-clause-moments : goal.returns-in-Cut-clause-moments
returns-in-Cut-clause-moments g c = λ told. unchanged_by (seen_effect c.args.effect) c.args.registry.now (g.D.Disk.state c.args.disk.now) c.args.beat.now (c.requires.registry told) (c.requires.order told)

pub returns-in-Sync-clause-moments : goal.returns-in-Sync-clause-moments
returns-in-Sync-clause-moments g c = λ told. unchanged_by (seen_effect c.args.effect) c.args.registry.now (g.D.Disk.state c.args.disk.now) c.args.beat.now (c.requires.registry told) (c.requires.order told)

pub returns-clause-moments : goal.returns-clause-moments
returns-clause-moments g c = λ told. unchanged_by (seen_effect c.args.effect) c.args.registry.now (g.D.Disk.state c.args.disk.now) c.args.beat.now (c.requires.registry told) (c.requires.order told)
