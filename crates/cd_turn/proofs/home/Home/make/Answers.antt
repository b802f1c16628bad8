use Rattle.std.proofs.Common.{◌≡◌, Err, ap, ◌∙◌}
use Rattle.cd_journal.specs.Bytes.{list_of}
use Rattle.cd_turn.specs.Home.{HomeState}
use Rattle.cd_turn.proofs.Homes.{made_home, made_fits, no_header_entries}
use Rattle.cd_turn.proofs.Loading.{unfit_moves}
use Rattle.cd_turn.proofs.home.Home.make.Goals as goal

pub returns-in-Ok-open-clause-home : goal.returns-in-Ok-open-clause-home
returns-in-Ok-open-clause-home g c = λ told.
    let disk = g.P.Disk.state c.open.new.disk in
    let none = no_header_entries c.args.self.now (g.P.Disk.state c.args.disk.now) (c.requires.home told) c.requires.header in
    made_home c.in-Ok-open.journal c.self.inside.entries.items disk (c.in-Ok-open.ensures.opens told) (c.in-Ok-open.ensures.same told ∙ (c.in-Ok.ensures.created told).seen)
    (ap (λ (home : HomeState). home.entries) c.self.view_is ∙ none)

pub returns-in-Err-open-clause-unfit : goal.returns-in-Err-open-clause-unfit
returns-in-Err-open-clause-unfit g c = λ told.
    let seen = (g.P.Disk.state c.create.new.disk).seen in
    unfit_moves c.in-Err-open.fault (λ at. list_of seen ≡ Err at) (λ at. ⊥) (made_fits seen (c.in-Ok.ensures.created told).seen) (c.in-Err-open.ensures.unfit told)
