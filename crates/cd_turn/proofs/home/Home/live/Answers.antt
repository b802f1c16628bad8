use Rattle.std.proofs.Common.{◌≡◌, ap, sym, ◌∙◌}
use Rattle.cd_turn.specs.Entries.{submitted_in}
use Rattle.cd_turn.specs.Home.{HomeState}
use Rattle.cd_turn.proofs.Legality.{live-legal}
use Rattle.cd_turn.proofs.home.Home.live.Goals as goal

pub returns-clause-live : goal.returns-clause-live
returns-clause-live c =
    c.self.invariant.numbers ∙ ap (λ (home : HomeState). submitted_in home.entries) c.self.view_is ∙ sym (live-legal c.args.self.now.entries c.requires)
