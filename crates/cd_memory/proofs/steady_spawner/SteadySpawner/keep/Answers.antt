use Rattle.std.proofs.Common.{List, [], ◌∷◌, ◌++◌, ◌∙◌, ap}
use Rattle.cd_outside.specs.Spawner.{Child}
use Rattle.cd_memory.specs.Children.{child_by}
use Rattle.cd_memory.specs.Ends.{children_by}
use Rattle.cd_memory.proofs.Kept.{children_push}
use Rattle.cd_memory.proofs.steady_spawner.SteadySpawner.keep.Goals as goal

pub returns-clause-kept : goal.returns-clause-kept
returns-clause-kept c =
    let old = c.room.new.self in
    (λ j. children_by (c.push_reserved.ensures.items j) (c.push.ensures.items j))
    ∙ children_push old.ways.items old.commands.items c.args.way c.args.command.now old.even
    ∙ ap (λ (l : List Child). l ++ child_by c.args.way c.args.command.now ∷ []) c.room.ensures.same.0
