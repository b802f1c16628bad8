use Rattle.std.proofs.Common.{◌≡◌, ◌∙◌}
use Rattle.cd_memory_state.specs.Steps.{stepped, no_files}
use Rattle.cd_memory_state.proofs.Logged.{stepped_push}
use Rattle.cd_memory_state.proofs.log.Log.add.Goals as goal

pub returns-clause-state : goal.returns-clause-state
returns-clause-state c =
    let a = c.args.self.now in
    (λ j. stepped (c.push_reserved.ensures.items j) (c.push.ensures.items j) (c.push-2.ensures.items j) no_files)
    ∙ stepped_push a.steps.items (record { beat = c.args.beat; change = c.args.change }) a.names.items a.bytes.items c.args.name.now c.args.bytes.now no_files a.named a.filled
