use Rattle.std.proofs.Common.{ℕ, ◌∙◌, ap}
use Rattle.cd_outside.specs.Shelf.{CutFile}
use Rattle.cd_outside.specs.Files.{files_did}
use Rattle.cd_memory.specs.MemoryFiles.{state_of}
use Rattle.cd_memory.proofs.CutOff.{cut_begun, last_is, raised_is}
use Rattle.cd_memory.proofs.files.MemoryFilesFiles.cut.Goals as goal

pub returns-in_default-fate-clause-cut_off : goal.returns-in_default-fate-clause-cut_off
returns-in_default-fate-clause-cut_off c =
    cut_begun c.args.name.now c.args.len c.args.beat.now c.fate-fate.new.beat (state_of c.args.self.now) _
    (raised_is c.args.self.now.stop.at c.args.beat.now c.fate-fate.new.beat c.begin-fails.result c.fate-fate.result c.fate-fate.ensures.fate c.in_default.not-Nothing c.fate-fate.ensures.beat)
    (c.in-Ok.ensures.done ∙ ap (λ (b : ℕ). files_did (CutFile c.args.name.now c.args.len) b (state_of c.args.self.now)) c.at.ensures.value)

pub returns-in_default-fate-clause-order : goal.returns-in_default-fate-clause-order
returns-in_default-fate-clause-order c =
    last_is (CutFile c.args.name.now c.args.len) c.fate-fate.new.beat (state_of c.args.self.now) _
    (c.in-Ok.ensures.done ∙ ap (λ (b : ℕ). files_did (CutFile c.args.name.now c.args.len) b (state_of c.args.self.now)) c.at.ensures.value)
