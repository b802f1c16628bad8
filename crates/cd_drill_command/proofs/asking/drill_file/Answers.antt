use Rattle.std.proofs.Common.{◌≡◌, ℕ, List, Option, Some, sym, ap, subst, ◌∙◌}
use Rattle.cd_drill_command.specs.Asked.{IsRead}
use Rattle.cd_drill_command.proofs.Since.{drilled_since}
use Rattle.cd_drill_command.proofs.asking.drill_file.Goals as goal

-- the file's bytes were drilled
pub returns-in-Ok-clause-shown : goal.returns-in-Ok-clause-shown
returns-in-Ok-clause-shown g c =
    let held : Option (List ℕ) = (g.F.Files.state c.args.files.now).shelf.seen c.args.name.now in
    let is : g.F.Files.observable → held ≡ Some c.in-Ok-Text.script = λ told. subst (IsRead held) c.in-Ok-Text.field-0-is (c.in-Ok-Text.ensures.read told) in
    drilled_since (Unit {0}) g.F.Files.observable (Some c.as_slice.result.now) held (λ told. tt)
    (λ told. ap (λ (bytes : List ℕ). Some bytes) c.as_slice.ensures ∙ sym (is told)) c.in-Ok.shown c.in-Ok.ensures.shown
