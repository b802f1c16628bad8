use Rattle.std.proofs.Common.{ℕ, List, [], ◌∷◌, ◌∙◌}
use Rattle.std.specs.Prelude.{codes}
use Rattle.std.specs.Fmt.{decimal}
use Rattle.cd_drill.proofs.Joined.{joined}
use Rattle.cd_drill.proofs.report.write_head.Goals as goal

pub returns : goal.returns
returns c =
    joined c.args.into.now.items (codes "NODE ") c.args.name.now (codes " UP ENTRIES ") (decimal c.args.entries) (10 ∷ []) _ _ _ _
    c.in_ok-extend_from_slice.ensures.items c.in_ok-extend_from_slice-2.ensures.items c.in_ok-extend_from_slice-3.ensures.items (c.as_bytes.ensures.value ∙ c.in_ok-rest.ensures.ok)
