use Rattle.std.proofs.Common.{ℕ, List, [], ◌∷◌, ◌∙◌}
use Rattle.std.specs.Prelude.{codes}
use Rattle.std.specs.Fmt.{decimal}
use Rattle.cd_drill.proofs.Joined.{joined}
use Rattle.cd_drill.proofs.reply.write_home.Goals as goal

pub returns : goal.returns
returns c =
    joined c.args.into.now.items (codes "HOME ") c.args.name.now (codes " ") (decimal c.args.home) (10 ∷ []) _ _ _ _
    c.in_ok-extend_from_slice.ensures.items c.in_ok-extend_from_slice-2.ensures.items c.in_ok-extend_from_slice-3.ensures.items (c.as_bytes.ensures.value ∙ c.in_ok-number.ensures.ok)
