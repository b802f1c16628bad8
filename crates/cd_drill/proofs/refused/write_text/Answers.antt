use Rattle.std.proofs.Common.{ℕ, List, [], ◌∷◌, ◌∙◌}
use Rattle.std.specs.Prelude.{codes}
use Rattle.std.specs.Fmt.{decimal}
use Rattle.cd_drill.proofs.Joined.{joined}
use Rattle.cd_drill.proofs.refused.write_text.Goals as goal

pub returns : goal.returns
returns c =
    joined c.args.into.now.items (codes "REFUSED TEXT ") c.args.word.now (codes " ") (decimal c.args.at) (10 ∷ []) _ _ _ _
    c.in_ok-extend_from_slice.ensures.items c.in_ok-extend_from_slice-2.ensures.items c.in_ok-extend_from_slice-3.ensures.items (c.as_bytes.ensures.value ∙ c.in_ok-place.ensures.ok)
