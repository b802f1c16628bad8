use Rattle.std.proofs.Common.{◌||◌, Bool, sym, ◌∙◌, ap}
use Rattle.std.specs.Prelude.{reverse}
use Rattle.std.specs.List.{list_any}
use Rattle.std.proofs.lemmas.Bool.{lt-leb}
use Rattle.cd_memory_state.specs.Generator.{is_within}
use Rattle.cd_memory_state.proofs.Doubtful.{list_any_reverse}
use Rattle.cd_memory_state.proofs.image.is_doubtful.Goals as goal

pub returns-else-place-doubt : goal.returns-else-place-doubt
returns-else-place-doubt c =
    let ranges = c.args.doubt.ranges.now in
    let within = is_within c.args.place in
    c.is_written.ensures ∙ sym (list_any_reverse within ranges)
    ∙ sym (ap (λ (b : Bool). b || list_any within (reverse ranges)) (lt-leb c.args.doubt.least c.args.place c.if-place-doubt.false))
