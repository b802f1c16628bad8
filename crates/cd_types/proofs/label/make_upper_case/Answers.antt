use Rattle.std.proofs.Common.{◌<◌, length, get_or, arith}
use Rattle.std.specs.Char.{to_ascii_uppercase}
use Rattle.std.proofs.lemmas.List.{get_or_default}
use Rattle.std.proofs.lemmas.List.Edits.{map_over_more}
use Rattle.cd_types.proofs.label.make_upper_case.Goals as goal

pub loop-byte-preserved : goal.loop-byte-preserved
loop-byte-preserved c =
    let within : c.loop-byte.byte-index < length c.args.text.now = omega arith in
    let more = map_over_more to_ascii_uppercase c.args.text.now c.loop-byte.text c.loop-byte.byte-index (get_or c.loop-byte.text c.loop-byte.byte-index 0) within c.loop-byte.invariant (get_or_default c.loop-byte.text c.loop-byte.byte-index 0 _ (omega arith)) in
    rw c.to_ascii_uppercase.ensures.value more
