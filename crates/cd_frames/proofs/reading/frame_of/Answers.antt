use Rattle.std.proofs.Common.{arith}
use Rattle.cd_frames.proofs.Fronts.{read_form, read_whole}
use Rattle.cd_frames.proofs.reading.frame_of.Goals as goal

pub returns-clause-form : goal.returns-clause-form
returns-clause-form c =
    read_form c.args.bytes.now c.frame_by_kind.result (λ i. omega (arith, c.type_inv.bytes i)) c.frame_by_kind.ensures

pub returns-clause-whole : goal.returns-clause-whole
returns-clause-whole c =
    read_whole c.args.bytes.now c.frame_by_kind.result (λ i. omega (arith, c.type_inv.bytes i)) c.frame_by_kind.ensures
