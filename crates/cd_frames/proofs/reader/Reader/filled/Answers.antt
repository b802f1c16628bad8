use Rattle.std.proofs.Common.{ap, sym, ◌∙◌}
use Rattle.std.proofs.lemmas.List.{drop-drop}
use Rattle.cd_frames.specs.Buffer.{between, given_in}
use Rattle.cd_frames.specs.Reading.{with_filled}
use Rattle.cd_frames.proofs.Buffers.{grown}
use Rattle.cd_frames.proofs.reader.Reader.filled.Goals as goal

pub returns : goal.returns
returns c =
    let b = c.self.inside in
    let rest = grown b.buffer.items b.start b.end c.args.n c.self.invariant.order in
    let free = sym (drop-drop c.args.n b.end b.buffer.items) in
    (λ i. record { place = b.place; given = given_in (between b.last b.start b.buffer.items); rest = rest i; free = free i }) ∙ ap (λ r. with_filled r c.args.n) c.self.view_is
