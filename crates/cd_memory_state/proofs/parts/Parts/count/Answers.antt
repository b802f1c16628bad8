use Rattle.std.proofs.Common.{List, ℕ, length, ap, arith}
use Rattle.cd_memory_state.specs.Parts.{PartsHeld}
use Rattle.cd_memory_state.proofs.CutUp.{length-cut_up}
use Rattle.cd_memory_state.proofs.parts.Parts.count.Goals as goal

pub returns : goal.returns
returns c =
    let a = c.self.inside in
    omega (arith, c.len.ensures, ap (λ (h : PartsHeld). length h.items) c.self.view_is, length-cut_up a.sizes.items a.bytes.items, a.sizes.ok.0)
