-- Lines that counted nothing so far.
use Rattle.std.specs.Prelude.{ℕ, ◌≡◌}
use Rattle.cd_outside.specs.Lines.{LineCounts}

-- each count is 0
pub record AreZero (counts : LineCounts) : Type 0 where
  pub faults : (session : ℕ) → counts.faults session ≡ 0
  pub connects : counts.connects ≡ 0
  pub accepts : counts.accepts ≡ 0
  pub ends : (session : ℕ) → counts.ends session ≡ 0
  pub nones : counts.nones ≡ 0
