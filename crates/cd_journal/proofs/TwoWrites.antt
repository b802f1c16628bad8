-- The two steps of an append, one after the other.
use Rattle.std.proofs.Common.{List, ℕ, ◌+◌, ◌≤◌, ◌∷◌, [], length, inl, inr, ap, subst, ◌≡◌}
use Rattle.cd_outside.specs.Content.{overwritten}
use Rattle.cd_outside.specs.Disk.{DiskState, LeftAt}
use Rattle.cd_outside.specs.Moments.{Moments}
use Rattle.cd_outside.specs.Through.{IsSettledAs, IsTorn}
use Rattle.cd_outside.proofs.Runs.{moments_then, moments_weaker}
use Rattle.cd_journal.specs.Writing.{staged, opened, IsTornEntry}

module _ (gate : ℕ) (block : List ℕ) (before middle after : DiskState) where
  middle_seen : IsSettledAs (overwritten (gate + 1) block before.seen) middle → middle.seen ≡ staged gate block before.seen
  unfolding staged
  middle_seen done = done.seen

  pub entry_moments : (from to : ℕ) → IsSettledAs (overwritten (gate + 1) block before.seen) middle → from ≤ to → Moments (LeftAt before) (LeftAt middle) from (IsTorn (gate + 1) (length block) before.seen)
      → Moments (LeftAt middle) (LeftAt after) to (IsTorn gate 1 middle.seen) → Moments (LeftAt before) (LeftAt after) from (IsTornEntry gate block before.seen)
  entry_moments from to done order first second =
      moments_then (LeftAt before) (LeftAt middle) (LeftAt after) from to (IsTornEntry gate block before.seen) order
      (moments_weaker (LeftAt before) (LeftAt middle) from (IsTorn (gate + 1) (length block) before.seen) (IsTornEntry gate block before.seen) (λ image torn. inl torn) first)
      (moments_weaker (LeftAt middle) (LeftAt after) to (IsTorn gate 1 middle.seen) (IsTornEntry gate block before.seen) (λ image torn. inr (subst (λ (l : List ℕ). IsTorn gate 1 l image) (middle_seen done) torn)) second)

  pub entry_done : IsSettledAs (overwritten (gate + 1) block before.seen) middle → IsSettledAs (overwritten gate (1 ∷ []) middle.seen) after → IsSettledAs (opened gate block before.seen) after
  unfolding staged opened
  entry_done first second =
      let same : overwritten gate (1 ∷ []) middle.seen ≡ overwritten gate (1 ∷ []) (staged gate block before.seen) = ap (overwritten gate (1 ∷ [])) first.seen in
      subst (λ (l : List ℕ). IsSettledAs l after) same second
