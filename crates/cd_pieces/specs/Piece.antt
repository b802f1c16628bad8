-- The pieces in which a source is sent, one after the other.
use Rattle.std.specs.Prelude.{◌≡◌, ℕ, ◌+◌, ◌*◌, ◌/◌, ◌<◌, ◌⊎◌, min, true, false, ◌==◌, if◌then◌else◌}
use Rattle.cd_outside.specs.Cuts.{is_cut}

-- the next multiple of the interval behind an offset, and the length where there are no marks
abbrev pub next_multiple : ℕ → ℕ → ℕ → ℕ
next_multiple len interval offset = if interval == 0 then len else (offset / interval + 1) * interval

-- where the piece ends that begins at an offset: after block bytes, at the next multiple of the interval, or at the end,
-- whichever comes first
abbrev pub piece_end : ℕ → ℕ → ℕ → ℕ → ℕ
piece_end len block interval offset = min (min (offset + block) (next_multiple len interval offset)) len

-- a place at which a piece begins or ends: the start, or a cut behind it
abbrev pub IsReached : ℕ → ℕ → ℕ → ℕ → ℕ → Type 0
IsReached len block interval start offset = (offset ≡ start) ⊎ (is_cut len block interval start offset ≡ true)

-- the first cut behind an offset
pub record IsNextCut (len block interval start offset end : ℕ) : Type 0 where
  pub further : offset < end
  pub cut : is_cut len block interval start end ≡ true
  pub none_between : (place : ℕ) → offset < place → place < end → is_cut len block interval start place ≡ false
