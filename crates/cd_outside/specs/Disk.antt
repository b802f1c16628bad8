-- What a disk tells of its content, and what each changing call makes of it.
use Rattle.std.specs.Prelude.{ℕ, ◌+◌, ◌<◌, ◌≡◌, ◌⊎◌, min, max, List, [], ◌∷◌, length, if◌then◌else◌, nat_lt, ◌==◌}
use Rattle.cd_outside.specs.Content.{resized, overwritten}
use Rattle.cd_outside.specs.Doubt.{Doubt, settled, IsImage}

-- a changing call: bytes written at a place, a cut to a length, or a sync
pub data Change : Type 0 where
  Write : ℕ → List ℕ → Change
  Cut : ℕ → Change
  Sync : Change

-- what a read gives after the change
abbrev pub seen_after : Change → List ℕ → List ℕ
seen_after (Write at bytes) seen = overwritten at bytes seen
seen_after (Cut len) seen = resized len seen
seen_after Sync seen = seen

-- what is in doubt while the change is under way
abbrev pub doubt_within : Change → Doubt → Doubt
doubt_within (Write at bytes) doubt = record doubt { ranges = (at, length bytes) ∷ doubt.ranges; greatest = max doubt.greatest (at + length bytes) }
doubt_within (Cut len) doubt = record doubt { least = min doubt.least len; greatest = max doubt.greatest len }
doubt_within Sync doubt = doubt

-- and after it
abbrev pub doubt_after : Change → List ℕ → Doubt → Doubt
doubt_after (Write at bytes) seen doubt = doubt_within (Write at bytes) doubt
doubt_after (Cut len) seen doubt = doubt_within (Cut len) doubt
doubt_after Sync seen doubt = settled seen

-- a changing call of the past: the beat to which it raised, what was in doubt before it, and what was while it was
-- under way
pub record Call : Type 0 where
  pub beat : ℕ
  pub before : Doubt
  pub within : Doubt

-- what a read gives, what is in doubt now, and the changing calls so far, the newest first
pub record DiskState : Type 0 where
  pub seen : List ℕ
  pub doubt : Doubt
  pub calls : List Call

-- the beat of the newest call
abbrev pub last_of : List Call → ℕ
last_of [] = 0
last_of (call ∷ calls) = call.beat

-- what was in doubt at a beat: what the call under way at it put in doubt, else what the last call before it left
abbrev pub doubt_of : Doubt → List Call → ℕ → Doubt
doubt_of now [] beat = now
doubt_of now (call ∷ calls) beat =
    if nat_lt call.beat beat then now else if call.beat == beat then call.within else doubt_of call.before calls beat

-- a crash at that beat may have left this
abbrev pub LeftAt : DiskState → ℕ → List ℕ → Type 0
LeftAt state beat image = IsImage (doubt_of state.doubt state.calls beat) image

-- the state after a change that was done
abbrev pub did : Change → ℕ → DiskState → DiskState
did change beat state = record {
  seen = seen_after change state.seen;
  doubt = doubt_after change state.seen state.doubt;
  calls = (record { beat = beat; before = state.doubt; within = doubt_within change state.doubt }) ∷ state.calls;
}

-- a change was begun and not finished: a read gives something that is in doubt
pub record WasBegun (change : Change) (beat : ℕ) (before after : DiskState) : Type 0 where
  pub doubt : after.doubt ≡ doubt_within change before.doubt
  pub calls : after.calls ≡ (record { beat = beat; before = before.doubt; within = doubt_within change before.doubt }) ∷ before.calls

-- a changing call failed: nothing was changed, or the beat was raised and the change was begun
abbrev pub WasCutOff : Change → ℕ → ℕ → DiskState → DiskState → Type 0
WasCutOff change from to before after = (after ≡ before) ⊎ ((from < to) × WasBegun change to before after)
