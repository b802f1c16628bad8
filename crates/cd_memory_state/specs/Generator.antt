-- The generator of drills, and the images of a crash that it makes.
use Rattle.std.specs.Prelude.{ℕ, ◌+◌, ◌-◌, ◌*◌, ◌/◌, ◌%◌, Bool, ◌||◌, ◌&&◌, if◌then◌else◌, nat_le, nat_lt, List, [], ◌∷◌, zero, suc, slice_index}
use Rattle.std.specs.List.{list_any}
use Rattle.cd_outside.specs.Doubt.{Doubt}

-- the number of the generator after one step
abbrev pub step : ℕ → ℕ
step x = (x * 6364136223846793005 + 1442695040888963407) % 18446744073709551616

-- what a draw below m gives of that number
abbrev pub drawn : ℕ → ℕ → ℕ
drawn x m = x / 8589934592 % m

-- a range holds the place
abbrev pub is_within : ℕ → ℕ × ℕ → Bool
is_within place range = nat_le range.0 place && nat_lt (place - range.0) range.1

-- the byte at a place is in doubt
abbrev pub is_doubtful : Doubt → ℕ → Bool
is_doubtful doubt place = nat_le doubt.least place || list_any (is_within place) doubt.ranges

-- the byte of an image at a place: drawn where it is in doubt, else that of the last sync
abbrev pub byte_at : Doubt → ℕ → ℕ → ℕ
byte_at doubt x place = if is_doubtful doubt place then drawn (step x) 256 else slice_index doubt.base place

-- and the number of the generator after it
abbrev pub number_at : Doubt → ℕ → ℕ → ℕ
number_at doubt x place = if is_doubtful doubt place then step x else x

-- so many bytes of an image from a place on
abbrev pub bytes_from : Doubt → ℕ → ℕ → ℕ → List ℕ
bytes_from doubt x place zero = []
bytes_from doubt x place (suc count) = byte_at doubt x place ∷ bytes_from doubt (number_at doubt x place) (place + 1) count

-- the image of a generator's number: its length is drawn first, and then each byte in doubt, in order of place
abbrev pub image_from : ℕ → Doubt → List ℕ
image_from x doubt = bytes_from doubt (step x) 0 (doubt.least + drawn (step x) (doubt.greatest - doubt.least + 1))

-- the image of that number: 0 is the last sync, 1 what a read gives, and each other one is generated
abbrev pub left_by : ℕ → Doubt → List ℕ → List ℕ
left_by zero doubt seen = doubt.base
left_by (suc zero) doubt seen = seen
left_by (suc (suc n)) doubt seen = image_from (suc (suc n)) doubt
