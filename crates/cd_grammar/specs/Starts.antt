-- Days and times of STARTT.
use Rattle.std.specs.Prelude.{ℕ, ◌+◌, ◌-◌, ◌*◌, ◌%◌, List, [], ◌∷◌, Bool, ◌&&◌, ◌==◌, nat_le, length, take, drop, codes, Option, Some, None, if◌then◌else◌}
use Rattle.std.specs.Char.{is_ascii_digit}
use Rattle.cd_types.specs.declared.start.Day.{Day}
use Rattle.cd_types.specs.declared.start.Day.TheVariants as day
use Rattle.cd_grammar.specs.declared.step.Clock.{Clock}
use Rattle.cd_grammar.specs.Answers.{Answer, Fits, Wrong, ranged}
use Rattle.cd_grammar.specs.Words.{is_word, said_in, or_else}

-- two digits, and the number that they write
unfoldable pub are_two : ℕ → ℕ → Bool
are_two a b = is_ascii_digit a && is_ascii_digit b

unfoldable pub two : ℕ → ℕ → ℕ
two a b = 10 * (a - 48) + (b - 48)

-- mm/dd/yyyy, whether the calendar has such a day or not
unfoldable pub date_in : List ℕ → Option Day
date_in (m ∷ n ∷ s ∷ d ∷ e ∷ t ∷ x ∷ y ∷ z ∷ w ∷ []) =
    if are_two m n && s == 47 && are_two d e && t == 47 && are_two x y && are_two z w then Some (day.Date (100 * two x y + two z w) (two m n) (two d e)) else None
date_in _ = None

-- the days that have a name; Monday is the first of the week
abbrev pub named_days : List (List ℕ × Day)
named_days =
    (codes "TODAY", day.Today) ∷ (codes "TOMORROW", day.Tomorrow) ∷ (codes "MONDAY", day.Weekday 0) ∷ (codes "TUESDAY", day.Weekday 1) ∷ (codes "WEDNESDAY", day.Weekday 2) ∷ (codes "THURSDAY", day.Weekday 3) ∷ (codes "FRIDAY", day.Weekday 4) ∷ (codes "SATURDAY", day.Weekday 5) ∷ (codes "SUNDAY", day.Weekday 6) ∷ []

-- a day: one with a name, or a date
unfoldable pub day_in : List ℕ → Option Day
day_in word = or_else (said_in named_days word) (date_in word)

abbrev pub clock_if : Bool → ℕ → ℕ → ℕ → Option Clock
clock_if fits hours minutes seconds = if fits then Some (record { hours = hours; minutes = minutes; seconds = seconds }) else None

-- minutes, and perhaps seconds, behind so many hours: nn, or nn:nn
unfoldable pub minutes_in : ℕ → List ℕ → Option Clock
minutes_in hours (m ∷ n ∷ []) = clock_if (are_two m n) hours (two m n) 0
minutes_in hours (m ∷ n ∷ d ∷ s ∷ t ∷ []) = clock_if (are_two m n && d == 58 && are_two s t) hours (two m n) (two s t)
minutes_in hours _ = None

-- a time whose hour has two digits
unfoldable pub long_clock : List ℕ → Option Clock
long_clock (g ∷ h ∷ c ∷ rest) = if are_two g h && c == 58 then minutes_in (two g h) rest else None
long_clock _ = None

-- a time: n:nn, nn:nn, n:nn:nn or nn:nn:nn
unfoldable pub clock_in : List ℕ → Option Clock
clock_in (h ∷ c ∷ rest) = if is_ascii_digit h && c == 58 then minutes_in (h - 48) rest else long_clock (h ∷ c ∷ rest)
clock_in _ = None

-- the half of the day: AM is 0, PM is 1
unfoldable pub half_in : List ℕ → Option ℕ
half_in word = said_in ((codes "AM", 0) ∷ (codes "PM", 1) ∷ []) word

-- the seconds of the day at so many hours, minutes and seconds
abbrev pub seconds_of : ℕ → ℕ → ℕ → ℕ
seconds_of hours minutes seconds = hours * 3600 + minutes * 60 + seconds

abbrev pub has_minutes : Clock → Bool
has_minutes clock = nat_le clock.minutes 59 && nat_le clock.seconds 59

-- a time of 24 hours
unfoldable pub plain_time : Clock → Answer ℕ
plain_time clock = ranged (nat_le clock.hours 23 && has_minutes clock) (seconds_of clock.hours clock.minutes clock.seconds)

-- a time in a half of the day, whose hour is 1 to 12; 12 stands for 0
unfoldable pub half_time : Clock → ℕ → Answer ℕ
half_time clock half =
    ranged (nat_le 1 clock.hours && nat_le clock.hours 12 && has_minutes clock) (seconds_of (clock.hours % 12 + 12 * half) clock.minutes clock.seconds)

abbrev pub half_or_wrong : Option Clock → ℕ → Answer ℕ
half_or_wrong None half = Wrong
half_or_wrong (Some clock) half = half_time clock half

-- a time with its half directly behind it
abbrev pub time_with : List ℕ → Option ℕ → Answer ℕ
time_with word (Some half) = half_or_wrong (clock_in (take (length word - 2) word)) half
time_with word None = Wrong

-- a time in one word, which isn't one of 24 hours: NOON, MIDNIGHT, or one with its half directly behind it
unfoldable pub named_time : List ℕ → Answer ℕ
named_time word =
    if is_word word (codes "NOON") then Fits 43200
    else (if is_word word (codes "MIDNIGHT") then Fits 0
    else time_with word (half_in (drop (length word - 2) word)))

abbrev pub time_by : Option Clock → List ℕ → Answer ℕ
time_by (Some clock) word = plain_time clock
time_by None word = named_time word

-- a time in one word, in seconds of the day
abbrev pub time_in : List ℕ → Answer ℕ
time_in word = time_by (clock_in word) word
