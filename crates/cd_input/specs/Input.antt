-- The commands of the input. A command begins at its first byte that is neither a blank nor in a comment, and ends with
-- the first `;` outside quotes and comments. A comment is `/* .. */`, or a line whose first byte is `*`; quoted text
-- ends at the byte that began it, and has no comments. A command's own first byte begins a line of it.
use Rattle.std.specs.Prelude.{◌≡◌, ℕ, ◌≤◌, List, [], ◌∷◌, ◌++◌, length, take, Bool, true, false, ◌||◌, ◌&&◌, ◌==◌, nat_le, nat_lt, if◌then◌else◌, Option, Some, None}
use Rattle.cd_input.specs.declared.input.Spot.{Spot}
use Rattle.cd_input.specs.declared.input.Spot.TheVariants.{LineStart, Inside, Slash, Quoted, Line, Comment, Star}

-- a blank, a tab, a line feed or a carriage return
abbrev pub is_blank : ℕ → Bool
is_blank b = b == 32 || b == 9 || b == 10 || b == 13

-- where a byte leads outside quotes and comments; start says whether it is a line's first
abbrev pub open_after : Bool → ℕ → Spot
open_after start b =
    if b == 10 then LineStart else if b == 42 && start then Line else if b == 47 then Slash else if b == 34 || b == 39 then Quoted b else Inside

-- where one byte more leads
abbrev pub spot_after : Spot → ℕ → Spot
spot_after LineStart b = open_after true b
spot_after Inside b = open_after false b
spot_after Slash b = if b == 42 then Comment else open_after false b
spot_after (Quoted q) b = if b == q then Inside else Quoted q
spot_after Line b = if b == 10 then LineStart else Line
spot_after Comment b = if b == 42 then Star else Comment
spot_after Star b = if b == 47 then Inside else if b == 42 then Star else Comment

-- outside quotes and comments
abbrev pub is_open : Spot → Bool
is_open LineStart = true
is_open Inside = true
is_open Slash = true
is_open _ = false

-- What the input has come to: between two commands, within one whose bytes so far these are, or behind one that is too
-- long, where nothing more is read.
pub data Scan : Type 0 where
  Between : Spot → Scan
  Within : Spot → List ℕ → Scan
  Over : Scan

-- What came to its end: a command; the room for one, before its `;` came; or the input, within a command or a comment.
pub data Event : Type 0 where
  Whole : List ℕ → Event
  TooLong : Event
  Unfinished : Event

-- one byte more of a command
abbrev pub within_after : Spot → List ℕ → ℕ → Scan × List Event
within_after spot text b =
    if nat_lt (length text) 70000
    then (if b == 59 && is_open spot then (Between Inside, Whole (text ++ b ∷ []) ∷ []) else (Within (spot_after spot b) (text ++ b ∷ []), []))
    else (Over, TooLong ∷ [])

-- A byte between two commands that begins none: a blank, or what is in a comment or may begin one.
abbrev pub stays_between : Spot → ℕ → Bool
stays_between LineStart b = is_blank b || b == 42 || b == 47
stays_between Inside b = is_blank b || b == 47
stays_between Slash b = b == 42
stays_between _ b = true

-- where a command's reader stands behind its begin, and what it has: the `/` that began no comment, or nothing
abbrev pub start_of : Spot → Spot × List ℕ
start_of Slash = (Slash, 47 ∷ [])
start_of _ = (LineStart, [])

-- one byte more between two commands
abbrev pub between_after : Spot → ℕ → Scan × List Event
between_after spot b =
    if stays_between spot b then (Between (spot_after spot b), []) else within_after (start_of spot).0 (start_of spot).1 b

abbrev pub scan_after : Scan → ℕ → Scan × List Event
scan_after (Between spot) b = between_after spot b
scan_after (Within spot text) b = within_after spot text b
scan_after Over b = (Over, [])

-- the commands that come to their end in these bytes, in order
abbrev pub events : Scan → List ℕ → List Event
events scan [] = []
events scan (b ∷ bytes) = (scan_after scan b).1 ++ events (scan_after scan b).0 bytes

-- what the input has come to behind these bytes
abbrev pub scanned : Scan → List ℕ → Scan
scanned scan [] = scan
scanned scan (b ∷ bytes) = scanned (scan_after scan b).0 bytes

-- the input's begin
abbrev pub begin : Scan
begin = Between LineStart

-- A rest at the input's end: a command that has begun, or a comment that isn't closed. A line's comment ends with the
-- input.
abbrev pub is_rest : Scan → Bool
is_rest (Between LineStart) = false
is_rest (Between Inside) = false
is_rest (Between Line) = false
is_rest Over = false
is_rest _ = true

-- what the input's end brings to its end
abbrev pub end_events : Scan → List Event
end_events scan = if is_rest scan then Unfinished ∷ [] else []

-- a command has as many bytes as it may, and its end hasn't come
abbrev pub is_full : Scan → Bool
is_full (Within spot text) = nat_le 70000 (length text)
is_full _ = false

-- what comes to its end where more bytes come than are read: a command that has all its room
abbrev pub limit_events : Scan → List Event
limit_events scan = if is_full scan then TooLong ∷ [] else []

-- All that comes to its end in an input of which so many bytes are read, in order: the commands in those bytes, and then what
-- the input's end brings to its end, or the limit.
abbrev pub all_events : ℕ → List ℕ → List Event
all_events most input =
    events begin (take most input) ++ (if nat_le (length input) most then end_events (scanned begin (take most input)) else limit_events (scanned begin (take most input)))

-- up to the first that passes the test, with it
abbrev pub upto_first : (Event → Bool) → List Event → List Event
upto_first test [] = []
upto_first test (event ∷ more) = if test event then event ∷ [] else event ∷ upto_first test more
