-- What is kept of sessions, whose numbers count from 1, in lists of their own.
use Rattle.std.specs.Prelude.{ℕ, List, [], zero, suc, slice_index, slice_index_or}
use Rattle.cd_outside.specs.Lines.{Traffic}

-- the bytes of the session of that number, none where there is no such session
abbrev pub bytes_of : List (List ℕ) → ℕ → List ℕ
bytes_of parts zero = []
bytes_of parts (suc i) = slice_index_or parts i []

-- its count
abbrev pub count_of : List ℕ → ℕ → ℕ
count_of counts zero = 0
count_of counts (suc i) = slice_index_or counts i 0

-- what the sessions tell, with the order of the sends
abbrev pub numbered : List (List ℕ) → List (List ℕ) → List ℕ → Traffic
numbered taken given sends = record { taken = bytes_of taken; given = bytes_of given; sends = sends }
