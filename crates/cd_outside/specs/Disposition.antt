-- What a copy makes of its destination, by its disposition. (Process Language Reference: COPY, DISP.)
use Rattle.std.specs.Prelude.{ℕ, List, [], ◌++◌, Option, Some, None}
use Rattle.cd_types.specs.declared.choices.Disp.{Disp}
use Rattle.cd_types.specs.declared.choices.Disp.TheVariants.{New, Rpl, Mod}
use Rattle.cd_outside.specs.Shelf.{content_of}

-- what a copy that landed leaves of the old file, where these bytes were received
abbrev pub landed : Disp → Option (List ℕ) → List ℕ → List ℕ
landed New old received = received
landed Rpl old received = received
landed Mod old received = content_of old ++ received

-- what a copy that was dropped leaves of the old file
abbrev pub dropped : Disp → Option (List ℕ) → Option (List ℕ)
dropped New old = None
dropped Rpl old = Some []
dropped Mod old = old
