-- What a book says of the step of a key that entries are judged by.
use Rattle.std.specs.Prelude.{Bool, true, false}
use Rattle.cd_ast.specs.declared.process.What.{What}
use Rattle.cd_legality.specs.declared.own.Own.{Own}
use Rattle.cd_legality.specs.declared.own.Own.TheVariants.{Foreign, Unfit, Step}

-- whether an entry fits it whose statement has to pass a test
abbrev pub fits_seen : (What → Bool) → Own → Bool
fits_seen test Foreign = true
fits_seen test Unfit = false
fits_seen test (Step what) = test what.now
