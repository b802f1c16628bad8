-- Whether what is being read may end.
use Rattle.std.specs.Prelude.{◌≡◌, Bool, true, false, Option, Some, None}
use Rattle.cd_grammar.specs.Reading.{Reading}

-- it ends with this reading where it may
abbrev pub EndsAs : Bool → Option Reading → Reading → Type 0
EndsAs true x r = x ≡ Some r
EndsAs false x r = x ≡ None
