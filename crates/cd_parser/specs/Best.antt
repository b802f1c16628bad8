-- The fault that is told, of those that there are.
use Rattle.std.specs.Prelude.{◌≡◌, ℕ, List, [], ◌++◌, not, ◌&&◌, Option, Some, None}
use Rattle.cd_ast.specs.declared.fault.FaultName.TheVariants.{NoLabel, Backward, IntoIf}
use Rattle.cd_grammar.specs.declared.mark.Mark.{Mark}
use Rattle.cd_grammar.specs.Later.{Found, IsFirstOf, fault_if, have_label, is_inside}

abbrev pub IsBest : Option Found → List Found → Type 0
IsBest None faults = faults ≡ []
IsBest (Some f) faults = IsFirstOf faults f

-- what is wrong with a GOTO to a label, with these statements up to it and behind it, and with all of them
abbrev pub jumped : List Mark → List Mark → List Mark → ℕ → List ℕ → List Found
jumped upto behind all at name =
    fault_if (not (have_label name all)) NoLabel at
    ++ (fault_if (have_label name upto) Backward at
    ++ fault_if (not (have_label name upto) && is_inside name 0 behind) IntoIf at)
