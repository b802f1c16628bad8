-- When each fault of a text is told.
use Rattle.std.specs.Prelude.{◌≡◌}
use Rattle.cd_grammar.specs.Later.{Found}
use Rattle.cd_parser.specs.declared.fault.ParseFault.{ParseFault}
use Rattle.cd_parser.specs.declared.fault.ParseFault.TheVariants.{Text, NoMemory}

-- a fault is told where it is there; of memory nothing is said
abbrev pub IsTold : (Found → Type 0) → ParseFault → Type 0
IsTold there (Text name at) = there (name, at)
IsTold there NoMemory = Unit {0}

-- memory ran out
abbrev pub IsNoMemory : ParseFault → Type 0
IsNoMemory (Text name at) = ⊥
IsNoMemory NoMemory = Unit {0}

-- this fault is told, or memory ran out
abbrev pub IsAs : Found → ParseFault → Type 0
IsAs f (Text name at) = (name, at) ≡ f
IsAs f NoMemory = Unit {0}
