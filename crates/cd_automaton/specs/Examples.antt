-- Texts that leave the grammar, with where they do.
use Rattle.std.specs.Prelude.{ℕ, List, [], ◌∷◌, length, codes}
use Rattle.cd_ast.specs.declared.fault.FaultName.TheVariants.{Unexpected, Range}
use Rattle.cd_grammar.specs.Tokens.{tokens_of}
use Rattle.cd_grammar.specs.Later.{Found}
use Rattle.cd_grammar.specs.Faults.{Leaves}

pub record Example : Type 0 where
  pub text : List ℕ
  pub fault : Found

abbrev pub examples : List Example
examples =
    -- the end of the text
    record { text = codes "P PROCESS"; fault = (Unexpected, 9) }
    -- a label before what isn't a statement, or before one that takes none
    ∷ record { text = codes "P PROCESS foo"; fault = (Unexpected, 13) }
    ∷ record { text = codes "P PROCESS L ELSE"; fault = (Unexpected, 12) }
    -- a parameter that stands there already is a label
    ∷ record { text = codes "P PROCESS SNODE=B PRTY=5 PRTY=6 EXIT PEND"; fault = (Unexpected, 29) }
    -- a parameter without its = may be a label too
    ∷ record { text = codes "P PROCESS HOLD PRTY=5 PEND"; fault = (Unexpected, 15) }
    -- a word that is no label: too long, with other bytes, and with a reference in it
    ∷ record { text = codes "P PROCESS LONGLABEL foo"; fault = (Range, 10) }
    ∷ record { text = codes "P PROCESS SNODE=B -x EXIT PEND"; fault = (Range, 18) }
    ∷ record { text = codes "P PROCESS SNODE=B x&a=B EXIT PEND"; fault = (Unexpected, 18) }
    -- numbers
    ∷ record { text = codes "P PROCESS PRTY=16 PEND"; fault = (Range, 15) }
    ∷ record { text = codes "P PROCESS PRTY=abc PEND"; fault = (Unexpected, 15) }
    -- a symbolic name
    ∷ record { text = codes "P PROCESS &a.=5 PEND"; fault = (Range, 10) }
    -- a job isn't started again
    ∷ record { text = codes "P PROCESS RUN JOB SYSOPTS='x' RESTART=NO PEND"; fault = (Unexpected, 37) }
    -- an ELSE without its IF
    ∷ record { text = codes "P PROCESS EXIT ELSE PEND"; fault = (Unexpected, 15) }
    -- behind the end
    ∷ record { text = codes "P PROCESS PEND; PEND"; fault = (Unexpected, 16) }
    ∷ []

-- each leaves the grammar there
abbrev pub EachLeaves : List Example → Type 0
EachLeaves [] = Unit {0}
EachLeaves (example ∷ rest) = Leaves (length example.text) (tokens_of example.text) example.fault × EachLeaves rest
