-- What a token says where something is wanted, and how strictly it is read.
use Rattle.std.specs.Prelude.{ℕ, nat_lt, Bool, true, false, Option, Some, None, Result, Ok, Err}
use Rattle.cd_ast.specs.declared.fault.FaultName.{FaultName}
use Rattle.cd_ast.specs.declared.fault.FaultName.TheVariants.{Unexpected, Range}

-- it is what is wanted, it is of that kind but outside the range, or it is nothing of that kind
pub data Answer (A : Type 0) : Type 0 where
  Fits : A → Answer A
  Outside : A → Answer A
  Wrong : Answer A

abbrev pub fits_as : {A B : Type 0} → (A → B) → Answer A → Answer B
fits_as f (Fits x) = Fits (f x)
fits_as f (Outside x) = Outside (f x)
fits_as f Wrong = Wrong

-- a value, which is outside the range where it doesn't pass the test
abbrev pub ranged : {A : Type 0} → Bool → A → Answer A
ranged true x = Fits x
ranged false x = Outside x

abbrev pub wanted : {A : Type 0} → Option A → Answer A
wanted (Some x) = Fits x
wanted None = Wrong

-- what is taken: with ranges asked for, what is outside one isn't
abbrev pub taken : {A : Type 0} → Bool → Answer A → Result A FaultName
taken ranges (Fits x) = Ok x
taken true (Outside x) = Err Range
taken false (Outside x) = Ok x
taken ranges Wrong = Err Unexpected

-- whether ranges are asked for at a place, and whether statements are counted
pub record Strictness : Type 0 where
  pub ranges : ℕ → Bool
  pub count : Bool

abbrev pub strict : Strictness
strict = record { ranges = λ at. true; count = true }

-- all is strict but the count
abbrev pub uncounted : Strictness
uncounted = record { ranges = λ at. true; count = false }

-- ranges are asked for before a place alone, and nothing is counted
abbrev pub loose_from : ℕ → Strictness
loose_from place = record { ranges = λ at. nat_lt at place; count = false }
