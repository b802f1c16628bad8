-- A process number is a field.
use Rattle.std.proofs.Common.{ℕ, ◌≤◌, leb, arith}
use Rattle.std.proofs.lemmas.Bool.{leb-true}
use Rattle.cd_types.specs.Format.{IsFormat}
use Rattle.cd_types.specs.Text.{ranged_in}
use Rattle.cd_types.specs.TextLaw.{both_true, ranged_law}
use Rattle.cd_types.specs.ProcNo.{is_proc_no, IsProcNo}
use Rattle.cd_types.specs.Number.{number_bytes}

pub proc_no_is_small : (n : ℕ) → IsProcNo n → n ≤ 99999
proc_no_is_small n form = let tests = both_true (leb 1 n) (leb n 99999) form in leb-true _ _ tests.1

pub proc_no_law : IsFormat IsProcNo (number_bytes 4) (ranged_in 4 is_proc_no)
proc_no_law = ranged_law 4 is_proc_no (λ n form. omega (arith, proc_no_is_small n form))
