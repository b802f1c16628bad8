-- A moment is a field.
use Rattle.std.proofs.Common.{arith}
use Rattle.std.specs.Prelude.{IsTrue}
use Rattle.std.proofs.lemmas.Bool.{ltb-true, lt-ltb}
use Rattle.cd_types.specs.Format.{IsFormat}
use Rattle.cd_types.specs.Text.{ranged_in}
use Rattle.cd_types.specs.TextLaw.{ranged_law}
use Rattle.cd_types.specs.CompoundLaw.{form_law}
use Rattle.cd_types.specs.Moment.{is_moment, IsMoment}
use Rattle.cd_types.specs.Number.{number_bytes}

pub moment_law : IsFormat IsMoment (number_bytes 8) (ranged_in 8 is_moment)
moment_law =
    form_law (λ n. IsTrue (is_moment n)) IsMoment (number_bytes 8) (ranged_in 8 is_moment) (λ n form. ltb-true _ _ form) (λ n form. lt-ltb _ _ form)
    (ranged_law 8 is_moment (λ n form. omega (arith, ltb-true n 250000000000 form)))
