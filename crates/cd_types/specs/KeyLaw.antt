-- A key is a field.
use Rattle.std.proofs.Common.{refl, arith}
use Rattle.std.proofs.lemmas.Bool.{leb-true}
use Rattle.cd_types.specs.Format.{IsFormat}
use Rattle.cd_types.specs.CompoundLaw.{both_law, made_law}
use Rattle.cd_types.specs.Key.{is_place, IsPlace, key_parts, key_of, IsKey, key_bytes, key_in}
use Rattle.cd_types.specs.NodeNameLaw.{node_name_law}
use Rattle.cd_types.specs.NumberLaw.{number_law}
use Rattle.cd_types.specs.ProcNoLaw.{proc_no_law}
use Rattle.cd_types.specs.Text.{ranged_in}
use Rattle.cd_types.specs.TextLaw.{ranged_law}
use Rattle.cd_types.specs.Number.{number_bytes}

pub place_law : IsFormat IsPlace (number_bytes 2) (ranged_in 2 is_place)
place_law = ranged_law 2 is_place (λ place form. omega (arith, leb-true place 1023 form))

pub key_law : IsFormat IsKey key_bytes key_in
unfolding key_bytes key_in
key_law = made_law _ _ _ key_parts key_of (λ _. refl) (λ _. refl)
    (both_law _ _ _ _ _ _ node_name_law (both_law _ _ _ _ _ _ (number_law 8) (both_law _ _ _ _ _ _ proc_no_law place_law)))
