-- A card is a field.
use Rattle.std.proofs.Common.{refl}
use Rattle.cd_types.specs.Format.{IsFormat}
use Rattle.cd_types.specs.ChoicesLaw.{hold_law, retain_law}
use Rattle.cd_types.specs.CompoundLaw.{both_law, made_law, optional_law}
use Rattle.cd_types.specs.Filed.{card_parts, card_of, IsCard, card_bytes, card_in}
use Rattle.cd_types.specs.LabelLaw.{label_law}
use Rattle.cd_types.specs.MomentLaw.{moment_law}
use Rattle.cd_types.specs.NodeNameLaw.{node_name_law}
use Rattle.cd_types.specs.NumberLaw.{number_law}

pub card_law : IsFormat IsCard card_bytes card_in
unfolding card_bytes card_in
card_law = made_law _ _ _ card_parts card_of (λ _. refl) (λ _. refl)
    (both_law _ _ _ _ _ _ label_law (both_law _ _ _ _ _ _ node_name_law (both_law _ _ _ _ _ _ (number_law 1) (both_law _ _ _ _ _ _ (number_law 1)
    (both_law _ _ _ _ _ _ hold_law (both_law _ _ _ _ _ _ retain_law (optional_law _ _ _ moment_law)))))))
