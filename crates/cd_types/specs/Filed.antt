-- The card of a submission.
use Rattle.std.specs.Prelude.{ℕ, List, Option, ⊤}
use Rattle.cd_types.specs.Choices.{holds, hold_code, retains, retain_code}
use Rattle.cd_types.specs.Compound.{both_bytes, both_in, AreBoth, choice_in, optional_bytes, optional_in, IsOptional, made_in}
use Rattle.cd_types.specs.Label.{is_label, IsLabel}
use Rattle.cd_types.specs.Moment.{is_moment, IsMoment}
use Rattle.cd_types.specs.NodeName.{is_node_name, IsNodeName}
use Rattle.cd_types.specs.Number.{IsNumber, number_in, number_bytes}
use Rattle.cd_types.specs.Text.{text_bytes, text_in, ranged_in}
use Rattle.cd_types.specs.declared.choices.Hold.{Hold}
use Rattle.cd_types.specs.declared.choices.Retain.{Retain}
use Rattle.cd_types.specs.declared.card.Filed.{Filed}

abbrev pub CardParts : Type 0
CardParts = List ℕ × (List ℕ × (ℕ × (ℕ × (Hold × (Retain × Option ℕ)))))

-- the fields of a card in their order
abbrev pub card_parts : Filed → CardParts
card_parts card = (card.name, (card.snode, (card.prty, (card.class, (card.hold, (card.retain, card.start))))))

abbrev pub card_of : CardParts → Filed
card_of parts = record {
  name = parts.0;
  snode = parts.1.0;
  prty = parts.1.1.0;
  class = parts.1.1.1.0;
  hold = parts.1.1.1.1.0;
  retain = parts.1.1.1.1.1.0;
  start = parts.1.1.1.1.1.1;
}

abbrev pub IsCard : Filed → Type 0
IsCard card =
    AreBoth IsLabel (AreBoth IsNodeName (AreBoth (IsNumber 1) (AreBoth (IsNumber 1) (AreBoth (λ _. ⊤) (AreBoth (λ _. ⊤) (IsOptional IsMoment)))))) (card_parts card)

unfoldable pub card_bytes : Filed → List ℕ
card_bytes card =
    both_bytes (text_bytes 1) (both_bytes (text_bytes 1) (both_bytes (number_bytes 1) (both_bytes (number_bytes 1)
    (both_bytes (λ hold. number_bytes 1 (hold_code hold)) (both_bytes (λ retain. number_bytes 1 (retain_code retain)) (optional_bytes (number_bytes 8))))))) (card_parts card)

unfoldable pub card_in : List ℕ → Option (Filed × List ℕ)
card_in =
    made_in card_of (both_in (text_in 1 is_label) (both_in (text_in 1 is_node_name) (both_in (number_in 1) (both_in (number_in 1)
    (both_in (choice_in holds) (both_in (choice_in retains) (optional_in (ranged_in 8 is_moment))))))))
