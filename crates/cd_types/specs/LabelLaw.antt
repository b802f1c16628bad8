-- A label is a field.
use Rattle.std.proofs.Common.{ℕ, ◌≤◌, ◌&&◌, leb, List, length, arith}
use Rattle.std.proofs.lemmas.Bool.{leb-true}
use Rattle.std.specs.Prelude.{not}
use Rattle.std.specs.List.{list_all}
use Rattle.cd_types.specs.Format.{IsFormat}
use Rattle.cd_types.specs.Text.{text_bytes, text_in}
use Rattle.cd_types.specs.TextLaw.{both_true, text_law}
use Rattle.cd_types.specs.Label.{is_label_byte, begins_with_letter, is_reserved, is_label, IsLabel}

-- it has at most 8 bytes
pub label_is_short : (text : List ℕ) → IsLabel text → length text ≤ 8
label_is_short text form =
    let all = both_true (begins_with_letter text && leb (length text) 8 && list_all is_label_byte text) (not (is_reserved text)) form in
    let front = both_true (begins_with_letter text && leb (length text) 8) (list_all is_label_byte text) all.0 in
    let length_fits = both_true (begins_with_letter text) (leb (length text) 8) front.0 in
    leb-true _ _ length_fits.1

pub label_law : IsFormat IsLabel (text_bytes 1) (text_in 1 is_label)
label_law = text_law 1 is_label (λ text form. omega (arith, label_is_short text form))
