-- A file's name and a text are fields.
use Rattle.std.proofs.Common.{ℕ, ◌≤◌, ◌&&◌, leb, List, length, arith}
use Rattle.std.specs.Prelude.{IsTrue, not, ◌==◌}
use Rattle.std.specs.List.{list_any}
use Rattle.std.specs.Str.{is_utf8}
use Rattle.std.proofs.lemmas.Bool.{leb-true, ltb-true}
use Rattle.cd_types.specs.Format.{IsFormat}
use Rattle.cd_types.specs.Text.{text_bytes, text_in}
use Rattle.cd_types.specs.TextLaw.{both_true, text_law}
use Rattle.cd_types.specs.FileName.{is_own_file, is_file_name, is_text}

-- it has at most 1,024 bytes
pub file_name_is_short : (name : List ℕ) → IsTrue (is_file_name name) → length name ≤ 1024
file_name_is_short name form =
    let all = both_true (leb 1 (length name) && leb (length name) 1024 && not (list_any (λ b. b == 0) name) && not (is_own_file name)) (is_utf8 name) form in
    let most = both_true (leb 1 (length name) && leb (length name) 1024 && not (list_any (λ b. b == 0) name)) (not (is_own_file name)) all.0 in
    let lengths = both_true (leb 1 (length name) && leb (length name) 1024) (not (list_any (λ b. b == 0) name)) most.0 in
    let upper = both_true (leb 1 (length name)) (leb (length name) 1024) lengths.0 in
    leb-true _ _ upper.1

pub file_name_law : IsFormat (λ name. IsTrue (is_file_name name)) (text_bytes 2) (text_in 2 is_file_name)
file_name_law = text_law 2 is_file_name (λ name form. omega (arith, file_name_is_short name form))

pub plain_text_law : IsFormat (λ text. IsTrue (is_text text)) (text_bytes 4) (text_in 4 is_text)
plain_text_law = text_law 4 is_text (λ text form. omega (arith, ltb-true (length text) 4294967296 form))
