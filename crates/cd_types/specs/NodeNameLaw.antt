-- A node name is a field.
use Rattle.std.proofs.Common.{ℕ, ◌≤◌, ◌&&◌, leb, List, length, arith}
use Rattle.std.proofs.lemmas.Bool.{leb-true}
use Rattle.std.specs.List.{list_all}
use Rattle.cd_types.specs.Format.{IsFormat}
use Rattle.cd_types.specs.Text.{text_bytes, text_in}
use Rattle.cd_types.specs.TextLaw.{both_true, text_law}
use Rattle.cd_types.specs.NodeName.{is_node_byte, is_node_name, IsNodeName}

-- it has at most 16 bytes
pub node_name_is_short : (name : List ℕ) → IsNodeName name → length name ≤ 16
node_name_is_short name form =
    let tests = both_true (leb 1 (length name) && leb (length name) 16) (list_all is_node_byte name) form in
    let lengths = both_true (leb 1 (length name)) (leb (length name) 16) tests.0 in
    leb-true _ _ lengths.1

pub node_name_law : IsFormat IsNodeName (text_bytes 1) (text_in 1 is_node_name)
node_name_law = text_law 1 is_node_name (λ name form. omega (arith, node_name_is_short name form))
