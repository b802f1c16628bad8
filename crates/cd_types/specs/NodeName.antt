-- Node names.
use Rattle.std.specs.Prelude.{ℕ, List, length, Bool, ◌&&◌, ◌||◌, ◌==◌, nat_le, Option, Some, None, if◌then◌else◌, IsTrue}
use Rattle.std.specs.Char.{is_ascii_alphanumeric}
use Rattle.std.specs.List.{list_all}

-- a letter, a digit, or one of . _ - $ # @
abbrev pub is_node_byte : ℕ → Bool
is_node_byte b = is_ascii_alphanumeric b || b == 46 || b == 95 || b == 45 || b == 36 || b == 35 || b == 64

-- 1 to 16 such bytes
abbrev pub is_node_name : List ℕ → Bool
is_node_name name = nat_le 1 (length name) && nat_le (length name) 16 && list_all is_node_byte name

abbrev pub IsNodeName : List ℕ → Type 0
IsNodeName name = IsTrue (is_node_name name)

-- the node name of these bytes
abbrev pub node_name_of : List ℕ → Option (List ℕ)
node_name_of bytes = if is_node_name bytes then Some bytes else None
