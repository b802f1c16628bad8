-- Keys of steps.
use Rattle.std.specs.Prelude.{ℕ, List, Bool, nat_le, IsTrue, Option}
use Rattle.cd_types.specs.Compound.{both_bytes, both_in, AreBoth, made_in}
use Rattle.cd_types.specs.NodeName.{is_node_name, IsNodeName}
use Rattle.cd_types.specs.Number.{IsNumber, number_in, number_bytes}
use Rattle.cd_types.specs.ProcNo.{is_proc_no, IsProcNo}
use Rattle.cd_types.specs.Text.{text_bytes, text_in, ranged_in}
use Rattle.cd_types.specs.declared.key.Key.{Key}

-- a Process has at most 1,024 statements
abbrev pub is_place : ℕ → Bool
is_place place = nat_le place 1023

abbrev pub IsPlace : ℕ → Type 0
IsPlace place = IsTrue (is_place place)

-- the fields of a key in their order
abbrev pub key_parts : Key → List ℕ × (ℕ × (ℕ × ℕ))
key_parts key = (key.pnode, (key.home, (key.number, key.place)))

abbrev pub key_of : List ℕ × (ℕ × (ℕ × ℕ)) → Key
key_of parts = record { pnode = parts.0; home = parts.1.0; number = parts.1.1.0; place = parts.1.1.1 }

abbrev pub IsKey : Key → Type 0
IsKey key = AreBoth IsNodeName (AreBoth (IsNumber 8) (AreBoth IsProcNo IsPlace)) (key_parts key)

unfoldable pub key_bytes : Key → List ℕ
key_bytes key = both_bytes (text_bytes 1) (both_bytes (number_bytes 8) (both_bytes (number_bytes 4) (number_bytes 2))) (key_parts key)

unfoldable pub key_in : List ℕ → Option (Key × List ℕ)
key_in = made_in key_of (both_in (text_in 1 is_node_name) (both_in (number_in 8) (both_in (ranged_in 4 is_proc_no) (ranged_in 2 is_place))))
