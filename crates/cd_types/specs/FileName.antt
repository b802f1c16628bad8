-- Names of files, and texts.
use Rattle.std.specs.Prelude.{ℕ, List, length, codes, Bool, not, ◌&&◌, ◌||◌, ◌==◌, nat_eq, nat_le, nat_lt}
use Rattle.std.specs.List.{list_any, starts_with}
use Rattle.std.specs.Str.{bytes_eq, is_utf8}

-- the name of the journal, or of a file of the configuration
abbrev pub is_own_file : List ℕ → Bool
is_own_file name = bytes_eq name (codes "journal") || starts_with nat_eq name (codes "cfg/")

-- 1 to 1,024 bytes of UTF-8 with no zero byte, which name none of the node's own files
abbrev pub is_file_name : List ℕ → Bool
is_file_name name =
    nat_le 1 (length name) && nat_le (length name) 1024 && not (list_any (λ b. b == 0) name) && not (is_own_file name) && is_utf8 name

-- bytes whose number has four bytes
abbrev pub is_text : List ℕ → Bool
is_text text = nat_lt (length text) 4294967296
