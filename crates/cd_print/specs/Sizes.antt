-- How many bytes the values of a SUBMIT have.
use Rattle.std.specs.Prelude.{ℕ, ◌+◌, List, length, sum_by, Bool, true, nat_le}
use Rattle.cd_ast.specs.declared.process.What.{What}
use Rattle.cd_ast.specs.declared.process.What.TheVariants as what

-- the bytes of the values that a SUBMIT gives to names, as they are sent
abbrev pub symbols_size : List (List ℕ × List ℕ) → ℕ
symbols_size symbols = 2 + sum_by (λ pair. 5 + length pair.0 + length pair.1) symbols

-- a SUBMIT gives at most 120,000 bytes of them
abbrev pub has_small_symbols : What → Bool
has_small_symbols (what.Submit step) = nat_le (symbols_size step.symbols) 120000
has_small_symbols _ = true
