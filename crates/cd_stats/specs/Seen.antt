-- What contracts see of a line in the program.
use Rattle.std.specs.Prelude.{ℕ, List}
use Rattle.cd_stats.specs.declared.line.Numbered.{Numbered}

abbrev pub seen_line : Numbered → ℕ × List ℕ
seen_line numbered = (numbered.number, numbered.line)
