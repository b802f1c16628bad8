use Rattle.std.proofs.Common.{◌≡◌, ◌++◌, drop}
use Rattle.cd_drill.specs.AtRest.{seen_of, names_in}
use Rattle.cd_drill.specs.Report.{file_lines}
use Rattle.cd_drill.proofs.report.write_files.Given as goal

-- what was written, and the files that are left
abbrev pub invariant-loop-at : goal.invariant-loop-at
invariant-loop-at l =
    l.into.items ++ file_lines (seen_of l.half) (drop l.at (names_in l.half)) ≡ l.fn.into.items ++ file_lines (seen_of l.half) (names_in l.half)
