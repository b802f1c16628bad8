use Rattle.std.proofs.Common.{ℕ, List, length, ◌++◌, ap, ◌∙◌, None}
use Rattle.cd_entries.specs.declared.entry.Entry.{Entry}
use Rattle.cd_canonical.specs.Read.{canonical_reading}
use Rattle.cd_stats.specs.Statistics.{statistics}
use Rattle.cd_drill.specs.AtRest.{entries_of, seen_of, names_in}
use Rattle.cd_drill.specs.Report.{head_line, file_lines}
use Rattle.cd_drill.proofs.Joined.{joined_three}
use Rattle.cd_drill.proofs.report.write_half.Goals as goal

pub returns : goal.returns
returns c =
    let entries : List Entry = entries_of c.args.half.now in
    joined_three c.args.into.now.items (head_line c.args.name.now (length entries)) (statistics canonical_reading entries None) (file_lines (seen_of c.args.half.now) (names_in c.args.half.now)) _ _ _
    (c.in_ok-write_head.ensures ∙ ap (λ (n : ℕ). c.args.into.now.items ++ head_line c.args.name.now n) (c.len.ensures ∙ ap (λ (es : List Entry). length es) c.book-book.ensures))
    (c.in_ok-write_statistics.ensures ∙ ap (λ (es : List Entry). c.write_head.new.into.items ++ statistics canonical_reading es None) c.book-book.ensures)
    c.in_ok-write_files.ensures
