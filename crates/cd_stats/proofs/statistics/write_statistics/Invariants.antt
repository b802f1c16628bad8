use Rattle.std.proofs.Common.{◌≡◌, ◌≤◌, ◌+◌, ◌++◌, length, drop}
use Rattle.std.specs.Prelude.{reverse}
use Rattle.std.specs.List.{flat_map}
use Rattle.cd_stats.specs.Statistics.{lines_of}
use Rattle.cd_stats.proofs.statistics.write_statistics.Given as goal

abbrev pub invariant-loop-at : goal.invariant-loop-at
invariant-loop-at g l = record {
  told : l.into.items ++ flat_map (λ line. line) (lines_of g.T.Texts.read l.fn.book.entries l.fn.only (drop l.at (reverse l.fn.book.entries)))
      ≡ l.fn.into.items ++ flat_map (λ line. line) (lines_of g.T.Texts.read l.fn.book.entries l.fn.only (reverse l.fn.book.entries));
  counted : l.count + length (lines_of g.T.Texts.read l.fn.book.entries l.fn.only (drop l.at (reverse l.fn.book.entries)))
      ≡ length (lines_of g.T.Texts.read l.fn.book.entries l.fn.only (reverse l.fn.book.entries));
  most : l.count ≤ l.at;
}
