use Rattle.std.proofs.Common.{◌≡◌, ◌≤◌, ℕ, suc, ◌+◌, ◌++◌, List, [], length, drop, get_or, Option, Some, refl, sym, ap, ◌∙◌, arith}
use Rattle.std.specs.Prelude.{reverse}
use Rattle.std.specs.List.{flat_map, filter_map}
use Rattle.std.proofs.lemmas.List.{length-reverse, append-nil, append_assoc}
use Rattle.std.proofs.lemmas.Option.{slice_get-get_or}
use Rattle.cd_entries.specs.declared.entry.Entry.{Entry}
use Rattle.cd_entries.specs.declared.entry.Entry.TheVariants as entry
use Rattle.cd_stats.specs.Statistics.{line_of, asked_line, lines_of, count_line}
use Rattle.cd_stats.proofs.Reports.{text_at, count_at, count_most, none_left}
use Rattle.cd_stats.proofs.statistics.write_statistics.Goals as goal

abbrev none : Entry
none = entry.Home [] 0

pub overflow_add-count : goal.overflow_add-count
overflow_add-count g c =
    let xs : List Entry = reverse c.args.book.now.entries in
    let size : length xs ≡ length c.args.book.now.entries = length-reverse c.args.book.now.entries in
    let len = c.len-at-end.ensures in
    let below = c.loop-at-test.true in
    let is = slice_get-get_or xs c.loop-at.at none (omega (arith, size, len, below)) in
    let more = c.in_ok-more.ensures.count (get_or xs c.loop-at.at none) is in
    let most = c.loop-at.invariant.most in
    let one = count_most (asked_line c.args.only.now (line_of g.T.Texts.read c.args.book.now.entries (get_or xs c.loop-at.at none))) in
    let fits = c.loop-at.auto.at-end in
    omega (arith, more, most, one, below, fits)

pub loop-at-preserved : goal.loop-at-preserved
loop-at-preserved g c =
    let xs : List Entry = reverse c.args.book.now.entries in
    let size : length xs ≡ length c.args.book.now.entries = length-reverse c.args.book.now.entries in
    let len = c.len-at-end.ensures in
    let below = c.loop-at-test.true in
    let x : Entry = get_or xs c.loop-at.at none in
    let is = slice_get-get_or xs c.loop-at.at none (omega (arith, size, len, below)) in
    let f : Entry → Option (List ℕ) = λ e. asked_line c.args.only.now (line_of g.T.Texts.read c.args.book.now.entries e) in
    let one = count_most (f x) in
    let more = c.in_ok-more.ensures.count x is in
    let most = c.loop-at.invariant.most in
    let next : suc c.loop-at.at ≡ c.loop-at.at + 1 = omega arith in
    let told = text_at f xs c.loop-at.at x is c.loop-at.into.items c.write_line.new.into.items _ c.loop-at.invariant.told (c.in_ok-more.ensures.text x is) in
    let counted = count_at f xs c.loop-at.at x is c.loop-at.count (c.loop-at.count + c.in_ok-more.more) _ c.loop-at.invariant.counted (ap (λ (n : ℕ). c.loop-at.count + n) more) in
    record {
      told = ap (λ (at : ℕ). c.write_line.new.into.items ++ flat_map (λ line. line) (lines_of g.T.Texts.read c.args.book.now.entries c.args.only.now (drop at xs))) (sym next) ∙ told;
      counted = ap (λ (at : ℕ). c.loop-at.count + c.in_ok-more.more + length (lines_of g.T.Texts.read c.args.book.now.entries c.args.only.now (drop at xs))) (sym next) ∙ counted;
      most = omega (arith, more, most, one);
    }

pub returns : goal.returns
returns g c =
    let xs : List Entry = reverse c.args.book.now.entries in
    let size : length xs ≡ length c.args.book.now.entries = length-reverse c.args.book.now.entries in
    let len = c.len-at-end.ensures in
    let past = c.loop-at-test.false in
    let f : Entry → Option (List ℕ) = λ e. asked_line c.args.only.now (line_of g.T.Texts.read c.args.book.now.entries e) in
    let left = none_left f xs c.loop-at.at (omega (arith, size, len, past)) in
    let lines : List (List ℕ) = lines_of g.T.Texts.read c.args.book.now.entries c.args.only.now xs in
    let text : c.loop-at.into.items ≡ c.args.into.now.items ++ flat_map (λ line. line) lines =
    sym (append-nil c.loop-at.into.items) ∙ ap (λ (rest : List (List ℕ)). c.loop-at.into.items ++ flat_map (λ line. line) rest) (sym left) ∙ c.loop-at.invariant.told in
    let none_more : length (filter_map f (drop c.loop-at.at xs)) ≡ 0 = ap (λ (rest : List (List ℕ)). length rest) left in
    let counted = c.loop-at.invariant.counted in
    let count : c.loop-at.count ≡ length lines = omega (arith, none_more, counted) in
    c.in_ok-write_count.ensures
    ∙ ap (λ (front : List ℕ). front ++ count_line c.loop-at.count) text
    ∙ append_assoc c.args.into.now.items (flat_map (λ line. line) lines) (count_line c.loop-at.count)
    ∙ ap (λ (n : ℕ). c.args.into.now.items ++ (flat_map (λ line. line) lines ++ count_line n)) count
