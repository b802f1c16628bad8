use Rattle.std.proofs.Common.{arith}
use Rattle.std.specs.Prelude.{◌≡◌, ◌≤◌, ℕ, List, length}
use Rattle.cd_print.proofs.Bytes.{good_place, IsGood}
use Rattle.cd_print.proofs.Prints.{print_good, all_of}
use Rattle.cd_ast.specs.Tokens.{bad_place}
use Rattle.cd_ast.specs.declared.process.Process.{Process}
use Rattle.cd_ast.specs.Canonical.{canonical}
use Rattle.cd_grammar.specs.Answers.{strict}
use Rattle.cd_grammar.specs.Reading.{Reading}
use Rattle.cd_grammar.specs.Tokens.{tokens_of}
use Rattle.cd_grammar.specs.Faults.{IsRead, process_of, InGrammar, longest_plain}
use Rattle.cd_print.specs.Printable.{HaveGoodTexts, IsPrintable}
use Rattle.cd_print.proofs.Said.{PrintedValues}
use Rattle.cd_print.proofs.Heads.{PrintedStarts}
use Rattle.cd_print.proofs.Back.{IsBack, print_read, print_clean}
use Rattle.cd_print.proofs.Again.{again}
use Rattle.cd_print.proofs.FromText.{text_printable, text_good}
use Rattle.cd_print.proofs.law.law_of_prints.Goals as goal

pub returns : goal.returns
returns c = record {
  read_back = λ process p. back process p (print_read values starts process (c.law_of_tokens.ensures.whole (canonical process)) p);
  whole = λ process p. print_clean values starts process p;
  again = anew;
  again_resolved = λ text overrides process said. anew said.plain process said.says (small process (c.law_of_sizes.ensures.short text overrides process said));
  printable = printable;
  good_texts = texts;
  good_texts_resolved = λ text overrides process said. texts said.plain process said.says;
}
  where
    values : PrintedValues
    values = record { numbers = c.law_of_printed_values.ensures.numbers; intervals = c.law_of_printed_values.ensures.intervals }

    starts : PrintedStarts
    starts = record { times = c.law_of_printed_values.ensures.times; weekdays = c.law_of_printed_values.ensures.weekdays; dates = c.law_of_printed_values.ensures.dates }

    back : (process : Process) → IsPrintable process → (all : Reading) × IsRead strict (tokens_of (canonical process)) all × IsBack process all → (all : Reading) × IsRead strict (tokens_of (canonical process)) all × (process ≡ process_of all)
    back process p found = (found.0, found.1, found.2.said)

    printable : (text : List ℕ) (process : Process) → InGrammar text process → IsPrintable process
    printable text process said = text_printable text process (c.law_of_tokens.ensures.whole text) (c.law_of_ranges.ensures.card text process said) (c.law_of_ranges.ensures.name text process said) (c.law_of_ranges.ensures.statements text process said) (c.law_of_ranges.ensures.count text process said) said

    texts : (text : List ℕ) (process : Process) → InGrammar text process → HaveGoodTexts process.stmts
    texts text process said = text_good text process (c.law_of_tokens.ensures.whole text) said

    placed : (process : Process) → IsPrintable process → HaveGoodTexts process.stmts → bad_place (canonical process) ≡ length (canonical process)
    placed process p good = let whole : IsGood (canonical process) = print_good values process p (all_of process.stmts p.quoted good) in good_place (canonical process) whole.bytes whole.utf8

    anew : (text : List ℕ) (process : Process) → InGrammar text process → length (canonical process) ≤ longest_plain → InGrammar (canonical process) process
    anew text process said short = again text process (c.law_of_tokens.ensures.whole text) said short (placed process (printable text process said) (texts text process said)) (print_clean values starts process (printable text process said))
        (print_read values starts process (c.law_of_tokens.ensures.whole (canonical process)) (printable text process said))

    small : (process : Process) → length (canonical process) ≤ 200000 → length (canonical process) ≤ longest_plain
    small process h = omega arith
