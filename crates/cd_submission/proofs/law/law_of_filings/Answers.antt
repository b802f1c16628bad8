use Rattle.std.specs.Prelude.{◌≡◌, ℕ, ◌≤◌, List, true, None, length}
use Rattle.cd_ast.specs.declared.process.Process.{Process}
use Rattle.cd_ast.specs.Canonical.{canonical}
use Rattle.cd_commands.specs.declared.command.Options.{Options}
use Rattle.cd_grammar.specs.Faults.{InGrammar, Says}
use Rattle.cd_print.specs.Printable.{IsPrintable, is_day}
use Rattle.cd_print.proofs.Heads.{PrintedStarts}
use Rattle.cd_print.proofs.Said.{PrintedValues}
use Rattle.cd_submission.specs.Filing.{AreFormed, card_with, with_options, filed, is_push}
use Rattle.cd_submission.proofs.Cards.{IsPlain, plain_is, card_fits, none_passes, no_wrong_start}
use Rattle.cd_submission.proofs.Kept.{IsKept, kept_printable, kept_short, kept_again}
use Rattle.cd_submission.proofs.Pushes.{push_said, push_card}
use Rattle.cd_submission.proofs.law.law_of_filings.Goals as goal

pub returns : goal.returns
returns c = record {
  read = λ text overrides options process said formed push. c.law_of_readings.ensures.again (filed options process) (again text overrides options process said formed push);
  short = short;
  kept = λ options process push. push_said (with_options options process) push;
}
  where
    values : PrintedValues
    values = record { numbers = c.law_of_printed_values.ensures.numbers; intervals = c.law_of_printed_values.ensures.intervals }

    starts : PrintedStarts
    starts = record { times = c.law_of_printed_values.ensures.times; weekdays = c.law_of_printed_values.ensures.weekdays; dates = c.law_of_printed_values.ensures.dates }

    kept : (text : List ℕ) (options : Options) (process : Process) → InGrammar text process → AreFormed options → is_push None (with_options options process) ≡ true → IsKept (card_with options process.card) process
    kept text options process said formed push =
        let plain : IsPlain (card_with options process.card) = plain_is (card_with options process.card) (push_card (with_options options process) push) in
        record {
          fits = card_fits options process.card formed (c.law_of_ranges.ensures.card text process said) plain;
          name = c.law_of_ranges.ensures.name text process said;
          start = none_passes (λ start. is_day start.day) (card_with options process.card).start plain.start;
          once = λ at. no_wrong_start (card_with options process.card).retain (card_with options process.card).start at plain.retain;
        }

    printable : (text : List ℕ) (options : Options) (process : Process) → InGrammar text process → IsKept (card_with options process.card) process → IsPrintable (filed options process)
    printable text options process said is = kept_printable (card_with options process.card) process is (c.law_of_prints.ensures.printable text process said)

    short : (text : List ℕ) (overrides : List (List ℕ × List ℕ)) (options : Options) (process : Process) → Says text overrides process → AreFormed options → is_push None (with_options options process) ≡ true → length (canonical (filed options process)) ≤ 200000
    short text overrides options process said formed push =
        kept_short said.plain (card_with options process.card) process (c.law_of_tokens.ensures.order said.plain) said.fits said.says (printable said.plain options process said.says (kept said.plain options process said.says formed push))

    again : (text : List ℕ) (overrides : List (List ℕ × List ℕ)) (options : Options) (process : Process) → Says text overrides process → AreFormed options → is_push None (with_options options process) ≡ true → InGrammar (canonical (filed options process)) (filed options process)
    again text overrides options process said formed push =
        let is : IsKept (card_with options process.card) process = kept said.plain options process said.says formed push in
        kept_again values starts c.law_of_tokens.ensures.whole said.plain (card_with options process.card) process said.says (c.law_of_prints.ensures.good_texts_resolved text overrides process said) is
        (printable said.plain options process said.says is) (short text overrides options process said formed push)
