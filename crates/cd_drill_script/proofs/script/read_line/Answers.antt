use Rattle.std.proofs.Common.{◌≡◌, sym, ap, ◌∙◌, arith}
use Rattle.std.specs.Prelude.{option_map}
use Rattle.cd_drill_script.specs.Seen.{seen_order}
use Rattle.cd_drill_script.proofs.Lines.{long_line, skipped_line, order_line, bad_line}
use Rattle.cd_drill_script.proofs.script.read_line.Goals as goal

pub returns-then-line-gt-LONGEST_COMMAND-clause-fault : goal.returns-then-line-gt-LONGEST_COMMAND-clause-fault
returns-then-line-gt-LONGEST_COMMAND-clause-fault g c n more = long_line _ c.args.at n c.args.line.now more (omega (arith, c.if-line-gt-LONGEST_COMMAND.true))

pub returns-then-is_skipped-clause-read : goal.returns-then-is_skipped-clause-read
returns-then-is_skipped-clause-read g c n more = skipped_line _ c.args.at n c.args.line.now more (omega (arith, c.if-line-gt-LONGEST_COMMAND.false)) (sym c.if-is_skipped.ensures)

pub returns-in-Ok-Some-clause-read : goal.returns-in-Ok-Some-clause-read
returns-in-Ok-Some-clause-read g c n more = order_line _ c.args.at n c.args.line.now more (omega (arith, c.if-line-gt-LONGEST_COMMAND.false)) (sym c.if-is_skipped.ensures) (seen_order c.in-Ok-Some.order) (sym (c.in-Ok-Some.ensures) ∙ ap (option_map seen_order) c.in-Ok-Some.field-0-is)

pub returns-in-Ok-None-clause-fault : goal.returns-in-Ok-None-clause-fault
returns-in-Ok-None-clause-fault g c n more = bad_line _ c.args.at n c.args.line.now more (omega (arith, c.if-line-gt-LONGEST_COMMAND.false)) (sym c.if-is_skipped.ensures) (sym (c.in-Ok-None.ensures) ∙ ap (option_map seen_order) c.in-Ok-None.field-0-is)
