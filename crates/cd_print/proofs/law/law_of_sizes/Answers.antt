use Rattle.std.specs.Prelude.{ℕ, ◌≤◌, List, length}
use Rattle.cd_ast.specs.declared.process.Process.{Process}
use Rattle.cd_ast.specs.Canonical.{canonical}
use Rattle.cd_grammar.specs.Faults.{InGrammar, longest_text}
use Rattle.cd_print.proofs.Symbols.{text_small, text_short}
use Rattle.cd_print.proofs.law.law_of_sizes.Goals as goal

pub returns : goal.returns
returns c = record {
  short = λ text overrides process said. brief said.plain process said.fits said.says;
  short_plain = λ text process few said. brief text process few said;
  symbols = λ text overrides process said. text_small said.plain process (c.law_of_tokens.ensures.order said.plain) said.fits said.says;
  symbols_plain = λ text process few said. text_small text process (c.law_of_tokens.ensures.order text) few said;
}
  where
    brief : (text : List ℕ) (process : Process) → length text ≤ longest_text → InGrammar text process → length (canonical process) ≤ 200000
    brief text process few said = text_short text process (c.law_of_tokens.ensures.order text) few said (c.law_of_ranges.ensures.card text process said) (c.law_of_ranges.ensures.name text process said)
        (c.law_of_ranges.ensures.statements text process said) (c.law_of_ranges.ensures.count text process said)
