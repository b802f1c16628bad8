-- A Process that a text says can be printed.
use Rattle.std.proofs.Common.{◌≡◌, ℕ, ◌≤◌, true, List, [], length, sym, subst}
use Rattle.cd_ast.specs.declared.process.Process.{Process}
use Rattle.cd_ast.specs.Pieces.{pieces_of, bytes_of}
use Rattle.cd_grammar.specs.Faults.{InGrammar}
use Rattle.cd_automaton.specs.Ranges.{passes, is_card, are_stmts}
use Rattle.cd_print.specs.Printable.{IsPrintable, AreQuotable, AreNested, HaveGoodTexts, is_day}
use Rattle.cd_print.proofs.Clean.{text_clean}
use Rattle.cd_print.proofs.Origin.{FineReading, all_fine, nests_are}

pub text_printable : (text : List ℕ) (process : Process) → bytes_of (pieces_of text) ≡ text → is_card process.card ≡ true → process.card.name ≡ process.name → are_stmts process.stmts ≡ true → length process.stmts ≤ 1024 → InGrammar text process → IsPrintable process
text_printable text process whole card name stmts count said =
    let fine : FineReading said.all = all_fine said.read (text_clean text whole said.good) tt in
    record {
      card = card;
      name = name;
      start = subst (λ (p : Process). passes (λ start. is_day start.day) p.card.start ≡ true) (sym said.said) fine.start;
      stmts = stmts;
      count = count;
      quoted = subst (λ (p : Process). AreQuotable p.stmts) (sym said.said) fine.stmts;
      nested = subst (λ (p : Process). AreNested [] p.stmts) (sym said.said) (nests_are [] said.all.stmts said.all.ifs fine.nested);
    }

pub text_good : (text : List ℕ) (process : Process) → bytes_of (pieces_of text) ≡ text → InGrammar text process → HaveGoodTexts process.stmts
text_good text process whole said =
    let fine : FineReading said.all = all_fine said.read (text_clean text whole said.good) tt in
    subst (λ (p : Process). HaveGoodTexts p.stmts) (sym said.said) fine.texts
