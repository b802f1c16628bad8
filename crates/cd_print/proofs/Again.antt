-- A print is a text of its Process.
use Rattle.std.proofs.Common.{◌≡◌, ℕ, ◌≤◌, false, List, [], ◌++◌, length, Some, None, refl, sym, subst, arith, nat_lt}
use Rattle.cd_ast.specs.declared.process.Process.{Process}
use Rattle.cd_ast.specs.Canonical.{canonical}
use Rattle.cd_ast.specs.Pieces.{pieces_of, bytes_of}
use Rattle.cd_ast.specs.Tokens.{open_from, flaw_of, bad_place}
use Rattle.cd_grammar.specs.declared.given.Given.{Given}
use Rattle.cd_grammar.specs.Answers.{strict}
use Rattle.cd_grammar.specs.Reading.{Reading}
use Rattle.cd_grammar.specs.Tokens.{tokens_of}
use Rattle.cd_grammar.specs.Later.{late_faults, wrong_start, wrong_from}
use Rattle.cd_grammar.specs.Faults.{InGrammar, IsRead, process_of, longest_plain}
use Rattle.cd_print.proofs.Back.{IsBack}
use Rattle.cd_print.proofs.Clean.{text_clean}
use Rattle.cd_print.proofs.Faultless.{no_fault}
use Rattle.cd_print.proofs.Origin.{FineReading, all_fine}
use Rattle.cd_print.proofs.Stmts.{AreFine}

back_sound : (text : List ℕ) (process : Process) (all : Reading) → bytes_of (pieces_of text) ≡ text → InGrammar text process → IsBack process all → late_faults all ≡ []
unfolding late_faults
back_sound text process all whole said back =
    let fine : FineReading said.all = all_fine said.read (text_clean text whole said.good) tt in
    let marks : AreFine all.marks said.all.stmts = subst (λ (p : Process). AreFine all.marks p.stmts) said.said back.marks in
    let none : wrong_start (Some (process_of said.all).card.retain) (process_of said.all).card.start back.head.0 ++ wrong_from [] all.marks ≡ [] =
    no_fault said.all.head.retain said.all.head.start said.all.head.retain_at back.head.0 said.all.marks all.marks said.all.stmts fine.marks marks said.sound in
    let mine : wrong_start (Some process.card.retain) process.card.start back.head.0 ++ wrong_from [] all.marks ≡ [] =
    subst (λ (p : Process). wrong_start (Some p.card.retain) p.card.start back.head.0 ++ wrong_from [] all.marks ≡ []) (sym said.said) none in
    subst (λ (g : Given). wrong_start g.retain g.start g.retain_at ++ wrong_from [] all.marks ≡ []) (sym back.head.1) mine

no_less : (n : ℕ) → nat_lt n n ≡ false
no_less n = grind arith

no_flaw : (text : List ℕ) → open_from 0 (pieces_of text) ≡ None → bad_place text ≡ length text → flaw_of text ≡ None
unfolding flaw_of
no_flaw text e e2 = rw e (rw e2 (rw (no_less (length text)) refl))

pub again : (text : List ℕ) (process : Process) → bytes_of (pieces_of text) ≡ text → InGrammar text process → length (canonical process) ≤ longest_plain → bad_place (canonical process) ≡ length (canonical process)
    → open_from 0 (pieces_of (canonical process)) ≡ None → (all : Reading) × IsRead strict (tokens_of (canonical process)) all × IsBack process all → InGrammar (canonical process) process
again text process whole said short good closed found = record {
  all = found.0;
  short = short;
  good = no_flaw (canonical process) closed good;
  read = found.1;
  sound = back_sound text process found.0 whole said found.2;
  said = found.2.said;
}
