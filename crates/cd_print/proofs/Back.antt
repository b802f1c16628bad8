-- The print of a Process is read as that Process.
use Rattle.std.proofs.Common.{◌≡◌, ℕ, ◌+◌, ◌≤◌, Bool, true, List, [], length, None, refl, ap, sym, subst, ◌∙◌, arith}
use Rattle.cd_types.specs.Label.{is_label}
use Rattle.cd_types.specs.NodeName.{is_node_name}
use Rattle.cd_ast.specs.declared.piece.PieceKind.TheVariants as piece
use Rattle.cd_ast.specs.declared.process.Process.{Process}
use Rattle.cd_ast.specs.declared.process.Stmt.{Stmt}
use Rattle.cd_ast.specs.Canonical.{canonical}
use Rattle.cd_ast.specs.Pieces.{pieces_of, bytes_of}
use Rattle.cd_ast.specs.Tokens.{open_from}
use Rattle.cd_grammar.specs.declared.given.Given.{Given}
use Rattle.cd_grammar.specs.declared.step.Step.TheVariants as step
use Rattle.cd_grammar.specs.declared.token.Token.{Token}
use Rattle.cd_grammar.specs.Answers.{strict}
use Rattle.cd_grammar.specs.Grammar as g
use Rattle.cd_grammar.specs.Reading.{Reading, named, ended}
use Rattle.cd_grammar.specs.Tokens.{Out, without_commas, tokens_of}
use Rattle.cd_grammar.specs.Faults.{process_of, IsRead}
use Rattle.cd_automaton.specs.Ranges.{passes, within, is_timed}
use Rattle.cd_print.specs.Printable.{IsPrintable}
use Rattle.cd_print.proofs.Cuts.{spans_are}
use Rattle.cd_print.proofs.Tails.{Reads, tail}
use Rattle.cd_print.proofs.Fronts.{print_front, print_is}
use Rattle.cd_print.proofs.Said.{PrintedValues, Ends, first_is}
use Rattle.cd_print.proofs.Stmts.{AreFine, Stands, stmts_line}
use Rattle.cd_print.proofs.Heads.{PrintedStarts, card_given, head_line}

-- the Process with this name, these parameters and these statements
abbrev made : List ℕ → Given → List Stmt → Process
made name head stmts = process_of (record { name = name; head = head; stmts = stmts; marks = []; symbols = []; ifs = [] })

-- what was read of a print
pub record IsBack (process : Process) (all : Reading) : Type 0 where
  pub said : process ≡ process_of all
  pub head : (at : ℕ) × (all.head ≡ card_given process.card process.card.snode process.card.start at)
  pub marks : AreFine all.marks process.stmts

made_is : (process : Process) (at : ℕ) → process.card.name ≡ process.name → process ≡ made process.name (card_given process.card process.card.snode process.card.start at) process.stmts
made_is process at e = ap (λ (x : List ℕ). record process { card = record process.card { name = x } }) e

back_is : (process : Process) (at : ℕ) (opened : List Bool) (r : Reading) → process.card.name ≡ process.name → Stands process.name (card_given process.card process.card.snode process.card.start at) process.stmts opened r → IsBack process r
back_is process at opened r e h = record {
  said = made_is process at e ∙ (ap (λ (x : List ℕ). made x (card_given process.card process.card.snode process.card.start at) process.stmts) (sym h.name)
      ∙ (ap (λ (x : Given). made r.name x process.stmts) (sym h.head) ∙ ap (λ (x : List Stmt). made r.name r.head x) (sym h.stmts)));
  head = (at, h.head);
  marks = h.marks;
}

label_of_card : (process : Process) → IsPrintable process → is_label process.name ≡ true
label_of_card process p =
    subst (λ (x : List ℕ). is_label x ≡ true) p.name
    (first_is _ (passes is_node_name process.card.snode) (first_is _ (within 1 15 process.card.prty) (first_is _ (within 1 255 process.card.class) (first_is _ (passes is_timed process.card.start) p.card))))

module _ (values : PrintedValues) (starts : PrintedStarts) where
  front_reads : (process : Process) → IsPrintable process → Reads (Ends (IsBack process) g.Start) piece.LineEnd Out (print_front process)
  unfolding ended
  front_reads process p =
      let few : length process.stmts ≤ 1024 = p.count in
      let few2 : 0 + length process.stmts ≤ 1024 = omega arith in
      head_line values starts (IsBack process) process.name process.card _ (label_of_card process p) p.card p.start
      (λ at kind side out. stmts_line values (IsBack process) process.name (card_given process.card process.card.snode process.card.start at) process.stmts (λ r opened stands. back_is process at opened r p.name stands)
      process.stmts [] [] (named process.name) (record (named process.name) { head = card_given process.card process.card.snode process.card.start at }) (step.Head (card_given process.card process.card.snode process.card.start at)) kind side refl few2 refl
      (record { name = refl; head = refl; stmts = refl; symbols = refl; ifs = refl; marks = tt }) out p.stmts p.quoted p.nested)

  pub print_reads : (process : Process) → IsPrintable process → Reads (Ends (IsBack process) g.Start) piece.LineEnd Out (canonical process)
  print_reads process p = subst (λ (x : List ℕ). Reads (Ends (IsBack process) g.Start) piece.LineEnd Out x) (sym (print_is process)) (front_reads process p)

  -- by its tokens, where the pieces of a text are the whole text
  tokens_are : (text : List ℕ) → bytes_of (pieces_of text) ≡ text → tokens_of text ≡ tail 0 piece.LineEnd Out text
  tokens_are text whole = ap (λ (ts : List Token). without_commas Out ts) (spans_are [] (pieces_of text) text 0 (sym whole) refl)

  pub print_read : (process : Process) → bytes_of (pieces_of (canonical process)) ≡ canonical process → IsPrintable process → (all : Reading) × IsRead strict (tokens_of (canonical process)) all × IsBack process all
  print_read process whole p = subst (λ (ts : List Token). (all : Reading) × IsRead strict ts all × IsBack process all) (sym (tokens_are (canonical process) whole)) ((print_reads process p).read 0)

  pub print_clean : (process : Process) → IsPrintable process → open_from 0 (pieces_of (canonical process)) ≡ None
  print_clean process p = (print_reads process p).clean 0
