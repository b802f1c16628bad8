-- What is printed of statements is read as these statements.
use Rattle.std.proofs.Common.{◌≡◌, ℕ, ◌+◌, ◌<◌, ◌≤◌, Bool, true, false, ◌&&◌, List, [], ◌∷◌, ◌++◌, length, length-append, append_assoc, append-nil, Option, Some, None, refl, ap, sym, subst, ◌∙◌, arith, nat_lt, if◌then◌else◌}
use Rattle.std.specs.Prelude.{codes}
use Rattle.std.specs.Option.{option_map}
use Rattle.cd_types.specs.FileName.{is_file_name}
use Rattle.cd_types.specs.Label.{is_label}
use Rattle.cd_types.specs.NodeName.{is_node_name}
use Rattle.cd_ast.specs.Bytes.{is_blank, is_quote, is_sign_byte, is_word_byte}
use Rattle.cd_ast.specs.declared.piece.PieceKind.{PieceKind}
use Rattle.cd_ast.specs.declared.piece.PieceKind.TheVariants as piece
use Rattle.cd_ast.specs.declared.process.Stmt.{Stmt}
use Rattle.cd_ast.specs.declared.process.What.{What}
use Rattle.cd_ast.specs.declared.process.What.TheVariants as what
use Rattle.cd_grammar.specs.declared.token.Key.TheVariants as key
use Rattle.cd_grammar.specs.declared.given.Given.{Given}
use Rattle.cd_grammar.specs.declared.mark.Mark as marks
use Rattle.cd_grammar.specs.declared.step.Step.{Step}
use Rattle.cd_grammar.specs.Answers.{strict}
use Rattle.cd_grammar.specs.Grammar.{Place, Rest, opening, before_it, begun_at, end_in, work_of, relation_of}
use Rattle.cd_grammar.specs.Grammar as g
use Rattle.cd_grammar.specs.Reading.{Reading, ended, has_room}
use Rattle.cd_grammar.specs.Tokens.{Side}
use Rattle.cd_grammar.specs.Words.{key_of}
use Rattle.cd_automaton.specs.Ranges.{passes}
use Rattle.cd_print.specs.Printable.{IsQuotable}
use Rattle.cd_print.proofs.Tails.{Reads, onward, on_blank, on_line, on_word, is_outside}
use Rattle.cd_print.proofs.Words.{word_outside, front_read, fits_taken, labels_plain, label_begins}
use Rattle.cd_print.proofs.Fronts.{what_front, label_front}
use Rattle.cd_automaton.specs.Ranges.{is_stmt, are_stmts, is_what}
use Rattle.cd_print.specs.Printable.{behind, behind_else, behind_eif, AreNested, AreQuotable}
use Rattle.cd_print.proofs.Fronts.{stmts_front}
use Rattle.cd_print.proofs.Tails.{on_end}
use Rattle.cd_print.proofs.Said.{PrintedValues, Ends, IsSketch, Follows, Next, label_in_it, copy_line, task_line, if_line, goto_line, exit_line, else_line, eif_line, submit_line, key_pend, first_is, second_is, up_to}

-- a mark of a statement without a fault of its own
pub record IsFine (mark : marks.Mark) (stmt : Stmt) : Type 0 where
  pub label : option_map (λ found. found.1) mark.label ≡ stmt.label
  pub said : IsSketch mark.what stmt.what

abbrev pub AreFine : List marks.Mark → List Stmt → Type 0
AreFine [] [] = Unit {0}
AreFine [] (stmt ∷ stmts) = ⊥
AreFine (mark ∷ marks) [] = ⊥
AreFine (mark ∷ marks) (stmt ∷ stmts) = IsFine mark stmt × AreFine marks stmts

pub fine_more : (ms : List marks.Mark) (stmts : List Stmt) (mark : marks.Mark) (stmt : Stmt) → AreFine ms stmts → IsFine mark stmt → AreFine (ms ++ mark ∷ []) (stmts ++ stmt ∷ [])
fine_more [] [] mark stmt h e = (e, tt)
fine_more [] (s ∷ stmts) mark stmt h e = absurd h
fine_more (m ∷ ms) [] mark stmt h e = absurd h
fine_more (m ∷ ms) (s ∷ stmts) mark stmt h e = (h.0, fine_more ms stmts mark stmt h.1 e)

-- what was read of the first statements
pub record Stands (title : List ℕ) (given : Given) (front : List Stmt) (opened : List Bool) (r : Reading) : Type 0 where
  pub name : r.name ≡ title
  pub head : r.head ≡ given
  pub stmts : r.stmts ≡ front
  pub symbols : r.symbols ≡ []
  pub ifs : r.ifs ≡ opened
  pub marks : AreFine r.marks front

stands_more : (title : List ℕ) (given : Given) (front : List Stmt) (opened more : List Bool) (before later : Reading) (s : Stmt) → Stands title given front opened before → Follows before s.label s.what more later → Stands title given (front ++ s ∷ []) more later
stands_more title given front opened more before later s h f = record {
  name = f.name ∙ h.name;
  head = f.head ∙ h.head;
  stmts = f.stmts ∙ ap (λ (x : List Stmt). x ++ s ∷ []) h.stmts;
  symbols = f.symbols;
  ifs = f.ifs;
  marks = subst (λ (x : List marks.Mark). AreFine x (front ++ s ∷ [])) (sym f.marks) (fine_more before.marks front f.mark s h.marks (record { label = f.labelled; said = f.sketched }));
}

same_ifs : (x y : List Bool) → Some x ≡ Some y → x ≡ y
same_ifs x y e = cc

if_more : (b : Bool) (x y : List Bool) → (if b then Some x else None) ≡ Some y → (b ≡ true) × (x ≡ y)
if_more true x y e = (refl, same_ifs x y e)
if_more false x y e = absurd cc

else_more : (ifs more : List Bool) → behind_else None ifs ≡ Some more → (rest : List Bool) × (ifs ≡ false ∷ rest) × (true ∷ rest ≡ more)
else_more [] more e = absurd cc
else_more (true ∷ ifs) more e = absurd cc
else_more (false ∷ ifs) more e = (ifs, refl, same_ifs (true ∷ ifs) more e)

eif_more : (ifs more : List Bool) → behind_eif None ifs ≡ Some more → (b : Bool) × (rest : List Bool) × (ifs ≡ b ∷ rest) × (rest ≡ more)
eif_more [] more e = absurd cc
eif_more (b ∷ ifs) more e = (b, ifs, refl, same_ifs ifs more e)

room_of : (n : ℕ) → n < 1024 → nat_lt n 1024 ≡ true
room_of n h = grind arith

opens_at : (r before : Reading) (s : Step) → ended r s ≡ Some before → opening (g.At r s) ≡ Some (None, before)
opens_at r before s e = rw e refl

module _ (values : PrintedValues) (Q : Reading → Type 0) where
  moved : (before : Reading) (label : Option (ℕ × List ℕ)) (said : What) (x y : List Bool) (rest : List ℕ) → x ≡ y → Next Q before label said y rest → Next Q before label said x rest
  moved before label said x y rest e next = subst (λ (z : List Bool). Next Q before label said z rest) (sym e) next

  other_line : (p : Place) (label : Option (ℕ × List ℕ)) (before : Reading) (said : What) (more : List Bool) (kind : PieceKind) (side : Side) (rest : List ℕ) → opening p ≡ Some (label, before) → has_room strict before ≡ true → before.symbols ≡ []
      → is_outside side ≡ true → is_what said ≡ true → IsQuotable said → behind said (label_in_it label) before.ifs ≡ Some more
      → (behind_else (label_in_it label) before.ifs ≡ Some more → Next Q before label what.Else more rest → Reads (Ends Q p) kind side (what_front what.Else (10 ∷ rest)))
      → (behind_eif (label_in_it label) before.ifs ≡ Some more → Next Q before label what.Eif more rest → Reads (Ends Q p) kind side (what_front what.Eif (10 ∷ rest)))
      → Next Q before label said more rest → Reads (Ends Q p) kind side (what_front said (10 ∷ rest))
  other_line p label before (what.Copy copy) more kind side rest opens room none out fits q goes elses eifs next =
      copy_line values Q p label before copy kind side rest opens room out (first_is (is_file_name copy.from) _ (first_is (is_file_name copy.from && is_file_name copy.to) _ fits)) (second_is (is_file_name copy.from) _ (first_is (is_file_name copy.from && is_file_name copy.to) _ fits))
      (second_is (is_file_name copy.from && is_file_name copy.to) _ fits) q.0 q.1 (moved before label _ _ more rest (same_ifs _ more goes) next)
  other_line p label before (what.Task task) more kind side rest opens room none out fits q goes elses eifs next =
      task_line values Q p label before task task.kind kind side rest refl opens room out fits q (moved before label _ _ more rest (same_ifs _ more goes) next)
  other_line p label before (what.Submit submit) more kind side rest opens room none out fits q goes elses eifs next =
      submit_line values Q p label before submit kind side rest opens room none out (first_is (is_file_name submit.file) _ (first_is (is_file_name submit.file && passes is_node_name submit.snode) _ fits))
      (second_is (is_file_name submit.file) _ (first_is (is_file_name submit.file && passes is_node_name submit.snode) _ fits)) (second_is (is_file_name submit.file && passes is_node_name submit.snode) _ fits) q (moved before label _ _ more rest (same_ifs _ more goes) next)
  other_line p label before (what.If name rel n) more kind side rest opens room none out fits q goes elses eifs next =
      let deep : (nat_lt (length before.ifs) 16 ≡ true) × (false ∷ before.ifs ≡ more) = if_more (nat_lt (length before.ifs) 16) (false ∷ before.ifs) more goes in
      if_line values Q p label before name rel n kind side rest opens room deep.0 out (first_is (is_label name) _ fits) (up_to n 255 (second_is (is_label name) _ fits)) (moved before label _ _ more rest deep.1 next)
  other_line p label before what.Else more kind side rest opens room none out fits q goes elses eifs next = elses goes next
  other_line p label before what.Eif more kind side rest opens room none out fits q goes elses eifs next = eifs goes next
  other_line p label before (what.Goto name) more kind side rest opens room none out fits q goes elses eifs next =
      goto_line values Q p label before name kind side rest opens room out fits (moved before label _ _ more rest (same_ifs _ more goes) next)
  other_line p label before what.Exit more kind side rest opens room none out fits q goes elses eifs next =
      exit_line values Q p label before kind side rest opens room out (moved before label _ _ more rest (same_ifs _ more goes) next)

  stmt_line : (r before : Reading) (s : Step) (label : Option (List ℕ)) (said : What) (more : List Bool) (kind : PieceKind) (side : Side) (rest : List ℕ) → ended r s ≡ Some before → has_room strict before ≡ true → before.symbols ≡ []
      → is_outside side ≡ true → passes is_label label ≡ true → is_what said ≡ true → IsQuotable said → behind said label before.ifs ≡ Some more
      → ((named : Option (ℕ × List ℕ)) → label_in_it named ≡ label → Next Q before named said more rest) → Reads (Ends Q (g.At r s)) kind side (label_front label (what_front said (10 ∷ rest)))
  unfolding is_word_byte is_blank is_quote is_sign_byte
  stmt_line r before s None said more kind side rest ends2 room none out formed fits q goes next =
      other_line (g.At r s) None before said more kind side rest (opens_at r before s ends2) room none out fits q goes
      (λ e next2. let here : (left : List Bool) × (before.ifs ≡ false ∷ left) × (true ∷ left ≡ more) = else_more before.ifs more e in else_line values Q r before s here.0 kind side rest ends2 room here.1 out (moved before None _ _ more rest here.2 next2))
      (λ e next2. let here : (b : Bool) × (left : List Bool) × (before.ifs ≡ b ∷ left) × (left ≡ more) = eif_more before.ifs more e in eif_line values Q r before s here.0 here.1 kind side rest ends2 room here.2 out (moved before None _ _ more rest here.3 next2))
      (next None refl)
  stmt_line r before s (Some label) said more kind side rest ends2 room none out formed fits q goes next =
      on_word _ kind side label (key_of label) out refl (labels_plain label formed) (label_begins kind label formed) refl (λ a1. on_blank _ _ _ (
      onward (λ ts found. (found.0, g.label ends2 (fits_taken _ label (front_read label formed)) found.1, found.2))
      (other_line (g.Labelled before a1 label) (Some (a1, label)) before said more piece.Blank _ rest refl room none (word_outside (key_of label)) fits q goes (λ e next2. absurd cc) (λ e next2. absurd cc) (next (Some (a1, label)) refl))
      ))

  module _ (title : List ℕ) (given : Given) (whole : List Stmt) (final : (r : Reading) (opened : List Bool) → Stands title given whole opened r → Q r) where
    pub stmts_line : (stmts front : List Stmt) (opened : List Bool) (r before : Reading) (s : Step) (kind : PieceKind) (side : Side) → front ++ stmts ≡ whole → length front + length stmts ≤ 1024 → ended r s ≡ Some before → Stands title given front opened before
        → is_outside side ≡ true → are_stmts stmts ≡ true → AreQuotable stmts → AreNested opened stmts → Reads (Ends Q (g.At r s)) kind side (10 ∷ stmts_front stmts (codes "PEND" ++ (10 ∷ [])))
    unfolding is_word_byte is_blank is_quote is_sign_byte
    stmts_line [] front opened r before s kind side e few ends2 stands out fits q nested =
        on_line _ kind side (
        on_word _ piece.LineEnd side (codes "PEND") key.Pend out key_pend refl refl refl (λ a1. on_line _ _ _ (
        on_end _ _ _ (before, g.pend ends2, final before opened (subst (λ (x : List Stmt). Stands title given x opened before) (sym (append-nil front) ∙ e) stands))
        )))
    stmts_line (stmt ∷ stmts) front opened r before s kind side e few ends2 stands out fits q nested =
        let here : is_stmt stmt ≡ true = first_is (is_stmt stmt) _ fits in
        let size : length before.stmts ≡ length front = ap length stands.stmts in
        let less : length before.stmts < 1024 = omega arith in
        let room : nat_lt (length before.stmts) 1024 ≡ true = room_of (length before.stmts) less in
        let goes : behind stmt.what stmt.label before.ifs ≡ Some nested.0 = subst (λ (x : List Bool). behind stmt.what stmt.label x ≡ Some nested.0) (sym stands.ifs) nested.1 in
        let long : length (front ++ stmt ∷ []) ≡ length front + 1 = length-append front (stmt ∷ []) in
        on_line _ kind side (
        stmt_line r before s stmt.label stmt.what nested.0 piece.LineEnd side _ ends2 room stands.symbols out (first_is (passes is_label stmt.label) _ here) (second_is (passes is_label stmt.label) _ here) q.0 goes
        (λ named same r2 s2 later kind2 side2 ends3 follows out2.
        stmts_line stmts (front ++ stmt ∷ []) nested.0 r2 later s2 kind2 side2 (append_assoc front (stmt ∷ []) stmts ∙ e) (omega arith) ends3
        (stands_more title given front opened nested.0 before later stmt stands (subst (λ (x : Option (List ℕ)). Follows before x stmt.what nested.0 later) same follows)) out2 (second_is (is_stmt stmt) _ fits) q.1 nested.2)
        )
