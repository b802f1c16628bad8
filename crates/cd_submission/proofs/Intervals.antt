-- What statements keep whose COPYs say their intervals.
use Rattle.std.proofs.Common.{◌≡◌, ℕ, ◌+◌, Bool, true, ◌&&◌, List, [], ◌∷◌, map, Option, Some, None, refl, ap, ◌∙◌}
use Rattle.std.proofs.lemmas.Bool.{and_parts, and_from}
use Rattle.cd_types.specs.FileName.{is_file_name}
use Rattle.cd_types.specs.Label.{is_label}
use Rattle.cd_ast.specs.declared.process.CopyStep.{CopyStep}
use Rattle.cd_ast.specs.declared.process.Stmt.{Stmt}
use Rattle.cd_ast.specs.declared.process.What.{What}
use Rattle.cd_ast.specs.declared.process.What.TheVariants.{Copy, Task, Submit, If, Else, Eif, Goto, Exit}
use Rattle.cd_grammar.specs.declared.mark.Mark.{Mark}
use Rattle.cd_grammar.specs.declared.mark.Sketch.{Sketch}
use Rattle.cd_grammar.specs.declared.mark.Sketch.TheVariants as sketch
use Rattle.cd_grammar.specs.Reading.{or_default}
use Rattle.cd_automaton.specs.Ranges.{passes, is_interval, is_what, is_stmt, are_stmts}
use Rattle.cd_print.specs.Printable.{IsQuotable, AreQuotable, behind, AreNested, HasGoodTexts, HaveGoodTexts}
use Rattle.cd_print.proofs.Grows.{said_size, stmts_size}
use Rattle.cd_print.proofs.Origin.{IsSketchOf, AreMarked}
use Rattle.cd_submission.specs.Filing.{default_interval, filled_what, filled_stmt}

-- a COPY with its interval
abbrev filled_copy : CopyStep → What
filled_copy copy = Copy (record copy { ckpt = Some (or_default copy.ckpt default_interval) })

-- no other statement changes
filled_keeps : (P : What → Type 0) → ((copy : CopyStep) → P (Copy copy) → P (filled_copy copy)) → (said : What) → P said → P (filled_what said)
filled_keeps P f (Copy copy) h = f copy h
filled_keeps P f (Task task) h = h
filled_keeps P f (Submit submit) h = h
filled_keeps P f (If label rel n) h = h
filled_keeps P f Else h = h
filled_keeps P f Eif h = h
filled_keeps P f (Goto label) h = h
filled_keeps P f Exit h = h

-- they are in range
interval_fits : (o : Option ℕ) → passes is_interval o ≡ true → is_interval (or_default o default_interval) ≡ true
interval_fits None e = refl
interval_fits (Some n) e = e

copy_fits : (copy : CopyStep) → is_what (Copy copy) ≡ true → is_what (filled_copy copy) ≡ true
copy_fits copy e =
    let is = and_parts (is_file_name copy.from && is_file_name copy.to) (passes is_interval copy.ckpt) e in
    and_from (is_file_name copy.from && is_file_name copy.to) (is_interval (or_default copy.ckpt default_interval)) is.0 (interval_fits copy.ckpt is.1)

stmt_fits : (s : Stmt) → is_stmt s ≡ true → is_stmt (filled_stmt s) ≡ true
stmt_fits s e =
    let is = and_parts (passes is_label s.label) (is_what s.what) e in
    and_from (passes is_label s.label) (is_what (filled_what s.what)) is.0 (filled_keeps (λ said. is_what said ≡ true) copy_fits s.what is.1)

pub filled_fit : (stmts : List Stmt) → are_stmts stmts ≡ true → are_stmts (map filled_stmt stmts) ≡ true
filled_fit [] e = refl
filled_fit (s ∷ stmts) e =
    let is = and_parts (is_stmt s) (are_stmts stmts) e in
    and_from (is_stmt (filled_stmt s)) (are_stmts (map filled_stmt stmts)) (stmt_fits s is.0) (filled_fit stmts is.1)

-- their texts can be quoted and are good
pub filled_quotable : (stmts : List Stmt) → AreQuotable stmts → AreQuotable (map filled_stmt stmts)
filled_quotable [] h = tt
filled_quotable (s ∷ stmts) h = (filled_keeps IsQuotable (λ copy q. q) s.what h.0, filled_quotable stmts h.1)

pub filled_texts : (stmts : List Stmt) → HaveGoodTexts stmts → HaveGoodTexts (map filled_stmt stmts)
filled_texts [] h = tt
filled_texts (s ∷ stmts) h = (filled_keeps HasGoodTexts (λ copy good. good) s.what h.0, filled_texts stmts h.1)

-- they stand where they stood
pub filled_nested : (ifs : List Bool) (stmts : List Stmt) → AreNested ifs stmts → AreNested ifs (map filled_stmt stmts)
filled_nested ifs [] h = tt
filled_nested ifs (s ∷ stmts) h =
    (h.0, filled_keeps (λ said. behind said s.label ifs ≡ Some h.0) (λ copy e. e) s.what h.1, filled_nested h.0 stmts h.2)

-- their marks are the same
copy_marked : (sketched : Sketch) (copy : CopyStep) → IsSketchOf sketched (Copy copy) → IsSketchOf sketched (filled_copy copy)
copy_marked (sketch.Copy alike) copy h = tt
copy_marked sketch.Action copy h = absurd h
copy_marked (sketch.If at name) copy h = absurd h
copy_marked sketch.Else copy h = absurd h
copy_marked sketch.Eif copy h = absurd h
copy_marked (sketch.Goto at name) copy h = absurd h
copy_marked sketch.Exit copy h = absurd h

pub filled_marked : (marks : List Mark) (stmts : List Stmt) → AreMarked marks stmts → AreMarked marks (map filled_stmt stmts)
filled_marked [] [] h = tt
filled_marked [] (s ∷ stmts) h = absurd h
filled_marked (m ∷ marks) [] h = absurd h
filled_marked (m ∷ marks) (s ∷ stmts) h =
    (record { label = h.0.label; said = filled_keeps (IsSketchOf m.what) (copy_marked m.what) s.what h.0.said }, filled_marked marks stmts h.1)

-- and they have the same size
pub filled_size : (stmts : List Stmt) → stmts_size (map filled_stmt stmts) ≡ stmts_size stmts
filled_size [] = refl
filled_size (s ∷ stmts) =
    let here : said_size (filled_what s.what) ≡ said_size s.what = filled_keeps (λ said. said_size said ≡ said_size s.what) (λ copy e. e) s.what refl in
    ap (λ n. n + stmts_size (map filled_stmt stmts)) here ∙ ap (λ n. said_size s.what + n) (filled_size stmts)
