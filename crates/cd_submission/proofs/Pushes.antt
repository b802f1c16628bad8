-- A push is one with its interval said.
use Rattle.std.proofs.Common.{◌≡◌, ℕ, true, ◌&&◌, List, [], ◌∷◌, map, Option, Some, None, refl}
use Rattle.std.proofs.lemmas.Bool.{and_parts, and_from}
use Rattle.cd_ast.specs.declared.process.Process.{Process}
use Rattle.cd_ast.specs.declared.process.Stmt.{Stmt}
use Rattle.cd_ast.specs.declared.process.What.{What}
use Rattle.cd_ast.specs.declared.process.What.TheVariants.{Copy, Task, Submit, If, Else, Eif, Goto, Exit}
use Rattle.cd_grammar.specs.Reading.{or_default}
use Rattle.cd_submission.specs.Filing.{default_interval, filled_what, filled_stmt, filled, replaces, says_interval, is_push_step, is_one, is_plain_card, is_push}

interval_said : (o : Option ℕ) → says_interval None o ≡ true → says_interval (Some default_interval) (Some (or_default o default_interval)) ≡ true
interval_said None e = refl
interval_said (Some n) e = absurd cc

step_said : (said : What) → is_push_step None said ≡ true → is_push_step (Some default_interval) (filled_what said) ≡ true
step_said (Copy copy) e =
    let is = and_parts (copy.push && replaces copy.disp) (says_interval None copy.ckpt) e in
    and_from (copy.push && replaces copy.disp) (says_interval (Some default_interval) (Some (or_default copy.ckpt default_interval))) is.0 (interval_said copy.ckpt is.1)
step_said (Task task) e = absurd cc
step_said (Submit submit) e = absurd cc
step_said (If label rel n) e = absurd cc
step_said Else e = absurd cc
step_said Eif e = absurd cc
step_said (Goto label) e = absurd cc
step_said Exit e = absurd cc

one_said : (stmts : List Stmt) → is_one (λ stmt. is_push_step None stmt.what) stmts ≡ true → is_one (λ stmt. is_push_step (Some default_interval) stmt.what) (map filled_stmt stmts) ≡ true
one_said [] e = absurd cc
one_said (s ∷ []) e = step_said s.what e
one_said (s ∷ other ∷ stmts) e = absurd cc

pub push_said : (process : Process) → is_push None process ≡ true → is_push (Some default_interval) (filled process) ≡ true
unfolding is_push
push_said process e =
    let is = and_parts (is_plain_card process.card) (is_one (λ stmt. is_push_step None stmt.what) process.stmts) e in
    and_from (is_plain_card process.card) (is_one (λ stmt. is_push_step (Some default_interval) stmt.what) (map filled_stmt process.stmts)) is.0 (one_said process.stmts is.1)

pub push_card : (process : Process) → is_push None process ≡ true → is_plain_card process.card ≡ true
unfolding is_push
push_card process e = (and_parts (is_plain_card process.card) (is_one (λ stmt. is_push_step None stmt.what) process.stmts) e).0
