use Rattle.std.proofs.Common.{refl}
use Rattle.cd_ast.specs.Walk.{action_from, code_at, eif_from, else_from, label_from, path_from, pending_from}
use Rattle.cd_walk.proofs.law.worked_walk.Goals as goal

pub returns-clause-none : goal.returns-clause-none
unfolding action_from code_at eif_from else_from label_from path_from pending_from
returns-clause-none c = refl

pub returns-clause-zero : goal.returns-clause-zero
unfolding action_from code_at eif_from else_from label_from path_from pending_from
returns-clause-zero c = refl

pub returns-clause-zero_then : goal.returns-clause-zero_then
unfolding action_from code_at eif_from else_from label_from path_from pending_from
returns-clause-zero_then c = refl

pub returns-clause-zero_path : goal.returns-clause-zero_path
unfolding action_from code_at eif_from else_from label_from path_from pending_from
returns-clause-zero_path c = refl

pub returns-clause-zero_end : goal.returns-clause-zero_end
unfolding action_from code_at eif_from else_from label_from path_from pending_from
returns-clause-zero_end c = refl

pub returns-clause-four : goal.returns-clause-four
unfolding action_from code_at eif_from else_from label_from path_from pending_from
returns-clause-four c = refl

pub returns-clause-four_path : goal.returns-clause-four_path
unfolding action_from code_at eif_from else_from label_from path_from pending_from
returns-clause-four_path c = refl

pub returns-clause-four_end : goal.returns-clause-four_end
unfolding action_from code_at eif_from else_from label_from path_from pending_from
returns-clause-four_end c = refl

pub returns-clause-eight : goal.returns-clause-eight
unfolding action_from code_at eif_from else_from label_from path_from pending_from
returns-clause-eight c = refl

pub returns-clause-eight_then : goal.returns-clause-eight_then
unfolding action_from code_at eif_from else_from label_from path_from pending_from
returns-clause-eight_then c = refl

pub returns-clause-eight_path : goal.returns-clause-eight_path
unfolding action_from code_at eif_from else_from label_from path_from pending_from
returns-clause-eight_path c = refl

pub returns-clause-eight_end : goal.returns-clause-eight_end
unfolding action_from code_at eif_from else_from label_from path_from pending_from
returns-clause-eight_end c = refl
