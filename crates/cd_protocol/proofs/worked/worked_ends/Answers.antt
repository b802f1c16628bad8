use Rattle.std.proofs.Common.{refl}
use Rattle.cd_ast.specs.Walk.{action_from, code_at, eif_from, else_from, label_from, path_from, pending_from}
use Rattle.cd_rules.specs.Keys.{same_key}
use Rattle.cd_rules.specs.Openings.{openings}
use Rattle.cd_rules.specs.Processes.{own_home, submission, submitted, made_for, is_live, live_numbers, ended, latest, is_forgotten}
use Rattle.cd_rules.specs.Queue.{placing}
use Rattle.cd_rules.specs.Status.{status, outcome, mark}
use Rattle.cd_rules.specs.Legal.{allowed}
use Rattle.cd_protocol.specs.Rows.{is_formed, is_sendable, all_reactions}
use Rattle.cd_frames.specs.Frame.{is_abort}
use Rattle.cd_types.specs.Choices.{is_kept}
use Rattle.std.specs.Str.{is_utf8, chars}
use lib.Utf8.{encode}
use Rattle.cd_protocol.proofs.worked.worked_ends.Goals as goal

pub returns-clause-empty_not_yet : goal.returns-clause-empty_not_yet
unfolding same_key status outcome mark own_home submission submitted made_for is_live live_numbers ended latest is_forgotten openings placing allowed action_from code_at eif_from else_from label_from path_from pending_from is_formed is_sendable is_abort is_kept is_utf8 chars encode all_reactions
returns-clause-empty_not_yet c = refl

pub returns-clause-empty_at_seven : goal.returns-clause-empty_at_seven
unfolding same_key status outcome mark own_home submission submitted made_for is_live live_numbers ended latest is_forgotten openings placing allowed action_from code_at eif_from else_from label_from path_from pending_from is_formed is_sendable is_abort is_kept is_utf8 chars encode all_reactions
returns-clause-empty_at_seven c = refl

pub returns-clause-empty_done : goal.returns-clause-empty_done
unfolding same_key status outcome mark own_home submission submitted made_for is_live live_numbers ended latest is_forgotten openings placing allowed action_from code_at eif_from else_from label_from path_from pending_from is_formed is_sendable is_abort is_kept is_utf8 chars encode all_reactions
returns-clause-empty_done c = record { way_to_a = refl; way_to_b = refl; side_a = refl; side_b = refl }

pub returns-clause-empty_file : goal.returns-clause-empty_file
unfolding same_key status outcome mark own_home submission submitted made_for is_live live_numbers ended latest is_forgotten openings placing allowed action_from code_at eif_from else_from label_from path_from pending_from is_formed is_sendable is_abort is_kept is_utf8 chars encode all_reactions
returns-clause-empty_file c = refl

pub returns-clause-missing : goal.returns-clause-missing
unfolding same_key status outcome mark own_home submission submitted made_for is_live live_numbers ended latest is_forgotten openings placing allowed action_from code_at eif_from else_from label_from path_from pending_from is_formed is_sendable is_abort is_kept is_utf8 chars encode all_reactions
returns-clause-missing c = refl

pub returns-clause-missing_done : goal.returns-clause-missing_done
unfolding same_key status outcome mark own_home submission submitted made_for is_live live_numbers ended latest is_forgotten openings placing allowed action_from code_at eif_from else_from label_from path_from pending_from is_formed is_sendable is_abort is_kept is_utf8 chars encode all_reactions
returns-clause-missing_done c = record { way_to_a = refl; way_to_b = refl; side_a = refl; side_b = refl }

pub returns-clause-missing_file : goal.returns-clause-missing_file
unfolding same_key status outcome mark own_home submission submitted made_for is_live live_numbers ended latest is_forgotten openings placing allowed action_from code_at eif_from else_from label_from path_from pending_from is_formed is_sendable is_abort is_kept is_utf8 chars encode all_reactions
returns-clause-missing_file c = refl
