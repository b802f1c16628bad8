use Rattle.std.proofs.Common.{◌≡◌, ℕ, List, Option, Some, None, refl, sym, ap, arith}
use Rattle.std.specs.Prelude.{codes}
use Rattle.std.specs.Str.{bytes_eq}
use Rattle.std.proofs.lemmas.Bool.{false≢true}
use Rattle.cd_ast.specs.Walk.{action_from, code_at, eif_from, else_from, label_from, path_from, pending_from}
use Rattle.cd_ast.specs.declared.process.Process.{Process}
use Rattle.cd_rules.specs.Keys.{same_key}
use Rattle.cd_rules.specs.Openings.{openings}
use Rattle.cd_rules.specs.Processes.{own_home, submission, submitted, made_for, is_live, live_numbers, ended, latest, is_forgotten}
use Rattle.cd_rules.specs.Queue.{placing}
use Rattle.cd_rules.specs.Status.{status, outcome, mark}
use Rattle.cd_rules.specs.Legal.{allowed}
use Rattle.cd_rules.specs.Promises.{HavePriorities}
use Rattle.cd_protocol.specs.Rows.{is_formed, is_sendable, all_reactions}
use Rattle.cd_frames.specs.Frame.{is_abort}
use Rattle.cd_protocol.specs.Worked.{worked_process}
use Rattle.cd_types.specs.Choices.{is_kept}
use Rattle.std.specs.Str.{is_utf8, chars}
use lib.Utf8.{encode}
use Rattle.cd_world.specs.World.{AllTold}
use Rattle.cd_world.specs.Worked.{lossy_world}
use Rattle.cd_world.proofs.worked.worked_loss.Goals as goal

priorities : HavePriorities (λ text. Some (worked_process 4))
priorities text process is =
    let prty_of : Option Process → ℕ = λ found. elim found as (λ o. ℕ) [ None ↦ 10 | Some p ↦ p.card.prty ] in
    let same : 10 ≡ process.card.prty = ap prty_of is in
    (omega (arith, same), omega (arith, same))

pub returns-clause-first : goal.returns-clause-first
returns-clause-first c = record {
  name_a = codes "ALPHA";
  home_a = 1;
  name_b = codes "BETA";
  home_b = 2;
  names = λ same. false≢true (ap (λ (name : List ℕ). bytes_eq name (codes "ALPHA")) (sym same));
  homes = λ same. omega (arith, same);
  a = record { journal = refl; priorities = priorities; files = lossy_world.a.settled; shelf = refl; settled = refl; spoiled = refl; sessions = refl; received = refl; calls = refl; way = refl };
  b = record { journal = refl; priorities = priorities; files = lossy_world.b.settled; shelf = refl; settled = refl; spoiled = refl; sessions = refl; received = refl; calls = refl; way = refl };
  notes = refl;
}

pub returns-clause-possible : goal.returns-clause-possible
unfolding same_key status outcome mark own_home submission submitted made_for is_live live_numbers ended latest is_forgotten openings placing allowed action_from code_at eif_from else_from label_from path_from pending_from is_formed is_sendable is_abort is_kept is_utf8 chars encode all_reactions AllTold
returns-clause-possible c = (tt, (tt, (tt, ((tt, tt), ((tt, (refl, (tt, tt))), ((refl, (tt, tt)), ((refl, (tt, tt)), ((tt, tt), ((refl, (tt, tt)), ((tt, tt), (tt, (tt, (tt, (tt, (tt, (tt, ((tt, tt), ((tt, (refl, (tt, tt))), ((tt, tt), ((refl, (tt, tt)), ((tt, tt), ((tt, tt), ((tt, tt), ((tt, (tt, tt)), ((tt, tt), ((tt, tt), tt))))))))))))))))))))))))))

pub returns-clause-ended_is : goal.returns-clause-ended_is
unfolding same_key status outcome mark own_home submission submitted made_for is_live live_numbers ended latest is_forgotten openings placing allowed action_from code_at eif_from else_from label_from path_from pending_from is_formed is_sendable is_abort is_kept is_utf8 chars encode all_reactions AllTold
returns-clause-ended_is c = refl

pub returns-clause-landed : goal.returns-clause-landed
unfolding same_key status outcome mark own_home submission submitted made_for is_live live_numbers ended latest is_forgotten openings placing allowed action_from code_at eif_from else_from label_from path_from pending_from is_formed is_sendable is_abort is_kept is_utf8 chars encode all_reactions AllTold
returns-clause-landed c = refl

pub returns-clause-noted : goal.returns-clause-noted
unfolding same_key status outcome mark own_home submission submitted made_for is_live live_numbers ended latest is_forgotten openings placing allowed action_from code_at eif_from else_from label_from path_from pending_from is_formed is_sendable is_abort is_kept is_utf8 chars encode all_reactions AllTold
returns-clause-noted c = refl

pub returns-clause-file : goal.returns-clause-file
unfolding same_key status outcome mark own_home submission submitted made_for is_live live_numbers ended latest is_forgotten openings placing allowed action_from code_at eif_from else_from label_from path_from pending_from is_formed is_sendable is_abort is_kept is_utf8 chars encode all_reactions AllTold
returns-clause-file c = refl

pub returns-clause-left : goal.returns-clause-left
unfolding same_key status outcome mark own_home submission submitted made_for is_live live_numbers ended latest is_forgotten openings placing allowed action_from code_at eif_from else_from label_from path_from pending_from is_formed is_sendable is_abort is_kept is_utf8 chars encode all_reactions AllTold
returns-clause-left c = refl
