use Rattle.std.proofs.Common.{◌≡◌, ◌∷◌, take, drop, sym, ◌∙◌, refl}
use Rattle.cd_parser.proofs.Marks.{at_place, goto_at, here_as}
use Rattle.cd_parser.proofs.late.wrong_at.Goals as goal
use Rattle.cd_parser.proofs.late.wrong_at.Goals.{in-Copy, in-If, in-Goto, in-Action, in-Else, in-Eif, in-Exit}

pub returns : goal.returns
returns c =
    at_place c.args.marks.now c.args.place _ c.in-Some.mark.now c.in-Some.behind.now c.sooner.result c.split_at.ensures.back c.in-Some.ensures.cases.0
    (c.sooner.ensures _ _ (rw c.split_at.ensures.front at c.doubled.ensures)
    (elim c.match-mark.branch [
      | in-Copy w ↦ rw (w.wrong-is, w.in-Copy.is) w.fault_if-wrong.ensures
      | in-If w ↦ rw (w.wrong-is, w.in-If.is) (rw c.split_at.ensures.front at (w.wrong_if-wrong.ensures c.in-Some.mark.now refl))
      | in-Goto w ↦ here_as (take c.args.place c.args.marks.now) c.in-Some.mark.now c.in-Some.behind.now _ _ c.in-Some.mark.now.what _ w.in-Goto.is w.wrong-is
          (goto_at c.args.marks.now c.args.place c.in-Some.mark.now c.in-Some.behind.now _ w.in-Goto.at w.in-Goto.label c.requires.within (sym c.split_at.ensures.back ∙ c.in-Some.ensures.cases.0) w.wrong_goto-wrong.ensures)
      | in-Action w ↦ rw (w.wrong-is, w.in-Action.is) refl
      | in-Else w ↦ rw (w.wrong-is, w.in-Else.is) refl
      | in-Eif w ↦ rw (w.wrong-is, w.in-Eif.is) refl
      | in-Exit w ↦ rw (w.wrong-is, w.in-Exit.is) refl
    ]))
