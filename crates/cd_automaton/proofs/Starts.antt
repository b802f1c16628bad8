-- The word STARTT alone sets a start, and in the PROCESS statement alone.
use Rattle.std.proofs.Common.{◌≡◌, Some, refl}
use Rattle.cd_grammar.specs.declared.token.Key.{Key}
use Rattle.cd_grammar.specs.declared.token.Key.TheVariants as key
use Rattle.cd_grammar.specs.declared.given.Slot.TheVariants as slot
use Rattle.cd_grammar.specs.declared.step.Work.{Work}
use Rattle.cd_grammar.specs.declared.step.Work.TheVariants as work
use Rattle.cd_grammar.specs.declared.step.End.{End}
use Rattle.cd_grammar.specs.declared.step.End.TheVariants as ends
use Rattle.cd_grammar.specs.declared.step.Step.{Step}
use Rattle.cd_grammar.specs.declared.step.Step.TheVariants as step
use Rattle.cd_grammar.specs.Given.{head_slot, copy_slot, from_slot, to_slot, task_slot, job_slot, submit_slot}
use Rattle.cd_grammar.specs.Reading.{slot_of, end_slot, work_slot}

-- STARTT in the PROCESS statement
abbrev pub IsStart : Step → Key → Type 0
IsStart (step.Head given) k = k ≡ key.Startt
IsStart step.Between k = ⊥
IsStart (step.Copy begun copy) k = ⊥
IsStart (step.Group begun copy end given) k = ⊥
IsStart (step.Run begun w given) k = ⊥
IsStart (step.RunGroup begun w given) k = ⊥
IsStart (step.Submit begun given) k = ⊥

in_head : (k : Key) → head_slot k ≡ Some slot.Start → k ≡ key.Startt
unfolding head_slot
in_head key.Startt e = refl
in_head _ e = absurd cc

in_copy : (k : Key) → copy_slot k ≡ Some slot.Start → ⊥
unfolding copy_slot
in_copy key.Ckpt e = cc
in_copy _ e = cc

in_end : (end : End) (k : Key) → end_slot end k ≡ Some slot.Start → ⊥
unfolding from_slot to_slot
in_end ends.From key.File e = cc
in_end ends.From _ e = cc
in_end ends.To key.File e = cc
in_end ends.To _ e = cc

in_work : (w : Work) (k : Key) → work_slot w k ≡ Some slot.Start → ⊥
unfolding task_slot job_slot
in_work work.Task key.Pgm e = cc
in_work work.Task _ e = cc
in_work work.Job key.Pgm e = cc
in_work work.Job _ e = cc

in_submit : (k : Key) → submit_slot k ≡ Some slot.Start → ⊥
unfolding submit_slot
in_submit key.File e = cc
in_submit _ e = cc

pub start_slot : (s : Step) (k : Key) → slot_of s k ≡ Some slot.Start → IsStart s k
unfolding slot_of
start_slot (step.Head given) k e = in_head k e
start_slot step.Between k e = cc
start_slot (step.Copy begun copy) k e = in_copy k e
start_slot (step.Group begun copy end given) k e = in_end end k e
start_slot (step.Run begun w given) k e = in_work w k e
start_slot (step.RunGroup begun w given) k e = in_work w k e
start_slot (step.Submit begun given) k e = in_submit k e
