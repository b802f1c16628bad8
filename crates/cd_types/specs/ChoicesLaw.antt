-- Fields of one byte are fields.
use Rattle.std.proofs.Common.{refl, arith}
use Rattle.cd_types.specs.Format.{IsFormat}
use Rattle.cd_types.specs.Compound.{choice_in}
use Rattle.cd_types.specs.CompoundLaw.{choice_law}
use Rattle.cd_types.specs.declared.choices.Hold.{Hold}
use Rattle.cd_types.specs.declared.choices.Hold.TheVariants as hold
use Rattle.cd_types.specs.declared.choices.Retain.{Retain}
use Rattle.cd_types.specs.declared.choices.Retain.TheVariants as retain
use Rattle.cd_types.specs.declared.choices.Queue.{Queue}
use Rattle.cd_types.specs.declared.choices.Queue.TheVariants as queue
use Rattle.cd_types.specs.declared.choices.Reason.{Reason}
use Rattle.cd_types.specs.declared.choices.Reason.TheVariants as reason
use Rattle.cd_types.specs.declared.choices.Cause.{Cause}
use Rattle.cd_types.specs.declared.choices.Cause.TheVariants as cause
use Rattle.cd_types.specs.declared.choices.Disp.{Disp}
use Rattle.cd_types.specs.declared.choices.Disp.TheVariants as disp
use Rattle.cd_types.specs.declared.choices.How.{How}
use Rattle.cd_types.specs.declared.choices.How.TheVariants as how
use Rattle.cd_types.specs.declared.choices.TaskKind.{TaskKind}
use Rattle.cd_types.specs.declared.choices.TaskKind.TheVariants as task_kind
use Rattle.cd_types.specs.Choices.{holds, hold_code, retains, retain_code, queues, queue_code, reasons, reason_code, causes, cause_code, disps, disp_code, task_kinds, task_kind_code, hows, how_code}
use Rattle.cd_types.specs.Number.{number_bytes}

pub hold_law : IsFormat (λ (x : Hold). Unit {0}) (λ x. number_bytes 1 (hold_code x)) (choice_in holds)
hold_law = choice_law hold_code holds (refl, (refl, (refl, tt))) (elim [ hold.No ↦ (omega arith, refl) | hold.Yes ↦ (omega arith, refl) | hold.Call ↦ (omega arith, refl) ])

pub retain_law : IsFormat (λ (x : Retain). Unit {0}) (λ x. number_bytes 1 (retain_code x)) (choice_in retains)
retain_law = choice_law retain_code retains (refl, (refl, (refl, tt))) (elim [ retain.No ↦ (omega arith, refl) | retain.Yes ↦ (omega arith, refl) | retain.Initial ↦ (omega arith, refl) ])

pub queue_law : IsFormat (λ (x : Queue). Unit {0}) (λ x. number_bytes 1 (queue_code x)) (choice_in queues)
queue_law = choice_law queue_code queues (refl, (refl, (refl, (refl, tt)))) (elim [ queue.Execution ↦ (omega arith, refl) | queue.Wait ↦ (omega arith, refl) | queue.Timer ↦ (omega arith, refl) | queue.Hold ↦ (omega arith, refl) ])

pub reason_law : IsFormat (λ (x : Reason). Unit {0}) (λ x. number_bytes 1 (reason_code x)) (choice_in reasons)
reason_law = choice_law reason_code reasons (refl, (refl, (refl, (refl, (refl, (refl, (refl, (refl, (refl, (refl, tt)))))))))) (elim [ reason.None ↦ (omega arith, refl) | reason.Operator ↦ (omega arith, refl) | reason.Call ↦ (omega arith, refl) | reason.Retained ↦ (omega arith, refl) | reason.Start ↦ (omega arith, refl) | reason.Retry ↦ (omega arith, refl) | reason.NoConnect ↦ (omega arith, refl) | reason.UnknownNode ↦ (omega arith, refl) | reason.Rejected ↦ (omega arith, refl) | reason.Running ↦ (omega arith, refl) ])

pub cause_law : IsFormat (λ (x : Cause). Unit {0}) (λ x. number_bytes 1 (cause_code x)) (choice_in causes)
cause_law = choice_law cause_code causes (refl, (refl, (refl, (refl, (refl, (refl, (refl, (refl, (refl, (refl, (refl, (refl, (refl, (refl, (refl, (refl, (refl, tt))))))))))))))))) (elim [ cause.None ↦ (omega arith, refl) | cause.Exists ↦ (omega arith, refl) | cause.InUse ↦ (omega arith, refl) | cause.NoSource ↦ (omega arith, refl) | cause.SourceChanged ↦ (omega arith, refl) | cause.Interrupted ↦ (omega arith, refl) | cause.NotStarted ↦ (omega arith, refl) | cause.Killed ↦ (omega arith, refl) | cause.SubmitText ↦ (omega arith, refl) | cause.SubmitFile ↦ (omega arith, refl) | cause.SubmitFull ↦ (omega arith, refl) | cause.SubmitNumbers ↦ (omega arith, refl) | cause.Released ↦ (omega arith, refl) | cause.TooLarge ↦ (omega arith, refl) | cause.SubmitNode ↦ (omega arith, refl) | cause.Trouble ↦ (omega arith, refl) | cause.SubmitStart ↦ (omega arith, refl) ])

pub disp_law : IsFormat (λ (x : Disp). Unit {0}) (λ x. number_bytes 1 (disp_code x)) (choice_in disps)
disp_law = choice_law disp_code disps (refl, (refl, (refl, tt))) (elim [ disp.New ↦ (omega arith, refl) | disp.Rpl ↦ (omega arith, refl) | disp.Mod ↦ (omega arith, refl) ])

pub task_kind_law : IsFormat (λ (x : TaskKind). Unit {0}) (λ x. number_bytes 1 (task_kind_code x)) (choice_in task_kinds)
task_kind_law = choice_law task_kind_code task_kinds (refl, (refl, (refl, tt))) (elim [ task_kind.Restart ↦ (omega arith, refl) | task_kind.Once ↦ (omega arith, refl) | task_kind.Job ↦ (omega arith, refl) ])

pub how_law : IsFormat (λ (x : How). Unit {0}) (λ x. number_bytes 1 (how_code x)) (choice_in hows)
how_law = choice_law how_code hows (refl, (refl, (refl, tt))) (elim [ how.Finished ↦ (omega arith, refl) | how.Deleted ↦ (omega arith, refl) | how.Flushed ↦ (omega arith, refl) ])
