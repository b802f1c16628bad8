-- What a node of a drill does about a command.
use Rattle.std.specs.Prelude.{◌≡◌, ◌⊎◌, ℕ, List, None}
use Rattle.cd_ast.specs.declared.fault.FaultName.TheVariants.{Word}
use Rattle.cd_commands.specs.Commands.{IsCommand, IsCommandFault, Fault, Left, Wrong}
use Rattle.cd_commands.specs.declared.command.Command.{Command}
use Rattle.cd_operator.specs.Doing.{added_by, answer_of, doing, with_added}
use Rattle.cd_operator.specs.declared.reply.Refused.TheVariants.{Text}
use Rattle.cd_operator.specs.declared.reply.Reply.{Reply}
use Rattle.cd_operator.specs.declared.reply.Reply.TheVariants.{Refused}
use Rattle.cd_plain.specs.NodeState.{KeptSessions}
use Rattle.cd_drill.specs.AtRest.{entries_of, IsSame}
use Rattle.cd_drill.specs.declared.test_node.TestNode.{TestNode}

-- At most entries were recorded.
pub record OnlyRecords (before after : TestNode) : Type 0 where
  pub same : IsSame before after
  pub sessions : KeptSessions before.node after.node
  pub files : after.files ≡ before.files
  pub lines : after.lines ≡ before.lines

-- The command was answered as a node does, and what it adds was recorded; where it adds nothing, nothing was done.
pub record WasDone (c : Command) (answer : Reply) (before after : TestNode) : Type 0 where
  pub only : OnlyRecords before after
  pub answered : answer ≡ answer_of (doing before.moment (entries_of before) c)
  pub recorded : entries_of after ≡ with_added (added_by (doing before.moment (entries_of before) c)) (entries_of before)
  pub nothing : added_by (doing before.moment (entries_of before) c) ≡ None → after ≡ before

-- what is told of a text that is no command
abbrev pub fault_reply : Fault → Reply
fault_reply (Left at) = Refused (Text Word at)
fault_reply (Wrong found) = Refused (Text found.0 found.1)

pub record DoneAs (text : List ℕ) (answer : Reply) (before after : TestNode) : Type 0 where
  pub c : Command
  pub is : IsCommand text c
  pub done : WasDone c answer before after

pub record RefusedAs (text : List ℕ) (answer : Reply) (before after : TestNode) : Type 0 where
  pub fault : Fault
  pub is : IsCommandFault text fault
  pub answered : answer ≡ fault_reply fault
  pub same : after ≡ before

abbrev pub IsReplyTo : List ℕ → Reply → TestNode → TestNode → Type 0
IsReplyTo text answer before after = DoneAs text answer before after ⊎ RefusedAs text answer before after
