-- What contracts see of effects in the program.
use Rattle.std.specs.Prelude.{List, map}
use Rattle.cd_frames.specs.Message as message
use Rattle.cd_frames.specs.Message.{Message}
use Rattle.cd_outside.specs.Shelf.{WriteFile, CutFile, SyncFile, RemoveFile}
use Rattle.cd_protocol.specs.declared.effect.Outgoing.{Outgoing}
use Rattle.cd_protocol.specs.declared.effect.Outgoing.TheVariants as out
use Rattle.cd_protocol.specs.declared.effect.Effect as told
use Rattle.cd_protocol.specs.declared.effect.Effect.TheVariants as effect
use Rattle.cd_protocol.specs.declared.effect.Reaction as reactions
use Rattle.cd_protocol.specs.Node.{Effect, Keep, Touch, Begin, Go, Reaction}

abbrev pub seen_frame : Outgoing → Message
seen_frame (out.Hello greeting) = message.Hello greeting
seen_frame (out.Welcome greeting) = message.Welcome greeting
seen_frame (out.StepCopyTo key name disp interval size) = message.StepCopyTo key name disp interval size
seen_frame (out.StepCopyFrom key name interval) = message.StepCopyFrom key name interval
seen_frame (out.Ready key offset) = message.Ready key offset
seen_frame (out.Length key size) = message.Length key size
seen_frame (out.Data key offset bytes) = message.Data key offset bytes.now
seen_frame (out.Ack key offset) = message.Ack key offset
seen_frame (out.End key size) = message.End key size
seen_frame (out.Result key outcomes) = message.Result key outcomes
seen_frame (out.Abort key cause) = message.Abort key cause
seen_frame (out.Forget home number) = message.Forget home number
seen_frame out.Bye = message.Bye

abbrev pub seen_effect : told.Effect → Effect
seen_effect (effect.Keep e) = Keep e
seen_effect (effect.Write name at bytes) = Touch (WriteFile name at bytes.now)
seen_effect (effect.Cut name len) = Touch (CutFile name len)
seen_effect (effect.Sync name) = Touch (SyncFile name)
seen_effect (effect.Remove name) = Touch (RemoveFile name)
seen_effect (effect.Begin key phase) = Begin key phase
seen_effect (effect.Go phase frames) = Go phase (map seen_frame frames.items)

abbrev pub seen_reaction : reactions.Reaction → Reaction
seen_reaction reaction = record { effects = map seen_effect reaction.effects.items; later = reaction.later }
