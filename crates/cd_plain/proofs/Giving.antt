-- Effects of a session give bytes to it alone.
use Rattle.std.proofs.Common.{ℕ, List, [], ◌∷◌, ◌++◌, eqb, refl, ap, ◌∙◌}
use Rattle.std.proofs.lemmas.Bool.{cond-false}
use Rattle.cd_outside.specs.Lines.{Traffic, sent}
use Rattle.cd_frames.specs.Frame.{frame_bytes}
use Rattle.cd_frames.specs.Message.{Message}
use Rattle.cd_protocol.specs.Node.{Effect, Keep, Touch, AskSize, AskBytes, Begin, Go, sends}
use Rattle.cd_effects.specs.Stands.{Spot, WereDone, WereCut, TrafficTorn, gave}
use Rattle.cd_effects.specs.declared.fault.Fault.{Fault}
use Rattle.cd_plain.specs.Choice.{GaveOfOne}

gave_given : (sid : ℕ) (frames : List Message) (traffic : Traffic) → GaveOfOne sid traffic (gave sid frames traffic)
gave_given sid [] traffic other apart = refl
gave_given sid (m ∷ frames) traffic other apart =
    gave_given sid frames (sent sid (frame_bytes m) traffic) other apart ∙ cond-false (eqb sid other) (traffic.given sid ++ frame_bytes m) (traffic.given other) apart

torn_given : (sid : ℕ) (effect : Effect) (before after : Traffic) → TrafficTorn sid effect before after → GaveOfOne sid before after
torn_given sid (Go phase frames) before after some other apart = some.front.others other apart ∙ gave_given sid some.given before other apart
torn_given sid (Keep e) before after same other apart = ap (λ (t : Traffic). t.given other) same
torn_given sid (Touch change) before after same other apart = ap (λ (t : Traffic). t.given other) same
torn_given sid (AskSize name) before after same other apart = ap (λ (t : Traffic). t.given other) same
torn_given sid (AskBytes name at len) before after same other apart = ap (λ (t : Traffic). t.given other) same
torn_given sid (Begin key phase) before after same other apart = ap (λ (t : Traffic). t.given other) same

module _ (files_told lines_told : Type 0) (sid : ℕ) where
  pub done_given : (effects : List Effect) (before after : Spot) → WereDone files_told lines_told sid effects before after → lines_told → GaveOfOne sid before.traffic after.traffic
  done_given effects before after done told other apart = ap (λ (t : Traffic). t.given other) (done.traffic told) ∙ gave_given sid (sends effects) before.traffic other apart

  pub cut_given : (effects : List Effect) (why : Fault) (before after : Spot) → WereCut files_told lines_told sid effects why before after → lines_told → GaveOfOne sid before.traffic after.traffic
  cut_given effects why before after cut told other apart =
      torn_given sid cut.torn cut.middle.traffic after.traffic (cut.rest.traffic told) other apart ∙ done_given cut.done before cut.middle cut.first told other apart
