use Rattle.std.proofs.Common.{sym, subst, length, ◌≤◌}
use Rattle.cd_frames.specs.Frame.{body_bytes}
use Rattle.cd_frames.specs.Message.{Message}
use Rattle.cd_protocol.specs.Seen.{seen_frame}
use Rattle.cd_effects.proofs.Short.{frame_short}
use Rattle.cd_effects.proofs.session.send.Goals as goal

pub write_frame-requires-clause-short : goal.write_frame-requires-clause-short
write_frame-requires-clause-short g c = subst (λ (m : Message). length (body_bytes m) ≤ 131072) (sym c.frame.ensures) (frame_short (seen_frame c.args.frame.now) c.see_names.ensures c.requires.ready)
