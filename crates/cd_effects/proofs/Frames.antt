-- Frames in their form, one after another.
use Rattle.std.proofs.Common.{◌≡◌, ℕ, ◌+◌, ◌<◌, List, [], ◌∷◌, ◌++◌, length, take, map, get_or, sym, subst}
use Rattle.std.proofs.lemmas.List.{append-nil}
use Rattle.cd_frames.specs.Frame.{IsFrame}
use Rattle.cd_frames.specs.Message.{Message}
use Rattle.cd_protocol.specs.Node.{Effect, Keep, Touch, AskSize, AskBytes, Begin, Go, sends}
use Rattle.cd_protocol.specs.Seen.{seen_frame}
use Rattle.cd_protocol.specs.declared.effect.Outgoing.{Outgoing}
use Rattle.cd_effects.specs.Stands.{AreFrames, HasFrames}
use Rattle.cd_effects.proofs.Sending.{frames_more}

-- frames, and then others
pub frames_both : (first second : List Message) → AreFrames first → AreFrames second → AreFrames (first ++ second)
frames_both [] second one two = two
frames_both (m ∷ first) second one two = (one.0, frames_both first second one.1 two)

-- one more was sent
pub frames_next : (frames : List Outgoing) (i : ℕ) (f : Outgoing) → i < length frames → f ≡ get_or frames i f → AreFrames (map seen_frame (take i frames)) → IsFrame (seen_frame f) → AreFrames (map seen_frame (take (i + 1) frames))
frames_next frames i f lt is are one = subst AreFrames (sym (frames_more frames i f lt is)) (frames_both (map seen_frame (take i frames)) (seen_frame f ∷ []) are (one, tt))

-- those of one effect
pub frames_one : (effect : Effect) → HasFrames effect → AreFrames (sends (effect ∷ []))
frames_one (Keep e) are = tt
frames_one (Touch change) are = tt
frames_one (AskSize name) are = tt
frames_one (AskBytes name at len) are = tt
frames_one (Begin key next) are = tt
frames_one (Go next frames) are = subst AreFrames (sym (append-nil frames)) are
