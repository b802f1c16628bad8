-- The entry that a reaction records, and the frames that it sends.
use Rattle.std.specs.Prelude.{ℕ, Bool, true, ◌&&◌, List, [], ◌∷◌, Option, Some, None}
use Rattle.cd_entries.specs.declared.entry.Entry.{Entry}
use Rattle.cd_rules.specs.Steps.{Reading}
use Rattle.cd_protocol.specs.Rows.{is_sendable, may_record}
use Rattle.cd_protocol.specs.Seen.{seen_frame}
use Rattle.cd_protocol.specs.declared.effect.Outgoing.{Outgoing}
use Rattle.cd_protocol.specs.declared.effect.Effect.{Effect}
use Rattle.cd_protocol.specs.declared.effect.Effect.TheVariants as effect

-- the first entry that effects of the program record
abbrev pub kept_in : List Effect → Option Entry
kept_in [] = None
kept_in (effect.Keep e ∷ effects) = Some e
kept_in (effect.Write name at bytes ∷ effects) = kept_in effects
kept_in (effect.Cut name len ∷ effects) = kept_in effects
kept_in (effect.Sync name ∷ effects) = kept_in effects
kept_in (effect.Remove name ∷ effects) = kept_in effects
kept_in (effect.Begin key phase ∷ effects) = kept_in effects
kept_in (effect.Go phase frames ∷ effects) = kept_in effects

-- all of these frames are in their form
abbrev pub all_sendable : List Outgoing → Bool
all_sendable [] = true
all_sendable (frame ∷ frames) = is_sendable (seen_frame frame) && all_sendable frames

-- all frames of these effects are
abbrev pub are_sent : List Effect → Bool
are_sent [] = true
are_sent (effect.Keep e ∷ effects) = are_sent effects
are_sent (effect.Write name at bytes ∷ effects) = are_sent effects
are_sent (effect.Cut name len ∷ effects) = are_sent effects
are_sent (effect.Sync name ∷ effects) = are_sent effects
are_sent (effect.Remove name ∷ effects) = are_sent effects
are_sent (effect.Begin key phase ∷ effects) = are_sent effects
are_sent (effect.Go phase frames ∷ effects) = all_sendable frames.items && are_sent effects

-- the entry may be recorded, where there is one
abbrev pub allowed_kept : Reading → ℕ → List Entry → Option Entry → Bool
allowed_kept read now journal None = true
allowed_kept read now journal (Some e) = may_record read now journal e
