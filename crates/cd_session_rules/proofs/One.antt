-- The one entry of a reaction.
use Rattle.std.proofs.Common.{◌≡◌, ℕ, Bool, true, false, ◌&&◌, List, [], ◌∷◌, Option, Some, None, refl, sym, ◌∙◌, ap}
use Rattle.std.specs.Prelude.{not, map}
use Rattle.std.specs.List.{list_all}
use Rattle.std.proofs.lemmas.Bool.{and_parts, not-true, false≢true}
use Rattle.cd_entries.specs.declared.entry.Entry.{Entry}
use Rattle.cd_entries.specs.declared.entry.Entry.TheVariants as entry
use Rattle.cd_rules.specs.Steps.{Reading}
use Rattle.cd_book.specs.Book.{IsRead, is_submission}
use Rattle.cd_protocol.specs.Node.{Effect, Keep, Touch, AskSize, AskBytes, Begin, Go}
use Rattle.cd_protocol.specs.Seen.{seen_frame, seen_effect}
use Rattle.cd_protocol.specs.declared.effect.Outgoing as out
use Rattle.cd_protocol.specs.declared.effect.Effect as told
use Rattle.cd_protocol.specs.declared.effect.Effect.TheVariants as effect
use Rattle.cd_session_rules.specs.Kept.{allowed_kept, kept_in, all_sendable, are_sent}
use Rattle.cd_protocol.specs.Rows.{is_sendable, may_record, are_allowed}
use Rattle.cd_session_rules.specs.Single.{keeps_none, keeps_one}

-- frames in their form
sendable-list : (frames : List out.Outgoing) → list_all is_sendable (map seen_frame frames) ≡ all_sendable frames
sendable-list [] = refl
sendable-list (frame ∷ frames) = ap (λ (b : Bool). is_sendable (seen_frame frame) && b) (sendable-list frames)

-- of effects without an entry it is the test of their frames
none_allowed : (read : Reading) (now : ℕ) (journal : List Entry) (effects : List told.Effect) → keeps_none (map seen_effect effects) ≡ true
    → are_allowed read now journal (map seen_effect effects) ≡ are_sent effects
none_allowed read now journal [] none = refl
none_allowed read now journal (effect.Keep e ∷ effects) none = absurd (false≢true none)
none_allowed read now journal (effect.Write name at bytes ∷ effects) none = none_allowed read now journal effects none
none_allowed read now journal (effect.Cut name len ∷ effects) none = none_allowed read now journal effects none
none_allowed read now journal (effect.Sync name ∷ effects) none = none_allowed read now journal effects none
none_allowed read now journal (effect.Remove name ∷ effects) none = none_allowed read now journal effects none
none_allowed read now journal (effect.Begin key phase ∷ effects) none = none_allowed read now journal effects none
none_allowed read now journal (effect.Go phase frames ∷ effects) none =
    ap (λ (b : Bool). b && are_allowed read now journal (map seen_effect effects)) (sendable-list frames.items)
    ∙ ap (λ (b : Bool). all_sendable frames.items && b) (none_allowed read now journal effects none)

-- two tests before a third one, in either order
swapped : (a b c : Bool) → (a && (b && c)) ≡ (b && (a && c))
swapped true b c = refl
swapped false true c = refl
swapped false false c = refl

-- and no submission
pub not_submitted : (e : Entry) (effects : List Effect) → keeps_one (Keep e ∷ effects) ≡ true → is_submission e ≡ false
not_submitted e effects one = not-true (is_submission e) (and_parts (not (is_submission e)) (keeps_none effects) one).0

-- such an entry brings no Process
pub no_process : (read : Reading) (e : Entry) → is_submission e ≡ false → IsRead read e None
no_process read (entry.Submitted number moment origin card text) other = absurd (false≢true (sym other))
no_process read _ other = tt

-- the test of all effects is that of the entry, where there is one, and of the frames
pub allowed_by : (read : Reading) (now : ℕ) (journal : List Entry) (effects : List told.Effect) → keeps_one (map seen_effect effects) ≡ true
    → are_allowed read now journal (map seen_effect effects) ≡ (allowed_kept read now journal (kept_in effects) && are_sent effects)
allowed_by read now journal [] one = refl
allowed_by read now journal (effect.Keep e ∷ effects) one =
    ap (λ (b : Bool). may_record read now journal e && b) (none_allowed read now (e ∷ journal) effects (and_parts (not (is_submission e)) (keeps_none (map seen_effect effects)) one).1)
allowed_by read now journal (effect.Write name at bytes ∷ effects) one = allowed_by read now journal effects one
allowed_by read now journal (effect.Cut name len ∷ effects) one = allowed_by read now journal effects one
allowed_by read now journal (effect.Sync name ∷ effects) one = allowed_by read now journal effects one
allowed_by read now journal (effect.Remove name ∷ effects) one = allowed_by read now journal effects one
allowed_by read now journal (effect.Begin key phase ∷ effects) one = allowed_by read now journal effects one
allowed_by read now journal (effect.Go phase frames ∷ effects) one =
    ap (λ (b : Bool). b && are_allowed read now journal (map seen_effect effects)) (sendable-list frames.items)
    ∙ ap (λ (b : Bool). all_sendable frames.items && b) (allowed_by read now journal effects one)
    ∙ swapped (all_sendable frames.items) (allowed_kept read now journal (kept_in effects)) (are_sent effects)

pub kept_other : (effects : List told.Effect) (e : Entry) → keeps_one (map seen_effect effects) ≡ true → Some e ≡ kept_in effects → is_submission e ≡ false
kept_other [] e one is = absurd cc
kept_other (effect.Keep x ∷ effects) e one is = let same : e ≡ x = cc in ap is_submission same ∙ not_submitted x (map seen_effect effects) one
kept_other (effect.Write name at bytes ∷ effects) e one is = kept_other effects e one is
kept_other (effect.Cut name len ∷ effects) e one is = kept_other effects e one is
kept_other (effect.Sync name ∷ effects) e one is = kept_other effects e one is
kept_other (effect.Remove name ∷ effects) e one is = kept_other effects e one is
kept_other (effect.Begin key phase ∷ effects) e one is = kept_other effects e one is
kept_other (effect.Go phase frames ∷ effects) e one is = kept_other effects e one is
