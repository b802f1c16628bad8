-- Effects one after another.
use Rattle.std.proofs.Common.{◌≡◌, ℕ, ◌+◌, ◌<◌, ◌≤◌, List, [], ◌∷◌, ◌++◌, length, take, drop, map, get_or, refl, sym, ap, subst, ◌∙◌, append_assoc}
use Rattle.std.proofs.lemmas.List.{map-append}
use Rattle.cd_outside.specs.Lines.{Traffic, sent}
use Rattle.cd_outside.specs.Moments.{Moments}
use Rattle.cd_outside.specs.Shelf.{IsShelfImage}
use Rattle.cd_outside.proofs.Runs.{moments_then, moments_weaker}
use Rattle.cd_entries.specs.declared.entry.Entry.{Entry}
use Rattle.cd_frames.specs.Frame.{frame_bytes}
use Rattle.cd_frames.specs.Message.{Message}
use Rattle.cd_rules.specs.Steps.{Reading}
use Rattle.cd_protocol.specs.Node.{Node, Effect, Keep, Touch, AskSize, AskBytes, Begin, Go, did, does, sends}
use Rattle.cd_protocol.specs.Seen.{seen_effect}
use Rattle.cd_protocol.specs.declared.effect.Effect as told
use Rattle.cd_effects.specs.Joint.{NodeImage, StandsFor, IsWithin}
use Rattle.cd_effects.specs.Stands.{Spot, Stands, gave, kept, AreFrames, WereDone, WereCut, WasTorn, IsFaultOf, IsReady, AreReady}
use Rattle.cd_effects.specs.declared.fault.Fault.{Fault}
use Rattle.cd_effects.proofs.Frames.{frames_both}
use Rattle.cd_effects.proofs.Sending.{split_at}

does_then : (sid : ℕ) (first second : List Effect) (node : Node) → does sid (first ++ second) node ≡ does sid second (does sid first node)
does_then sid [] second node = refl
does_then sid (effect ∷ first) second node = does_then sid first second (did sid effect node)

sends_then : (first second : List Effect) → sends (first ++ second) ≡ sends first ++ sends second
sends_then [] second = refl
sends_then (Keep e ∷ first) second = sends_then first second
sends_then (Touch change ∷ first) second = sends_then first second
sends_then (AskSize name ∷ first) second = sends_then first second
sends_then (AskBytes name at len ∷ first) second = sends_then first second
sends_then (Begin key phase ∷ first) second = sends_then first second
sends_then (Go phase frames ∷ first) second = ap (λ (ms : List Message). frames ++ ms) (sends_then first second) ∙ sym (append_assoc frames (sends first) (sends second))

gave_then : (sid : ℕ) (first second : List Message) (traffic : Traffic) → gave sid (first ++ second) traffic ≡ gave sid second (gave sid first traffic)
gave_then sid [] second traffic = refl
gave_then sid (m ∷ first) second traffic = gave_then sid first second (sent sid (frame_bytes m) traffic)

-- nothing was done
pub done_none : (files_told lines_told : Type 0) (sid : ℕ) (at : Spot) → WereDone files_told lines_told sid [] at at
done_none files_told lines_told sid at = record { node = λ node is. is; traffic = λ told. refl; frames = tt }

-- effects, and then others
pub done_then : (files_told lines_told : Type 0) (sid : ℕ) (first second : List Effect) (a b c : Spot) → WereDone files_told lines_told sid first a b → WereDone files_told lines_told sid second b c → WereDone files_told lines_told sid (first ++ second) a c
done_then files_told lines_told sid first second a b c one two = record {
  node = λ node is. subst (λ (n : Node). Stands files_told sid n c) (sym (does_then sid first second node)) (two.node (does sid first node) (one.node node is));
  traffic = λ told. two.traffic told ∙ ap (gave sid (sends second)) (one.traffic told) ∙ sym (gave_then sid (sends first) (sends second) a.traffic) ∙ ap (λ (ms : List Message). gave sid ms a.traffic) (sym (sends_then first second));
  frames = subst AreFrames (sym (sends_then first second)) (frames_both (sends first) (sends second) one.frames two.frames);
}

-- the entries after effects
abbrev pub kept_all : List Effect → List Entry → List Entry
kept_all [] entries = entries
kept_all (effect ∷ effects) entries = kept_all effects (kept effect entries)

pub kept_more : (effects : List Effect) (effect : Effect) (entries : List Entry) → kept_all (effects ++ effect ∷ []) entries ≡ kept effect (kept_all effects entries)
kept_more [] effect entries = refl
kept_more (first ∷ effects) effect entries = kept_more effects effect (kept first entries)

ready_at : (read : Reading) (done more : List Effect) (effect : Effect) (entries : List Entry) → AreReady read entries (done ++ effect ∷ more) → IsReady read (kept_all done entries) effect
ready_at read [] more effect entries are = are.0
ready_at read (first ∷ done) more effect entries are = ready_at read done more effect (kept first entries) are.1

-- what a crash leaves while an effect is done behind others
within_later : (sid : ℕ) (effects done more : List Effect) (effect : Effect) (node : Node) (image : NodeImage) → effects ≡ done ++ effect ∷ more → IsWithin sid (effect ∷ []) (does sid done node) image → IsWithin sid effects node image
within_later sid effects done more effect node image reactions w = record {
  done = done ++ w.done;
  more = w.more ++ more;
  reactions = reactions ∙ ap (λ (l : List Effect). done ++ (l ++ more)) w.reactions ∙ ap (λ (l : List Effect). done ++ l) (append_assoc w.done w.more more) ∙ sym (append_assoc done w.done (w.more ++ more));
  journal = subst (λ (n : Node). StandsFor image.journal n.view.journal) (sym (does_then sid done w.done node)) w.journal;
  files = subst (λ (n : Node). IsShelfImage n.shelf.doubt image.files) (sym (does_then sid done w.done node)) w.files;
}

pub row_run : (sid : ℕ) (effects done more : List Effect) (effect : Effect) (node : Node) (first middle last : ℕ → NodeImage → Type 0) (from now : ℕ) → effects ≡ done ++ effect ∷ more → from ≤ now
    → Moments first middle from (IsWithin sid effects node) → Moments middle last now (IsWithin sid (effect ∷ []) (does sid done node)) → Moments first last from (IsWithin sid effects node)
row_run sid effects done more effect node first middle last from now reactions order one two =
    moments_then first middle last from now (IsWithin sid effects node) order one
    (moments_weaker middle last now (IsWithin sid (effect ∷ []) (does sid done node)) (IsWithin sid effects node) (λ image left. within_later sid effects done more effect node image reactions left) two)

-- the effects that the loop has at hand
map_same : {A : Type 0} (xs : List A) → map (λ x. x) xs ≡ xs
map_same [] = refl
map_same {A} (x ∷ xs) = ap (λ (l : List A). x ∷ l) (map_same xs)

pub behind : List told.Effect → List told.Effect → List Effect
behind all yielded = map seen_effect (drop (length yielded + 1) all)

pub effects_split : (all yielded : List told.Effect) (effect : told.Effect) → map (λ x. x) yielded ≡ take (length yielded) all → (length yielded < length all) × (effect ≡ get_or all (length yielded) effect)
    → map seen_effect all ≡ map seen_effect yielded ++ seen_effect effect ∷ behind all yielded
unfolding behind
effects_split all yielded effect so_far turn =
    ap (map seen_effect) (split_at all (length yielded) effect turn.0 turn.1 ∙ ap (λ (front : List told.Effect). front ++ effect ∷ drop (length yielded + 1) all) (sym so_far ∙ map_same yielded))
    ∙ map-append seen_effect yielded (effect ∷ drop (length yielded + 1) all)

pub effects_more : (yielded : List told.Effect) (effect : told.Effect) → map seen_effect (yielded ++ effect ∷ []) ≡ map seen_effect yielded ++ seen_effect effect ∷ []
effects_more yielded effect = map-append seen_effect yielded (effect ∷ [])

pub effects_all : (all yielded : List told.Effect) → map (λ x. x) yielded ≡ all → map seen_effect yielded ≡ map seen_effect all
effects_all all yielded is = ap (map seen_effect) (sym (map_same yielded) ∙ is)

-- the effect at hand is ready
pub ready_here : (read : Reading) (all yielded : List told.Effect) (effect : told.Effect) (entries now : List Entry) → map seen_effect all ≡ map seen_effect yielded ++ seen_effect effect ∷ behind all yielded → AreReady read entries (map seen_effect all)
    → now ≡ kept_all (map seen_effect yielded) entries → IsReady read now (seen_effect effect)
ready_here read all yielded effect entries now split are is =
    subst (λ (es : List Entry). IsReady read es (seen_effect effect)) (sym is) (ready_at read (map seen_effect yielded) (behind all yielded) (seen_effect effect) entries (subst (λ (effects : List Effect). AreReady read entries effects) split are))

pub kept_here : (yielded : List told.Effect) (effect : told.Effect) (entries middle now : List Entry) → middle ≡ kept_all (map seen_effect yielded) entries → now ≡ kept (seen_effect effect) middle → now ≡ kept_all (map seen_effect (yielded ++ effect ∷ [])) entries
kept_here yielded effect entries middle now was is =
    is ∙ ap (kept (seen_effect effect)) was ∙ sym (kept_more (map seen_effect yielded) (seen_effect effect) entries) ∙ ap (λ (effects : List Effect). kept_all effects entries) (sym (effects_more yielded effect))

pub done_here : (files_told lines_told : Type 0) (sid : ℕ) (yielded : List told.Effect) (effect : told.Effect) (a b c : Spot) → WereDone files_told lines_told sid (map seen_effect yielded) a b → WereDone files_told lines_told sid (seen_effect effect ∷ []) b c
    → WereDone files_told lines_told sid (map seen_effect (yielded ++ effect ∷ [])) a c
done_here files_told lines_told sid yielded effect a b c one two =
    subst (λ (effects : List Effect). WereDone files_told lines_told sid effects a c) (sym (effects_more yielded effect)) (done_then files_told lines_told sid (map seen_effect yielded) (seen_effect effect ∷ []) a b c one two)

-- the effects were cut off at the one at hand
pub cut_here : (files_told lines_told : Type 0) (sid : ℕ) (all yielded : List told.Effect) (effect : told.Effect) (fault : Fault) (a b c : Spot) → map seen_effect all ≡ map seen_effect yielded ++ seen_effect effect ∷ behind all yielded
    → WereDone files_told lines_told sid (map seen_effect yielded) a b → WasTorn files_told lines_told sid (seen_effect effect) b c → IsFaultOf (seen_effect effect) fault → WereCut files_told lines_told sid (map seen_effect all) fault a c
cut_here files_told lines_told sid all yielded effect fault a b c split first rest cause = record {
  done = map seen_effect yielded;
  torn = seen_effect effect;
  more = behind all yielded;
  reactions = split;
  middle = b;
  first = first;
  rest = rest;
  cause = cause;
}
