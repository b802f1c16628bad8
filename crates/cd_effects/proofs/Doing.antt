-- What effects make of a node, and what a crash leaves while they are done.
use Rattle.std.proofs.Common.{◌≡◌, ◌⊎◌, inl, inr, ⊎_elim, ℕ, ◌≤◌, Bool, cond, eqb, List, [], ◌∷◌, Option, Some, refl, sym, ap, subst, ◌∙◌}
use Rattle.std.proofs.lemmas.List.{append-nil}
use Rattle.std.proofs.lemmas.Bool.{eq-eqb}
use Rattle.cd_outside.specs.Shelf.{Shelf, changed, IsShelfImage}
use Rattle.cd_outside.specs.Files.{FilesState, files_last_of, FilesLeftAt}
use Rattle.cd_outside.specs.Lines.{Traffic}
use Rattle.cd_outside.specs.Disk.{DiskState, last_of, LeftAt}
use Rattle.cd_outside.specs.Moments.{Moments}
use Rattle.cd_outside.proofs.Runs.{moments_then, moments_weaker}
use Rattle.cd_entries.specs.declared.entry.Entry.{Entry}
use Rattle.cd_frames.specs.Message.{Message}
use Rattle.cd_rules.specs.Keys.{same_key}
use Rattle.cd_protocol.specs.Node.{Node, Effect, Keep, Touch, AskSize, AskBytes, Begin, Go, did, sends}
use Rattle.cd_protocol.specs.declared.session.Phase.{Phase}
use Rattle.cd_effects.specs.Calls.{touched, FilesDid, FilesTorn, ShelfTorn, IsBeforeOrAfter}
use Rattle.cd_effects.specs.Joint.{NodeImage, JointAt, StandsFor, IsWithin}
use Rattle.cd_effects.specs.Registry.{RegistryState, IsRegistry}
use Rattle.cd_effects.specs.Stands.{holder_of, Spot, Stands, gave, kept, phased, held, given, IsKeptOrNot, HasFrames, WereDone, TrafficTorn, IsFaultOf, IsNoTouch}
use Rattle.cd_effects.specs.declared.fault.Fault.TheVariants as fault
use Rattle.cd_effects.specs.declared.owners.Holding.{Holding}
use Rattle.cd_effects.proofs.Frames.{frames_one}
use Rattle.cd_effects.proofs.Joint.{Both, joint_disk, joint_files, joint_none}
use Rattle.cd_effects.proofs.Recording.{rests_image}

-- the phase that was put
own_phase : (sid : ℕ) (next other : Phase) → cond (eqb sid sid) next other ≡ next
own_phase sid next other = ap (λ (b : Bool). cond b next other) (eq-eqb sid sid refl)

-- the shelf is told only where the files tell
told_shelf : (told : Type 0) (a b c : Shelf) → (told → a ≡ b) → (told → c ≡ b) → told → a ≡ c
told_shelf told a b c one two = λ is. one is ∙ sym (two is)

-- one effect
pub stands_did : (told : Type 0) (sid : ℕ) (effect : Effect) (node : Node) (before after : Spot) → Stands told sid node before → after.entries ≡ kept effect before.entries → (told → after.shelf ≡ touched effect before.shelf)
    → after.phase ≡ phased effect before.phase → after.holdings ≡ held sid effect before.holdings → Stands told sid (did sid effect node) after
stands_did told sid (Keep e) node before after is entries shelf phase holdings = record {
  journal = ap (λ (es : List Entry). e ∷ es) is.journal ∙ sym entries;
  shelf = λ t. is.shelf t ∙ sym (shelf t);
  phase = is.phase ∙ sym phase;
  holder = λ key. is.holder key ∙ ap (λ (hs : List Holding). holder_of hs key) (sym holdings);
}
stands_did told sid (Touch change) node before after is entries shelf phase holdings = record {
  journal = is.journal ∙ sym entries;
  shelf = λ t. ap (changed change) (is.shelf t) ∙ sym (shelf t);
  phase = is.phase ∙ sym phase;
  holder = λ key. is.holder key ∙ ap (λ (hs : List Holding). holder_of hs key) (sym holdings);
}
stands_did told sid (AskSize name) node before after is entries shelf phase holdings = record {
  journal = is.journal ∙ sym entries;
  shelf = λ t. is.shelf t ∙ sym (shelf t);
  phase = is.phase ∙ sym phase;
  holder = λ key. is.holder key ∙ ap (λ (hs : List Holding). holder_of hs key) (sym holdings);
}
stands_did told sid (AskBytes name at len) node before after is entries shelf phase holdings = record {
  journal = is.journal ∙ sym entries;
  shelf = λ t. is.shelf t ∙ sym (shelf t);
  phase = is.phase ∙ sym phase;
  holder = λ key. is.holder key ∙ ap (λ (hs : List Holding). holder_of hs key) (sym holdings);
}
stands_did told sid (Begin own next) node before after is entries shelf phase holdings = record {
  journal = is.journal ∙ sym entries;
  shelf = λ t. is.shelf t ∙ sym (shelf t);
  phase = own_phase sid next (node.sessions.phase sid) ∙ sym phase;
  holder = λ key. ap (λ (rest : Option ℕ). cond (same_key own key) (Some sid) rest) (is.holder key) ∙ ap (λ (hs : List Holding). holder_of hs key) (sym holdings);
}
stands_did told sid (Go next frames) node before after is entries shelf phase holdings = record {
  journal = is.journal ∙ sym entries;
  shelf = λ t. is.shelf t ∙ sym (shelf t);
  phase = own_phase sid next (node.sessions.phase sid) ∙ sym phase;
  holder = λ key. is.holder key ∙ ap (λ (hs : List Holding). holder_of hs key) (sym holdings);
}

given_one : (sid : ℕ) (effect : Effect) (traffic : Traffic) → given sid effect traffic ≡ gave sid (sends (effect ∷ [])) traffic
given_one sid (Keep e) traffic = refl
given_one sid (Touch change) traffic = refl
given_one sid (AskSize name) traffic = refl
given_one sid (AskBytes name at len) traffic = refl
given_one sid (Begin key next) traffic = refl
given_one sid (Go next frames) traffic = ap (λ (ms : List Message). gave sid ms traffic) (sym (append-nil frames))

pub done_one : (files_told lines_told : Type 0) (sid : ℕ) (effect : Effect) (before after : Spot) → after.entries ≡ kept effect before.entries → (files_told → after.shelf ≡ touched effect before.shelf)
    → after.phase ≡ phased effect before.phase → after.holdings ≡ held sid effect before.holdings → (lines_told → after.traffic ≡ given sid effect before.traffic) → HasFrames effect → WereDone files_told lines_told sid (effect ∷ []) before after
done_one files_told lines_told sid effect before after entries shelf phase holdings traffic frames = record {
  node = λ node is. stands_did files_told sid effect node before after is entries shelf phase holdings;
  traffic = λ told. traffic told ∙ given_one sid effect before.traffic;
  frames = frames_one effect frames;
}

-- the files after a call
pub shelf_did : (effect : Effect) (beat : ℕ) (before after : FilesState) → FilesDid effect beat before after → after.shelf ≡ touched effect before.shelf
shelf_did (Keep e) beat before after is = ap (λ (s : FilesState). s.shelf) is
shelf_did (Touch change) beat before after is = ap (λ (s : FilesState). s.shelf) is
shelf_did (AskSize name) beat before after is = ap (λ (s : FilesState). s.shelf) is
shelf_did (AskBytes name at len) beat before after is = ap (λ (s : FilesState). s.shelf) is
shelf_did (Begin key next) beat before after is = ap (λ (s : FilesState). s.shelf) is
shelf_did (Go next frames) beat before after is = ap (λ (s : FilesState). s.shelf) is

-- and after one that failed
pub shelf_torn : (effect : Effect) (from to : ℕ) (before after : FilesState) → FilesTorn effect from to before after → ShelfTorn effect before.shelf after.shelf
shelf_torn (Keep e) from to before after is = ap (λ (s : FilesState). s.shelf) is
shelf_torn (Touch change) from to before after is = ⊎_elim
    (λ same. inl (ap (λ (s : FilesState). s.shelf) same))
    (λ begun. inr (record { others = begun.1.others; doubt = begun.1.doubt }))
    is
shelf_torn (AskSize name) from to before after is = ap (λ (s : FilesState). s.shelf) is
shelf_torn (AskBytes name at len) from to before after is = ap (λ (s : FilesState). s.shelf) is
shelf_torn (Begin key next) from to before after is = ap (λ (s : FilesState). s.shelf) is
shelf_torn (Go next frames) from to before after is = ap (λ (s : FilesState). s.shelf) is

-- an effect that changes no file leaves them
pub shelf_kept : (effect : Effect) (before after : Shelf) → IsNoTouch effect → after ≡ touched effect before → ShelfTorn effect before after
shelf_kept (Keep e) before after none is = is
shelf_kept (Touch change) before after none is = absurd none
shelf_kept (AskSize name) before after none is = is
shelf_kept (AskBytes name at len) before after none is = is
shelf_kept (Begin key next) before after none is = is
shelf_kept (Go next frames) before after none is = is

-- an effect that fails at the files sends nothing
pub traffic_kept : (sid : ℕ) (effect : Effect) (traffic : Traffic) → IsFaultOf effect fault.Files → TrafficTorn sid effect traffic traffic
traffic_kept sid (Keep e) traffic is = absurd is
traffic_kept sid (Touch change) traffic is = refl
traffic_kept sid (AskSize name) traffic is = absurd is
traffic_kept sid (AskBytes name at len) traffic is = absurd is
traffic_kept sid (Begin key next) traffic is = absurd is
traffic_kept sid (Go next []) traffic is = absurd is
traffic_kept sid (Go next (m ∷ frames)) traffic is = absurd is

-- What a crash leaves.

IsImageOf : Node → NodeImage → Type 0
IsImageOf node image = StandsFor image.journal node.view.journal × IsShelfImage node.shelf.doubt image.files

before_it : (sid : ℕ) (effect : Effect) (node : Node) (image : NodeImage) (entries : List Entry) (shelf : Shelf) → node.view.journal ≡ entries → node.shelf ≡ shelf → StandsFor image.journal entries → IsShelfImage shelf.doubt image.files → IsWithin sid (effect ∷ []) node image
before_it sid effect node image entries shelf journal_is shelf_is journal files = record {
  done = [];
  more = effect ∷ [];
  reactions = refl;
  journal = subst (λ (es : List Entry). StandsFor image.journal es) (sym journal_is) journal;
  files = subst (λ (s : Shelf). IsShelfImage s.doubt image.files) (sym shelf_is) files;
}

both_of : {A : Type 0} → A ⊎ A → A
both_of h = ⊎_elim (λ a. a) (λ a. a) h

pub within_one : (sid : ℕ) (effect : Effect) (node : Node) (image : NodeImage) (entries : List Entry) (shelf : Shelf) → node.view.journal ≡ entries → node.shelf ≡ shelf → Both (IsKeptOrNot effect entries) (IsBeforeOrAfter effect shelf) image → IsWithin sid (effect ∷ []) node image
within_one sid (Keep e) node image entries shelf journal_is shelf_is left = ⊎_elim
    (λ old. before_it sid (Keep e) node image entries shelf journal_is shelf_is old (both_of left.files))
    (λ new. record {
      done = Keep e ∷ [];
      more = [];
      reactions = refl;
      journal = subst (λ (es : List Entry). StandsFor image.journal (e ∷ es)) (sym journal_is) new;
      files = subst (λ (s : Shelf). IsShelfImage s.doubt image.files) (sym shelf_is) (both_of left.files);
    })
    left.journal
within_one sid (Touch change) node image entries shelf journal_is shelf_is left = ⊎_elim
    (λ old. before_it sid (Touch change) node image entries shelf journal_is shelf_is (both_of left.journal) old)
    (λ new. record {
      done = Touch change ∷ [];
      more = [];
      reactions = refl;
      journal = subst (λ (es : List Entry). StandsFor image.journal es) (sym journal_is) (both_of left.journal);
      files = subst (λ (s : Shelf). IsShelfImage (changed change s).doubt image.files) (sym shelf_is) new;
    })
    left.files
within_one sid (AskSize name) node image entries shelf journal_is shelf_is left = before_it sid (AskSize name) node image entries shelf journal_is shelf_is (both_of left.journal) (both_of left.files)
within_one sid (AskBytes name at len) node image entries shelf journal_is shelf_is left = before_it sid (AskBytes name at len) node image entries shelf journal_is shelf_is (both_of left.journal) (both_of left.files)
within_one sid (Begin key next) node image entries shelf journal_is shelf_is left = before_it sid (Begin key next) node image entries shelf journal_is shelf_is (both_of left.journal) (both_of left.files)
within_one sid (Go next frames) node image entries shelf journal_is shelf_is left = before_it sid (Go next frames) node image entries shelf journal_is shelf_is (both_of left.journal) (both_of left.files)

module _ (sid : ℕ) (effect : Effect) (node : Node) (registry : RegistryState) (disk : DiskState) (first second : FilesState) (from : ℕ) (journal_is : node.view.journal ≡ registry.entries) (shelf_is : node.shelf ≡ first.shelf)
    (is : IsRegistry registry disk) (order : last_of disk.calls ≤ from) where
  -- the effect's call of the files, with the journal as it was
  files_run : Moments (FilesLeftAt first) (FilesLeftAt second) from (IsBeforeOrAfter effect first.shelf) → Moments (JointAt disk first) (JointAt disk second) from (Both (IsKeptOrNot effect registry.entries) (IsBeforeOrAfter effect first.shelf))
  files_run run = joint_files (IsKeptOrNot effect registry.entries) (IsBeforeOrAfter effect first.shelf) disk first second from order (λ image left. inl (rests_image registry disk image is left)) run

  pub one_torn : Moments (FilesLeftAt first) (FilesLeftAt second) from (IsBeforeOrAfter effect first.shelf) → Moments (JointAt disk first) (JointAt disk second) from (IsWithin sid (effect ∷ []) node)
  one_torn run = moments_weaker (JointAt disk first) (JointAt disk second) from (Both (IsKeptOrNot effect registry.entries) (IsBeforeOrAfter effect first.shelf)) (IsWithin sid (effect ∷ []) node)
      (λ image left. within_one sid effect node image registry.entries first.shelf journal_is shelf_is left) (files_run run)

  -- and then what else it does
  pub one_run : (middle : ℕ) (after : DiskState) → from ≤ middle → files_last_of second.calls ≤ middle → second.shelf ≡ touched effect first.shelf → Moments (FilesLeftAt first) (FilesLeftAt second) from (IsBeforeOrAfter effect first.shelf)
      → Moments (LeftAt disk) (LeftAt after) middle (IsKeptOrNot effect registry.entries) → Moments (JointAt disk first) (JointAt after second) from (IsWithin sid (effect ∷ []) node)
  one_run middle after later files_order shelf_now run more = moments_weaker (JointAt disk first) (JointAt after second) from (Both (IsKeptOrNot effect registry.entries) (IsBeforeOrAfter effect first.shelf)) (IsWithin sid (effect ∷ []) node)
      (λ image left. within_one sid effect node image registry.entries first.shelf journal_is shelf_is left)
      (moments_then (JointAt disk first) (JointAt disk second) (JointAt after second) from middle (Both (IsKeptOrNot effect registry.entries) (IsBeforeOrAfter effect first.shelf)) later (files_run run)
      (joint_disk (IsKeptOrNot effect registry.entries) (IsBeforeOrAfter effect first.shelf) disk after second middle files_order (λ image left. inr (subst (λ (s : Shelf). IsShelfImage s.doubt image) shelf_now left)) more))

-- nothing was done of a row
pub row_none : (sid : ℕ) (effects : List Effect) (node : Node) (registry : RegistryState) (disk : DiskState) (shelf : FilesState) (from : ℕ) → node.view.journal ≡ registry.entries → node.shelf ≡ shelf.shelf → IsRegistry registry disk → last_of disk.calls ≤ from → files_last_of shelf.calls ≤ from
    → Moments (JointAt disk shelf) (JointAt disk shelf) from (IsWithin sid effects node)
row_none sid effects node registry disk shelf from journal_is shelf_is is order files_order =
    moments_weaker (JointAt disk shelf) (JointAt disk shelf) from (Both (λ bytes. StandsFor bytes registry.entries) (λ image. IsShelfImage shelf.shelf.doubt image)) (IsWithin sid effects node)
    (λ image left. record {
      done = [];
      more = effects;
      reactions = refl;
      journal = subst (λ (es : List Entry). StandsFor image.journal es) (sym journal_is) left.journal;
      files = subst (λ (s : Shelf). IsShelfImage s.doubt image.files) (sym shelf_is) left.files;
    })
    (joint_none (λ bytes. StandsFor bytes registry.entries) (λ image. IsShelfImage shelf.shelf.doubt image) disk shelf from order files_order (λ image left. rests_image registry disk image is left) (λ image left. left))
