-- What holds in every world that two nodes come to.
use Rattle.std.specs.Prelude.{◌≡◌, ◌⊎◌, ℕ, ◌+◌, List, [], ◌∷◌, ◌++◌, length, take, drop, Bool, true, false, ◌&&◌, Option, Some, None, if◌then◌else◌}
use Rattle.std.specs.List.{list_any}
use Rattle.std.specs.Str.{bytes_eq}
use Rattle.cd_outside.specs.Disposition.{landed, dropped}
use Rattle.cd_outside.specs.Shelf.{FileMap, IsFileImage, content_of}
use Rattle.cd_types.specs.declared.choices.Cause.{Cause}
use Rattle.cd_types.specs.declared.key.Key.{Key}
use Rattle.cd_types.specs.declared.rows.Outcomes.{Outcomes}
use Rattle.cd_types.specs.declared.rows.Receiving.{Receiving}
use Rattle.cd_entries.specs.declared.entry.Entry.{Entry}
use Rattle.cd_entries.specs.declared.entry.Entry.TheVariants as entry
use Rattle.cd_ast.specs.declared.process.CopyStep.{CopyStep}
use Rattle.cd_ast.specs.declared.process.What.TheVariants as what
use Rattle.cd_rules.specs.Keys.{same_key}
use Rattle.cd_rules.specs.Openings.{open_on}
use Rattle.cd_rules.specs.Processes.{own_home}
use Rattle.cd_rules.specs.Status.{outcome, mark}
use Rattle.cd_rules.specs.Legal.{is_legal}
use Rattle.cd_rules.specs.Steps.{Reading, what_at, is_such, pnode_keeps}
use Rattle.cd_protocol.specs.Sending.{interval_of}
use Rattle.cd_world.specs.World.{At, A, B, across, Note, Sized, Read, Began, Landed, Dropped, Wrote, Half, World, Unless}

-- Journals.

abbrev pub journal_of : Half → List Entry
journal_of half = half.node.view.journal

abbrev pub HasLegal : Half → Type 0
HasLegal half = is_legal half.node.view.config.read (journal_of half) ≡ true

-- both journals are legal
pub record AreLegal (w : World) : Type 0 where
  pub a : HasLegal w.a
  pub b : HasLegal w.b

-- a journal has an earlier one behind its new entries
pub record Extends (before after : Half) : Type 0 where
  pub entries : List Entry
  pub is : journal_of after ≡ entries ++ journal_of before

pub record Extend (before after : World) : Type 0 where
  pub a : Extends before.a after.a
  pub b : Extends before.b after.b

-- Results.

-- a node has this outcome of a step
pub record IsOutcome (journal : List Entry) (key : Key) (rc : ℕ) (why : Cause) (bytes : ℕ) : Type 0 where
  pub o : Outcomes
  pub is : outcome journal key ≡ Some o
  pub code : o.rc ≡ rc
  pub cause : o.cause ≡ why
  pub length : o.bytes ≡ bytes

-- a step of the node's own Process, by the journal that it had then
pub record IsOwnStep (journal : List Entry) (n place : ℕ) (key : Key) : Type 0 where
  pub home : own_home journal ≡ Some (key.pnode, key.home)
  pub number : key.number ≡ n
  pub step : key.place ≡ place

-- each Ended of a journal, with the journal behind it
abbrev pub EachEnded : (List Entry → ℕ → ℕ → ℕ → Cause → ℕ → Type 0) → List Entry → Type 0
EachEnded P [] = Unit {0}
EachEnded P (entry.Ended n place rc why bytes moment ∷ journal) = P journal n place rc why bytes × EachEnded P journal
EachEnded P (e ∷ journal) = EachEnded P journal

-- where the other node keeps the outcome of the step, the step ended as the other node recorded it
abbrev pub EndsAsKept : Reading → List Entry → List Entry → ℕ → ℕ → ℕ → Cause → ℕ → Type 0
EndsAsKept read other journal n place rc why bytes =
    (key : Key) → IsOwnStep journal n place key → is_such pnode_keeps (what_at read journal n place) ≡ false → IsOutcome other key rc why bytes

pub record HaveResults (w : World) : Type 0 where
  pub a : EachEnded (EndsAsKept w.a.node.view.config.read (journal_of w.b)) (journal_of w.a)
  pub b : EachEnded (EndsAsKept w.b.node.view.config.read (journal_of w.a)) (journal_of w.b)

-- Statements.

-- a receiving has the name, the disposition and the interval of a COPY
pub record IsAs (step : CopyStep) (r : Receiving) : Type 0 where
  pub name : r.name ≡ step.to
  pub disp : r.disp ≡ step.disp
  pub interval : r.interval ≡ interval_of step.ckpt

-- it is as the COPY of its key's number and place in this journal, which is a push or a pull
pub record IsStated (read : Reading) (journal : List Entry) (push : Bool) (r : Receiving) : Type 0 where
  pub step : CopyStep
  pub stands : what_at read journal r.key.number r.key.place ≡ Some (what.Copy step)
  pub way : step.push ≡ push
  pub same : IsAs step r

-- a step of a Process of the node with this journal
abbrev pub IsStepOf : List Entry → Key → Type 0
IsStepOf journal key = own_home journal ≡ Some (key.pnode, key.home)

-- what a node receives is for a Process of its own, and as a pull of it, or for one of the other node, and as a push of it
abbrev pub AsStated : Half → Half → Receiving → Type 0
AsStated here there r =
    (IsStepOf (journal_of here) r.key × IsStated here.node.view.config.read (journal_of here) false r)
    ⊎ (IsStepOf (journal_of there) r.key × IsStated there.node.view.config.read (journal_of there) true r)

-- each Receiving of a journal
abbrev pub EachReceiving : (Receiving → Type 0) → List Entry → Type 0
EachReceiving P [] = Unit {0}
EachReceiving P (entry.Receiving r ∷ journal) = P r × EachReceiving P journal
EachReceiving P (e ∷ journal) = EachReceiving P journal

pub record HaveStatements (w : World) : Type 0 where
  pub a : EachReceiving (AsStated w.a w.b) (journal_of w.a)
  pub b : EachReceiving (AsStated w.b w.a) (journal_of w.b)

-- Landings.

abbrev pub is_at : At → At → Bool
is_at A A = true
is_at B B = true
is_at _ _ = false

-- what landed of a step at a node, the newest first
abbrev pub landings : At → Key → List Note → List (List ℕ)
landings x key [] = []
landings x key (Landed y r got ∷ notes) = if is_at x y && same_key key r.key then got ∷ landings x key notes else landings x key notes
landings x key (Sized y name size ∷ notes) = landings x key notes
landings x key (Read y step at bytes ∷ notes) = landings x key notes
landings x key (Began y r ∷ notes) = landings x key notes
landings x key (Dropped y r ∷ notes) = landings x key notes
landings x key (Wrote y name bytes ∷ notes) = landings x key notes

pub record IsOne (landed : List (List ℕ)) : Type 0 where
  pub got : List ℕ
  pub is : landed ≡ got ∷ []

-- the node that receives the file of a COPY keeps its outcome
abbrev pub keeper : At → CopyStep → At
keeper x step = if step.push then across x else x

-- a COPY that ended with 0 landed once where it was received
abbrev pub LandsOnce : At → Reading → List Note → List Entry → ℕ → ℕ → ℕ → Cause → ℕ → Type 0
LandsOnce x read notes journal n place rc why bytes =
    (key : Key) (step : CopyStep) → IsOwnStep journal n place key → what_at read journal n place ≡ Some (what.Copy step) → rc ≡ 0 → IsOne (landings (keeper x step) key notes)

pub record HaveLanded (w : World) : Type 0 where
  pub a : EachEnded (LandsOnce A w.a.node.view.config.read w.notes) (journal_of w.a)
  pub b : EachEnded (LandsOnce B w.b.node.view.config.read w.notes) (journal_of w.b)

-- the landings of a step at a node as they were noted, the newest first
abbrev pub noted_landings : At → Key → List Note → List Note
noted_landings x key [] = []
noted_landings x key (Landed y r got ∷ notes) =
    if is_at x y && same_key key r.key then Landed y r got ∷ noted_landings x key notes else noted_landings x key notes
noted_landings x key (Sized y name size ∷ notes) = noted_landings x key notes
noted_landings x key (Read y step at bytes ∷ notes) = noted_landings x key notes
noted_landings x key (Began y r ∷ notes) = noted_landings x key notes
noted_landings x key (Dropped y r ∷ notes) = noted_landings x key notes
noted_landings x key (Wrote y name bytes ∷ notes) = noted_landings x key notes

-- it is one, of a receiving as this COPY
pub record IsOneAs (x : At) (step : CopyStep) (noted : List Note) : Type 0 where
  pub r : Receiving
  pub got : List ℕ
  pub is : noted ≡ Landed x r got ∷ []
  pub same : IsAs step r

-- a COPY that ended with 0 landed once where it was received, with the name, the disposition and the interval of its statement
abbrev pub LandsAsStated : At → Reading → List Note → List Entry → ℕ → ℕ → ℕ → Cause → ℕ → Type 0
LandsAsStated x read notes journal n place rc why bytes =
    (key : Key) (step : CopyStep) → IsOwnStep journal n place key → what_at read journal n place ≡ Some (what.Copy step) → rc ≡ 0 → IsOneAs (keeper x step) step (noted_landings (keeper x step) key notes)

pub record HaveCopied (w : World) : Type 0 where
  pub a : EachEnded (LandsAsStated A w.a.node.view.config.read w.notes) (journal_of w.a)
  pub b : EachEnded (LandsAsStated B w.b.node.view.config.read w.notes) (journal_of w.b)

-- Sources.

-- these bytes stand in a source at an offset
abbrev pub IsFoundIn : List ℕ → ℕ → List ℕ → Type 0
IsFoundIn bytes at source = bytes ≡ take (length bytes) (drop at source)

-- every read that was noted for a step since its last Receiving at a node found bytes of this source
abbrev pub Agrees : List Note → At → Key → List ℕ → Type 0
Agrees [] x key source = Unit {0}
Agrees (Read y step at bytes ∷ notes) x key source = (same_key step key ≡ true → IsFoundIn bytes at source) × Agrees notes x key source
Agrees (Began y r ∷ notes) x key source = Unless (is_at x y && same_key key r.key) (Agrees notes x key source)
Agrees (Landed y r got ∷ notes) x key source = Agrees notes x key source
Agrees (Sized y name size ∷ notes) x key source = Agrees notes x key source
Agrees (Dropped y r ∷ notes) x key source = Agrees notes x key source
Agrees (Wrote y name bytes ∷ notes) x key source = Agrees notes x key source

-- What landed is the source, whole: wherever a source of the announced length agrees with all that was read of it.
abbrev pub AreSources : List Note → Type 0
AreSources [] = Unit {0}
AreSources (Landed x r got ∷ notes) = ((source : List ℕ) → length source ≡ r.length → Agrees notes x r.key source → got ≡ source) × AreSources notes
AreSources (Read y step at bytes ∷ notes) = AreSources notes
AreSources (Began y r ∷ notes) = AreSources notes
AreSources (Sized y name size ∷ notes) = AreSources notes
AreSources (Dropped y r ∷ notes) = AreSources notes
AreSources (Wrote y name bytes ∷ notes) = AreSources notes

-- Files.

-- a file begins with these bytes; no file has none
abbrev pub Begins : List ℕ → Option (List ℕ) → Type 0
Begins front file = take (length front) (content_of file) ≡ front

-- what is safe of a file while it is received: of the old file what stays, and of what came all that is marked
abbrev pub safe_reaction : Half → Receiving → List ℕ
safe_reaction half r = take r.base (content_of (half.settled r.name)) ++ take (mark (journal_of half) r.key) (half.received r.key)

-- A file is the settled one where nothing is received onto it. Else it begins with what is safe, which has all the bytes that
-- stay and all that are marked.
abbrev pub IsAsSettled : Half → List ℕ → Option Receiving → Option (List ℕ) → Type 0
IsAsSettled half name None file = file ≡ half.settled name
IsAsSettled half name (Some r) file = Begins (safe_reaction half r) file × (length (safe_reaction half r) ≡ r.base + mark (journal_of half) r.key)

-- what a name gives, and whatever a crash may leave of it
pub record Stands (half : Half) (name : List ℕ) : Type 0 where
  pub told : IsAsSettled half name (open_on (journal_of half) name) (half.node.shelf.seen name)
  pub left : (file : Option (List ℕ)) → IsFileImage (half.node.shelf.doubt name) file → IsAsSettled half name (open_on (journal_of half) name) file

-- every name but those that someone else wrote while they were received
abbrev pub AllStand : Half → Type 0
AllStand half = (name : List ℕ) → list_any (bytes_eq name) half.spoiled ≡ false → Stands half name

pub record HaveFiles (w : World) : Type 0 where
  pub a : AllStand w.a
  pub b : AllStand w.b

-- What the notes of a node leave of its files, the newest first: a landing leaves what its disposition makes of the file before
-- it and of what came, a receiving that is dropped what its disposition leaves then, and someone else's bytes stand as written.
abbrev pub left_of : At → FileMap → List Note → FileMap
left_of x files [] name = files name
left_of x files (Landed y r got ∷ notes) name = if is_at x y && bytes_eq r.name name then Some (landed r.disp (left_of x files notes name) got) else left_of x files notes name
left_of x files (Dropped y r ∷ notes) name = if is_at x y && bytes_eq r.name name then dropped r.disp (left_of x files notes name) else left_of x files notes name
left_of x files (Wrote y other bytes ∷ notes) name = if is_at x y && bytes_eq other name then Some bytes else left_of x files notes name
left_of x files (Sized y other size ∷ notes) name = left_of x files notes name
left_of x files (Read y step at bytes ∷ notes) name = left_of x files notes name
left_of x files (Began y r ∷ notes) name = left_of x files notes name

-- each settled file is what the notes leave of the files of the first world
pub record AreLeft (first w : World) : Type 0 where
  pub a : (name : List ℕ) → w.a.settled name ≡ left_of A first.a.settled w.notes name
  pub b : (name : List ℕ) → w.b.settled name ≡ left_of B first.b.settled w.notes name
