-- What is safe of the files that are received, and what changes keep of it.
use Rattle.std.proofs.Common.{◌≡◌, ℕ, ◌+◌, ◌≤◌, Bool, true, false, cond, List, [], ◌∷◌, ◌++◌, length, take, Option, Some, None, min, ◌⊎◌, inl, inr, refl, sym, ◌∙◌, ap, subst, arith, length-append, length-take}
use Rattle.std.specs.Prelude.{option_map}
use Rattle.std.specs.List.{list_any}
use Rattle.std.specs.Str.{bytes_eq}
use Rattle.std.proofs.Math.Seq.{take-append_seam}
use Rattle.std.proofs.lemmas.Bool.{cond-true, cond-false, false≢true}
use Rattle.std.proofs.lemmas.Grind.{same_number_lists}
use Rattle.cd_outside.specs.Doubt.{settled, IsImage}
use Rattle.std.proofs.lemmas.List.{append-nil, take-take, take_all, length-take-le}
use Rattle.std.proofs.lemmas.Slice.Eq.{bytes_eq-Decides}
use Rattle.cd_outside.specs.Content.{resized, overwritten}
use Rattle.cd_outside.specs.Disposition.{landed, dropped}
use Rattle.cd_outside.proofs.Contents.{resized_within}
use Rattle.cd_outside.specs.Shelf as shelves
use Rattle.cd_outside.specs.Shelf.{FileDoubt, FileChange, WriteFile, CutFile, SyncFile, RemoveFile, Shelf, IsFileImage, content_of, settled_file, file_after, file_doubt_within, name_of, within, changed}
use Rattle.cd_types.specs.declared.choices.Disp.{Disp}
use Rattle.cd_types.specs.declared.choices.Disp.TheVariants as disp
use Rattle.cd_types.specs.declared.rows.Receiving.{Receiving}
use Rattle.cd_protocol.specs.declared.session.Phase.{Phase}
use Rattle.cd_protocol.specs.declared.session.Phase.TheVariants.{Take}
use Rattle.cd_rules.specs.Status as status
use Rattle.cd_rules.specs.Status.{Status}
use Rattle.cd_protocol.specs.Receiving.{kept_base, is_there, undo}
use Rattle.cd_world.specs.Fronts.{BeginsWith, AreBehind, IsGuarded, KeepsFront}
use Rattle.cd_world.proofs.GuardsLaw.{begins_short, front_image, front_settled, front_after, front_within, front_written, front_landed}
use Rattle.cd_world.specs.Holds.{journal_of, Begins}
use Rattle.cd_world.specs.World.{Half}

-- Fronts that may be empty.

-- nothing, or guarded
abbrev pub IsSafe : List ℕ → Option (List ℕ) → FileDoubt → Type 0
IsSafe front file doubt = (front ≡ []) ⊎ (BeginsWith front file × IsGuarded front doubt)

-- a change behind so many bytes
abbrev pub KeepsSafe : ℕ → FileChange → Type 0
KeepsSafe n (WriteFile name at bytes) = n ≤ at
KeepsSafe n (CutFile name len) = n ≤ len
KeepsSafe n (SyncFile name) = Unit {0}
KeepsSafe n (RemoveFile name) = n ≡ 0

-- what is in doubt of the name behind the change
abbrev pub doubt_after : FileChange → Option (List ℕ) → FileDoubt → FileDoubt
doubt_after (SyncFile name) file doubt = settled_file file
doubt_after (WriteFile name at bytes) file doubt = file_doubt_within (WriteFile name at bytes) file doubt
doubt_after (CutFile name len) file doubt = file_doubt_within (CutFile name len) file doubt
doubt_after (RemoveFile name) file doubt = file_doubt_within (RemoveFile name) file doubt

no_bytes : (front : List ℕ) → length front ≡ 0 → front ≡ []
no_bytes [] none = refl
no_bytes (x ∷ front) none = absurd (omega (arith, none))

pub begins_with : (front : List ℕ) (file : Option (List ℕ)) → BeginsWith front file → Begins front file
begins_with front file b = ap (λ (f : Option (List ℕ)). take (length front) (content_of f)) b.is ∙ b.begins

begins_none : (front : List ℕ) (file : Option (List ℕ)) → front ≡ [] → Begins front file
begins_none front file none = subst (λ (f : List ℕ). Begins f file) (sym none) refl

pub safe_begins : (front : List ℕ) (file : Option (List ℕ)) (doubt : FileDoubt) → IsSafe front file doubt → Begins front file
safe_begins front file doubt (inl none) = begins_none front file none
safe_begins front file doubt (inr both) = begins_with front file both.0

pub safe_image : (front : List ℕ) (file : Option (List ℕ)) (doubt : FileDoubt) (image : Option (List ℕ)) → IsSafe front file doubt → IsFileImage doubt image → Begins front image
safe_image front file doubt image (inl none) is = begins_none front image none
safe_image front file doubt image (inr both) is = begins_with front image (front_image front doubt image both.1 is)

-- a file that begins with these bytes is safe where it is settled
pub safe_settled : (front : List ℕ) (file : Option (List ℕ)) → Begins front file → IsSafe front file (settled_file file)
safe_settled [] file begins = inl refl
safe_settled (x ∷ front) (Some bytes) begins = let b : BeginsWith (x ∷ front) (Some bytes) = record { bytes = bytes; is = refl; begins = begins } in inr (b, front_settled (x ∷ front) (Some bytes) b)
safe_settled (x ∷ front) None begins = absurd (no_cons x front begins) where
  no_cons : (y : ℕ) (ys : List ℕ) → [] ≡ y ∷ ys → ⊥
  no_cons y ys is = cc

keeps_front : (n : ℕ) (change : FileChange) → KeepsSafe n change → (n ≡ 0) ⊎ KeepsFront n change
keeps_front n (WriteFile name at bytes) keeps = inr keeps
keeps_front n (CutFile name len) keeps = inr keeps
keeps_front n (SyncFile name) keeps = inr tt
keeps_front n (RemoveFile name) keeps = inl keeps

after_front : (front : List ℕ) (file : Option (List ℕ)) (doubt : FileDoubt) (change : FileChange) → BeginsWith front file → IsGuarded front doubt → KeepsFront (length front) change → IsGuarded front (doubt_after change file doubt)
after_front front file doubt (SyncFile name) begins guarded keeps = front_settled front file begins
after_front front file doubt (WriteFile name at bytes) begins guarded keeps = front_within front file begins (WriteFile name at bytes) doubt keeps guarded
after_front front file doubt (CutFile name len) begins guarded keeps = front_within front file begins (CutFile name len) doubt keeps guarded
after_front front file doubt (RemoveFile name) begins guarded keeps = absurd keeps

pub safe_after : (front : List ℕ) (file : Option (List ℕ)) (doubt : FileDoubt) (change : FileChange) → IsSafe front file doubt → KeepsSafe (length front) change
    → IsSafe front (file_after change file) (doubt_after change file doubt)
safe_after front file doubt change (inl none) keeps = inl none
safe_after front file doubt change (inr both) keeps = by_change (keeps_front (length front) change keeps) where
  by_change : ((length front ≡ 0) ⊎ KeepsFront (length front) change) → IsSafe front (file_after change file) (doubt_after change file doubt)
  by_change (inl none) = inl (no_bytes front none)
  by_change (inr keeps2) = inr (front_after front file both.0 change keeps2, after_front front file doubt change both.0 both.1 keeps2)

-- a change that is cut off may leave this
pub safe_within : (front : List ℕ) (file : Option (List ℕ)) (doubt : FileDoubt) (change : FileChange) → IsSafe front file doubt → KeepsSafe (length front) change
    → IsSafe front file (file_doubt_within change file doubt)
safe_within front file doubt change (inl none) keeps = inl none
safe_within front file doubt change (inr both) keeps = by_change (keeps_front (length front) change keeps) where
  by_change : ((length front ≡ 0) ⊎ KeepsFront (length front) change) → IsSafe front file (file_doubt_within change file doubt)
  by_change (inl none) = inl (no_bytes front none)
  by_change (inr keeps2) = inr (both.0, front_within front file both.0 change doubt keeps2 both.1)

pub safe_left : (front : List ℕ) (file left : Option (List ℕ)) (doubt : FileDoubt) → IsSafe front file doubt → IsFileImage doubt left → IsSafe front left doubt
safe_left front file left doubt (inl none) is = inl none
safe_left front file left doubt (inr both) is = inr (front_image front doubt left both.1 is, both.1)

-- a shorter front

behind_less : (m n : ℕ) (ranges : List (ℕ × ℕ)) → m ≤ n → AreBehind n ranges → AreBehind m ranges
behind_less m n [] less behind = tt
behind_less m n (range ∷ ranges) less behind = let first : n ≤ range.0 = behind.0 in (omega (arith, less, first), behind_less m n ranges less behind.1)

shorter_begins : (first more bytes : List ℕ) → take (length (first ++ more)) bytes ≡ first ++ more → take (length first) bytes ≡ first
shorter_begins first more bytes begins =
    let len : length (first ++ more) ≡ length first + length more = length-append first more in
    let less : length first ≤ length (first ++ more) = omega (arith, len) in
    sym (take-take (length first) (length (first ++ more)) bytes less) ∙ ap (λ (l : List ℕ). take (length first) l) begins ∙ take-append_seam first more

first_none : (first more : List ℕ) → first ++ more ≡ [] → first ≡ []
first_none [] more none = refl
first_none (x ∷ first) more none = absurd (no_cons x (first ++ more) none) where
  no_cons : (y : ℕ) (ys : List ℕ) → y ∷ ys ≡ [] → ⊥
  no_cons y ys is = cc

pub safe_first : (first more : List ℕ) (file : Option (List ℕ)) (doubt : FileDoubt) → IsSafe (first ++ more) file doubt → IsSafe first file doubt
safe_first first more file doubt (inl none) = inl (first_none first more none)
safe_first first more file doubt (inr both) =
    let b : BeginsWith (first ++ more) file = both.0 in
    let g : IsGuarded (first ++ more) doubt = both.1 in
    let len : length (first ++ more) ≡ length first + length more = length-append first more in
    let less : length first ≤ length (first ++ more) = omega (arith, len) in
    let long : length (first ++ more) ≤ doubt.bytes.least = g.long in
    inr (
      record { bytes = b.bytes; is = b.is; begins = shorter_begins first more b.bytes b.begins },
      record { there = g.there; stays = g.stays; long = omega (arith, less, long); base = shorter_begins first more doubt.bytes.base g.base; behind = behind_less (length first) (length (first ++ more)) doubt.bytes.ranges less g.behind },
    )

-- A settled file is all that a crash leaves.

image_settled : (bytes image : List ℕ) → IsImage (settled bytes) image → image ≡ bytes
image_settled bytes image is =
    let shorter : length bytes ≤ length image = is.no_shorter in
    let longer : length image ≤ length bytes = is.no_longer in
    same_number_lists image bytes (omega (arith, shorter, longer)) (λ k lt. is.kept k (omega (arith, lt, longer)) tt)

pub settled_image : (file image : Option (List ℕ)) → IsFileImage (settled_file file) image → image ≡ file
settled_image None None is = refl
settled_image None (Some image) is = absurd (false≢true is.0)
settled_image (Some bytes) None is = absurd (false≢true is)
settled_image (Some bytes) (Some image) is = ap (λ (l : List ℕ). Some l) (image_settled bytes image is.1)

-- Changes of a shelf, by name.

put_here : {T : Type 0} (f : List ℕ → T) (others : List ℕ → T) (other name : List ℕ) → bytes_eq other name ≡ true → shelves.put other (f other) others name ≡ f name
put_here f others other name same = cond-true (bytes_eq other name) (f other) (others name) same ∙ ap f ((bytes_eq-Decides other name).0 same)

pub put_there : {T : Type 0} (value : T) (others : List ℕ → T) (other name : List ℕ) → bytes_eq other name ≡ false → shelves.put other value others name ≡ others name
put_there value others other name apart = cond-false (bytes_eq other name) value (others name) apart

-- the name of the change
pub seen_same : (change : FileChange) (shelf : Shelf) (name : List ℕ) → bytes_eq (name_of change) name ≡ true → (changed change shelf).seen name ≡ file_after change (shelf.seen name)
seen_same (WriteFile other at bytes) shelf name same = put_here (λ (n : List ℕ). file_after (WriteFile other at bytes) (shelf.seen n)) shelf.seen other name same
seen_same (CutFile other len) shelf name same = put_here (λ (n : List ℕ). file_after (CutFile other len) (shelf.seen n)) shelf.seen other name same
seen_same (SyncFile other) shelf name same = refl
seen_same (RemoveFile other) shelf name same = put_here (λ (n : List ℕ). file_after (RemoveFile other) (shelf.seen n)) shelf.seen other name same

pub within_same : (change : FileChange) (shelf : Shelf) (name : List ℕ) → bytes_eq (name_of change) name ≡ true → within change shelf name ≡ file_doubt_within change (shelf.seen name) (shelf.doubt name)
within_same (WriteFile other at bytes) shelf name same = put_here (λ (n : List ℕ). file_doubt_within (WriteFile other at bytes) (shelf.seen n) (shelf.doubt n)) shelf.doubt other name same
within_same (CutFile other len) shelf name same = put_here (λ (n : List ℕ). file_doubt_within (CutFile other len) (shelf.seen n) (shelf.doubt n)) shelf.doubt other name same
within_same (SyncFile other) shelf name same = refl
within_same (RemoveFile other) shelf name same = put_here (λ (n : List ℕ). file_doubt_within (RemoveFile other) (shelf.seen n) (shelf.doubt n)) shelf.doubt other name same

pub doubt_same : (change : FileChange) (shelf : Shelf) (name : List ℕ) → bytes_eq (name_of change) name ≡ true → (changed change shelf).doubt name ≡ doubt_after change (shelf.seen name) (shelf.doubt name)
doubt_same (WriteFile other at bytes) shelf name same = within_same (WriteFile other at bytes) shelf name same
doubt_same (CutFile other len) shelf name same = within_same (CutFile other len) shelf name same
doubt_same (SyncFile other) shelf name same = put_here (λ (n : List ℕ). settled_file (shelf.seen n)) shelf.doubt other name same
doubt_same (RemoveFile other) shelf name same = within_same (RemoveFile other) shelf name same

-- another name
pub seen_other : (change : FileChange) (shelf : Shelf) (name : List ℕ) → bytes_eq (name_of change) name ≡ false → (changed change shelf).seen name ≡ shelf.seen name
seen_other (WriteFile other at bytes) shelf name apart = put_there _ shelf.seen other name apart
seen_other (CutFile other len) shelf name apart = put_there _ shelf.seen other name apart
seen_other (SyncFile other) shelf name apart = refl
seen_other (RemoveFile other) shelf name apart = put_there _ shelf.seen other name apart

pub within_other : (change : FileChange) (shelf : Shelf) (name : List ℕ) → bytes_eq (name_of change) name ≡ false → within change shelf name ≡ shelf.doubt name
within_other (WriteFile other at bytes) shelf name apart = put_there _ shelf.doubt other name apart
within_other (CutFile other len) shelf name apart = put_there _ shelf.doubt other name apart
within_other (SyncFile other) shelf name apart = refl
within_other (RemoveFile other) shelf name apart = put_there _ shelf.doubt other name apart

pub doubt_other : (change : FileChange) (shelf : Shelf) (name : List ℕ) → bytes_eq (name_of change) name ≡ false → (changed change shelf).doubt name ≡ shelf.doubt name
doubt_other (WriteFile other at bytes) shelf name apart = within_other (WriteFile other at bytes) shelf name apart
doubt_other (CutFile other len) shelf name apart = within_other (CutFile other len) shelf name apart
doubt_other (SyncFile other) shelf name apart = put_there _ shelf.doubt other name apart
doubt_other (RemoveFile other) shelf name apart = within_other (RemoveFile other) shelf name apart

-- Receivings.

abbrev pub size : Option (List ℕ) → Option ℕ
size file = option_map (λ bytes. length bytes) file

abbrev pub NotSpoiled : Half → List ℕ → Type 0
NotSpoiled a name = list_any (bytes_eq name) a.spoiled ≡ false

-- what stays of the old file, and so many bytes of what came
abbrev pub front_of : Half → Receiving → ℕ → List ℕ
front_of a r n = take r.base (content_of (a.settled r.name)) ++ take n (a.received r.key)

-- a receiving has what was told of its file
abbrev pub ToldOf : Receiving → Option (List ℕ) → Type 0
ToldOf r file = (r.there ≡ is_there (size file)) × (r.base ≡ kept_base r.disp (size file))

-- what is received onto a file that nobody else wrote
abbrev pub OnFile : Half → Receiving → ℕ → Type 0
OnFile a r safe = ToldOf r (a.settled r.name) × IsSafe (front_of a r safe) (a.node.shelf.seen r.name) (a.node.shelf.doubt r.name)

-- what is marked came, what came is no longer than announced, and so the file is
abbrev pub Held : Half → Receiving → ℕ → Type 0
Held a r safe = (safe ≤ length (a.received r.key)) × (length (a.received r.key) ≤ r.length) × (NotSpoiled a r.name → OnFile a r safe)

-- the session that holds the key of a receiving is at its mark, or behind it in the file
abbrev pub AtRest : Half → Receiving → ℕ → ℕ → Type 0
AtRest a r safe came = (came ≡ safe) ⊎ ((safe ≤ came) × (NotSpoiled a r.name → Begins (front_of a r came) (a.node.shelf.seen r.name)))

abbrev pub Rested : ℕ → Half → Phase → Type 0
Rested n a (Take role terms key came) =
    a.node.sessions.holder key ≡ Some n → (r : Receiving) (safe : ℕ) → status.status (journal_of a) key ≡ status.Open r safe → AtRest a r safe came
Rested n a _ = Unit {0}

-- the bytes that stay are so many
kept_all : (d : Disp) (file : Option (List ℕ)) (base : ℕ) → base ≡ kept_base d (size file) → length (take base (content_of file)) ≡ base
kept_all disp.New file base is = let none : base ≡ 0 = is in length-take base (content_of file) ∙ min_zero base (length (content_of file)) none where
  min_zero : (b n : ℕ) → b ≡ 0 → min b n ≡ b
  min_zero b n none = omega (arith, none)
kept_all disp.Rpl file base is = let none : base ≡ 0 = is in length-take base (content_of file) ∙ min_zero base (length (content_of file)) none where
  min_zero : (b n : ℕ) → b ≡ 0 → min b n ≡ b
  min_zero b n none = omega (arith, none)
kept_all disp.Mod None base is = let none : base ≡ 0 = is in length-take base [] ∙ min_zero base none where
  min_zero : (b : ℕ) → b ≡ 0 → min b (length {A = ℕ} []) ≡ b
  min_zero b none = omega (arith, none)
kept_all disp.Mod (Some bytes) base is = let all : base ≡ length bytes = is in length-take-le base bytes (omega (arith, all))

pub kept_length : (r : Receiving) (file : Option (List ℕ)) → ToldOf r file → length (take r.base (content_of file)) ≡ r.base
kept_length r file told = kept_all r.disp file r.base told.1

pub front_length : (a : Half) (r : Receiving) (n : ℕ) → ToldOf r (a.settled r.name) → n ≤ length (a.received r.key) → length (front_of a r n) ≡ r.base + n
front_length a r n told enough =
    let kept : length (take r.base (content_of (a.settled r.name))) ≡ r.base = kept_length r (a.settled r.name) told in
    let got : length (take n (a.received r.key)) ≡ n = length-take-le n (a.received r.key) enough in
    let both : length (front_of a r n) ≡ length (take r.base (content_of (a.settled r.name))) + length (take n (a.received r.key)) = length-append (take r.base (content_of (a.settled r.name))) (take n (a.received r.key)) in
    omega (arith, kept, got, both)

pub rest_low : (a : Half) (r : Receiving) (safe came : ℕ) → AtRest a r safe came → safe ≤ came
rest_low a r safe came (inl at) = omega (arith, at)
rest_low a r safe came (inr behind) = behind.0

pub rest_came : (a : Half) (r : Receiving) (safe came : ℕ) → Held a r safe → AtRest a r safe came → NotSpoiled a r.name → Begins (front_of a r came) (a.node.shelf.seen r.name)
rest_came a r safe came held (inl at) clean =
    subst (λ (n : ℕ). Begins (front_of a r n) (a.node.shelf.seen r.name)) (sym at) (safe_begins (front_of a r safe) (a.node.shelf.seen r.name) (a.node.shelf.doubt r.name) (held.2 clean).1)
rest_came a r safe came held (inr behind) clean = behind.1 clean

-- back at its beginning
pub file_back : (a : Half) (r : Receiving) (safe : ℕ) → OnFile a r safe → IsSafe (front_of a r 0) (a.node.shelf.seen r.name) (a.node.shelf.doubt r.name)
file_back a r safe file =
    let kept : List ℕ = take r.base (content_of (a.settled r.name)) in
    subst (λ (front : List ℕ). IsSafe front (a.node.shelf.seen r.name) (a.node.shelf.doubt r.name)) (sym (append-nil kept))
    (safe_first kept (take safe (a.received r.key)) (a.node.shelf.seen r.name) (a.node.shelf.doubt r.name) file.1)

pub marked_opens : (offset : ℕ) (s : Status) (r : Receiving) (safe : ℕ) → status.marked offset s ≡ status.Open r safe → (before : ℕ) × (s ≡ status.Open r before) × (safe ≡ offset)
marked_opens offset status.Fresh r safe is = absurd cc
marked_opens offset (status.Started tries kind) r safe is = absurd cc
marked_opens offset (status.Open q before) r safe is = let same : q ≡ r = cc in (before, ap (λ (y : Receiving). status.Open y before) same, cc)
marked_opens offset (status.Done o) r safe is = absurd cc

pub same_name : (name : List ℕ) → bytes_eq name name ≡ true
same_name name = (bytes_eq-Decides name name).1 refl

pub doubt_synced : (shelf : Shelf) (name : List ℕ) → (changed (SyncFile name) shelf).doubt name ≡ settled_file (shelf.seen name)
doubt_synced shelf name = doubt_same (SyncFile name) shelf name (same_name name)

-- What undoes a receiving.

pub undo_name : (r : Receiving) (d : Disp) → r.name ≡ name_of (undo r d)
undo_name r disp.New = refl
undo_name r disp.Rpl = refl
undo_name r disp.Mod = elim r.there as (λ b. r.name ≡ name_of (cond b (CutFile r.name r.base) (RemoveFile r.name))) [ true ↦ refl | false ↦ refl ]

pub undo_safe : (r : Receiving) (old : Option (List ℕ)) (d : Disp) (n : ℕ) → r.there ≡ is_there (size old) → r.base ≡ kept_base d (size old) → n ≡ r.base → KeepsSafe n (undo r d)
undo_safe r old disp.New n there base is = is ∙ base
undo_safe r old disp.Rpl n there base is = let none : r.base ≡ 0 = base in omega (arith, is, none)
undo_safe r None disp.Mod n there base is = subst (λ (b : Bool). KeepsSafe n (cond b (CutFile r.name r.base) (RemoveFile r.name))) (sym there) (is ∙ base)
undo_safe r (Some bytes) disp.Mod n there base is = subst (λ (b : Bool). KeepsSafe n (cond b (CutFile r.name r.base) (RemoveFile r.name))) (sym there) (omega (arith, is))

cut_back : (base : ℕ) (bytes file : List ℕ) → base ≡ length bytes → take (length (take base bytes)) file ≡ take base bytes → resized base file ≡ bytes
cut_back base bytes file is begins =
    let all : take base bytes ≡ bytes = take_all base bytes (omega (arith, is)) in
    let there : take (length bytes) file ≡ bytes = subst (λ (l : List ℕ). take (length l) file ≡ l) all begins in
    let long : length bytes ≤ length file = begins_short bytes file there in
    resized_within base file (omega (arith, is, long)) ∙ ap (λ (n : ℕ). take n file) is ∙ there

pub undo_after : (r : Receiving) (file old : Option (List ℕ)) (d : Disp) → r.there ≡ is_there (size old) → r.base ≡ kept_base d (size old) → Begins (take r.base (content_of old)) file
    → file_after (undo r d) file ≡ dropped d old
undo_after r file old disp.New there base begins = refl
undo_after r file old disp.Rpl there base begins = ap (λ (l : List ℕ). Some l) (resized_within 0 (content_of file) (omega arith))
undo_after r file None disp.Mod there base begins = ap (λ (b : Bool). file_after (cond b (CutFile r.name r.base) (RemoveFile r.name)) file) there
undo_after r file (Some bytes) disp.Mod there base begins =
    ap (λ (b : Bool). file_after (cond b (CutFile r.name r.base) (RemoveFile r.name)) file) there ∙ ap (λ (l : List ℕ). Some l) (cut_back r.base bytes (content_of file) base begins)

-- What lands.

landed_by_disp : (d : Disp) (old : Option (List ℕ)) (base : ℕ) (got : List ℕ) → base ≡ kept_base d (size old) → take base (content_of old) ++ got ≡ landed d old got
landed_by_disp disp.New old base got is = ap (λ (n : ℕ). take n (content_of old) ++ got) is
landed_by_disp disp.Rpl old base got is = ap (λ (n : ℕ). take n (content_of old) ++ got) is
landed_by_disp disp.Mod None base got is = ap (λ (n : ℕ). take n [] ++ got) is
landed_by_disp disp.Mod (Some bytes) base got is = let all : base ≡ length bytes = is in ap (λ (l : List ℕ). l ++ got) (take_all base bytes (omega (arith, all)))

pub land_after : (r : Receiving) (file old : Option (List ℕ)) (got : List ℕ) → ToldOf r old → length got ≡ r.length → Begins (take r.base (content_of old) ++ take r.length got) file
    → file_after (CutFile r.name (r.base + r.length)) file ≡ Some (landed r.disp old got)
land_after r file old got told whole begins =
    let kept : List ℕ = take r.base (content_of old) in
    let len : length kept ≡ r.base = kept_length r old told in
    let all : take r.length got ≡ got = take_all r.length got (omega (arith, whole)) in
    let there : take (length (kept ++ got)) (content_of file) ≡ kept ++ got = subst (λ (l : List ℕ). take (length (kept ++ l)) (content_of file) ≡ kept ++ l) all begins in
    let end : length kept + length got ≡ r.base + r.length = omega (arith, len, whole) in
    ap (λ (l : List ℕ). Some l) (ap (λ (n : ℕ). resized n (content_of file)) (sym end) ∙ front_landed kept got (content_of file) there ∙ landed_by_disp r.disp old r.base got told.1)

-- a piece that is written behind what came
pub piece_after : (r : Receiving) (file old : Option (List ℕ)) (got piece : List ℕ) (came : ℕ) → ToldOf r old → came ≤ length got → Begins (take r.base (content_of old) ++ take came got) file
    → Begins (take r.base (content_of old) ++ take (came + length piece) (overwritten came piece got)) (file_after (WriteFile r.name (r.base + came) piece) file)
piece_after r file old got piece came told enough begins =
    let kept : List ℕ = take r.base (content_of old) in
    let len : length kept ≡ r.base = kept_length r old told in
    subst (λ (n : ℕ). Begins (kept ++ take (came + length piece) (overwritten came piece got)) (Some (overwritten (n + came) piece (content_of file)))) len
    (front_written kept got piece (content_of file) came enough begins)
