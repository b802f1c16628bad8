-- The images of a run of changing calls of files.
use Rattle.std.proofs.Common.{◌≡◌, ⊎_elim, ℕ, ◌+◌, ◌<◌, ◌≤◌, List, [], ◌∷◌, refl, sym, ◌∙◌, subst, ap, arith}
use Rattle.std.proofs.lemmas.Bool.{cases_eq}
use Rattle.std.proofs.lemmas.Bool.Decides.{nat_tests}
use Rattle.cd_outside.specs.Counts.{next}
use Rattle.cd_outside.specs.Shelf.{FileMap, FileDoubt, FileChange, within, IsShelfImage}
use Rattle.cd_outside.specs.Files.{FilesCall, FilesState, files_last_of, files_doubt_of, FilesLeftAt, call_of, files_did, FilesWereBegun}
use Rattle.cd_outside.specs.Moments.{Moments}

abbrev Doubts : Type 0
Doubts = List ℕ → FileDoubt

-- what is in doubt behind the beat of the newest call is what is in doubt now
pub files_doubt_now : (now : Doubts) (calls : List FilesCall) (beat : ℕ) → files_last_of calls < beat → files_doubt_of now calls beat ≡ now
files_doubt_now now [] beat lt = refl
files_doubt_now now (call ∷ calls) beat lt = grind (arith, nat_tests)

files_doubt_at_call : (now : Doubts) (call : FilesCall) (calls : List FilesCall) (beat : ℕ) → call.beat ≡ beat → files_doubt_of now (call ∷ calls) beat ≡ call.within
files_doubt_at_call now call calls beat is = grind (arith, nat_tests)

files_doubt_earlier : (now : Doubts) (call : FilesCall) (calls : List FilesCall) (beat : ℕ) → beat < call.beat → files_doubt_of now (call ∷ calls) beat ≡ files_doubt_of call.before calls beat
files_doubt_earlier now call calls beat lt = grind (arith, nat_tests)

-- nothing was done, whatever the beat is now
pub files_moments_none : (before after : FilesState) (from : ℕ) (P : FileMap → Type 0) → after ≡ before → files_last_of before.calls ≤ from → ((image : FileMap) → IsShelfImage before.shelf.doubt image → P image) → Moments (FilesLeftAt before) (FilesLeftAt after) from P
files_moments_none before after from P same order has = subst (λ (state : FilesState). Moments (FilesLeftAt before) (FilesLeftAt state) from P) (sym same) (record {
  earlier = λ beat image le left. left;
  still = λ beat image le left. left;
  later = λ beat image lt left. has image (subst (λ (doubt : Doubts). IsShelfImage doubt image) (files_doubt_now before.shelf.doubt before.calls beat (omega arith)) left);
})

-- one changing call was made
pub files_moments_call : (before : FilesState) (call : FilesCall) (after : FilesState) (from : ℕ) (P : FileMap → Type 0) → after.calls ≡ call ∷ before.calls → call.before ≡ before.shelf.doubt → call.beat ≡ from + 1
    → ((image : FileMap) → IsShelfImage call.within image → P image) → ((image : FileMap) → IsShelfImage after.shelf.doubt image → P image) → Moments (FilesLeftAt before) (FilesLeftAt after) from P
files_moments_call before call after from P calls doubt order within now = record {
  earlier = λ beat image le left. subst (λ (doubt : Doubts). IsShelfImage doubt image) (past beat le) left;
  still = λ beat image le left. subst (λ (doubt : Doubts). IsShelfImage doubt image) (sym (past beat le)) left;
  later = λ beat image lt left. ⊎_elim
      (λ is. within image (subst (λ (doubt : Doubts). IsShelfImage doubt image) (ap (λ (l : List FilesCall). files_doubt_of after.shelf.doubt l beat) calls ∙ files_doubt_at_call after.shelf.doubt call before.calls beat is) left))
      (λ isnt. now image (subst (λ (doubt : Doubts). IsShelfImage doubt image) (ap (λ (l : List FilesCall). files_doubt_of after.shelf.doubt l beat) calls ∙ files_doubt_now after.shelf.doubt (call ∷ before.calls) beat (omega arith)) left))
      (cases_eq call.beat beat);
}
  where
    past : (beat : ℕ) → beat ≤ from → files_doubt_of after.shelf.doubt after.calls beat ≡ files_doubt_of before.shelf.doubt before.calls beat
    past beat le = ap (λ (l : List FilesCall). files_doubt_of after.shelf.doubt l beat) calls ∙ files_doubt_earlier after.shelf.doubt call before.calls beat (omega arith) ∙ ap (λ (d : Doubts). files_doubt_of d before.calls beat) doubt

-- a change was done
pub files_moments_did : (change : FileChange) (from to : ℕ) (before after : FilesState) (P : FileMap → Type 0) → after ≡ files_did change to before → from < to → to ≡ next from
    → ((image : FileMap) → IsShelfImage (within change before.shelf) image → P image) → ((image : FileMap) → IsShelfImage after.shelf.doubt image → P image) → Moments (FilesLeftAt before) (FilesLeftAt after) from P
files_moments_did change from to before after P is lt raised within now =
    files_moments_call before (call_of change to before.shelf) after from P (ap (λ (s : FilesState). s.calls) is) refl (omega arith) within now

-- a change was begun
pub files_moments_begun : (change : FileChange) (from to : ℕ) (before after : FilesState) (P : FileMap → Type 0) → FilesWereBegun change to before after → from < to → to ≡ next from
    → ((image : FileMap) → IsShelfImage (within change before.shelf) image → P image) → Moments (FilesLeftAt before) (FilesLeftAt after) from P
files_moments_begun change from to before after P is lt raised within =
    files_moments_call before (call_of change to before.shelf) after from P is.calls refl (omega arith) within (λ image left. within image (subst (λ (doubt : Doubts). IsShelfImage doubt image) is.doubt left))
