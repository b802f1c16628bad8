-- A change of files that was done, but failed, is one that was begun.
use Rattle.std.proofs.Common.{◌≡◌, ℕ, ◌+◌, ◌<◌, ◌≤◌, List, Bool, true, false, refl, ◌∙◌, ap, subst, sym, inr, arith}
use Rattle.std.specs.Prelude.{Option, Some, None, if◌then◌else◌}
use borrow.Author.Tests.{ltb-true}
use Rattle.std.specs.Str.{bytes_eq}
use Rattle.cd_outside.specs.Counts.{next}
use Rattle.cd_outside.specs.Shelf.{FileChange, WriteFile, CutFile, RemoveFile, name_of, changed, within}
use Rattle.cd_memory.specs.Stops.{can_raise, fate_of}
use Rattle.cd_memory.specs.declared.fate.Fate.{Fate}
use Rattle.cd_memory.specs.declared.fate.Fate.TheVariants.{Nothing}
use Rattle.cd_outside.specs.Files.{FilesState, files_last_of, files_did, FilesWereBegun, FilesWereCutOff}

begun : (change : FileChange) (beat : ℕ) (before after : FilesState) → ((other : List ℕ) → bytes_eq (name_of change) other ≡ false → (changed change before.shelf).seen other ≡ before.shelf.seen other) → (changed change before.shelf).doubt ≡ within change before.shelf
    → after ≡ files_did change beat before → FilesWereBegun change beat before after
begun change beat before after others doubt is = record {
  others = λ other apart. ap (λ (s : FilesState). s.shelf.seen other) is ∙ others other apart;
  doubt = ap (λ (s : FilesState). s.shelf.doubt) is ∙ doubt;
  calls = ap (λ (s : FilesState). s.calls) is;
}

kept : (b : Bool) (x y : Option (List ℕ)) → b ≡ false → (if b then x else y) ≡ y
kept b x y is = rw is refl

pub write_begun : (name : List ℕ) (at : ℕ) (bytes : List ℕ) (from to : ℕ) (before after : FilesState) → from < to → after ≡ files_did (WriteFile name at bytes) to before → FilesWereCutOff (WriteFile name at bytes) from to before after
write_begun name at bytes from to before after raised is = inr (raised, begun (WriteFile name at bytes) to before after (λ other apart. kept (bytes_eq name other) _ _ apart) refl is)

pub cut_begun : (name : List ℕ) (len from to : ℕ) (before after : FilesState) → from < to → after ≡ files_did (CutFile name len) to before → FilesWereCutOff (CutFile name len) from to before after
cut_begun name len from to before after raised is = inr (raised, begun (CutFile name len) to before after (λ other apart. kept (bytes_eq name other) _ _ apart) refl is)

pub remove_begun : (name : List ℕ) (from to : ℕ) (before after : FilesState) → from < to → after ≡ files_did (RemoveFile name) to before → FilesWereCutOff (RemoveFile name) from to before after
remove_begun name from to before after raised is = inr (raised, begun (RemoveFile name) to before after (λ other apart. kept (bytes_eq name other) _ _ apart) refl is)

pub last_is : (change : FileChange) (beat : ℕ) (before after : FilesState) → after ≡ files_did change beat before → files_last_of after.calls ≤ beat
last_is change beat before after is = subst (λ (s : FilesState). files_last_of s.calls ≤ beat) (sym is) (omega arith)

-- a call that comes to something raised the beat
raised_cases : (at : Option ℕ) (beat to : ℕ) (fails b : Bool) (fate : Fate) → can_raise beat ≡ b → fate ≡ fate_of at beat fails → (fate ≡ Nothing → ⊥) → to ≡ next beat → beat < to
raised_cases at beat to fails true fate can is something next_is = let below : beat + 1 < 18446744073709551616 = ltb-true (beat + 1) 18446744073709551616 can in omega arith
raised_cases None beat to fails false fate can is something next_is = absurd (something (is ∙ rw can refl))
raised_cases (Some at) beat to fails false fate can is something next_is = absurd (something (is ∙ rw can refl))

pub raised_is : (at : Option ℕ) (beat to : ℕ) (fails : Bool) (fate : Fate) → fate ≡ fate_of at beat fails → (fate ≡ Nothing → ⊥) → to ≡ next beat → beat < to
raised_is at beat to fails fate = raised_cases at beat to fails (can_raise beat) fate refl
