-- A front of a file that no crash can take: what is asked of the doubt of its name, and which changes keep it.
use Rattle.std.specs.Prelude.{◌≡◌, ℕ, ◌≤◌, List, [], ◌∷◌, length, take, Option, Some, true, false}
use Rattle.cd_outside.specs.Shelf.{FileDoubt, FileChange, WriteFile, CutFile, SyncFile, RemoveFile}

-- there is a file, and it begins with these bytes
pub record BeginsWith (front : List ℕ) (file : Option (List ℕ)) : Type 0 where
  pub bytes : List ℕ
  pub is : file ≡ Some bytes
  pub begins : take (length front) bytes ≡ front

-- each write began behind the front
abbrev pub AreBehind : ℕ → List (ℕ × ℕ) → Type 0
AreBehind n [] = Unit {0}
AreBehind n (range ∷ ranges) = (n ≤ range.0) × AreBehind n ranges

-- the file stood at the last sync and wasn't removed since, it began with the front then, and neither a cut nor a write
-- touched the front since
pub record IsGuarded (front : List ℕ) (doubt : FileDoubt) : Type 0 where
  pub there : doubt.there ≡ true
  pub stays : doubt.moved ≡ false
  pub long : length front ≤ doubt.bytes.least
  pub base : take (length front) doubt.bytes.base ≡ front
  pub behind : AreBehind (length front) doubt.bytes.ranges

-- a change behind so many bytes
abbrev pub KeepsFront : ℕ → FileChange → Type 0
KeepsFront n (WriteFile name at bytes) = n ≤ at
KeepsFront n (CutFile name len) = n ≤ len
KeepsFront n (SyncFile name) = Unit {0}
KeepsFront n (RemoveFile name) = ⊥
