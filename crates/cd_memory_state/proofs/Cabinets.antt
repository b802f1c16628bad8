-- The files of a cabinet after a change of one of them.
use Rattle.std.proofs.Common.{◌≡◌, ℕ, ◌+◌, ◌<◌, ◌≤◌, zero, suc, Bool, true, false, List, [], ◌∷◌, ◌++◌, length, drop, get_or, Some, None, refl, sym, ◌∙◌, ap, arith}
use Rattle.std.proofs.Math.ListN.{set}
use Rattle.std.specs.Prelude.{Option, if◌then◌else◌}
use Rattle.std.specs.Str.{bytes_eq}
use Rattle.std.specs.List.{insert}
use Rattle.std.proofs.lemmas.List.{drop_all, append-nil}
use Rattle.std.proofs.lemmas.List.Edits.{get_or-insert_at}
use Rattle.std.proofs.lemmas.Slice.Eq.{bytes_eq-Decides}
use Rattle.cd_outside.specs.Content.{overwritten}
use Rattle.cd_outside.specs.Shelf.{FileMap, content_of, put}
use Rattle.cd_memory_state.specs.Cabinet.{file_under}
use Rattle.cd_memory_state.specs.Names.{has_name, IsAt}
use Rattle.cd_memory_state.proofs.Named.{file_at, file_set, file_insert, file_none}

-- what was there is put again
pub put_again : (files : FileMap) (name : List ℕ) (file : Option (List ℕ)) → files name ≡ file → files ≡ put name file files
put_again files name file is = λ j other. one (bytes_eq name other) other refl j
  where
    one : (t : Bool) (other : List ℕ) → bytes_eq name other ≡ t → files other ≡ (if bytes_eq name other then file else files other)
    one true other same = sym (ap files ((bytes_eq-Decides name other).0 same)) ∙ is ∙ sym (ap (λ (t : Bool). if t then file else files other) same)
    one false other apart = sym (ap (λ (t : Bool). if t then file else files other) apart)

put_over : (files : FileMap) (name : List ℕ) (one two : Option (List ℕ)) → put name two (put name one files) ≡ put name two files
put_over files name one two = λ j other. cases (bytes_eq name other) other j
  where
    cases : (t : Bool) (other : List ℕ) → (if t then two else (if t then one else files other)) ≡ (if t then two else files other)
    cases true other = refl
    cases false other = refl

-- the file of a name was made or found, and then changed
module _ (names files : List (List ℕ)) (name : List ℕ) (i : ℕ) (old : FileMap) (file : List ℕ) (long : length files ≡ length names) (at : IsAt names name i) (made : file_under names files ≡ put name (Some file) old) where
  pub file_is : get_or files i [] ≡ file
  file_is =
      sym (ap content_of (file_at names files name i long at)) ∙ ap (λ (f : FileMap). content_of (f name)) made
      ∙ ap (λ (t : Bool). content_of (if t then Some file else old name)) ((bytes_eq-Decides name name).1 refl)

  pub changed_to : (new : List ℕ) → file_under names (set files i new) ≡ put name (Some new) old
  changed_to new =
      (λ j other. file_set names files name i new long at other j)
      ∙ ap (put name (Some new)) made
      ∙ put_over old name (Some file) (Some new)

-- a name was put in with a file without bytes
pub made_new : (names files : List (List ℕ)) (name : List ℕ) (i : ℕ) → length files ≡ length names → i ≤ length names → has_name names name ≡ false
    → file_under (insert names i name) (insert files i []) ≡ put name (Some (content_of (file_under names files name))) (file_under names files)
made_new names files name i long within absent =
    (λ j other. file_insert names files name i [] long within absent other j)
    ∙ ap (λ (f : Option (List ℕ)). put name (Some (content_of f)) (file_under names files)) (sym (file_none names files name absent))

set-insert : (names : List (List ℕ)) (i : ℕ) (one two : List ℕ) → i ≤ length names → set (insert names i one) i two ≡ insert names i two
set-insert names zero one two within = refl
set-insert [] (suc i) one two within = absurd (omega arith)
set-insert (first ∷ names) (suc i) one two within = ap (λ (l : List (List ℕ)). first ∷ l) (set-insert names i one two (omega arith))

over_none : (bytes : List ℕ) → overwritten 0 bytes [] ≡ bytes
over_none bytes = ap (λ (l : List ℕ). bytes ++ l) (drop_all (0 + length bytes) [] (omega arith)) ∙ append-nil bytes

-- the name was written into its place
pub name_put : (names : List (List ℕ)) (i : ℕ) (name : List ℕ) → i ≤ length names → set (insert names i []) i (overwritten 0 name (get_or (insert names i []) i [])) ≡ insert names i name
name_put names i name within =
    ap (λ (l : List ℕ). set (insert names i []) i (overwritten 0 name l)) (get_or-insert_at names i [] [] within)
    ∙ ap (set (insert names i []) i) (over_none name)
    ∙ set-insert names i [] name within

-- bytes were written under a name that was removed
pub put_new : (files : FileMap) (name bytes : List ℕ) → put name (Some (overwritten 0 bytes (content_of (put name None files name)))) (put name None files) ≡ put name (Some bytes) files
put_new files name bytes =
    let gone : put name None files name ≡ None = ap (λ (t : Bool). if t then None else files name) ((bytes_eq-Decides name name).1 refl) in
    ap (λ (f : Option (List ℕ)). put name (Some (overwritten 0 bytes (content_of f))) (put name None files)) gone
    ∙ ap (λ (l : List ℕ). put name (Some l) (put name None files)) (over_none bytes)
    ∙ put_over files name None (Some bytes)
