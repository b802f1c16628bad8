-- The lines of files, one after another.
use Rattle.std.proofs.Common.{◌≡◌, ◌⊎◌, inl, inr, ◌<◌, ◌≤◌, ℕ, suc, ◌+◌, List, [], ◌∷◌, ◌++◌, drop, length, get_or, Bool, true, false, Option, Some, None, refl, sym, ap, subst, ◌∙◌, arith, append_assoc}
use Rattle.std.specs.Prelude.{slice_get}
use Rattle.std.proofs.Math.Seq.{drop-cons}
use Rattle.std.proofs.lemmas.List.{append-nil, drop_all}
use Rattle.std.proofs.lemmas.Option.{slice_get_within, get_or_from_slice_get, slice_get_cases}
use Rattle.cd_drill.specs.Report.{line_of, file_lines, WroteFile, WroteOne}

-- the first of those that are left
pub next_of : (names : List (List ℕ)) (at : ℕ) (name : List ℕ) → slice_get names at ≡ Some name → drop at names ≡ name ∷ drop (at + 1) names
next_of names at name is =
    let next : suc at ≡ at + 1 = omega arith in
    drop-cons names at name (slice_get_within names at name is) ∙ ap (λ (x : List ℕ). x ∷ drop (suc at) names) (get_or_from_slice_get names at name name is)
    ∙ ap (λ (n : ℕ). name ∷ drop n names) next

-- a place that has none is behind the last one
no_some : (x : List ℕ) → None ≡ Some x → ⊥
no_some x e = cc

past_cases : (names : List (List ℕ)) (at : ℕ) → slice_get names at ≡ None
    → (((x : List ℕ) × (at < length names) × (slice_get names at ≡ Some x) × (get_or names at x ≡ x)) ⊎ ((length names ≤ at) × (slice_get names at ≡ None))) → length names ≤ at
past_cases names at is (inl there) = absurd (no_some there.0 (sym is ∙ there.2))
past_cases names at is (inr past) = past.0

past_end : (names : List (List ℕ)) (at : ℕ) → slice_get names at ≡ None → length names ≤ at
past_end names at is = past_cases names at is (slice_get_cases names at).1

-- none is left
pub none_left : (names : List (List ℕ)) (at : ℕ) → slice_get names at ≡ None → drop at names ≡ []
none_left names at is = drop_all at names (past_end names at is)

-- one more was written
pub one_written : (seen : List ℕ → Option (List ℕ)) (names : List (List ℕ)) (at : ℕ) (named : Option (List ℕ)) (before after all : List ℕ)
    → slice_get names at ≡ named → WroteFile named seen before after
    → before ++ file_lines seen (drop at names) ≡ all → after ++ file_lines seen (drop (at + 1) names) ≡ all
one_written seen names at None before after all is wrote told = absurd wrote
one_written seen names at (Some name) before after all is wrote told =
    ap (λ (t : List ℕ). t ++ file_lines seen (drop (at + 1) names)) wrote ∙ append_assoc before (line_of name (seen name)) (file_lines seen (drop (at + 1) names))
    ∙ ap (λ (rest : List (List ℕ)). before ++ file_lines seen rest) (sym (next_of names at name is)) ∙ told

-- by what was answered
pub more_written : (seen : List ℕ → Option (List ℕ)) (names : List (List ℕ)) (at : ℕ) (there : Bool) (before after all : List ℕ)
    → WroteOne there (slice_get names at) seen before after → there ≡ true
    → before ++ file_lines seen (drop at names) ≡ all → after ++ file_lines seen (drop (at + 1) names) ≡ all
more_written seen names at there before after all wrote is told =
    one_written seen names at (slice_get names at) before after all refl (subst (λ (t : Bool). WroteOne t (slice_get names at) seen before after) is wrote) told

-- all were written
pub all_written : (seen : List ℕ → Option (List ℕ)) (names : List (List ℕ)) (at : ℕ) (before all : List ℕ)
    → slice_get names at ≡ None → before ++ file_lines seen (drop at names) ≡ all → before ≡ all
all_written seen names at before all is told =
    sym (append-nil before) ∙ ap (λ (rest : List (List ℕ)). before ++ file_lines seen rest) (sym (none_left names at is)) ∙ told

pub all_told : (seen : List ℕ → Option (List ℕ)) (names : List (List ℕ)) (at : ℕ) (there : Bool) (before after all : List ℕ)
    → WroteOne there (slice_get names at) seen before after → there ≡ false
    → before ++ file_lines seen (drop at names) ≡ all → after ≡ all
all_told seen names at there before after all wrote is told =
    let none = subst (λ (t : Bool). WroteOne t (slice_get names at) seen before after) is wrote in
    none.1 ∙ all_written seen names at before all none.0 told
