-- Labels, with their range asked for.
use Rattle.std.proofs.Common.{◌≡◌, ℕ, Bool, true, false, List, Option, Some, None, Result, Ok, Err, refl, sym, ap, if◌then◌else◌}
use Rattle.cd_ast.specs.declared.fault.FaultName.{FaultName}
use Rattle.cd_ast.specs.declared.fault.FaultName.TheVariants.{Range}
use Rattle.cd_types.specs.Label.{label_of, is_label}
use Rattle.cd_types.specs.Symbols.{upper_case}
use Rattle.cd_grammar.specs.declared.token.Key.{Key}
use Rattle.cd_grammar.specs.Answers.{taken, ranged}
use Rattle.cd_grammar.specs.Values.{label_in, is_own}

-- what a test of the form makes of a name
chosen : Bool → List ℕ → Option (List ℕ)
chosen b x = if b then Some x else None

some_ranged : (b : Bool) (x l : List ℕ) → chosen b x ≡ Some l → taken true (ranged b x) ≡ Ok l
unfolding chosen
some_ranged true x l e = let same : x ≡ l = cc in ap (λ (name : List ℕ). Ok name) same
some_ranged false x l e = absurd cc

none_ranged : (b : Bool) (x : List ℕ) → chosen b x ≡ None → taken true (ranged b x) ≡ Err Range
unfolding chosen
none_ranged true x e = absurd cc
none_ranged false x e = refl

pub label_some : (k : Key) (word l : List ℕ) → is_own k ≡ false → label_of word ≡ Some l → taken true (label_in k word) ≡ Ok l
unfolding label_in chosen
label_some k word l own e = rw own (some_ranged (is_label (upper_case word)) (upper_case word) l e)

pub label_none : (k : Key) (word : List ℕ) → is_own k ≡ false → label_of word ≡ None → taken true (label_in k word) ≡ Err Range
unfolding label_in chosen
label_none k word own e = rw own (none_ranged (is_label (upper_case word)) (upper_case word) e)
