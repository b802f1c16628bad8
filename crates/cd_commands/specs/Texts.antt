-- The Process that a text says, or its first fault, as a function.
use Rattle.std.specs.Prelude.{ℕ, List, [], ◌∷◌, length, Bool, ◌&&◌, ◌||◌, ◌==◌, nat_lt, nat_le, Option, Some, None, Result, Ok, Err, if◌then◌else◌}
use Rattle.cd_ast.specs.declared.fault.FaultName.TheVariants.{TooLong, Unresolved}
use Rattle.cd_ast.specs.declared.process.Process.{Process}
use Rattle.cd_ast.specs.Tokens.{flaw_of}
use Rattle.cd_grammar.specs.Answers.{strict}
use Rattle.cd_grammar.specs.Faults.{longest_plain, longest_text, process_of, resolved}
use Rattle.cd_grammar.specs.Later.{Found, late_faults, rank}
use Rattle.cd_grammar.specs.Reading.{Reading}
use Rattle.cd_grammar.specs.Tokens.{tokens_of}
use Rattle.cd_automaton.specs.Machine.{whole}

-- a fault stands before another; or at its place, and is not of a higher rank
abbrev pub is_sooner : Found → Found → Bool
is_sooner f g = nat_lt f.1 g.1 || (f.1 == g.1 && nat_le (rank f.0) (rank g.0))

-- of two faults that which is told
abbrev pub sooner : Found → Found → Found
sooner f g = if is_sooner f g then f else g

-- of a fault and others that which is told
unfoldable pub soonest : Found → List Found → Found
soonest f [] = f
soonest f (g ∷ faults) = sooner f (soonest g faults)

-- what a reading says: its Process, or the first of what is wrong with it
abbrev pub meant : Reading → List Found → Result Process Found
meant all [] = Ok (process_of all)
meant all (f ∷ faults) = Err (soonest f faults)

-- what tokens say, or where they leave the grammar
abbrev pub of_tokens : Result Reading Found → Result Process Found
of_tokens (Ok all) = meant all (late_faults all)
of_tokens (Err f) = Err f

-- the first fault of a text's bytes, or else what its tokens say
abbrev pub of_bytes : Option Found → Result Reading Found → Result Process Found
of_bytes (Some f) tokens = Err f
of_bytes None tokens = of_tokens tokens

-- what a text says, read as it stands, or its first fault
unfoldable pub read_plain : List ℕ → Result Process Found
read_plain text =
    if nat_lt longest_plain (length text) then Err (TooLong, length text)
    else of_bytes (flaw_of text) (whole strict (length text) (tokens_of text))

-- what comes of a text by substitution, read as it stands, where it isn't too long
abbrev pub read_fitting : List ℕ → Result Process Found
read_fitting plain = if nat_lt longest_text (length plain) then Err (TooLong, length plain) else read_plain plain

-- what a text says after substitution, which may find a reference that has no value
abbrev pub read_resolved : Result (List ℕ) ℕ → Result Process Found
read_resolved (Ok plain) = read_fitting plain
read_resolved (Err at) = Err (Unresolved, at)

-- what a text says with these values of names in place of its own and behind them, or its first fault
unfoldable pub read_as : List ℕ → List (List ℕ × List ℕ) → Result Process Found
read_as text overrides = if nat_lt longest_text (length text) then Err (TooLong, length text) else read_resolved (resolved text overrides)
