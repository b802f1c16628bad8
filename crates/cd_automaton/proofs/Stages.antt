-- Where reading stands in a whole text, its first two words included, and how it goes over tokens.
use Rattle.std.proofs.Common.{◌≡◌, ℕ, List, [], ◌∷◌, ◌++◌, Result, Ok, Err, refl}
use Rattle.cd_ast.specs.declared.fault.FaultName.{FaultName}
use Rattle.cd_grammar.specs.declared.token.Key.TheVariants as key
use Rattle.cd_grammar.specs.declared.token.Token.{Token}
use Rattle.cd_grammar.specs.declared.token.Token.TheVariants.{Word, Quoted, Mark}
use Rattle.cd_grammar.specs.declared.step.Step.TheVariants as step
use Rattle.cd_grammar.specs.Answers.{Strictness, taken}
use Rattle.cd_grammar.specs.Values.{label_in}
use Rattle.cd_grammar.specs.Given.{nothing}
use Rattle.cd_grammar.specs.Reading.{Reading, named}
use Rattle.cd_grammar.specs.Later.{Found}
use Rattle.cd_automaton.specs.State.{State, At}
use Rattle.cd_automaton.specs.Machine.{Turn, with_place, unexpected, next, at_end, bind_turn, run, titled, whole}

-- before the text, behind its name, and behind PROCESS
pub data Stage : Type 0 where
  Fresh : Stage
  Titled : List ℕ → Stage
  Reads : Reading → State → Stage

abbrev pub Step : Type 0
Step = Result Stage Found

abbrev pub ok : Stage → Step
ok st = Ok st

abbrev pub staged : Turn → Step
staged (Ok x) = Ok (Reads x.0 x.1)
staged (Err f) = Err f

abbrev pub fresh_step : Strictness → Token → Step
fresh_step how (Word at k word) = with_place at (taken (how.ranges at) (label_in k word)) (λ name. Titled name)
fresh_step how (Quoted at text) = unexpected at
fresh_step how (Mark at g) = unexpected at

abbrev pub titled_step : List ℕ → Token → Step
titled_step name (Word at key.Process word) = Ok (Reads (named name) (At (step.Head nothing)))
titled_step name (Word at _ word) = unexpected at
titled_step name (Quoted at text) = unexpected at
titled_step name (Mark at g) = unexpected at

-- one token
abbrev pub step_of : Strictness → Stage → Token → Step
step_of how Fresh t = fresh_step how t
step_of how (Titled name) t = titled_step name t
step_of how (Reads r s) t = staged (next how r s t)

abbrev pub ending : ℕ → Stage → Result Reading Found
ending len Fresh = unexpected len
ending len (Titled name) = unexpected len
ending len (Reads r s) = at_end len r s

abbrev pub then_step : Step → (Stage → Step) → Step
then_step (Ok st) f = f st
then_step (Err fault) f = Err fault

abbrev pub walk : Strictness → Stage → List Token → Step
walk how st [] = Ok st
walk how st (t ∷ ts) = then_step (step_of how st t) (λ st2. walk how st2 ts)

abbrev pub ended_at : ℕ → Step → Result Reading Found
ended_at len (Ok st) = ending len st
ended_at len (Err fault) = Err fault

module _ (how : Strictness) (len : ℕ) where
  run_by : (ts : List Token) (x : Turn) → ((r : Reading) (s : State) → run how len r s ts ≡ ended_at len (walk how (Reads r s) ts))
      → bind_turn x (λ r s. run how len r s ts) ≡ ended_at len (then_step (staged x) (λ st. walk how st ts))
  run_by ts (Ok x) f = f x.0 x.1
  run_by ts (Err fault) f = refl

  pub run_walk : (ts : List Token) (r : Reading) (s : State) → run how len r s ts ≡ ended_at len (walk how (Reads r s) ts)
  unfolding run
  run_walk [] r s = refl
  run_walk (t ∷ ts) r s = run_by ts (next how r s t) (λ r2 s2. run_walk ts r2 s2)

  titled_walk : (x : Result (List ℕ) FaultName) (at : ℕ) (ts : List Token)
      → titled how len x at ts ≡ ended_at len (then_step (with_place at x (λ name. Titled name)) (λ st. walk how st ts))
  titled_walk (Err name) at ts = refl
  titled_walk (Ok name) at [] = refl
  titled_walk (Ok name) at (Word at2 key.Process word ∷ ts) = run_walk ts (named name) (At (step.Head nothing))
  titled_walk (Ok name) at (Word at2 _ word ∷ ts) = refl
  titled_walk (Ok name) at (Quoted at2 text ∷ ts) = refl
  titled_walk (Ok name) at (Mark at2 g ∷ ts) = refl

  -- a whole text is a walk from its begin
  pub whole_walk : (ts : List Token) → whole how len ts ≡ ended_at len (walk how Fresh ts)
  unfolding whole
  whole_walk [] = refl
  whole_walk (Word at k word ∷ ts) = titled_walk (taken (how.ranges at) (label_in k word)) at ts
  whole_walk (Quoted at text ∷ ts) = refl
  whole_walk (Mark at g ∷ ts) = refl

-- a walk over more tokens
pub walk_more : (how : Strictness) (st : Stage) (before ts : List Token) → walk how st (before ++ ts) ≡ then_step (walk how st before) (λ st2. walk how st2 ts)
walk_more how st [] ts = refl
walk_more how st (t ∷ before) ts = by_step (step_of how st t) (λ st2. walk_more how st2 before ts)
  where
    by_step : (x : Step) → ((st2 : Stage) → walk how st2 (before ++ ts) ≡ then_step (walk how st2 before) (λ st3. walk how st3 ts))
        → then_step x (λ st2. walk how st2 (before ++ ts)) ≡ then_step (then_step x (λ st2. walk how st2 before)) (λ st3. walk how st3 ts)
    by_step (Ok st2) f = f st2
    by_step (Err fault) f = refl
