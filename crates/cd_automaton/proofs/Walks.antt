-- From what the grammar allows to runs of the machine.
use Rattle.std.proofs.Common.{◌≡◌, ℕ, List, [], ◌∷◌, ◌++◌, true, Result, Ok, Err, refl, ◌∙◌}
use Rattle.cd_grammar.specs.declared.token.Token.{Token}
use Rattle.cd_grammar.specs.Answers.{Strictness, strict}
use Rattle.cd_grammar.specs.Tokens.{place_of}
use Rattle.cd_grammar.specs.Reading.{Reading}
use Rattle.cd_grammar.specs.Later.{Found}
use Rattle.cd_grammar.specs.Faults.{IsRead}
use Rattle.cd_automaton.specs.Placed.{IsKeyed, AreKeyed}
use Rattle.cd_automaton.specs.State.{State, Ended, Closed}
use Rattle.cd_automaton.specs.Machine.{at_end, whole}
use Rattle.cd_automaton.proofs.Stages.{Stage, Fresh, Titled, Reads, step_of, ending, then_step, walk, ended_at, whole_walk}
use Rattle.cd_automaton.proofs.Stages as stages
use Rattle.cd_automaton.proofs.Complete.{OnStage, Passes, complete}

end_anywhere : (len : ℕ) (r : Reading) (s : State) (all : Reading) → at_end 0 r s ≡ Ok all → at_end len r s ≡ Ok all
end_anywhere len r Ended all e = e
end_anywhere len r Closed all e = e
end_anywhere len r _ all e = absurd cc

pub ending_anywhere : (len : ℕ) (st : Stage) (all : Reading) → ending 0 st ≡ Ok all → ending len st ≡ Ok all
ending_anywhere len Fresh all e = absurd cc
ending_anywhere len (Titled name) all e = absurd cc
ending_anywhere len (Reads r s) all e = end_anywhere len r s all e

module _ (how : Strictness) where
  by_stage : (len : ℕ) (ts : List Token) (all : Reading) (x : stages.Step) (P : Stage → Type 0) → OnStage x P → ((st : Stage) → P st → ended_at len (walk how st ts) ≡ Ok all)
      → ended_at len (then_step x (λ st. walk how st ts)) ≡ Ok all
  by_stage len ts all (Ok st) P h f = f st h
  by_stage len ts all (Err fault) P h f = absurd h

  -- where each range is asked for, to the end
  pub passes_all : (asks : (at : ℕ) → how.ranges at ≡ true) (len : ℕ) (st : Stage) (ts : List Token) (all : Reading) → AreKeyed ts → Passes how st ts all
      → ended_at len (walk how st ts) ≡ Ok all
  passes_all asks len st [] all keyed h = ending_anywhere len st all h
  passes_all asks len st (t ∷ ts) all keyed h = by_stage len ts all (step_of how st t) (λ st2. how.ranges (place_of t) ≡ true → Passes how st2 ts all) (h keyed.0)
      (λ st2 h2. passes_all asks len st2 ts all keyed.1 (h2 (asks (place_of t))))

  -- each range of these is asked for
  abbrev pub Asks : List Token → Type 0
  Asks [] = Unit {0}
  Asks (t ∷ ts) = (how.ranges (place_of t) ≡ true) × Asks ts

  -- the machine goes over tokens, and then over one more
  pub record Over (st : Stage) (before : List Token) (t : Token) : Type 0 where
    pub at : Stage
    pub next : Stage
    pub walked : walk how st before ≡ Ok at
    pub stepped : step_of how at t ≡ Ok next

  last : (st : Stage) (t : Token) (x : stages.Step) (P : Stage → Type 0) → step_of how st t ≡ x → OnStage x P → Over st [] t
  last st t (Ok st2) P e h = record { at = st; next = st2; walked = refl; stepped = e }
  last st t (Err fault) P e h = absurd h

  over_more : (st : Stage) (t0 : Token) (before : List Token) (t : Token) (x : stages.Step) (P : Stage → Type 0) → step_of how st t0 ≡ x → OnStage x P
      → ((st2 : Stage) → P st2 → Over st2 before t) → Over st (t0 ∷ before) t
  over_more st t0 before t (Ok st2) P e h f =
      let rest : Over st2 before t = f st2 h in
      record { at = rest.at; next = rest.next; walked = rw e rest.walked; stepped = rest.stepped }
  over_more st t0 before t (Err fault) P e h f = absurd h

  pub passes_over : (st : Stage) (before : List Token) (t : Token) (more : List Token) (all : Reading) → AreKeyed before → Asks before → IsKeyed t
      → Passes how st (before ++ t ∷ more) all → Over st before t
  passes_over st [] t more all keyed asks keyed2 h = last st t (step_of how st t) (λ st2. how.ranges (place_of t) ≡ true → Passes how st2 more all) refl (h keyed2)
  passes_over st (t0 ∷ before) t more all keyed asks keyed2 h = over_more st t0 before t (step_of how st t0) (λ st2. how.ranges (place_of t0) ≡ true → Passes how st2 (before ++ t ∷ more) all) refl (h keyed.0)
      (λ st2 h2. passes_over st2 before t more all keyed.1 asks.1 keyed2 (h2 asks.0))

-- what is in the grammar the machine reads
pub read_whole : (how : Strictness) (len : ℕ) (ts : List Token) (all : Reading) → ((at : ℕ) → how.ranges at ≡ true) → AreKeyed ts → IsRead how ts all → whole how len ts ≡ Ok all
read_whole how len ts all asks keyed read = whole_walk how len ts ∙ passes_all how asks len Fresh ts all keyed (complete how read).holds

same_reading : (one other : Reading) (x : Result Reading Found) → x ≡ Ok one → x ≡ Ok other → one ≡ other
same_reading one other x e e2 = cc

-- so it is read in one way
pub read_once : (ts : List Token) (one other : Reading) → AreKeyed ts → IsRead strict ts one → IsRead strict ts other → one ≡ other
read_once ts one other keyed a b = same_reading one other (whole strict 0 ts) (read_whole strict 0 ts one (λ at. refl) keyed a) (read_whole strict 0 ts other (λ at. refl) keyed b)
