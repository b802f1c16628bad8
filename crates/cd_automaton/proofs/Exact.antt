-- The fault that the machine answers is the first that a text has.
use Rattle.std.proofs.Common.{◌≡◌, ℕ, suc, ◌≤◌, nat_lt, List, [], ◌∷◌, ◌++◌, append_assoc, Bool, true, false, Result, Ok, Err, refl, ap, sym, subst, ◌∙◌, ◌⊎◌, inl, inr, arith}
use Rattle.cd_ast.specs.declared.fault.FaultName.{FaultName}
use Rattle.cd_ast.specs.declared.fault.FaultName.TheVariants.{Unexpected, TooMany, Range}
use Rattle.cd_grammar.specs.declared.token.Key.TheVariants as key
use Rattle.cd_grammar.specs.declared.token.Token.{Token}
use Rattle.cd_grammar.specs.declared.token.Token.TheVariants.{Word, Quoted, Mark}
use Rattle.cd_grammar.specs.Answers.{Strictness, strict, uncounted, loose_from, taken}
use Rattle.cd_grammar.specs.Tokens.{place_of}
use Rattle.cd_grammar.specs.Values.{label_in}
use Rattle.cd_grammar.specs.Reading.{Reading}
use Rattle.cd_grammar.specs.Later.{Found}
use Rattle.cd_grammar.specs.Faults.{IsRead, CanGoOn, IsBadToken, unexpected, too_many, range, Leaves, at_token, at_end}
use Rattle.cd_automaton.specs.Placed.{IsKeyed, AreKeyed, Placed}
use Rattle.cd_automaton.specs.Reached.{Reached, begun, one_more}
use Rattle.cd_automaton.specs.State.{State, Named, Ended, Closed}
use Rattle.cd_automaton.specs.Machine.{Turn, whole}
use Rattle.cd_automaton.specs.Machine as machine
use Rattle.cd_automaton.proofs.Sound.{whole_sound}
use Rattle.cd_automaton.proofs.Stages.{Stage, Fresh, Titled, Reads, staged, step_of, ending, then_step, walk, walk_more, ended_at, whole_walk}
use Rattle.cd_automaton.proofs.Stages as stages
use Rattle.cd_automaton.proofs.Complete.{OnStage, Passes, complete}
use Rattle.cd_automaton.proofs.Walks.{Asks, Over, passes_over, read_whole}
use Rattle.cd_automaton.proofs.Looser.{Looser, same, unexpected_too, range_too, in_range, easier, IsAsked, next_looser}
use Rattle.cd_automaton.proofs.Looser as looser
use Rattle.cd_automaton.proofs.Good.{Good, Well, next_well}
use Rattle.cd_automaton.proofs.Viable.{Finish, GoodStage, end_stage}

-- what the machine gets to is good
abbrev WellStage : Strictness → (ℕ → Type 0) → stages.Step → Type 0
WellStage how Q (Ok st) = GoodStage how Q st
WellStage how Q (Err f) = Unit {0}

module _ (how : Strictness) (Q : ℕ → Type 0) where
  staged_well : (x : Turn) → Well how Q x → WellStage how Q (staged x)
  staged_well (Ok x) h = h
  staged_well (Err f) h = tt

  fresh_well : (at : ℕ) (x : Result (List ℕ) FaultName) → WellStage how Q (machine.with_place at x (λ name. Titled name))
  fresh_well at (Ok name) = tt
  fresh_well at (Err name) = tt

  stage_well : (st : Stage) (t : Token) → Q (place_of t) → GoodStage how Q st → WellStage how Q (step_of how st t)
  stage_well Fresh (Word at k word) q h = fresh_well at (taken (how.ranges at) (label_in k word))
  stage_well Fresh (Quoted at text) q h = tt
  stage_well Fresh (Mark at m) q h = tt
  stage_well (Titled name) (Word at key.Process word) q h = tt
  stage_well (Titled name) (Word at _ word) q h = tt
  stage_well (Titled name) (Quoted at text) q h = tt
  stage_well (Titled name) (Mark at m) q h = tt
  stage_well (Reads r s) t q h = staged_well (next_of r s t) (next_well how Q r s t q h)
    where
      next_of : Reading → State → Token → Turn
      next_of r s t = machine.next how r s t

  -- each token's place is as asked
  abbrev AllAt : List Token → Type 0
  AllAt [] = Unit {0}
  AllAt (t ∷ ts) = Q (place_of t) × AllAt ts

  walk_by : (x : stages.Step) (ts : List Token) (st2 : Stage) → WellStage how Q x → then_step x (λ st. walk how st ts) ≡ Ok st2
      → ((st : Stage) → GoodStage how Q st → walk how st ts ≡ Ok st2 → GoodStage how Q st2) → GoodStage how Q st2
  walk_by (Ok st) ts st2 h e f = f st h e
  walk_by (Err fault) ts st2 h e f = absurd cc

  ok_stage : (a b : Stage) → stages.ok a ≡ stages.ok b → a ≡ b
  ok_stage a b e = cc

  walk_well : (st : Stage) (ts : List Token) (st2 : Stage) → AllAt ts → GoodStage how Q st → walk how st ts ≡ Ok st2 → GoodStage how Q st2
  walk_well st [] st2 qs h e = subst (λ (x : Stage). GoodStage how Q x) (ok_stage st st2 e) h
  walk_well st (t ∷ ts) st2 qs h e = walk_by (step_of how st t) ts st2 (stage_well st t qs.0 h) e (λ st1 h1 e1. walk_well st1 ts st2 qs.1 h1 e1)

-- nothing is asked of a place
abbrev any_place : ℕ → Type 0
any_place at = Unit {0}

all_any : (how : Strictness) (ts : List Token) → AllAt how any_place ts
all_any how [] = tt
all_any how (t ∷ ts) = (tt, all_any how ts)

-- tokens that the machine goes over can go on
can_go : (how : Strictness) (before : List Token) (st : Stage) → walk how Fresh before ≡ Ok st → CanGoOn how before
can_go how before st e =
    let finish : Finish how st = end_stage how any_place st (walk_well how any_place Fresh before st (all_any how before) tt e) in
    let goes : whole how 0 (before ++ finish.more) ≡ Ok finish.all = whole_walk how 0 (before ++ finish.more) ∙ (ap (λ (x : stages.Step). ended_at 0 x) (walk_more how Fresh before finish.more) ∙ rw e finish.goes) in
    (finish.more, finish.all, whole_sound how 0 (before ++ finish.more) finish.all goes)

walk_one : (how : Strictness) (before : List Token) (t : Token) (st st2 : Stage) → walk how Fresh before ≡ Ok st → step_of how st t ≡ Ok st2 → walk how Fresh (before ++ t ∷ []) ≡ Ok st2
walk_one how before t st st2 e e2 = walk_more how Fresh before (t ∷ []) ∙ rw e (rw e2 refl)

-- with one more token
can_go_with : (how : Strictness) (before : List Token) (t : Token) (st st2 : Stage) → walk how Fresh before ≡ Ok st → step_of how st t ≡ Ok st2 → CanGoOn how (before ++ t ∷ [])
can_go_with how before t st st2 e e2 = can_go how (before ++ t ∷ []) st2 (walk_one how before t st st2 e e2)

one_stage : (x : stages.Step) (a b : Stage) → x ≡ Ok a → x ≡ Ok b → a ≡ b
one_stage x a b e e2 = cc

not_both : (x : stages.Step) (a : Stage) (f : Found) → x ≡ Ok a → x ≡ Err f → ⊥
not_both x a f e e2 = cc

-- a token at which the machine stops is one with which the tokens before it can't go on
cannot : (how : Strictness) (before : List Token) (t : Token) (st : Stage) (f : Found) → AreKeyed before → Asks how before → IsKeyed t → walk how Fresh before ≡ Ok st → step_of how st t ≡ Err f
    → CanGoOn how (before ++ t ∷ []) → ⊥
cannot how before t st f keyed asks keyed2 e e2 can =
    let read : IsRead how (before ++ t ∷ can.0) can.1 = subst (λ (ts : List Token). IsRead how ts can.1) (append_assoc before (t ∷ []) can.0) can.2 in
    let over : Over how Fresh before t = passes_over how Fresh before t can.0 can.1 keyed asks keyed2 (complete how read).holds in
    let here : over.at ≡ st = one_stage (walk how Fresh before) over.at st over.walked e in
    not_both (step_of how st t) over.next f (subst (λ (x : Stage). step_of how x t ≡ Ok over.next) here over.stepped) e2

-- the machine goes over what can go on
walked_by : (how : Strictness) (before : List Token) (x : stages.Step) (P : Stage → Type 0) → OnStage x P → ((st : Stage) → P st → (st2 : Stage) × (walk how st before ≡ Ok st2))
    → (st2 : Stage) × (then_step x (λ st. walk how st before) ≡ Ok st2)
walked_by how before (Ok st) P h f = f st h
walked_by how before (Err fault) P h f = absurd h

passes_walk : (how : Strictness) (st : Stage) (before more : List Token) (all : Reading) → AreKeyed before → Asks how before → Passes how st (before ++ more) all → (st2 : Stage) × (walk how st before ≡ Ok st2)
passes_walk how st [] more all keyed asks h = (st, refl)
passes_walk how st (t ∷ before) more all keyed asks h = walked_by how before (step_of how st t) (λ st2. how.ranges (place_of t) ≡ true → Passes how st2 (before ++ more) all) (h keyed.0)
    (λ st2 h2. passes_walk how st2 before more all keyed.1 asks.1 (h2 asks.0))

strict_asks : (ts : List Token) → Asks strict ts
strict_asks [] = tt
strict_asks (t ∷ ts) = (refl, strict_asks ts)

goes_over : (before : List Token) → AreKeyed before → CanGoOn strict before → (st : Stage) × (walk strict Fresh before ≡ Ok st)
goes_over before keyed can = passes_walk strict Fresh before can.0 can.1 keyed (strict_asks before) (complete strict can.2).holds

-- the same tokens where less is asked
abbrev Asked : (ℕ → Bool) → ℕ → Type 0
Asked ranges at = ranges at ≡ true

good_asked : (ranges : ℕ → Bool) (r : Reading) (s : State) → Good strict (Asked ranges) r s → IsAsked ranges s
good_asked ranges r (Named s set at k word) h = h.1
good_asked ranges r _ h = tt

by_staged : {asked : Bool} {at : ℕ} {x y : Turn} → Looser (Reading × State) asked at x y → Looser Stage asked at (staged x) (staged y)
by_staged (same x) = same (Reads x.0 x.1)
by_staged (unexpected_too f) = unexpected_too f
by_staged (range_too f e) = range_too f e
by_staged (in_range x e) = in_range (Reads x.0 x.1) e
by_staged (looser.uncounted x) = looser.uncounted (Reads x.0 x.1)

module _ (ranges : ℕ → Bool) where
  stage_looser : (st : Stage) (t : Token) → GoodStage strict (Asked ranges) st → Looser Stage (ranges (place_of t)) (place_of t) (step_of strict st t) (step_of (easier ranges) st t)
  stage_looser Fresh (Word at k word) h = looser.by_place (ranges at) at (label_in k word) (λ name. Titled name)
  stage_looser Fresh (Quoted at text) h = unexpected_too _
  stage_looser Fresh (Mark at m) h = unexpected_too _
  stage_looser (Titled name) (Word at key.Process word) h = same _
  stage_looser (Titled name) (Word at _ word) h = unexpected_too _
  stage_looser (Titled name) (Quoted at text) h = unexpected_too _
  stage_looser (Titled name) (Mark at m) h = unexpected_too _
  stage_looser (Reads r s) t h = by_staged (next_looser ranges r s t (good_asked ranges r s h))

  from_ok : {asked : Bool} {at : ℕ} {x y : stages.Step} → Looser Stage asked at x y → (st : Stage) → x ≡ Ok st → y ≡ Ok st
  from_ok (same x) st e = e
  from_ok (unexpected_too f) st e = absurd cc
  from_ok (range_too f e2) st e = absurd cc
  from_ok (in_range x e2) st e = absurd cc
  from_ok (looser.uncounted x) st e = absurd cc

  same_by : (x y : stages.Step) (ts : List Token) (st2 : Stage) → ((st : Stage) → x ≡ Ok st → y ≡ Ok st) → WellStage strict (Asked ranges) x → then_step x (λ st. walk strict st ts) ≡ Ok st2
      → ((st : Stage) → GoodStage strict (Asked ranges) st → walk strict st ts ≡ Ok st2 → walk (easier ranges) st ts ≡ Ok st2) → then_step y (λ st. walk (easier ranges) st ts) ≡ Ok st2
  same_by (Ok st) y ts st2 k h e f = rw (k st refl) (f st h e)
  same_by (Err fault) y ts st2 k h e f = absurd cc

  same_walk : (st : Stage) (ts : List Token) (st2 : Stage) → AllAt strict (Asked ranges) ts → GoodStage strict (Asked ranges) st → walk strict st ts ≡ Ok st2 → walk (easier ranges) st ts ≡ Ok st2
  same_walk st [] st2 asks h e = e
  same_walk st (t ∷ ts) st2 asks h e = same_by (step_of strict st t) (step_of (easier ranges) st t) ts st2 (λ st1 e1. from_ok (stage_looser st t h) st1 e1)
      (stage_well strict (Asked ranges) st t asks.0 h) e (λ st1 h1 e1. same_walk st1 ts st2 asks.1 h1 e1)

-- what a fault is, by what is answered where less is asked
data Kind (asked : Bool) (at : ℕ) (f : Found) (y : stages.Step) : Type 0 where
  never : (g : Found) → f ≡ (Unexpected, at) → y ≡ Err g → Kind asked at f y
  out_too : (g : Found) → f ≡ (Range, at) → asked ≡ true → y ≡ Err g → Kind asked at f y
  out : (st : Stage) → f ≡ (Range, at) → asked ≡ false → y ≡ Ok st → Kind asked at f y
  many : (st : Stage) → f ≡ (TooMany, 1024) → y ≡ Ok st → Kind asked at f y

abbrev fault : Found → stages.Step
fault f = Err f

same_fault : (f g : Found) → fault f ≡ fault g → g ≡ f
same_fault f g e = cc

kind : {asked : Bool} {at : ℕ} {x y : stages.Step} → Looser Stage asked at x y → (f : Found) → x ≡ Err f → Kind asked at f y
kind (same x) f e = absurd cc
kind (unexpected_too g) f e = never g (same_fault _ f e) refl
kind (range_too g e2) f e = out_too g (same_fault _ f e) e2 refl
kind (in_range x e2) f e = out x (same_fault _ f e) e2 refl
kind (looser.uncounted x) f e = many x (same_fault _ f e) refl

-- the names are three
apart_range : {at at2 : ℕ} (f : Found) → f ≡ (Unexpected, at) → f ≡ (Range, at2) → ⊥
apart_range f e e2 = let names : Unexpected ≡ Range = sym (ap (λ (x : Found). x.0) e) ∙ ap (λ (x : Found). x.0) e2 in cc

apart_many : {at at2 : ℕ} (f : Found) → f ≡ (Unexpected, at) → f ≡ (TooMany, at2) → ⊥
apart_many f e e2 = let names : Unexpected ≡ TooMany = sym (ap (λ (x : Found). x.0) e) ∙ ap (λ (x : Found). x.0) e2 in cc

apart_range_many : {at at2 : ℕ} (f : Found) → f ≡ (Range, at) → f ≡ (TooMany, at2) → ⊥
apart_range_many f e e2 = let names : Range ≡ TooMany = sym (ap (λ (x : Found). x.0) e) ∙ ap (λ (x : Found). x.0) e2 in cc

not_below : (at : ℕ) → nat_lt at at ≡ false
not_below at = grind arith

-- how the tokens stand around one of them
record Around (from : ℕ) (before : List Token) (t : Token) : Type 0 where
  keyed : AreKeyed before
  own : IsKeyed t
  behind : from ≤ place_of t
  below : Asks (loose_from (place_of t)) before
  asked : AllAt strict (Asked (λ at. nat_lt at (place_of t))) before

around : (from : ℕ) (before : List Token) (t : Token) (after : List Token) → Placed from (before ++ t ∷ after) → Around from before t
around from [] t after h = record { keyed = tt; own = h.1; behind = h.0; below = tt; asked = tt }
around from (t0 ∷ before) t after h =
    let rest : Around (suc (place_of t0)) before t = around (suc (place_of t0)) before t after h.2 in
    let later : suc (place_of t0) ≤ place_of t = rest.behind in
    let less : nat_lt (place_of t0) (place_of t) ≡ true = grind (arith, later) in
    let order : from ≤ place_of t0 = h.0 in
    record { keyed = (h.1, rest.keyed); own = rest.own; behind = omega arith; below = (less, rest.below); asked = (less, rest.asked) }

all_asked : (ts : List Token) → AllAt strict (Asked (λ at. true)) ts
all_asked [] = tt
all_asked (t ∷ ts) = (refl, all_asked ts)

uncounted_asks : (ts : List Token) → Asks uncounted ts
uncounted_asks [] = tt
uncounted_asks (t ∷ ts) = (refl, uncounted_asks ts)

-- where the machine stops
record Stop (before : List Token) (t : Token) (f : Found) : Type 0 where
  st : Stage
  around : Around 0 before t
  walked : walk strict Fresh before ≡ Ok st
  stopped : step_of strict st t ≡ Err f

module _ (before : List Token) (t : Token) (f : Found) (stop : Stop before t f) where
  walked_loose : walk (loose_from (place_of t)) Fresh before ≡ Ok stop.st
  walked_loose = same_walk (λ at. nat_lt at (place_of t)) Fresh before stop.st stop.around.asked tt stop.walked

  walked_uncounted : walk uncounted Fresh before ≡ Ok stop.st
  walked_uncounted = same_walk (λ at. true) Fresh before stop.st (all_asked before) tt stop.walked

  kind_loose : Kind (nat_lt (place_of t) (place_of t)) (place_of t) f (step_of (loose_from (place_of t)) stop.st t)
  kind_loose = kind (stage_looser (λ at. nat_lt at (place_of t)) stop.st t
      (walk_well strict (Asked (λ at. nat_lt at (place_of t))) Fresh before stop.st stop.around.asked tt stop.walked)) f stop.stopped

  kind_uncounted : Kind true (place_of t) f (step_of uncounted stop.st t)
  kind_uncounted = kind (stage_looser (λ at. true) stop.st t (walk_well strict (Asked (λ at. true)) Fresh before stop.st (all_asked before) tt stop.walked)) f stop.stopped

  loose_can : (st : Stage) → step_of (loose_from (place_of t)) stop.st t ≡ Ok st → CanGoOn (loose_from (place_of t)) (before ++ t ∷ [])
  loose_can st e = can_go_with (loose_from (place_of t)) before t stop.st st walked_loose e

  loose_cannot : (g : Found) → step_of (loose_from (place_of t)) stop.st t ≡ Err g → CanGoOn (loose_from (place_of t)) (before ++ t ∷ []) → ⊥
  loose_cannot g e = cannot (loose_from (place_of t)) before t stop.st g stop.around.keyed stop.around.below stop.around.own walked_loose e

  uncounted_can : (st : Stage) → step_of uncounted stop.st t ≡ Ok st → CanGoOn uncounted (before ++ t ∷ [])
  uncounted_can st e = can_go_with uncounted before t stop.st st walked_uncounted e

  uncounted_cannot : (g : Found) → step_of uncounted stop.st t ≡ Err g → CanGoOn uncounted (before ++ t ∷ []) → ⊥
  uncounted_cannot g e = cannot uncounted before t stop.st g stop.around.keyed (uncounted_asks before) stop.around.own walked_uncounted e

  -- the fault is that of the token
  bad_range : f ≡ (Range, place_of t) → CanGoOn (loose_from (place_of t)) (before ++ t ∷ []) → Kind true (place_of t) f (step_of uncounted stop.st t) → IsBadToken before t f
  bad_range e can (never g e2 e3) = absurd (apart_range f e2 e)
  bad_range e can (out_too g e2 e3 e4) = subst (λ (x : Found). IsBadToken before t x) (sym e) (range can (uncounted_cannot g e4))
  bad_range e can (out st e2 e3 e4) = absurd cc
  bad_range e can (many st e2 e3) = absurd (apart_range_many f e e2)

  bad_many : f ≡ (TooMany, 1024) → Kind true (place_of t) f (step_of uncounted stop.st t) → IsBadToken before t f
  bad_many e (never g e2 e3) = absurd (apart_many f e2 e)
  bad_many e (out_too g e2 e3 e4) = absurd (apart_range_many f e2 e)
  bad_many e (out st e2 e3 e4) = absurd (apart_range_many f e2 e)
  bad_many e (many st e2 e3) = subst (λ (x : Found). IsBadToken before t x) (sym e) (too_many (uncounted_can st e3))

  bad_by : Kind (nat_lt (place_of t) (place_of t)) (place_of t) f (step_of (loose_from (place_of t)) stop.st t) → IsBadToken before t f
  bad_by (never g e e2) = subst (λ (x : Found). IsBadToken before t x) (sym e) (unexpected (loose_cannot g e2))
  bad_by (out_too g e e2 e3) = let same2 : nat_lt (place_of t) (place_of t) ≡ false = not_below (place_of t) in absurd cc
  bad_by (out st e e2 e3) = bad_range e (loose_can st e3) kind_uncounted
  bad_by (many st e e2) = bad_many e kind_uncounted

  bad_token : IsBadToken before t f
  bad_token = bad_by kind_loose

  -- and no other
  one_range : (CanGoOn uncounted (before ++ t ∷ []) → ⊥) → CanGoOn (loose_from (place_of t)) (before ++ t ∷ []) → Kind (nat_lt (place_of t) (place_of t)) (place_of t) f (step_of (loose_from (place_of t)) stop.st t)
      → Kind true (place_of t) f (step_of uncounted stop.st t) → f ≡ (Range, place_of t)
  one_range closed can (never g e e2) other = absurd (loose_cannot g e2 can)
  one_range closed can (out_too g e e2 e3) other = e
  one_range closed can (out st e e2 e3) other = e
  one_range closed can (many st e e2) (never g e3 e4) = absurd (apart_many f e3 e)
  one_range closed can (many st e e2) (out_too g e3 e4 e5) = e3
  one_range closed can (many st e e2) (out st2 e3 e4 e5) = e3
  one_range closed can (many st e e2) (many st2 e3 e4) = absurd (closed (uncounted_can st2 e4))

  one_many : CanGoOn uncounted (before ++ t ∷ []) → Kind true (place_of t) f (step_of uncounted stop.st t) → f ≡ (TooMany, 1024)
  one_many can (never g e e2) = absurd (uncounted_cannot g e2 can)
  one_many can (out_too g e e2 e3) = absurd (uncounted_cannot g e3 can)
  one_many can (out st e e2 e3) = absurd cc
  one_many can (many st e e2) = e

  one_unexpected : (CanGoOn (loose_from (place_of t)) (before ++ t ∷ []) → ⊥) → Kind (nat_lt (place_of t) (place_of t)) (place_of t) f (step_of (loose_from (place_of t)) stop.st t) → f ≡ (Unexpected, place_of t)
  one_unexpected closed (never g e e2) = e
  one_unexpected closed (out_too g e e2 e3) = let same2 : nat_lt (place_of t) (place_of t) ≡ false = not_below (place_of t) in absurd cc
  one_unexpected closed (out st e e2 e3) = absurd (closed (loose_can st e3))
  one_unexpected closed (many st e e2) = absurd (closed (loose_can st e2))

  one_bad : {h : Found} → IsBadToken before t h → f ≡ h
  one_bad (unexpected closed) = one_unexpected closed kind_loose
  one_bad (too_many can) = one_many can kind_uncounted
  one_bad (range can closed) = one_range closed can kind_loose kind_uncounted

-- a walk that stops, stops at a token
record Stopped (from : Stage) (ts : List Token) (f : Found) : Type 0 where
  before : List Token
  t : Token
  after : List Token
  st : Stage
  is : ts ≡ before ++ t ∷ after
  walked : walk strict from before ≡ Ok st
  stopped : step_of strict st t ≡ Err f

stopped_by : (from : Stage) (t : Token) (ts : List Token) (f : Found) (x : stages.Step) → step_of strict from t ≡ x → then_step x (λ st. walk strict st ts) ≡ Err f
    → ((st : Stage) → walk strict st ts ≡ Err f → Stopped st ts f) → Stopped from (t ∷ ts) f
stopped_by from t ts f (Ok st) e e2 k =
    let rest : Stopped st ts f = k st e2 in
    record { before = t ∷ rest.before; t = rest.t; after = rest.after; st = rest.st; is = ap (λ (us : List Token). t ∷ us) rest.is; walked = rw e rest.walked; stopped = rest.stopped }
stopped_by from t ts f (Err g) e e2 k = record { before = []; t = t; after = ts; st = from; is = refl; walked = refl; stopped = e ∙ e2 }

stopped : (from : Stage) (ts : List Token) (f : Found) → walk strict from ts ≡ Err f → Stopped from ts f
stopped from [] f e = absurd cc
stopped from (t ∷ ts) f e = stopped_by from t ts f (step_of strict from t) refl e (λ st e2. stopped st ts f e2)

-- the end of a text that isn't one
abbrev failed : Found → Result Reading Found
failed x = Err x

same_err : (a b : Found) → failed a ≡ failed b → b ≡ a
same_err a b e = cc

end_fault : (len : ℕ) (r : Reading) (s : State) (f : Found) → machine.at_end len r s ≡ Err f → f ≡ (Unexpected, len)
end_fault len r Ended f e = absurd cc
end_fault len r Closed f e = absurd cc
end_fault len r _ f e = same_err (Unexpected, len) f e

ending_fault : (len : ℕ) (st : Stage) (f : Found) → ending len st ≡ Err f → f ≡ (Unexpected, len)
ending_fault len Fresh f e = same_err (Unexpected, len) f e
ending_fault len (Titled name) f e = same_err (Unexpected, len) f e
ending_fault len (Reads r s) f e = end_fault len r s f e

pub placed_keyed : (from : ℕ) (ts : List Token) → Placed from ts → AreKeyed ts
placed_keyed from [] h = tt
placed_keyed from (t ∷ ts) h = (h.1, placed_keyed (suc (place_of t)) ts h.2)

abbrev read_as : Reading → Result Reading Found
read_as all = Ok all

one_outcome : (x : Result Reading Found) (all : Reading) (f : Found) → x ≡ Ok all → x ≡ Err f → ⊥
one_outcome x all f e e2 = cc

module _ (len : ℕ) (ts : List Token) (placed : Placed 0 ts) where
  keyed : AreKeyed ts
  keyed = placed_keyed 0 ts placed

  stop_of : (before : List Token) (t : Token) (after : List Token) (st : Stage) (f : Found) → ts ≡ before ++ t ∷ after → walk strict Fresh before ≡ Ok st → step_of strict st t ≡ Err f → Stop before t f
  stop_of before t after st f e e2 e3 = record { st = st; around = around 0 before t after (subst (λ (us : List Token). Placed 0 us) e placed); walked = e2; stopped = e3 }

  by_stopped : (f : Found) → Stopped Fresh ts f → Leaves len ts f
  by_stopped f h =
      let stop : Stop h.before h.t f = stop_of h.before h.t h.after h.st f h.is h.walked h.stopped in
      at_token h.before h.after h.t h.is (can_go strict h.before h.st h.walked)
      (cannot strict h.before h.t h.st f stop.around.keyed (strict_asks h.before) stop.around.own h.walked h.stopped) (bad_token h.before h.t f stop)

  by_end : (st : Stage) (f : Found) → walk strict Fresh ts ≡ Ok st → ending len st ≡ Err f → Leaves len ts f
  by_end st f e e2 = subst (λ (x : Found). Leaves len ts x) (sym (ending_fault len st f e2))
      (at_end (can_go strict ts st e) (λ all read. one_outcome (ending len st) all f
      (sym (ap (λ (x : stages.Step). ended_at len x) e) ∙ (sym (whole_walk strict len ts) ∙ read_whole strict len ts all (λ at. refl) keyed read)) e2))

  leaves_by : (f : Found) (x : stages.Step) → walk strict Fresh ts ≡ x → ended_at len x ≡ Err f → Leaves len ts f
  leaves_by f (Ok st) e e2 = by_end st f e e2
  leaves_by f (Err g) e e2 = by_stopped f (stopped Fresh ts f (e ∙ ap fault (sym (same_err g f e2))))

  -- the fault that the machine answers is where the tokens leave the grammar
  pub fault_leaves : (f : Found) → whole strict len ts ≡ Err f → Leaves len ts f
  fault_leaves f e = leaves_by f (walk strict Fresh ts) refl (sym (whole_walk strict len ts) ∙ e)

  walk_stop : (before : List Token) (t : Token) (after : List Token) (st : Stage) (f : Found) → ts ≡ before ++ t ∷ after → walk strict Fresh before ≡ Ok st → step_of strict st t ≡ Err f
      → whole strict len ts ≡ Err f
  walk_stop before t after st f e e2 e3 =
      let here : then_step (walk strict Fresh before) (λ st2. walk strict st2 (t ∷ after)) ≡ Err f = rw e2 (rw e3 refl) in
      let all : walk strict Fresh (before ++ t ∷ after) ≡ Err f = walk_more strict Fresh before (t ∷ after) ∙ here in
      let over : walk strict Fresh ts ≡ Err f = rw e all in
      whole_walk strict len ts ∙ ap (λ (x : stages.Step). ended_at len x) over

  token_by : (before : List Token) (t : Token) (after : List Token) (st : Stage) (x : stages.Step) {f : Found} → ts ≡ before ++ t ∷ after → walk strict Fresh before ≡ Ok st → step_of strict st t ≡ x
      → (CanGoOn strict (before ++ t ∷ []) → ⊥) → IsBadToken before t f → whole strict len ts ≡ Err f
  token_by before t after st (Ok st2) e e2 e3 closed bad = absurd (closed (can_go_with strict before t st st2 e2 e3))
  token_by before t after st (Err g) e e2 e3 closed bad =
      walk_stop before t after st g e e2 e3 ∙ ap (λ (x : Found). failed x) (one_bad before t g (stop_of before t after st g e e2 e3) bad)

  end_by : (st : Stage) (x : Result Reading Found) → walk strict Fresh ts ≡ Ok st → ending len st ≡ x → ((all : Reading) → IsRead strict ts all → ⊥) → whole strict len ts ≡ Err (Unexpected, len)
  end_by st (Ok all) e e2 closed = absurd (closed all (whole_sound strict len ts all (whole_walk strict len ts ∙ (ap (λ (x : stages.Step). ended_at len x) e ∙ e2))))
  end_by st (Err g) e e2 closed = whole_walk strict len ts ∙ (ap (λ (x : stages.Step). ended_at len x) e ∙ (e2 ∙ ap (λ (x : Found). failed x) (ending_fault len st g e2)))

  -- and where they leave it, the machine answers that
  pub leaves_fault : {f : Found} → Leaves len ts f → whole strict len ts ≡ Err f
  leaves_fault (at_token before after t e can closed bad) =
      let here : Around 0 before t = around 0 before t after (subst (λ (us : List Token). Placed 0 us) e placed) in
      let over : (st : Stage) × (walk strict Fresh before ≡ Ok st) = goes_over before here.keyed can in
      token_by before t after over.0 (step_of strict over.0 t) e over.1 refl closed bad
  leaves_fault (at_end can closed) =
      let over : (st : Stage) × (walk strict Fresh ts ≡ Ok st) = goes_over ts keyed can in
      end_by over.0 (ending len over.0) over.1 refl closed

  some_by : (x : Result Reading Found) → whole strict len ts ≡ x → ((all : Reading) × IsRead strict ts all) ⊎ ((f : Found) × Leaves len ts f)
  some_by (Ok all) e = inl (all, whole_sound strict len ts all e)
  some_by (Err f) e = inr (f, fault_leaves f e)

  -- so there is one of both
  pub some_of_both : ((all : Reading) × IsRead strict ts all) ⊎ ((f : Found) × Leaves len ts f)
  some_of_both = some_by (whole strict len ts) refl

  pub not_both_of : {f : Found} (all : Reading) → IsRead strict ts all → Leaves len ts f → ⊥
  not_both_of {f} all read leaves = one_outcome (whole strict len ts) all f (read_whole strict len ts all (λ at. refl) keyed read) (leaves_fault leaves)

  pub one_fault : {f h : Found} → Leaves len ts f → Leaves len ts h → f ≡ h
  one_fault {f} {h} a b = same_err h f (sym (leaves_fault b) ∙ leaves_fault a)

reached_walk : (how : Strictness) {before : List Token} {r : Reading} {s : State} → Reached how before r s → walk how Fresh before ≡ Ok (Reads r s)
reached_walk how (begun e) = rw e refl
reached_walk how (one_more before t {r = r} {r2 = r2} {s = s} {s2 = s2} reached e) =
    walk_one how before t (Reads r s) (Reads r2 s2) (reached_walk how reached) (ap staged e)

-- what the machine gets over can go on
pub reached_goes_on : (how : Strictness) (before : List Token) (r : Reading) (s : State) → Reached how before r s → CanGoOn how before
reached_goes_on how before r s reached = can_go how before (Reads r s) (reached_walk how reached)
