-- Statements before and behind a place.
use Rattle.std.proofs.Common.{◌≡◌, ℕ, suc, ◌+◌, ◌<◌, ◌≤◌, List, [], ◌∷◌, ◌++◌, length, take, drop, get_or, Option, Some, None, refl, ap, sym, ◌∙◌, subst, add-one, append_assoc, arith, length-drop, drop-cons}
use Rattle.std.proofs.Math.Seq.{take-suc}
use Rattle.cd_grammar.specs.declared.mark.Mark.{Mark}
use Rattle.cd_grammar.specs.declared.mark.Sketch.{Sketch}
use Rattle.cd_grammar.specs.Later.{Found, doubled, wrong_here, wrong_from}
use Rattle.std.proofs.lemmas.List.{take-append-drop}
use Rattle.cd_parser.specs.Best.{IsBest, jumped}

pub around : (marks : List Mark) (i : ℕ) (this : Mark) (behind : List Mark) → i < length marks → drop i marks ≡ this ∷ behind
    → (take (i + 1) marks ≡ take i marks ++ this ∷ []) × (drop (i + 1) marks ≡ behind)
around marks i this behind lt e =
    let cut : drop i marks ≡ get_or marks i this ∷ drop (suc i) marks = drop-cons marks i this lt in
    let same : get_or marks i this ≡ this = cc in
    let rest : drop (suc i) marks ≡ behind = cc in
    let front : take (suc i) marks ≡ take i marks ++ (get_or marks i this ∷ []) = take-suc marks i this lt in
    (rw add-one (front ∙ ap (λ (mark : Mark). take i marks ++ mark ∷ []) same), rw add-one rest)

-- what is wrong from a place on, by what is wrong there and from the next place on
pub step_at : (marks : List Mark) (i : ℕ) (front : List Mark) (one best all : Option Found) → i < length marks → drop i marks ≡ front
    → ((this : Mark) (behind : List Mark) → drop i marks ≡ this ∷ behind → IsBest one (doubled (take i marks) this.label ++ wrong_here (take i marks) this behind this.what))
    → ((xs ys : List Found) → IsBest one xs → IsBest best ys → IsBest all (xs ++ ys))
    → IsBest best (wrong_from (take (i + 1) marks) (drop (i + 1) marks))
    → IsBest all (wrong_from (take i marks) front)
unfolding wrong_from
step_at marks i [] one best all lt e here join rest = absurd (let none : length (drop i marks) ≡ 0 = ap length e in omega (arith, length-drop i marks))
step_at marks i (this ∷ behind) one best all lt e here join rest =
    let cut = around marks i this behind lt e in
    let P : List Mark → Type 0 = λ before. IsBest best (wrong_from before (drop (i + 1) marks)) in
    let first : IsBest best (wrong_from (take i marks ++ this ∷ []) (drop (i + 1) marks)) = subst P cut.0 rest in
    let Q : List Mark → Type 0 = λ others. IsBest best (wrong_from (take i marks ++ this ∷ []) others) in
    let tail : IsBest best (wrong_from (take i marks ++ this ∷ []) behind) = subst Q cut.1 first in
    let R : List Found → Type 0 = λ faults. IsBest all faults in
    subst R (append_assoc (doubled (take i marks) this.label) (wrong_here (take i marks) this behind this.what) (wrong_from (take i marks ++ this ∷ []) behind))
    (join (doubled (take i marks) this.label ++ wrong_here (take i marks) this behind this.what) (wrong_from (take i marks ++ this ∷ []) behind) (here this behind e) tail)

-- what is wrong at a place, whatever stands there is called
pub at_place : (marks : List Mark) (i : ℕ) (rest : List Mark) (mark : Mark) (others : List Mark) (all : Option Found) → rest ≡ drop i marks → rest ≡ mark ∷ others
    → IsBest all (doubled (take i marks) mark.label ++ wrong_here (take i marks) mark others mark.what)
    → (this : Mark) (behind : List Mark) → drop i marks ≡ this ∷ behind
    → IsBest all (doubled (take i marks) this.label ++ wrong_here (take i marks) this behind this.what)
at_place marks i rest mark others all back first h this behind cut =
    let same : mark ≡ this = cc in
    let tail : others ≡ behind = cc in
    let P : Mark → Type 0 = λ m. IsBest all (doubled (take i marks) m.label ++ wrong_here (take i marks) m others m.what) in
    let Q : List Mark → Type 0 = λ bs. IsBest all (doubled (take i marks) this.label ++ wrong_here (take i marks) this bs this.what) in
    subst Q tail (subst P same h)

-- what is wrong with a GOTO at a place
pub goto_at : (marks : List Mark) (i : ℕ) (mark : Mark) (others : List Mark) (o : Option Found) (at : ℕ) (name : List ℕ) → i < length marks → drop i marks ≡ mark ∷ others
    → IsBest o (jumped (take (i + 1) marks) (drop (i + 1) marks) marks at name)
    → IsBest o (jumped (take i marks ++ mark ∷ []) others (take i marks ++ mark ∷ others) at name)
goto_at marks i mark others o at name lt cut h =
    let parts = around marks i mark others lt cut in
    let P : List Mark → Type 0 = λ upto. IsBest o (jumped upto (drop (i + 1) marks) marks at name) in
    let Q : List Mark → Type 0 = λ bs. IsBest o (jumped (take i marks ++ mark ∷ []) bs marks at name) in
    let R : List Mark → Type 0 = λ all. IsBest o (jumped (take i marks ++ mark ∷ []) others all at name) in
    let whole : marks ≡ take i marks ++ mark ∷ others = sym (take-append-drop i marks) ∙ ap (λ (ms : List Mark). take i marks ++ ms) cut in
    subst R whole (subst Q parts.1 (subst P parts.0 h))

-- what is wrong with a statement that is said to be this
pub here_as : (before : List Mark) (mark : Mark) (others : List Mark) (o p : Option Found) (what other : Sketch) → what ≡ other → o ≡ p
    → IsBest p (wrong_here before mark others other) → IsBest o (wrong_here before mark others what)
here_as before mark others o p what other e f h =
    let P : Sketch → Type 0 = λ s. IsBest o (wrong_here before mark others s) in
    let Q : Option Found → Type 0 = λ x. IsBest x (wrong_here before mark others other) in
    subst P (sym e) (subst Q (sym f) h)
