-- Which words may be what: the machine asks for one thing after the other, and the grammar for each alone.
use Rattle.std.proofs.Common.{◌≡◌, if◌then◌else◌, ℕ, List, Bool, true, false, Some, None, Ok, refl}
use Rattle.cd_grammar.specs.declared.token.Key.{Key}
use Rattle.cd_grammar.specs.declared.token.Key.TheVariants as key
use Rattle.cd_grammar.specs.declared.given.Slot.{Slot}
use Rattle.cd_grammar.specs.declared.step.Begun.{Begun}
use Rattle.cd_grammar.specs.declared.step.CopyGiven.{CopyGiven}
use Rattle.cd_grammar.specs.declared.step.Work.{Work}
use Rattle.cd_grammar.specs.declared.step.Work.TheVariants as work
use Rattle.cd_grammar.specs.declared.step.End.{End}
use Rattle.cd_grammar.specs.declared.step.End.TheVariants as ends
use Rattle.cd_grammar.specs.declared.step.Step.{Step}
use Rattle.cd_grammar.specs.declared.step.Step.TheVariants as step
use Rattle.cd_grammar.specs.Answers.{Answer, Wrong, Strictness, taken}
use Rattle.cd_grammar.specs.Values.{label_in, front_label_in, has_reference, is_own}
use Rattle.cd_grammar.specs.Given.{head_slot, copy_slot, from_slot, to_slot, task_slot, job_slot, submit_slot, side_of}
use Rattle.cd_grammar.specs.Reading.{Reading, slot_of, end_slot, work_slot}
use Rattle.cd_grammar.specs.Grammar.{end_in}
use Rattle.cd_automaton.specs.Machine.{is_opener, is_verb, verb_turn, statement_turn, label_move, bare_state, compress_by}

-- a word with which a statement begins sets nothing
head_opener : (k : Key) (set : Slot) → head_slot k ≡ Some set → is_opener k ≡ false
unfolding head_slot is_opener
head_opener key.Copy set e = absurd cc
head_opener _ set e = cc

copy_opener : (k : Key) (set : Slot) → copy_slot k ≡ Some set → is_opener k ≡ false
unfolding copy_slot is_opener
copy_opener key.Copy set e = absurd cc
copy_opener _ set e = cc

from_opener : (k : Key) (set : Slot) → from_slot k ≡ Some set → is_opener k ≡ false
unfolding from_slot is_opener
from_opener key.Copy set e = absurd cc
from_opener _ set e = cc

to_opener : (k : Key) (set : Slot) → to_slot k ≡ Some set → is_opener k ≡ false
unfolding to_slot is_opener
to_opener key.Copy set e = absurd cc
to_opener _ set e = cc

task_opener : (k : Key) (set : Slot) → task_slot k ≡ Some set → is_opener k ≡ false
unfolding task_slot is_opener
task_opener key.Copy set e = absurd cc
task_opener _ set e = cc

job_opener : (k : Key) (set : Slot) → job_slot k ≡ Some set → is_opener k ≡ false
unfolding job_slot is_opener
job_opener key.Copy set e = absurd cc
job_opener _ set e = cc

submit_opener : (k : Key) (set : Slot) → submit_slot k ≡ Some set → is_opener k ≡ false
unfolding submit_slot is_opener
submit_opener key.Copy set e = absurd cc
submit_opener _ set e = cc

end_opener : (end : End) (k : Key) (set : Slot) → end_slot end k ≡ Some set → is_opener k ≡ false
end_opener ends.From k set e = from_opener k set e
end_opener ends.To k set e = to_opener k set e

work_opener : (w : Work) (k : Key) (set : Slot) → work_slot w k ≡ Some set → is_opener k ≡ false
work_opener work.Task k set e = task_opener k set e
work_opener work.Job k set e = job_opener k set e

pub slot_opener : (s : Step) (k : Key) (set : Slot) → slot_of s k ≡ Some set → is_opener k ≡ false
unfolding slot_of
slot_opener (step.Head given) k set e = head_opener k set e
slot_opener step.Between k set e = absurd cc
slot_opener (step.Copy begun copy) k set e = copy_opener k set e
slot_opener (step.Group begun copy end given) k set e = end_opener end k set e
slot_opener (step.Run begun w given) k set e = work_opener w k set e
slot_opener (step.RunGroup begun w given) k set e = work_opener w k set e
slot_opener (step.Submit begun given) k set e = submit_opener k set e

-- a keyword that may stand behind a label
pub verb_opener : (k : Key) → is_verb k ≡ true → is_opener k ≡ true
unfolding is_verb is_opener
verb_opener key.Copy e = refl
verb_opener _ e = cc

pub statement_verb : (how : Strictness) (r : Reading) (at : ℕ) (k : Key) (word : List ℕ) → is_verb k ≡ true → statement_turn how r at k word ≡ verb_turn how r None at k
unfolding is_verb statement_turn
statement_verb how r at key.Copy word e = refl
statement_verb how r at key.Run word e = refl
statement_verb how r at key.Submit word e = refl
statement_verb how r at key.If word e = refl
statement_verb how r at key.Goto word e = refl
statement_verb how r at key.Exit word e = refl
statement_verb how r at _ word e = absurd cc

-- a word that isn't one of the language's own
pub own_opener : (k : Key) → is_own k ≡ false → is_opener k ≡ false
unfolding is_own is_opener
own_opener key.Other e = refl
own_opener _ e = cc

pub own_statement : (how : Strictness) (r : Reading) (at : ℕ) (k : Key) (word : List ℕ) → is_own k ≡ false
    → statement_turn how r at k word ≡ label_move how r at (taken (how.ranges at) (front_label_in k word))
unfolding is_own statement_turn
own_statement how r at key.Copy word e = absurd cc
own_statement how r at key.Run word e = absurd cc
own_statement how r at key.Submit word e = absurd cc
own_statement how r at key.If word e = absurd cc
own_statement how r at key.Else word e = absurd cc
own_statement how r at key.Eif word e = absurd cc
own_statement how r at key.Goto word e = absurd cc
own_statement how r at key.Exit word e = absurd cc
own_statement how r at key.Pend word e = absurd cc
own_statement how r at _ word e = refl

own_side : (k : Key) → is_own k ≡ false → side_of k ≡ None
unfolding is_own side_of
own_side key.Other e = refl
own_side _ e = cc

own_end : (k : Key) → is_own k ≡ false → end_in k ≡ None
unfolding is_own end_in
own_end key.Other e = refl
own_end _ e = cc

own_compress : (begun : Begun) (copy : CopyGiven) (k : Key) → is_own k ≡ false → compress_by begun copy k ≡ None
unfolding is_own compress_by
own_compress begun copy key.Compress e = absurd cc
own_compress begun copy _ e = refl

pub own_bare : (s : Step) (k : Key) → is_own k ≡ false → bare_state s k ≡ None
unfolding bare_state
own_bare (step.Head given) k e = refl
own_bare step.Between k e = refl
own_bare (step.Copy begun copy) k e = rw (own_end k e) (own_compress begun copy k e)
own_bare (step.Group begun copy end given) k e = rw (own_side k e) refl
own_bare (step.Run begun w given) k e = rw (own_side k e) refl
own_bare (step.RunGroup begun w given) k e = rw (own_side k e) refl
own_bare (step.Submit begun given) k e = refl

-- what is taken as a label in front of a statement
not_wrong : {A : Type 0} (ranges : Bool) (x : A) → taken ranges Wrong ≡ Ok x → ⊥
not_wrong true x e = cc
not_wrong false x e = cc

tested : {A : Type 0} (ranges test : Bool) (answer : Answer A) (x : A) → taken ranges (if test then Wrong else answer) ≡ Ok x → test ≡ false
tested ranges true answer x e = absurd (not_wrong ranges x e)
tested ranges false answer x e = refl

untested : {A : Type 0} (ranges test : Bool) (answer : Answer A) (x : A) → taken ranges (if test then answer else Wrong) ≡ Ok x → test ≡ true
untested ranges false answer x e = absurd (not_wrong ranges x e)
untested ranges true answer x e = refl

pub front_is_label : (ranges : Bool) (k : Key) (word name : List ℕ) → taken ranges (front_label_in k word) ≡ Ok name → taken ranges (label_in k word) ≡ Ok name
unfolding front_label_in
front_is_label ranges k word name e = rw (tested ranges (has_reference word) (label_in k word) name e) at e

pub label_own : (ranges : Bool) (k : Key) (word name : List ℕ) → taken ranges (label_in k word) ≡ Ok name → is_own k ≡ false
unfolding label_in
label_own ranges k word name e = tested ranges (is_own k) _ name e

pub front_own : (ranges : Bool) (k : Key) (word name : List ℕ) → taken ranges (front_label_in k word) ≡ Ok name → is_own k ≡ false
front_own ranges k word name e = label_own ranges k word name (front_is_label ranges k word name e)
