-- A text has exactly one of a command and a fault.
use Rattle.std.proofs.Common.{◌≡◌, ℕ, ◌-◌, List, length, Bool, true, false, Option, Some, None, ◌⊎◌, inl, inr, refl, sym, ap, subst, ◌∙◌}
use Rattle.cd_ast.specs.declared.fault.FaultName.TheVariants.{RetainStart}
use Rattle.cd_ast.specs.declared.process.Process.{Process}
use Rattle.cd_grammar.specs.declared.token.Token.{Token}
use Rattle.cd_grammar.specs.Later.{Found}
use Rattle.cd_grammar.specs.Faults.{Says, IsFaultOf}
use Rattle.cd_commands.specs.declared.command.Command.{Command}
use Rattle.cd_commands.specs.declared.command.Command.TheVariants as command
use Rattle.cd_commands.specs.declared.given.Given.{Given}
use Rattle.cd_commands.specs.Given.{options_of}
use Rattle.cd_commands.specs.Machine.{Said, Whole, Text, Leaves, Begin, said}
use Rattle.cd_commands.specs.Grammar.{First}
use Rattle.cd_commands.specs.Seen.{seen, lead}
use Rattle.cd_commands.proofs.Complete.{complete}
use Rattle.cd_commands.proofs.Sound.{sound}
use Rattle.cd_commands.specs.Commands.{told, left_behind, process_text, is_doubly_started, IsSubmission, IsCommand, whole, with_text, Fault, Left, Wrong, IsTextFault, in_process, behind_process, doubly_started, IsCommandFault, leaves, in_text}

-- the two laws of Process texts that are needed
abbrev pub HaveProcesses : Type 0
HaveProcesses = (text : List ℕ) (overrides : List (List ℕ × List ℕ)) → ((process : Process) × Says text overrides process) ⊎ ((f : Found) × IsFaultOf text overrides f)

abbrev pub AreApart : Type 0
AreApart = (text : List ℕ) (overrides : List (List ℕ × List ℕ)) (process : Process) (f : Found) → Says text overrides process → IsFaultOf text overrides f → ⊥

abbrev pub HaveOne : Type 0
HaveOne = (text : List ℕ) (overrides : List (List ℕ × List ℕ)) (one other : Process) → Says text overrides one → Says text overrides other → one ≡ other

abbrev pub HaveOneFault : Type 0
HaveOneFault = (text : List ℕ) (overrides : List (List ℕ × List ℕ)) (one other : Found) → IsFaultOf text overrides one → IsFaultOf text overrides other → one ≡ other

-- by what the tokens say
abbrev IsSaid : List ℕ → Said → Command → Type 0
IsSaid text (Whole said) c = c ≡ said
IsSaid text (Text given at rest) c = IsSubmission text given at rest c
IsSaid text (Leaves at) c = ⊥

abbrev IsFaultSaid : List ℕ → Said → Fault → Type 0
IsFaultSaid text (Whole c) f = ⊥
IsFaultSaid text (Text given at rest) f = IsTextFault text given at rest f
IsFaultSaid text (Leaves at) f = f ≡ Left (at - lead text)

by_whole : (text : List ℕ) (x : Said) (c : Command) → x ≡ Whole c → IsSaid text x c
by_whole text x c e = rw e refl

by_text : (text : List ℕ) (x : Said) (given : Given) (at : ℕ) (rest : List Token) (c : Command) → x ≡ Text given at rest → IsSubmission text given at rest c → IsSaid text x c
by_text text x given at rest c e is = rw e is

by_fault : (text : List ℕ) (x : Said) (given : Given) (at : ℕ) (rest : List Token) (f : Fault) → x ≡ Text given at rest → IsTextFault text given at rest f → IsFaultSaid text x f
by_fault text x given at rest f e is = rw e is

by_left : (text : List ℕ) (x : Said) (at : ℕ) (f : Fault) → x ≡ Leaves at → f ≡ Left (at - lead text) → IsFaultSaid text x f
by_left text x at f e is = rw e is

command_said : (text : List ℕ) (c : Command) → IsCommand text c → IsSaid text (told text) c
command_said text c (whole rest) = by_whole text (told text) c (complete (length text) First (seen text) (Whole c) rest)
command_said text c (with_text {given = given} {at = at} {rest = ts} rest is) =
    by_text text (told text) given at ts c (complete (length text) First (seen text) (Text given at ts) rest) is

fault_said : (text : List ℕ) (f : Fault) → IsCommandFault text f → IsFaultSaid text (told text) f
fault_said text f (leaves {at = at} e) = by_left text (told text) at (Left (at - lead text)) e refl
fault_said text f (in_text {given = given} {at = at} {rest = ts} {f = g} rest is) =
    by_fault text (told text) given at ts g (complete (length text) First (seen text) (Text given at ts) rest) is

command_by : (text : List ℕ) (x : Said) (c : Command) → told text ≡ x → IsSaid text x c → IsCommand text c
command_by text (Whole d) c e is = subst (λ (b : Command). IsCommand text b) (sym is) (whole (sound (length text) (seen text) (Whole d) tt Begin e))
command_by text (Text given at ts) c e is = with_text (sound (length text) (seen text) (Text given at ts) tt Begin e) is
command_by text (Leaves at) c e is = absurd is

fault_by : (text : List ℕ) (x : Said) (f : Fault) → told text ≡ x → IsFaultSaid text x f → IsCommandFault text f
fault_by text (Whole d) f e is = absurd is
fault_by text (Text given at ts) f e is = in_text (sound (length text) (seen text) (Text given at ts) tt Begin e) is
fault_by text (Leaves at) f e is = subst (λ (g : Fault). IsCommandFault text g) (sym is) (leaves e)

abbrev Either : List ℕ → Said → Type 0
Either text x = ((c : Command) × IsSaid text x c) ⊎ ((f : Fault) × IsFaultSaid text x f)

some_once : (text : List ℕ) (given : Given) (at : ℕ) (rest : List Token) (p : Process) → Says (process_text text at rest) given.symbols p → left_behind (length text) rest ≡ None
    → (twice : Bool) → is_doubly_started given p ≡ twice → Either text (Text given at rest)
some_once text given at rest p says e true e2 = inr (Wrong (RetainStart, 0), doubly_started says e e2)
some_once text given at rest p says e false e2 = inl (command.SubmitText p (options_of given), record { process = p; says = says; ended = e; once = e2; is = refl })

some_behind : (text : List ℕ) (given : Given) (at : ℕ) (rest : List Token) (p : Process) → Says (process_text text at rest) given.symbols p
    → (left : Option ℕ) → left_behind (length text) rest ≡ left → Either text (Text given at rest)
some_behind text given at rest p says (Some at2) e = inr (Left (at2 - lead text), behind_process says e)
some_behind text given at rest p says None e = some_once text given at rest p says e (is_doubly_started given p) refl

some_text : (text : List ℕ) (given : Given) (at : ℕ) (rest : List Token)
    → ((process : Process) × Says (process_text text at rest) given.symbols process) ⊎ ((f : Found) × IsFaultOf (process_text text at rest) given.symbols f)
    → Either text (Text given at rest)
some_text text given at rest (inl p) = some_behind text given at rest p.0 p.1 (left_behind (length text) rest) refl
some_text text given at rest (inr f) = inr (Wrong f.0, in_process f.1)

some_said : HaveProcesses → (text : List ℕ) (x : Said) → Either text x
some_said have text (Whole c) = inl (c, refl)
some_said have text (Text given at rest) = some_text text given at rest (have (process_text text at rest) given.symbols)
some_said have text (Leaves at) = inr (Left (at - lead text), refl)

some_of : (text : List ℕ) → Either text (told text) → ((c : Command) × IsCommand text c) ⊎ ((f : Fault) × IsCommandFault text f)
some_of text (inl c) = inl (c.0, command_by text (told text) c.0 refl c.1)
some_of text (inr f) = inr (f.0, fault_by text (told text) f.0 refl f.1)

pub some_command : HaveProcesses → (text : List ℕ) → ((c : Command) × IsCommand text c) ⊎ ((f : Fault) × IsCommandFault text f)
some_command have text = some_of text (some_said have text (told text))

not_both_text : AreApart → HaveOne → (text : List ℕ) (given : Given) (at : ℕ) (rest : List Token) (c : Command) (f : Fault)
    → IsSubmission text given at rest c → IsTextFault text given at rest f → ⊥
not_both_text apart one text given at rest c f sub (in_process {f = g} bad) = apart (process_text text at rest) given.symbols sub.process g sub.says bad
not_both_text apart one text given at rest c f sub (behind_process says e) = let n = sub.ended in cc
not_both_text apart one text given at rest c f sub (doubly_started {process = p} says e e2) =
    let same : p ≡ sub.process = one (process_text text at rest) given.symbols p sub.process says sub.says in
    let once = sub.once in
    let twice : is_doubly_started given sub.process ≡ true = rw same at e2 in
    cc

not_both_said : AreApart → HaveOne → (text : List ℕ) (x : Said) (c : Command) (f : Fault) → IsSaid text x c → IsFaultSaid text x f → ⊥
not_both_said apart one text (Whole d) c f is bad = bad
not_both_said apart one text (Text given at rest) c f is bad = not_both_text apart one text given at rest c f is bad
not_both_said apart one text (Leaves at) c f is bad = is

pub not_both : AreApart → HaveOne → (text : List ℕ) (c : Command) (f : Fault) → IsCommand text c → IsCommandFault text f → ⊥
not_both apart one text c f is bad = not_both_said apart one text (told text) c f (command_said text c is) (fault_said text f bad)

one_command_said : HaveOne → (text : List ℕ) (x : Said) (c d : Command) → IsSaid text x c → IsSaid text x d → c ≡ d
one_command_said one text (Whole e) c d is other = is ∙ sym other
one_command_said one text (Text given at rest) c d is other =
    is.is ∙ ap (λ (p : Process). command.SubmitText p (options_of given)) (one (process_text text at rest) given.symbols is.process other.process is.says other.says) ∙ sym other.is
one_command_said one text (Leaves at) c d is other = absurd is

pub one_command : HaveOne → (text : List ℕ) (c d : Command) → IsCommand text c → IsCommand text d → c ≡ d
one_command one text c d is other = one_command_said one text (told text) c d (command_said text c is) (command_said text d other)

one_fault_text : AreApart → HaveOneFault → (text : List ℕ) (given : Given) (at : ℕ) (rest : List Token) (f g : Fault)
    → IsTextFault text given at rest f → IsTextFault text given at rest g → f ≡ g
one_fault_text apart one text given at rest f g (in_process {f = a} bad) (in_process {f = b} other) = ap Wrong (one (process_text text at rest) given.symbols a b bad other)
one_fault_text apart one text given at rest f g (in_process {f = a} bad) (behind_process {process = p} says e) = absurd (apart (process_text text at rest) given.symbols p a says bad)
one_fault_text apart one text given at rest f g (in_process {f = a} bad) (doubly_started {process = p} says e e2) = absurd (apart (process_text text at rest) given.symbols p a says bad)
one_fault_text apart one text given at rest f g (behind_process {process = p} says e) (in_process {f = a} bad) = absurd (apart (process_text text at rest) given.symbols p a says bad)
one_fault_text apart one text given at rest f g (behind_process {at2 = a} says e) (behind_process {at2 = b} says2 e2) =
    let same : a ≡ b = cc in
    ap (λ (n : ℕ). Left (n - lead text)) same
one_fault_text apart one text given at rest f g (behind_process says e) (doubly_started says2 e2 e3) = absurd (cc)
one_fault_text apart one text given at rest f g (doubly_started {process = p} says e e2) (in_process {f = a} bad) = absurd (apart (process_text text at rest) given.symbols p a says bad)
one_fault_text apart one text given at rest f g (doubly_started says e e2) (behind_process says2 e3) = absurd (cc)
one_fault_text apart one text given at rest f g (doubly_started says e e2) (doubly_started says2 e3 e4) = refl

one_fault_said : AreApart → HaveOneFault → (text : List ℕ) (x : Said) (f g : Fault) → IsFaultSaid text x f → IsFaultSaid text x g → f ≡ g
one_fault_said apart one text (Whole c) f g is other = absurd is
one_fault_said apart one text (Text given at rest) f g is other = one_fault_text apart one text given at rest f g is other
one_fault_said apart one text (Leaves at) f g is other = is ∙ sym other

pub one_fault : AreApart → HaveOneFault → (text : List ℕ) (f g : Fault) → IsCommandFault text f → IsCommandFault text g → f ≡ g
one_fault apart one text f g is other = one_fault_said apart one text (told text) f g (fault_said text f is) (fault_said text g other)

-- what was read of the tokens of a text
is_told : (text : List ℕ) (len : ℕ) (tokens : List Token) (x : Said) → len ≡ length text → tokens ≡ seen text → said len Begin tokens ≡ x → told text ≡ x
is_told text len tokens x el et e = rw (← el, ← et) e

pub whole_is : (text : List ℕ) (len : ℕ) (tokens : List Token) (c : Command) → len ≡ length text → tokens ≡ seen text → said len Begin tokens ≡ Whole c → IsCommand text c
whole_is text len tokens c el et e = command_by text (Whole c) c (is_told text len tokens (Whole c) el et e) refl

pub submission_is : (text : List ℕ) (len : ℕ) (tokens : List Token) (given : Given) (at : ℕ) (rest : List Token) (c : Command)
    → len ≡ length text → tokens ≡ seen text → said len Begin tokens ≡ Text given at rest → IsSubmission text given at rest c → IsCommand text c
submission_is text len tokens given at rest c el et e is = command_by text (Text given at rest) c (is_told text len tokens (Text given at rest) el et e) is

pub text_fault_is : (text : List ℕ) (len : ℕ) (tokens : List Token) (given : Given) (at : ℕ) (rest : List Token) (f : Fault)
    → len ≡ length text → tokens ≡ seen text → said len Begin tokens ≡ Text given at rest → IsTextFault text given at rest f → IsCommandFault text f
text_fault_is text len tokens given at rest f el et e is = fault_by text (Text given at rest) f (is_told text len tokens (Text given at rest) el et e) is

pub left_is : (text : List ℕ) (len : ℕ) (tokens : List Token) (at : ℕ) (f : Fault)
    → len ≡ length text → tokens ≡ seen text → said len Begin tokens ≡ Leaves at → f ≡ Left (at - lead text) → IsCommandFault text f
left_is text len tokens at f el et e is = fault_by text (Leaves at) f (is_told text len tokens (Leaves at) el et e) is
