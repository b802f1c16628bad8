-- What is told of a text.
use Rattle.std.proofs.Common.{◌≡◌, ℕ, ◌<◌, ◌≤◌, List, [], length, Option, Some, None, Result, Ok, Err, refl, sym, ap, ◌∙◌, subst, inl, inr, ◌⊎◌}
use Rattle.std.specs.Result.{IsOkAnd}
use Rattle.cd_ast.specs.declared.fault.FaultName.TheVariants.{TooLong}
use Rattle.cd_ast.specs.Defaults.{defaults, with_definitions}
use Rattle.cd_ast.specs.Subst as substitution
use Rattle.cd_grammar.specs.Reading.{Reading}
use Rattle.cd_ast.specs.Tokens.{flaw_of}
use Rattle.cd_lexer.specs.declared.fault.LexFault.{LexFault}
use Rattle.cd_lexer.specs.declared.fault.LexFault.TheVariants as lex
use Rattle.cd_lexer.specs.declared.fault.SymFault.{SymFault}
use Rattle.cd_lexer.specs.declared.fault.SymFault.TheVariants as sym_fault
use Rattle.cd_lexer.specs.Faults.{IsLexFault, IsSymFault}
use Rattle.cd_grammar.specs.declared.token.Token.{Token}
use Rattle.cd_grammar.specs.Answers.{strict}
use Rattle.cd_grammar.specs.Tokens.{tokens_of}
use Rattle.cd_grammar.specs.Later.{Found, late_faults, IsFirstOf}
use Rattle.cd_grammar.specs.Faults.{IsRead, Leaves, IsFault, IsFaultOf, resolved, longest_plain, longest_text}
use Rattle.cd_grammar.specs.Faults as faults
use Rattle.cd_automaton.specs.Machine.{whole}
use Rattle.cd_automaton.specs.Placed.{Placed}
use Rattle.cd_parser.specs.declared.fault.ParseFault.{ParseFault}
use Rattle.cd_parser.specs.declared.fault.ParseFault.TheVariants.{Text, NoMemory}
use Rattle.cd_parser.specs.Lexed.{lexed, unresolved}
use Rattle.cd_parser.specs.Runs.{Tells}
use Rattle.cd_parser.specs.Told.{IsTold, IsNoMemory, IsAs}

pub lex_told : (text : List ℕ) (fault : LexFault) → IsLexFault text fault → IsTold (IsFault text) (lexed fault)
lex_told text (lex.BadByte at) h = faults.in_bytes h.0 h.1
lex_told text (lex.OpenQuote at) h = faults.in_bytes h.0 h.1
lex_told text (lex.OpenComment at) h = faults.in_bytes h.0 h.1
lex_told text (lex.TooLong len) h = rw h.1 (faults.too_long h.0)
lex_told text lex.NoMemory h = tt

-- the law that the fault of the machine is where the tokens leave the grammar
abbrev pub Exact : Type 0
Exact = (len : ℕ) (tokens : List Token) (f : Found) → Placed 0 tokens → whole strict len tokens ≡ Err f → Leaves len tokens f

pub read_told : (text : List ℕ) (fault : ParseFault) → Exact → length text ≤ longest_plain → flaw_of text ≡ None → Placed 0 (tokens_of text)
    → Tells fault (whole strict (length text) (tokens_of text)) → IsTold (IsFault text) fault
read_told text (Text name at) exact short good placed e = faults.in_tokens short good (exact (length text) (tokens_of text) (name, at) placed e)
read_told text NoMemory exact short good placed e = tt

pub plain_told : (text plain : List ℕ) (overrides : List (List ℕ × List ℕ)) (fault : ParseFault) → length text ≤ longest_text
    → resolved text overrides ≡ Ok plain → length plain ≤ longest_text → IsTold (IsFault plain) fault → IsTold (IsFaultOf text overrides) fault
plain_told text plain overrides (Text name at) short becomes fits f = faults.in_plain short becomes fits f
plain_told text plain overrides NoMemory short becomes fits f = tt

-- no fault is told where none is there
pub none_told : (there : Found → Type 0) (fault : ParseFault) → ((f : Found) → there f → ⊥) → IsTold there fault → IsNoMemory fault
none_told there (Text name at) none f = none (name, at) f
none_told there NoMemory none f = tt

-- and where one alone is there no other is told
pub one_told : (there : Found → Type 0) (f : Found) (fault : ParseFault) → ((g : Found) → there g → g ≡ f) → IsTold there fault → IsAs f fault
one_told there f (Text name at) one g = one (name, at) g
one_told there f NoMemory one g = tt

-- the same of tokens and a length that are those of the text
pub seen_told : (text : List ℕ) (len : ℕ) (seen : List Token) (fault : ParseFault) → Exact → length text ≤ longest_plain → flaw_of text ≡ None → Placed 0 (tokens_of text)
    → len ≡ length text → seen ≡ tokens_of text → Tells fault (whole strict len seen) → IsTold (IsFault text) fault
seen_told text len seen fault exact short good placed e f told =
    let P : ℕ → Type 0 = λ n. Tells fault (whole strict n (tokens_of text)) in
    let Q : List Token → Type 0 = λ ts. Tells fault (whole strict len ts) in
    read_told text fault exact short good placed (subst P e (subst Q f told))

-- what a reading says wrongly
pub late_told : (text : List ℕ) (len : ℕ) (seen : List Token) (all : Reading) (f : Found)
    → ((tokens : List Token) → whole strict len tokens ≡ Ok all → IsRead strict tokens all) → length text ≤ longest_plain → flaw_of text ≡ None
    → seen ≡ tokens_of text → whole strict len seen ≡ Ok all → IsFirstOf (late_faults all) f → IsFault text f
late_told text len seen all f sound short good e read first =
    let P : List Token → Type 0 = λ ts. whole strict len ts ≡ Ok all in
    faults.in_meaning short good (sound (tokens_of text) (subst P e read)) first

longer : (text : List ℕ) (overrides symbols : List (List ℕ × List ℕ)) (len : ℕ) (x : Result (List ℕ) ℕ) → substitution.subst text symbols ≡ x
    → symbols ≡ with_definitions (defaults text) overrides → length text ≤ longest_text → IsOkAnd x (λ out. (longest_text < length out) × (len ≡ length out))
    → IsFaultOf text overrides (TooLong, len)
longer text overrides symbols len (Ok out) r e short h =
    let P : List (List ℕ × List ℕ) → Type 0 = λ s. substitution.subst text s ≡ Ok out in
    rw h.1 (faults.too_long_after short (subst P e r) h.0)
longer text overrides symbols len (Err at) r e short h = absurd h

pub sym_told : (text : List ℕ) (overrides symbols : List (List ℕ × List ℕ)) (fault : SymFault) → symbols ≡ with_definitions (defaults text) overrides
    → IsSymFault text symbols fault → IsTold (IsFaultOf text overrides) (unresolved fault)
sym_told text overrides symbols (sym_fault.Unresolved at) e h =
    let P : List (List ℕ × List ℕ) → Type 0 = λ s. substitution.subst text s ≡ Err at in
    faults.unresolved h.0 (subst P e h.1)
sym_told text overrides symbols (sym_fault.TooLong len) e (inl h) = rw h.1 (faults.too_long h.0)
sym_told text overrides symbols (sym_fault.TooLong len) e (inr h) = longer text overrides symbols len (substitution.subst text symbols) refl e h.0 h.1
sym_told text overrides symbols sym_fault.NoMemory e h = tt

pub resolved_as : (text : List ℕ) (overrides symbols : List (List ℕ × List ℕ)) (out plain : List ℕ) → symbols ≡ with_definitions (defaults text) overrides
    → plain ≡ out → substitution.subst text symbols ≡ Ok out → resolved text overrides ≡ Ok plain
resolved_as text overrides symbols out plain e f h =
    let P : List (List ℕ × List ℕ) → Type 0 = λ s. substitution.subst text s ≡ Ok out in
    let Q : List ℕ → Type 0 = λ x. resolved text overrides ≡ Ok x in
    subst Q (sym f) (subst P e h)
