-- The reader reads all that the grammar allows.
use Rattle.std.proofs.Common.{◌≡◌, ℕ, List, [], ◌∷◌, Bool, true, false, is_some, Option, Some, refl, ap, ◌∙◌}
use Rattle.std.specs.Prelude.{if◌then◌else◌}
use Rattle.cd_grammar.specs.declared.token.Token.{Token}
use Rattle.cd_grammar.specs.declared.token.Token.TheVariants.{Word, Quoted, Mark}
use Rattle.cd_grammar.specs.Grammar.{text_of}
use Rattle.cd_grammar.specs.Tokens.{place_of}
use Rattle.cd_commands.specs.declared.kind.Kind.{Kind}
use Rattle.cd_commands.specs.declared.kind.Param.{Param}
use Rattle.cd_commands.specs.declared.kind.Param.TheVariants as param
use Rattle.cd_commands.specs.declared.given.Given.{Given}
use Rattle.cd_commands.specs.declared.given.Slot.{Slot}
use Rattle.cd_commands.specs.Given.{with_value, with_word, with_quoted, with_name}
use Rattle.cd_commands.specs.Words.{looks_ahead}
use Rattle.cd_commands.specs.Machine.{Said, Text, Leaves, State, Begin, At, Named, Starting, Timing, Goes, Stops, Begins, moved, word_move, without, set_move, symbol_move, next, at_end, said}
use Rattle.cd_commands.specs.Grammar as grammar
use Rattle.cd_commands.specs.Grammar.{Place, First, Params, Days, Times, IsNoEquals, Rest}
use Rattle.cd_commands.proofs.Peeks.{named_other}

abbrev pub state_of : Place → State
state_of First = Begin
state_of (Params k given) = At k given
state_of (Days k given) = Starting k given
state_of (Times k given day) = Timing k given day

word_goes : (k : Kind) (given : Given) (at : ℕ) (b : Bool) (set : Slot) → word_move k given at b (Some set) ≡ Goes (Named k given at (Some set))
word_goes k given at true set = refl
word_goes k given at false set = refl

no_start : (k : Kind) (given next : Given) (t : Token) → with_value k given param.Startt t ≡ Some next → ⊥
unfolding with_word with_quoted
no_start k given next (Word at key word) e = cc
no_start k given next (Quoted at text) e = cc
no_start k given next (Mark at s) e = cc

set_goes : (k : Kind) (given next : Given) (p : Param) (t : Token) → with_value k given p t ≡ Some next → set_move k given p t ≡ Goes (At k next)
unfolding set_move
set_goes k given next param.Startt t e = absurd (no_start k given next t e)
set_goes k given next param.Name t e = rw e refl
set_goes k given next param.Home t e = rw e refl
set_goes k given next param.File t e = rw e refl
set_goes k given next param.Pnumber t e = rw e refl
set_goes k given next param.Queue t e = rw e refl
set_goes k given next param.Snode t e = rw e refl
set_goes k given next param.Prty t e = rw e refl
set_goes k given next param.Class t e = rw e refl
set_goes k given next param.Hold t e = rw e refl
set_goes k given next param.Retain t e = rw e refl
set_goes k given next param.Release t e = rw e refl
set_goes k given next param.Sessions t e = rw e refl
set_goes k given next param.Together t e = rw e refl
set_goes k given next param.Turns t e = rw e refl
set_goes k given next param.Generate t e = rw e refl
set_goes k given next param.Count t e = rw e refl

symbol_goes : (k : Kind) (given : Given) (name text : List ℕ) (t : Token) → text_of t ≡ Some text → symbol_move k given name t ≡ Goes (At k (with_name given name text))
symbol_goes k given name text (Word at key word) e = let same : word ≡ text = cc in ap (λ (w : List ℕ). Goes (At k (with_name given name w))) same
symbol_goes k given name text (Quoted at word) e = let same : word ≡ text = cc in ap (λ (w : List ℕ). Goes (At k (with_name given name w))) same
symbol_goes k given name text (Mark at s) e = absurd (cc)

-- a word leads to what stands behind it
named_word : (k : Kind) (given : Given) (at : ℕ) (set : Option Slot) (tokens : List Token) (f : State → Said) → looks_ahead k ≡ true
    → moved (word_move k given at (looks_ahead k) set) tokens f ≡ f (Named k given at set)
named_word k given at set tokens f e = rw e refl

begins_by : (b : Bool) (given : Given) (at : ℕ) (tokens : List Token) (f : State → Said) → b ≡ false
    → moved (if b then Stops at else Begins given at) tokens f ≡ Text given at tokens
begins_by true given at tokens f e = absurd (cc)
begins_by false given at tokens f e = refl

begins : (b : Bool) (given : Given) (at at2 : ℕ) (tokens : List Token) (f : State → Said) → b ≡ true → is_some given.file ≡ false
    → moved (without b given at at2) tokens f ≡ Text given at tokens
begins false given at at2 tokens f e none = absurd (cc)
begins true given at at2 tokens f e none = begins_by (is_some given.file) given at tokens f none

text_behind : (len : ℕ) (k : Kind) (given : Given) (at : ℕ) (set : Option Slot) (ts : List Token) → looks_ahead k ≡ true → is_some given.file ≡ false → IsNoEquals ts
    → said len (Named k given at set) ts ≡ Text given at ts
unfolding said at_end
text_behind len k given at set [] looks none other = begins (looks_ahead k) given at len [] (λ s. Leaves len) looks none
text_behind len k given at set (t ∷ ts) looks none other =
    named_other len t ts k given at set other ∙ begins (looks_ahead k) given at (place_of t) (t ∷ ts) (λ s. Leaves len) looks none

pub complete : (len : ℕ) (p : Place) (ts : List Token) (x : Said) → Rest p ts x → said len (state_of p) ts ≡ x
unfolding said next at_end set_move
complete len p ts x (grammar.one_word e rest) = rw e (complete len _ _ x rest)
complete len p ts x (grammar.two_words e e2 rest) = rw e (rw e2 (complete len _ _ x rest))
complete len p ts x (grammar.param {k = k} {given = given} {next = next} {at = at} {p = q} {value = value} e v rest) =
    rw (e, word_goes k given at (looks_ahead k), set_goes k given next q value v) (complete len _ _ x rest)
complete len p ts x (grammar.symbol {k = k} {given = given} {at = at} {name = name} {text = text} {value = value} e v rest) =
    rw (e, word_goes k given at (looks_ahead k), symbol_goes k given name text value v) (complete len _ _ x rest)
complete len p ts x (grammar.startt {k = k} {given = given} {at = at} e rest) = rw (e, word_goes k given at (looks_ahead k)) (complete len _ _ x rest)
complete len p ts x (grammar.on_day e rest) = rw e (complete len _ _ x rest)
complete len p ts x (grammar.on_day_at e rest) = rw e (complete len _ _ x rest)
complete len p ts x (grammar.today_at rest) = complete len _ _ x rest
complete len p ts x (grammar.timed e e2 rest) = rw e (rw e2 (complete len _ _ x rest))
complete len p ts x (grammar.timed_named e e2 rest) = rw e (rw e2 (complete len _ _ x rest))
complete len p ts x (grammar.timed_half e e2 e3 e4 rest) = rw e (rw e2 (rw e3 (rw e4 (complete len _ _ x rest))))
complete len p ts x (grammar.end e) = rw e refl
complete len p ts x (grammar.text {k = k} {given = given} {at = at} {ts = rest} looks none other) =
    named_word k given at _ _ _ looks ∙ text_behind len k given at _ rest looks none other
