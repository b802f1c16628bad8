-- What stands behind a word.
use Rattle.std.proofs.Common.{◌≡◌, ℕ, List, [], ◌∷◌, drop, Bool, true, false, is_some, Option, refl}
use Rattle.std.specs.Prelude.{if◌then◌else◌}
use Rattle.cd_grammar.specs.declared.token.Sign.{Sign}
use Rattle.cd_grammar.specs.declared.token.Sign.TheVariants as sign
use Rattle.cd_grammar.specs.declared.token.Token.{Token}
use Rattle.cd_grammar.specs.declared.token.Token.TheVariants.{Word, Quoted, Mark}
use Rattle.cd_grammar.specs.Tokens.{place_of}
use Rattle.cd_commands.specs.declared.kind.Kind.{Kind}
use Rattle.cd_commands.specs.declared.given.Given.{Given}
use Rattle.cd_commands.specs.declared.given.Slot.{Slot}
use Rattle.cd_commands.specs.Words.{looks_ahead}
use Rattle.cd_commands.specs.Peeks.{equals, are_equal}
use Rattle.cd_commands.specs.Machine.{Said, State, Named, Valued, Leaves, Stops, Begins, moved, goes_if, without, named_by, next, said}

without_by : (b : Bool) (g : Given) (at : ℕ) (tokens : List Token) (f h : State → Said)
    → moved (if b then Stops at else Begins g at) tokens f ≡ moved (if b then Stops at else Begins g at) tokens h
without_by true g at tokens f h = refl
without_by false g at tokens f h = refl

pub without_same : (b : Bool) (g : Given) (at at2 : ℕ) (tokens : List Token) (f h : State → Said) → moved (without b g at at2) tokens f ≡ moved (without b g at at2) tokens h
without_same false g at at2 tokens f h = refl
without_same true g at at2 tokens f h = without_by (is_some g.file) g at tokens f h

-- another sign than =
sign_other : (s : Sign) (k : Kind) (g : Given) (at : ℕ) (set : Option Slot) (at2 : ℕ) (tokens : List Token) (f h : State → Said)
    → are_equal s ≡ false → moved (named_by k g at set at2 s) tokens f ≡ moved (without (looks_ahead k) g at at2) tokens h
sign_other sign.Equals k g at set at2 tokens f h e = absurd (cc)
sign_other sign.Open k g at set at2 tokens f h e = without_same (looks_ahead k) g at at2 tokens f h
sign_other sign.Close k g at set at2 tokens f h e = without_same (looks_ahead k) g at at2 tokens f h
sign_other sign.Same k g at set at2 tokens f h e = without_same (looks_ahead k) g at at2 tokens f h
sign_other sign.Comma k g at set at2 tokens f h e = without_same (looks_ahead k) g at at2 tokens f h
sign_other sign.Semicolon k g at set at2 tokens f h e = without_same (looks_ahead k) g at at2 tokens f h
sign_other sign.Less k g at set at2 tokens f h e = without_same (looks_ahead k) g at at2 tokens f h
sign_other sign.Greater k g at set at2 tokens f h e = without_same (looks_ahead k) g at at2 tokens f h
sign_other sign.AtMost k g at set at2 tokens f h e = without_same (looks_ahead k) g at at2 tokens f h
sign_other sign.AtLeast k g at set at2 tokens f h e = without_same (looks_ahead k) g at at2 tokens f h
sign_other sign.Unequal k g at set at2 tokens f h e = without_same (looks_ahead k) g at at2 tokens f h

sign_equal : (s : Sign) (k : Kind) (g : Given) (at : ℕ) (set : Option Slot) (at2 : ℕ) (tokens : List Token) (f : State → Said)
    → are_equal s ≡ true → moved (named_by k g at set at2 s) tokens f ≡ moved (goes_if at set (λ s2. Valued k g s2)) tokens f
sign_equal sign.Equals k g at set at2 tokens f e = refl
sign_equal sign.Open k g at set at2 tokens f e = absurd (cc)
sign_equal sign.Close k g at set at2 tokens f e = absurd (cc)
sign_equal sign.Same k g at set at2 tokens f e = absurd (cc)
sign_equal sign.Comma k g at set at2 tokens f e = absurd (cc)
sign_equal sign.Semicolon k g at set at2 tokens f e = absurd (cc)
sign_equal sign.Less k g at set at2 tokens f e = absurd (cc)
sign_equal sign.Greater k g at set at2 tokens f e = absurd (cc)
sign_equal sign.AtMost k g at set at2 tokens f e = absurd (cc)
sign_equal sign.AtLeast k g at set at2 tokens f e = absurd (cc)
sign_equal sign.Unequal k g at set at2 tokens f e = absurd (cc)

pub named_other : (len : ℕ) (t : Token) (ts : List Token) (k : Kind) (g : Given) (at : ℕ) (set : Option Slot) → equals t ≡ false
    → said len (Named k g at set) (t ∷ ts) ≡ moved (without (looks_ahead k) g at (place_of t)) (t ∷ ts) (λ s. Leaves len)
unfolding said next
named_other len (Word at2 key word) ts k g at set e = without_same (looks_ahead k) g at at2 (Word at2 key word ∷ ts) (λ s. said len s ts) (λ s. Leaves len)
named_other len (Quoted at2 text) ts k g at set e = without_same (looks_ahead k) g at at2 (Quoted at2 text ∷ ts) (λ s. said len s ts) (λ s. Leaves len)
named_other len (Mark at2 m) ts k g at set e = sign_other m k g at set at2 (Mark at2 m ∷ ts) (λ s. said len s ts) (λ s. Leaves len) e

named_equal : (len : ℕ) (t : Token) (ts : List Token) (k : Kind) (g : Given) (at : ℕ) (set : Option Slot) → equals t ≡ true
    → said len (Named k g at set) (t ∷ ts) ≡ moved (goes_if at set (λ s. Valued k g s)) (t ∷ ts) (λ s. said len s ts)
unfolding said next
named_equal len (Word at2 key word) ts k g at set e = absurd (cc)
named_equal len (Quoted at2 text) ts k g at set e = absurd (cc)
named_equal len (Mark at2 m) ts k g at set e = sign_equal m k g at set at2 (Mark at2 m ∷ ts) (λ s. said len s ts) e

-- the same, where the token is the first of those that there are
pub peek_other : (len : ℕ) (t : Token) (tokens : List Token) → tokens ≡ t ∷ drop 1 tokens → equals t ≡ false → (k : Kind) (g : Given) (at : ℕ) (set : Option Slot)
    → said len (Named k g at set) tokens ≡ moved (without (looks_ahead k) g at (place_of t)) tokens (λ s. Leaves len)
peek_other len t [] e other k g at set = absurd (cc)
peek_other len t (x ∷ xs) e other k g at set =
    let same : x ≡ t = cc in
    let not : equals x ≡ false = rw same other in
    rw (← same) (named_other len x xs k g at set not)

pub peek_equal : (len : ℕ) (t : Token) (tokens : List Token) → tokens ≡ t ∷ drop 1 tokens → equals t ≡ true → (k : Kind) (g : Given) (at : ℕ) (set : Option Slot)
    → said len (Named k g at set) tokens ≡ moved (goes_if at set (λ s. Valued k g s)) tokens (λ s. said len s (drop 1 tokens))
peek_equal len t [] e equal k g at set = absurd (cc)
peek_equal len t (x ∷ xs) e equal k g at set =
    let same : x ≡ t = cc in
    let is : equals x ≡ true = rw same equal in
    named_equal len x xs k g at set is
