-- The Process that a text says, or the first fault of the text.
use Rattle.std.specs.Prelude.{◌≡◌, ℕ, ◌<◌, ◌≤◌, ◌⊎◌, List, [], ◌∷◌, ◌++◌, length, Option, Some, None, Result, Ok, Err}
use Rattle.cd_types.specs.declared.choices.Hold.TheVariants as hold
use Rattle.cd_types.specs.declared.choices.Retain.TheVariants as retain
use Rattle.cd_ast.specs.declared.fault.FaultName.{FaultName}
use Rattle.cd_ast.specs.declared.fault.FaultName.TheVariants.{TooLong, Unresolved, Unexpected, Range, TooMany}
use Rattle.cd_ast.specs.declared.process.Process.{Process}
use Rattle.cd_ast.specs.Defaults.{defaults, with_definitions}
use Rattle.cd_ast.specs.Subst.{subst}
use Rattle.cd_ast.specs.Tokens.{flaw_of}
use Rattle.cd_grammar.specs.declared.token.Token.{Token}
use Rattle.cd_grammar.specs.Answers.{Strictness, strict, uncounted, loose_from}
use Rattle.cd_grammar.specs.Tokens.{tokens_of, place_of}
use Rattle.cd_grammar.specs.Reading.{Reading, or_default}
use Rattle.cd_grammar.specs.Grammar.{Place, Start, Rest}
use Rattle.cd_grammar.specs.Later.{Found, late_faults, IsFirstOf}

-- the greatest length of a text that is read as it stands, and of one whose references are replaced
abbrev pub longest_plain : ℕ
longest_plain = 262143

abbrev pub longest_text : ℕ
longest_text = 65536

-- the tokens are those of a text, of which this was read
abbrev pub IsRead : Strictness → List Token → Reading → Type 0
IsRead how tokens all = Rest how Start tokens all

-- more tokens make it a text
abbrev pub CanGoOn : Strictness → List Token → Type 0
CanGoOn how tokens = (more : List Token) × (all : Reading) × IsRead how (tokens ++ more) all

-- The token with which tokens that could go on can't any more is Unexpected where they couldn't either if no range were asked
-- for from that token on, and nothing counted. It is one too many where the count of the statements alone stands in the way,
-- and else outside its range.
pub data IsBadToken (before : List Token) (token : Token) : Found → Type 0 where
  unexpected : (CanGoOn (loose_from (place_of token)) (before ++ token ∷ []) → ⊥) → IsBadToken before token (Unexpected, place_of token)
  too_many : CanGoOn uncounted (before ++ token ∷ []) → IsBadToken before token (TooMany, 1024)
  range : CanGoOn (loose_from (place_of token)) (before ++ token ∷ []) → (CanGoOn uncounted (before ++ token ∷ []) → ⊥)
      → IsBadToken before token (Range, place_of token)

-- the first place at which tokens leave the grammar: at a token, or at the end of a text of this length
pub data Leaves (len : ℕ) (tokens : List Token) : Found → Type 0 where
  at_token : (before after : List Token) (token : Token) {f : Found}
      → tokens ≡ before ++ token ∷ after → CanGoOn strict before → (CanGoOn strict (before ++ token ∷ []) → ⊥) → IsBadToken before token f
      → Leaves len tokens f
  at_end : CanGoOn strict tokens → ((all : Reading) → IsRead strict tokens all → ⊥) → Leaves len tokens (Unexpected, len)

-- the Process of a reading: its defaults are priority 10, class 1, no hold and not retained
abbrev pub process_of : Reading → Process
process_of r = record {
  name = r.name;
  card = record {
    name = r.name;
    snode = r.head.snode;
    prty = or_default r.head.prty 10;
    class = or_default r.head.class 1;
    hold = or_default r.head.hold hold.No;
    retain = or_default r.head.retain retain.No;
    start = r.head.start;
  };
  stmts = r.stmts;
}

-- a text, read as it stands, says this Process
pub record InGrammar (text : List ℕ) (process : Process) : Type 0 where
  pub all : Reading
  pub short : length text ≤ longest_plain
  pub good : flaw_of text ≡ None
  pub read : IsRead strict (tokens_of text) all
  pub sound : late_faults all ≡ []
  pub said : process ≡ process_of all

-- The first fault of a text. Its length is judged first, then its bytes, then its tokens, and then what they say.
pub data IsFault (text : List ℕ) : Found → Type 0 where
  too_long : longest_plain < length text → IsFault text (TooLong, length text)
  in_bytes : {f : Found} → length text ≤ longest_plain → flaw_of text ≡ Some f → IsFault text f
  in_tokens : {f : Found} → length text ≤ longest_plain → flaw_of text ≡ None → Leaves (length text) (tokens_of text) f → IsFault text f
  in_meaning : {f : Found} {all : Reading} → length text ≤ longest_plain → flaw_of text ≡ None → IsRead strict (tokens_of text) all
      → IsFirstOf (late_faults all) f → IsFault text f

-- a text after its references gave way to the values that it gives itself, in whose place and behind which go others
abbrev pub resolved : List ℕ → List (List ℕ × List ℕ) → Result (List ℕ) ℕ
resolved text overrides = subst text (with_definitions (defaults text) overrides)

-- a text, read after substitution, says this Process
pub record Says (text : List ℕ) (overrides : List (List ℕ × List ℕ)) (process : Process) : Type 0 where
  pub plain : List ℕ
  pub short : length text ≤ longest_text
  pub becomes : resolved text overrides ≡ Ok plain
  pub fits : length plain ≤ longest_text
  pub says : InGrammar plain process

-- the first fault of a text that is read after substitution
pub data IsFaultOf (text : List ℕ) (overrides : List (List ℕ × List ℕ)) : Found → Type 0 where
  too_long : longest_text < length text → IsFaultOf text overrides (TooLong, length text)
  unresolved : {at : ℕ} → length text ≤ longest_text → resolved text overrides ≡ Err at → IsFaultOf text overrides (Unresolved, at)
  too_long_after : {plain : List ℕ} → length text ≤ longest_text → resolved text overrides ≡ Ok plain → longest_text < length plain
      → IsFaultOf text overrides (TooLong, length plain)
  in_plain : {plain : List ℕ} {f : Found} → length text ≤ longest_text → resolved text overrides ≡ Ok plain → length plain ≤ longest_text
      → IsFault plain f → IsFaultOf text overrides f
