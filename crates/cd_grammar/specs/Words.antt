-- Words and signs of the language.
use Rattle.std.specs.Prelude.{ℕ, List, [], ◌∷◌, Bool, Option, Some, None, if◌then◌else◌, codes}
use Rattle.std.specs.Str.{bytes_eq, str_eq_ignore_ascii_case}
use Rattle.cd_grammar.specs.declared.token.Key.{Key}
use Rattle.cd_grammar.specs.declared.token.Key.TheVariants as key
use Rattle.cd_grammar.specs.declared.token.Sign.{Sign}
use Rattle.cd_grammar.specs.declared.token.Sign.TheVariants as sign

-- a word is this one, in any case
abbrev pub is_word : List ℕ → List ℕ → Bool
is_word word other = str_eq_ignore_ascii_case word other

-- what a table says of a word, in any case
unfoldable pub said_in : {A : Type 0} → List (List ℕ × A) → List ℕ → Option A
said_in [] word = None
said_in (entry ∷ entries) word = if is_word word entry.0 then Some entry.1 else said_in entries word

-- the words with which statements begin and end
abbrev pub statement_words : List (List ℕ × Key)
statement_words =
    (codes "PROCESS", key.Process) ∷ (codes "COPY", key.Copy) ∷ (codes "RUN", key.Run) ∷ (codes "SUBMIT", key.Submit) ∷ (codes "IF", key.If) ∷ (codes "ELSE", key.Else) ∷ (codes "EIF", key.Eif) ∷ (codes "GOTO", key.Goto) ∷ (codes "EXIT", key.Exit) ∷ (codes "PEND", key.Pend) ∷ []

-- the language's other own words
abbrev pub inner_words : List (List ℕ × Key)
inner_words =
    (codes "TASK", key.Task) ∷ (codes "JOB", key.Job) ∷ (codes "THEN", key.Then) ∷ (codes "PNODE", key.Pnode) ∷ (codes "SNODE", key.Snode) ∷ (codes "FROM", key.From) ∷ (codes "TO", key.To) ∷ (codes "COMPRESS", key.Compress) ∷ (codes "EXTENDED", key.Extended) ∷ []

-- the parameters of PROCESS
abbrev pub head_words : List (List ℕ × Key)
head_words =
    (codes "PRTY", key.Prty) ∷ (codes "CLASS", key.Class) ∷ (codes "HOLD", key.Hold) ∷ (codes "RETAIN", key.Retain) ∷ (codes "STARTT", key.Startt) ∷ (codes "PACCT", key.Pacct) ∷ (codes "SACCT", key.Sacct) ∷ (codes "NOTIFY", key.Notify) ∷ (codes "PNODEID", key.Pnodeid) ∷ (codes "SNODEID", key.Snodeid) ∷ []

-- the parameters of the other statements
abbrev pub step_words : List (List ℕ × Key)
step_words =
    (codes "CKPT", key.Ckpt) ∷ (codes "PRIMECHAR", key.Primechar) ∷ (codes "FILE", key.File) ∷ (codes "DSN", key.Dsn) ∷ (codes "SYSOPTS", key.Sysopts) ∷ (codes "DISP", key.Disp) ∷ (codes "RESTART", key.Restart) ∷ (codes "PGM", key.Pgm) ∷ (codes "SUBNODE", key.Subnode) ∷ []

-- what is there, or else what is given
abbrev pub or_else : {A : Type 0} → Option A → Option A → Option A
or_else (Some x) other = Some x
or_else None other = other

abbrev pub or_other : Option Key → Key
or_other (Some k) = k
or_other None = key.Other

-- which word it is
unfoldable pub key_of : List ℕ → Key
key_of word =
    or_other (or_else (said_in statement_words word) (or_else (said_in inner_words word) (or_else (said_in head_words word) (said_in step_words word))))

-- which sign it is, of the bytes that are one
unfoldable pub sign_of : List ℕ → Sign
sign_of bytes =
    if bytes_eq bytes (codes "(") then sign.Open
    else (if bytes_eq bytes (codes ")") then sign.Close
    else (if bytes_eq bytes (codes "=") then sign.Equals
    else (if bytes_eq bytes (codes "==") then sign.Same
    else (if bytes_eq bytes (codes ",") then sign.Comma
    else (if bytes_eq bytes (codes ";") then sign.Semicolon
    else (if bytes_eq bytes (codes "<") then sign.Less
    else (if bytes_eq bytes (codes ">") then sign.Greater
    else (if bytes_eq bytes (codes "<=") then sign.AtMost
    else (if bytes_eq bytes (codes ">=") then sign.AtLeast
    else sign.Unequal)))))))))
