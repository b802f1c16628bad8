-- A scan's steps: the tokens told so far and those of what is left, and the first fault.
use Rattle.std.proofs.Common.{◌≡◌, ℕ, ◌+◌, ◌<◌, ◌≤◌, true, false, List, [], ◌∷◌, ◌++◌, length, map, Option, Some, None, IsSomeAnd, refl, ap, ◌∙◌, sym, append_assoc, append-nil, subst, le-ltb, lt-ltb}
use Rattle.std.proofs.lemmas.List.{map-append}
use Rattle.cd_ast.specs.declared.piece.PieceKind.{PieceKind}
use Rattle.cd_ast.specs.declared.fault.FaultName.{FaultName}
use Rattle.cd_ast.specs.declared.fault.FaultName.TheVariants as names
use Rattle.cd_ast.specs.Pieces.{Piece, pieces_after, pieces_of}
use Rattle.cd_ast.specs.Tokens.{Span, is_token, spans_from, flaw_in, flaw_or, open_from, bad_place, earlier, flaw_of}
use Rattle.cd_lexer.specs.declared.fault.LexFault.{LexFault}
use Rattle.cd_lexer.specs.declared.fault.LexFault.TheVariants.{BadByte, OpenQuote, OpenComment, TooLong, NoMemory}
use Rattle.cd_lexer.specs.declared.token.Token.{Token}
use Rattle.cd_lexer.specs.Faults.{IsNamed, IsLexFault, longest_plain}
use Rattle.cd_lexer.specs.Spans.{span_of}

-- nothing is left at the text's end
pub pieces_after-end : (before : PieceKind) (bs : List ℕ) → bs ≡ [] → pieces_after 0 before bs ≡ []
unfolding pieces_after
pieces_after-end before bs e = rw e refl

pub spans_from-end : (at : ℕ) → spans_from at [] ≡ []
unfolding spans_from
spans_from-end at = refl

pub open_from-end : (at : ℕ) → open_from at [] ≡ None
unfolding open_from
open_from-end at = refl

-- a token is told, and another piece isn't
spans_from-token : (at : ℕ) (kind : PieceKind) (bytes : List ℕ) (pieces : List Piece) → is_token kind ≡ true
    → spans_from at (record { kind = kind; bytes = bytes } ∷ pieces) ≡ record { kind = kind; from = at; to = at + length bytes } ∷ spans_from (at + length bytes) pieces
unfolding spans_from
spans_from-token at kind bytes pieces e = rw e refl

spans_from-gap : (at : ℕ) (kind : PieceKind) (bytes : List ℕ) (pieces : List Piece) → is_token kind ≡ false
    → spans_from at (record { kind = kind; bytes = bytes } ∷ pieces) ≡ spans_from (at + length bytes) pieces
unfolding spans_from
spans_from-gap at kind bytes pieces e = rw e refl

open_from-first : (at : ℕ) (kind : PieceKind) (bytes : List ℕ) (pieces : List Piece)
    → open_from at (record { kind = kind; bytes = bytes } ∷ pieces) ≡ flaw_or (flaw_in kind) at (open_from (at + length bytes) pieces)
unfolding open_from
open_from-first at kind bytes pieces = refl

abbrev made : PieceKind → ℕ → ℕ → Span
made kind from to = record { kind = kind; from = from; to = to }

pub same_span : (a b : PieceKind) (from to : ℕ) → a ≡ b → made a from to ≡ made b from to
same_span a b from to e = ap (λ kind. made kind from to) e

pub told-token : (told : List Token) (token : Token) (next : List Token) → next ≡ told ++ token ∷ [] → (at : ℕ) (before : PieceKind) (bs : List ℕ) (kind : PieceKind) (bytes rest : List ℕ) (all : List Span)
    → pieces_after 0 before bs ≡ record { kind = kind; bytes = bytes } ∷ pieces_after 0 kind rest
    → is_token kind ≡ true → span_of token ≡ record { kind = kind; from = at; to = at + length bytes }
    → map span_of told ++ spans_from at (pieces_after 0 before bs) ≡ all
    → map span_of next ++ spans_from (at + length bytes) (pieces_after 0 kind rest) ≡ all
told-token told token next pushed at before bs kind bytes rest all first is span whole =
    rw (pushed, map-append span_of told (token ∷ []), append_assoc, span) (
    ap (λ ss. map span_of told ++ ss) (sym (rw first (spans_from-token at kind bytes (pieces_after 0 kind rest) is))) ∙ whole)

pub told-gap : (told : List Token) (at : ℕ) (before : PieceKind) (bs : List ℕ) (kind : PieceKind) (bytes rest : List ℕ) (all : List Span)
    → pieces_after 0 before bs ≡ record { kind = kind; bytes = bytes } ∷ pieces_after 0 kind rest
    → is_token kind ≡ false
    → map span_of told ++ spans_from at (pieces_after 0 before bs) ≡ all
    → map span_of told ++ spans_from (at + length bytes) (pieces_after 0 kind rest) ≡ all
told-gap told at before bs kind bytes rest all first is whole =
    ap (λ ss. map span_of told ++ ss) (sym (rw first (spans_from-gap at kind bytes (pieces_after 0 kind rest) is))) ∙ whole

pub open_from-next : (at : ℕ) (before : PieceKind) (bs : List ℕ) (kind : PieceKind) (bytes rest : List ℕ)
    → pieces_after 0 before bs ≡ record { kind = kind; bytes = bytes } ∷ pieces_after 0 kind rest
    → flaw_in kind ≡ None → open_from (at + length bytes) (pieces_after 0 kind rest) ≡ open_from at (pieces_after 0 before bs)
open_from-next at before bs kind bytes rest first good = rw (first, open_from-first, good) refl

-- the fault that a flaw is
pub lex_fault : (text : List ℕ) (fault : LexFault) → length text ≤ longest_plain → IsNamed fault (flaw_of text) → IsLexFault text fault
lex_fault text (TooLong len) fits named = absurd named
lex_fault text (BadByte at) fits named = (fits, named)
lex_fault text (OpenQuote at) fits named = (fits, named)
lex_fault text (OpenComment at) fits named = (fits, named)
lex_fault text NoMemory fits named = tt

named-found : (flaw : Option FaultName) (at bad len : ℕ) (later found : Option (FaultName × ℕ)) (fault : LexFault)
    → IsSomeAnd flaw (λ name. IsNamed fault (earlier bad (at + 1) (Some (name, at))))
    → flaw_or flaw at later ≡ found → IsNamed fault (earlier bad len found)
named-found None at bad len later found fault named is = absurd named
named-found (Some name) at bad len later found fault named is = subst (λ (o : Option (FaultName × ℕ)). IsNamed fault (earlier bad len o)) is named

flaw_of-is : (text : List ℕ) (bad : ℕ) → bad ≡ bad_place text → flaw_of text ≡ earlier bad (length text) (open_from 0 (pieces_of text))
unfolding flaw_of
flaw_of-is text bad is = rw is refl

pub fault_found : (text : List ℕ) (bad at : ℕ) (before : PieceKind) (bs : List ℕ) (kind : PieceKind) (bytes rest : List ℕ) (fault : LexFault)
    → length text ≤ longest_plain → bad ≡ bad_place text
    → open_from at (pieces_after 0 before bs) ≡ open_from 0 (pieces_of text)
    → pieces_after 0 before bs ≡ record { kind = kind; bytes = bytes } ∷ pieces_after 0 kind rest
    → IsSomeAnd (flaw_in kind) (λ name. IsNamed fault (earlier bad (at + 1) (Some (name, at))))
    → IsLexFault text fault
fault_found text bad at before bs kind bytes rest fault fits is same first named =
    lex_fault text fault fits (rw (flaw_of-is text bad is) (
    named-found (flaw_in kind) at bad (length text) (open_from (at + length bytes) (pieces_after 0 kind rest)) (open_from 0 (pieces_of text)) fault named
    (sym (open_from-first at kind bytes (pieces_after 0 kind rest)) ∙ ap (open_from at) (sym first) ∙ same)))

-- at the text's end, where no piece was a fault
none_open : (text bs : List ℕ) (at : ℕ) (before : PieceKind) → bs ≡ [] → open_from at (pieces_after 0 before bs) ≡ open_from 0 (pieces_of text) → open_from 0 (pieces_of text) ≡ None
none_open text bs at before end same = sym same ∙ rw (pieces_after-end before bs end) (open_from-end at)

pub flaw_of-bad : (text bs : List ℕ) (bad at : ℕ) (before : PieceKind) → bad ≡ bad_place text → bs ≡ [] → open_from at (pieces_after 0 before bs) ≡ open_from 0 (pieces_of text) → bad < length text → flaw_of text ≡ Some (names.BadByte, bad)
flaw_of-bad text bs bad at before is end same within = flaw_of-is text bad is ∙ rw (none_open text bs at before end same, lt-ltb _ _ within) refl

pub flaw_of-none : (text bs : List ℕ) (bad at : ℕ) (before : PieceKind) → bad ≡ bad_place text → bs ≡ [] → open_from at (pieces_after 0 before bs) ≡ open_from 0 (pieces_of text) → length text ≤ bad → flaw_of text ≡ None
flaw_of-none text bs bad at before is end same past = flaw_of-is text bad is ∙ rw (none_open text bs at before end same, le-ltb _ _ past) refl

pub told-end : (told : List Token) (at : ℕ) (before : PieceKind) (bs : List ℕ) (all : List Span) → bs ≡ [] → map span_of told ++ spans_from at (pieces_after 0 before bs) ≡ all → map span_of told ≡ all
told-end told at before bs all end whole = sym (append-nil (map span_of told)) ∙ ap (λ ss. map span_of told ++ ss) (sym (rw (pieces_after-end before bs end) (spans_from-end at))) ∙ whole
