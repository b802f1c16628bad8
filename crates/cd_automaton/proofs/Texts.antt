-- The tokens of a text stand in it one behind the other, with the keys of their words.
use Rattle.std.specs.Prelude.{map, slice_range}
use Rattle.std.proofs.Common.{◌≡◌, ℕ, zero, suc, ◌+◌, ◌-◌, ◌<◌, ◌≤◌, Bool, true, false, ◌&&◌, List, [], ◌∷◌, length, length-take, take, drop, refl, arith}
use Rattle.std.specs.Prelude.{if◌then◌else◌, ◌==◌}
use Rattle.cd_ast.specs.declared.piece.PieceKind.{PieceKind}
use Rattle.cd_ast.specs.declared.piece.PieceKind.TheVariants as piece
use Rattle.cd_ast.specs.Bytes.{is_blank, is_quote, is_sign_byte, is_double_sign, opens_comment}
use Rattle.cd_ast.specs.Pieces.{Piece, run_len, ends_line, is_line_end, comment_at, quote_at, sign_at, word_at, piece_at, pieces_after}
use Rattle.cd_ast.specs.Tokens.{Span, is_token, spans_from, spans_of}
use Rattle.cd_grammar.specs.declared.token.Token.{Token}
use Rattle.cd_grammar.specs.Tokens.{Side, Out, seen_token, token_of, place_of, behind, is_blank_comma, without_commas, tokens_of}
use Rattle.cd_automaton.specs.Placed.{IsKeyed, Placed}

-- a choice has the length of what is chosen
either : (t : Bool) (p q : PieceKind × ℕ) → 0 < p.1 → 0 < q.1 → 0 < (if t then p else q).1
either true p q hp hq = hp
either false p q hp hq = hq

one : 0 < 1
one = omega arith

two : 0 < 2
two = omega arith

past : (n k : ℕ) → 0 < k → 0 < n + k
past n k h = omega arith

four : 0 < 4
four = omega arith

comment_length : (bs : List ℕ) → 0 < (comment_at bs).1
unfolding comment_at
comment_length bs = either _ _ _ (past _ 4 four) (past _ 2 two)

quote_length : (q : ℕ) (bs : List ℕ) → 0 < (quote_at q bs).1
unfolding quote_at
quote_length q bs = either _ _ _ (past _ 2 two) (past _ 1 one)

sign_length : (b : ℕ) (bs : List ℕ) → 0 < (sign_at b bs).1
unfolding sign_at
sign_length b [] = either _ _ _ one one
sign_length b (c ∷ cs) =
    let alone : PieceKind × ℕ = if b == 33 then (piece.Stray, 1) else (piece.Sign, 1) in
    either (is_double_sign b c) (piece.Sign, 2) alone two (either (b == 33) (piece.Stray, 1) (piece.Sign, 1) one one)

word_length : (before : PieceKind) (b : ℕ) (bs : List ℕ) → 0 < (word_at before b bs).1
unfolding word_at
word_length before b bs = either _ _ _ one (past _ 1 one)

-- no piece is empty
piece_length : (before : PieceKind) (b : ℕ) (bs : List ℕ) → 0 < (piece_at before b bs).1
unfolding piece_at
piece_length before b bs =
    let signs : PieceKind × ℕ = if is_sign_byte b then sign_at b bs else word_at before b bs in
    let quotes : PieceKind × ℕ = if is_quote b then quote_at b bs else signs in
    let comments : PieceKind × ℕ = if opens_comment b bs then comment_at (drop 1 bs) else quotes in
    let lines : PieceKind × ℕ = if b == 42 && is_line_end before then (piece.Comment, run_len ends_line bs + 1) else comments in
    let blanks : PieceKind × ℕ = if is_blank b then (piece.Blank, 1) else lines in
    either (b == 10) (piece.LineEnd, 1) blanks one
    (either (is_blank b) (piece.Blank, 1) lines one
    (either (b == 42 && is_line_end before) (piece.Comment, run_len ends_line bs + 1) comments (past (run_len ends_line bs) 1 one)
    (either (opens_comment b bs) (comment_at (drop 1 bs)) quotes (comment_length (drop 1 bs))
    (either (is_quote b) (quote_at b bs) signs (quote_length b bs)
    (either (is_sign_byte b) (sign_at b bs) (word_at before b bs) (sign_length b bs) (word_length before b bs))))))

front_length : (n b : ℕ) (bs : List ℕ) → 0 < n → 0 < length (take n (b ∷ bs))
front_length n b bs h = grind (arith, length-take n (b ∷ bs))

abbrev AreFull : List Piece → Type 0
AreFull [] = Unit {0}
AreFull (piece ∷ pieces) = (0 < length piece.bytes) × AreFull pieces

all_full : (skip : ℕ) (before : PieceKind) (bs : List ℕ) → AreFull (pieces_after skip before bs)
unfolding pieces_after
all_full skip before [] = tt
all_full (suc skip) before (b ∷ bs) = all_full skip before bs
all_full zero before (b ∷ bs) = (front_length (piece_at before b bs).1 b bs (piece_length before b bs), all_full ((piece_at before b bs).1 - 1) (piece_at before b bs).0 bs)

-- spans, each behind the one before it
abbrev Spanned : ℕ → List Span → Type 0
Spanned from [] = Unit {0}
Spanned from (span ∷ spans) = (from ≤ span.from) × Spanned (suc span.from) spans

sooner : (from later : ℕ) (spans : List Span) → from ≤ later → Spanned later spans → Spanned from spans
sooner from later [] e h = tt
sooner from later (span ∷ spans) e h = let here : later ≤ span.from = h.0 in (omega arith, h.1)

by_kind : (b : Bool) (at : ℕ) (span : Span) (len : ℕ) (spans : List Span) → span.from ≡ at → 0 < len → Spanned (at + len) spans → Spanned at (if b then span ∷ spans else spans)
by_kind true at span len spans e full h = (omega arith, sooner (suc span.from) (at + len) spans (omega arith) h)
by_kind false at span len spans e full h = sooner at (at + len) spans (omega arith) h

all_spanned : (at : ℕ) (pieces : List Piece) → AreFull pieces → Spanned at (spans_from at pieces)
unfolding spans_from
all_spanned at [] h = tt
all_spanned at (piece ∷ pieces) h = by_kind (is_token piece.kind) at (record { kind = piece.kind; from = at; to = at + length piece.bytes }) (length piece.bytes) (spans_from (at + length piece.bytes) pieces) refl h.0
    (all_spanned (at + length piece.bytes) pieces h.1)

-- their tokens
seen_place : (kind : PieceKind) (at : ℕ) (bytes : List ℕ) → place_of (seen_token kind at bytes) ≡ at
seen_place piece.Word at bytes = refl
seen_place piece.Quoted at bytes = refl
seen_place _ at bytes = refl

seen_keyed : (kind : PieceKind) (at : ℕ) (bytes : List ℕ) → IsKeyed (seen_token kind at bytes)
seen_keyed piece.Word at bytes = refl
seen_keyed piece.Quoted at bytes = tt
seen_keyed _ at bytes = tt

all_placed : (text : List ℕ) (from : ℕ) (spans : List Span) → Spanned from spans → Placed from (map (token_of text) spans)
all_placed text from [] h = tt
all_placed text from (span ∷ spans) h =
    let bytes : List ℕ = slice_range text span.from span.to in
    let at : place_of (seen_token span.kind span.from bytes) ≡ span.from = seen_place span.kind span.from bytes in
    (rw at h.0, seen_keyed span.kind span.from bytes, rw at (all_placed text (suc span.from) spans h.1))

-- without the commas that read as blanks
placed_sooner : (from later : ℕ) (ts : List Token) → from ≤ later → Placed later ts → Placed from ts
placed_sooner from later [] e h = tt
placed_sooner from later (t ∷ ts) e h = let here : later ≤ place_of t = h.0 in (omega arith, h.1, h.2)

by_comma : (b : Bool) (from : ℕ) (t : Token) (ts : List Token) → from ≤ place_of t → IsKeyed t → Placed (suc (place_of t)) ts → Placed from (if b then ts else t ∷ ts)
by_comma true from t ts e own h = placed_sooner from (suc (place_of t)) ts (omega arith) h
by_comma false from t ts e own h = (e, own, h)

commas_placed : (side : Side) (from : ℕ) (ts : List Token) → Placed from ts → Placed from (without_commas side ts)
unfolding without_commas
commas_placed side from [] h = tt
commas_placed side from (t ∷ ts) h = by_comma (is_blank_comma side t) from t (without_commas (behind side t) ts) h.0 h.1 (commas_placed (behind side t) (suc (place_of t)) ts h.2)

pub text_placed : (text : List ℕ) → Placed 0 (tokens_of text)
text_placed text = commas_placed Out 0 (map (token_of text) (spans_of text)) (all_placed text 0 (spans_of text) (all_spanned 0 _ (all_full 0 piece.LineEnd text)))
