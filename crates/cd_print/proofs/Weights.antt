-- The tokens of a text are no longer than the text.
use Rattle.std.proofs.Common.{ℕ, ◌+◌, ◌-◌, ◌<◌, ◌≤◌, Bool, true, false, List, [], ◌∷◌, length, take, drop, arith, map}
use Rattle.std.specs.Prelude.{slice_range, if◌then◌else◌}
use Rattle.std.proofs.Common.{length-take}
use Rattle.cd_ast.specs.declared.piece.PieceKind.{PieceKind}
use Rattle.cd_ast.specs.declared.piece.PieceKind.TheVariants as piece
use Rattle.cd_ast.specs.Tokens.{Span, spans_of}
use Rattle.cd_ast.specs.Laws.{AreInOrder}
use Rattle.cd_grammar.specs.declared.token.Token.{Token}
use Rattle.cd_grammar.specs.declared.token.Token.TheVariants.{Word, Quoted, Mark}
use Rattle.cd_grammar.specs.Tokens.{Side, Out, inside, seen_token, token_of, behind, is_blank_comma, without_commas, tokens_of}

-- so many bytes of a token are counted: of none fewer than one
unfoldable pub weight : Token → ℕ
weight (Word at k bytes) = length bytes - 1 + 1
weight (Quoted at text) = length text + 1
weight (Mark at s) = 1

abbrev pub heft : List Token → ℕ
heft [] = 0
heft (t ∷ ts) = weight t + heft ts

taken_length : (n : ℕ) (bytes : List ℕ) → length (take n bytes) ≤ n
taken_length n bytes = grind (arith, length-take n bytes)

seen_weight : (kind : PieceKind) (at n : ℕ) (bytes : List ℕ) → length bytes ≤ n → 0 < n → weight (seen_token kind at bytes) ≤ n
unfolding weight
seen_weight piece.Word at n bytes h some = omega arith
seen_weight piece.Quoted at n bytes h some = let short : length (inside bytes) ≤ length bytes - 2 = taken_length (length bytes - 2) (drop 1 bytes) in omega arith
seen_weight _ at n bytes h some = omega arith

span_weight : (text : List ℕ) (span : Span) → span.from < span.to → weight (token_of text span) ≤ span.to - span.from
span_weight text span h = seen_weight span.kind span.from (span.to - span.from) (slice_range text span.from span.to) (taken_length (span.to - span.from) (drop span.from text)) (omega arith)

all_weigh : (text : List ℕ) (from to : ℕ) (spans : List Span) → AreInOrder from spans to → heft (map (token_of text) spans) + from ≤ to
all_weigh text from to [] h = omega arith
all_weigh text from to (span ∷ spans) h =
    let before : from ≤ span.from = h.0 in
    let some : span.from < span.to = h.1 in
    let here : weight (token_of text span) ≤ span.to - span.from = span_weight text span some in
    let later : heft (map (token_of text) spans) + span.to ≤ to = all_weigh text span.to to spans h.2 in
    omega arith

by_comma : (b : Bool) (t : Token) (ts : List Token) (n : ℕ) → heft ts ≤ n → heft (if b then ts else t ∷ ts) ≤ weight t + n
by_comma true t ts n h = omega arith
by_comma false t ts n h = omega arith

fewer_weigh : (side : Side) (ts : List Token) → heft (without_commas side ts) ≤ heft ts
unfolding without_commas
fewer_weigh side [] = omega arith
fewer_weigh side (t ∷ ts) = by_comma (is_blank_comma side t) t (without_commas (behind side t) ts) (heft ts) (fewer_weigh (behind side t) ts)

pub text_weighs : (text : List ℕ) → AreInOrder 0 (spans_of text) (length text) → heft (tokens_of text) ≤ length text
text_weighs text order =
    let whole : heft (map (token_of text) (spans_of text)) + 0 ≤ length text = all_weigh text 0 (length text) (spans_of text) order in
    let fewer : heft (tokens_of text) ≤ heft (map (token_of text) (spans_of text)) = fewer_weigh Out (map (token_of text) (spans_of text)) in
    omega arith
