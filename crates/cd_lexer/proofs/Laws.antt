-- The laws of tokens and of substitution.
use Rattle.std.proofs.Common.{◌≡◌, ℕ, zero, suc, ◌+◌, ◌-◌, ◌<◌, ◌≤◌, Bool, true, false, ◌&&◌, ◌||◌, List, [], ◌∷◌, ◌++◌, length, take, Option, Some, None, Result, Ok, Err, refl, ap, ◌∙◌, sym, arith, append_assoc, append-nil, add_assoc, length-append}
use Rattle.std.specs.Prelude.{if◌then◌else◌, ◌==◌, slice_range, unwrap_or}
use Rattle.std.specs.List.{list_any, flat_map}
use Rattle.std.proofs.Math.Seq.{drop-append_seam, take-append_seam}
use Rattle.std.proofs.lemmas.Grind.{flat_map-append}
use Rattle.cd_ast.specs.declared.piece.PieceKind.{PieceKind}
use Rattle.cd_ast.specs.Pieces.{Piece, pieces_after, pieces_of, piece_at, bytes_of}
use Rattle.cd_ast.specs.Tokens.{Span, is_token, spans_from, spans_of}
use Rattle.cd_ast.specs.Subst.{Part, part_at, parts_after, piece_parts, parts_of, is_read, is_word, begins_with, given_for, before_all, substituted, subst}
use Rattle.cd_ast.specs.Laws.{AreInOrder, slices, token_bytes, HaveNoAmpersand, bytes_of_parts, given_bytes}
use Rattle.cd_lexer.proofs.Whole.{piece_at-length, bytes_of-pieces_after, parts_bytes, parts_bytes-parts_after}

-- no piece is empty
abbrev AreFull : List Piece → Type 0
AreFull [] = Unit {0}
AreFull (piece ∷ pieces) = (0 < length piece.bytes) × AreFull pieces

full_front : (n b : ℕ) (bs : List ℕ) → 0 < n → 0 < length (take n (b ∷ bs))
full_front zero b bs h = absurd (omega arith)
full_front (suc n) b bs h = omega arith

pieces_after-full : (n : ℕ) (before : PieceKind) (bs : List ℕ) → AreFull (pieces_after n before bs)
unfolding pieces_after
pieces_after-full n before [] = tt
pieces_after-full (suc n) before (b ∷ bs) = pieces_after-full n before bs
pieces_after-full zero before (b ∷ bs) = (full_front (piece_at before b bs).1 b bs (piece_at-length before b bs), pieces_after-full ((piece_at before b bs).1 - 1) (piece_at before b bs).0 bs)

order-weaker : (from later to : ℕ) (spans : List Span) → from ≤ later → AreInOrder later spans to → AreInOrder from spans to
order-weaker from later to [] h order = omega arith
order-weaker from later to (span ∷ spans) h order = (omega arith, order.1, order.2)

order-cases : (at len to : ℕ) (kind : PieceKind) (spans : List Span) (t : Bool) → 0 < len → AreInOrder (at + len) spans to → AreInOrder at (if t then record { kind = kind; from = at; to = at + len } ∷ spans else spans) to
order-cases at len to kind spans true h order = (omega arith, omega arith, order)
order-cases at len to kind spans false h order = order-weaker at (at + len) to spans (omega arith) order

order-spans_from : (at to : ℕ) (pieces : List Piece) → AreFull pieces → to ≡ at + length (bytes_of pieces) → AreInOrder at (spans_from at pieces) to
unfolding spans_from bytes_of
order-spans_from at to [] full e = omega arith
order-spans_from at to (piece ∷ pieces) full e =
    order-cases at (length piece.bytes) to piece.kind (spans_from (at + length piece.bytes) pieces) (is_token piece.kind) full.0
    (order-spans_from (at + length piece.bytes) to pieces full.1 (e ∙ rw (length-append piece.bytes (bytes_of pieces), ← add_assoc at (length piece.bytes) (length (bytes_of pieces))) refl))

pub pieces-whole : (text : List ℕ) → bytes_of (pieces_of text) ≡ text
pieces-whole text = bytes_of-pieces_after 0 _ text

pub tokens-order : (text : List ℕ) → AreInOrder 0 (spans_of text) (length text)
tokens-order text = order-spans_from 0 (length text) (pieces_of text) (pieces_after-full 0 _ text) (omega (arith, ap length (pieces-whole text)))

-- the slice behind a front
slice-behind : (front bytes rest : List ℕ) → slice_range (front ++ (bytes ++ rest)) (length front) (length front + length bytes) ≡ bytes
slice-behind front bytes rest =
    let e : (length front + length bytes - length front ≡ length bytes) = omega arith in
    rw (e, drop-append_seam front (bytes ++ rest), take-append_seam bytes rest) refl

slices-cases : (text : List ℕ) (kind : PieceKind) (from to : ℕ) (bytes : List ℕ) (spans : List Span) (pieces : List Piece) (t : Bool) → slice_range text from to ≡ bytes → slices text spans ≡ token_bytes pieces
    → slices text (if t then record { kind = kind; from = from; to = to } ∷ spans else spans) ≡ (if t then bytes ∷ token_bytes pieces else token_bytes pieces)
slices-cases text kind from to bytes spans pieces true e ih = rw (e, ih) refl
slices-cases text kind from to bytes spans pieces false e ih = ih

token_bytes-cases : (piece : Piece) (pieces : List Piece) (t : Bool) → is_token piece.kind ≡ t → token_bytes (piece ∷ pieces) ≡ (if t then piece.bytes ∷ token_bytes pieces else token_bytes pieces)
token_bytes-cases piece pieces true e = rw e refl
token_bytes-cases piece pieces false e = rw e refl

slices-spans_from : (front : List ℕ) (pieces : List Piece) (text : List ℕ) (at : ℕ) → text ≡ front ++ bytes_of pieces → at ≡ length front → slices text (spans_from at pieces) ≡ token_bytes pieces
unfolding spans_from bytes_of
slices-spans_from front [] text at e p = refl
slices-spans_from front (piece ∷ pieces) text at e p =
    slices-cases text piece.kind at (at + length piece.bytes) piece.bytes (spans_from (at + length piece.bytes) pieces) pieces (is_token piece.kind)
    (rw (e, p) (slice-behind front piece.bytes (bytes_of pieces)))
    (slices-spans_from (front ++ piece.bytes) pieces text (at + length piece.bytes) (e ∙ sym (append_assoc front piece.bytes (bytes_of pieces))) (omega (arith, p, length-append front piece.bytes)))
    ∙ sym (token_bytes-cases piece pieces (is_token piece.kind) refl)

pub tokens-slices : (text : List ℕ) → slices text (spans_of text) ≡ token_bytes (pieces_of text)
tokens-slices text = slices-spans_from [] (pieces_of text) text 0 (sym (bytes_of-pieces_after 0 _ text)) refl

-- the parts of a text are the whole text
parts_bytes-is : (parts : List Part) → bytes_of_parts parts ≡ parts_bytes parts
unfolding parts_bytes
parts_bytes-is [] = refl
parts_bytes-is (part ∷ parts) = ap (λ bytes. part.bytes ++ bytes) (parts_bytes-is parts)

piece_parts-whole : (kind : PieceKind) (bytes behind : List ℕ) (t : Bool) → is_read kind bytes ≡ t → bytes_of_parts (piece_parts kind bytes behind) ≡ bytes
unfolding piece_parts
piece_parts-whole kind bytes behind true e = rw e (parts_bytes-is (parts_after (is_word kind && begins_with 61 behind) 0 bytes) ∙ parts_bytes-parts_after (is_word kind && begins_with 61 behind) 0 bytes)
piece_parts-whole kind bytes behind false e = rw e (append-nil bytes)

parts_of-whole : (pieces : List Piece) → bytes_of_parts (parts_of pieces) ≡ bytes_of pieces
unfolding parts_of bytes_of
parts_of-whole [] = refl
parts_of-whole (piece ∷ pieces) =
    flat_map-append (λ (part : Part). part.bytes) (piece_parts piece.kind piece.bytes (bytes_of pieces)) (parts_of pieces)
    ∙ rw (piece_parts-whole piece.kind piece.bytes (bytes_of pieces) (is_read piece.kind piece.bytes) refl, parts_of-whole pieces) refl

pub parts-whole : (text : List ℕ) → bytes_of_parts (parts_of (pieces_of text)) ≡ text
parts-whole text = parts_of-whole (pieces_of text) ∙ pieces-whole text

-- each part gives way once
once-part : (given : Option (List ℕ)) (at : ℕ) (later : Result (List ℕ) ℕ) (out rest : List ℕ) → before_all given at later ≡ Ok out → ((out' : List ℕ) → later ≡ Ok out' → out' ≡ rest) → out ≡ unwrap_or given [] ++ rest
once-part None at later out rest e ih = cc
once-part (Some bytes) at (Err place) out rest e ih = cc
once-part (Some bytes) at (Ok done) out rest e ih = let same : (out ≡ bytes ++ done) = cc in same ∙ ap (λ r. bytes ++ r) (ih done refl)

once-parts : (symbols : List (List ℕ × List ℕ)) (at : ℕ) (parts : List Part) (out : List ℕ) → substituted symbols at parts ≡ Ok out → out ≡ flat_map (given_bytes symbols) parts
unfolding substituted
once-parts symbols at [] out e = cc
once-parts symbols at (part ∷ parts) out e =
    once-part (given_for symbols part.bytes part.name) at (substituted symbols (at + length part.bytes) parts) out (flat_map (given_bytes symbols) parts) e (once-parts symbols (at + length part.bytes) parts)

pub subst-once : (text out : List ℕ) (symbols : List (List ℕ × List ℕ)) → subst text symbols ≡ Ok out → out ≡ flat_map (given_bytes symbols) (parts_of (pieces_of text))
subst-once text out symbols e = once-parts symbols 0 (parts_of (pieces_of text)) out e

-- without a name each part gives way to itself
abbrev ArePlain : List Part → Type 0
ArePlain [] = Unit {0}
ArePlain (part ∷ parts) = (part.name ≡ None) × ArePlain parts

plain-append : (parts others : List Part) → ArePlain parts → ArePlain others → ArePlain (parts ++ others)
plain-append [] others p q = q
plain-append (part ∷ parts) others p q = (p.0, plain-append parts others p.1 q)

plain-same : (symbols : List (List ℕ × List ℕ)) (at : ℕ) (parts : List Part) → ArePlain parts → substituted symbols at parts ≡ Ok (bytes_of_parts parts)
unfolding substituted
plain-same symbols at [] plain = refl
plain-same symbols at (part ∷ parts) plain = rw (plain.0, plain-same symbols (at + length part.bytes) parts plain.1) refl

or_false : (s t : Bool) → (s || t) ≡ false → (s ≡ false) × (t ≡ false)
or_false true t e = cc
or_false false t e = (refl, e)

part_at-plain : (defines : Bool) (b : ℕ) (bs : List ℕ) → (b == 38) ≡ false → (part_at defines b bs).1 ≡ None
unfolding part_at
part_at-plain defines b bs e = rw e refl

parts_after-plain : (defines : Bool) (n : ℕ) (bs : List ℕ) → list_any (λ b. b == 38) bs ≡ false → ArePlain (parts_after defines n bs)
unfolding parts_after
parts_after-plain defines n [] e = tt
parts_after-plain defines (suc n) (b ∷ bs) e = parts_after-plain defines n bs (or_false (b == 38) (list_any (λ b. b == 38) bs) e).1
parts_after-plain defines zero (b ∷ bs) e =
    (part_at-plain defines b bs (or_false (b == 38) (list_any (λ b. b == 38) bs) e).0, parts_after-plain defines ((part_at defines b bs).0 - 1) bs (or_false (b == 38) (list_any (λ b. b == 38) bs) e).1)

piece_parts-plain : (kind : PieceKind) (bytes behind : List ℕ) (t : Bool) → is_read kind bytes ≡ t → (t ≡ true → list_any (λ b. b == 38) bytes ≡ false) → ArePlain (piece_parts kind bytes behind)
unfolding piece_parts
piece_parts-plain kind bytes behind true e plain = rw e (parts_after-plain (is_word kind && begins_with 61 behind) 0 bytes (plain refl))
piece_parts-plain kind bytes behind false e plain = rw e (refl, tt)

parts_of-plain : (pieces : List Piece) → HaveNoAmpersand pieces → ArePlain (parts_of pieces)
unfolding parts_of
parts_of-plain [] plain = tt
parts_of-plain (piece ∷ pieces) plain =
    plain-append (piece_parts piece.kind piece.bytes (bytes_of pieces)) (parts_of pieces)
    (piece_parts-plain piece.kind piece.bytes (bytes_of pieces) (is_read piece.kind piece.bytes) refl plain.0) (parts_of-plain pieces plain.1)

pub subst-same : (text : List ℕ) (symbols : List (List ℕ × List ℕ)) → HaveNoAmpersand (pieces_of text) → subst text symbols ≡ Ok text
subst-same text symbols plain = plain-same symbols 0 (parts_of (pieces_of text)) (parts_of-plain (pieces_of text) plain) ∙ ap Ok (parts-whole text)
