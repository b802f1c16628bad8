-- How the pieces of a print are cut, and what tokens they are.
use Rattle.std.proofs.Common.{◌≡◌, ℕ, suc, ◌+◌, ◌-◌, Bool, true, false, not, ◌&&◌, ◌||◌, List, [], ◌∷◌, ◌++◌, append_assoc, length, length-append, take, drop, refl, ap, sym, subst, ◌∙◌, arith, if◌then◌else◌, nat_lt, map}
use Rattle.std.specs.Prelude.{◌==◌, slice_range}
use Rattle.std.specs.List.{list_all, list_any}
use Rattle.std.proofs.Math.Seq.{drop-append_seam, take-append_seam}
use Rattle.cd_ast.specs.declared.piece.PieceKind.{PieceKind}
use Rattle.cd_ast.specs.declared.piece.PieceKind.TheVariants as piece
use Rattle.cd_ast.specs.Bytes.{is_blank, is_quote, is_sign_byte, is_word_byte, is_double_sign, opens_comment}
use Rattle.cd_ast.specs.Pieces.{Piece, run_len, ends_line, ends_quote, ends_word, is_gap, is_line_end, is_rest_blank, comment_at, quote_at, sign_at, word_at, piece_at, pieces_after, bytes_of}
use Rattle.cd_ast.specs.Tokens.{Span, is_token, spans_from}
use Rattle.cd_grammar.specs.declared.token.Token.{Token}
use Rattle.cd_grammar.specs.Tokens.{inside, seen_token, token_of}

-- the tokens of pieces, the first of which begins at a place
unfoldable pub tokens_from : ℕ → List Piece → List Token
tokens_from at [] = []
tokens_from at (piece ∷ pieces) = if is_token piece.kind then seen_token piece.kind at piece.bytes ∷ tokens_from (at + length piece.bytes) pieces else tokens_from (at + length piece.bytes) pieces

slice_behind : (front bytes rest : List ℕ) → slice_range (front ++ (bytes ++ rest)) (length front) (length front + length bytes) ≡ bytes
slice_behind front bytes rest =
    let e : (length front + length bytes - length front ≡ length bytes) = omega arith in
    rw (e, drop-append_seam front (bytes ++ rest), take-append_seam bytes rest) refl

by_kind : (text : List ℕ) (kind : PieceKind) (from to : ℕ) (bytes : List ℕ) (spans : List Span) (tokens : List Token) (t : Bool) → slice_range text from to ≡ bytes → map (token_of text) spans ≡ tokens
    → map (token_of text) (if t then record { kind = kind; from = from; to = to } ∷ spans else spans) ≡ (if t then seen_token kind from bytes ∷ tokens else tokens)
by_kind text kind from to bytes spans tokens true e ih = rw (e, ih) refl
by_kind text kind from to bytes spans tokens false e ih = ih

pub spans_are : (front : List ℕ) (pieces : List Piece) (text : List ℕ) (at : ℕ) → text ≡ front ++ bytes_of pieces → at ≡ length front → map (token_of text) (spans_from at pieces) ≡ tokens_from at pieces
unfolding spans_from bytes_of tokens_from
spans_are front [] text at e p = refl
spans_are front (piece ∷ pieces) text at e p =
    by_kind text piece.kind at (at + length piece.bytes) piece.bytes (spans_from (at + length piece.bytes) pieces) (tokens_from (at + length piece.bytes) pieces) (is_token piece.kind)
    (rw (e, p) (slice_behind front piece.bytes (bytes_of pieces)))
    (spans_are (front ++ piece.bytes) pieces text (at + length piece.bytes) (e ∙ sym (append_assoc front piece.bytes (bytes_of pieces))) (omega (arith, p, length-append front piece.bytes)))

-- a piece at the front
pieces_skip : (front rest : List ℕ) (kind : PieceKind) → pieces_after (length front) kind (front ++ rest) ≡ pieces_after 0 kind rest
unfolding pieces_after
pieces_skip [] rest kind = refl
pieces_skip (b ∷ front) rest kind = pieces_skip front rest kind

abbrev pub Cut : Type 0
Cut = PieceKind × ℕ

abbrev pub cut_as : PieceKind → ℕ → Cut
cut_as kind n = (kind, n)

front_is : (front rest : List ℕ) (b n : ℕ) → n ≡ suc (length front) → take n (b ∷ (front ++ rest)) ≡ b ∷ front
front_is front rest b n e = rw e (ap (λ (x : List ℕ). b ∷ x) (take-append_seam front rest))

pub piece_is : (before kind : PieceKind) (b : ℕ) (front rest : List ℕ) → piece_at before b (front ++ rest) ≡ cut_as kind (suc (length front))
    → pieces_after 0 before (b ∷ (front ++ rest)) ≡ record { kind = kind; bytes = b ∷ front } ∷ pieces_after 0 kind rest
unfolding pieces_after
piece_is before kind b front rest e =
    let gone : suc (length front) - 1 ≡ length front = omega arith in
    rw e (rw (front_is front rest b (suc (length front)) refl) (rw gone (rw (pieces_skip front rest kind) refl)))

-- which byte it is not
no_comment : (a : ℕ) (bs : List ℕ) → (a == 47) ≡ false → opens_comment a bs ≡ false
unfolding opens_comment
no_comment a [] e = refl
no_comment a (b ∷ bs) e = rw e refl

pub blank_piece : (before : PieceKind) (rest : List ℕ) → pieces_after 0 before (32 ∷ rest) ≡ record { kind = piece.Blank; bytes = 32 ∷ [] } ∷ pieces_after 0 piece.Blank rest
unfolding piece_at is_blank
blank_piece before rest = piece_is before piece.Blank 32 [] rest refl

pub line_piece : (before : PieceKind) (rest : List ℕ) → pieces_after 0 before (10 ∷ rest) ≡ record { kind = piece.LineEnd; bytes = 10 ∷ [] } ∷ pieces_after 0 piece.LineEnd rest
unfolding piece_at is_blank
line_piece before rest = piece_is before piece.LineEnd 10 [] rest refl

-- a sign
abbrev pub begins_equal : List ℕ → Bool
begins_equal [] = false
begins_equal (b ∷ bs) = b == 61

and_false : (a : Bool) → (a && false) ≡ false
and_false true = refl
and_false false = refl

sign_alone : (b : ℕ) (rest : List ℕ) → (b == 33) ≡ false → (b == 60) ≡ false → begins_equal rest ≡ false → sign_at b rest ≡ cut_as piece.Sign 1
unfolding sign_at is_double_sign
sign_alone b [] e e2 e3 = rw e refl
sign_alone b (c ∷ cs) e e2 e3 = rw e3 (rw e2 (rw e refl))

abbrev pub is_lone_sign : ℕ → Bool
is_lone_sign b = b == 40 || b == 41 || b == 61 || b == 44

lone_is : (b : ℕ) (P : ℕ → Type 0) → is_lone_sign b ≡ true → P 40 → P 41 → P 61 → P 44 → P b
lone_is b P e p q r s = go (b == 40) (b == 41) (b == 61) (b == 44) refl refl refl refl e
  where
    same : (n : ℕ) → (b == n) ≡ true → b ≡ n
    same n e2 = grind arith

    go : (t u v w : Bool) → (b == 40) ≡ t → (b == 41) ≡ u → (b == 61) ≡ v → (b == 44) ≡ w → (t || u || v || w) ≡ true → P b
    go true u v w f g h i e2 = subst P (sym (same 40 f)) p
    go false true v w f g h i e2 = subst P (sym (same 41 g)) q
    go false false true w f g h i e2 = subst P (sym (same 61 h)) r
    go false false false true f g h i e2 = subst P (sym (same 44 i)) s
    go false false false false f g h i e2 = absurd cc

by_lone : (before : PieceKind) (b : ℕ) (rest : List ℕ) → opens_comment b rest ≡ false → sign_at b rest ≡ cut_as piece.Sign 1 → is_lone_sign b ≡ true → piece_at before b rest ≡ cut_as piece.Sign 1
unfolding piece_at is_blank is_quote is_sign_byte
by_lone before b rest e e2 lone = lone_is b (λ n. opens_comment n rest ≡ false → sign_at n rest ≡ cut_as piece.Sign 1 → piece_at before n rest ≡ cut_as piece.Sign 1) lone
    (λ h k. rw h k) (λ h k. rw h k) (λ h k. rw h k) (λ h k. rw h k) e e2

pub sign_piece : (before : PieceKind) (b : ℕ) (rest : List ℕ) → is_lone_sign b ≡ true → begins_equal rest ≡ false → pieces_after 0 before (b ∷ rest) ≡ record { kind = piece.Sign; bytes = b ∷ [] } ∷ pieces_after 0 piece.Sign rest
sign_piece before b rest lone e =
    let one : (b == 47) ≡ false = lone_is b (λ n. (n == 47) ≡ false) lone refl refl refl refl in
    let two : (b == 33) ≡ false = lone_is b (λ n. (n == 33) ≡ false) lone refl refl refl refl in
    let three : (b == 60) ≡ false = lone_is b (λ n. (n == 60) ≡ false) lone refl refl refl refl in
    piece_is before piece.Sign b [] rest (by_lone before b rest (no_comment b rest one) (sign_alone b rest two three e) lone)

-- a quoted text
abbrev pub has_byte : ℕ → List ℕ → Bool
has_byte q body = list_any (λ b. b == q) body

quote_run : (q : ℕ) (body rest : List ℕ) → has_byte q body ≡ false → (q == q) ≡ true → run_len (ends_quote q) (body ++ q ∷ rest) ≡ length body
unfolding run_len ends_quote
quote_run q [] rest e own = rw own refl
quote_run q (b ∷ body) rest e own = by_first (b == q) (has_byte q body) e (λ e2. quote_run q body rest e2 own)
  where
    by_first : (t u : Bool) → (t || u) ≡ false → (u ≡ false → run_len (ends_quote q) (body ++ q ∷ rest) ≡ length body) → (if t then 0 else run_len (ends_quote q) (body ++ q ∷ rest) + 1) ≡ suc (length body)
    by_first true u e2 f = absurd cc
    by_first false u e2 f = let n : run_len (ends_quote q) (body ++ q ∷ rest) ≡ length body = f e2 in omega arith

quote_cut : (q : ℕ) (body rest : List ℕ) → has_byte q body ≡ false → (q == q) ≡ true → quote_at q (body ++ q ∷ rest) ≡ cut_as piece.Quoted (length body + 2)
unfolding quote_at
quote_cut q body rest e own =
    let long : length (body ++ q ∷ rest) ≡ length body + suc (length rest) = length-append body (q ∷ rest) in
    let less : nat_lt (length body) (length body + suc (length rest)) ≡ true = grind arith in
    rw (quote_run q body rest e own) (rw long (rw less refl))

abbrev pub is_quote_byte : ℕ → Bool
is_quote_byte q = q == 34 || q == 39

quote_is : (q : ℕ) (P : ℕ → Type 0) → is_quote_byte q ≡ true → P 34 → P 39 → P q
quote_is q P e p r = go (q == 34) (q == 39) refl refl e
  where
    same : (n : ℕ) → (q == n) ≡ true → q ≡ n
    same n e2 = grind arith

    go : (t u : Bool) → (q == 34) ≡ t → (q == 39) ≡ u → (t || u) ≡ true → P q
    go true u f g e2 = subst P (sym (same 34 f)) p
    go false true f g e2 = subst P (sym (same 39 g)) r
    go false false f g e2 = absurd cc

by_quote : (before : PieceKind) (q : ℕ) (bs : List ℕ) (cut : Cut) → opens_comment q bs ≡ false → quote_at q bs ≡ cut → is_quote_byte q ≡ true → piece_at before q bs ≡ cut
unfolding piece_at is_blank is_quote is_sign_byte
by_quote before q bs cut e e2 is = quote_is q (λ n. opens_comment n bs ≡ false → quote_at n bs ≡ cut → piece_at before n bs ≡ cut) is (λ h k. rw h k) (λ h k. rw h k) e e2

pub quoted_piece : (before : PieceKind) (q : ℕ) (body rest : List ℕ) → is_quote_byte q ≡ true → has_byte q body ≡ false
    → pieces_after 0 before (q ∷ (body ++ q ∷ rest)) ≡ record { kind = piece.Quoted; bytes = q ∷ (body ++ q ∷ []) } ∷ pieces_after 0 piece.Quoted rest
quoted_piece before q body rest is e =
    let own : (q == q) ≡ true = quote_is q (λ n. (n == n) ≡ true) is refl refl in
    let none : (q == 47) ≡ false = quote_is q (λ n. (n == 47) ≡ false) is refl refl in
    let whole : (body ++ q ∷ []) ++ rest ≡ body ++ q ∷ rest = append_assoc body (q ∷ []) rest in
    let long : length (body ++ q ∷ []) ≡ length body + 1 = length-append body (q ∷ []) in
    let size : length body + 2 ≡ suc (length (body ++ q ∷ [])) = omega arith in
    let cut : piece_at before q (body ++ q ∷ rest) ≡ cut_as piece.Quoted (length body + 2) = by_quote before q (body ++ q ∷ rest) _ (no_comment q _ none) (quote_cut q body rest e own) is in
    subst (λ (x : List ℕ). pieces_after 0 before (q ∷ x) ≡ record { kind = piece.Quoted; bytes = q ∷ (body ++ q ∷ []) } ∷ pieces_after 0 piece.Quoted rest) whole
    (piece_is before piece.Quoted q (body ++ q ∷ []) rest (ap (λ (x : List ℕ). piece_at before q x) whole ∙ (cut ∙ ap (cut_as piece.Quoted) size)))

pub inside_is : (q : ℕ) (body : List ℕ) → inside (q ∷ (body ++ q ∷ [])) ≡ body
inside_is q body =
    let long : length (body ++ q ∷ []) ≡ length body + 1 = length-append body (q ∷ []) in
    let n : suc (length (body ++ q ∷ [])) - 2 ≡ length body = omega arith in
    ap (λ (m : ℕ). take m (body ++ q ∷ [])) n ∙ take-append_seam body (q ∷ [])

-- a word: of bytes of which words are made, without a *
abbrev pub is_plain : ℕ → Bool
is_plain b = is_word_byte b && not (b == 42)

abbrev pub stops : List ℕ → Bool
stops [] = false
stops (b ∷ bs) = not (is_word_byte b)

first_part : (a b : Bool) → (a && b) ≡ true → a ≡ true
first_part true b e = refl
first_part false b e = absurd cc

second_part : (a b : Bool) → (a && b) ≡ true → b ≡ true
second_part true b e = e
second_part false b e = absurd cc

not_true : (a : Bool) → not a ≡ true → a ≡ false
not_true true e = absurd cc
not_true false e = refl

star_word : not (is_word_byte 42) ≡ true → ⊥
unfolding is_word_byte is_blank is_quote is_sign_byte
star_word e = cc

line_blank : (c : ℕ) → (c == 10) ≡ true → is_blank c ≡ true
unfolding is_blank
line_blank c e = let same : c ≡ 10 = grind arith in rw same refl

no_star : (b : ℕ) → not (is_word_byte b) ≡ true → (b == 42) ≡ false
no_star b e = go (b == 42) refl
  where
    same : (b == 42) ≡ true → b ≡ 42
    same e2 = grind arith

    go : (t : Bool) → (b == 42) ≡ t → t ≡ false
    go true f = absurd (star_word (subst (λ (n : ℕ). not (is_word_byte n) ≡ true) (same f) e))
    go false f = refl

no_opening : (b : ℕ) (w rest : List ℕ) → list_all is_plain w ≡ true → stops rest ≡ true → opens_comment b (w ++ rest) ≡ false
unfolding opens_comment
no_opening b [] [] e e2 = refl
no_opening b [] (c ∷ cs) e e2 = rw (no_star c e2) (and_false (b == 47))
no_opening b (c ∷ w) rest e e2 = rw (not_true (c == 42) (second_part (is_word_byte c) _ (first_part (is_plain c) _ e))) (and_false (b == 47))

word_run : (w rest : List ℕ) → list_all is_plain w ≡ true → stops rest ≡ true → run_len ends_word (w ++ rest) ≡ length w
unfolding run_len ends_word
word_run [] [] e e2 = absurd cc
word_run [] (c ∷ cs) e e2 = rw e2 refl
word_run (b ∷ w) rest e e2 =
    let more : list_all is_plain w ≡ true = second_part (is_plain b) _ e in
    let n : run_len ends_word (w ++ rest) ≡ length w = word_run w rest more e2 in
    rw (first_part (is_word_byte b) _ (first_part (is_plain b) _ e)) (rw (no_opening b w rest more e2) (omega arith))

-- a - alone behind a gap isn't such a word
abbrev pub may_begin : PieceKind → ℕ → Bool
may_begin before b = not (b == 45 && is_gap before)

word_first : (before : PieceKind) (b : ℕ) (w rest : List ℕ) → is_word_byte b ≡ true → (b == 42) ≡ false → may_begin before b ≡ true → opens_comment b (w ++ rest) ≡ false → run_len ends_word (w ++ rest) ≡ length w
    → piece_at before b (w ++ rest) ≡ cut_as piece.Word (suc (length w))
unfolding piece_at word_at is_word_byte
word_first before b w rest e star begins e2 e3 =
    by_byte (is_blank b) (is_quote b) (is_sign_byte b) (b == 10) (b == 45) (run_len ends_word (w ++ rest) == 0) (is_gap before) (is_rest_blank 0 (w ++ rest)) (line_blank b) e begins
  where
    by_dash : (d z gap r : Bool) → not (d && gap) ≡ true → (if d && z && gap && r then (piece.Dash, 1) else (piece.Word, run_len ends_word (w ++ rest) + 1)) ≡ cut_as piece.Word (suc (length w))
    by_dash true z true r f = absurd cc
    by_dash true true false r f = let n : run_len ends_word (w ++ rest) + 1 ≡ suc (length w) = omega arith in ap (cut_as piece.Word) n
    by_dash true false false r f = let n : run_len ends_word (w ++ rest) + 1 ≡ suc (length w) = omega arith in ap (cut_as piece.Word) n
    by_dash false z gap r f = let n : run_len ends_word (w ++ rest) + 1 ≡ suc (length w) = omega arith in ap (cut_as piece.Word) n

    by_byte : (blank quote sign line d z gap r : Bool) → (line ≡ true → blank ≡ true) → (not blank && not quote && not sign) ≡ true → not (d && gap) ≡ true
        → (if line then (piece.LineEnd, 1) else (if blank then (piece.Blank, 1) else (if b == 42 && is_line_end before then (piece.Comment, run_len ends_line (w ++ rest) + 1) else (if opens_comment b (w ++ rest) then comment_at (drop 1 (w ++ rest)) else (if quote then quote_at b (w ++ rest) else (if sign then sign_at b (w ++ rest) else (if d && z && gap && r then (piece.Dash, 1) else (piece.Word, run_len ends_word (w ++ rest) + 1)))))))) ≡ cut_as piece.Word (suc (length w))
    by_byte true quote sign line d z gap r f g h = absurd cc
    by_byte false true sign line d z gap r f g h = absurd cc
    by_byte false false true line d z gap r f g h = absurd cc
    by_byte false false false true d z gap r f g h = absurd (let x : false ≡ true = f refl in cc)
    by_byte false false false false d z gap r f g h = rw star (rw e2 (by_dash d z gap r h))

abbrev pub begins_well : PieceKind → List ℕ → Bool
begins_well before [] = false
begins_well before (b ∷ w) = may_begin before b

pub word_piece : (before : PieceKind) (w rest : List ℕ) → list_all is_plain w ≡ true → begins_well before w ≡ true → stops rest ≡ true → pieces_after 0 before (w ++ rest) ≡ record { kind = piece.Word; bytes = w } ∷ pieces_after 0 piece.Word rest
word_piece before [] rest e e2 e3 = absurd cc
word_piece before (b ∷ w) rest e e2 e3 =
    let more : list_all is_plain w ≡ true = second_part (is_plain b) _ e in
    let own : is_plain b ≡ true = first_part (is_plain b) _ e in
    piece_is before piece.Word b w rest (word_first before b w rest (first_part (is_word_byte b) _ own) (not_true (b == 42) (second_part (is_word_byte b) _ own)) e2 (no_opening b w rest more e3) (word_run w rest more e3))
