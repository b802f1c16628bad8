-- No token of a text has both quotes in its text, and each has good bytes.
use Rattle.std.proofs.Common.{◌≡◌, ℕ, zero, suc, ◌+◌, ◌-◌, ◌<◌, Bool, true, false, None, ◌≤◌, not, ◌&&◌, ◌||◌, List, [], ◌∷◌, length, take, drop, length-take, refl, ap, sym, subst, ◌∙◌, arith, if◌then◌else◌, nat_lt, add-one}
use Rattle.std.specs.Prelude.{◌==◌}
use Rattle.cd_ast.specs.declared.piece.PieceKind.{PieceKind}
use Rattle.cd_ast.specs.declared.piece.PieceKind.TheVariants as piece
use Rattle.cd_ast.specs.Bytes.{is_blank, is_quote, is_sign_byte, is_word_byte, is_double_sign, opens_comment, closes_comment}
use Rattle.cd_ast.specs.Pieces.{Piece, run_len, ends_line, ends_quote, ends_word, is_gap, is_line_end, is_rest_blank, comment_at, quote_at, sign_at, word_at, piece_at, pieces_after, pieces_of, bytes_of}
use Rattle.std.specs.Str.{IsCharBoundary}
use Rattle.std.proofs.lemmas.List.{drop_all}
use Rattle.std.proofs.lemmas.Str.{IsCharBoundary-from_rest}
use Rattle.cd_ast.specs.Tokens.{is_token, flaw_of}
use Rattle.cd_grammar.specs.declared.token.Token.{Token}
use Rattle.cd_grammar.specs.Tokens.{Side, Out, inside, seen_token, behind, is_blank_comma, without_commas, tokens_of}
use Rattle.cd_print.specs.Printable.{is_quotable}
use Rattle.cd_print.proofs.Cuts.{tokens_from, spans_are, has_byte, Cut, cut_as}
use Rattle.cd_print.proofs.Origin.{IsClean, AreClean, FineText}
use Rattle.cd_print.proofs.Bytes.{IsGood}
use Rattle.cd_print.proofs.Texts.{good_nil, first_is}
use Rattle.cd_print.proofs.Places.{flawless_good, front_good, back_good, tail_good, stop_place, stop_is, drop_more, is_low, blank_low, quote_low, sign_low, double_low, line_low, closes_low, ends_low, word_low, opened_good, closed_good, stopped_good}

neither : (a b : Bool) → a ≡ false → b ≡ false → (a || b) ≡ false
neither true b e e2 = absurd cc
neither false b e e2 = e2

left_is : (a b : Bool) → (a || b) ≡ false → a ≡ false
left_is true b e = absurd cc
left_is false b e = refl

-- before the end of a word there is no quote
not_quote : (b : ℕ) → is_quote b ≡ false → (b == 34) ≡ false
unfolding is_quote
not_quote b e = left_is (b == 34) (b == 39) e

word_no_quote : (blank quote sign : Bool) → (not blank && not quote && not sign) ≡ true → quote ≡ false
word_no_quote true quote sign e = absurd cc
word_no_quote false true sign e = absurd cc
word_no_quote false false sign e = refl

word_byte : (b : ℕ) → is_word_byte b ≡ true → (b == 34) ≡ false
unfolding is_word_byte
word_byte b e = not_quote b (word_no_quote (is_blank b) (is_quote b) (is_sign_byte b) e)

take_run : (t : Bool) (n c : ℕ) (cs : List ℕ) (q : ℕ) → (t ≡ false → (c == q) ≡ false) → has_byte q (take n cs) ≡ false → has_byte q (take (if t then 0 else n + 1) (c ∷ cs)) ≡ false
take_run true n c cs q e h = refl
take_run false n c cs q e h = rw (add-one n) (neither (c == q) _ (e refl) h)

not_false : (a : Bool) → not a ≡ false → a ≡ true
not_false true e = refl
not_false false e = absurd cc

word_clean : (bs : List ℕ) → has_byte 34 (take (run_len ends_word bs) bs) ≡ false
unfolding run_len ends_word
word_clean [] = refl
word_clean (c ∷ cs) = take_run (not (is_word_byte c) || opens_comment c cs) (run_len ends_word cs) c cs 34 (λ e. word_byte c (not_false (is_word_byte c) (left_is (not (is_word_byte c)) _ e))) (word_clean cs)

quote_clean : (q : ℕ) (bs : List ℕ) → has_byte q (take (run_len (ends_quote q) bs) bs) ≡ false
unfolding run_len ends_quote
quote_clean q [] = refl
quote_clean q (c ∷ cs) = take_run (c == q) (run_len (ends_quote q) cs) c cs q (λ e. e) (quote_clean q cs)

quotable_left : (body : List ℕ) → has_byte 34 body ≡ false → is_quotable body ≡ true
quotable_left body e = rw e refl

and_false : (a : Bool) → (a && false) ≡ false
and_false true = refl
and_false false = refl

quotable_right : (body : List ℕ) → has_byte 39 body ≡ false → is_quotable body ≡ true
quotable_right body e = rw e (rw (and_false (has_byte 34 body)) refl)

either_quote : (b : ℕ) → is_quote b ≡ true → (b == 34 || b == 39) ≡ true
unfolding is_quote
either_quote b e = e

dash_is : (a c d f : Bool) → (a && c && d && f) ≡ true → a ≡ true
dash_is true c d f e = refl
dash_is false c d f e = absurd cc

-- what stands between quotes
take_less : (n : ℕ) (bs : List ℕ) → take n (take (suc n) bs) ≡ take n bs
take_less zero bs = refl
take_less (suc n) [] = refl
take_less (suc n) (b ∷ bs) = ap (λ (x : List ℕ). b ∷ x) (take_less n bs)

inside_take : (n b : ℕ) (bs : List ℕ) → n < length bs → inside (take (n + 2) (b ∷ bs)) ≡ take n bs
inside_take n b bs h =
    let two : n + 2 ≡ suc (suc n) = omega arith in
    let long : length (take (suc n) bs) ≡ suc n = grind (arith, length-take (suc n) bs) in
    let rest : suc (length (take (suc n) bs)) - 2 ≡ n = omega arith in
    ap (λ (m : ℕ). inside (take m (b ∷ bs))) two ∙ (ap (λ (m : ℕ). take m (take (suc n) bs)) rest ∙ take_less n bs)

-- a piece whose token's text can be quoted, of good bytes, with good bytes behind it
record CleanCut (at b : ℕ) (bs : List ℕ) (cut : Cut) : Type 0 where
  is : IsClean (seen_token cut.0 at (take cut.1 (b ∷ bs)))
  rest : IsGood (drop (cut.1 - 1) bs)

fine_of : (body : List ℕ) → is_quotable body ≡ true → IsGood body → FineText body
fine_of body e h = record { quotable = e; good = (h.bytes, h.utf8) }

at_cut : (n m : ℕ) (bs : List ℕ) → n - 1 ≡ m → IsGood (drop m bs) → IsGood (drop (n - 1) bs)
at_cut n m bs e h = subst (λ (x : ℕ). IsGood (drop x bs)) (sym e) h

none_left : (n : ℕ) (bs : List ℕ) → length bs ≤ n → IsGood (drop n bs)
none_left n bs h = subst (λ (x : List ℕ). IsGood x) (sym (drop_all n bs h)) good_nil

below : (n m : ℕ) → nat_lt n m ≡ true → n < m
below n m e = grind arith

shorter : (bs : List ℕ) → length bs ≤ suc (length (drop 1 bs))
shorter [] = omega arith
shorter (b ∷ bs) = omega arith

module _ (at b : ℕ) (bs : List ℕ) (good : IsGood (b ∷ bs)) where
  either : (t : Bool) (x y : Cut) → (t ≡ true → CleanCut at b bs x) → (t ≡ false → CleanCut at b bs y) → CleanCut at b bs (if t then x else y)
  either true x y h k = h refl
  either false x y h k = k refl

  line_rest : (b == 42) ≡ true → IsGood (drop (run_len ends_line bs + 1 - 1) bs)
  line_rest e = at_cut (run_len ends_line bs + 1) (run_len ends_line bs) bs (omega arith) (back_good bs (run_len ends_line bs) (tail_good b bs good (is_low b 42 (omega arith) e)) (stop_place ends_line line_low bs))

  comment_rest : opens_comment b bs ≡ true → nat_lt (run_len closes_comment (drop 1 bs)) (length (drop 1 bs)) ≡ true → IsGood (drop (run_len closes_comment (drop 1 bs) + 4 - 1) bs)
  comment_rest e e2 =
      let cs : List ℕ = drop 1 bs in
      let n : ℕ = run_len closes_comment cs in
      let end : IsGood (drop n cs) = back_good cs n (opened_good b bs e good) (stop_place closes_comment closes_low cs) in
      let last : IsGood (drop (n + 2) cs) = subst (λ (x : List ℕ). IsGood x) (sym (drop_more n 2 cs)) (closed_good (drop n cs) (stop_is closes_comment cs e2) end) in
      at_cut (n + 4) (1 + (n + 2)) bs (omega arith) (subst (λ (x : List ℕ). IsGood x) (sym (drop_more 1 (n + 2) bs)) last)

  cut_rest : IsGood (drop (length (drop 1 bs) + 2 - 1) bs)
  cut_rest = at_cut (length (drop 1 bs) + 2) (suc (length (drop 1 bs))) bs (omega arith) (none_left (suc (length (drop 1 bs))) bs (shorter bs))

  comment_clean : opens_comment b bs ≡ true → CleanCut at b bs (comment_at (drop 1 bs))
  unfolding comment_at
  comment_clean e =
      either (nat_lt (run_len closes_comment (drop 1 bs)) (length (drop 1 bs))) (cut_as piece.Comment (run_len closes_comment (drop 1 bs) + 4)) (cut_as piece.CutComment (length (drop 1 bs) + 2))
      (λ e2. record { is = tt; rest = comment_rest e e2 }) (λ e2. record { is = tt; rest = cut_rest })

  quoted_rest : is_quote b ≡ true → nat_lt (run_len (ends_quote b) bs) (length bs) ≡ true → IsGood (drop (run_len (ends_quote b) bs + 2 - 1) bs)
  quoted_rest is e =
      let n : ℕ = run_len (ends_quote b) bs in
      let end : IsGood (drop n bs) = back_good bs n (tail_good b bs good (quote_low b is)) (stop_place (ends_quote b) (ends_low b (quote_low b is)) bs) in
      at_cut (n + 2) (n + 1) bs (omega arith) (subst (λ (x : List ℕ). IsGood x) (sym (drop_more n 1 bs)) (stopped_good (ends_quote b) (ends_low b (quote_low b is)) (drop n bs) (stop_is (ends_quote b) bs e) end))

  quoted_clean : is_quote b ≡ true → CleanCut at b bs (quote_at b bs)
  unfolding quote_at
  quoted_clean is = either (nat_lt (run_len (ends_quote b) bs) (length bs)) (cut_as piece.Quoted (run_len (ends_quote b) bs + 2)) (cut_as piece.CutQuote (length bs + 1))
      (λ e. record { is = subst (λ (x : List ℕ). FineText x) (sym (inside_take (run_len (ends_quote b) bs) b bs (below _ _ e))) (fine_of _ (quotable is) bytes); rest = quoted_rest is e })
      (λ e. record { is = tt; rest = at_cut (length bs + 1) (length bs) bs (omega arith) (none_left (length bs) bs (omega arith)) })
    where
      bytes : IsGood (take (run_len (ends_quote b) bs) bs)
      bytes = front_good bs (run_len (ends_quote b) bs) (tail_good b bs good (quote_low b is)) (stop_place (ends_quote b) (ends_low b (quote_low b is)) bs)

      same : (n : ℕ) → (b == n) ≡ true → b ≡ n
      same n f = grind arith

      by_quote : (t u : Bool) → (b == 34) ≡ t → (b == 39) ≡ u → (t || u) ≡ true → is_quotable (take (run_len (ends_quote b) bs) bs) ≡ true
      by_quote true u f k e = quotable_left (take (run_len (ends_quote b) bs) bs) (subst (λ (q : ℕ). has_byte q (take (run_len (ends_quote b) bs) bs) ≡ false) (same 34 f) (quote_clean b bs))
      by_quote false true f k e = quotable_right (take (run_len (ends_quote b) bs) bs) (subst (λ (q : ℕ). has_byte q (take (run_len (ends_quote b) bs) bs) ≡ false) (same 39 k) (quote_clean b bs))
      by_quote false false f k e = absurd cc

      quotable : is_quote b ≡ true → is_quotable (take (run_len (ends_quote b) bs) bs) ≡ true
      quotable e = by_quote (b == 34) (b == 39) refl refl (either_quote b e)

  one_more : b < 128 → IsGood (drop (1 - 1) bs)
  one_more low = tail_good b bs good low

  single_clean : is_sign_byte b ≡ true → CleanCut at b bs (if b == 33 then cut_as piece.Stray 1 else cut_as piece.Sign 1)
  single_clean is = either (b == 33) (cut_as piece.Stray 1) (cut_as piece.Sign 1) (λ e. record { is = tt; rest = one_more (sign_low b is) }) (λ e. record { is = tt; rest = one_more (sign_low b is) })

  sign_clean : (cs : List ℕ) → bs ≡ cs → is_sign_byte b ≡ true → CleanCut at b bs (sign_at b cs)
  unfolding sign_at
  sign_clean [] same is = single_clean is
  sign_clean (c ∷ cs) same is = either (is_double_sign b c) (cut_as piece.Sign 2) (if b == 33 then cut_as piece.Stray 1 else cut_as piece.Sign 1) (λ e. record { is = tt; rest = two_more e }) (λ e. single_clean is)
    where
      two_more : is_double_sign b c ≡ true → IsGood (drop (2 - 1) bs)
      two_more e = subst (λ (x : List ℕ). IsGood (drop 1 x)) (sym same) (tail_good c cs (subst (λ (x : List ℕ). IsGood x) same (one_more (sign_low b is))) (double_low b c e))

  word_place : IsCharBoundary (b ∷ bs) (suc (run_len ends_word bs))
  word_place = subst (λ (n : ℕ). IsCharBoundary (b ∷ bs) n) (up (run_len ends_word bs)) (IsCharBoundary-from_rest (b ∷ bs) 1 (run_len ends_word bs) (omega arith) (stop_place ends_word word_low bs))
    where
      up : (n : ℕ) → 1 + n ≡ suc n
      up n = omega arith

  worded : (before : PieceKind) → is_quote b ≡ false → CleanCut at b bs (word_at before b bs)
  unfolding word_at
  worded before e = either (b == 45 && run_len ends_word bs == 0 && is_gap before && is_rest_blank 0 bs) (cut_as piece.Dash 1) (cut_as piece.Word (run_len ends_word bs + 1))
      (λ e2. record { is = tt; rest = one_more (is_low b 45 (omega arith) (dash_is (b == 45) (run_len ends_word bs == 0) (is_gap before) (is_rest_blank 0 bs) e2)) })
      (λ e2. record {
        is = subst (λ (n : ℕ). FineText (take n (b ∷ bs))) (sym (add-one (run_len ends_word bs))) (fine_of (b ∷ take (run_len ends_word bs) bs) (quotable_left (b ∷ take (run_len ends_word bs) bs) (neither (b == 34) _ (not_quote b e) (word_clean bs))) (front_good (b ∷ bs) (suc (run_len ends_word bs)) good word_place));
        rest = at_cut (run_len ends_word bs + 1) (run_len ends_word bs) bs (omega arith) (back_good (b ∷ bs) (suc (run_len ends_word bs)) good word_place);
      })

  piece_clean : (before : PieceKind) → CleanCut at b bs (piece_at before b bs)
  unfolding piece_at
  piece_clean before =
      let signs : Cut = if is_sign_byte b then sign_at b bs else word_at before b bs in
      let quotes : Cut = if is_quote b then quote_at b bs else signs in
      let comments : Cut = if opens_comment b bs then comment_at (drop 1 bs) else quotes in
      let lines : Cut = if b == 42 && is_line_end before then cut_as piece.Comment (run_len ends_line bs + 1) else comments in
      let blanks : Cut = if is_blank b then cut_as piece.Blank 1 else lines in
      either (b == 10) (cut_as piece.LineEnd 1) blanks (λ e. record { is = tt; rest = one_more (is_low b 10 (omega arith) e) }) (λ e.
      either (is_blank b) (cut_as piece.Blank 1) lines (λ e2. record { is = tt; rest = one_more (blank_low b e2) }) (λ e2.
      either (b == 42 && is_line_end before) (cut_as piece.Comment (run_len ends_line bs + 1)) comments (λ e3. record { is = tt; rest = line_rest (first_is (b == 42) _ e3) }) (λ e3.
      either (opens_comment b bs) (comment_at (drop 1 bs)) quotes (λ e4. comment_clean e4) (λ e4.
      either (is_quote b) (quote_at b bs) signs (λ e5. quoted_clean e5) (λ e5.
      either (is_sign_byte b) (sign_at b bs) (word_at before b bs) (λ e6. sign_clean bs refl e6) (λ e6. worded before e5))))))

abbrev ArePieces : List Piece → Type 0
ArePieces [] = Unit {0}
ArePieces (p ∷ pieces) = ((at : ℕ) → IsClean (seen_token p.kind at p.bytes)) × ArePieces pieces

pieces_clean : (skip : ℕ) (before : PieceKind) (bs : List ℕ) → IsGood (drop skip bs) → ArePieces (pieces_after skip before bs)
unfolding pieces_after
pieces_clean skip before [] h = tt
pieces_clean (suc skip) before (b ∷ bs) h = pieces_clean skip before bs h
pieces_clean zero before (b ∷ bs) h = (λ at. (piece_clean at b bs h before).is, pieces_clean ((piece_at before b bs).1 - 1) (piece_at before b bs).0 bs (piece_clean 0 b bs h before).rest)

by_token : (t : Bool) (x : Token) (ts : List Token) → IsClean x → AreClean ts → AreClean (if t then x ∷ ts else ts)
by_token true x ts h k = (h, k)
by_token false x ts h k = k

from_clean : (at : ℕ) (pieces : List Piece) → ArePieces pieces → AreClean (tokens_from at pieces)
unfolding tokens_from
from_clean at [] h = tt
from_clean at (p ∷ pieces) h = by_token (is_token p.kind) (seen_token p.kind at p.bytes) _ (h.0 at) (from_clean (at + length p.bytes) pieces h.1)

by_comma : (t : Bool) (x : Token) (ts : List Token) → IsClean x → AreClean ts → AreClean (if t then ts else x ∷ ts)
by_comma true x ts h k = k
by_comma false x ts h k = (h, k)

commas_clean : (side : Side) (ts : List Token) → AreClean ts → AreClean (without_commas side ts)
unfolding without_commas
commas_clean side [] h = tt
commas_clean side (t ∷ ts) h = by_comma (is_blank_comma side t) t _ h.0 (commas_clean (behind side t) ts h.1)

pub text_clean : (text : List ℕ) → bytes_of (pieces_of text) ≡ text → flaw_of text ≡ None → AreClean (tokens_of text)
text_clean text whole flawless =
    subst (λ (ts : List Token). AreClean (without_commas Out ts)) (sym (spans_are [] (pieces_of text) text 0 (sym whole) refl)) (commas_clean Out (tokens_from 0 (pieces_of text)) (from_clean 0 (pieces_of text) (pieces_clean 0 piece.LineEnd text (flawless_good text flawless))))
