-- What a text's tokens are where it is a print, one after the other.
use Rattle.std.proofs.Common.{◌≡◌, ℕ, ◌+◌, Bool, true, false, not, ◌&&◌, List, [], ◌∷◌, ◌++◌, length, None, refl, ap, sym, subst, ◌∙◌, if◌then◌else◌}
use Rattle.std.specs.List.{list_all}
use Rattle.cd_ast.specs.Canonical.{quote_of}
use Rattle.cd_ast.specs.declared.piece.PieceKind.{PieceKind}
use Rattle.cd_ast.specs.declared.piece.PieceKind.TheVariants as piece
use Rattle.cd_ast.specs.Pieces.{Piece, pieces_after}
use Rattle.cd_ast.specs.Tokens.{open_from, flaw_in, is_token}
use Rattle.cd_grammar.specs.declared.token.Key.{Key}
use Rattle.cd_grammar.specs.declared.token.Sign.{Sign}
use Rattle.cd_grammar.specs.declared.token.Token.{Token}
use Rattle.cd_grammar.specs.declared.token.Token.TheVariants.{Word, Quoted, Mark}
use Rattle.cd_grammar.specs.Tokens.{Side, Out, Named, Opening, In, behind, behind_word, behind_sign, is_blank_comma, seen_token, without_commas}
use Rattle.cd_grammar.specs.Words.{key_of, sign_of}
use Rattle.cd_print.specs.Printable.{is_quotable}
use Rattle.cd_print.proofs.Cuts.{tokens_from, blank_piece, line_piece, sign_piece, quoted_piece, word_piece, is_lone_sign, begins_equal, is_quote_byte, has_byte, inside_is, is_plain, begins_well, stops}

-- the tokens of a text behind a piece, from a place on, as the grammar sees them
abbrev pub tail : ℕ → PieceKind → Side → List ℕ → List Token
tail at before side text = without_commas side (tokens_from at (pieces_after 0 before text))

-- wherever a text begins, its pieces have no fault, and its tokens are of a kind
pub record Reads (P : List Token → Type 0) (before : PieceKind) (side : Side) (text : List ℕ) : Type 0 where
  pub clean : (at : ℕ) → open_from at (pieces_after 0 before text) ≡ None
  pub read : (at : ℕ) → P (tail at before side text)

pub onward : {P Q : List Token → Type 0} {before : PieceKind} {side : Side} {text : List ℕ} → ((ts : List Token) → P ts → Q ts) → Reads P before side text → Reads Q before side text
onward f r = record { clean = r.clean; read = λ at. f _ (r.read at) }

-- a piece that is no token
gap_clean : (piece : Piece) (pieces : List Piece) → flaw_in piece.kind ≡ None → ((at : ℕ) → open_from at pieces ≡ None) → (at : ℕ) → open_from at (piece ∷ pieces) ≡ None
unfolding open_from
gap_clean piece pieces e h at = rw e (h (at + length piece.bytes))

gap_tokens : (piece : Piece) (pieces : List Piece) (at : ℕ) → is_token piece.kind ≡ false → tokens_from at (piece ∷ pieces) ≡ tokens_from (at + length piece.bytes) pieces
unfolding tokens_from
gap_tokens piece pieces at e = rw e refl

token_tokens : (piece : Piece) (pieces : List Piece) (at : ℕ) → is_token piece.kind ≡ true → tokens_from at (piece ∷ pieces) ≡ seen_token piece.kind at piece.bytes ∷ tokens_from (at + length piece.bytes) pieces
unfolding tokens_from
token_tokens piece pieces at e = rw e refl

kept_token : (side : Side) (t : Token) (ts : List Token) → is_blank_comma side t ≡ false → without_commas side (t ∷ ts) ≡ t ∷ without_commas (behind side t) ts
unfolding without_commas
kept_token side t ts e = rw e refl

module _ (P : List Token → Type 0) (before : PieceKind) (side : Side) where
  by_gap : (text rest : List ℕ) (piece : Piece) → pieces_after 0 before text ≡ piece ∷ pieces_after 0 piece.kind rest → flaw_in piece.kind ≡ None → is_token piece.kind ≡ false → Reads P piece.kind side rest → Reads P before side text
  by_gap text rest piece e e2 e3 r = record {
    clean = λ at. ap (λ (ps : List Piece). open_from at ps) e ∙ gap_clean piece (pieces_after 0 piece.kind rest) e2 r.clean at;
    read = λ at. subst P (sym (ap (λ (ps : List Piece). without_commas side (tokens_from at ps)) e ∙ ap (λ (ts : List Token). without_commas side ts) (gap_tokens piece (pieces_after 0 piece.kind rest) at e3))) (r.read (at + length piece.bytes));
  }

  pub by_token : (text rest : List ℕ) (piece : Piece) (t : ℕ → Token) (next : Side) → pieces_after 0 before text ≡ piece ∷ pieces_after 0 piece.kind rest → flaw_in piece.kind ≡ None → is_token piece.kind ≡ true
      → ((at : ℕ) → seen_token piece.kind at piece.bytes ≡ t at) → ((at : ℕ) → is_blank_comma side (t at) ≡ false) → ((at : ℕ) → behind side (t at) ≡ next) → ((at : ℕ) → Reads (λ ts. P (t at ∷ ts)) piece.kind next rest) → Reads P before side text
  by_token text rest piece t next e e2 e3 seen kept goes r = record {
    clean = λ at. ap (λ (ps : List Piece). open_from at ps) e ∙ gap_clean piece (pieces_after 0 piece.kind rest) e2 (r 0).clean at;
    read = λ at.
        let others : List Token = tokens_from (at + length piece.bytes) (pieces_after 0 piece.kind rest) in
        let whole : tail at before side text ≡ t at ∷ tail (at + length piece.bytes) piece.kind next rest =
        ap (λ (ps : List Piece). without_commas side (tokens_from at ps)) e
        ∙ (ap (λ (ts : List Token). without_commas side ts) (token_tokens piece (pieces_after 0 piece.kind rest) at e3)
        ∙ (ap (λ (x : Token). without_commas side (x ∷ others)) (seen at)
        ∙ (kept_token side (t at) others (kept at) ∙ ap (λ (s : Side). t at ∷ without_commas s others) (goes at)))) in
        subst P (sym whole) ((r at).read (at + length piece.bytes));
  }

  pub on_blank : {rest : List ℕ} → Reads P piece.Blank side rest → Reads P before side (32 ∷ rest)
  on_blank {rest} r = by_gap (32 ∷ rest) rest _ (blank_piece before rest) refl refl r

  pub on_line : {rest : List ℕ} → Reads P piece.LineEnd side rest → Reads P before side (10 ∷ rest)
  on_line {rest} r = by_gap (10 ∷ rest) rest _ (line_piece before rest) refl refl r

-- outside the parentheses of STARTT
abbrev pub is_outside : Side → Bool
is_outside Out = true
is_outside Named = true
is_outside Opening = true
is_outside In = false

word_side : (side : Side) (at : ℕ) (k : Key) (w : List ℕ) → is_outside side ≡ true → behind side (Word at k w) ≡ behind_word k
word_side Out at k w e = refl
word_side Named at k w e = refl
word_side Opening at k w e = refl
word_side In at k w e = absurd cc

quoted_side : (side : Side) (at : ℕ) (w : List ℕ) → is_outside side ≡ true → behind side (Quoted at w) ≡ Out
quoted_side Out at w e = refl
quoted_side Named at w e = refl
quoted_side Opening at w e = refl
quoted_side In at w e = absurd cc

module _ (P : List Token → Type 0) (before : PieceKind) (side : Side) where
  pub on_word : (w : List ℕ) (k : Key) {rest : List ℕ} → is_outside side ≡ true → key_of w ≡ k → list_all is_plain w ≡ true → begins_well before w ≡ true → stops rest ≡ true
      → ((at : ℕ) → Reads (λ ts. P (Word at k w ∷ ts)) piece.Word (behind_word k) rest) → Reads P before side (w ++ rest)
  on_word w k {rest} out key plain begins e r =
      by_token P before side (w ++ rest) rest (record { kind = piece.Word; bytes = w }) (λ at. Word at k w) (behind_word k) (word_piece before w rest plain begins e) refl refl
      (λ at. ap (λ (x : Key). Word at x w) key) (λ at. refl) (λ at. word_side side at k w out) r

  -- in the parentheses of STARTT
  pub on_inner : (w : List ℕ) {rest : List ℕ} → side ≡ In → list_all is_plain w ≡ true → begins_well before w ≡ true → stops rest ≡ true
      → ((at : ℕ) → Reads (λ ts. P (Word at (key_of w) w ∷ ts)) piece.Word In rest) → Reads P before side (w ++ rest)
  on_inner w {rest} inner plain begins e r =
      by_token P before side (w ++ rest) rest (record { kind = piece.Word; bytes = w }) (λ at. Word at (key_of w) w) In (word_piece before w rest plain begins e) refl refl
      (λ at. refl) (λ at. refl) (λ at. ap (λ (s : Side). behind s (Word at (key_of w) w)) inner) r

  pub on_sign : (b : ℕ) (s : Sign) (next : Side) {rest : List ℕ} → is_lone_sign b ≡ true → begins_equal rest ≡ false → sign_of (b ∷ []) ≡ s → ((at : ℕ) → is_blank_comma side (Mark at s) ≡ false) → behind_sign side s ≡ next
      → ((at : ℕ) → Reads (λ ts. P (Mark at s ∷ ts)) piece.Sign next rest) → Reads P before side (b ∷ rest)
  on_sign b s next {rest} lone e is kept goes r =
      by_token P before side (b ∷ rest) rest (record { kind = piece.Sign; bytes = b ∷ [] }) (λ at. Mark at s) next (sign_piece before b rest lone e) refl refl
      (λ at. ap (λ (x : Sign). Mark at x) is) kept (λ at. goes) r

  pub on_quote : (q : ℕ) (body : List ℕ) {rest : List ℕ} → is_outside side ≡ true → is_quote_byte q ≡ true → has_byte q body ≡ false
      → ((at : ℕ) → Reads (λ ts. P (Quoted at body ∷ ts)) piece.Quoted Out rest) → Reads P before side (q ∷ (body ++ q ∷ rest))
  on_quote q body {rest} out is none r =
      by_token P before side (q ∷ (body ++ q ∷ rest)) rest (record { kind = piece.Quoted; bytes = q ∷ (body ++ q ∷ []) }) (λ at. Quoted at body) Out (quoted_piece before q body rest is none) refl refl
      (λ at. ap (λ (x : List ℕ). Quoted at x) (inside_is q body)) (λ at. refl) (λ at. quoted_side side at body out) r

-- the end of a text
pub on_end : (P : List Token → Type 0) (before : PieceKind) (side : Side) → P [] → Reads P before side []
unfolding pieces_after open_from tokens_from without_commas
on_end P before side p = record { clean = λ at. refl; read = λ at. p }

module _ (P : List Token → Type 0) (before : PieceKind) (side : Side) where
  by_quote : (t : Bool) (body : List ℕ) {rest : List ℕ} → has_byte 34 body ≡ t → is_outside side ≡ true → not (t && has_byte 39 body) ≡ true
      → ((at : ℕ) → Reads (λ ts. P (Quoted at body ∷ ts)) piece.Quoted Out rest) → Reads P before side ((if t then 39 ∷ [] else 34 ∷ []) ++ (body ++ ((if t then 39 ∷ [] else 34 ∷ []) ++ rest)))
  by_quote true body e out other r = on_quote P before side 39 body out refl (not_true (has_byte 39 body) other) r
    where
      not_true : (a : Bool) → not a ≡ true → a ≡ false
      not_true true e2 = absurd cc
      not_true false e2 = refl
  by_quote false body e out other r = on_quote P before side 34 body out refl e r

  pub on_quoted : (body : List ℕ) {rest : List ℕ} → is_outside side ≡ true → is_quotable body ≡ true
      → ((at : ℕ) → Reads (λ ts. P (Quoted at body ∷ ts)) piece.Quoted Out rest) → Reads P before side (quote_of body ++ (body ++ (quote_of body ++ rest)))
  on_quoted body out e r = by_quote (has_byte 34 body) body refl out e r
