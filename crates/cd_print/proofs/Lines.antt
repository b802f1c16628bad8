-- What is printed of a statement is read as that statement.
use Rattle.std.proofs.Common.{◌≡◌, ℕ, Bool, true, false, ◌&&◌, List, [], ◌∷◌, ◌++◌, refl, subst, arith, if◌then◌else◌}
use Rattle.std.specs.Prelude.{◌==◌}
use Rattle.std.specs.List.{list_all, list_any}
use Rattle.cd_types.specs.declared.choices.Relation.{Relation}
use Rattle.cd_types.specs.declared.choices.Relation.TheVariants as relation
use Rattle.cd_ast.specs.Bytes.{is_blank, is_quote, is_sign_byte, is_word_byte, is_double_sign, opens_comment}
use Rattle.cd_ast.specs.Canonical.{quote_of, relation_sign}
use Rattle.cd_ast.specs.Pieces.{sign_at, piece_at, pieces_after}
use Rattle.cd_ast.specs.declared.piece.PieceKind.{PieceKind}
use Rattle.cd_ast.specs.declared.piece.PieceKind.TheVariants as piece
use Rattle.cd_grammar.specs.declared.token.Key.{Key}
use Rattle.cd_grammar.specs.declared.token.Sign.TheVariants as sign
use Rattle.cd_grammar.specs.declared.token.Token.{Token}
use Rattle.cd_grammar.specs.declared.token.Token.TheVariants.{Word, Quoted, Mark}
use Rattle.cd_grammar.specs.Tokens.{Side, Out, Named, Opening, In, behind_word, behind_sign, is_blank_comma}
use Rattle.cd_grammar.specs.Words.{key_of, sign_of}
use Rattle.cd_print.specs.Printable.{is_quotable}
use Rattle.cd_print.proofs.Cuts.{is_plain, begins_well, stops, begins_equal, piece_is}
use Rattle.cd_print.proofs.Tails.{Reads, on_word, on_sign, on_quoted, is_outside, by_token}
use Rattle.cd_print.proofs.Words.{word_outside}
use Rattle.cd_print.proofs.Fronts.{quoted}

-- signs where no parenthesis of STARTT is open
close_kept : (side : Side) (at : ℕ) → is_blank_comma side (Mark at sign.Close) ≡ false
close_kept Out at = refl
close_kept Named at = refl
close_kept Opening at = refl
close_kept In at = refl

close_out : (side : Side) → behind_sign side sign.Close ≡ Out
close_out Out = refl
close_out Named = refl
close_out Opening = refl
close_out In = refl

equals_kept : (side : Side) (at : ℕ) → is_blank_comma side (Mark at sign.Equals) ≡ false
equals_kept Out at = refl
equals_kept Named at = refl
equals_kept Opening at = refl
equals_kept In at = refl

equals_outside : (side : Side) → is_outside side ≡ true → is_outside (behind_sign side sign.Equals) ≡ true
equals_outside Out e = refl
equals_outside Named e = refl
equals_outside Opening e = refl
equals_outside In e = absurd cc

pub sign_open : sign_of (40 ∷ []) ≡ sign.Open
unfolding sign_of
sign_open = refl

sign_close : sign_of (41 ∷ []) ≡ sign.Close
unfolding sign_of
sign_close = refl

sign_equals : sign_of (61 ∷ []) ≡ sign.Equals
unfolding sign_of
sign_equals = refl

pub sign_comma : sign_of (44 ∷ []) ≡ sign.Comma
unfolding sign_of
sign_comma = refl

-- what follows a =
pub quote_other : (body rest : List ℕ) → begins_equal (quote_of body ++ rest) ≡ false
quote_other body rest = go (list_any (λ b. b == 34) body)
  where
    go : (t : Bool) → begins_equal ((if t then 39 ∷ [] else 34 ∷ []) ++ rest) ≡ false
    go true = refl
    go false = refl

plain_byte : (b : ℕ) → is_plain b ≡ true → (b == 61) ≡ false
unfolding is_word_byte is_blank is_quote is_sign_byte
plain_byte b e = go (b == 61) refl
  where
    same : (b == 61) ≡ true → b ≡ 61
    same f = grind arith

    equal : is_plain 61 ≡ true → ⊥
    equal f = cc

    go : (t : Bool) → (b == 61) ≡ t → t ≡ false
    go true f = absurd (equal (subst (λ (n : ℕ). is_plain n ≡ true) (same f) e))
    go false f = refl

first_is : (a b : Bool) → (a && b) ≡ true → a ≡ true
first_is true b e = refl
first_is false b e = absurd cc

pub plain_other : (before : PieceKind) (w rest : List ℕ) → list_all is_plain w ≡ true → begins_well before w ≡ true → begins_equal (w ++ rest) ≡ false
plain_other before [] rest e e2 = absurd cc
plain_other before (b ∷ w) rest e e2 = plain_byte b (first_is (is_plain b) _ e)

module _ (P : List Token → Type 0) (before : PieceKind) (side : Side) where
  pub on_close : {rest : List ℕ} → begins_equal rest ≡ false → ((at : ℕ) → Reads (λ ts. P (Mark at sign.Close ∷ ts)) piece.Sign Out rest) → Reads P before side (41 ∷ rest)
  on_close e r = on_sign P before side 41 sign.Close Out refl e sign_close (close_kept side) (close_out side) r

  pub on_equals : {rest : List ℕ} → begins_equal rest ≡ false → ((at : ℕ) → Reads (λ ts. P (Mark at sign.Equals ∷ ts)) piece.Sign (behind_sign side sign.Equals) rest) → Reads P before side (61 ∷ rest)
  on_equals e r = on_sign P before side 61 sign.Equals (behind_sign side sign.Equals) refl e sign_equals (equals_kept side) refl r

module _ (P : List Token → Type 0) (before : PieceKind) where
  -- an opening parenthesis, behind a word of the language
  pub on_open : {rest : List ℕ} → begins_equal rest ≡ false → ((at : ℕ) → Reads (λ ts. P (Mark at sign.Open ∷ ts)) piece.Sign Out rest) → Reads P before Out (40 ∷ rest)
  on_open e r = on_sign P before Out 40 sign.Open Out refl e sign_open (λ at. refl) refl r

-- KEY=word and KEY="text"
module _ (P : List Token → Type 0) (before : PieceKind) (side : Side) where
  pub on_pair : (w : List ℕ) (k : Key) (value : List ℕ) {rest : List ℕ} → is_outside side ≡ true → key_of w ≡ k → list_all is_plain w ≡ true → begins_well before w ≡ true → stops (61 ∷ (value ++ rest)) ≡ true
      → list_all is_plain value ≡ true → begins_well piece.Sign value ≡ true → stops rest ≡ true
      → ((at at2 at3 : ℕ) → Reads (λ ts. P (Word at k w ∷ Mark at2 sign.Equals ∷ Word at3 (key_of value) value ∷ ts)) piece.Word (behind_word (key_of value)) rest) → Reads P before side (w ++ (61 ∷ (value ++ rest)))
  on_pair w k value {rest} out is plain begins e plain2 begins2 e2 r =
      on_word P before side w k out is plain begins e
      (λ at. on_equals _ piece.Word (behind_word k) (plain_other piece.Sign value rest plain2 begins2)
      (λ at2. on_word _ piece.Sign (behind_sign (behind_word k) sign.Equals) value (key_of value) (equals_outside (behind_word k) (word_outside k)) refl plain2 begins2 e2 (λ at3. r at at2 at3)))

  pub on_text : (w : List ℕ) (k : Key) (body : List ℕ) {rest : List ℕ} → is_outside side ≡ true → key_of w ≡ k → list_all is_plain w ≡ true → begins_well before w ≡ true → stops (61 ∷ quoted body rest) ≡ true → is_quotable body ≡ true
      → ((at at2 at3 : ℕ) → Reads (λ ts. P (Word at k w ∷ Mark at2 sign.Equals ∷ Quoted at3 body ∷ ts)) piece.Quoted Out rest) → Reads P before side (w ++ (61 ∷ quoted body rest))
  on_text w k body {rest} out is plain begins e fits r =
      on_word P before side w k out is plain begins e
      (λ at. on_equals _ piece.Word (behind_word k) (quote_other body _)
      (λ at2. on_quoted _ piece.Sign (behind_sign (behind_word k) sign.Equals) body (equals_outside (behind_word k) (word_outside k)) fits (λ at3. r at at2 at3)))

-- a relation between blanks
relation_outside : (side : Side) (r : Relation) → is_outside side ≡ true → is_outside (behind_sign side (sign_of (relation_sign r))) ≡ true
unfolding sign_of
relation_outside Out r e = refl
relation_outside Named relation.Eq e = refl
relation_outside Named relation.Ne e = refl
relation_outside Named relation.Ge e = refl
relation_outside Named relation.Gt e = refl
relation_outside Named relation.Le e = refl
relation_outside Named relation.Lt e = refl
relation_outside Opening relation.Eq e = refl
relation_outside Opening relation.Ne e = refl
relation_outside Opening relation.Ge e = refl
relation_outside Opening relation.Gt e = refl
relation_outside Opening relation.Le e = refl
relation_outside Opening relation.Lt e = refl
relation_outside In r e = absurd cc

relation_kept : (side : Side) (r : Relation) (at : ℕ) → is_blank_comma side (Mark at (sign_of (relation_sign r))) ≡ false
unfolding sign_of
relation_kept In r at = refl
relation_kept Out relation.Eq at = refl
relation_kept Out relation.Ne at = refl
relation_kept Out relation.Ge at = refl
relation_kept Out relation.Gt at = refl
relation_kept Out relation.Le at = refl
relation_kept Out relation.Lt at = refl
relation_kept Named relation.Eq at = refl
relation_kept Named relation.Ne at = refl
relation_kept Named relation.Ge at = refl
relation_kept Named relation.Gt at = refl
relation_kept Named relation.Le at = refl
relation_kept Named relation.Lt at = refl
relation_kept Opening relation.Eq at = refl
relation_kept Opening relation.Ne at = refl
relation_kept Opening relation.Ge at = refl
relation_kept Opening relation.Gt at = refl
relation_kept Opening relation.Le at = refl
relation_kept Opening relation.Lt at = refl

relation_piece : (before : PieceKind) (r : Relation) (rest : List ℕ) → pieces_after 0 before (relation_sign r ++ (32 ∷ rest)) ≡ record { kind = piece.Sign; bytes = relation_sign r } ∷ pieces_after 0 piece.Sign (32 ∷ rest)
unfolding piece_at sign_at is_double_sign opens_comment is_blank is_quote is_sign_byte
relation_piece before relation.Eq rest = piece_is before piece.Sign 61 [] (32 ∷ rest) refl
relation_piece before relation.Ne rest = piece_is before piece.Sign 60 (62 ∷ []) (32 ∷ rest) refl
relation_piece before relation.Ge rest = piece_is before piece.Sign 62 (61 ∷ []) (32 ∷ rest) refl
relation_piece before relation.Gt rest = piece_is before piece.Sign 62 [] (32 ∷ rest) refl
relation_piece before relation.Le rest = piece_is before piece.Sign 60 (61 ∷ []) (32 ∷ rest) refl
relation_piece before relation.Lt rest = piece_is before piece.Sign 60 [] (32 ∷ rest) refl

pub on_relation : (P : List Token → Type 0) (before : PieceKind) (side : Side) (r : Relation) {rest : List ℕ} → is_outside side ≡ true
    → ((at : ℕ) (next : Side) → is_outside next ≡ true → Reads (λ ts. P (Mark at (sign_of (relation_sign r)) ∷ ts)) piece.Sign next (32 ∷ rest)) → Reads P before side (relation_sign r ++ (32 ∷ rest))
on_relation P before side r {rest} out f =
    by_token P before side (relation_sign r ++ (32 ∷ rest)) (32 ∷ rest) (record { kind = piece.Sign; bytes = relation_sign r }) (λ at. Mark at (sign_of (relation_sign r))) (behind_sign side (sign_of (relation_sign r))) (relation_piece before r rest) refl refl
    (λ at. refl) (relation_kept side r) (λ at. refl) (λ at. f at (behind_sign side (sign_of (relation_sign r))) (relation_outside side r out))
