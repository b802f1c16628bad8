-- Tokens behind a token that is kept, and behind one that is a blank.
use Rattle.std.proofs.Common.{◌≡◌, ℕ, suc, List, [], ◌∷◌, ◌++◌, length, map, Bool, true, false, refl, sym, ap, ◌∙◌, append_assoc, arith, if◌then◌else◌}
use Rattle.std.proofs.lemmas.List.{append-nil}
use Rattle.cd_lexer.specs.declared.token.Token as lexer
use Rattle.cd_lexer.specs.Spans.{span_of}
use Rattle.cd_grammar.specs.declared.token.Token.{Token}
use Rattle.cd_grammar.specs.Tokens.{Side, token_of, behind, is_blank_comma, without_commas}

kept : (side : Side) (t : Token) (ts : List Token) → is_blank_comma side t ≡ false → without_commas side (t ∷ ts) ≡ t ∷ without_commas (behind side t) ts
unfolding without_commas
kept side t ts e = rw e refl

left_out : (side : Side) (t : Token) (ts : List Token) → is_blank_comma side t ≡ true → without_commas side (t ∷ ts) ≡ without_commas (behind side t) ts
unfolding without_commas
left_out side t ts e = rw e refl

pub kept_token : (text : List ℕ) (side next : Side) (seen new : List Token) (token : lexer.Token) (rest others : List lexer.Token) (t : Token)
    → rest ≡ token ∷ others → t ≡ token_of text (span_of token) → next ≡ behind side t → is_blank_comma side t ≡ false → new ≡ seen ++ t ∷ []
    → new ++ without_commas next (map (token_of text) (map span_of others)) ≡ seen ++ without_commas side (map (token_of text) (map span_of rest))
kept_token text side next seen new token rest others t er et en eb ew =
    let ts : List Token = map (token_of text) (map span_of others) in
    let here : map (token_of text) (map span_of rest) ≡ t ∷ ts = ap (λ (all : List lexer.Token). map (token_of text) (map span_of all)) er ∙ ap (λ (u : Token). u ∷ ts) (sym et) in
    let cut : without_commas side (map (token_of text) (map span_of rest)) ≡ t ∷ without_commas (behind side t) ts = ap (without_commas side) here ∙ kept side t ts eb in
    let front : new ++ without_commas next ts ≡ (seen ++ t ∷ []) ++ without_commas (behind side t) ts =
    ap (λ (xs : List Token). xs ++ without_commas next ts) ew ∙ ap (λ (s : Side). (seen ++ t ∷ []) ++ without_commas s ts) en in
    front ∙ append_assoc seen (t ∷ []) (without_commas (behind side t) ts) ∙ ap (λ (xs : List Token). seen ++ xs) (sym cut)

pub left_token : (text : List ℕ) (side next : Side) (seen : List Token) (token : lexer.Token) (rest others : List lexer.Token) (t : Token)
    → rest ≡ token ∷ others → t ≡ token_of text (span_of token) → next ≡ behind side t → is_blank_comma side t ≡ true
    → seen ++ without_commas next (map (token_of text) (map span_of others)) ≡ seen ++ without_commas side (map (token_of text) (map span_of rest))
left_token text side next seen token rest others t er et en eb =
    let ts : List Token = map (token_of text) (map span_of others) in
    let here : map (token_of text) (map span_of rest) ≡ t ∷ ts = ap (λ (all : List lexer.Token). map (token_of text) (map span_of all)) er ∙ ap (λ (u : Token). u ∷ ts) (sym et) in
    let cut : without_commas side (map (token_of text) (map span_of rest)) ≡ without_commas (behind side t) ts = ap (without_commas side) here ∙ left_out side t ts eb in
    ap (λ (s : Side). seen ++ without_commas s ts) en ∙ ap (λ (xs : List Token). seen ++ xs) (sym cut)

pub no_token : (text : List ℕ) (side : Side) (seen all : List Token) (rest : List lexer.Token) → length rest ≡ 0
    → seen ++ without_commas side (map (token_of text) (map span_of rest)) ≡ all → seen ≡ all
unfolding without_commas
no_token text side seen all [] e h = sym (append-nil seen) ∙ h
no_token text side seen all (token ∷ rest) e h = absurd (omega arith)
