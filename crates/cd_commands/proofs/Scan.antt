-- What is left of a text's tokens, and of what stands before its first byte, at its end.
use Rattle.std.proofs.Common.{◌≡◌, ℕ, ◌+◌, List, [], ◌++◌, Bool, sym, ◌∙◌, refl, append-nil, arith}
use Rattle.cd_ast.specs.declared.piece.PieceKind.{PieceKind}
use Rattle.cd_ast.specs.Pieces.{pieces_after}
use Rattle.cd_grammar.specs.declared.token.Token.{Token}
use Rattle.cd_commands.specs.Seen.{seen_from, lead_from}

pieces_end : (before : PieceKind) (bs : List ℕ) → bs ≡ [] → pieces_after 0 before bs ≡ []
unfolding pieces_after
pieces_end before bs e = rw e refl

pub seen_end : (items : List Token) (inside : Bool) (at : ℕ) (before : PieceKind) (bs : List ℕ) (all : List Token) → bs ≡ []
    → items ++ seen_from inside at (pieces_after 0 before bs) ≡ all → items ≡ all
unfolding seen_from
seen_end items inside at before bs all e told =
    let p = pieces_end before bs e in
    sym (append-nil items) ∙ (rw p at told)

pub lead_end : (len : ℕ) (before : PieceKind) (bs : List ℕ) (all : ℕ) → bs ≡ [] → len + lead_from (pieces_after 0 before bs) ≡ all → len ≡ all
unfolding lead_from
lead_end len before bs all e told =
    let p = pieces_end before bs e in
    let q : len + 0 ≡ all = rw p at told in
    omega arith
