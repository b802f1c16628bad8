-- What the bytes of a text are.
use Rattle.std.specs.Prelude.{ℕ, Bool, false, not, ◌==◌, ◌&&◌, ◌||◌, nat_lt, List, [], ◌∷◌}

-- a space, a tab, a line feed or a carriage return
unfoldable pub is_blank : ℕ → Bool
is_blank b = b == 32 || b == 9 || b == 10 || b == 13

-- a quote: " or '
unfoldable pub is_quote : ℕ → Bool
is_quote b = b == 34 || b == 39

-- a byte with which a sign begins: ( ) = , ; < > !
unfoldable pub is_sign_byte : ℕ → Bool
is_sign_byte b = b == 40 || b == 41 || b == 61 || b == 44 || b == 59 || b == 60 || b == 62 || b == 33

-- a byte of which words are made: each other one
unfoldable pub is_word_byte : ℕ → Bool
is_word_byte b = not (is_blank b) && not (is_quote b) && not (is_sign_byte b)

-- a byte that no text may have: one below 32 other than tab, line feed and carriage return
unfoldable pub is_refused : ℕ → Bool
is_refused b = nat_lt b 32 && not (b == 9) && not (b == 10) && not (b == 13)

-- two bytes that are one sign: == <= >= != <>
unfoldable pub is_double_sign : ℕ → ℕ → Bool
is_double_sign a b = (b == 61 && (a == 61 || a == 60 || a == 62 || a == 33)) || (a == 60 && b == 62)

-- a comment opens with the byte a that stands before bs
unfoldable pub opens_comment : ℕ → List ℕ → Bool
opens_comment a [] = false
opens_comment a (b ∷ bs) = a == 47 && b == 42

-- a comment closes with the byte a that stands before bs, and the one after it
unfoldable pub closes_comment : ℕ → List ℕ → Bool
closes_comment a [] = false
closes_comment a (b ∷ bs) = a == 42 && b == 47
