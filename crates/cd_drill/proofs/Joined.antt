-- Pieces that were put behind one another.
use Rattle.std.proofs.Common.{◌≡◌, ◌++◌, ℕ, List, ap, sym, ◌∙◌, append_assoc}

-- a head, a word, and what stands behind it in three parts
pub joined : (into head word gap number end one two three behind : List ℕ) → one ≡ into ++ head → two ≡ one ++ word → three ≡ two ++ behind → behind ≡ gap ++ number ++ end
    → three ≡ into ++ (head ++ word ++ gap ++ number ++ end)
joined into head word gap number end one two three behind first second third last =
    third ∙ ap (λ (t : List ℕ). t ++ behind) (second ∙ ap (λ (t : List ℕ). t ++ word) first) ∙ ap (λ (t : List ℕ). ((into ++ head) ++ word) ++ t) last
    ∙ simp append_assoc

-- three parts
pub joined_three : (into one two three first second all : List ℕ) → first ≡ into ++ one → second ≡ first ++ two → all ≡ second ++ three → all ≡ into ++ (one ++ two ++ three)
joined_three into one two three first second all is_first is_second is_all =
    is_all ∙ ap (λ (t : List ℕ). t ++ three) (is_second ∙ ap (λ (t : List ℕ). t ++ two) is_first) ∙ simp append_assoc
