-- Where bytes leave the header.
use Rattle.std.proofs.Common.{◌≡◌, ◌≢◌, ◌⊎◌, ℕ, suc, ◌+◌, ◌≤◌, ◌<◌, List, [], ◌∷◌, ◌++◌, length, take, drop, get_or, ◌-◌, Err, ⊎_elim, length-drop, refl, sym, ◌∙◌, ap, inl, inr, arith, eq-eqb}
use Rattle.std.proofs.lemmas.Bool.{cond-true, cond-false, ne_eqb}
use Rattle.std.proofs.lemmas.List.{take-append-drop, drop_more, length-take-le, get_or-drop}
use Rattle.cd_journal.specs.Bytes.{header, after_header, list_of}

-- what stands as it has to is passed over
after_header-same : (same wanted : List ℕ) (at : ℕ) (bytes : List ℕ) → after_header (same ++ wanted) at (same ++ bytes) ≡ after_header wanted (at + length same) bytes
unfolding after_header
after_header-same [] wanted at bytes = let place : at ≡ at + 0 = omega arith in ap (λ (k : ℕ). after_header wanted k bytes) place
after_header-same (x ∷ same) wanted at bytes =
    cond-true _ _ _ (eq-eqb x x refl)
    ∙ after_header-same same wanted (at + 1) bytes
    ∙ (let place : at + 1 + length same ≡ at + suc (length same) = omega arith in ap (λ (k : ℕ). after_header wanted k bytes) place)

list_of-some : (bytes : List ℕ) → 0 < length bytes → list_of bytes ≡ after_header header 0 bytes
unfolding list_of
list_of-some [] some = absurd (omega arith)
list_of-some (x ∷ bytes) some = refl

differs : (wanted at : ℕ) (more bytes : List ℕ) → (length bytes ≡ 0) ⊎ (get_or bytes 0 0 ≢ wanted) → after_header (wanted ∷ more) at bytes ≡ Err at
unfolding after_header
differs wanted at more [] either = refl
differs wanted at more (x ∷ bytes) (inl none) = absurd (omega arith)
differs wanted at more (x ∷ bytes) (inr other) = cond-false _ _ _ (ne_eqb x wanted other)

-- the first place that differs or is missing
pub list_of-header : (bytes : List ℕ) (i : ℕ) → i < 8 → take i bytes ≡ take i header → (length bytes ≤ i) ⊎ (get_or bytes i 0 ≢ get_or header i 0) → 0 < length bytes → list_of bytes ≡ Err i
list_of-header bytes i low same either some =
    let front : length (take i header) ≡ i = length-take-le i header (omega arith) in
    let split : bytes ≡ take i header ++ drop i bytes = sym (take-append-drop i bytes) ∙ ap (λ (l : List ℕ). l ++ drop i bytes) same in
    let wanted : header ≡ take i header ++ (get_or header i 0 ∷ drop (i + 1) header) =
    sym (take-append-drop i header) ∙ ap (λ (l : List ℕ). take i header ++ l) (drop_more header i 0 low) in
    let left : length (drop i bytes) ≡ length bytes - i = length-drop i bytes in
    let other : (length (drop i bytes) ≡ 0) ⊎ (get_or (drop i bytes) 0 0 ≢ get_or header i 0) =
    ⊎_elim (λ ended. inl (omega arith)) (λ apart. inr (λ e. apart (sym (get_or-drop i bytes 0 0 ∙ (let place : i + 0 ≡ i = omega arith in ap (λ (k : ℕ). get_or bytes k 0) place)) ∙ e))) either in
    list_of-some bytes some
    ∙ ap (λ (l : List ℕ). after_header header 0 l) split
    ∙ ap (λ (l : List ℕ). after_header l 0 (take i header ++ drop i bytes)) wanted
    ∙ after_header-same (take i header) (get_or header i 0 ∷ drop (i + 1) header) 0 (drop i bytes)
    ∙ differs (get_or header i 0) (0 + length (take i header)) (drop (i + 1) header) (drop i bytes) other
    ∙ (let place : 0 + length (take i header) ≡ i = omega arith in ap (λ (k : ℕ). Err k) place)
