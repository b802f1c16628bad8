-- How byte strings in one buffer change with it.
use Rattle.std.proofs.Common.{◌≡◌, ℕ, ◌+◌, ◌-◌, ◌<◌, ◌≤◌, zero, suc, List, [], ◌∷◌, ◌++◌, length, take, drop, get_or, replicate, refl, sym, ◌∙◌, ap, ⊎_elim, arith, length-append, length-take, length-drop}
use Rattle.std.proofs.Math.ListN.{set}
use Rattle.std.specs.List.{insert, remove}
use Rattle.std.proofs.lemmas.Bool.{cases_lt}
use Rattle.std.proofs.lemmas.List.{drop-drop, take_at, drop_at, take-append-le, drop-append-le, take-take, drop-take, take_all, drop_all, append-nil, append_assoc, take-append-drop, set-get_or, nil_from_length, get_or_append_left, get_or-append_right, get_or-take, get_or-replicate, get_or_past, ext_get_or, length-replicate}
use Rattle.cd_outside.specs.Content.{resized, overwritten}
use Rattle.cd_outside.proofs.Contents.{length-resized, overwritten_within}
use Rattle.cd_memory_state.specs.Parts.{cut_up, extent}

pub length-cut_up : (sizes bytes : List ℕ) → length (cut_up sizes bytes) ≡ length sizes
length-cut_up [] bytes = refl
length-cut_up (size ∷ sizes) bytes = ap suc (length-cut_up sizes (drop size bytes))

pub extent-take-le : (sizes : List ℕ) (i : ℕ) → extent (take i sizes) + get_or sizes i 0 ≤ extent sizes
extent-take-le [] zero = omega arith
extent-take-le [] (suc i) = omega arith
extent-take-le (size ∷ sizes) zero = omega arith
extent-take-le (size ∷ sizes) (suc i) = omega (arith, extent-take-le sizes i)

pub extent-more : (sizes : List ℕ) (i : ℕ) → extent (take (i + 1) sizes) ≡ extent (take i sizes) + get_or sizes i 0
extent-more sizes i = let next : i + 1 ≡ suc i = omega arith in ap (λ (n : ℕ). extent (take n sizes)) next ∙ step sizes i
  where
    step : (sizes : List ℕ) (i : ℕ) → extent (take (suc i) sizes) ≡ extent (take i sizes) + get_or sizes i 0
    step [] zero = refl
    step [] (suc i) = refl
    step (size ∷ sizes) zero = omega arith
    step (size ∷ sizes) (suc i) = omega (arith, step sizes i)

pub extent-set : (sizes : List ℕ) (i n : ℕ) → i < length sizes → extent (set sizes i n) + get_or sizes i 0 ≡ extent sizes + n
extent-set [] i n lt = absurd (omega arith)
extent-set (size ∷ sizes) zero n lt = omega arith
extent-set (size ∷ sizes) (suc i) n lt = omega (arith, extent-set sizes i n (omega arith))

pub extent-insert : (sizes : List ℕ) (i : ℕ) → extent (insert sizes i 0) ≡ extent sizes
extent-insert [] zero = omega arith
extent-insert (size ∷ sizes) zero = omega arith
extent-insert [] (suc i) = refl
extent-insert (size ∷ sizes) (suc i) = ap (λ (n : ℕ). size + n) (extent-insert sizes i)

pub extent-remove : (sizes : List ℕ) (i : ℕ) → get_or sizes i 0 ≡ 0 → extent (remove sizes i) ≡ extent sizes
extent-remove [] zero none = refl
extent-remove [] (suc i) none = refl
extent-remove (size ∷ sizes) zero none = omega (arith, none)
extent-remove (size ∷ sizes) (suc i) none = ap (λ (n : ℕ). size + n) (extent-remove sizes i none)

pub extent-push : (sizes : List ℕ) (n : ℕ) → extent (sizes ++ n ∷ []) ≡ extent sizes + n
extent-push [] n = omega arith
extent-push (size ∷ sizes) n = omega (arith, extent-push sizes n)

-- one of them lies behind those before it
pub part_at : (sizes bytes : List ℕ) (i : ℕ) (d : List ℕ) → i < length sizes → get_or (cut_up sizes bytes) i d ≡ take (get_or sizes i 0) (drop (extent (take i sizes)) bytes)
part_at [] bytes i d lt = absurd (omega arith)
part_at (size ∷ sizes) bytes zero d lt = refl
part_at (size ∷ sizes) bytes (suc i) d lt = part_at sizes (drop size bytes) i d (omega arith) ∙ ap (take (get_or sizes i 0)) (drop-drop (extent (take i sizes)) size bytes)

-- and has its size
pub size_at : (sizes bytes : List ℕ) (i : ℕ) (d : List ℕ) → i < length sizes → extent sizes ≤ length bytes → length (get_or (cut_up sizes bytes) i d) ≡ get_or sizes i 0
size_at sizes bytes i d lt all =
    ap length (part_at sizes bytes i d lt)
    ∙ omega (arith, length-take (get_or sizes i 0) (drop (extent (take i sizes)) bytes), length-drop (extent (take i sizes)) bytes, extent-take-le sizes i)

-- one of them was replaced
pub replaced : (sizes bytes part : List ℕ) (i from end n : ℕ) → i < length sizes → extent sizes ≤ length bytes → from ≡ extent (take i sizes) → end ≡ from + get_or sizes i 0 → n ≡ length part
    → cut_up (set sizes i n) (take from bytes ++ (part ++ drop end bytes)) ≡ set (cut_up sizes bytes) i part
replaced [] bytes part i from end n lt all from_is end_is n_is = absurd (omega arith)
replaced (size ∷ sizes) bytes part zero from end n lt all from_is end_is n_is =
    let none : from ≡ 0 = omega (arith, from_is) in
    let own : end ≡ size = omega (arith, none, end_is) in
    (λ j. cut_up (n ∷ sizes) (take (none j) bytes ++ (part ++ drop (own j) bytes)))
    ∙ (λ j. take_at part (drop size bytes) n (sym n_is) j ∷ cut_up sizes (drop_at part (drop size bytes) n (sym n_is) j))
replaced (size ∷ sizes) bytes part (suc i) from end n lt all from_is end_is n_is =
    let f : ℕ = extent (take i sizes) in
    let e : ℕ = f + get_or sizes i 0 in
    let whole : f + get_or sizes i 0 ≤ extent sizes = extent-take-le sizes i in
    let front : size ≤ length (take from bytes) = omega (arith, length-take from bytes, from_is, all, whole) in
    let first = take-append-le size (take from bytes) (part ++ drop end bytes) front ∙ take-take size from bytes (omega (arith, from_is)) in
    let from_on : from ≡ size + f = omega (arith, from_is) in
    let end_on : end ≡ size + e = omega (arith, from_is, end_is) in
    let rest : drop size (take from bytes ++ (part ++ drop end bytes)) ≡ take f (drop size bytes) ++ (part ++ drop e (drop size bytes)) =
    drop-append-le size (take from bytes) (part ++ drop end bytes) front
    ∙ (λ j. drop size (take (from_on j) bytes) ++ (part ++ drop (end_on j) bytes))
    ∙ (λ j. drop-take size f bytes j ++ (part ++ sym (drop-drop e size bytes) j)) in
    (λ j. first j ∷ cut_up (set sizes i n) (rest j))
    ∙ ap (λ (l : List (List ℕ)). take size bytes ∷ l) (replaced sizes (drop size bytes) part i f e n (omega arith) (omega (arith, length-drop size bytes, all)) refl refl n_is)

pub inserted : (sizes bytes : List ℕ) (i : ℕ) → i ≤ length sizes → cut_up (insert sizes i 0) bytes ≡ insert (cut_up sizes bytes) i []
inserted sizes bytes zero within = refl
inserted [] bytes (suc i) within = absurd (omega arith)
inserted (size ∷ sizes) bytes (suc i) within = ap (λ (l : List (List ℕ)). take size bytes ∷ l) (inserted sizes (drop size bytes) i (omega arith))

pub removed : (sizes bytes : List ℕ) (i : ℕ) → get_or sizes i 0 ≡ 0 → cut_up (remove sizes i) bytes ≡ remove (cut_up sizes bytes) i
removed [] bytes zero none = refl
removed [] bytes (suc i) none = refl
removed (size ∷ sizes) bytes zero none = ap (λ (n : ℕ). cut_up sizes (drop n bytes)) (sym none)
removed (size ∷ sizes) bytes (suc i) none = ap (λ (l : List (List ℕ)). take size bytes ∷ l) (removed sizes (drop size bytes) i none)

pub added : (sizes bytes part : List ℕ) (n : ℕ) → extent sizes ≡ length bytes → n ≡ length part → cut_up (sizes ++ n ∷ []) (bytes ++ part) ≡ cut_up sizes bytes ++ part ∷ []
added [] bytes part n all n_is =
    let none : bytes ≡ [] = nil_from_length bytes (sym all) in
    (λ j. take n (none j ++ part) ∷ []) ∙ ap (λ (l : List ℕ). l ∷ []) (take_all n part (omega (arith, n_is)))
added (size ∷ sizes) bytes part n all n_is =
    let within : size ≤ length bytes = omega (arith, all) in
    (λ j. take-append-le size bytes part within j ∷ cut_up (sizes ++ n ∷ []) (drop-append-le size bytes part within j))
    ∙ ap (λ (l : List (List ℕ)). take size bytes ∷ l) (added sizes (drop size bytes) part n (omega (arith, length-drop size bytes, all)) n_is)

pub remove-set : (parts : List (List ℕ)) (i : ℕ) (part : List ℕ) → remove (set parts i part) i ≡ remove parts i
remove-set [] zero part = refl
remove-set [] (suc i) part = refl
remove-set (one ∷ parts) zero part = refl
remove-set (one ∷ parts) (suc i) part = ap (λ (l : List (List ℕ)). one ∷ l) (remove-set parts i part)

-- bytes that were cut, or made longer by zeros
get_or-resized : (n : ℕ) (bytes : List ℕ) (k : ℕ) → k < n → get_or (resized n bytes) k 0 ≡ get_or bytes k 0
get_or-resized n bytes k lt = ⊎_elim
    (λ within. get_or_append_left (take n bytes) (replicate (n - length bytes) 0) 0 k (omega (arith, length-take n bytes)) ∙ get_or-take n bytes k 0 lt)
    (λ past.
    get_or-append_right (take n bytes) (replicate (n - length bytes) 0) (length bytes) k 0 (omega (arith, length-take n bytes)) past
    ∙ get_or-replicate (n - length bytes) (k - length bytes) 0 0 (omega arith)
    ∙ sym (get_or_past bytes k 0 past))
    (cases_lt k (length bytes))

pub take-resized : (n m : ℕ) (bytes : List ℕ) → n ≤ m → take n (resized m bytes) ≡ resized n bytes
take-resized n m bytes le = ext_get_or 0 (take n (resized m bytes)) (resized n bytes)
    (omega (arith, length-take n (resized m bytes), length-resized m bytes, length-resized n bytes))
    (λ k lt.
    let below : k < n = omega (arith, lt, length-take n (resized m bytes), length-resized m bytes) in
    get_or-take n (resized m bytes) k 0 below ∙ get_or-resized m bytes k (omega (arith, below)) ∙ sym (get_or-resized n bytes k below))

-- written over after they were made long enough
pub over_longer : (at n : ℕ) (bytes old : List ℕ) → n ≡ at + length bytes → length old < n → take at (resized n old) ++ bytes ++ drop (at + length bytes) (resized n old) ≡ overwritten at bytes old
over_longer at n bytes old n_is short =
    let behind : drop (at + length bytes) (resized n old) ≡ drop (at + length bytes) old =
    drop_all (at + length bytes) (resized n old) (omega (arith, length-resized n old, n_is)) ∙ sym (drop_all (at + length bytes) old (omega (arith, n_is, short))) in
    λ j. take-resized at n old (omega (arith, n_is)) j ++ bytes ++ behind j

split : (n m : ℕ) (bytes : List ℕ) → take (n + m) bytes ≡ take n bytes ++ take m (drop n bytes)
split n m bytes =
    sym (take-append-drop n (take (n + m) bytes))
    ∙ (λ j. take-take n (n + m) bytes (omega arith) j ++ drop-take n m bytes j)

-- the buffer after one of them was cut
pub shorter_is : (bytes : List ℕ) (from old size end place count : ℕ) → size < old → from + old ≤ length bytes → end ≡ from + old → place ≡ end - (old - size) → count ≡ old - size
    → take place bytes ++ drop (place + count) bytes ≡ take from bytes ++ (resized size (take old (drop from bytes)) ++ drop end bytes)
shorter_is bytes from old size end place count short within end_is place_is count_is =
    let at : place ≡ from + size = omega arith in
    let on : place + count ≡ end = omega arith in
    let none : size - length (take old (drop from bytes)) ≡ 0 = omega (arith, length-take old (drop from bytes), length-drop from bytes) in
    let part : resized size (take old (drop from bytes)) ≡ take size (drop from bytes) =
    ap (λ (k : ℕ). take size (take old (drop from bytes)) ++ replicate k 0) none ∙ append-nil (take size (take old (drop from bytes))) ∙ take-take size old (drop from bytes) (omega arith) in
    (λ j. take (at j) bytes ++ drop (on j) bytes)
    ∙ ap (λ (l : List ℕ). l ++ drop end bytes) (split from size bytes)
    ∙ append_assoc (take from bytes) (take size (drop from bytes)) (drop end bytes)
    ∙ sym (ap (λ (l : List ℕ). take from bytes ++ (l ++ drop end bytes)) part)

-- and after one was made longer
pub longer_is : (bytes : List ℕ) (from old size end : ℕ) → old ≤ size → from + old ≤ length bytes → end ≡ from + old
    → take end bytes ++ replicate (size - old) 0 ++ drop end bytes ≡ take from bytes ++ (resized size (take old (drop from bytes)) ++ drop end bytes)
longer_is bytes from old size end long within end_is =
    let own : length (take old (drop from bytes)) ≡ old = omega (arith, length-take old (drop from bytes), length-drop from bytes) in
    let part : resized size (take old (drop from bytes)) ≡ take old (drop from bytes) ++ replicate (size - old) 0 =
    (λ j. take_all size (take old (drop from bytes)) (omega (arith, own)) j ++ replicate (size - own j) 0) in
    (λ j. take (end_is j) bytes ++ replicate (size - old) 0 ++ drop end bytes)
    ∙ ap (λ (l : List ℕ). l ++ replicate (size - old) 0 ++ drop end bytes) (split from old bytes)
    ∙ ap (λ (l : List ℕ). l ++ drop end bytes) (append_assoc (take from bytes) (take old (drop from bytes)) (replicate (size - old) 0))
    ∙ append_assoc (take from bytes) (take old (drop from bytes) ++ replicate (size - old) 0) (drop end bytes)
    ∙ sym (ap (λ (l : List ℕ). take from bytes ++ (l ++ drop end bytes)) part)

-- and after bytes of one were written over
pub over_is : (bytes part : List ℕ) (from old at end : ℕ) → from + old ≤ length bytes → at + length part ≤ old → end ≡ from + old
    → take (from + at) bytes ++ (part ++ drop (from + at + length part) bytes)
    ≡ take from bytes ++ ((take at (take old (drop from bytes)) ++ part ++ drop (at + length part) (take old (drop from bytes))) ++ drop end bytes)
over_is bytes part from old at end within inside end_is =
    let n : ℕ = at + length part in
    let on : from + at + length part ≡ from + n = omega arith in
    let left : old ≡ n + (old - n) = omega arith in
    let back : drop (from + n) bytes ≡ drop n (take old (drop from bytes)) ++ drop end bytes =
    sym (drop-drop n from bytes)
    ∙ ap (drop n) (sym (take-append-drop old (drop from bytes)))
    ∙ drop-append-le n (take old (drop from bytes)) (drop old (drop from bytes)) (omega (arith, length-take old (drop from bytes), length-drop from bytes))
    ∙ ap (λ (l : List ℕ). drop n (take old (drop from bytes)) ++ l) (drop-drop old from bytes ∙ ap (λ (k : ℕ). drop k bytes) (sym end_is)) in
    let x : List ℕ = take at (drop from bytes) in
    let z : List ℕ = drop n (take old (drop from bytes)) in
    (λ j. split from at bytes j ++ (part ++ drop (on j) bytes))
    ∙ ap (λ (l : List ℕ). (take from bytes ++ x) ++ (part ++ l)) back
    ∙ append_assoc (take from bytes) x (part ++ (z ++ drop end bytes))
    ∙ ap (λ (l : List ℕ). take from bytes ++ (x ++ l)) (sym (append_assoc part z (drop end bytes)))
    ∙ ap (λ (l : List ℕ). take from bytes ++ l) (sym (append_assoc x (part ++ z) (drop end bytes)))
    ∙ ap (λ (l : List ℕ). take from bytes ++ (l ++ drop end bytes)) (sym (append_assoc x part z))
    ∙ ap (λ (l : List ℕ). take from bytes ++ ((l ++ part ++ z) ++ drop end bytes)) (sym (take-take at old (drop from bytes) (omega arith)))

-- written behind the end
pub over_end : (now old bytes : List ℕ) → now ≡ old → overwritten (length now) bytes old ≡ old ++ bytes
over_end now old bytes is =
    let none : length now - length old ≡ 0 = omega (arith, ap length is) in
    let front : resized (length now) old ≡ old = (λ j. take_all (length now) old (omega (arith, ap length is)) j ++ replicate (none j) 0) ∙ append-nil old in
    (λ j. front j ++ bytes ++ drop_all (length now + length bytes) old (omega (arith, ap length is)) j)
    ∙ append-nil (old ++ bytes)

-- what is known of the one at a place
module _ (sizes bytes : List ℕ) (items : List (List ℕ)) (i : ℕ) (is : cut_up sizes bytes ≡ items) (all : extent sizes ≡ length bytes) (lt : i < length items) where
  pub within : i < length sizes
  within = omega (arith, ap length is, length-cut_up sizes bytes, lt)

  pub part_is : get_or items i [] ≡ take (get_or sizes i 0) (drop (extent (take i sizes)) bytes)
  part_is = sym (ap (λ (l : List (List ℕ)). get_or l i []) is) ∙ part_at sizes bytes i [] within

  pub size_is : length (get_or items i []) ≡ get_or sizes i 0
  size_is = sym (ap (λ (l : List (List ℕ)). length (get_or l i [])) is) ∙ size_at sizes bytes i [] within (omega (arith, all))

  pub upto : extent (take i sizes) + get_or sizes i 0 ≤ length bytes
  upto = omega (arith, all, extent-take-le sizes i)

  pub with_part : (more part : List ℕ) (from end n : ℕ) → from ≡ extent (take i sizes) → end ≡ from + get_or sizes i 0 → n ≡ length part → more ≡ take from bytes ++ (part ++ drop end bytes) → cut_up (set sizes i n) more ≡ set items i part
  with_part more part from end n from_is end_is n_is more_is =
      ap (cut_up (set sizes i n)) more_is ∙ replaced sizes bytes part i from end n within (omega (arith, all)) from_is end_is n_is ∙ ap (λ (l : List (List ℕ)). set l i part) is

  -- after it was cut
  pub cut_shorter : (more : List ℕ) (from old size place count : ℕ) → from ≡ extent (take i sizes) → old ≡ get_or sizes i 0 → size < old → place ≡ from + old - (old - size) → count ≡ old - size → more ≡ take place bytes ++ drop (place + count) bytes
      → cut_up (set sizes i size) more ≡ set items i (resized size (get_or items i []))
  cut_shorter more from old size place count from_is old_is short place_is count_is more_is =
      let part : get_or items i [] ≡ take old (drop from bytes) = part_is ∙ (λ j. take (sym old_is j) (drop (sym from_is j) bytes)) in
      ap (λ (l : List ℕ). cut_up (set sizes i size) l) more_is
      ∙ with_part (take place bytes ++ drop (place + count) bytes) (resized size (take old (drop from bytes))) from (from + old) size from_is (omega (arith, old_is)) (sym (length-resized size (take old (drop from bytes)))) (shorter_is bytes from old size (from + old) place count short (omega (arith, from_is, old_is, upto)) refl place_is count_is)
      ∙ ap (λ (l : List ℕ). set items i (resized size l)) (sym part)

  -- after it was made longer by zeros
  pub cut_longer : (more : List ℕ) (from old size : ℕ) → from ≡ extent (take i sizes) → old ≡ get_or sizes i 0 → old ≤ size → more ≡ take (from + old) bytes ++ replicate (size - old) 0 ++ drop (from + old) bytes
      → cut_up (set sizes i size) more ≡ set items i (resized size (get_or items i []))
  cut_longer more from old size from_is old_is long more_is =
      let part : get_or items i [] ≡ take old (drop from bytes) = part_is ∙ (λ j. take (sym old_is j) (drop (sym from_is j) bytes)) in
      ap (λ (l : List ℕ). cut_up (set sizes i size) l) more_is
      ∙ with_part (take (from + old) bytes ++ replicate (size - old) 0 ++ drop (from + old) bytes) (resized size (take old (drop from bytes))) from (from + old) size from_is (omega (arith, old_is)) (sym (length-resized size (take old (drop from bytes)))) (longer_is bytes from old size (from + old) long (omega (arith, from_is, old_is, upto)) refl)
      ∙ ap (λ (l : List ℕ). set items i (resized size l)) (sym part)

  -- after some of its bytes were written over
  pub written_over : (more part : List ℕ) (from at place : ℕ) → from ≡ extent (take i sizes) → place ≡ from + at → at + length part ≤ length (get_or items i []) → more ≡ overwritten place part bytes
      → cut_up sizes more ≡ set items i (take at (get_or items i []) ++ part ++ drop (at + length part) (get_or items i []))
  written_over more part from at place from_is place_is inside more_is =
      let old : ℕ = get_or sizes i 0 in
      let own : get_or items i [] ≡ take old (drop from bytes) = part_is ∙ ap (λ (n : ℕ). take old (drop n bytes)) (sym from_is) in
      let new : List ℕ = take at (take old (drop from bytes)) ++ part ++ drop (at + length part) (take old (drop from bytes)) in
      let fits : from + old ≤ length bytes = omega (arith, from_is, upto) in
      let same : length (take old (drop from bytes)) ≡ old = omega (arith, length-take old (drop from bytes), length-drop from bytes, fits) in
      let size : old ≡ length new =
      omega (arith, length-append (take at (take old (drop from bytes)) ++ part) (drop (at + length part) (take old (drop from bytes))), length-append (take at (take old (drop from bytes))) part, length-take at (take old (drop from bytes)), length-drop (at + length part) (take old (drop from bytes)), same, inside, size_is) in
      let whole : more ≡ take from bytes ++ (new ++ drop (from + old) bytes) =
      more_is ∙ overwritten_within place part bytes (omega (arith, place_is, inside, size_is, fits))
      ∙ append_assoc (take place bytes) part (drop (place + length part) bytes)
      ∙ (λ j. take (place_is j) bytes ++ (part ++ drop (place_is j + length part) bytes))
      ∙ over_is bytes part from old at (from + old) fits (omega (arith, inside, size_is)) refl in
      ap (λ (l : List ℕ). cut_up l more) (sym (set-get_or sizes i 0))
      ∙ with_part more new from (from + old) old from_is refl size whole
      ∙ ap (λ (l : List ℕ). set items i (take at l ++ part ++ drop (at + length part) l)) (sym own)
