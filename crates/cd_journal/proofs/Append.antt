-- What the writes of an append leave.
use Rattle.std.proofs.Common.{◌≡◌, ◌⊎◌, ℕ, suc, ◌+◌, ◌≤◌, ◌<◌, List, [], ◌∷◌, ◌++◌, length, take, drop, get_or, Ok, refl, sym, ◌∙◌, ap, subst, inl, inr, arith, length-append, append_assoc}
use Rattle.std.proofs.lemmas.Bool.{cases_eq}
use Rattle.std.proofs.lemmas.List.{append-nil, take-append-drop, take-take, take_at, drop_at, drop-take, drop_more, take_more, length-take-le, map_push, get_or_at}
use Rattle.std.specs.Prelude.{All}
use Rattle.byteorder.specs.Endian.{big_bytes}
use Rattle.byteorder.specs.Numbers.{big_number-reads_back}
use Rattle.cd_outside.specs.Content.{overwritten}
use Rattle.cd_outside.specs.Through.{IsTorn}
use Rattle.cd_outside.proofs.Contents.{overwritten_within, length-overwritten}
use Rattle.cd_journal.specs.Bytes.{Listing, told_length, list_of, IsFront}
use Rattle.cd_journal.specs.Index.{body_in, bodies_in, IsBelow, IsClosed}
use Rattle.cd_journal.specs.Journal.{with_last, IsBeforeOrAfter}
use Rattle.cd_journal.specs.declared.place.Place.{Place}
use Rattle.cd_journal.proofs.Fronts.{front_entry, list_of-closed}
use Rattle.cd_journal.proofs.Steps.{closed_list}

-- a body below a place is the same in bytes that are the same up to it
body_in-same : (a b : List ℕ) (end : ℕ) (place : Place) → take end a ≡ take end b → place.at + place.len ≤ end → body_in a place ≡ body_in b place
body_in-same a b end place same low =
    let cut = λ (l : List ℕ). drop-take place.at place.len l in
    let fronts : take (place.at + place.len) a ≡ take (place.at + place.len) b =
    sym (take-take (place.at + place.len) end a low) ∙ ap (take (place.at + place.len)) same ∙ take-take (place.at + place.len) end b low in
    sym (cut a) ∙ ap (drop place.at) fronts ∙ cut b

below_tail : (place : Place) (places : List Place) (end : ℕ) → All (λ (p : Place). p.at + p.len ≤ end) (place ∷ places) → All (λ (p : Place). p.at + p.len ≤ end) places
below_tail place places end all = λ k d lt. all (suc k) d (omega arith)

bodies_in-same : (a b : List ℕ) (end : ℕ) (places : List Place) → take end a ≡ take end b → All (λ (p : Place). p.at + p.len ≤ end) places → bodies_in a places ≡ bodies_in b places
bodies_in-same a b end [] same all = refl
bodies_in-same a b end (place ∷ places) same all =
    let first : body_in a place ≡ body_in b place = body_in-same a b end place same (all 0 place (omega arith)) in
    let rest = bodies_in-same a b end places same (below_tail place places end all) in
    rw (first, rest) refl

pub told_length-back : (n : ℕ) → n ≤ 262144 → told_length (big_bytes 4 n) ≡ n
unfolding told_length
told_length-back n high = ap told_length (sym (append-nil (big_bytes 4 n))) ∙ big_number-reads_back 4 n [] (omega arith)

module _ (seen : List ℕ) (places : List Place) (end : ℕ) (is : IsClosed seen places end) (body len block staged final : List ℕ) (four : length len ≡ 4) (told : told_length len ≡ length body)
    (block_is : block ≡ (len ++ body) ++ 0 ∷ []) (staged_by : staged ≡ overwritten (end + 1) block seen) (final_by : final ≡ overwritten end (1 ∷ []) staged) (low : 1 ≤ length body) (high : length body ≤ 262144) where
  abbrev old : List (List ℕ)
  old = bodies_in seen places

  abbrev front : List ℕ
  front = take end seen

  abbrev gate : ℕ
  gate = get_or seen end 0

  abbrev tail : List ℕ
  tail = drop (end + 1 + length block) seen

  abbrev place : Place
  place = record { at = end + 5; len = length body }

  size_front : length front ≡ end
  size_front = length-take-le end seen (omega (arith, is.inside))

  -- the list of the bytes before
  was : list_of seen ≡ Ok old
  was = closed_list seen places end is

  front_gate : take (end + 1) seen ≡ front ++ gate ∷ []
  front_gate = take_more seen end 0 is.inside

  -- the first write leaves the closed gate, whatever it leaves behind it
  pub torn_behind : (image : List ℕ) (n : ℕ) → IsTorn (end + 1) n seen image → list_of image ≡ list_of seen
  torn_behind image n torn =
      let whole : image ≡ front ++ gate ∷ drop (end + 1) image =
      sym (take-append-drop (end + 1) image) ∙ ap (λ (l : List ℕ). l ++ drop (end + 1) image) (torn.front ∙ front_gate) ∙ append_assoc front (gate ∷ []) (drop (end + 1) image) in
      ap list_of whole ∙ list_of-closed front gate (drop (end + 1) image) old is.front is.closed ∙ sym was

  pub length-staged : end + 1 < length staged
  length-staged =
      omega (arith, ap length staged_by, length-overwritten (end + 1) block seen, ap length block_is, length-append (len ++ body) (0 ∷ []), is.inside)

  staged_is : staged ≡ front ++ gate ∷ (block ++ tail)
  staged_is =
      staged_by
      ∙ overwritten_within (end + 1) block seen (omega (arith, is.inside))
      ∙ ap (λ (l : List ℕ). l ++ block ++ tail) front_gate
      ∙ append_assoc (front ++ gate ∷ []) block tail
      ∙ append_assoc front (gate ∷ []) (block ++ tail)

  -- with a gate in its place
  abbrev with_gate : ℕ → List ℕ
  with_gate g = front ++ g ∷ (block ++ tail)

  before_gate : take end staged ≡ front
  before_gate = ap (take end) staged_is ∙ take_at front (gate ∷ (block ++ tail)) end size_front

  behind_gate : drop (end + 1) staged ≡ block ++ tail
  behind_gate =
      ap (drop (end + 1)) (staged_is ∙ sym (append_assoc front (gate ∷ []) (block ++ tail)))
      ∙ drop_at (front ++ gate ∷ []) (block ++ tail) (end + 1) (omega (arith, length-append front (gate ∷ []), size_front))

  -- the front with the entry
  abbrev longer : List ℕ
  longer = front ++ 1 ∷ (len ++ body)

  longer_front : IsFront longer (old ++ body ∷ [])
  longer_front = front_entry front len body old is.front four told low high

  open_gate : with_gate 1 ≡ longer ++ 0 ∷ tail
  open_gate =
      ap (λ (l : List ℕ). front ++ 1 ∷ (l ++ tail)) block_is
      ∙ ap (λ (l : List ℕ). front ++ 1 ∷ l) (append_assoc (len ++ body) (0 ∷ []) tail)
      ∙ sym (append_assoc front (1 ∷ (len ++ body)) (0 ∷ tail))

  one_more : Ok (old ++ body ∷ []) ≡ with_last (list_of seen) body
  one_more = ap (λ (l : Listing). with_last l body) (sym was)

  list_open : list_of (with_gate 1) ≡ with_last (list_of seen) body
  list_open = ap list_of open_gate ∙ list_of-closed longer 0 tail (old ++ body ∷ []) longer_front (λ e. omega arith) ∙ one_more

  list_gate : (g : ℕ) → (list_of (with_gate g) ≡ list_of seen) ⊎ (list_of (with_gate g) ≡ with_last (list_of seen) body)
  list_gate g = elim (cases_eq g 1) [
    | inl is_open ↦ inr (ap (λ (k : ℕ). list_of (with_gate k)) is_open ∙ list_open)
    | inr shut ↦ inl (list_of-closed front g (block ++ tail) old is.front shut ∙ sym was)
  ]

  -- the whole entry behind any gate counts or it doesn't
  pub torn_gate : (image : List ℕ) → IsTorn end 1 staged image → IsBeforeOrAfter seen body image
  torn_gate image torn =
      let g = get_or image end 0 in
      let whole : image ≡ with_gate g =
      sym (take-append-drop end image)
      ∙ ap (λ (l : List ℕ). l ++ drop end image) (torn.front ∙ before_gate)
      ∙ ap (λ (l : List ℕ). front ++ l) (drop_more image end 0 (omega (arith, torn.no_shorter, length-staged)) ∙ ap (λ (l : List ℕ). g ∷ l) (torn.back ∙ behind_gate)) in
      subst (IsBeforeOrAfter seen body) (sym whole) (list_gate g)

  final_is : final ≡ with_gate 1
  final_is =
      final_by
      ∙ overwritten_within end (1 ∷ []) staged (omega (arith, length-staged))
      ∙ ap (λ (l : List ℕ). l ++ (1 ∷ []) ++ drop (end + 1) staged) before_gate
      ∙ append_assoc front (1 ∷ []) (drop (end + 1) staged)
      ∙ ap (λ (l : List ℕ). front ++ 1 ∷ l) behind_gate

  size_longer : length longer ≡ end + 5 + length body
  size_longer = omega (arith, length-append front (1 ∷ (len ++ body)), length-append len body, size_front, four)

  final_longer : final ≡ longer ++ 0 ∷ tail
  final_longer = final_is ∙ open_gate

  body_there : body_in final place ≡ body
  body_there =
      let split : final ≡ (front ++ 1 ∷ len) ++ (body ++ 0 ∷ tail) =
      final_longer ∙ append_assoc front (1 ∷ (len ++ body)) (0 ∷ tail)
      ∙ ap (λ (l : List ℕ). front ++ 1 ∷ l) (append_assoc len body (0 ∷ tail))
      ∙ sym (append_assoc front (1 ∷ len) (body ++ 0 ∷ tail)) in
      ap (λ (l : List ℕ). take (length body) (drop (end + 5) l)) split
      ∙ ap (take (length body)) (drop_at (front ++ 1 ∷ len) (body ++ 0 ∷ tail) (end + 5) (omega (arith, length-append front (1 ∷ len), size_front, four)))
      ∙ take_at body (0 ∷ tail) (length body) refl

  bodies_there : IsBelow places end → bodies_in final (places ++ place ∷ []) ≡ old ++ body ∷ []
  bodies_there below =
      let same : take end final ≡ take end seen = ap (take end) final_is ∙ take_at front (1 ∷ (block ++ tail)) end size_front in
      map_push (body_in final) places place
      ∙ ap (λ (l : List (List ℕ)). l ++ body_in final place ∷ []) (bodies_in-same final seen end places same below.ends)
      ∙ ap (λ (l : List ℕ). old ++ l ∷ []) body_there

  pub final_closed : IsBelow places end → IsClosed final (places ++ place ∷ []) (end + 5 + length body)
  final_closed below = record {
    front = subst (λ (l : List (List ℕ)). IsFront (take (end + 5 + length body) final) l) (sym (bodies_there below))
        (subst (λ (l : List ℕ). IsFront l (old ++ body ∷ [])) (sym (ap (take (end + 5 + length body)) final_longer ∙ take_at longer (0 ∷ tail) (end + 5 + length body) size_longer)) longer_front);
    inside = omega (arith, ap length final_longer, length-append longer (0 ∷ tail), size_longer);
    closed = λ e. let zero_there : get_or final (end + 5 + length body) 0 ≡ 0 =
        ap (λ (l : List ℕ). get_or l (end + 5 + length body) 0) final_longer ∙ get_or_at longer 0 tail 0 (end + 5 + length body) size_longer in
        absurd (omega arith);
  }

  pub final_list : list_of final ≡ with_last (list_of seen) body
  final_list = ap list_of final_is ∙ list_open
