-- How many pieces are sent is how many cuts there are.
use Rattle.std.proofs.Common.{◌≡◌, ℕ, zero, suc, ◌+◌, ◌-◌, ◌%◌, ◌<◌, ◌≤◌, Bool, true, false, ◌&&◌, eqb, ltb, leb, inl, inr, refl, sym, ◌∙◌, ap, subst, arith}
use borrow.Author.Tests.{ltb-true}
use Rattle.std.specs.Prelude.{◌||◌, if◌then◌else◌}
use Rattle.std.proofs.lemmas.Bool.{and_from, or_left, lt-ltb, le-leb, eq-eqb}
use Rattle.cd_outside.specs.Cuts.{counted_from, is_cut, cuts_to, pieces}
use Rattle.cd_pieces.specs.Piece.{piece_end, IsReached, IsNextCut}
use Rattle.cd_pieces.proofs.PieceLaw.{piece_end-next_cut}
use Rattle.cd_pieces.specs.Sending.{Sent, begun, piece}

-- up to the start there is no cut
early : (len block interval start place : ℕ) → place ≤ start → is_cut len block interval start place ≡ false
early len block interval start place upto = cases (ltb start place) refl
  where
    cases : (t : Bool) → ltb start place ≡ t → is_cut len block interval start place ≡ false
    cases true is = absurd (omega (arith, ltb-true start place is, upto))
    cases false is = ap (λ (t : Bool). t && leb place len && (eqb place len || (ltb 0 interval && eqb (place % interval) 0) || eqb ((place - counted_from interval start place) % block) 0)) is

none_yet : (len block interval start place : ℕ) → place ≤ start → cuts_to len block interval start place ≡ 0
none_yet len block interval start zero upto = refl
none_yet len block interval start (suc place) upto =
    (λ j. none_yet len block interval start place (omega arith) j + (if early len block interval start (suc place) upto j then 1 else 0))

-- between two places without a cut the number stays
still : (len block interval start offset n : ℕ) → ((place : ℕ) → offset < place → place ≤ offset + n → is_cut len block interval start place ≡ false) → cuts_to len block interval start (n + offset) ≡ cuts_to len block interval start offset
still len block interval start offset zero none = ap (cuts_to len block interval start) (omega arith)
still len block interval start offset (suc n) none =
    let next : suc n + offset ≡ suc (n + offset) = omega arith in
    ap (cuts_to len block interval start) next
    ∙ (λ j. still len block interval start offset n (λ place behind upto. none place behind (omega (arith, upto))) j + (if none (suc (n + offset)) (omega arith) (omega arith) j then 1 else 0))
    ∙ omega arith

-- at the next cut it is one more
one_more : (len block interval start offset end : ℕ) → IsNextCut len block interval start offset end → cuts_to len block interval start end ≡ cuts_to len block interval start offset + 1
one_more len block interval start offset end next =
    let n : ℕ = end - offset - 1 in
    let last : end ≡ suc (n + offset) = omega (arith, next.further) in
    let before = still len block interval start offset n (λ place behind upto. next.none_between place behind (omega (arith, upto, next.further))) in
    let cut : is_cut len block interval start (suc (n + offset)) ≡ true = subst (λ (p : ℕ). is_cut len block interval start p ≡ true) last next.cut in
    ap (cuts_to len block interval start) last
    ∙ (λ j. before j + (if cut j then 1 else 0))

record IsOn (len block interval start offset count : ℕ) : Type 0 where
  behind : start ≤ offset
  reached : IsReached len block interval start offset
  counted : cuts_to len block interval start offset ≡ count

sent_on : {len block interval start offset count : ℕ} → 1 ≤ block → Sent len block interval start offset count → IsOn len block interval start offset count
sent_on some (begun {len} {block} {interval} {start}) = record { behind = omega arith; reached = inl refl; counted = none_yet len block interval start start (omega arith) }
sent_on some (piece {len} {block} {interval} {start} {offset} {count} sent within) =
    let on = sent_on some sent in
    let next = piece_end-next_cut len block interval start offset some on.behind within on.reached in
    record {
      behind = omega (arith, on.behind, next.further);
      reached = inr next.cut;
      counted = one_more len block interval start offset (piece_end len block interval offset) next ∙ ap (λ (k : ℕ). k + 1) on.counted;
    }

pub sent-counted : (len block interval start offset count : ℕ) → 1 ≤ block → Sent len block interval start offset count → cuts_to len block interval start offset ≡ count
sent-counted len block interval start offset count some sent = (sent_on some sent).counted

pub pieces-some : (len block interval : ℕ) → 1 ≤ len → 1 ≤ pieces len block interval
pieces-some zero block interval long = absurd (omega arith)
pieces-some (suc n) block interval long =
    let end : ℕ = suc n in
    let bounds : (ltb 0 end && leb end end) ≡ true = and_from (ltb 0 end) (leb end end) (lt-ltb 0 end long) (le-leb end end (omega arith)) in
    let ends : (eqb end end || (ltb 0 interval && eqb (end % interval) 0) || eqb ((end - counted_from interval 0 end) % block) 0) ≡ true = or_left _ _ (or_left _ _ (eq-eqb end end refl)) in
    let cut : is_cut end block interval 0 end ≡ true = and_from _ _ bounds ends in
    omega (arith, ap (λ (t : Bool). cuts_to end block interval 0 n + (if t then 1 else 0)) cut)
