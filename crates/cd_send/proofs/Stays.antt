-- What a sender knows stays so when a piece goes out, and when one is acknowledged.
use Rattle.std.proofs.Common.{◌≡◌, ℕ, ◌+◌, ◌-◌, ◌<◌, ◌≤◌, Bool, true, false, eqb, ◌⊎◌, inl, inr, refl, sym, ◌∙◌, subst, arith}
use Rattle.std.proofs.lemmas.Bool.{cases_lt, or_cases, or_right, eqb-true, false≢true}
use Rattle.cd_outside.specs.Cuts.{is_cut}
use Rattle.cd_pieces.specs.Piece.{piece_end, IsReached, IsNextCut}
use Rattle.cd_pieces.proofs.PieceLaw.{piece_end-next_cut}
use Rattle.cd_send.specs.Sending.{Sending, is_reached, IsSending, awaited, next_end}

reached : (s : Sending) (offset : ℕ) → is_reached s offset ≡ true → IsReached s.length s.block s.interval s.start offset
reached s offset whole =
    elim (or_cases (eqb offset s.start) (is_cut s.length s.block s.interval s.start offset) whole) [
      | inl first ↦ inl (eqb-true offset s.start first)
      | inr cut ↦ inr cut
    ]

pub sent_stays : (s : Sending) → IsSending s → s.sent < s.length → IsSending (record s { sent = next_end s })
sent_stays s is more =
    let next : IsNextCut s.length s.block s.interval s.start s.sent (next_end s) =
    piece_end-next_cut s.length s.block s.interval s.start s.sent is.some (omega (arith, is.from, is.order)) more (reached s s.sent is.sent_whole) in
    record {
      some = is.some;
      from = is.from;
      order = omega (arith, is.order, next.further);
      within = omega arith;
      sent_whole = or_right _ _ next.cut;
      acked_whole = is.acked_whole;
    }

pub sent_stays_at : (s : Sending) (end : ℕ) → IsSending s → s.sent < s.length → end ≡ next_end s → IsSending (record s { sent = end })
sent_stays_at s end is more at = subst (λ (e : ℕ). IsSending (record s { sent = e })) (sym at) (sent_stays s is more)

-- the next piece ends at the next cut
pub ends_at_cut : (s : Sending) (end : ℕ) → IsSending s → s.sent < s.length → end ≡ next_end s → IsNextCut s.length s.block s.interval s.start s.sent end
ends_at_cut s end is more at =
    subst (λ (e : ℕ). IsNextCut s.length s.block s.interval s.start s.sent e) (sym at)
    (piece_end-next_cut s.length s.block s.interval s.start s.sent is.some (omega (arith, is.from, is.order)) more (reached s s.sent is.sent_whole))

-- the same of what a sender is seen as
pub piece_at_cut : (s now : Sending) (end : ℕ) → s ≡ now → IsSending s → s.sent < s.length → end ≡ next_end s
    → IsNextCut now.length now.block now.interval now.start s.sent (s.sent + (end - s.sent))
piece_at_cut s now end same is more at =
    let next : IsNextCut s.length s.block s.interval s.start s.sent end = ends_at_cut s end is more at in
    let whole : end ≡ s.sent + (end - s.sent) = omega (arith, next.further) in
    subst (λ (seen : Sending). IsNextCut seen.length seen.block seen.interval seen.start s.sent (s.sent + (end - s.sent))) same
    (subst (λ (e : ℕ). IsNextCut s.length s.block s.interval s.start s.sent e) whole next)

pub acked_stays : (s : Sending) (offset : ℕ) → IsSending s → s.acked < s.sent → offset ≡ awaited s → IsSending (record s { acked = offset })
acked_stays s offset is open_one at =
    let next : IsNextCut s.length s.block s.interval s.start s.acked (awaited s) =
    piece_end-next_cut s.length s.block s.interval s.start s.acked is.some is.from (omega (arith, is.within)) (reached s s.acked is.acked_whole) in
    let upto : awaited s ≤ s.sent =
    elim (cases_lt s.sent (awaited s)) [
      | inl before ↦
          let none : is_cut s.length s.block s.interval s.start s.sent ≡ false = next.none_between s.sent open_one before in
          elim (or_cases (eqb s.sent s.start) (is_cut s.length s.block s.interval s.start s.sent) is.sent_whole) [
            | inl first ↦ absurd (omega (arith, eqb-true s.sent s.start first, is.from))
            | inr cut ↦ absurd (false≢true (sym none ∙ cut))
          ]
      | inr within ↦ within
    ] in
    record {
      some = is.some;
      from = omega (arith, is.from, next.further, at);
      order = omega (arith, upto, at);
      within = is.within;
      sent_whole = is.sent_whole;
      acked_whole = or_right _ _ (subst (λ (o : ℕ). is_cut s.length s.block s.interval s.start o ≡ true) (sym at) next.cut);
    }
