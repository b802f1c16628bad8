-- The image that a crash leaves of a content.
use Rattle.std.proofs.Common.{◌≡◌, ◌≤◌, List, ℕ, length, sym, ◌∙◌, ap, subst, arith}
use Rattle.std.specs.Prelude.{reverse}
use Rattle.cd_outside.specs.Doubt.{IsImage}
use Rattle.cd_memory_state.specs.Generator.{left_by}
use Rattle.cd_memory_state.specs.Record.{Held}
use Rattle.cd_memory_state.specs.Tied.{state_in, held_in, IsTied}
use Rattle.cd_memory_state.specs.declared.content.Content.TheInside.{Inside}
use Rattle.cd_memory_state.proofs.Doubtful.{left_by_is}

module _ (a : Inside) (t : IsTied a) (held : Held) (view : held_in a ≡ held) (image : ℕ) (base : List ℕ) (ranges : List (ℕ × ℕ)) (base_is : base ≡ a.base.items) (ranges_is : ranges ≡ a.ranges.items) (new : List ℕ) (made : new ≡ left_by image (record { base = base; ranges = reverse ranges; least = a.least; greatest = a.greatest }) a.seen.items) where
  made_inside : new ≡ left_by image (state_in a).doubt (state_in a).seen
  made_inside =
      let ranges_are : reverse ranges ≡ (state_in a).doubt.ranges = ap reverse ranges_is ∙ sym t.ranges in
      let base_was : base ≡ (state_in a).doubt.base = base_is ∙ sym t.base in
      let least : a.least ≡ (state_in a).doubt.least = sym t.least in
      let greatest : a.greatest ≡ (state_in a).doubt.greatest = sym t.greatest in
      let seen : a.seen.items ≡ (state_in a).seen = sym t.seen in
      made ∙ (λ i. left_by image (record { base = base_was i; ranges = ranges_are i; least = least i; greatest = greatest i }) (seen i))

  pub left_is : new ≡ left_by image held.state.doubt held.state.seen
  left_is = made_inside ∙ ap (λ (h : Held). left_by image h.state.doubt h.state.seen) view

  module _ (now : IsImage held.state.doubt held.state.seen) where
    now_inside : IsImage (state_in a).doubt (state_in a).seen
    now_inside = subst (λ (h : Held). IsImage h.state.doubt h.state.seen) (sym view) now

    inside : IsImage (state_in a).doubt new
    inside = subst (IsImage (state_in a).doubt) (sym made_inside)
        (left_by_is image (state_in a).doubt (state_in a).seen now_inside (omega (arith, ap length t.base, t.least, t.base_from)) (omega (arith, ap length t.base, t.greatest, t.base_to)))

    pub image_is : IsImage held.state.doubt new
    image_is = subst (λ (h : Held). IsImage h.state.doubt new) view inside

    pub length_is : length new ≤ a.greatest
    length_is = omega (arith, inside.no_longer, t.greatest)
