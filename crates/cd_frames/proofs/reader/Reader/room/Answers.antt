use Rattle.std.proofs.Common.{◌≡◌, ◌-◌, ◌++◌, ◌≤◌, None, length, take, drop, ap, sym, refl, ◌∙◌, arith}
use Rattle.std.proofs.lemmas.Slice.{between_to_end}
use Rattle.cd_frames.specs.Buffer.{between, given_in}
use Rattle.cd_frames.specs.Reading.{Reading, overwritten}
use Rattle.cd_frames.proofs.StreamLaw.{waits_short}
use Rattle.cd_frames.proofs.Buffers.{laid, kept, laid_over}
use Rattle.cd_frames.proofs.reader.Reader.room.Goals as goal

pub returns : goal.returns
returns c =
    let b = c.self.inside in
    let xs = b.buffer.items in
    let within : b.end ≤ length xs = omega (arith, c.self.invariant.within, b.buffer.ok.0) in
    let lent : c.slice_mut.result.now ≡ drop b.end xs = c.slice_mut.ensures.value ∙ between_to_end xs b.end b.buffer.len (omega (arith, b.buffer.ok.0)) in
    let free : drop b.end xs ≡ c.make_room.new.self.free = ap (λ (r : Reading). r.free) c.self.view_is in
    let place : b.place ≡ c.args.self.now.place = ap (λ (r : Reading). r.place) c.self.view_is ∙ c.make_room.ensures.place in
    let rest : take (b.end - b.start) (drop b.start xs) ≡ c.args.self.now.rest = ap (λ (r : Reading). r.rest) c.self.view_is ∙ c.make_room.ensures.rest in
    let given : given_in (between b.last b.start xs) ≡ None = ap (λ (r : Reading). r.given) c.self.view_is ∙ c.make_room.ensures.given in (
      (
        refl,
        λ w.
            let items = ap (λ n. take n (laid xs w b.end within ++ drop (length (laid xs w b.end within)) xs)) b.buffer.ok.0 in
            let before = ap (λ ys. take (b.end - b.start) (drop b.start ys)) items ∙ kept xs w b.end within b.start b.end (omega arith) ∙ rest in
            let last = ap given_in (ap (λ ys. take (b.start - b.last) (drop b.last ys)) items ∙ kept xs w b.end within b.last b.start c.self.invariant.order) ∙ given in
            let after = ap (drop b.end) items ∙ laid_over xs w b.end within ∙ ap (λ ys. overwritten ys w) (sym lent) in
            λ i. record { place = place i; given = last i; rest = before i; free = after i },
      ),
      record {
        lends = tt;
        «open» = λ is. omega (arith, c.make_room.ensures.room (waits_short c.args.self.now.place c.args.self.now.rest is), ap length (lent ∙ free));
      },
    )
