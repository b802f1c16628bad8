use Rattle.std.proofs.Common.{◌≡◌, ◌+◌, ◌-◌, ◌≤◌, drop, length, ap, sym, subst, ◌∙◌, arith, length-take}
use Rattle.cd_frames.specs.Buffer.{between, reading}
use Rattle.cd_frames.specs.Message.{message_of}
use Rattle.cd_frames.specs.Reading.{after_step, gone_past}
use Rattle.cd_frames.specs.Stream.{front_of, told}
use Rattle.cd_frames.proofs.Buffers.{cut}
use Rattle.cd_frames.proofs.Fronts.{gave, waited, refused, given_again, none_between}
use Rattle.cd_frames.proofs.reader.Reader.step.Goals as goal

pub returns-in-Ok-Some-clause-after : goal.returns-in-Ok-Some-clause-after
unfolding told
returns-in-Ok-Some-clause-after c =
    let b = c.self.inside in
    let xs = b.buffer.items in
    let size = c.in-Ok-Some.size in
    let same : c.deref.result.now ≡ xs = c.deref.ensures.value in
    let seen = gave (front_of b.place (between b.start b.end c.deref.result.now)) (message_of c.in-Ok-Some._frame) size (rw c.in-Ok-Some.field-0-is at c.in-Ok-Some.ensures.found) in
    let found = ap (λ ys. front_of b.place (between b.start b.end ys)) (sym same) ∙ seen in
    let within : size ≤ length (between b.start b.end xs) = subst (λ ys. size ≤ length (between b.start b.end ys)) same (rw c.in-Ok-Some.field-0-is at c.in-Ok-Some.ensures.within).0 in
    let inside : b.start + size ≤ b.end = omega (arith, within, length-take (b.end - b.start) (drop b.start xs), c.self.invariant.order) in
    let given = given_again b.place b.start b.end xs (message_of c.in-Ok-Some._frame) size within found in
    let rest = cut xs b.start b.end size inside in
    let place : c.saturating_add-self-inside.result ≡ told (b.place + size) = c.saturating_add-self-inside.ensures in
    (λ i. record { place = place i; given = given i; rest = rest i; free = drop b.end xs })
    ∙ ap (gone_past (reading b)) (sym found) ∙ ap after_step c.self.view_is

pub returns-in-Ok-None-clause-after : goal.returns-in-Ok-None-clause-after
returns-in-Ok-None-clause-after c =
    let b = c.self.inside in
    let xs = b.buffer.items in
    let seen = waited (front_of b.place (between b.start b.end c.deref.result.now)) (rw c.in-Ok-None.field-0-is at c.in-Ok-None.ensures.found) in
    let found = ap (λ ys. front_of b.place (between b.start b.end ys)) (sym c.deref.ensures.value) ∙ seen in
    (λ i. record { place = b.place; given = none_between b.start xs i; rest = between b.start b.end xs; free = drop b.end xs })
    ∙ ap (gone_past (reading b)) (sym found) ∙ ap after_step c.self.view_is

pub returns-in-Err-clause-after : goal.returns-in-Err-clause-after
returns-in-Err-clause-after c =
    let b = c.self.inside in
    let xs = b.buffer.items in
    let seen = refused (front_of b.place (between b.start b.end c.deref.result.now)) c.in-Err.fault c.in-Err.ensures.found in
    let found = ap (λ ys. front_of b.place (between b.start b.end ys)) (sym c.deref.ensures.value) ∙ seen in
    (λ i. record { place = b.place; given = none_between b.start xs i; rest = between b.start b.end xs; free = drop b.end xs })
    ∙ ap (gone_past (reading b)) (sym found) ∙ ap after_step c.self.view_is
