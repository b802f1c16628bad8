use Rattle.std.proofs.Common.{◌≡◌, ℕ, List, take, drop, refl, ◌∙◌, ap, subst, arith}
use Rattle.cd_outside.specs.Disk.{DiskState}
use Rattle.cd_journal.specs.Index.{IsClosed}
use Rattle.cd_journal.proofs.Opening.{opens_blank, opens_at, read_whole}
use Rattle.cd_journal.proofs.journal.load.Goals as goal

pub returns-then-len-eq0-clause-opens : goal.returns-then-len-eq0-clause-opens
returns-then-len-eq0-clause-opens g c told =
    let long = c.in_ok-len.ensures.length told in
    opens_blank _ (g.P.Disk.state c.args.disk.now) (omega arith) c.new.ensures.items refl (c.requires told)

pub returns-clause-opens : goal.returns-clause-opens
returns-clause-opens g c told =
    let state = g.P.Disk.state in
    let seen : List ℕ = (state c.args.disk.now).seen in
    let whole : c.deref.result.now ≡ seen =
    c.deref.ensures.value
    ∙ c.in_ok-read_into.ensures.bytes told
    ∙ ap (λ (s : DiskState). take c.in_ok-len.len (drop 0 s.seen)) (c.len.ensures.same told)
    ∙ read_whole c.in_ok-len.len seen (c.in_ok-len.ensures.length told) in
    opens_at _ (state c.args.disk.now) (subst (λ (l : List ℕ). IsClosed l c.in_ok-places.field-0.places.items c.in_ok-places.field-0.end) whole c.in_ok-places.ensures.closed) refl (c.requires told)
