use Rattle.std.proofs.Common.{ℕ, List, ap, ◌≡◌, ◌+◌, ◌∷◌, [], ◌++◌, length, refl, sym, ◌∙◌, subst}
use Rattle.cd_journal.specs.Journal.{Held, IsAt, entry_block}
use Rattle.cd_journal.specs.Writing.{opened}
use Rattle.cd_journal.specs.declared.place.Place.{Place}
use Rattle.cd_journal.proofs.Entry.{entry_at, entry_list, entry_moments, nothing_done}
use Rattle.cd_journal.proofs.journal.Journal.append.Goals as goal

pub returns-in-Ok-clause-at : goal.returns-in-Ok-clause-at
returns-in-Ok-clause-at g c told =
    let at = subst (λ (j : Held). IsAt j (g.P.Disk.state c.args.disk.now)) (sym c.self.view_is) (c.requires.at told) in
    let block : c.deref.result.now ≡ entry_block c.args.body.now = c.deref.ensures.value ∙ c.in_ok-fill.ensures.block in
    let place : Place = record { at = c.self.inside.end + 5; len = length c.args.body.now } in
    let places : c.push.new.self.items ≡ c.self.inside.places.items ++ place ∷ [] = rw (c.unwrap.ensures, c.reserve.ensures.items) at c.push.ensures.items in
    entry_at _ _ at c.args.body.now c.deref.result.now block c.requires.some c.requires.short c.self.invariant (g.P.Disk.state c.put.new.disk) _ (c.in-Ok.ensures.done told) places refl

pub returns-in-Ok-clause-list : goal.returns-in-Ok-clause-list
returns-in-Ok-clause-list g c told =
    let at = subst (λ (j : Held). IsAt j (g.P.Disk.state c.args.disk.now)) (sym c.self.view_is) (c.requires.at told) in
    let block : c.deref.result.now ≡ entry_block c.args.body.now = c.deref.ensures.value ∙ c.in_ok-fill.ensures.block in
    entry_list _ _ at c.args.body.now c.deref.result.now block c.requires.some c.requires.short (g.P.Disk.state c.put.new.disk) (c.in-Ok.ensures.done told)

pub returns-in-Ok-clause-moments : goal.returns-in-Ok-clause-moments
returns-in-Ok-clause-moments g c told =
    let at = subst (λ (j : Held). IsAt j (g.P.Disk.state c.args.disk.now)) (sym c.self.view_is) (c.requires.at told) in
    let block : c.deref.result.now ≡ entry_block c.args.body.now = c.deref.ensures.value ∙ c.in_ok-fill.ensures.block in
    entry_moments _ _ at c.args.body.now c.deref.result.now block c.requires.some c.requires.short (g.P.Disk.state c.args.disk.now) (g.P.Disk.state c.put.new.disk) c.args.beat.now (c.in-Ok.ensures.moments told)

pub returns-in-Err-clause-moments : goal.returns-in-Err-clause-moments
returns-in-Err-clause-moments g c told =
    let at = subst (λ (j : Held). IsAt j (g.P.Disk.state c.args.disk.now)) (sym c.self.view_is) (c.requires.at told) in
    let block : c.deref.result.now ≡ entry_block c.args.body.now = c.deref.ensures.value ∙ c.in_ok-fill.ensures.block in
    entry_moments _ _ at c.args.body.now c.deref.result.now block c.requires.some c.requires.short (g.P.Disk.state c.args.disk.now) (g.P.Disk.state c.put.new.disk) c.args.beat.now (c.in-Err.ensures.moments told)

pub returns-then-gate-body-gt-MAX_LENGTH-clause-moments : goal.returns-then-gate-body-gt-MAX_LENGTH-clause-moments
returns-then-gate-body-gt-MAX_LENGTH-clause-moments g c told =
    nothing_done c.args.self.now (g.P.Disk.state c.args.disk.now) c.args.beat.now c.args.body.now (c.requires.at told) (c.requires.order told)

pub returns-in_err-reserve-clause-moments : goal.returns-in_err-reserve-clause-moments
returns-in_err-reserve-clause-moments g c told =
    nothing_done c.args.self.now (g.P.Disk.state c.args.disk.now) c.args.beat.now c.args.body.now (c.requires.at told) (c.requires.order told)

pub returns-in_err-fill-clause-moments : goal.returns-in_err-fill-clause-moments
returns-in_err-fill-clause-moments g c told =
    nothing_done c.args.self.now (g.P.Disk.state c.args.disk.now) c.args.beat.now c.args.body.now (c.requires.at told) (c.requires.order told)

pub returns-in-Ok-clause-bytes : goal.returns-in-Ok-clause-bytes
returns-in-Ok-clause-bytes g c told =
    let block : c.deref.result.now ≡ entry_block c.args.body.now = c.deref.ensures.value ∙ c.in_ok-fill.ensures.block in
    let end : c.self.inside.end ≡ c.args.self.now.end = ap (λ (j : Held). j.end) c.self.view_is in
    (c.in-Ok.ensures.done told).seen
    ∙ ap (λ (l : List ℕ). opened c.self.inside.end l (g.P.Disk.state c.args.disk.now).seen) block
    ∙ ap (λ (k : ℕ). opened k (entry_block c.args.body.now) (g.P.Disk.state c.args.disk.now).seen) end
