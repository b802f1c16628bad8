use Rattle.std.proofs.Common.{◌≡◌, ◌⊎◌, ℕ, ◌≤◌, Bool, true, Result, Ok, Err, length, ◌∷◌, ◌++◌, [], List, ap, sym, subst, ◌∙◌, arith}
use Rattle.std.specs.Prelude.{OnOk, is_ok}
use Rattle.cd_outside.specs.Disk.{LeftAt}
use Rattle.cd_outside.proofs.Runs.{moments_weaker}
use Rattle.cd_journal.specs.Journal.{IsBeforeOrAfter}
use Rattle.cd_entries.specs.Entry.{entry_bytes}
use Rattle.cd_turn.specs.Home.{HomeState, StandsFor}
use Rattle.cd_turn.proofs.Homes.{unchanged, with_entry, before_or_after}
use Rattle.cd_turn.proofs.Submitting.{entry_some}
use Rattle.cd_turn.proofs.home.Home.keep.Goals as goal

pub returns-then-is_err-clause-moments : goal.returns-then-is_err-clause-moments
returns-then-is_err-clause-moments g c = λ told. unchanged c.args.self.now (g.P.Disk.state c.args.disk.now) c.args.beat.now c.args.entry (c.requires.home told) (c.requires.order told)

pub returns-then-is_err-2-clause-moments : goal.returns-then-is_err-2-clause-moments
returns-then-is_err-2-clause-moments g c = λ told. unchanged c.args.self.now (g.P.Disk.state c.args.disk.now) c.args.beat.now c.args.entry (c.requires.home told) (c.requires.order told)

-- what was promised at Ok
ok_part : {A E : Type 0} (r : Result A E) (P : Type 0) → is_ok r ≡ true → OnOk r P → P
ok_part (Ok x) P was p = p
ok_part (Err e) P was p = absurd cc

body_is : {A E : Type 0} (r : Result A E) (seen into new bytes : List ℕ) → is_ok r ≡ true → OnOk r (into ≡ new ++ bytes) → new ≡ [] → seen ≡ into → seen ≡ bytes
body_is r seen into new bytes was ok none is = is ∙ ok_part r (into ≡ new ++ bytes) was ok ∙ ap (λ (front : List ℕ). front ++ bytes) none

pub append-requires-clause-some : goal.append-requires-clause-some
append-requires-clause-some g c =
    let f = c.if-is_err.ensures in
    let body = body_is c.write_entry.result c.deref.result.now c.write_entry.new.into.items c.new-body.result.items (entry_bytes c.args.entry) f.negation c.write_entry.ensures.ok c.new-body.ensures.items c.deref.ensures.value in
    subst (λ (b : List ℕ). 1 ≤ length b) (sym body) (entry_some c.args.entry)

pub returns-in-Ok-clause-moments : goal.returns-in-Ok-clause-moments
returns-in-Ok-clause-moments g c = λ told.
    let f = c.if-is_err.ensures in
    let body = body_is c.write_entry.result c.deref.result.now c.write_entry.new.into.items c.new-body.result.items (entry_bytes c.args.entry) f.negation c.write_entry.ensures.ok c.new-body.ensures.items c.deref.ensures.value in
    moments_weaker (LeftAt (g.P.Disk.state c.args.disk.now)) (LeftAt (g.P.Disk.state c.append.new.disk)) c.args.beat.now
    (IsBeforeOrAfter (g.P.Disk.state c.args.disk.now).seen c.deref.result.now)
    (λ image. StandsFor image c.args.self.now.entries ⊎ StandsFor image (c.args.self.now.entries ++ c.args.entry ∷ []))
    (λ image left. before_or_after c.args.self.now.entries c.args.entry (g.P.Disk.state c.args.disk.now).seen image c.deref.result.now (c.requires.home told).list body left)
    (c.append.ensures.moments told)

pub returns-in-Err-clause-moments : goal.returns-in-Err-clause-moments
returns-in-Err-clause-moments g c = λ told.
    let f = c.if-is_err.ensures in
    let body = body_is c.write_entry.result c.deref.result.now c.write_entry.new.into.items c.new-body.result.items (entry_bytes c.args.entry) f.negation c.write_entry.ensures.ok c.new-body.ensures.items c.deref.ensures.value in
    moments_weaker (LeftAt (g.P.Disk.state c.args.disk.now)) (LeftAt (g.P.Disk.state c.append.new.disk)) c.args.beat.now
    (IsBeforeOrAfter (g.P.Disk.state c.args.disk.now).seen c.deref.result.now)
    (λ image. StandsFor image c.args.self.now.entries ⊎ StandsFor image (c.args.self.now.entries ++ c.args.entry ∷ []))
    (λ image left. before_or_after c.args.self.now.entries c.args.entry (g.P.Disk.state c.args.disk.now).seen image c.deref.result.now (c.requires.home told).list body left)
    (c.append.ensures.moments told)
