use Rattle.std.proofs.Common.{◌≡◌, ◌≤◌, ◌<◌, ◌+◌, ◌^◌, ℕ, List, length, min, Some, ap, sym, subst, ◌∙◌, arith}
use Rattle.std.specs.Prelude.{IfOk, slice_get}
use Rattle.cd_outside.specs.Disk.{DiskState}
use Rattle.cd_journal.specs.Bytes.{list_of}
use Rattle.cd_journal.specs.Index.{bodies_in}
use Rattle.cd_entries.specs.Entry.{entry_bytes}
use Rattle.cd_turn.specs.Home.{HomeState, IsUnfit, HasBad}
use Rattle.cd_turn.proofs.BodyLengths.{list_short}
use Rattle.cd_turn.proofs.Homes.{blank_home}
use Rattle.cd_turn.proofs.Loading.{keeps_then, unfit_moves, bad_at, read_more, place_more}
use Rattle.cd_turn.proofs.home.Home.load.Goals as goal

pub returns-then-not-has_header-clause-home : goal.returns-then-not-has_header-clause-home
returns-then-not-has_header-clause-home g c = λ told.
    let h = c.if-not-has_header.ensures in
    let same = ap (λ (home : HomeState). home.journal.has_header) c.self.view_is in
    blank_home c.args.self.now.journal c.args.self.now.entries (g.P.Disk.state c.args.disk.now) (c.requires.opens told) (sym (h ∙ same)) c.requires.none

pub returns-in-Err-clause-unfit : goal.returns-in-Err-clause-unfit
returns-in-Err-clause-unfit g c = λ told.
    let w = c.in-Err.ensures in
    let disk = g.P.Disk.state c.args.disk.now in
    let entries = c.loop-i.self.entries in
    unfit_moves c.in-Err.fault
    (λ place. (place ≡ c.loop-i.at) × IfOk (list_of (g.P.Disk.state c.loop-i.disk).seen) (λ bodies. HasBad entries bodies c.loop-i.i))
    (λ at. IsUnfit disk.seen at)
    (λ place bad. bad_at (list_of disk.seen) (bodies_in disk.seen c.args.self.now.journal.places) entries c.loop-i.i c.loop-i.at place (c.requires.opens told).list c.loop-i.invariant.legal (c.loop-i.invariant.read told) (c.loop-i.invariant.place told)
    (bad.0, subst (λ (d : DiskState). IfOk (list_of d.seen) (λ bodies. HasBad entries bodies c.loop-i.i)) (c.loop-i.invariant.same told) bad.1))
    (w.unfit told)

pub loop-i-preserved : goal.loop-i-preserved
loop-i-preserved g c =
    let e = c.in-Ok.ensures in
    let disk = g.P.Disk.state c.args.disk.now in
    let old = c.loop-i.self.entries in
    let new = c.take_entry.new.self.entries in
    let body = c.take_entry.new.body.items in
    let count : c.loop-i.i < 2 ^ 32 = omega arith in
    let o = c.take_entry.new.body.ok in
    let z = c.take_entry.new.body.small in
    let small : length body < 2 ^ 63 = omega (arith, o.0, z) in
    let len : c.len.result ≡ length body = c.len.ensures ∙ o.0 in
    let next : c.saturating_add-at.result ≡ min (c.loop-i.at + (5 + length body)) 18446744073709551615 = c.saturating_add-at.ensures ∙ ap (λ (n : ℕ). min (c.loop-i.at + (5 + n)) 18446744073709551615) len in
    record {
      legal = e.legal;
      kept = keeps_then c.args.self.now.journal c.loop-i.self.journal c.take_entry.new.self.journal c.loop-i.invariant.kept e.kept;
      sound = e.sound ∙ c.loop-i.invariant.sound;
      same = λ told. e.same told ∙ c.loop-i.invariant.same told;
      read = λ told. read_more (list_of disk.seen) old new body c.loop-i.i (c.loop-i.invariant.read told) (subst (λ (d : DiskState). IfOk (list_of d.seen) (λ bodies. slice_get bodies c.loop-i.i ≡ Some body)) (c.loop-i.invariant.same told) (e.body told)) e.entries;
      place = λ told. place_more (list_of disk.seen) (bodies_in disk.seen c.args.self.now.journal.places) old new body c.loop-i.i c.loop-i.at c.saturating_add-at.result (c.requires.opens told).list (list_short disk.seen (bodies_in disk.seen c.args.self.now.journal.places) (c.requires.opens told).list) count small (c.loop-i.invariant.read told) e.entries (c.loop-i.invariant.place told) next;
      later = let x = e.later in let y = c.loop-i.invariant.later in omega arith;
    }
