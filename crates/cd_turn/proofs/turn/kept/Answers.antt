use denote.Builtin.{unit}
use Rattle.std.proofs.Common.{◌≡◌, ◌⊎◌, inl, inr, ℕ, ◌+◌, ◌^◌, ◌<◌, ◌≤◌, ◌++◌, ◌∷◌, [], List, length, Some, false, Err, ap, sym, subst, ◌∙◌, arith}
use Rattle.cd_outside.specs.Disk.{LeftAt}
use Rattle.cd_outside.proofs.Runs.{moments_then, moments_weaker}
use Rattle.cd_entries.specs.declared.entry.Entry.{Entry}
use Rattle.cd_entries.specs.Entry.{entry_bytes, IsEntry}
use Rattle.cd_journal.specs.Journal.{length_of}
use Rattle.cd_turn.specs.Home.{StandsFor}
use Rattle.cd_turn.specs.Ends.{MayLeave, journal_length}
use Rattle.cd_turn.proofs.Fitting.{on_ok, ok_any, on_disk, disk_any, if_full}
use Rattle.cd_turn.proofs.Lengths.{home_length}
use Rattle.cd_turn.proofs.Homes.{no_header, no_header_entries, left_image}
use Rattle.cd_turn.proofs.turn.kept.Goals as goal

pub returns-then-has_header-clause-moments : goal.returns-then-has_header-clause-moments
returns-then-has_header-clause-moments g c = λ told.
    let old = g.P.Disk.state c.args.journal.now in
    let entries = c.args.home.now.entries in
    moments_weaker (LeftAt old) (LeftAt (g.P.Disk.state c.keep.new.disk)) c.args.beat.now
    (λ image. StandsFor image entries ⊎ StandsFor image (entries ++ c.args.entry ∷ []))
    (MayLeave (old.seen ≡ []) entries (Some c.args.entry))
    (λ image left. left_image (old.seen ≡ []) entries c.args.entry image c.requires.legal c.keep.ensures.form c.requires.next left)
    (c.keep.ensures.moments told)

pub returns-in-Err-clause-moments : goal.returns-in-Err-clause-moments
returns-in-Err-clause-moments g c = λ told.
    let old = g.P.Disk.state c.args.journal.now in
    let entries = c.args.home.now.entries in
    let is = c.requires.home told in
    let none : c.args.home.now.journal.has_header ≡ false = sym c.if-has_header.ensures in
    moments_weaker (LeftAt old) (LeftAt (g.P.Disk.state c.make.new.disk)) c.args.beat.now
    (λ image. length image ≤ 9)
    (MayLeave (old.seen ≡ []) entries (Some c.args.entry))
    (λ image short. inr (inr (no_header c.args.home.now old is none, no_header_entries c.args.home.now old is none, short)))
    (c.in-Err.ensures.moments told)

pub returns-clause-moments : goal.returns-clause-moments
returns-clause-moments g c = λ told.
    let old = g.P.Disk.state c.args.journal.now in
    let made = g.P.Disk.state c.make.new.disk in
    let now = g.P.Disk.state c.keep-2.new.disk in
    let entries = c.args.home.now.entries in
    let is = c.requires.home told in
    let none : c.args.home.now.journal.has_header ≡ false = sym c.if-has_header.ensures in
    let same : c.make.new.self.entries ≡ entries = c.in-Ok.ensures.entries in
    moments_then (LeftAt old) (LeftAt made) (LeftAt now) c.args.beat.now c.make.new.beat (MayLeave (old.seen ≡ []) entries (Some c.args.entry)) c.in-Ok.ensures.beat
    (moments_weaker (LeftAt old) (LeftAt made) c.args.beat.now
    (λ image. length image ≤ 9)
    (MayLeave (old.seen ≡ []) entries (Some c.args.entry))
    (λ image short. inr (inr (no_header c.args.home.now old is none, no_header_entries c.args.home.now old is none, short)))
    (c.in-Ok.ensures.moments told))
    (moments_weaker (LeftAt made) (LeftAt now) c.make.new.beat
    (λ image. StandsFor image c.make.new.self.entries ⊎ StandsFor image (c.make.new.self.entries ++ c.args.entry ∷ []))
    (MayLeave (old.seen ≡ []) entries (Some c.args.entry))
    (λ image left. left_image (old.seen ≡ []) entries c.args.entry image c.requires.legal c.keep-2.ensures.form c.requires.next (subst (λ (es : List Entry). StandsFor image es ⊎ StandsFor image (es ++ c.args.entry ∷ [])) same left))
    (c.keep-2.ensures.moments told))

pub returns-then-has_header-clause-full_len : goal.returns-then-has_header-clause-full_len
returns-then-has_header-clause-full_len g c = λ told.
    let home = c.args.home.now in
    let len = home_length home (g.P.Disk.state c.args.journal.now) (c.requires.home told) (sym c.if-has_header.ensures) in
    if_full c.keep.result (λ n. (n ≡ length_of home.journal) × (2 ^ 30 < length_of home.journal + 5 + length (entry_bytes c.args.entry))) (λ n. n ≡ journal_length home.entries) (λ n h. h.0 ∙ len) c.keep.ensures.full

pub returns-then-has_header-clause-fits : goal.returns-then-has_header-clause-fits
returns-then-has_header-clause-fits g c = λ told.
    let home = c.args.home.now in
    let len = home_length home (g.P.Disk.state c.args.journal.now) (c.requires.home told) (sym c.if-has_header.ensures) in
    on_ok c.keep.result (length_of home.journal + 5 + length (entry_bytes c.args.entry) ≤ 2 ^ 30) (journal_length home.entries + 5 + length (entry_bytes c.args.entry) ≤ 2 ^ 30)
    (λ h. subst (λ (n : ℕ). n + 5 + length (entry_bytes c.args.entry) ≤ 2 ^ 30) len h) c.keep.ensures.fits

pub returns-then-has_header-clause-fits_too : goal.returns-then-has_header-clause-fits_too
returns-then-has_header-clause-fits_too g c = λ told.
    let home = c.args.home.now in
    let len = home_length home (g.P.Disk.state c.args.journal.now) (c.requires.home told) (sym c.if-has_header.ensures) in
    on_disk c.keep.result (length_of home.journal + 5 + length (entry_bytes c.args.entry) ≤ 2 ^ 30) (journal_length home.entries + 5 + length (entry_bytes c.args.entry) ≤ 2 ^ 30)
    (λ h. subst (λ (n : ℕ). n + 5 + length (entry_bytes c.args.entry) ≤ 2 ^ 30) len h) c.keep.ensures.fits_too

pub returns-in-Err-clause-fits_too : goal.returns-in-Err-clause-fits_too
returns-in-Err-clause-fits_too g c = λ told.
    let home = c.args.home.now in
    let none = no_header_entries home (g.P.Disk.state c.args.journal.now) (c.requires.home told) (sym c.if-has_header.ensures) in
    let small : journal_length [] + 5 + length (entry_bytes c.args.entry) ≤ 2 ^ 30 = let short = c.requires.short in omega arith in
    disk_any {A = unit.Denot} (Err c.in-Err.fault) (journal_length home.entries + 5 + length (entry_bytes c.args.entry) ≤ 2 ^ 30)
    (subst (λ (es : List Entry). journal_length es + 5 + length (entry_bytes c.args.entry) ≤ 2 ^ 30) (sym none) small)

pub returns-clause-full_len : goal.returns-clause-full_len
returns-clause-full_len g c = λ told.
    let home = c.make.new.self in
    let len = home_length home (g.P.Disk.state c.make.new.disk) (c.in-Ok.ensures.home told) (c.in-Ok.ensures.made told) ∙ ap journal_length c.in-Ok.ensures.entries in
    if_full c.keep-2.result (λ n. (n ≡ length_of home.journal) × (2 ^ 30 < length_of home.journal + 5 + length (entry_bytes c.args.entry))) (λ n. n ≡ journal_length c.args.home.now.entries) (λ n h. h.0 ∙ len) c.keep-2.ensures.full

pub returns-clause-fits : goal.returns-clause-fits
returns-clause-fits g c = λ told.
    let home = c.make.new.self in
    let len = home_length home (g.P.Disk.state c.make.new.disk) (c.in-Ok.ensures.home told) (c.in-Ok.ensures.made told) ∙ ap journal_length c.in-Ok.ensures.entries in
    on_ok c.keep-2.result (length_of home.journal + 5 + length (entry_bytes c.args.entry) ≤ 2 ^ 30) (journal_length c.args.home.now.entries + 5 + length (entry_bytes c.args.entry) ≤ 2 ^ 30)
    (λ h. subst (λ (n : ℕ). n + 5 + length (entry_bytes c.args.entry) ≤ 2 ^ 30) len h) c.keep-2.ensures.fits

pub returns-clause-fits_too : goal.returns-clause-fits_too
returns-clause-fits_too g c = λ told.
    let home = c.make.new.self in
    let len = home_length home (g.P.Disk.state c.make.new.disk) (c.in-Ok.ensures.home told) (c.in-Ok.ensures.made told) ∙ ap journal_length c.in-Ok.ensures.entries in
    on_disk c.keep-2.result (length_of home.journal + 5 + length (entry_bytes c.args.entry) ≤ 2 ^ 30) (journal_length c.args.home.now.entries + 5 + length (entry_bytes c.args.entry) ≤ 2 ^ 30)
    (λ h. subst (λ (n : ℕ). n + 5 + length (entry_bytes c.args.entry) ≤ 2 ^ 30) len h) c.keep-2.ensures.fits_too

pub returns-then-has_header-clause-form : goal.returns-then-has_header-clause-form
returns-then-has_header-clause-form g c = ok_any c.keep.result (IsEntry c.args.entry) c.keep.ensures.form

pub returns-clause-form : goal.returns-clause-form
returns-clause-form g c = ok_any c.keep-2.result (IsEntry c.args.entry) c.keep-2.ensures.form
