use Rattle.std.proofs.Common.{◌≡◌, ◌≤◌, List, ℕ, length, ap, sym, rules, subst, ◌∙◌}
use Rattle.cd_journal.specs.Journal.{KeepsList}
use Rattle.cd_effects.specs.Registry.{RegistryState}
use Rattle.cd_effects.proofs.Recording.{entry_some, appended, unchanged, before_disk, registry_stays, keeps_through}
use Rattle.cd_effects.proofs.Short.{allowed_short, entry_short}
use Rattle.cd_effects.proofs.registry.Registry.keep.Goals as goal
use Rattle.cd_effects.proofs.registry.Registry.keep.Goals.{in-Submitted-2, in-Receiving-2, in-Home-2}

pub returns-in-Err-clause-moments : goal.returns-in-Err-clause-moments
returns-in-Err-clause-moments g c = λ told. unchanged c.args.self.now (g.P.Disk.state c.args.disk.now) c.args.beat.now c.args.entry (c.requires.registry told) (c.requires.order told)

pub append-requires-clause-some : goal.append-requires-clause-some
append-requires-clause-some g c = subst (λ (b : List ℕ). 1 ≤ length b) (sym (c.deref.ensures.value ∙ c.in-Ok.ensures.body)) (entry_some c.args.entry)

pub append-requires-clause-short : goal.append-requires-clause-short
append-requires-clause-short g c = subst (λ (b : List ℕ). length b ≤ 262144) (sym (c.deref.ensures.value ∙ c.in-Ok.ensures.body))
    (entry_short c.args.entry c.in-Ok.ensures.form (allowed_short g.T.Texts.read c.args.self.now.entries c.args.entry c.requires.next))

pub returns-in-Ok-append-clause-moments : goal.returns-in-Ok-append-clause-moments
returns-in-Ok-append-clause-moments g c = λ told.
    appended c.args.self.now (g.P.Disk.state c.args.disk.now) (g.P.Disk.state c.append.new.disk) c.args.beat.now c.args.entry c.deref.result.now
    (c.requires.registry told) (c.deref.ensures.value ∙ c.in-Ok.ensures.body) (c.append.ensures.moments told)

pub returns-in-Err-append-clause-moments : goal.returns-in-Err-append-clause-moments
returns-in-Err-append-clause-moments g c = λ told.
    appended c.args.self.now (g.P.Disk.state c.args.disk.now) (g.P.Disk.state c.append.new.disk) c.args.beat.now c.args.entry c.deref.result.now
    (c.requires.registry told) (c.deref.ensures.value ∙ c.in-Ok.ensures.body) (c.append.ensures.moments told)

pub returns-in-Err-append-clause-registry : goal.returns-in-Err-append-clause-registry
returns-in-Err-append-clause-registry g c = λ told isnt.
    let e = c.in-Err-append.ensures in
    let untouched = before_disk c.in-Err-append.fault ((c.append.new.disk ≡ c.args.disk.now) × (c.append.new.beat ≡ c.args.beat.now)) c.fault_of.result e.full_first e.memory_first e.unfit c.fault_of.ensures isnt in
    let journal_is : c.self.inside.journal ≡ c.args.self.now.journal = ap (λ (r : RegistryState). r.journal) c.self.view_is in
    let keeps : KeepsList c.args.self.now.journal c.match-entry-2.self.journal = elim c.match-entry-2.branch [
      | in-Submitted-2 w ↦ keeps_through c.args.self.now.journal c.self.inside.journal c.append.new.self c.match-entry-2.self.journal e.kept journal_is (ap (λ (r : RegistryState). r.journal) w.self-is)
      | in-Receiving-2 w ↦ keeps_through c.args.self.now.journal c.self.inside.journal c.append.new.self c.match-entry-2.self.journal e.kept journal_is (ap (λ (r : RegistryState). r.journal) w.self-is)
      | in-Home-2 w ↦ keeps_through c.args.self.now.journal c.self.inside.journal c.append.new.self c.match-entry-2.self.journal e.kept journal_is (ap (λ (r : RegistryState). r.journal) w.self-is)
    ] in
    let entries : c.match-entry-2.self.entries ≡ c.args.self.now.entries = search rules in
    registry_stays c.args.self.now c.match-entry-2.self (g.P.Disk.state c.args.disk.now) (g.P.Disk.state c.append.new.disk) (c.requires.registry told) keeps entries (ap g.P.Disk.state untouched.0)
