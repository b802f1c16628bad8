use Rattle.std.proofs.Common.{◌≡◌, ℕ, ◌≤◌, true, List, [], length, get_or, set, Some, sym, ◌∙◌, ap, subst, arith}
use Rattle.std.proofs.lemmas.List.Edits.{length-insert}
use Rattle.std.specs.List.{insert}
use Rattle.cd_outside.specs.Content.{overwritten}
use Rattle.cd_outside.specs.Shelf.{FileMap, content_of, put}
use Rattle.cd_memory_state.specs.Cabinet.{CabinetHeld, file_in, file_under}
use Rattle.cd_memory_state.specs.Names.{are_ascending, IsAt}
use Rattle.cd_memory_state.proofs.Named.{at_is, absent_is, gap_within, file_at, at_insert, ascending-insert}
use Rattle.cd_memory_state.proofs.Cabinets.{put_again, made_new, name_put}
use Rattle.cd_memory_state.proofs.cabinet.Cabinet.place.Goals as goal

pub insert-requires-clause-place : goal.insert-requires-clause-place
insert-requires-clause-place c =
    let names = c.self.inside.names.items in
    let files = c.self.inside.files.items in
    let name = c.args.name.now in
    let absent = absent_is names name 0 (sym c.in-None.ensures.place) in
    let within : c.gap-i.result ≤ length names = omega (arith, c.gap-i.ensures, gap_within name names) in
    within

pub write-requires-clause-place : goal.write-requires-clause-place
write-requires-clause-place c =
    let names = c.self.inside.names.items in
    let files = c.self.inside.files.items in
    let name = c.args.name.now in
    let absent = absent_is names name 0 (sym c.in-None.ensures.place) in
    let within : c.gap-i.result ≤ length names = omega (arith, c.gap-i.ensures, gap_within name names) in
    omega (arith, within, ap length c.insert.ensures.items, length-insert names c.gap-i.result [] within)

pub insert-requires-in-None-clause-place : goal.insert-requires-in-None-clause-place
insert-requires-in-None-clause-place c =
    let names = c.self.inside.names.items in
    let files = c.self.inside.files.items in
    let name = c.args.name.now in
    let absent = absent_is names name 0 (sym c.in-None.ensures.place) in
    let within : c.gap-i.result ≤ length names = omega (arith, c.gap-i.ensures, gap_within name names) in
    omega (arith, within, c.self.invariant.0)

pub invariant_of-self : goal.invariant_of-self
invariant_of-self c =
    let names = c.self.inside.names.items in
    let files = c.self.inside.files.items in
    let name = c.args.name.now in
    let absent = absent_is names name 0 (sym c.in-None.ensures.place) in
    let within : c.gap-i.result ≤ length names = omega (arith, c.gap-i.ensures, gap_within name names) in
    let filled = c.write.ensures.items ∙ ap (λ (l : List (List ℕ)). set l c.gap-i.result (overwritten 0 name (get_or l c.gap-i.result []))) c.insert.ensures.items ∙ name_put names c.gap-i.result name within in (
      omega (arith, ap length filled, length-insert names c.gap-i.result name within, ap length c.insert-in-None.ensures.items, length-insert files c.gap-i.result [] (omega (arith, within, c.self.invariant.0)), c.self.invariant.0),
      ap are_ascending filled ∙ ascending-insert name names c.gap-i.result c.gap-i.ensures absent c.self.invariant.1,
    )

pub returns-in-Some-clause-at : goal.returns-in-Some-clause-at
returns-in-Some-clause-at c =
    subst (λ (h : CabinetHeld). IsAt h.names c.args.name.now c.in-Some.i) c.self.view_is (at_is c.self.inside.names.items c.args.name.now c.in-Some.i (sym c.in-Some.ensures.place))

pub returns-in-Some-clause-file : goal.returns-in-Some-clause-file
returns-in-Some-clause-file c =
    let names = c.self.inside.names.items in
    let files = c.self.inside.files.items in
    let name = c.args.name.now in
    let found = sym (ap (λ (h : CabinetHeld). file_in h name) c.self.view_is) ∙ file_at names files name c.in-Some.i c.self.invariant.0 (at_is names name c.in-Some.i (sym c.in-Some.ensures.place)) in
    put_again (file_in c.args.self.now) name (Some (content_of (file_in c.args.self.now name))) (found ∙ sym (ap (λ f. Some (content_of f)) found))

pub returns-in-None-clause-at : goal.returns-in-None-clause-at
returns-in-None-clause-at c =
    let names = c.self.inside.names.items in
    let files = c.self.inside.files.items in
    let name = c.args.name.now in
    let absent = absent_is names name 0 (sym c.in-None.ensures.place) in
    let within : c.gap-i.result ≤ length names = omega (arith, c.gap-i.ensures, gap_within name names) in
    let filled = c.write.ensures.items ∙ ap (λ (l : List (List ℕ)). set l c.gap-i.result (overwritten 0 name (get_or l c.gap-i.result []))) c.insert.ensures.items ∙ name_put names c.gap-i.result name within in
    subst (λ (l : List (List ℕ)). IsAt l name c.gap-i.result) (sym filled) (at_insert names name c.gap-i.result within absent)

pub returns-in-None-clause-file : goal.returns-in-None-clause-file
returns-in-None-clause-file c =
    let names = c.self.inside.names.items in
    let files = c.self.inside.files.items in
    let name = c.args.name.now in
    let absent = absent_is names name 0 (sym c.in-None.ensures.place) in
    let within : c.gap-i.result ≤ length names = omega (arith, c.gap-i.ensures, gap_within name names) in
    let filled = c.write.ensures.items ∙ ap (λ (l : List (List ℕ)). set l c.gap-i.result (overwritten 0 name (get_or l c.gap-i.result []))) c.insert.ensures.items ∙ name_put names c.gap-i.result name within in
    (λ j. file_under (filled j) (c.insert-in-None.ensures.items j))
    ∙ made_new names files name c.gap-i.result c.self.invariant.0 within absent
    ∙ ap (λ (h : CabinetHeld). put name (Some (content_of (file_in h name))) (file_in h)) c.self.view_is
