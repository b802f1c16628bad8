use Rattle.std.proofs.Common.{◌-◌, ◌&&◌, eqb, sym, ap, ◌∙◌}
use Rattle.std.specs.List.{list_any}
use Rattle.std.specs.Str.{bytes_eq}
use Rattle.cd_types.specs.declared.rows.Receiving.{Receiving}
use Rattle.cd_book.proofs.StillOpen.{none_behind, found_any}
use Rattle.cd_book.proofs.openings.is_receiving_for.Goals as goal

pub loop-at-init : goal.loop-at-init
loop-at-init c = ap (list_any (λ (r : Receiving). bytes_eq c.args.name.now r.key.pnode && eqb c.args.home r.key.home && eqb c.args.number r.key.number)) (none_behind c.args.entries.now)

pub returns-then-is_of_process : goal.returns-then-is_of_process
returns-then-is_of_process c =
    found_any (λ (x : Receiving). bytes_eq c.args.name.now x.key.pnode && eqb c.args.home x.key.home && eqb c.args.number x.key.number) c.args.entries.now (c.loop-at.at - 1) c.in-Some.receiving.now c.in-Some.ensures
    (sym c.is_of_process.ensures ∙ c.if-is_of_process.true)
