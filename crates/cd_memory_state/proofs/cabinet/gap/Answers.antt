use Rattle.std.proofs.Common.{sym, ◌∙◌, ap, arith}
use Rattle.cd_memory_state.specs.Names.{is_before}
use Rattle.cd_memory_state.proofs.Named.{before_is, gap_here, gap_next}
use Rattle.cd_memory_state.proofs.cabinet.gap.Goals as goal

pub returns-then-lt : goal.returns-then-lt
returns-then-lt c =
    let name = c.args.name.now in
    let before = sym (before_is name c.part.result.now c.lt.result c.lt.ensures ∙ ap (is_before name) c.part.ensures.part) ∙ c.if-lt.true in
    sym (gap_here name c.args.names.now.items c.loop-i.i (omega (arith, c.loop-i-test.true, c.count-i-end.ensures)) before) ∙ c.loop-i.invariant

pub loop-i-preserved : goal.loop-i-preserved
loop-i-preserved c =
    let name = c.args.name.now in
    let not = sym (before_is name c.part.result.now c.lt.result c.lt.ensures ∙ ap (is_before name) c.part.ensures.part) ∙ c.if-lt.false in
    sym (gap_next name c.args.names.now.items c.loop-i.i (omega (arith, c.loop-i-test.true, c.count-i-end.ensures)) not) ∙ c.loop-i.invariant
