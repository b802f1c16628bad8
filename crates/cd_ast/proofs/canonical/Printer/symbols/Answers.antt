use Rattle.std.proofs.Common.{◌≡◌, sym, refl}
use Rattle.cd_ast.proofs.Symbols.{next_symbol}
use Rattle.cd_ast.proofs.canonical.Printer.symbols.Goals as goal

pub loop-place-preserved : goal.loop-place-preserved
loop-place-preserved c =
    next_symbol c.loop-place.self c.quoted.new.self c.args.symbols.now c.loop-place.place c.in-Some.name.now c.in-Some.value.now _
    (sym c.in-Some.ensures) (rw (c.in_ok-quoted.ensures, c.in_ok-put-3.ensures, c.in_ok-put-2.ensures, c.in_ok-put.ensures) refl) c.loop-place.invariant
