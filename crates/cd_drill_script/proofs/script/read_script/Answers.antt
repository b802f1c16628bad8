use Rattle.std.proofs.Common.{◌≡◌, ℕ, ◌+◌, List, [], ◌∷◌, length, Option, Some, None, refl, sym, ap, ◌∙◌, subst, arith}
use Rattle.std.specs.Prelude.{map, option_map}
use Rattle.cd_drill_script.specs.Script.{Orders, orders_from}
use Rattle.cd_drill_script.specs.Seen.{seen_line}
use Rattle.cd_drill_script.specs.Fault.{IsFaultOf, lines_left, left_size, with_orders}
use Rattle.cd_drill_script.proofs.Lines.{left_with, left_none}
use Rattle.cd_drill_script.proofs.script.read_script.Goals as goal

pub returns-in-Err-clause-fault : goal.returns-in-Err-clause-fault
returns-in-Err-clause-fault g c =
    let front = map seen_line c.loop-rest.lines.items in
    let rest = option_map (λ text. text.now) c.loop-rest.rest in
    let more = option_map (λ text. text.now) c.next_line.result.1 in
    let all = left_with g.R.Reserved.reserved _ front c.loop-rest.at c.loop-rest.number rest c.in-Some.text.now c.next_line.result.0.now more c.loop-rest.invariant.told (ap (option_map (λ text. text.now)) c.in-Some.is) c.next_line.ensures.line in
    subst (λ (orders : Orders). IsFaultOf orders c.in-Err.fault) (sym all) (c.in-Err.ensures.fault (lines_left more))

pub loop-rest-preserved : goal.loop-rest-preserved
loop-rest-preserved g c =
    let front = map seen_line c.loop-rest.lines.items in
    let rest = option_map (λ text. text.now) c.loop-rest.rest in
    let more = option_map (λ text. text.now) c.next_line.result.1 in
    let some : rest ≡ Some c.in-Some.text.now = ap (option_map (λ text. text.now)) c.in-Some.is in
    let all = left_with g.R.Reserved.reserved _ front c.loop-rest.at c.loop-rest.number rest c.in-Some.text.now c.next_line.result.0.now more c.loop-rest.invariant.told some c.next_line.ensures.line in
    let size = length c.next_line.result.0.now in
    let left : left_size rest ≡ length c.in-Some.text.now + 1 = ap left_size some in
    let place = c.loop-rest.invariant.place in
    let number = c.loop-rest.invariant.number in
    let whole = c.next_line.ensures.size in
    let after : c.loop-rest.at + size + 1 ≡ c.loop-rest.at + (size + 1) = omega arith in
    record {
      told = all ∙ c.in-Ok.ensures.added (lines_left more) ∙ ap (λ (at : ℕ). with_orders (map seen_line c.add_line.new.lines.items) (orders_from g.R.Reserved.reserved at (c.loop-rest.number + 1) (lines_left more))) after;
      place = omega (arith, left, place, whole);
      number = omega (arith, number);
    }

pub returns-clause-read : goal.returns-clause-read
returns-clause-read g c =
    left_none g.R.Reserved.reserved _ (map seen_line c.loop-rest.lines.items) c.loop-rest.at c.loop-rest.number
    (c.loop-rest.invariant.told ∙ ap (λ rest. with_orders (map seen_line c.loop-rest.lines.items) (orders_from g.R.Reserved.reserved c.loop-rest.at c.loop-rest.number (lines_left (option_map (λ text. text.now) rest)))) c.in_default.is)
