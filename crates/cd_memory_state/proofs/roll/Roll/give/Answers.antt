use Rattle.std.proofs.Common.{◌≡◌, ℕ, ◌-◌, ◌<◌, suc, List, [], ◌++◌, length, get_or, sym, ◌∙◌, ap, arith}
use Rattle.cd_outside.specs.Lines.{Traffic, put_at, sent}
use Rattle.cd_memory_state.specs.Numbered.{bytes_of}
use Rattle.cd_memory_state.proofs.Errs.{on_err}
use Rattle.cd_memory_state.proofs.Rolled.{bytes_put}
use Rattle.cd_memory_state.proofs.roll.Roll.give.Goals as goal

pub returns-in_err-room-clause-same : goal.returns-in_err-room-clause-same
returns-in_err-room-clause-same c = on_err _ _ c.room.ensures.traffic

pub returns-clause-sent : goal.returns-clause-sent
returns-clause-sent c =
    let number = c.args.number in
    let i : ℕ = number - 1 in
    let old = c.room.new.self in
    let is : number ≡ suc i = omega (arith, c.requires.«from») in
    let lt : i < length old.given.items = omega (arith, c.requires.to, c.room.ensures.last, is) in
    let given =
    ap bytes_of c.append.ensures.items
    ∙ bytes_put old.given.items number i (get_or old.given.items i [] ++ c.args.bytes.now) is lt
    ∙ ap (λ (l : List ℕ). put_at number (l ++ c.args.bytes.now) (bytes_of old.given.items)) (sym (ap (bytes_of old.given.items) is)) in
    (λ j. record { taken = bytes_of old.taken.items; given = given j; sends = c.push_reserved.ensures.items j })
    ∙ ap (sent number c.args.bytes.now) c.room.ensures.traffic
