use Rattle.std.proofs.Common.{◌≡◌, ℕ, ◌-◌, ◌<◌, suc, List, [], ◌++◌, length, get_or, sym, ◌∙◌, ap, arith}
use Rattle.cd_outside.specs.Lines.{Traffic, put_at, took}
use Rattle.cd_memory_state.specs.Numbered.{bytes_of}
use Rattle.cd_memory_state.proofs.Errs.{on_err}
use Rattle.cd_memory_state.proofs.Rolled.{bytes_put}
use Rattle.cd_memory_state.proofs.roll.Roll.take.Goals as goal

pub returns-in_err-room-clause-same : goal.returns-in_err-room-clause-same
returns-in_err-room-clause-same c = on_err _ _ c.room.ensures.traffic

pub returns-clause-taken : goal.returns-clause-taken
returns-clause-taken c =
    let number = c.args.number in
    let i : ℕ = number - 1 in
    let old = c.room.new.self in
    let is : number ≡ suc i = omega (arith, c.requires.«from») in
    let lt : i < length old.taken.items = omega (arith, c.requires.to, c.room.ensures.last, old.both, is) in
    let taken =
    ap bytes_of c.append.ensures.items
    ∙ bytes_put old.taken.items number i (get_or old.taken.items i [] ++ c.args.bytes.now) is lt
    ∙ ap (λ (l : List ℕ). put_at number (l ++ c.args.bytes.now) (bytes_of old.taken.items)) (sym (ap (bytes_of old.taken.items) is)) in
    (λ j. record { taken = taken j; given = bytes_of old.given.items; sends = old.sends.items })
    ∙ ap (took number c.args.bytes.now) c.room.ensures.traffic
