use Rattle.std.proofs.Common.{◌≡◌, false, true, get_or, length, take, sym, ◌∙◌, ap}
use Rattle.cd_memory_state.specs.Exchange.{traffic_in}
use Rattle.cd_memory_state.specs.Pieces.{has_come}
use Rattle.cd_memory.proofs.Coming.{none_comes, one_comes, nothing, given_none, given_all}
use Rattle.cd_memory.proofs.lines.give.Goals as goal

pub returns-in-None-clause-bytes : goal.returns-in-None-clause-bytes
returns-in-None-clause-bytes c = nothing (length c.args.into.now) _ (none_comes (traffic_in c.args.exchange.now) c.args.session c.args.pieces.now (sym c.in-None.ensures.place))

pub returns-then-not-has_come-clause-bytes : goal.returns-then-not-has_come-clause-bytes
returns-then-not-has_come-clause-bytes c =
    let traffic = traffic_in c.args.exchange.now in
    let piece = get_or c.args.pieces.now c.in-Some.i c.index-pieces-i.result in
    let gone : has_come traffic piece.after ≡ false = sym (c.has_come.ensures ∙ ap (has_come traffic) c.after.ensures) ∙ c.if-not-has_come.true in
    nothing (length c.args.into.now) _ (one_comes traffic c.args.session c.args.pieces.now c.in-Some.i c.index-pieces-i.result (sym c.in-Some.ensures.place) ∙ given_none traffic piece gone)

pub returns-clause-bytes : goal.returns-clause-bytes
returns-clause-bytes c =
    let traffic = traffic_in c.args.exchange.now in
    let piece = get_or c.args.pieces.now c.in-Some.i c.index-pieces-i.result in
    let here : has_come traffic piece.after ≡ true = sym (c.has_come.ensures ∙ ap (has_come traffic) c.after.ensures) ∙ c.if-not-has_come.false in
    c.copy-count.ensures.bytes ∙ sym (ap (take (length c.args.into.now)) (one_comes traffic c.args.session c.args.pieces.now c.in-Some.i c.index-pieces-i.result (sym c.in-Some.ensures.place) ∙ given_all traffic piece here))
