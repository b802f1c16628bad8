use Rattle.std.proofs.Common.{◌≡◌, ◌+◌, ◌-◌, ◌++◌, length, take, drop, sym, ◌∙◌, ap, arith, length-take, length-drop, take-append-drop}
use Rattle.std.proofs.lemmas.List.{take_at, drop-drop}
use Rattle.cd_memory_state.specs.Feeds.{Fed}
use Rattle.cd_memory_state.proofs.feed.Feed.give.Goals as goal

pub returns-clause-given : goal.returns-clause-given
returns-clause-given c =
    let n = c.min-count.result in
    let given = c.self.inside.given in
    let items = c.self.inside.bytes.items in
    let count : (given + n) - given ≡ n = omega arith in
    let piece : c.copy_from_slice.new.self ≡ take n (drop given items) = c.copy_from_slice.ensures.after ∙ (λ i. take (count i) (drop given (c.deref.ensures.value i))) in
    let long : length c.copy_from_slice.new.self ≡ n = omega (arith, ap length piece, length-take n (drop given items), length-drop given items, c.min-count.ensures, c.len.ensures, c.self.inside.bytes.ok.0) in
    sym (ap (λ (f : Fed). f.rest) c.self.view_is) ∙ sym (take-append-drop n (drop given items))
    ∙ (λ i. sym (take_at c.copy_from_slice.new.self (drop n c.args.into.now) n long ∙ piece) i ++ drop-drop n given items i)
