use Rattle.std.proofs.Common.{◌≡◌, ℕ, List, ◌∙◌, ap}
use Rattle.cd_outside.specs.Lines.{Traffic}
use Rattle.cd_memory_state.specs.Numbered.{bytes_of, count_of}
use Rattle.cd_memory_state.proofs.Rolled.{bytes_push, count_push}
use Rattle.cd_memory_state.proofs.roll.Roll.open.Goals as goal

pub returns-clause-traffic : goal.returns-clause-traffic
returns-clause-traffic c =
    let old = c.room.new.self in
    let taken = ap bytes_of c.push.ensures.items ∙ bytes_push old.taken.items in
    let given = ap bytes_of c.push-2.ensures.items ∙ bytes_push old.given.items in
    (λ j. record { taken = taken j; given = given j; sends = old.sends.items })
    ∙ c.room.ensures.traffic

pub returns-clause-counts : goal.returns-clause-counts
returns-clause-counts c =
    let old = c.room.new.self in
    record {
      faults = λ s. ap (λ (l : List ℕ). count_of l s) c.push_reserved.ensures.items ∙ count_push old.faults.items s ∙ c.room.ensures.counts.faults s;
      ends = λ s. ap (λ (l : List ℕ). count_of l s) c.push_reserved-2.ensures.items ∙ count_push old.ends.items s ∙ c.room.ensures.counts.ends s;
    }
