use Rattle.std.proofs.Common.{◌≡◌, ℕ, ◌+◌, List, drop, true, false, sym, ap, ◌∙◌, subst, arith, lit<}
use Rattle.std.proofs.lemmas.Bool.{false_from_ne_true}
use Rattle.std.proofs.lemmas.List.{take_rest}
use Rattle.cd_journal.specs.Bytes.{told_length, has_body}
use Rattle.cd_journal.specs.Index.{IsBelow, IsIndexed}
use Rattle.cd_journal.specs.declared.place.Place.{Place}
use Rattle.cd_journal.proofs.Steps.{indexed_header, indexed_more, below_none, below_more, indexed_ended, indexed_none}
use Rattle.cd_journal.proofs.reading.entries.Goals as goal

pub loop-end-init : goal.loop-end-init
loop-end-init c =
    let none = c.new-places.ensures.items in
    record {
      indexed = subst (λ (l : List Place). IsIndexed c.args.bytes.now l 8) (sym none) (indexed_header c.args.bytes.now c.requires.header);
      below = subst (λ (l : List Place). IsBelow l 8) (sym none) (below_none 8 (lit< tt));
      small = c.requires.small;
    }

pub returns-in_default-clause-unfit : goal.returns-in_default-clause-unfit
returns-in_default-clause-unfit c =
    let rest = take_rest c.args.bytes.now (c.loop-end.end + 1) in
    let without : has_body (drop (c.loop-end.end + 1) c.args.bytes.now) ≡ false = false_from_ne_true _ (λ has. c.in_default.ensures (subst (λ (l : List ℕ). has_body l ≡ true) (sym rest) has)) in
    indexed_none c.args.bytes.now c.loop-end.places.items c.loop-end.end c.loop-end.invariant.indexed (omega arith) (omega arith) without

pub loop-end-preserved : goal.loop-end-preserved
loop-end-preserved c =
    let rest = take_rest c.args.bytes.now (c.loop-end.end + 1) in
    let has : has_body (drop (c.loop-end.end + 1) c.args.bytes.now) ≡ true = subst (λ (l : List ℕ). has_body l ≡ true) rest c.in-Some.ensures.0 in
    let told : c.in-Some.len ≡ told_length (drop (c.loop-end.end + 1) c.args.bytes.now) = c.in-Some.ensures.1 ∙ ap told_length rest in
    let more = c.in_ok-push.ensures.items in
    let on : c.loop-end.end + (5 + c.in-Some.len) ≡ c.loop-end.end + 5 + c.in-Some.len = omega arith in
    let place : Place = record { at = c.loop-end.end + 5; len = c.in-Some.len } in
    let indexed = indexed_more c.args.bytes.now c.loop-end.places.items c.loop-end.end c.in-Some.len c.loop-end.invariant.indexed (omega arith) (omega arith) has told in
    record {
      indexed = rw (on, more) (indexed_more c.args.bytes.now c.loop-end.places.items c.loop-end.end c.in-Some.len c.loop-end.invariant.indexed (omega arith) (omega arith) has told);
      below = rw (on, more) (below_more c.loop-end.places.items c.loop-end.end c.in-Some.len c.loop-end.invariant.below (omega arith));
      small = c.requires.small;
    }

pub returns-clause-unfit : goal.returns-clause-unfit
returns-clause-unfit c = indexed_ended c.args.bytes.now c.loop-end.places.items c.loop-end.end c.loop-end.invariant.indexed (omega arith)
