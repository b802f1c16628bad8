-- What the PROCESS statement of a push says is in range, with options in its place.
use Rattle.std.proofs.Common.{◌≡◌, ℕ, Bool, true, ◌&&◌, [], Option, Some, None, refl, arith, nat_le}
use Rattle.std.specs.Prelude.{◌==◌, is_none}
use Rattle.std.proofs.lemmas.Bool.{and_parts, and_from}
use Rattle.cd_types.specs.Label.{is_label}
use Rattle.cd_types.specs.NodeName.{is_node_name}
use Rattle.cd_types.specs.declared.choices.Retain.{Retain}
use Rattle.cd_types.specs.declared.choices.Retain.TheVariants as retain
use Rattle.cd_types.specs.declared.start.Card.{Card}
use Rattle.cd_types.specs.declared.start.Start.{Start}
use Rattle.cd_commands.specs.declared.command.Options.{Options}
use Rattle.cd_grammar.specs.Later.{wrong_start}
use Rattle.cd_grammar.specs.Reading.{or_default}
use Rattle.cd_grammar.specs.Words.{or_else}
use Rattle.cd_automaton.specs.Ranges.{passes, within, is_timed, is_card}
use Rattle.cd_submission.specs.Filing.{AreFormed, card_with, is_not_held, is_not_kept, is_plain_card}

-- what a card without anything of its own says
pub record IsPlain (card : Card) : Type 0 where
  pub prty : (card.prty == 10) ≡ true
  pub class : nat_le 1 card.class ≡ true
  pub retain : is_not_kept card.retain ≡ true
  pub start : is_none card.start ≡ true

pub plain_is : (card : Card) → is_plain_card card ≡ true → IsPlain card
plain_is card e =
    let four = and_parts (card.prty == 10 && nat_le 1 card.class && is_not_held card.hold && is_not_kept card.retain) (is_none card.start) e in
    let three = and_parts (card.prty == 10 && nat_le 1 card.class && is_not_held card.hold) (is_not_kept card.retain) four.0 in
    let two = and_parts (card.prty == 10 && nat_le 1 card.class) (is_not_held card.hold) three.0 in
    let one = and_parts (card.prty == 10) (nat_le 1 card.class) two.0 in
    record { prty = one.0; class = one.1; retain = three.1; start = four.1 }

-- values of a PROCESS statement and of options
else_passes : {A : Type 0} (test : A → Bool) (one other : Option A) → passes test one ≡ true → passes test other ≡ true → passes test (or_else one other) ≡ true
else_passes test None other e e2 = e2
else_passes test (Some x) other e e2 = e

default_passes : {A : Type 0} (test : A → Bool) (one : Option A) (other : A) → passes test one ≡ true → test other ≡ true → test (or_default one other) ≡ true
default_passes test None other e e2 = e2
default_passes test (Some x) other e e2 = e

ten_fits : (n : ℕ) → (n == 10) ≡ true → within 1 15 n ≡ true
ten_fits n e = grind arith

pub none_passes : {A : Type 0} (test : A → Bool) (o : Option A) → is_none o ≡ true → passes test o ≡ true
none_passes test None e = refl
none_passes test (Some x) e = absurd cc

pub card_fits : (options : Options) (card : Card) → AreFormed options → is_card card ≡ true → IsPlain (card_with options card) → is_card (card_with options card) ≡ true
card_fits options card formed e plain =
    let kept = card_with options card in
    let four = and_parts (is_label card.name && passes is_node_name card.snode && within 1 15 card.prty && within 1 255 card.class) (passes is_timed card.start) e in
    let three = and_parts (is_label card.name && passes is_node_name card.snode && within 1 15 card.prty) (within 1 255 card.class) four.0 in
    let two = and_parts (is_label card.name && passes is_node_name card.snode) (within 1 15 card.prty) three.0 in
    let one = and_parts (is_label card.name) (passes is_node_name card.snode) two.0 in
    let few = and_parts (nat_le 1 card.class) (nat_le card.class 255) three.1 in
    let snode : passes is_node_name kept.snode ≡ true = else_passes is_node_name options.snode card.snode formed.snode one.1 in
    let class : nat_le kept.class 255 ≡ true = default_passes (λ n. nat_le n 255) options.class card.class formed.class few.1 in
    and_from (is_label card.name && passes is_node_name kept.snode && within 1 15 kept.prty && within 1 255 kept.class) (passes is_timed kept.start)
    (and_from (is_label card.name && passes is_node_name kept.snode && within 1 15 kept.prty) (within 1 255 kept.class)
    (and_from (is_label card.name && passes is_node_name kept.snode) (within 1 15 kept.prty) (and_from (is_label card.name) (passes is_node_name kept.snode) one.0 snode) (ten_fits kept.prty plain.prty))
    (and_from (nat_le 1 kept.class) (nat_le kept.class 255) plain.class class))
    (none_passes is_timed kept.start plain.start)

-- and no start of its own stands beside what is kept
pub no_wrong_start : (keep : Retain) (start : Option Start) (at : ℕ) → is_not_kept keep ≡ true → wrong_start (Some keep) start at ≡ []
no_wrong_start retain.No start at e = refl
no_wrong_start retain.Yes start at e = refl
no_wrong_start retain.Initial start at e = absurd cc
