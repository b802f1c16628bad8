-- What a command adds may be recorded.
use Rattle.std.proofs.Common.{◌≡◌, ℕ, Bool, true, false, List, [], Option, Some, None, refl, ap, subst}
use Rattle.std.specs.Prelude.{Result, Ok, Err}
use Rattle.std.proofs.lemmas.Option.{none-some, same_Some}
use Rattle.cd_commands.specs.declared.command.Command.TheVariants.{Init}
use Rattle.cd_entries.specs.declared.entry.Entry.{Entry}
use Rattle.cd_entries.specs.declared.entry.Entry.TheVariants as entry
use Rattle.cd_rules.specs.Legal.{allowed}
use Rattle.cd_protocol.specs.Rows.{is_formed, may_record}
use Rattle.cd_canonical.specs.Read.{canonical_reading}
use Rattle.cd_operator.specs.Doing.{added_by, by_rules, doing, if_allowed}
use Rattle.cd_operator.specs.Wanted.{wanted}
use Rattle.cd_operator.specs.declared.reply.Refused.{Refused}
use Rattle.cd_operator.specs.declared.reply.Reply.TheVariants as reply
use Rattle.cd_operator.specs.declared.wanted.Recording.{Recording}

if_may : (b : Bool) (r : Recording) (e : Entry) → added_by (if_allowed b r) ≡ Some e → (b ≡ true) × (r.adds ≡ e)
if_may true r e is = (refl, same_Some r.adds e is)
if_may false r e is = absurd (none-some e is)

pub adds_may : (now : ℕ) (entries : List Entry) (w : Result Recording Refused) (e : Entry) → added_by (by_rules now entries w) ≡ Some e → may_record canonical_reading now entries e ≡ true
adds_may now entries (Ok r) e is =
    let reactions = if_may (may_record canonical_reading now entries r.adds) r e is in
    subst (λ (x : Entry). may_record canonical_reading now entries x ≡ true) reactions.1 reactions.0
adds_may now entries (Err why) e is = absurd (none-some e is)

home_may : (now : ℕ) (name : List ℕ) (home : ℕ) → may_record canonical_reading now [] (entry.Home name home) ≡ true
unfolding allowed is_formed
home_may now name home = refl

pub naming_is : (now : ℕ) (name : List ℕ) (home : ℕ) → doing now [] (Init name home) ≡ wanted now [] (Init name home)
naming_is now name home =
    let r : Recording = record { answer = reply.Home name home; adds = entry.Home name home } in
    ap (λ (b : Bool). if_allowed b r) (home_may now name home)
