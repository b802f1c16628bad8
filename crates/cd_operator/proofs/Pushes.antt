-- A push that a text says may be recorded.
use Rattle.std.proofs.Common.{◌≡◌, ℕ, ◌+◌, ◌≤◌, ◌<◌, Bool, true, false, cond, not, ◌&&◌, leb, List, [], ◌∷◌, length, Option, Some, None, refl, sym, ap, subst, ◌∙◌, arith}
use Rattle.std.specs.Prelude.{Result, Ok, Err, nat_le, nat_lt}
use Rattle.std.specs.List.{list_all}
use Rattle.std.specs.Str.{bytes_eq}
use Rattle.std.proofs.lemmas.Bool.{and_parts, and_from, le-leb, lt-ltb, eq-eqb, leb-false}
use Rattle.std.proofs.lemmas.Slice.Eq.{bytes_eq-Decides}
use Rattle.cd_types.specs.Choices.{hold_code, retain_code}
use Rattle.cd_types.specs.declared.card.Filed.{Filed}
use Rattle.cd_ast.specs.Canonical.{canonical}
use Rattle.cd_ast.specs.declared.process.Process.{Process}
use Rattle.cd_ast.specs.declared.process.Stmt.{Stmt}
use Rattle.cd_ast.specs.declared.process.What.{What}
use Rattle.cd_ast.specs.declared.process.What.TheVariants as what
use Rattle.cd_commands.specs.declared.command.Command.TheVariants.{SubmitText}
use Rattle.cd_commands.specs.declared.command.Options.{Options}
use Rattle.cd_entries.specs.declared.entry.Entry.{Entry}
use Rattle.cd_submission.specs.Filing.{default_interval, filed, is_plain_card, replaces, says_interval as has_interval, is_push_step, is_one, is_push}
use Rattle.cd_rules.specs.Legal.{allowed, is_card_of, is_empty, is_filed, is_from, is_given, is_snode_of, has_small_symbols, may_submit, says_interval}
use Rattle.cd_protocol.specs.Rows.{is_formed, may_record}
use Rattle.cd_canonical.specs.Read.{canonical_reading}
use Rattle.cd_rules.specs.Processes.{latest, live_numbers, submitted}
use Rattle.cd_operator.specs.Doing.{by_rules, doing, if_allowed}
use Rattle.cd_operator.specs.Filing.{card_of, filed_as, is_built, may_wait, with_partner}
use Rattle.cd_operator.specs.Wanted.{at_home, filed_so, filing_of, next_number, numbered_so, wanted}
use Rattle.cd_operator.specs.declared.reply.Refused.{Refused}
use Rattle.cd_operator.specs.declared.reply.Refused.TheVariants as refused
use Rattle.cd_operator.specs.declared.wanted.Recording.{Recording}

-- Its statements say their interval.
gives_interval : (ckpt : Option ℕ) → has_interval (Some default_interval) ckpt ≡ true → (interval : ℕ) × (ckpt ≡ Some interval)
gives_interval None h = absurd cc
gives_interval (Some n) h = (n, refl)

abbrev is_said : What → Bool
is_said w = says_interval w && has_small_symbols w

step_said : (w : What) → is_push_step (Some default_interval) w ≡ true → is_said w ≡ true
step_said (what.Copy copy) h =
    let reactions = and_parts (copy.push && replaces copy.disp) (has_interval (Some default_interval) copy.ckpt) h in
    let given = gives_interval copy.ckpt reactions.1 in
    ap (λ (o : Option ℕ). is_given o && true) given.1
step_said (what.Task task) h = absurd cc
step_said (what.Submit submit) h = absurd cc
step_said (what.If label rel n) h = absurd cc
step_said what.Else h = absurd cc
step_said what.Eif h = absurd cc
step_said (what.Goto label) h = absurd cc
step_said what.Exit h = absurd cc

one_said : (stmts : List Stmt) → is_one (λ stmt. is_push_step (Some default_interval) stmt.what) stmts ≡ true → list_all (λ s. is_said s.what) stmts ≡ true
one_said [] h = absurd cc
one_said (stmt ∷ []) h = and_from (is_said stmt.what) true (step_said stmt.what h) refl
one_said (stmt ∷ other ∷ stmts) h = absurd cc

push_said : (process : Process) → is_push (Some default_interval) process ≡ true → list_all (λ s. is_said s.what) process.stmts ≡ true
unfolding is_push
push_said process h = one_said process.stmts (and_parts (is_plain_card process.card) (is_one (λ stmt. is_push_step (Some default_interval) stmt.what) process.stmts) h).1

-- Its card is that of the Process.
card_agrees : (card : Filed) (process : Process) (partner : Option (List ℕ)) → process.card.snode ≡ partner → with_partner process.name partner process.card ≡ Ok card → is_card_of card process ≡ true
card_agrees card process None same h = absurd cc
card_agrees card process (Some snode) same h =
    let is : card_of process.name snode process.card ≡ card = cc in
    let name : card.name ≡ process.name = sym (ap (λ (c : Filed). c.name) is) in
    let node : card.snode ≡ snode = sym (ap (λ (c : Filed). c.snode) is) in
    let prty : card.prty ≡ process.card.prty = sym (ap (λ (c : Filed). c.prty) is) in
    let class : card.class ≡ process.card.class = sym (ap (λ (c : Filed). c.class) is) in
    let hold : hold_code card.hold ≡ hold_code process.card.hold = sym (ap (λ (c : Filed). hold_code c.hold) is) in
    let retain : retain_code card.retain ≡ retain_code process.card.retain = sym (ap (λ (c : Filed). retain_code c.retain) is) in
    and_from _ _
    (and_from _ _
    (and_from _ _
    (and_from _ _ (and_from _ _ ((bytes_eq-Decides card.name process.name).1 name) (subst (λ (o : Option (List ℕ)). is_snode_of card.snode o ≡ true) (sym same) ((bytes_eq-Decides card.snode snode).1 node))) (eq-eqb card.prty process.card.prty prty))
    (eq-eqb card.class process.card.class class))
    (eq-eqb (hold_code card.hold) (hold_code process.card.hold) hold))
    (eq-eqb (retain_code card.retain) (retain_code process.card.retain) retain)

-- Its number is the next one.
record IsNumber (live sub n : ℕ) : Type 0 where
  is : n ≡ sub + 1
  most : n ≤ 99999
  room : live < 4096

abbrev number_for : Bool → Bool → ℕ → Result ℕ Refused
number_for full spent sub = cond full (Err refused.Full) (cond spent (Err refused.NumbersSpent) (Ok (sub + 1)))

numbered : (live sub n : ℕ) (full spent : Bool) → leb 4096 live ≡ full → leb 99999 sub ≡ spent → number_for full spent sub ≡ Ok n → IsNumber live sub n
numbered live sub n true spent is_full is_spent h = absurd cc
numbered live sub n false true is_full is_spent h = absurd cc
numbered live sub n false false is_full is_spent h =
    let is : sub + 1 ≡ n = cc in
    let few = leb-false 4096 live is_full in
    let left = leb-false 99999 sub is_spent in
    record { is = sym is; most = omega arith; room = few }

module _ (now : ℕ) (entries : List Entry) (process : Process) (some : is_empty entries ≡ false) (early : latest entries ≤ now)
    (read : canonical_reading (canonical process) ≡ Some process) (short : length (canonical process) ≤ 200000) (push : is_push (Some default_interval) process ≡ true) where
  filed_agrees : (card : Filed) → filed_as process.name process.card ≡ Ok card → is_filed card (canonical_reading (canonical process)) ≡ true
  filed_agrees card is = subst (λ (o : Option Process). is_filed card o ≡ true) (sym read)
      (and_from (is_card_of card process) (list_all (λ s. is_said s.what) process.stmts) (card_agrees card process process.card.snode refl is) (push_said process push))

  push_may : (card : Filed) (n : ℕ) → filed_as process.name process.card ≡ Ok card → next_number entries ≡ Ok n → may_record canonical_reading now entries (filing_of n now card process) ≡ true
  unfolding allowed is_formed
  push_may card n card_is number_is =
      let live = length (live_numbers entries) in
      let number = numbered live (submitted entries) n (leb 4096 live) (leb 99999 (submitted entries)) refl refl number_is in
      let follows = and_from _ _ (ap not some) (le-leb (latest entries) now early) in
      let counted = and_from _ _ (and_from _ _ (eq-eqb n (submitted entries + 1) number.is) (le-leb n 99999 number.most)) (lt-ltb live 4096 number.room) in
      let submits = and_from _ _ (and_from _ _ (and_from _ _ counted (le-leb (length (canonical process)) 200000 short)) (filed_agrees card card_is)) refl in
      and_from _ _ (and_from _ _ (and_from _ _ follows submits) (le-leb now now (omega arith))) refl

  numbered_may : (card : Filed) (m : Result ℕ Refused) (r : Recording) → filed_as process.name process.card ≡ Ok card → next_number entries ≡ m → numbered_so now card process m ≡ Ok r → may_record canonical_reading now entries r.adds ≡ true
  numbered_may card (Err why) r card_is number_is h = absurd cc
  numbered_may card (Ok n) r card_is number_is h =
      let is : filing_of n now card process ≡ r.adds = cc in
      subst (λ (e : Entry). may_record canonical_reading now entries e ≡ true) is (push_may card n card_is number_is)

  filed_may : (f : Result Filed Refused) (r : Recording) → filed_as process.name process.card ≡ f → filed_so now entries process f ≡ Ok r → may_record canonical_reading now entries r.adds ≡ true
  filed_may (Err why) r is h = absurd cc
  filed_may (Ok card) r is h = numbered_may card (next_number entries) r is refl h

home_may : (now : ℕ) (entries : List Entry) (process : Process) (empty : Bool) (r : Recording) → is_empty entries ≡ empty → latest entries ≤ now
    → canonical_reading (canonical process) ≡ Some process → length (canonical process) ≤ 200000 → is_push (Some default_interval) process ≡ true
    → cond empty (Err refused.NotHome) (filed_so now entries process (filed_as process.name process.card)) ≡ Ok r → may_record canonical_reading now entries r.adds ≡ true
home_may now entries process true r some early read short push h = absurd cc
home_may now entries process false r some early read short push h = filed_may now entries process some early read short push (filed_as process.name process.card) r refl h

passed : (t : Bool) (x : Result Recording Refused) (r : Recording) → cond t x (Err refused.NotYet) ≡ Ok r → x ≡ Ok r
passed true x r h = h
passed false x r h = absurd cc

-- what it asks for is done
pub push_is : (now : ℕ) (entries : List Entry) (process : Process) (options : Options) (r : Recording) → latest entries ≤ now
    → canonical_reading (canonical (filed options process)) ≡ Some (filed options process) → length (canonical (filed options process)) ≤ 200000 → is_push (Some default_interval) (filed options process) ≡ true
    → wanted now entries (SubmitText process options) ≡ Ok r → doing now entries (SubmitText process options) ≡ Ok r
push_is now entries process options r early read short push h =
    let at = passed (list_all (λ s. is_built s.what) process.stmts && may_wait (filed options process).card) (at_home now entries (filed options process)) r h in
    let may = home_may now entries (filed options process) (is_empty entries) r refl early read short push at in
    ap (by_rules now entries) h ∙ ap (λ (b : Bool). if_allowed b r) may
