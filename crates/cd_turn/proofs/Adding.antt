-- What a command adds may follow, and can be written.
use Rattle.std.proofs.Common.{◌≡◌, ◌≢◌, ℕ, ◌+◌, ◌≤◌, ◌<◌, max, Bool, true, false, cond, ◌&&◌, leb, ltb, not, List, [], ◌∷◌, ◌++◌, length, Option, Some, None, refl, sym, ap, subst, ◌∙◌, arith, length-append}
use Rattle.std.specs.Prelude.{IsTrue}
use Rattle.std.specs.List.{list_all}
use Rattle.std.proofs.lemmas.Bool.{leb-true, ltb-true, le-leb, lt-ltb}
use Rattle.cd_types.specs.FileName.{is_text}
use Rattle.cd_types.specs.Filed.{card_bytes}
use Rattle.cd_types.specs.Label.{is_label, is_label_byte, begins_with_letter, is_reserved, IsLabel}
use Rattle.cd_types.specs.NodeName.{is_node_name, is_node_byte, IsNodeName}
use Rattle.cd_types.specs.Number.{number_bytes}
use Rattle.cd_types.specs.NumberLaw.{number_has_length}
use Rattle.cd_types.specs.Text.{text_bytes}
use Rattle.cd_types.specs.TextLaw.{both_true}
use Rattle.cd_entries.specs.declared.entry.Entry.{Entry}
use Rattle.cd_entries.specs.declared.entry.Entry.TheVariants as entry
use Rattle.cd_entries.specs.Entry.{entry_bytes, IsWritable}
use Rattle.cd_ast.specs.Canonical.{canonical}
use Rattle.cd_ast.specs.declared.process.Process.{Process}
use Rattle.cd_submission.specs.Filing.{default_interval, is_push}
use Rattle.cd_automaton.specs.Ranges.{passes, within, is_timed, is_card}
use Rattle.cd_canonical.specs.Read.{canonical_reading}
use Rattle.cd_types.specs.Choices.{hold_code, retain_code}
use Rattle.cd_types.specs.declared.start.Card.{Card}
use Rattle.cd_turn.specs.declared.order.Order.{Order}
use Rattle.cd_turn.specs.declared.order.Order.TheVariants as order
use Rattle.cd_turn.specs.Order.{IsKept, IsFormed}
use Rattle.cd_turn.specs.Texts.{card_for, push_card, card_in}
use Rattle.cd_turn.specs.Entries.{submitted_in, live_in, latest_in}
use Rattle.cd_turn.specs.Legal.{IsNext, IsLegal}
use Rattle.cd_turn.specs.Turn.{is_named, submission, submission_with, added, MayKeep}
use Rattle.cd_turn.proofs.Legality.{live-legal}

label_short : (text : List ℕ) → is_label text ≡ true → length text ≤ 8
label_short text form =
    let first = both_true (begins_with_letter text && leb (length text) 8 && list_all is_label_byte text) (not (is_reserved text)) form in
    let second = both_true (begins_with_letter text && leb (length text) 8) (list_all is_label_byte text) first.0 in
    let third = both_true (begins_with_letter text) (leb (length text) 8) second.0 in
    leb-true _ _ third.1

node_short : (text : List ℕ) → is_node_name text ≡ true → length text ≤ 16
node_short text form =
    let tests = both_true (leb 1 (length text) && leb (length text) 16) (list_all is_node_byte text) form in
    let bounds = both_true (leb 1 (length text)) (leb (length text) 16) tests.0 in
    leb-true _ _ bounds.1

counted : (n : ℕ) (text : List ℕ) → length (text_bytes n text) ≡ n + length text
unfolding text_bytes
counted n text = omega (arith, length-append (number_bytes n (length text)) text, number_has_length n (length text))

card_short : (snode : List ℕ) (card : Card) → is_label card.name ≡ true → is_node_name snode ≡ true → length (card_bytes (card_for snode card)) ≤ 40
unfolding card_bytes
card_short snode card name node =
    let f6 = number_bytes 1 0 in
    let f5 = number_bytes 1 (retain_code card.retain) ++ f6 in
    let f4 = number_bytes 1 (hold_code card.hold) ++ f5 in
    let f3 = number_bytes 1 card.class ++ f4 in
    let f2 = number_bytes 1 card.prty ++ f3 in
    let f1 = text_bytes 1 snode ++ f2 in
    let whole : length (card_bytes (card_for snode card)) ≡ length (text_bytes 1 card.name) + length f1 = length-append (text_bytes 1 card.name) f1 in
    omega (
      arith,
      whole,
      label_short card.name name,
      node_short snode node,
      counted 1 card.name,
      counted 1 snode,
      length-append (text_bytes 1 snode) f2,
      length-append (number_bytes 1 card.prty) f3,
      length-append (number_bytes 1 card.class) f4,
      length-append (number_bytes 1 (hold_code card.hold)) f5,
      length-append (number_bytes 1 (retain_code card.retain)) f6,
      number_has_length 1 card.prty,
      number_has_length 1 card.class,
      number_has_length 1 (hold_code card.hold),
      number_has_length 1 (retain_code card.retain),
      number_has_length 1 0,
    )

-- a kept Process has a label and a partner in their form
name_form : (process : Process) → IsKept process → is_label process.card.name ≡ true
name_form process kept =
    let a = both_true _ _ kept.card in
    let b = both_true _ _ a.0 in
    let c = both_true _ _ b.0 in
    let d = both_true (is_label process.card.name) (passes is_node_name process.card.snode) c.0 in
    d.0

partner_form : (process : Process) (snode : List ℕ) → IsKept process → process.card.snode ≡ Some snode → is_node_name snode ≡ true
partner_form process snode kept e =
    let a = both_true _ _ kept.card in
    let b = both_true _ _ a.0 in
    let c = both_true _ _ b.0 in
    let d = both_true (is_label process.card.name) (passes is_node_name process.card.snode) c.0 in
    subst (λ (o : Option (List ℕ)). passes is_node_name o ≡ true) e d.1

submission_short : (entries : List Entry) (now : ℕ) (snode : List ℕ) (process : Process) → IsKept process → process.card.snode ≡ Some snode → length (entry_bytes (submission entries now snode process)) ≤ 262144
submission_short entries now snode process kept partner =
    let n = submitted_in entries + 1 in
    let moment = max now (latest_in entries) in
    let text = canonical process in
    let f4 = text_bytes 4 text in
    let f3 = card_bytes (card_for snode process.card) ++ f4 in
    let f2 = number_bytes 1 0 ++ f3 in
    let f1 = number_bytes 8 moment ++ f2 in
    let f0 = number_bytes 4 n ++ f1 in
    let most : length text ≤ 200000 = kept.short in
    let whole : length (entry_bytes (submission entries now snode process)) ≡ length (number_bytes 1 2) + length f0 = length-append (number_bytes 1 2) f0 in
    omega (
      arith,
      whole,
      most,
      length-append (number_bytes 4 n) f1,
      length-append (number_bytes 8 moment) f2,
      length-append (number_bytes 1 0) f3,
      length-append (card_bytes (card_for snode process.card)) f4,
      counted 4 text,
      card_short snode process.card (name_form process kept) (partner_form process snode kept partner),
      number_has_length 1 2,
      number_has_length 4 n,
      number_has_length 8 moment,
      number_has_length 1 0,
    )

home_short : (name : List ℕ) (home : ℕ) → IsNodeName name → length (entry_bytes (entry.Home name home)) ≤ 262144
home_short name home form =
    let f1 = number_bytes 8 home in
    let f0 = text_bytes 1 name ++ f1 in
    let whole : length (entry_bytes (entry.Home name home)) ≡ length (number_bytes 1 1) + length f0 = length-append (number_bytes 1 1) f0 in
    omega (arith, whole, length-append (text_bytes 1 name) f1, counted 1 name, node_short name form, number_has_length 1 1, number_has_length 8 home)

-- a test that was passed
kept_if : (t : Bool) (x : Entry) (e : Entry) → cond t (Some x) None ≡ Some e → (t ≡ true) × (x ≡ e)
kept_if true x e h = (refl, cc)
kept_if false x e h = absurd cc

home_may : (entries : List Entry) (name : List ℕ) (home : ℕ) (e : Entry) → IsNodeName name → cond (is_named entries) None (Some (entry.Home name home)) ≡ Some e → MayKeep entries e
home_may [] name home e form h =
    let is : entry.Home name home ≡ e = cc in
    subst (MayKeep []) is (record { next = refl; writable = tt; short = home_short name home form })
home_may (first ∷ entries) name home e form h = absurd cc

named_some : (entries : List Entry) → is_named entries ≡ true → entries ≡ [] → ⊥
named_some [] named none = absurd cc
named_some (e ∷ entries) named none = absurd cc

-- its text is read as it, with its card
card_read : (snode : List ℕ) (process : Process) → IsKept process → process.card.snode ≡ Some snode → card_in (canonical process) ≡ Some (card_for snode process.card)
unfolding card_in
card_read snode process kept partner = ap push_card kept.read ∙ rw (kept.push, partner) refl

submission_next : (entries : List Entry) (now : ℕ) (snode : List ℕ) (process : Process) → IsLegal entries → IsKept process → process.card.snode ≡ Some snode → is_named entries ≡ true → live_in entries < 4096
    → IsNext entries (submission entries now snode process)
submission_next entries now snode process legal kept partner named room =
    let live = live-legal entries legal in
    record {
      begun = named_some entries named;
      next = refl;
      last = omega arith;
      room = room;
      later = omega arith;
      once = tt;
      short = kept.short;
      canonical = card_read snode process kept partner;
    }

partner_may : (entries : List Entry) (now : ℕ) (process : Process) (partner : Option (List ℕ)) (e : Entry) → IsLegal entries → IsKept process → process.card.snode ≡ partner → is_named entries ≡ true
    → submission_with entries now process partner ≡ Some e → MayKeep entries e
partner_may entries now process None e legal kept same named h = absurd cc
partner_may entries now process (Some snode) e legal kept same named h =
    let added = kept_if (ltb (live_in entries) 4096) (submission entries now snode process) e h in
    let room : live_in entries < 4096 = ltb-true _ _ added.0 in
    let small : length (canonical process) < 4294967296 = let most = kept.short in omega arith in
    subst (MayKeep entries) added.1 (record {
      next = submission_next entries now snode process legal kept same named room;
      writable = (tt, lt-ltb _ _ small);
      short = submission_short entries now snode process kept same;
    })

submission_may : (entries : List Entry) (now : ℕ) (process : Process) (e : Entry) → IsLegal entries → IsKept process → cond (is_named entries) (submission_with entries now process process.card.snode) None ≡ Some e → MayKeep entries e
submission_may [] now process e legal kept h = absurd cc
submission_may (first ∷ entries) now process e legal kept h = partner_may (first ∷ entries) now process process.card.snode e legal kept refl refl h

-- what an order adds
pub added_may : (entries : List Entry) (now : ℕ) (wanted : Order) (e : Entry) → IsLegal entries → IsFormed wanted → added entries now wanted ≡ Some e → MayKeep entries e
added_may entries now (order.Wrong name at) e legal form h = absurd cc
added_may entries now order.NotBuilt e legal form h = absurd cc
added_may entries now order.Stop e legal form h = absurd cc
added_may entries now order.SubmitNotBuilt e legal form h = absurd cc
added_may entries now (order.SubmitUnread why) e legal form h = absurd cc
added_may entries now (order.View process) e legal form h = absurd cc
added_may entries now (order.ViewUnread why) e legal form h = absurd cc
added_may entries now (order.Report report) e legal form h = absurd cc
added_may entries now (order.DrillUnread why) e legal form h = absurd cc
added_may entries now (order.Init name home) e legal form h = home_may entries name home e form h
added_may entries now (order.Submit process) e legal form h = submission_may entries now process e legal form h
