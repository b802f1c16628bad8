-- Each number that was told is in the journal.
use Rattle.std.proofs.Common.{◌≡◌, ◌⊎◌, inl, inr, ⊎_elim, ℕ, ◌+◌, ◌≤◌, ◌||◌, ◌&&◌, cond, eqb, ltb, Bool, true, false, List, [], ◌∷◌, ◌++◌, length, Option, Some, None, option_to_list, refl, sym, ap, subst, ◌∙◌}
use Rattle.std.specs.List.{list_any}
use Rattle.std.proofs.lemmas.List.Folds.{list_any-append}
use Rattle.cd_entries.specs.declared.entry.Entry.{Entry}
use Rattle.cd_turn.specs.Entries.{submitted_in, live_in}
use Rattle.cd_outside.specs.Disk.{DiskState}
use Rattle.cd_outside.specs.Doubt.{IsImage}
use Rattle.cd_turn.specs.Ends.{MayLeave}
use Rattle.cd_turn.specs.Home.{IsJournal}
use Rattle.cd_turn.proofs.Homes.{kept_image}
use Rattle.cd_turn.specs.declared.status.Status.{Status}
use Rattle.cd_turn.specs.declared.status.Status.TheVariants.{Done, Usage, Refused, Unfit, SourceFault, DiskFault, SinkFault, InputLimit, JournalFull, NoMemory}
use Rattle.cd_ast.specs.declared.process.Process.{Process}
use Rattle.cd_turn.specs.declared.order.Order.{Order}
use Rattle.cd_turn.specs.declared.order.Order.TheVariants as order
use Rattle.cd_turn.specs.Turn.{Turn, order_in, answer, room_answer, partner_answer, submission, submission_with, added, after_turn, after_turns, replies}
use Rattle.cd_turn.specs.declared.reply.Reply.TheVariants as reply
use Rattle.cd_turn.specs.declared.reply.Refusal.TheVariants.{Full}
use Rattle.cd_cli.specs.Acknowledged.{tells, submits, KeepsNumber}
use Rattle.cd_cli.specs.Run.{added_by, told_turns, Ran}
use Rattle.cd_cli.proofs.Turning.{or_false}

-- what a list has, a longer one has
has_front : (n : ℕ) (one two : List Entry) → list_any (submits n) one ≡ true → list_any (submits n) (one ++ two) ≡ true
has_front n one two h = list_any-append (submits n) one two ∙ ap (λ (b : Bool). b || list_any (submits n) two) h

has_back : (n : ℕ) (one two : List Entry) → list_any (submits n) two ≡ true → list_any (submits n) (one ++ two) ≡ true
has_back n one two h = list_any-append (submits n) one two ∙ ap (λ (b : Bool). list_any (submits n) one || b) h ∙ or_true (list_any (submits n) one)
  where
    or_true : (b : Bool) → (b || true) ≡ true
    or_true true = refl
    or_true false = refl

has_later : (n : ℕ) (entries : List Entry) (turns : List Turn) → list_any (submits n) entries ≡ true → list_any (submits n) (after_turns entries turns) ≡ true
has_later n entries [] h = h
has_later n entries (turn ∷ turns) h = has_later n (after_turn entries turn) turns (has_front n entries (option_to_list (added entries turn.now (order_in turn))) h)

room_told : (t : Bool) (n now : ℕ) (entries : List Entry) (snode : List ℕ) (p : Process) → tells n (cond t (reply.Submitted (submitted_in entries + 1)) (reply.Refused (Full 4096))) ≡ true
    → list_any (submits n) (option_to_list (cond t (Some (submission entries now snode p)) None)) ≡ true
room_told true n now entries snode p h = or_false (eqb (submitted_in entries + 1) n) ∙ h
room_told false n now entries snode p h = absurd cc

partner_told : (n now : ℕ) (entries : List Entry) (p : Process) (partner : Option (List ℕ)) → tells n (partner_answer entries partner) ≡ true → list_any (submits n) (option_to_list (submission_with entries now p partner)) ≡ true
partner_told n now entries p None h = absurd cc
partner_told n now entries p (Some snode) h = room_told (ltb (live_in entries) 4096) n now entries snode p h

-- a number is told with its entry
told_added : (n now : ℕ) (entries : List Entry) (wanted : Order) → tells n (answer entries wanted) ≡ true → list_any (submits n) (option_to_list (added entries now wanted)) ≡ true
told_added n now entries (order.Wrong name at) h = absurd cc
told_added n now entries order.NotBuilt h = absurd cc
told_added n now entries order.Stop h = absurd cc
told_added n now [] order.SubmitNotBuilt h = absurd cc
told_added n now (e ∷ entries) order.SubmitNotBuilt h = absurd cc
told_added n now [] (order.SubmitUnread why) h = absurd cc
told_added n now (e ∷ entries) (order.SubmitUnread why) h = absurd cc
told_added n now entries (order.View p) h = absurd cc
told_added n now entries (order.ViewUnread why) h = absurd cc
told_added n now entries (order.Report report) h = absurd cc
told_added n now entries (order.DrillUnread why) h = absurd cc
told_added n now [] (order.Init name home) h = absurd cc
told_added n now (e ∷ entries) (order.Init name home) h = absurd cc
told_added n now [] (order.Submit p) h = absurd cc
told_added n now (e ∷ entries) (order.Submit p) h = partner_told n now (e ∷ entries) p p.card.snode h

either : (a b : Bool) → (a || b) ≡ true → (a ≡ true) ⊎ (b ≡ true)
either true b h = inl refl
either false b h = inr h

told_kept : (n : ℕ) (entries : List Entry) (turns : List Turn) → list_any (tells n) (replies entries turns) ≡ true → list_any (submits n) (after_turns entries turns) ≡ true
told_kept n entries [] h = absurd cc
told_kept n entries (turn ∷ turns) h =
    let wanted = order_in turn in
    ⊎_elim
    (λ (now : tells n (answer entries wanted) ≡ true).
    has_later n (after_turn entries turn) turns (has_back n entries (option_to_list (added entries turn.now wanted)) (told_added n turn.now entries wanted now)))
    (λ (later : list_any (tells n) (replies (after_turn entries turn) turns) ≡ true). told_kept n (after_turn entries turn) turns later)
    (either (tells n (answer entries wanted)) (list_any (tells n) (replies (after_turn entries turn) turns)) h)

-- a journal of a list that has it
journal_number : (n : ℕ) (entries more : List Entry) (image : List ℕ) → list_any (submits n) entries ≡ true → IsJournal (entries ++ more) image → KeepsNumber n image
journal_number n entries more image has is = record { list = entries ++ more; stands = is.stands; has = has_front n entries more has }

journal_has : (n : ℕ) (entries : List Entry) (image : List ℕ) → list_any (submits n) entries ≡ true → IsJournal entries image → KeepsNumber n image
journal_has n entries image has is = record { list = entries; stands = is.stands; has = has }

leaves_number : (fresh : Type 0) (n : ℕ) (entries : List Entry) (entry : Option Entry) (image : List ℕ) → list_any (submits n) entries ≡ true → MayLeave fresh entries entry image → KeepsNumber n image
leaves_number fresh n entries None image has left = journal_has n entries image has left
leaves_number fresh n entries (Some e) image has left = ⊎_elim
    (λ (is : IsJournal entries image). journal_has n entries image has is)
    (λ (more : IsJournal (entries ++ e ∷ []) image ⊎ (fresh × (entries ≡ []) × (length image ≤ 9))). ⊎_elim
    (λ (is : IsJournal (entries ++ e ∷ []) image). journal_number n entries (e ∷ []) image has is)
    (λ (none : fresh × (entries ≡ []) × (length image ≤ 9)). let no_entry : false ≡ true = sym (ap (list_any (submits n)) none.1) ∙ has in absurd cc)
    more)
    left

-- and what a crash leaves has it
module _ (fresh disk source sink : Type 0) (by : Turn → Type 0) (entries : List Entry) (out input rest : List ℕ) (now : DiskState) (out_now : List ℕ) where
  module _ (status : Status) (r : Ran fresh disk source sink by entries out input rest now out_now status) (told : disk) (n : ℕ) (image : List ℕ) (left : IsImage now.doubt image) where
    turns_number : list_any (tells n) (replies entries r.turns) ≡ true → KeepsNumber n image
    turns_number number = leaves_number fresh n (after_turns entries r.turns) (added_by (after_turns entries r.turns) r.begun) image (told_kept n entries r.turns number) (r.keeps told image left)

    written_number : status ≡ SinkFault → list_any (tells n) (replies entries (r.turns ++ option_to_list r.begun)) ≡ true → KeepsNumber n image
    written_number is number =
        let all = r.turns ++ option_to_list r.begun in
        journal_has n (after_turns entries all) image (told_kept n entries all number) (kept_image (after_turns entries all) now image (r.written told is) left)

  pub keeps_number : (status : Status) (r : Ran fresh disk source sink by entries out input rest now out_now status) → disk → (n : ℕ) (image : List ℕ) → list_any (tells n) (replies entries (told_turns status r.turns r.begun)) ≡ true → IsImage now.doubt image → KeepsNumber n image
  keeps_number Done r told n image number left = turns_number Done r told n image left number
  keeps_number Usage r told n image number left = turns_number Usage r told n image left number
  keeps_number Refused r told n image number left = turns_number Refused r told n image left number
  keeps_number (Unfit at) r told n image number left = turns_number (Unfit at) r told n image left number
  keeps_number DiskFault r told n image number left = turns_number DiskFault r told n image left number
  keeps_number (JournalFull len) r told n image number left = turns_number (JournalFull len) r told n image left number
  keeps_number SourceFault r told n image number left = turns_number SourceFault r told n image left number
  keeps_number SinkFault r told n image number left = written_number SinkFault r told n image left refl number
  keeps_number InputLimit r told n image number left = turns_number InputLimit r told n image left number
  keeps_number NoMemory r told n image number left = turns_number NoMemory r told n image left number
