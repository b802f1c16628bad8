-- Effects that are allowed are ready.
use Rattle.std.proofs.Common.{◌≡◌, ℕ, ◌<◌, true, ◌&&◌, List, [], ◌∷◌, arith}
use Rattle.std.specs.Prelude.{nat_lt}
use Rattle.std.specs.List.{list_all}
use Rattle.std.proofs.lemmas.Bool.{and_parts, ltb-true, le-leb, lt-ltb}
use Rattle.cd_types.specs.Choices.{is_kept}
use Rattle.cd_types.specs.FileName.{is_file_name}
use Rattle.cd_types.specs.Key.{IsPlace}
use Rattle.cd_entries.specs.declared.entry.Entry.{Entry}
use Rattle.cd_entries.specs.declared.entry.Entry.TheVariants as entry
use Rattle.cd_entries.specs.Entry as an_entry
use Rattle.cd_frames.specs.Frame.{IsWritable, is_piece, is_abort}
use Rattle.cd_frames.specs.Message as message
use Rattle.cd_frames.specs.Message.{Message}
use Rattle.cd_rules.specs.Legal.{allowed}
use Rattle.cd_rules.specs.Steps.{Reading}
use Rattle.cd_rules.specs.Processes.{moment_of}
use Rattle.cd_protocol.specs.Node.{Effect, Keep, Touch, AskSize, AskBytes, Begin, Go}
use Rattle.cd_protocol.specs.Rows.{is_by, is_formed, is_sendable, may_record, are_allowed}
use Rattle.cd_effects.specs.Stands.{AreReady, AreSendable, HasFormedOrigin, HaveFormedOrigins}
use Rattle.cd_effects.proofs.Short.{allowed_short}

place_of : (place : ℕ) → nat_lt place 1024 ≡ true → IsPlace place
place_of place is = le-leb place 1023 (let h : place < 1024 = ltb-true place 1024 is in omega arith)

pub writable_of : (read : Reading) (journal : List Entry) (e : Entry) → allowed read journal e ≡ true → is_formed e ≡ true → HasFormedOrigin e → an_entry.IsWritable e
unfolding is_formed
writable_of read journal (entry.Home name home) fits form origin = tt
writable_of read journal (entry.Submitted n moment origin card text) fits form formed =
    let short = allowed_short read journal (entry.Submitted n moment origin card text) fits in
    (formed, lt-ltb _ 4294967296 (omega arith))
writable_of read journal (entry.Placed n placed moment) fits form origin = ltb-true placed.due 250000000000 form
writable_of read journal (entry.Started step kind attempt moment) fits form origin = place_of step.place form
writable_of read journal (entry.Receiving r) fits form origin = let p = and_parts (nat_lt r.key.place 1024) (is_file_name r.name) form in (place_of r.key.place p.0, p.1)
writable_of read journal (entry.Mark step offset) fits form origin = place_of step.place form
writable_of read journal (entry.Result step o moment) fits form origin = let p = and_parts (nat_lt step.place 1024) (is_kept o.cause) form in (place_of step.place p.0, p.1)
writable_of read journal (entry.Ended n place rc why bytes moment) fits form origin = (and_parts (nat_lt place 1024) (is_kept why) form).1
writable_of read journal (entry.Closed n how moment) fits form origin = tt
writable_of read journal (entry.Forgot name home n) fits form origin = tt
writable_of read journal (entry.Dropped step rc why moment) fits form origin = let p = and_parts (nat_lt step.place 1024) (is_kept why) form in (place_of step.place p.0, p.1)

sendable_of : (m : Message) → is_sendable m ≡ true → IsWritable m
unfolding is_sendable
sendable_of (message.Hello h) form = form
sendable_of (message.Welcome w) form = form
sendable_of (message.Reject why) form = absurd cc
sendable_of (message.StepCopyTo step name disp interval size) form = let p = and_parts (nat_lt step.place 1024) (is_file_name name) form in (place_of step.place p.0, p.1)
sendable_of (message.StepCopyFrom step name interval) form = let p = and_parts (nat_lt step.place 1024) (is_file_name name) form in (place_of step.place p.0, p.1)
sendable_of (message.StepTask step kind command) form = absurd cc
sendable_of (message.StepSubmit step name snode prty symbols) form = absurd cc
sendable_of (message.Ready step offset) form = place_of step.place form
sendable_of (message.Length step size) form = place_of step.place form
sendable_of (message.Data step offset bytes) form = let p = and_parts (nat_lt step.place 1024) (is_piece bytes) form in (place_of step.place p.0, p.1)
sendable_of (message.Ack step offset) form = place_of step.place form
sendable_of (message.End step size) form = place_of step.place form
sendable_of (message.Result step o) form = let p = and_parts (nat_lt step.place 1024) (is_kept o.cause) form in (place_of step.place p.0, p.1)
sendable_of (message.Abort step why) form = let p = and_parts (nat_lt step.place 1024) (is_abort why) form in (place_of step.place p.0, p.1)
sendable_of (message.Forget home n) form = tt
sendable_of message.Bye form = tt

all_sendable : (frames : List Message) → list_all is_sendable frames ≡ true → AreSendable frames
all_sendable [] form = tt
all_sendable (m ∷ frames) form = let p = and_parts (is_sendable m) (list_all is_sendable frames) form in (sendable_of m p.0, all_sendable frames p.1)

pub ready_of : (read : Reading) (now : ℕ) (journal : List Entry) (effects : List Effect) → are_allowed read now journal effects ≡ true → HaveFormedOrigins effects → AreReady read journal effects
ready_of read now journal [] fits formed = tt
ready_of read now journal (Keep e ∷ effects) fits formed =
    let outer = and_parts (may_record read now journal e) (are_allowed read now (e ∷ journal) effects) fits in
    let inner = and_parts (allowed read journal e && is_by now (moment_of e)) (is_formed e) outer.0 in
    let both = and_parts (allowed read journal e) (is_by now (moment_of e)) inner.0 in
    (record { next = both.0; writable = writable_of read journal e both.0 inner.1 formed.0 }, ready_of read now (e ∷ journal) effects outer.1 formed.1)
ready_of read now journal (Touch change ∷ effects) fits formed = (tt, ready_of read now journal effects fits formed)
ready_of read now journal (AskSize name ∷ effects) fits formed = (tt, ready_of read now journal effects fits formed)
ready_of read now journal (AskBytes name at len ∷ effects) fits formed = (tt, ready_of read now journal effects fits formed)
ready_of read now journal (Begin key phase ∷ effects) fits formed = (tt, ready_of read now journal effects fits formed)
ready_of read now journal (Go phase frames ∷ effects) fits formed =
    let p = and_parts (list_all is_sendable frames) (are_allowed read now journal effects) fits in
    (all_sendable frames p.0, ready_of read now journal effects p.1 formed)
