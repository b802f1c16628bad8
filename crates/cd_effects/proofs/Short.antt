-- An entry in its form has at most 262,144 bytes, and a frame at most 131,072 behind its length.
use Rattle.std.proofs.Common.{◌≡◌, ℕ, ◌+◌, ◌≤◌, true, ◌&&◌, leb, List, [], ◌++◌, length, Option, Some, None, arith, length-append}
use Rattle.std.specs.Prelude.{◌==◌, nat_lt, nat_le}
use Rattle.std.proofs.lemmas.Bool.{and_parts, leb-true}
use Rattle.cd_types.specs.Choices.{hold_code, retain_code, queue_code, reason_code, cause_code, disp_code, task_kind_code, how_code}
use Rattle.cd_types.specs.Compound.{flag, optional_bytes, IsOptional}
use Rattle.cd_types.specs.FileNameLaw.{file_name_is_short}
use Rattle.cd_types.specs.Filed.{IsCard, card_bytes}
use Rattle.cd_types.specs.Key.{IsKey, key_bytes}
use Rattle.cd_types.specs.LabelLaw.{label_is_short}
use Rattle.cd_types.specs.NodeName.{IsNodeName}
use Rattle.cd_types.specs.NodeNameLaw.{node_name_is_short}
use Rattle.cd_types.specs.Number.{number_bytes}
use Rattle.cd_types.specs.NumberLaw.{number_has_length}
use Rattle.cd_types.specs.Rows.{placing_bytes, outcomes_bytes}
use Rattle.cd_types.specs.Text.{text_bytes}
use Rattle.cd_types.specs.declared.card.Filed.{Filed}
use Rattle.cd_types.specs.declared.key.Key.{Key}
use Rattle.cd_types.specs.declared.rows.Outcomes.{Outcomes}
use Rattle.cd_types.specs.declared.rows.Placing.{Placing}
use Rattle.cd_entries.specs.declared.entry.Entry.{Entry}
use Rattle.cd_entries.specs.declared.entry.Entry.TheVariants as entry
use Rattle.cd_entries.specs.Entry.{IsEntry, entry_bytes}
use Rattle.cd_frames.specs.Frame as a_frame
use Rattle.cd_frames.specs.Frame.{body_bytes, is_piece}
use Rattle.cd_frames.specs.Message as message
use Rattle.cd_frames.specs.Message.{Message}
use Rattle.cd_rules.specs.Legal.{allowed, is_filed, is_new_origin}
use Rattle.cd_rules.proofs.LegalLaw.{allowed_follows}
use Rattle.cd_rules.specs.Steps.{Reading}
use Rattle.cd_effects.specs.Stands.{HasNames}
use Rattle.cd_rules.specs.Processes.{submitted, live_numbers}

join : (n m : ℕ) (a b : List ℕ) → length a ≤ n → length b ≤ m → length (a ++ b) ≤ n + m
join n m a b one two = omega (arith, length-append a b)

num : (n x : ℕ) → length (number_bytes n x) ≤ n
num n x = omega (arith, number_has_length n x)

text_le : (n most : ℕ) (text : List ℕ) → length text ≤ most → length (text_bytes n text) ≤ n + most
unfolding text_bytes
text_le n most text short = join n most (number_bytes n (length text)) text (num n (length text)) short

name_le : (name : List ℕ) → IsNodeName name → length (text_bytes 1 name) ≤ 17
name_le name form = text_le 1 16 name (node_name_is_short name form)

named_le : (key : Key) → IsNodeName key.pnode → length (key_bytes key) ≤ 31
unfolding key_bytes
named_le key form =
    join 17 14 (text_bytes 1 key.pnode) (number_bytes 8 key.home ++ (number_bytes 4 key.number ++ number_bytes 2 key.place)) (name_le key.pnode form)
    (join 8 6 (number_bytes 8 key.home) (number_bytes 4 key.number ++ number_bytes 2 key.place) (num 8 key.home) (join 4 2 (number_bytes 4 key.number) (number_bytes 2 key.place) (num 4 key.number) (num 2 key.place)))

key_le : (key : Key) → IsKey key → length (key_bytes key) ≤ 31
key_le key form = named_le key form.0

origin_le : (origin : Option Key) → IsOptional IsKey origin → length (optional_bytes key_bytes origin) ≤ 32
origin_le None form = let h = num 1 0 in omega arith
origin_le (Some key) form = join 1 31 (number_bytes 1 1) (key_bytes key) (num 1 1) (key_le key form)

start_le : (start : Option ℕ) → length (optional_bytes (number_bytes 8) start) ≤ 9
start_le None = let h = num 1 0 in omega arith
start_le (Some at) = join 1 8 (number_bytes 1 1) (number_bytes 8 at) (num 1 1) (num 8 at)

card_le : (card : Filed) → IsCard card → length (card_bytes card) ≤ 39
unfolding card_bytes
card_le card form =
    join 9 30 (text_bytes 1 card.name) _ (text_le 1 8 card.name (label_is_short card.name form.0))
    (join 17 13 (text_bytes 1 card.snode) _ (name_le card.snode form.1.0)
    (join 1 12 (number_bytes 1 card.prty) _ (num 1 card.prty)
    (join 1 11 (number_bytes 1 card.class) _ (num 1 card.class)
    (join 1 10 (number_bytes 1 (hold_code card.hold)) _ (num 1 (hold_code card.hold))
    (join 1 9 (number_bytes 1 (retain_code card.retain)) (optional_bytes (number_bytes 8) card.start) (num 1 (retain_code card.retain)) (start_le card.start))))))

placing_le : (p : Placing) → length (placing_bytes p) ≤ 13
unfolding placing_bytes
placing_le p =
    join 1 12 (number_bytes 1 (queue_code p.queue)) _ (num 1 (queue_code p.queue))
    (join 1 11 (number_bytes 1 (reason_code p.reason)) _ (num 1 (reason_code p.reason))
    (join 8 3 (number_bytes 8 p.due) _ (num 8 p.due)
    (join 2 1 (number_bytes 2 p.attempts) (number_bytes 1 p.prty) (num 2 p.attempts) (num 1 p.prty))))

outcomes_le : (o : Outcomes) → length (outcomes_bytes o) ≤ 14
unfolding outcomes_bytes
outcomes_le o =
    join 1 13 (number_bytes 1 o.rc) _ (num 1 o.rc)
    (join 1 12 (number_bytes 1 (cause_code o.cause)) _ (num 1 (cause_code o.cause))
    (join 8 4 (number_bytes 8 o.bytes) (number_bytes 4 o.made) (num 8 o.bytes) (num 4 o.made)))

-- the text of a submission has at most 200,000 bytes
abbrev pub HasShortText : Entry → Type 0
HasShortText (entry.Submitted n moment origin card text) = length text ≤ 200000
HasShortText _ = Unit {0}

pub allowed_short : (read : Reading) (journal : List Entry) (e : Entry) → allowed read journal e ≡ true → HasShortText e
allowed_short read journal (entry.Home name home) fits = tt
allowed_short read journal (entry.Submitted n moment origin card text) fits =
    let may = allowed_follows read (entry.Submitted n moment origin card text) journal fits in
    let a = and_parts ((n == submitted journal + 1 && nat_le n 99999) && nat_lt (length (live_numbers journal)) 4096 && nat_le (length text) 200000 && is_filed card (read text)) (is_new_origin journal origin) may in
    let b = and_parts ((n == submitted journal + 1 && nat_le n 99999) && nat_lt (length (live_numbers journal)) 4096 && nat_le (length text) 200000) (is_filed card (read text)) a.0 in
    let c = and_parts ((n == submitted journal + 1 && nat_le n 99999) && nat_lt (length (live_numbers journal)) 4096) (nat_le (length text) 200000) b.0 in
    leb-true (length text) 200000 c.1
allowed_short read journal (entry.Placed n placed moment) fits = tt
allowed_short read journal (entry.Started key kind attempt moment) fits = tt
allowed_short read journal (entry.Receiving r) fits = tt
allowed_short read journal (entry.Mark key offset) fits = tt
allowed_short read journal (entry.Result key o moment) fits = tt
allowed_short read journal (entry.Ended n place rc why bytes moment) fits = tt
allowed_short read journal (entry.Closed n how moment) fits = tt
allowed_short read journal (entry.Forgot name home n) fits = tt
allowed_short read journal (entry.Dropped key rc why moment) fits = tt

within : (bytes : List ℕ) (most : ℕ) → most ≤ 262144 → length bytes ≤ most → length bytes ≤ 262144
within bytes most le short = omega arith

pub entry_short : (e : Entry) → IsEntry e → HasShortText e → length (entry_bytes e) ≤ 262144
entry_short (entry.Home name home) form text = within (entry_bytes (entry.Home name home)) 26 (omega arith)
    (join 1 25 (number_bytes 1 1) _ (num 1 1) (join 17 8 (text_bytes 1 name) (number_bytes 8 home) (name_le name form.0) (num 8 home)))
entry_short (entry.Submitted n moment origin card text) form short = within (entry_bytes (entry.Submitted n moment origin card text)) 200088 (omega arith)
    (join 1 200087 (number_bytes 1 2) _ (num 1 2) (join 4 200083 (number_bytes 4 n) _ (num 4 n) (join 8 200075 (number_bytes 8 moment) _ (num 8 moment)
    (join 32 200043 (optional_bytes key_bytes origin) _ (origin_le origin form.1.1.0) (join 39 200004 (card_bytes card) (text_bytes 4 text) (card_le card form.1.1.1.0) (text_le 4 200000 text short))))))
entry_short (entry.Placed n placed moment) form text = within (entry_bytes (entry.Placed n placed moment)) 26 (omega arith)
    (join 1 25 (number_bytes 1 3) _ (num 1 3) (join 4 21 (number_bytes 4 n) _ (num 4 n) (join 13 8 (placing_bytes placed) (number_bytes 8 moment) (placing_le placed) (num 8 moment))))
entry_short (entry.Started key kind attempt moment) form text = within (entry_bytes (entry.Started key kind attempt moment)) 45 (omega arith)
    (join 1 44 (number_bytes 1 4) _ (num 1 4) (join 31 13 (key_bytes key) _ (key_le key form.0) (join 1 12 (number_bytes 1 (task_kind_code kind)) _ (num 1 (task_kind_code kind)) (join 4 8 (number_bytes 4 attempt) (number_bytes 8 moment) (num 4 attempt) (num 8 moment)))))
entry_short (entry.Receiving r) form text = within (entry_bytes (entry.Receiving r)) 1084 (omega arith)
    (join 1 1083 (number_bytes 1 5) _ (num 1 5) (join 31 1052 (key_bytes r.key) _ (key_le r.key form.0) (join 1026 26 (text_bytes 2 r.name) _ (text_le 2 1024 r.name (file_name_is_short r.name form.1.0))
    (join 1 25 (number_bytes 1 (disp_code r.disp)) _ (num 1 (disp_code r.disp)) (join 1 24 (number_bytes 1 (flag r.there)) _ (num 1 (flag r.there))
    (join 8 16 (number_bytes 8 r.base) _ (num 8 r.base) (join 8 8 (number_bytes 8 r.length) (number_bytes 8 r.interval) (num 8 r.length) (num 8 r.interval))))))))
entry_short (entry.Mark key offset) form text = within (entry_bytes (entry.Mark key offset)) 40 (omega arith)
    (join 1 39 (number_bytes 1 6) _ (num 1 6) (join 31 8 (key_bytes key) (number_bytes 8 offset) (key_le key form.0) (num 8 offset)))
entry_short (entry.Result key o moment) form text = within (entry_bytes (entry.Result key o moment)) 54 (omega arith)
    (join 1 53 (number_bytes 1 7) _ (num 1 7) (join 31 22 (key_bytes key) _ (key_le key form.0) (join 14 8 (outcomes_bytes o) (number_bytes 8 moment) (outcomes_le o) (num 8 moment))))
entry_short (entry.Ended n place rc why bytes moment) form text = within (entry_bytes (entry.Ended n place rc why bytes moment)) 25 (omega arith)
    (join 1 24 (number_bytes 1 8) _ (num 1 8) (join 4 20 (number_bytes 4 n) _ (num 4 n) (join 2 18 (number_bytes 2 place) _ (num 2 place) (join 1 17 (number_bytes 1 rc) _ (num 1 rc) (join 1 16 (number_bytes 1 (cause_code why)) _ (num 1 (cause_code why)) (join 8 8 (number_bytes 8 bytes) (number_bytes 8 moment) (num 8 bytes) (num 8 moment)))))))
entry_short (entry.Closed n how moment) form text = within (entry_bytes (entry.Closed n how moment)) 14 (omega arith)
    (join 1 13 (number_bytes 1 9) _ (num 1 9) (join 4 9 (number_bytes 4 n) _ (num 4 n) (join 1 8 (number_bytes 1 (how_code how)) (number_bytes 8 moment) (num 1 (how_code how)) (num 8 moment))))
entry_short (entry.Forgot name home n) form text = within (entry_bytes (entry.Forgot name home n)) 30 (omega arith)
    (join 1 29 (number_bytes 1 10) _ (num 1 10) (join 17 12 (text_bytes 1 name) _ (name_le name form.0) (join 8 4 (number_bytes 8 home) (number_bytes 4 n) (num 8 home) (num 4 n))))
entry_short (entry.Dropped key rc why moment) form text = within (entry_bytes (entry.Dropped key rc why moment)) 42 (omega arith)
    (join 1 41 (number_bytes 1 11) _ (num 1 11) (join 31 10 (key_bytes key) _ (key_le key form.0) (join 1 9 (number_bytes 1 rc) _ (num 1 rc) (join 1 8 (number_bytes 1 (cause_code why)) (number_bytes 8 moment) (num 1 (cause_code why)) (num 8 moment)))))

within_frame : (bytes : List ℕ) (most : ℕ) → most ≤ 131072 → length bytes ≤ most → length bytes ≤ 131072
within_frame bytes most le short = omega arith

piece_le : (bytes : List ℕ) → is_piece bytes ≡ true → length bytes ≤ 65536
piece_le bytes form = leb-true (length bytes) 65536 (and_parts (leb 1 (length bytes)) (leb (length bytes) 65536) form).1

numbered_le : (k : ℕ) (key : Key) (n : ℕ) → IsNodeName key.pnode → length (number_bytes 1 k ++ (key_bytes key ++ number_bytes 8 n)) ≤ 131072
numbered_le k key n names = within_frame (number_bytes 1 k ++ (key_bytes key ++ number_bytes 8 n)) 40 (omega arith) (join 1 39 (number_bytes 1 k) _ (num 1 k) (join 31 8 (key_bytes key) (number_bytes 8 n) (named_le key names) (num 8 n)))

pub frame_short : (m : Message) → HasNames m → a_frame.IsWritable m → length (body_bytes m) ≤ 131072
frame_short (message.Hello h) names form = within_frame (body_bytes (message.Hello h)) 31 (omega arith)
    (join 1 30 (number_bytes 1 1) _ (num 1 1) (join 17 13 (text_bytes 1 h.name) _ (name_le h.name names) (join 8 5 (number_bytes 8 h.home) _ (num 8 h.home) (join 1 4 (number_bytes 1 h.version) (number_bytes 4 h.block) (num 1 h.version) (num 4 h.block)))))
frame_short (message.Welcome w) names form = within_frame (body_bytes (message.Welcome w)) 30 (omega arith)
    (join 1 29 (number_bytes 1 2) _ (num 1 2) (join 17 12 (text_bytes 1 w.name) _ (name_le w.name names) (join 8 4 (number_bytes 8 w.home) (number_bytes 4 w.block) (num 8 w.home) (num 4 w.block))))
frame_short (message.Reject why) names form = absurd names
frame_short (message.StepCopyTo step name disp interval size) names form = within_frame (body_bytes (message.StepCopyTo step name disp interval size)) 1075 (omega arith)
    (join 1 1074 (number_bytes 1 4) _ (num 1 4) (join 31 1043 (key_bytes step) _ (named_le step names) (join 1026 17 (text_bytes 2 name) _ (text_le 2 1024 name (file_name_is_short name form.1))
    (join 1 16 (number_bytes 1 (disp_code disp)) _ (num 1 (disp_code disp)) (join 8 8 (number_bytes 8 interval) (number_bytes 8 size) (num 8 interval) (num 8 size))))))
frame_short (message.StepCopyFrom step name interval) names form = within_frame (body_bytes (message.StepCopyFrom step name interval)) 1066 (omega arith)
    (join 1 1065 (number_bytes 1 5) _ (num 1 5) (join 31 1034 (key_bytes step) _ (named_le step names) (join 1026 8 (text_bytes 2 name) (number_bytes 8 interval) (text_le 2 1024 name (file_name_is_short name form.1)) (num 8 interval))))
frame_short (message.StepTask step kind command) names form = absurd names
frame_short (message.StepSubmit step name snode prty symbols) names form = absurd names
frame_short (message.Ready step offset) names form = numbered_le 8 step offset names
frame_short (message.Length step size) names form = numbered_le 9 step size names
frame_short (message.Data step offset bytes) names form = within_frame (body_bytes (message.Data step offset bytes)) 65576 (omega arith)
    (join 1 65575 (number_bytes 1 10) _ (num 1 10) (join 39 65536 (key_bytes step ++ number_bytes 8 offset) bytes (join 31 8 (key_bytes step) (number_bytes 8 offset) (named_le step names) (num 8 offset)) (piece_le bytes form.1)))
frame_short (message.Ack step offset) names form = numbered_le 11 step offset names
frame_short (message.End step size) names form = numbered_le 12 step size names
frame_short (message.Result step o) names form = within_frame (body_bytes (message.Result step o)) 46 (omega arith)
    (join 1 45 (number_bytes 1 13) _ (num 1 13) (join 31 14 (key_bytes step) (outcomes_bytes o) (named_le step names) (outcomes_le o)))
frame_short (message.Abort step why) names form = within_frame (body_bytes (message.Abort step why)) 33 (omega arith)
    (join 1 32 (number_bytes 1 14) _ (num 1 14) (join 31 1 (key_bytes step) (number_bytes 1 (cause_code why)) (named_le step names) (num 1 (cause_code why))))
frame_short (message.Forget home number) names form = within_frame (body_bytes (message.Forget home number)) 13 (omega arith)
    (join 1 12 (number_bytes 1 15) _ (num 1 15) (join 8 4 (number_bytes 8 home) (number_bytes 4 number) (num 8 home) (num 4 number)))
frame_short message.Bye names form = within_frame (body_bytes message.Bye) 1 (omega arith) (join 1 0 (number_bytes 1 16) [] (num 1 16) (omega arith))
