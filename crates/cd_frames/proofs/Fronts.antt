-- What an answer tells of the front, and what the frame at the front is once it was passed.
use Rattle.std.proofs.Common.{◌≡◌, ℕ, ◌+◌, ◌-◌, ◌≤◌, List, [], length, take, drop, Option, Some, None, refl, sym, ap, ◌∙◌, arith, length-take}
use Rattle.std.specs.Prelude.{Ok, Err, IfSome, option_map}
use Rattle.std.proofs.lemmas.List.{take-take, drop-take}
use Rattle.cd_types.specs.Number.{number_in}
use Rattle.cd_frames.specs.Buffer.{between, given_in}
use Rattle.cd_frames.specs.Message.{Message, message_of}
use Rattle.cd_frames.specs.Reading.{sized_answer_to}
use Rattle.cd_frames.specs.Stream.{Front, gives, refuses, waits, front_of}
use Rattle.cd_types.specs.Format.{IsBytes}
use Rattle.cd_frames.specs.Frame.{body_bytes, message_in, IsFrame, IsMessage, IsWritable}
use Rattle.cd_frames.proofs.FrameLaw.{message_only, message_writable}
use Rattle.cd_frames.specs.declared.frame.Frame.{Frame}
use Rattle.cd_frames.proofs.StreamLaw.{gives_only, number_after, number_front, number_there}
use Rattle.cd_frames.specs.declared.frame.FrameFault.{FrameFault}

pub gave : (f : Front) (m : Message) (n : ℕ) → Ok (Some (m, n)) ≡ sized_answer_to f → f ≡ gives m n
gave (gives m' n') m n e =
    let both : ◌≡◌ {A = Message × ℕ} (m', n') (m, n) = cc in
    λ i. gives (both i).0 (both i).1
gave (refuses why) m n e = absurd cc
gave waits m n e = absurd cc

pub waited : (f : Front) → Ok None ≡ sized_answer_to f → f ≡ waits
waited (gives m n) e = absurd cc
waited (refuses why) e = absurd cc
waited waits e = refl

pub refused : (f : Front) (why : FrameFault) → Err why ≡ sized_answer_to f → f ≡ refuses why
refused (gives m n) why e = absurd cc
refused (refuses why') why e =
    let same : why' ≡ why = cc in
    ap refuses same
refused waits why e = absurd cc

-- no bytes are no frame
pub none_between : (place : ℕ) (bytes : List ℕ) → given_in (between place place bytes) ≡ None
unfolding given_in number_in
none_between place bytes =
    let size : place - place ≡ 0 = omega arith in
    rw size refl

pub none_given : given_in [] ≡ None
unfolding given_in number_in
none_given = refl

-- the frame at the front is found again in its bytes
front_again : (place : ℕ) (bytes : List ℕ) (m : Message) (size : ℕ) → front_of place bytes ≡ gives m size → given_in (take size bytes) ≡ Some m
unfolding given_in
front_again place bytes m size e =
    let front = gives_only place bytes m size e in
    let long = number_front 4 bytes front.len front.rest front.number in
    let there = number_there 4 (take size bytes) (omega (arith, length-take size bytes, front.size_is, front.whole)) in
    let body : drop 4 (take size bytes) ≡ take front.len front.rest =
    ap (λ n. drop 4 (take n bytes)) front.size_is ∙ drop-take 4 front.len bytes ∙ ap (take front.len) (number_after 4 bytes front.len front.rest front.number) in
    rw there (ap message_in body ∙ front.«is»)

-- the same between two places of a buffer
pub given_again : (place start end : ℕ) (xs : List ℕ) (m : Message) (size : ℕ) → size ≤ length (between start end xs)
    → front_of place (between start end xs) ≡ gives m size → given_in (between start (start + size) xs) ≡ Some m
given_again place start end xs m size within e =
    let long : start + size - start ≡ size = omega arith in
    let inside : size ≤ end - start = omega (arith, length-take (end - start) (drop start xs)) in
    ap given_in (ap (λ n. take n (drop start xs)) long ∙ sym (take-take size (end - start) (drop start xs) inside)) ∙ front_again place (between start end xs) m size e

-- what is read is a message, and its bytes are those
pub read_form : (bytes : List ℕ) (found : Option Frame) → IsBytes bytes → option_map message_of found ≡ message_in bytes → IfSome found (λ frame. IsMessage (message_of frame))
read_form bytes None fit e = tt
read_form bytes (Some frame) fit e = (message_only bytes (message_of frame) fit (sym e)).1

pub read_whole : (bytes : List ℕ) (found : Option Frame) → IsBytes bytes → option_map message_of found ≡ message_in bytes → IfSome found (λ frame. bytes ≡ body_bytes (message_of frame))
read_whole bytes None fit e = tt
read_whole bytes (Some frame) fit e = (message_only bytes (message_of frame) fit (sym e)).0

-- a message of few bytes is a frame
pub short_frame : (bytes : List ℕ) (found : Option Frame) → length bytes ≤ 131072 → IfSome found (λ frame. IsMessage (message_of frame)) → IfSome found (λ frame. bytes ≡ body_bytes (message_of frame))
    → IfSome found (λ frame. IsFrame (message_of frame))
short_frame bytes None short form whole = tt
short_frame bytes (Some frame) short form whole = record { fields = form; short = omega (arith, ap length whole) }

pub form_writable : (found : Option Frame) → IfSome found (λ frame. IsMessage (message_of frame)) → IfSome found (λ frame. IsWritable (message_of frame))
form_writable None form = tt
form_writable (Some frame) form = message_writable (message_of frame) form
