-- What a session is given, frame by frame.
use Rattle.std.proofs.Common.{◌≡◌, ℕ, suc, ◌+◌, ◌-◌, ◌<◌, ◌≤◌, List, [], ◌∷◌, ◌++◌, length, take, drop, map, get_or, refl, sym, ap, subst, ◌∙◌, arith}
use Rattle.std.proofs.Math.Numerals.{add-one}
use Rattle.std.proofs.Math.Seq.{drop-cons, take-suc}
use Rattle.std.proofs.lemmas.List.{append-nil, take-append-drop, map-append}
use Rattle.cd_outside.specs.Counts.{Rose}
use Rattle.cd_outside.specs.Lines.{Traffic, LineCounts, NeverFell, sent, GaveFront}
use Rattle.cd_frames.specs.Frame.{frame_bytes, IsWritable}
use Rattle.cd_frames.specs.Message.{Message}
use Rattle.cd_protocol.specs.Seen.{seen_frame}
use Rattle.cd_protocol.specs.declared.effect.Outgoing.{Outgoing}
use Rattle.cd_effects.specs.Stands.{gave, GaveSome, AreSendable, IsFaultOfSending, IsFaultOfGiving}
use Rattle.cd_effects.specs.declared.fault.Fault.{Fault}

-- nothing was given
pub gave_none : (sid : ℕ) (bytes : List ℕ) (traffic : Traffic) → GaveFront sid bytes traffic traffic
gave_none sid bytes traffic =
    let none : length (traffic.given sid) - length (traffic.given sid) ≡ 0 = omega arith in
    record {
      front = sym (append-nil (traffic.given sid)) ∙ ap (λ (n : ℕ). traffic.given sid ++ take n bytes) (sym none);
      others = λ other isnt. refl;
      taken = refl;
      sends = refl;
    }

-- frames, and then one more
pub gave_more : (sid : ℕ) (frames : List Message) (m : Message) (traffic : Traffic) → gave sid (frames ++ m ∷ []) traffic ≡ sent sid (frame_bytes m) (gave sid frames traffic)
gave_more sid [] m traffic = refl
gave_more sid (first ∷ frames) m traffic = gave_more sid frames m (sent sid (frame_bytes first) traffic)

-- the frame behind these can be sent
pub sendable_at : (frames more : List Message) (m : Message) → AreSendable (frames ++ m ∷ more) → IsWritable m
sendable_at [] more m are = are.0
sendable_at (first ∷ frames) more m are = sendable_at frames more m are.1

-- a list, split at one of its items
pub split_at : {A : Type 0} (xs : List A) (i : ℕ) (x : A) → i < length xs → x ≡ get_or xs i x → xs ≡ take i xs ++ x ∷ drop (i + 1) xs
split_at {A} xs i x lt is =
    sym (take-append-drop i xs) ∙ ap (λ (back : List A). take i xs ++ back) (drop-cons xs i x lt ∙ ap (λ (y : A). y ∷ drop (suc i) xs) (sym is) ∙ ap (λ (n : ℕ). x ∷ drop n xs) (sym (add-one i)))

pub taken_more : {A : Type 0} (xs : List A) (i : ℕ) (x : A) → i < length xs → x ≡ get_or xs i x → take (i + 1) xs ≡ take i xs ++ x ∷ []
taken_more {A} xs i x lt is = ap (λ (n : ℕ). take n xs) (add-one i) ∙ take-suc xs i x lt ∙ ap (λ (y : A). take i xs ++ y ∷ []) (sym is)

pub frames_split : (frames : List Outgoing) (i : ℕ) (f : Outgoing) → i < length frames → f ≡ get_or frames i f → map seen_frame frames ≡ map seen_frame (take i frames) ++ seen_frame f ∷ map seen_frame (drop (i + 1) frames)
frames_split frames i f lt is = ap (map seen_frame) (split_at frames i f lt is) ∙ map-append seen_frame (take i frames) (f ∷ drop (i + 1) frames)

pub frames_more : (frames : List Outgoing) (i : ℕ) (f : Outgoing) → i < length frames → f ≡ get_or frames i f → map seen_frame (take (i + 1) frames) ≡ map seen_frame (take i frames) ++ seen_frame f ∷ []
frames_more frames i f lt is = ap (map seen_frame) (taken_more frames i f lt is) ∙ map-append seen_frame (take i frames) (f ∷ [])

-- the frame at hand can be sent
pub sendable_here : (frames : List Outgoing) (i : ℕ) (f : Outgoing) → i < length frames → f ≡ get_or frames i f → AreSendable (map seen_frame frames) → IsWritable (seen_frame f)
sendable_here frames i f lt is are = sendable_at (map seen_frame (take i frames)) (map seen_frame (drop (i + 1) frames)) (seen_frame f) (subst AreSendable (frames_split frames i f lt is) are)

-- a fault in sending one of these frames is one of sending them
giving_at : (frames more : List Message) (m : Message) (why : Fault) → IsFaultOfSending why → IsFaultOfGiving (frames ++ m ∷ more) why
giving_at [] more m why is = is
giving_at (first ∷ frames) more m why is = is

pub giving_here : (frames : List Outgoing) (i : ℕ) (f : Outgoing) (why : Fault) → i < length frames → f ≡ get_or frames i f → IsFaultOfSending why → IsFaultOfGiving (map seen_frame frames) why
giving_here frames i f why lt is sending =
    subst (λ (ms : List Message). IsFaultOfGiving ms why) (sym (frames_split frames i f lt is)) (giving_at (map seen_frame (take i frames)) (map seen_frame (drop (i + 1) frames)) (seen_frame f) why sending)

-- it was cut off
pub gave_some : (sid : ℕ) (frames : List Outgoing) (i : ℕ) (f : Outgoing) (first middle last : Traffic) → i < length frames → f ≡ get_or frames i f → middle ≡ gave sid (map seen_frame (take i frames)) first → GaveFront sid (frame_bytes (seen_frame f)) middle last
    → GaveSome sid (map seen_frame frames) first last
gave_some sid frames i f first middle last lt is given front = record {
  given = map seen_frame (take i frames);
  torn = seen_frame f;
  more = map seen_frame (drop (i + 1) frames);
  reactions = frames_split frames i f lt is;
  front = subst (λ (t : Traffic). GaveFront sid (frame_bytes (seen_frame f)) t last) given front;
}

-- it was sent
pub gave_next : (sid : ℕ) (frames : List Outgoing) (i : ℕ) (f : Outgoing) (first middle last : Traffic) → i < length frames → f ≡ get_or frames i f → middle ≡ gave sid (map seen_frame (take i frames)) first → last ≡ sent sid (frame_bytes (seen_frame f)) middle
    → last ≡ gave sid (map seen_frame (take (i + 1) frames)) first
gave_next sid frames i f first middle last lt is given now =
    now ∙ ap (sent sid (frame_bytes (seen_frame f))) given ∙ sym (gave_more sid (map seen_frame (take i frames)) (seen_frame f) first) ∙ ap (λ (ms : List Message). gave sid ms first) (sym (frames_more frames i f lt is))

-- counts over two runs
pub fell_then : (first middle last : LineCounts) → NeverFell first middle → NeverFell middle last → NeverFell first last
fell_then first middle last one two = record {
  faults = λ session. omega (arith, one.faults session, two.faults session);
  connects = omega (arith, one.connects, two.connects);
  accepts = omega (arith, one.accepts, two.accepts);
  ends = λ session. omega (arith, one.ends session, two.ends session);
  nones = omega (arith, one.nones, two.nones);
}

pub fell_none : (counts : LineCounts) → NeverFell counts counts
fell_none counts = record {
  faults = λ session. omega arith;
  connects = omega arith;
  accepts = omega arith;
  ends = λ session. omega arith;
  nones = omega arith;
}

pub rose_later : (first middle last : ℕ) → first ≤ middle → Rose middle last → Rose first last
rose_later first middle last le rose = omega arith
