-- The law of a reader: what it gave is the front of the stream's frames, and it waits where they were all given.
use Rattle.std.proofs.Common.{◌≡◌, ℕ, zero, suc, ◌+◌, List, [], ◌∷◌, ◌++◌, length, take, drop, refl, sym, ap, subst, ◌∙◌, arith, append_assoc, length-append}
use Rattle.std.proofs.lemmas.Grind.{flat_map-append}
use Rattle.std.proofs.lemmas.List.{append-nil}
use Rattle.std.proofs.lemmas.List.Elements.{All-append, All-cons, All-nil}
use Rattle.cd_types.specs.CompoundLaw.{IsBytes-after}
use Rattle.cd_types.specs.Format.{IsBytes}
use Rattle.cd_frames.specs.Frame.{frame_bytes, IsFrame}
use Rattle.cd_frames.proofs.FramesLaw.{frames_are, frames_begin, none_is_longest, GivesNone}
use Rattle.cd_frames.specs.Message.{Message}
use Rattle.cd_frames.specs.Reading.{Reading, front, gone_past, after_step}
use Rattle.cd_frames.specs.Run.{given_by, Run, made, lent, filled, stepped, Stands}
use Rattle.cd_frames.specs.Stream.{Front, gives, refuses, waits, front_of, joined, fault_of, frames_of, told}
use Rattle.cd_frames.proofs.StreamLaw.{front_is, front_told, told_told}

-- the front of what a reader holds is that of the stream behind what was given
front_stands : (stream : List ℕ) (given : List Message) (r : Reading) → Stands stream given r → front r ≡ front_of (length (joined given)) r.rest
front_stands stream given r stands = ap (λ (p : ℕ). front_of p r.rest) stands.place ∙ front_told (length (joined given)) r.rest

rest_fits : (stream : List ℕ) (given : List Message) (r : Reading) → Stands stream given r → IsBytes r.rest
rest_fits stream given r stands = IsBytes-after (joined given) r.rest (subst IsBytes stands.whole stands.bytes)

-- joined frames with one more
joined_one : (given : List Message) (m : Message) → joined (given ++ m ∷ []) ≡ joined given ++ frame_bytes m
joined_one given m = flat_map-append frame_bytes given (m ∷ []) ∙ ap (λ (bytes : List ℕ). joined given ++ bytes) (append-nil (frame_bytes m))

stands_stepped : (stream : List ℕ) (given : List Message) (r : Reading) → Stands stream given r → Stands stream (given ++ given_by (front r)) (after_step r)
stands_stepped stream given r stands = by_front (front r) refl
  where
    same : (next : Reading) → next.place ≡ r.place → next.rest ≡ r.rest → Stands stream (given ++ []) next
    same next place rest = subst (λ (ms : List Message). Stands stream ms next) (sym (append-nil given)) (record {
      bytes = stands.bytes;
      whole = stands.whole ∙ ap (λ (ys : List ℕ). joined given ++ ys) (sym rest);
      each = stands.each;
      place = place ∙ stands.place;
    })

    by_front : (f : Front) → front r ≡ f → Stands stream (given ++ given_by f) (gone_past r f)
    by_front (gives m size) is =
        let found = front_is r.place r.rest m size (rest_fits stream given r stands) is in
        let bytes = joined_one given m in
        let long : length (joined given) + size ≡ length (joined (given ++ m ∷ [])) = omega (arith, found.1, ap length bytes, length-append (joined given) (frame_bytes m)) in
        record {
          bytes = stands.bytes;
          whole = stands.whole ∙ ap (λ (ys : List ℕ). joined given ++ ys) found.0 ∙ sym (append_assoc (joined given) (frame_bytes m) (drop size r.rest)) ∙ ap (λ (ys : List ℕ). ys ++ drop size r.rest) (sym bytes);
          each = All-append IsFrame given (m ∷ []) stands.each (All-cons IsFrame m [] found.2 (All-nil IsFrame));
          place = ap (λ (p : ℕ). told (p + size)) stands.place ∙ told_told (length (joined given)) size ∙ ap told long;
        }
    by_front (refuses why) is = same (gone_past r (refuses why)) refl refl
    by_front waits is = same (gone_past r waits) refl refl

both_fit : (xs ys : List ℕ) → IsBytes xs → IsBytes ys → IsBytes (xs ++ ys)
both_fit [] ys xs_fit ys_fit i = ys_fit i
both_fit (x ∷ xs) ys xs_fit ys_fit zero = xs_fit zero
both_fit (x ∷ xs) ys xs_fit ys_fit (suc i) = both_fit xs ys (λ k. xs_fit (suc k)) ys_fit i

-- each reader stands so after any calls
pub run_stands : {stream : List ℕ} {given : List Message} {r : Reading} → Run stream given r → Stands stream given r
unfolding told
run_stands (made r place rest) = record { bytes = λ i. omega arith; whole = sym rest; each = All-nil IsFrame; place = place }
run_stands (lent {stream} {given} {r} free run) = let stands = run_stands run in record { bytes = stands.bytes; whole = stands.whole; each = stands.each; place = stands.place }
run_stands (filled {stream} {given} {r} n fit run) =
    let stands = run_stands run in
    record {
      bytes = both_fit stream (take n r.free) stands.bytes fit;
      whole = ap (λ (ys : List ℕ). ys ++ take n r.free) stands.whole ∙ append_assoc (joined given) r.rest (take n r.free);
      each = stands.each;
      place = stands.place;
    }
run_stands (stepped {stream} {given} {r} run) = stands_stepped stream given r (run_stands run)

-- what was given begins the frames of the stream
pub given_begins : (stream : List ℕ) (given : List Message) (r : Reading) → Stands stream given r → (more : List Message) × ((frames_of stream).0 ≡ given ++ more)
given_begins stream given r stands =
    let begin = frames_begin given r.rest stands.each in
    (begin.0, ap (λ (bytes : List ℕ). (frames_of bytes).0) stands.whole ∙ begin.1)

-- where no frame stands at the front, all were given, and the fault there is the next
pub all_given : (stream : List ℕ) (given : List Message) (r : Reading) → Stands stream given r → GivesNone (front r) → frames_of stream ≡ (given, fault_of (front r))
all_given stream given r stands none =
    let same = front_stands stream given r stands in
    frames_are stream given (fault_of (front r)) stands.bytes (record {
      rest = r.rest;
      front = stands.whole;
      each = stands.each;
      longest = none_is_longest (length (joined given)) r.rest (subst GivesNone same none);
      next = ap fault_of same;
    })
