-- Sessions at their places, and their readers.
use Rattle.std.proofs.Common.{◌≡◌, ℕ, zero, suc, ◌<◌, ◌≤◌, List, [], ◌∷◌, ◌++◌, length, false, Some, eqb, get_or, refl, sym, ap, subst, arith}
use Rattle.std.specs.Prelude.{slice_get, slice_set, not}
use Rattle.std.proofs.lemmas.Bool.{and_parts, eqb-true, ne_eqb}
use Rattle.std.proofs.lemmas.List.Quantifiers.{position-Some}
use Rattle.std.proofs.lemmas.Option.{slice_get-get_or}
use Rattle.cd_outside.specs.Lines.{Traffic}
use Rattle.cd_frames.specs.Reading.{Reading}
use Rattle.cd_frames.specs.Run.{made}
use Rattle.cd_exchange.specs.declared.session.Session.{Session}
use Rattle.cd_protocol.specs.declared.session.Phase.{Phase}
use Rattle.cd_exchange.specs.Arriving.{TookOfOne}
use Rattle.cd_plain.specs.NodeState.{is_gone, AreRising, IsNewest, WasRead, AreRead, IsUnread}
use Rattle.cd_plain.specs.Turned.{in_phase, is_open_as, place_of}

pub record Found (sessions : List Session) (at number : ℕ) : Type 0 where
  pub session : Session
  pub is : slice_get sessions at ≡ Some session
  pub number_is : session.sid.number ≡ number
  pub within : at < length sessions

pub found : (sessions : List Session) (at number : ℕ) → place_of number sessions ≡ Some at → Found sessions at number
found [] at number is = absurd cc
found (s ∷ sessions) at number is =
    let all = position-Some (is_open_as number) (s ∷ sessions) at s is in
    let one : Session = get_or (s ∷ sessions) at s in
    record {
      session = one;
      is = slice_get-get_or (s ∷ sessions) at s all.0;
      number_is = eqb-true one.sid.number number (and_parts (eqb one.sid.number number) (not (is_gone one.phase)) all.1).0;
      within = all.0;
    }

pub get_set : (sessions : List Session) (at : ℕ) (s t : Session) → slice_get sessions at ≡ Some s → slice_get (slice_set sessions at t) at ≡ Some t
get_set (u ∷ sessions) zero s t is = refl
get_set (u ∷ sessions) (suc at) s t is = get_set sessions at s t is
get_set [] at s t is = absurd cc

-- Numbers that rise.

rising_end : (above last : ℕ) (sessions : List Session) → AreRising above last sessions → above ≤ last
rising_end above last [] rising = rising
rising_end above last (s ∷ sessions) rising = let more = rising_end s.sid.number last sessions rising.1 in omega (arith, rising.0, more)

pub rising_at : (above last : ℕ) (sessions : List Session) (at : ℕ) (s : Session) → AreRising above last sessions → slice_get sessions at ≡ Some s → (above < s.sid.number) × (s.sid.number ≤ last)
rising_at above last (t ∷ sessions) zero s rising is =
    let same : t ≡ s = cc in
    subst (λ (u : Session). (above < u.sid.number) × (u.sid.number ≤ last)) same (rising.0, rising_end t.sid.number last sessions rising.1)
rising_at above last (t ∷ sessions) (suc at) s rising is =
    let more = rising_at t.sid.number last sessions at s rising.1 is in
    (omega (arith, rising.0, more.0), more.1)
rising_at above last [] at s rising is = absurd cc

pub rising_set : (above last : ℕ) (sessions : List Session) (at : ℕ) (s : Session) (phase : Phase) → AreRising above last sessions → slice_get sessions at ≡ Some s → AreRising above last (slice_set sessions at (in_phase phase s))
rising_set above last (t ∷ sessions) zero s phase rising is =
    let same : t ≡ s = cc in
    subst (λ (u : Session). (above < u.sid.number) × AreRising u.sid.number last sessions) same rising
rising_set above last (t ∷ sessions) (suc at) s phase rising is = (rising.0, rising_set t.sid.number last sessions at s phase rising.1 is)
rising_set above last [] at s phase rising is = absurd cc

pub newest_of : (above last number : ℕ) (sessions : List Session) → AreRising above last sessions → last < number → IsNewest number sessions
newest_of above last number [] rising newer = tt
newest_of above last number (s ∷ sessions) rising newer =
    let end = rising_end s.sid.number last sessions rising.1 in
    (omega (arith, end, newer), newest_of s.sid.number last number sessions rising.1 newer)

-- a newer session behind them
pub rising_more : (above last now : ℕ) (sessions : List Session) (s : Session) → AreRising above last sessions → IsNewest s.sid.number sessions → above < s.sid.number → s.sid.number ≤ now → AreRising above now (sessions ++ s ∷ [])
rising_more above last now [] s rising newest newer within = (newer, within)
rising_more above last now (t ∷ sessions) s rising newest newer within = (rising.0, rising_more t.sid.number last now sessions s rising.1 newest.1 newest.0 within)

-- the same sessions later
pub rising_later : (above last now : ℕ) (sessions : List Session) → AreRising above last sessions → last ≤ now → AreRising above now sessions
rising_later above last now [] rising le = omega (arith, rising, le)
rising_later above last now (s ∷ sessions) rising le = (rising.0, rising_later s.sid.number last now sessions rising.1 le)

-- Readers.

read_stream : (reader : Reading) (stream other : List ℕ) → other ≡ stream → WasRead stream reader → WasRead other reader
read_stream reader stream other same was = subst (λ (bytes : List ℕ). WasRead bytes reader) (sym same) was

pub read_at : (traffic : Traffic) (sessions : List Session) (readings : List Reading) (at : ℕ) (s : Session) (reader : Reading) → slice_get sessions at ≡ Some s → slice_get readings at ≡ Some reader → AreRead traffic sessions readings → WasRead (traffic.taken s.sid.number) reader
read_at traffic [] readings at s reader is reads are = absurd cc
read_at traffic (t ∷ sessions) [] at s reader is reads are = absurd are
read_at traffic (t ∷ sessions) (r ∷ readings) zero s reader is reads are =
    let same : t ≡ s = cc in
    let same_reader : r ≡ reader = cc in
    subst (λ (u : Session). WasRead (traffic.taken u.sid.number) reader) same (subst (λ (q : Reading). WasRead (traffic.taken t.sid.number) q) same_reader are.0)
read_at traffic (t ∷ sessions) (r ∷ readings) (suc at) s reader is reads are = read_at traffic sessions readings at s reader is reads are.1

-- sessions above one of which bytes were taken
read_above : (number above last : ℕ) (before now : Traffic) (sessions : List Session) (readings : List Reading) → number ≤ above → TookOfOne number before now → AreRising above last sessions → AreRead before sessions readings → AreRead now sessions readings
read_above number above last before now [] [] low took rising reads = tt
read_above number above last before now [] (r ∷ readings) low took rising reads = absurd reads
read_above number above last before now (s ∷ sessions) [] low took rising reads = absurd reads
read_above number above last before now (s ∷ sessions) (r ∷ readings) low took rising reads =
    let apart : eqb number s.sid.number ≡ false = ne_eqb number s.sid.number (λ same. absurd (omega (arith, low, rising.0, same))) in (
      read_stream r (before.taken s.sid.number) (now.taken s.sid.number) (took s.sid.number apart) reads.0,
      read_above number s.sid.number last before now sessions readings (omega (arith, low, rising.0)) took rising.1 reads.1,
    )

-- the session at a place was read, and bytes were taken of it alone
pub read_set : (above last : ℕ) (before now : Traffic) (sessions : List Session) (readings : List Reading) (at : ℕ) (s : Session) (phase : Phase) (reader : Reading)
    → AreRising above last sessions → slice_get sessions at ≡ Some s → TookOfOne s.sid.number before now → WasRead (now.taken s.sid.number) reader → AreRead before sessions readings
    → AreRead now (slice_set sessions at (in_phase phase s)) (slice_set readings at reader)
read_set above last before now [] readings at s phase reader rising is took was reads = absurd cc
read_set above last before now (t ∷ sessions) [] at s phase reader rising is took was reads = absurd reads
read_set above last before now (t ∷ sessions) (r ∷ readings) zero s phase reader rising is took was reads =
    let same : t ≡ s = cc in
    (was, read_above s.sid.number s.sid.number last before now sessions readings (omega arith) took (subst (λ (u : Session). AreRising u.sid.number last sessions) same rising.1) reads.1)
read_set above last before now (t ∷ sessions) (r ∷ readings) (suc at) s phase reader rising is took was reads =
    let higher = rising_at t.sid.number last sessions at s rising.1 is in
    let apart : eqb s.sid.number t.sid.number ≡ false = ne_eqb s.sid.number t.sid.number (λ same. absurd (omega (arith, higher.0, same))) in (
      read_stream r (before.taken t.sid.number) (now.taken t.sid.number) (took t.sid.number apart) reads.0,
      read_set t.sid.number last before now sessions readings at s phase reader rising.1 is took was reads.1,
    )

-- its phase alone was changed
pub read_phase : (traffic : Traffic) (sessions : List Session) (readings : List Reading) (at : ℕ) (s : Session) (phase : Phase) → slice_get sessions at ≡ Some s → AreRead traffic sessions readings → AreRead traffic (slice_set sessions at (in_phase phase s)) readings
read_phase traffic [] readings at s phase is reads = absurd cc
read_phase traffic (t ∷ sessions) [] at s phase is reads = absurd reads
read_phase traffic (t ∷ sessions) (r ∷ readings) zero s phase is reads =
    let same : t ≡ s = cc in
    (subst (λ (u : Session). WasRead (traffic.taken u.sid.number) r) same reads.0, reads.1)
read_phase traffic (t ∷ sessions) (r ∷ readings) (suc at) s phase is reads = (reads.0, read_phase traffic sessions readings at s phase is reads.1)

-- no byte was taken of any
pub read_same : (before now : Traffic) (sessions : List Session) (readings : List Reading) → now.taken ≡ before.taken → AreRead before sessions readings → AreRead now sessions readings
read_same before now [] [] same reads = tt
read_same before now [] (r ∷ readings) same reads = absurd reads
read_same before now (s ∷ sessions) [] same reads = absurd reads
read_same before now (s ∷ sessions) (r ∷ readings) same reads =
    (read_stream r (before.taken s.sid.number) (now.taken s.sid.number) (ap (λ (taken : ℕ → List ℕ). taken s.sid.number) same) reads.0, read_same before now sessions readings same reads.1)

-- one more is there, of which nothing was read
pub read_more : (traffic : Traffic) (sessions : List Session) (readings : List Reading) (s : Session) (reader : Reading) → WasRead (traffic.taken s.sid.number) reader → AreRead traffic sessions readings → AreRead traffic (sessions ++ s ∷ []) (readings ++ reader ∷ [])
read_more traffic [] [] s reader was reads = (was, tt)
read_more traffic [] (r ∷ readings) s reader was reads = absurd reads
read_more traffic (t ∷ sessions) [] s reader was reads = absurd reads
read_more traffic (t ∷ sessions) (r ∷ readings) s reader was reads = (reads.0, read_more traffic sessions readings s reader was reads.1)

pub unread_was : (reader : Reading) (stream : List ℕ) → IsUnread reader → stream ≡ [] → WasRead stream reader
unread_was reader stream unread none = read_stream reader [] stream none (record { given = []; run = made reader unread.place unread.rest })
