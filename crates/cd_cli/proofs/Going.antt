-- How a home goes on.
use Rattle.std.proofs.Common.{◌≡◌, ◌⊎◌, inl, inr, ⊎_elim, ℕ, ◌+◌, ◌≤◌, ◌<◌, List, [], ◌∷◌, ◌++◌, length, refl, sym, ap, subst, ◌∙◌, arith, append_assoc}
use Rattle.std.proofs.lemmas.List.{append-nil}
use Rattle.cd_outside.specs.Disk.{DiskState, last_of}
use Rattle.cd_entries.specs.declared.entry.Entry.{Entry}
use Rattle.cd_turn.specs.Home.{HomeState, IsHome}
use Rattle.cd_turn.specs.Legal.{Extends}
use Rattle.cd_cli.specs.Run.{EndedBy, GoneOn, TookLine}
use Rattle.cd_outside.specs.Streams.{TookFront}
use Rattle.cd_turn.specs.declared.status.Status.{Status}
use Rattle.cd_turn.specs.declared.status.Status.TheVariants.{Done, Usage, Refused, Unfit, DiskFault, JournalFull, SourceFault, SinkFault, InputLimit, NoMemory}
use Rattle.cd_outside.specs.Counts.{Rose}

pub extends_then : (a b c : List Entry) → Extends a b → Extends b c → Extends a c
extends_then a b c one two = (one.0 ++ two.0, two.1 ∙ ap (λ (l : List Entry). l ++ two.0) one.1 ∙ append_assoc a one.0 two.0)

-- nothing was done
pub gone_none : (home : HomeState) (disk : DiskState) (beat : ℕ) → IsHome home disk → last_of disk.calls ≤ beat → GoneOn home.entries disk beat home disk beat
gone_none home disk beat is order = record {
  is = is;
  fresh = λ none. none;
  extends = ([], sym (append-nil home.entries));
  order = order;
  forward = omega arith;
}

-- gone on, and then again
pub gone_then : (entries : List Entry) (before middle now : DiskState) (from beat last : ℕ) (home later : HomeState) → GoneOn entries before from home middle beat → GoneOn home.entries middle beat later now last → GoneOn entries before from later now last
gone_then entries before middle now from beat last home later one two = record {
  is = two.is;
  fresh = λ none. one.fresh (two.fresh none);
  extends = extends_then entries home.entries later.entries one.extends two.extends;
  order = two.order;
  forward = let a = one.forward in let b = two.forward in omega arith;
}

-- a count that rose later rose
pub rose_since : (first middle last : ℕ) → first ≤ middle → Rose middle last → Rose first last
rose_since first middle last order rose = omega arith

-- why a later part of a run ended is why the run ended
pub ended_weaker : (disk disk_more : Type 0) (unfit unfit_more : ℕ → Type 0) (source source_more sink sink_more : Type 0) → (disk → disk_more) → ((at : ℕ) → unfit at → unfit_more at) → (source → source_more) → (sink → sink_more)
    → (status : Status) → EndedBy disk unfit source sink status → EndedBy disk_more unfit_more source_more sink_more status
ended_weaker disk disk_more unfit unfit_more source source_more sink sink_more d u s o Done why = tt
ended_weaker disk disk_more unfit unfit_more source source_more sink sink_more d u s o Usage why = absurd why
ended_weaker disk disk_more unfit unfit_more source source_more sink sink_more d u s o Refused why = tt
ended_weaker disk disk_more unfit unfit_more source source_more sink sink_more d u s o (Unfit at) why = u at why
ended_weaker disk disk_more unfit unfit_more source source_more sink sink_more d u s o DiskFault why = d why
ended_weaker disk disk_more unfit unfit_more source source_more sink sink_more d u s o (JournalFull len) why = tt
ended_weaker disk disk_more unfit unfit_more source source_more sink sink_more d u s o SourceFault why = s why
ended_weaker disk disk_more unfit unfit_more source source_more sink sink_more d u s o SinkFault why = o why
ended_weaker disk disk_more unfit unfit_more source source_more sink sink_more d u s o InputLimit why = tt
ended_weaker disk disk_more unfit unfit_more source source_more sink sink_more d u s o NoMemory why = tt

pub rose_before : (first middle last : ℕ) → middle ≤ last → Rose first middle → Rose first last
rose_before first middle last order rose = omega arith

-- a count that rose as the last line was written rose in the call
pub took_since : (first middle last : ℕ) (before line now : List ℕ) → first ≤ middle → TookLine (Rose middle last) before line now → TookLine (Rose first last) before line now
took_since first middle last before line now order took = ⊎_elim (λ (whole : now ≡ before ++ line). inl whole) (λ (front : Rose middle last × TookFront before line now). inr (rose_since first middle last order front.0, front.1)) took
