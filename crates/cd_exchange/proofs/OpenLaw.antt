-- An open node over several calls.
use Rattle.std.proofs.Common.{◌≡◌, ◌≢◌, ◌∙◌, ℕ, Option, Some, None, refl, sym, arith}
use Rattle.cd_outside.specs.Disk.{DiskState}
use Rattle.cd_outside.specs.Files.{FilesState}
use Rattle.cd_outside.specs.Lines.{LineCounts, NeverFell}
use Rattle.cd_rules.specs.Steps.{Reading}
use Rattle.cd_effects.specs.Registry.{RegistryState}
use Rattle.cd_effects.specs.declared.fault.Fault.{Fault}
use Rattle.cd_effects.specs.declared.fault.Fault.TheVariants as fault
use Rattle.cd_exchange.specs.Open.{IsOpen, StaysOpen, Counted, counted, Advanced, HasCause}
use Rattle.cd_exchange.proofs.Coming.{later_rose}
use Rattle.cd_exchange.proofs.Way.{fell_then, fell_none}

pub not_disk : (f g : Fault) → f ≡ g → g ≢ fault.Disk → Some f ≢ Some fault.Disk
not_disk f g is other = λ h. let same : f ≡ fault.Disk = cc in other (sym is ∙ same)

module _ {disk_told files_told : Type 0} {read : Reading} {now : ℕ} where
  -- want of memory, where nothing was done
  pub stays_still : {held : RegistryState} {disk : DiskState} {files : FilesState} {sid last beat : ℕ} → IsOpen disk_told files_told read now held disk files sid last beat
      → StaysOpen disk_told files_told read now (Some fault.NoMemory) held disk files beat
  stays_still is = record {
    journal = record {
      legal = is.journal.legal;
      on_time = is.journal.on_time;
      header = is.journal.header;
      sound = λ other. is.journal.sound;
      registry = λ told other. is.journal.registry told;
      order = is.journal.order;
      full = λ len h. let k : ⊥ = cc in absurd k;
    };
    files_order = is.files_order;
  }

  -- what a call leaves of an open node is one, but after a fault of the disk
  pub open_again : {why : Option Fault} {held after : RegistryState} {disk disk_after : DiskState} {files files_after : FilesState} {sid last last_after beat beat_after : ℕ}
      → IsOpen disk_told files_told read now held disk files sid last beat
      → StaysOpen disk_told files_told read now why after disk_after files_after beat_after → why ≢ Some fault.Disk → last_after ≡ last
      → IsOpen disk_told files_told read now after disk_after files_after sid last_after beat_after
  open_again is stays other same = record {
    journal = record {
      legal = stays.journal.legal;
      on_time = stays.journal.on_time;
      header = stays.journal.header;
      sound = stays.journal.sound other;
      registry = λ told. stays.journal.registry told other;
      order = stays.journal.order;
    };
    files_order = stays.files_order;
    from = is.from;
    to = let to = is.to in omega (arith, same, to);
  }

  -- the lines' newest session is the same
  pub open_still : {held : RegistryState} {disk : DiskState} {files : FilesState} {sid last last_after beat : ℕ}
      → IsOpen disk_told files_told read now held disk files sid last beat → last_after ≡ last → IsOpen disk_told files_told read now held disk files sid last_after beat
  open_still is same = record {
    journal = is.journal;
    files_order = is.files_order;
    from = is.from;
    to = let to = is.to in omega (arith, same, to);
  }

pub advanced_none : (counts : Counted) → Advanced counts counts
advanced_none counts = record {
  beat = omega arith;
  last = refl;
  disk_later = omega arith;
  files_later = omega arith;
  lines_later = fell_none counts.lines;
  nones = refl;
}

pub advanced_then : {first middle last : Counted} → Advanced first middle → Advanced middle last → Advanced first last
advanced_then {first = first} {middle = middle} {last = last} one two = record {
  beat = omega (arith, one.beat, two.beat);
  last = two.last ∙ one.last;
  disk_later = omega (arith, one.disk_later, two.disk_later);
  files_later = omega (arith, one.files_later, two.files_later);
  lines_later = fell_then first.lines middle.lines last.lines one.lines_later two.lines_later;
  nones = two.nones ∙ one.nones;
}

-- no device failed
pub no_cause : {sid : ℕ} {before after : Counted} → HasCause None sid before after
no_cause = record { disk = λ h. let k : ⊥ = cc in absurd k; files = λ h. let k : ⊥ = cc in absurd k; line = λ h. let k : ⊥ = cc in absurd k }

pub no_cause_memory : {sid : ℕ} {before after : Counted} → HasCause (Some fault.NoMemory) sid before after
no_cause_memory = record { disk = λ h. let k : ⊥ = cc in absurd k; files = λ h. let k : ⊥ = cc in absurd k; line = λ h. let k : ⊥ = cc in absurd k }

-- a cause since then is one since earlier
pub cause_since : {why : Option Fault} {sid : ℕ} {first middle last : Counted} → Advanced first middle → HasCause why sid middle last → HasCause why sid first last
cause_since {sid = sid} {first = first} {middle = middle} {last = last} one two = record {
  disk = λ is. later_rose first.disk middle.disk last.disk one.disk_later (two.disk is);
  files = λ is. later_rose first.files middle.files last.files one.files_later (two.files is);
  line = λ is. later_rose (first.lines.faults sid) (middle.lines.faults sid) (last.lines.faults sid) (one.lines_later.faults sid) (two.line is);
}

-- only the lines were called
pub lines_advanced : (disk files : ℕ) (before after : LineCounts) (last last_after beat : ℕ) → last_after ≡ last → NeverFell before after → after.nones ≡ before.nones
    → Advanced (counted disk files before last beat) (counted disk files after last_after beat)
lines_advanced disk files before after last last_after beat same later nones = record {
  beat = omega arith;
  last = same;
  disk_later = omega arith;
  files_later = omega arith;
  lines_later = later;
  nones = nones;
}
