-- A node at its beginning.
use Rattle.std.proofs.Common.{◌≡◌, ◌≤◌, ℕ, List, [], true, None, refl, ap, sym, subst, ◌∙◌, arith}
use Rattle.cd_outside.specs.Disk.{DiskState, last_of}
use Rattle.cd_outside.specs.Files.{FilesState, files_last_of, files_at_first}
use Rattle.cd_outside.specs.Lines.{Traffic}
use Rattle.cd_rules.specs.Legal.{is_legal}
use Rattle.cd_rules.specs.Processes.{latest}
use Rattle.cd_effects.specs.Registry.{RegistryState, IsRegistry}
use Rattle.cd_session_rules.specs.declared.config.Config.{Config}
use Rattle.cd_canonical.specs.Read.{canonical_reading}
use Rattle.cd_plain.specs.NodeState.{NodeState, IsReady}

legal_first : is_legal canonical_reading [] ≡ true
unfolding is_legal
legal_first = refl

late_first : (now : ℕ) → latest [] ≤ now
unfolding latest
late_first now = omega arith

-- a node without entries and sessions, over new devices
pub at_first : (registry : RegistryState) (config : Config) (disk : DiskState) (files : FilesState) (traffic : Traffic) (beat last now : ℕ)
    → registry.entries ≡ [] → registry.journal.has_header ≡ true → registry.journal.sound ≡ true → IsRegistry registry disk → last_of disk.calls ≤ beat
    → files ≡ files_at_first (λ name. None) → config.block ≡ 8192
    → IsReady (Unit {0}) (Unit {0}) (Unit {0}) canonical_reading (record { registry = registry; config = config; sessions = []; readings = []; holdings = [] }) disk files traffic beat last now
at_first registry config disk files traffic beat last now none header sound is order first block = record {
  home = record {
    legal = ap (is_legal canonical_reading) none ∙ legal_first;
    on_time = rw none (late_first now);
    header = header;
    sound = sound;
    registry = λ told. is;
    order = λ told. order;
  };
  files_order = λ told. rw first (omega arith);
  sessions = record { sids = omega arith; reads = λ told. tt };
  block = rw block refl;
}
