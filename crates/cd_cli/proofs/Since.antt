-- What the devices tell a turn, they tell it later too.
use Rattle.std.proofs.Common.{◌≡◌, ℕ, ◌≤◌, List, Option, Some, None, refl, ap, subst, sym, ◌∙◌}
use Rattle.cd_outside.specs.Counts.{Rose}
use Rattle.cd_outside.specs.Shelf.{FileMap}
use Rattle.cd_submission.specs.Shown.{IsShown}
use Rattle.cd_submission.specs.declared.file.Shown.{Shown}
use Rattle.cd_drill_command.specs.Asked.{script_of, ShownBy, Shows}
use Rattle.cd_drill_command.proofs.Since.{drilled_since}
use Rattle.cd_commands.specs.declared.heard.Heard.{Heard}
use Rattle.cd_turn.specs.Order.{asked_of, file_of, heard_in}
use Rattle.cd_turn.specs.Turn.{Turn}
use Rattle.cd_cli.specs.Told.{GoesBy}
use Rattle.cd_cli.proofs.Going.{rose_since, rose_before}

shown_since : (files later : Type 0) (held found : FileMap) → (later → files) → (later → held ≡ found) → (script file : Option (List ℕ)) (shown : Shown) → ShownBy files held script file shown → ShownBy later found script file shown
shown_since files later held found tells same None file shown h = λ told. subst (λ (map : FileMap). IsShown (asked_of map file) shown) (same told) (h (tells told))
shown_since files later held found tells same (Some name) file shown h = drilled_since files later (held name) (found name) tells (λ told. ap (λ (map : FileMap). map name) (same told)) shown h

shows_since : (files later : Type 0) (held found : FileMap) → (later → files) → (later → held ≡ found) → (said : Heard) (shown : Shown) → Shows files held said shown → Shows later found said shown
shows_since files later held found tells same said shown h = shown_since files later held found tells same (script_of said) (file_of said) shown h

-- clock and files tell the same, and a count that rose rose
pub goes_since : (clock files : Type 0) (moment first : ℕ) (held found : FileMap) (rose risen : Type 0) → (clock → moment ≡ first) → (files → held ≡ found) → (rose → risen)
    → (turn : Turn) → GoesBy clock files moment held rose turn → GoesBy clock files first found risen turn
goes_since clock files moment first held found rose risen at same later turn goes = record {
  moment_is = λ told. goes.moment_is told ∙ at told;
  shown_is = shows_since files files held found (λ told. told) same (heard_in turn.event) turn.shown goes.shown_is;
  failed = λ is. later (goes.failed is);
}

-- clock and files tell, and didn't fail
pub goes_whole : (clock files : Type 0) (moment : ℕ) (held : FileMap) (rose : Type 0) → clock → files → (rose → ⊥) → (turn : Turn) → GoesBy clock files moment held rose turn → GoesBy (Unit {0}) (Unit {0}) moment held ⊥ turn
goes_whole clock files moment held rose tells_clock tells_files no_fault turn goes = record {
  moment_is = λ told. goes.moment_is tells_clock;
  shown_is = shows_since files (Unit {0}) held held (λ told. tells_files) (λ told. refl) (heard_in turn.event) turn.shown goes.shown_is;
  failed = λ is. no_fault (goes.failed is);
}
