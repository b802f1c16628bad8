-- What a drill was shown stands where the files tell the same.
use Rattle.std.proofs.Common.{◌≡◌, ℕ, List, Option, sym, ◌∙◌}
use Rattle.cd_submission.specs.declared.file.Shown.{Shown}
use Rattle.cd_submission.specs.declared.file.Shown.TheVariants as shows
use Rattle.cd_drill_command.specs.Asked.{IsDrilled}

pub drilled_since : (files later : Type 0) (held found : Option (List ℕ)) → (later → files) → (later → held ≡ found) → (shown : Shown) → IsDrilled files held shown → IsDrilled later found shown
drilled_since files later held found tells same shows.Missing h = λ told. sym (same told) ∙ h (tells told)
drilled_since files later held found tells same shows.Failed h = tt
drilled_since files later held found tells same (shows.Long len) h = h
drilled_since files later held found tells same (shows.Text text) h = h
drilled_since files later held found tells same (shows.Report report) h = record { script = h.script; held_is = λ told. sym (same told) ∙ h.held_is (tells told); course = h.course; run = h.run; world = h.world }
drilled_since files later held found tells same (shows.NoScript at) h = record { text = h.text; held_is = λ told. sym (same told) ∙ h.held_is (tells told); first = h.first }
