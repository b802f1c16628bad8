-- The layouts of rows that several formats have in common.
use Rattle.std.specs.Prelude.{ℕ, List, Option, refl}
use Rattle.cd_types.specs.Format.{IsFormat}
use Rattle.cd_types.specs.Layout.{Layout, ◌⋆◌, seen_as, number, moment, queue, reason, kept_cause}
use Rattle.cd_types.specs.declared.choices.Cause.{Cause}
use Rattle.cd_types.specs.declared.choices.Queue.{Queue}
use Rattle.cd_types.specs.declared.choices.Reason.{Reason}
use Rattle.cd_types.specs.declared.rows.Outcomes.{Outcomes}
use Rattle.cd_types.specs.declared.rows.Placing.{Placing}

abbrev pub placing_of : Queue × (Reason × (ℕ × (ℕ × ℕ))) → Placing
placing_of f = record { queue = f.0; reason = f.1.0; due = f.1.1.0; attempts = f.1.1.1.0; prty = f.1.1.1.1 }

abbrev pub placing_parts : Placing → Queue × (Reason × (ℕ × (ℕ × ℕ)))
placing_parts p = (p.queue, (p.reason, (p.due, (p.attempts, p.prty))))

-- a queue, a reason, the moment at which it is due, attempts and priority
abbrev pub placing_row : Layout Placing
placing_row = seen_as placing_of placing_parts (λ _. refl) (λ _. refl) (queue ⋆ reason ⋆ moment ⋆ number 2 ⋆ number 1)

unfoldable pub placing_bytes : Placing → List ℕ
placing_bytes = placing_row.spelled

unfoldable pub placing_in : List ℕ → Option (Placing × List ℕ)
placing_in = placing_row.found_in

pub placing_law : IsFormat placing_row.Form placing_bytes placing_in
unfolding placing_bytes placing_in
placing_law = placing_row.law

abbrev pub placing : Layout Placing
placing = record { Form = placing_row.Form; spelled = placing_bytes; found_in = placing_in; law = placing_law }

abbrev pub outcomes_of : ℕ × (Cause × (ℕ × ℕ)) → Outcomes
outcomes_of f = record { rc = f.0; cause = f.1.0; bytes = f.1.1.0; made = f.1.1.1 }

abbrev pub outcomes_parts : Outcomes → ℕ × (Cause × (ℕ × ℕ))
outcomes_parts o = (o.rc, (o.cause, (o.bytes, o.made)))

-- a code, a cause, a length, and the number of a Process
abbrev pub outcomes_row : Layout Outcomes
outcomes_row = seen_as outcomes_of outcomes_parts (λ _. refl) (λ _. refl) (number 1 ⋆ kept_cause ⋆ number 8 ⋆ number 4)

unfoldable pub outcomes_bytes : Outcomes → List ℕ
outcomes_bytes = outcomes_row.spelled

unfoldable pub outcomes_in : List ℕ → Option (Outcomes × List ℕ)
outcomes_in = outcomes_row.found_in

pub outcomes_law : IsFormat outcomes_row.Form outcomes_bytes outcomes_in
unfolding outcomes_bytes outcomes_in
outcomes_law = outcomes_row.law

abbrev pub outcomes : Layout Outcomes
outcomes = record { Form = outcomes_row.Form; spelled = outcomes_bytes; found_in = outcomes_in; law = outcomes_law }
