-- The bytes of an entry: a byte for its kind, and the fields of that kind in their order.
use Rattle.std.specs.Prelude.{◌≡◌, ℕ, Bool, List, [], ◌∷◌, ◌++◌, length, ◌==◌, IsTrue, Option, Some, None, IsSome, Result, Ok, Err, if◌then◌else◌}
use Rattle.cd_types.specs.Choices.{is_kept}
use Rattle.cd_types.specs.Compound.{IsOptional}
use Rattle.cd_types.specs.FileName.{is_file_name, is_text}
use Rattle.cd_types.specs.Format.{◌>>=◌}
use Rattle.cd_types.specs.Key.{IsPlace}
use Rattle.cd_types.specs.Layout.{Layout, ◌⋆◌, optional, number, node_name, proc_no, moment, key, card, file, text, yes_or_no, kept_cause, disp, task_kind, how}
use Rattle.cd_types.specs.Moment.{IsMoment}
use Rattle.cd_types.specs.Number.{number_bytes, number_in}
use Rattle.cd_types.specs.Rows.{placing, outcomes}
use Rattle.cd_types.specs.declared.card.Filed.{Filed}
use Rattle.cd_types.specs.declared.choices.Cause.{Cause}
use Rattle.cd_types.specs.declared.choices.Disp.{Disp}
use Rattle.cd_types.specs.declared.choices.How.{How}
use Rattle.cd_types.specs.declared.choices.TaskKind.{TaskKind}
use Rattle.cd_types.specs.declared.key.Key.{Key}
use Rattle.cd_types.specs.declared.rows.Outcomes.{Outcomes}
use Rattle.cd_types.specs.declared.rows.Placing.{Placing}
use Rattle.cd_types.specs.declared.rows.Receiving.{Receiving}
use Rattle.cd_entries.specs.declared.entry.Entry.{Entry}
use Rattle.cd_entries.specs.declared.entry.Entry.TheVariants as entry
use Rattle.cd_entries.specs.declared.entry.EntryFault.{EntryFault}
use Rattle.cd_entries.specs.declared.entry.EntryFault.TheVariants as fault

-- the fields of each kind
abbrev pub home_fields : Layout (List ℕ × ℕ)
home_fields = node_name ⋆ number 8

abbrev pub submitted_fields : Layout (ℕ × (ℕ × (Option Key × (Filed × List ℕ))))
submitted_fields = proc_no ⋆ moment ⋆ optional key ⋆ card ⋆ text

abbrev pub placed_fields : Layout (ℕ × (Placing × ℕ))
placed_fields = proc_no ⋆ placing ⋆ moment

abbrev pub started_fields : Layout (Key × (TaskKind × (ℕ × ℕ)))
started_fields = key ⋆ task_kind ⋆ number 4 ⋆ moment

abbrev pub receiving_fields : Layout (Key × (List ℕ × (Disp × (Bool × (ℕ × (ℕ × ℕ))))))
receiving_fields = key ⋆ file ⋆ disp ⋆ yes_or_no ⋆ number 8 ⋆ number 8 ⋆ number 8

abbrev pub mark_fields : Layout (Key × ℕ)
mark_fields = key ⋆ number 8

abbrev pub result_fields : Layout (Key × (Outcomes × ℕ))
result_fields = key ⋆ outcomes ⋆ moment

abbrev pub ended_fields : Layout (ℕ × (ℕ × (ℕ × (Cause × (ℕ × ℕ)))))
ended_fields = proc_no ⋆ number 2 ⋆ number 1 ⋆ kept_cause ⋆ number 8 ⋆ moment

abbrev pub closed_fields : Layout (ℕ × (How × ℕ))
closed_fields = proc_no ⋆ how ⋆ moment

abbrev pub forgot_fields : Layout (List ℕ × (ℕ × ℕ))
forgot_fields = node_name ⋆ number 8 ⋆ proc_no

abbrev pub dropped_fields : Layout (Key × (ℕ × (Cause × ℕ)))
dropped_fields = key ⋆ number 1 ⋆ kept_cause ⋆ moment

-- the fields of a Receiving
abbrev pub receiving_bytes : Receiving → List ℕ
receiving_bytes r = receiving_fields.spelled (r.key, (r.name, (r.disp, (r.there, (r.base, (r.length, r.interval))))))

-- an entry that has bytes: each field is in its range
abbrev pub IsEntry : Entry → Type 0
IsEntry (entry.Home name home) = home_fields.Form (name, home)
IsEntry (entry.Submitted number moment origin card text) = submitted_fields.Form (number, (moment, (origin, (card, text))))
IsEntry (entry.Placed number placing moment) = placed_fields.Form (number, (placing, moment))
IsEntry (entry.Started key kind attempt moment) = started_fields.Form (key, (kind, (attempt, moment)))
IsEntry (entry.Receiving r) = receiving_fields.Form (r.key, (r.name, (r.disp, (r.there, (r.base, (r.length, r.interval))))))
IsEntry (entry.Mark key offset) = mark_fields.Form (key, offset)
IsEntry (entry.Result key outcomes moment) = result_fields.Form (key, (outcomes, moment))
IsEntry (entry.Ended number place rc cause bytes moment) = ended_fields.Form (number, (place, (rc, (cause, (bytes, moment)))))
IsEntry (entry.Closed number how moment) = closed_fields.Form (number, (how, moment))
IsEntry (entry.Forgot name home number) = forgot_fields.Form (name, (home, number))
IsEntry (entry.Dropped key rc cause moment) = dropped_fields.Form (key, (rc, (cause, moment)))

-- what a caller has to know of an entry to write it: its fields whose type holds more than their range
abbrev pub IsWritable : Entry → Type 0
IsWritable (entry.Home _ _) = Unit {0}
IsWritable (entry.Submitted _ _ origin _ text) = IsOptional (λ step. IsPlace step.place) origin × IsTrue (is_text text)
IsWritable (entry.Placed _ placed _) = IsMoment placed.due
IsWritable (entry.Started step _ _ _) = IsPlace step.place
IsWritable (entry.Receiving r) = IsPlace r.key.place × IsTrue (is_file_name r.name)
IsWritable (entry.Mark step _) = IsPlace step.place
IsWritable (entry.Result step ended _) = IsPlace step.place × IsTrue (is_kept ended.cause)
IsWritable (entry.Ended _ _ _ cause _ _) = IsTrue (is_kept cause)
IsWritable (entry.Closed _ _ _) = Unit {0}
IsWritable (entry.Forgot _ _ _) = Unit {0}
IsWritable (entry.Dropped step _ cause _) = IsPlace step.place × IsTrue (is_kept cause)

-- its kind's byte, and its fields
abbrev pub entry_bytes : Entry → List ℕ
entry_bytes (entry.Home name home) = number_bytes 1 1 ++ home_fields.spelled (name, home)
entry_bytes (entry.Submitted number moment origin card text) = number_bytes 1 2 ++ submitted_fields.spelled (number, (moment, (origin, (card, text))))
entry_bytes (entry.Placed number placing moment) = number_bytes 1 3 ++ placed_fields.spelled (number, (placing, moment))
entry_bytes (entry.Started key kind attempt moment) = number_bytes 1 4 ++ started_fields.spelled (key, (kind, (attempt, moment)))
entry_bytes (entry.Receiving r) = number_bytes 1 5 ++ receiving_bytes r
entry_bytes (entry.Mark key offset) = number_bytes 1 6 ++ mark_fields.spelled (key, offset)
entry_bytes (entry.Result key outcomes moment) = number_bytes 1 7 ++ result_fields.spelled (key, (outcomes, moment))
entry_bytes (entry.Ended number place rc cause bytes moment) = number_bytes 1 8 ++ ended_fields.spelled (number, (place, (rc, (cause, (bytes, moment)))))
entry_bytes (entry.Closed number how moment) = number_bytes 1 9 ++ closed_fields.spelled (number, (how, moment))
entry_bytes (entry.Forgot name home number) = number_bytes 1 10 ++ forgot_fields.spelled (name, (home, number))
entry_bytes (entry.Dropped key rc cause moment) = number_bytes 1 11 ++ dropped_fields.spelled (key, (rc, (cause, moment)))

-- the entry of these fields, where they are all of the bytes
abbrev pub whole : {A : Type 0} → (A → Entry) → Layout A → List ℕ → Option Entry
whole make fields bytes = do
  found ← fields.found_in bytes
  if length found.1 == 0 then Some (make found.0) else None

unfoldable pub home_of : List ℕ → Option Entry
home_of = whole (λ f. entry.Home f.0 f.1) home_fields

unfoldable pub submitted_of : List ℕ → Option Entry
submitted_of = whole (λ f. entry.Submitted f.0 f.1.0 f.1.1.0 f.1.1.1.0 f.1.1.1.1) submitted_fields

unfoldable pub placed_of : List ℕ → Option Entry
placed_of = whole (λ f. entry.Placed f.0 f.1.0 f.1.1) placed_fields

unfoldable pub started_of : List ℕ → Option Entry
started_of = whole (λ f. entry.Started f.0 f.1.0 f.1.1.0 f.1.1.1) started_fields

unfoldable pub receiving_of : List ℕ → Option Entry
receiving_of =
    whole (λ f. entry.Receiving (record { key = f.0; name = f.1.0; disp = f.1.1.0; there = f.1.1.1.0; base = f.1.1.1.1.0; length = f.1.1.1.1.1.0; interval = f.1.1.1.1.1.1 })) receiving_fields

unfoldable pub mark_of : List ℕ → Option Entry
mark_of = whole (λ f. entry.Mark f.0 f.1) mark_fields

unfoldable pub result_of : List ℕ → Option Entry
result_of = whole (λ f. entry.Result f.0 f.1.0 f.1.1) result_fields

unfoldable pub ended_of : List ℕ → Option Entry
ended_of = whole (λ f. entry.Ended f.0 f.1.0 f.1.1.0 f.1.1.1.0 f.1.1.1.1.0 f.1.1.1.1.1) ended_fields

unfoldable pub closed_of : List ℕ → Option Entry
closed_of = whole (λ f. entry.Closed f.0 f.1.0 f.1.1) closed_fields

unfoldable pub forgot_of : List ℕ → Option Entry
forgot_of = whole (λ f. entry.Forgot f.0 f.1.0 f.1.1) forgot_fields

unfoldable pub dropped_of : List ℕ → Option Entry
dropped_of = whole (λ f. entry.Dropped f.0 f.1.0 f.1.1.0 f.1.1.1) dropped_fields

-- each kind's byte, and how the bytes behind it are read
abbrev pub kinds : List (ℕ × (List ℕ → Option Entry))
kinds =
    (1, home_of) ∷ (2, submitted_of) ∷ (3, placed_of) ∷ (4, started_of) ∷ (5, receiving_of) ∷ (6, mark_of) ∷ (7, result_of) ∷ (8, ended_of) ∷ (9, closed_of) ∷ (10, forgot_of) ∷ (11, dropped_of) ∷ []

abbrev pub of_kind : List (ℕ × (List ℕ → Option Entry)) → ℕ → List ℕ → Option Entry
of_kind [] code bytes = None
of_kind (kind ∷ more) code bytes = if code == kind.0 then kind.1 bytes else of_kind more code bytes

-- the entry that all of the bytes are
unfoldable pub entry_of : List ℕ → Option Entry
entry_of bytes = do
  code ← number_in 1 bytes
  of_kind kinds code.0 code.1

-- the entry that was found; Unfit exactly where there is none; want of memory only where there is one
abbrev pub Answers : Result Entry EntryFault → Option Entry → Type 0
Answers (Ok e) found = found ≡ Some e
Answers (Err fault.Unfit) found = found ≡ None
Answers (Err fault.NoMemory) found = IsSome found
