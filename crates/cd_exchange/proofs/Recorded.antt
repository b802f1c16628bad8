-- What an entry that may be recorded makes of a legal journal.
use Rattle.std.proofs.Common.{◌≡◌, ℕ, ◌≤◌, true, ◌&&◌, List, ◌∷◌, Option, Some, None, arith}
use Rattle.std.proofs.lemmas.Bool.{and_parts, and_from, leb-true}
use Rattle.cd_entries.specs.declared.entry.Entry.{Entry}
use Rattle.cd_rules.specs.Processes.{latest, later_of, moment_of}
use Rattle.cd_rules.specs.Legal.{is_legal, allowed}
use Rattle.cd_rules.specs.Steps.{Reading}
use Rattle.cd_protocol.specs.Rows.{is_by, is_formed, may_record}

pub recorded_legal : (read : Reading) (now : ℕ) (entries : List Entry) (e : Entry) → is_legal read entries ≡ true → may_record read now entries e ≡ true → is_legal read (e ∷ entries) ≡ true
unfolding is_legal
recorded_legal read now entries e legal may =
    let outer = and_parts (allowed read entries e && is_by now (moment_of e)) (is_formed e) may in
    let both = and_parts (allowed read entries e) (is_by now (moment_of e)) outer.0 in
    and_from (is_legal read entries) (allowed read entries e) legal both.0

later_by : (now : ℕ) (moment : Option ℕ) (before : ℕ) → before ≤ now → is_by now moment ≡ true → later_of moment before ≤ now
later_by now None before early by = early
later_by now (Some m) before early by = let le : m ≤ now = leb-true m now by in omega (arith, le, early)

pub recorded_on_time : (read : Reading) (now : ℕ) (entries : List Entry) (e : Entry) → latest entries ≤ now → may_record read now entries e ≡ true → latest (e ∷ entries) ≤ now
unfolding latest
recorded_on_time read now entries e early may =
    let outer = and_parts (allowed read entries e && is_by now (moment_of e)) (is_formed e) may in
    let both = and_parts (allowed read entries e) (is_by now (moment_of e)) outer.0 in
    later_by now (moment_of e) (latest entries) early both.1
