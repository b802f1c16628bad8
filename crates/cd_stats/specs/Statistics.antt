-- What a report says of a journal, entry by entry. A journal is the list of its entries, the newest first.
use Rattle.std.specs.Prelude.{ℕ, List, [], ◌∷◌, ◌++◌, length, reverse, codes, Bool, true, not, ◌==◌, ◌&&◌, Option, Some, None, if◌then◌else◌}
use Rattle.std.specs.Fmt.{decimal}
use Rattle.std.specs.List.{filter_map, flat_map}
use Rattle.cd_types.specs.declared.choices.Cause.{Cause}
use Rattle.cd_types.specs.declared.key.Key.{Key}
use Rattle.cd_entries.specs.declared.entry.Entry.{Entry}
use Rattle.cd_entries.specs.declared.entry.Entry.TheVariants as entry
use Rattle.cd_rules.specs.Processes.{is_own}
use Rattle.cd_rules.specs.Steps.{Reading, what_at}
use Rattle.cd_stats.specs.Digits.{three, four, five}
use Rattle.cd_stats.specs.Words.{cause_word, how_word, kind_word}

-- how a step ended, for which moment
abbrev pub ending : ℕ → ℕ → Cause → ℕ → List ℕ
ending rc bytes why moment = three rc ++ codes " " ++ decimal bytes ++ codes " " ++ cause_word why ++ codes " " ++ decimal moment ++ 10 ∷ []

abbrev pub submitted_line : ℕ → List ℕ → ℕ → List ℕ
submitted_line n name moment = five n ++ codes " SUBM " ++ name ++ codes " " ++ decimal moment ++ 10 ∷ []

abbrev pub step_line : ℕ → ℕ → List ℕ → List ℕ → List ℕ
step_line n place kind end = five n ++ codes " STEP " ++ four place ++ codes " " ++ kind ++ codes " " ++ end

abbrev pub closed_line : ℕ → List ℕ → ℕ → List ℕ
closed_line n word moment = five n ++ codes " DONE " ++ word ++ codes " " ++ decimal moment ++ 10 ∷ []

abbrev pub part_line : Key → List ℕ → List ℕ
part_line key end = five key.number ++ codes " PART " ++ four key.place ++ codes " " ++ key.pnode ++ codes " " ++ end

-- only another node's steps have a line at their outcome
abbrev pub of_other : Bool → ℕ × List ℕ → Option (ℕ × List ℕ)
of_other own line = if own then None else Some line

-- the line of an entry with the number of its Process, where it has one
unfoldable pub line_of : Reading → List Entry → Entry → Option (ℕ × List ℕ)
line_of read journal (entry.Submitted n moment origin card text) = Some (n, submitted_line n card.name moment)
line_of read journal (entry.Ended n place rc why bytes moment) = Some (n, step_line n place (kind_word (what_at read journal n place)) (ending rc bytes why moment))
line_of read journal (entry.Closed n how moment) = Some (n, closed_line n (how_word how) moment)
line_of read journal (entry.Result key o moment) = of_other (is_own journal key) (key.number, part_line key (ending o.rc o.bytes o.cause moment))
line_of read journal (entry.Dropped key rc why moment) = of_other (is_own journal key) (key.number, part_line key (ending rc 0 why moment))
line_of read journal _ = None

-- the line is of this Process, where one is asked for
abbrev pub is_asked : Option ℕ → ℕ → Bool
is_asked None n = true
is_asked (Some only) n = n == only

abbrev pub asked_line : Option ℕ → Option (ℕ × List ℕ) → Option (List ℕ)
asked_line only None = None
asked_line only (Some line) = if is_asked only line.0 then Some line.1 else None

-- the bytes of a line, and how many lines that is
abbrev pub text_in : Option (List ℕ) → List ℕ
text_in None = []
text_in (Some line) = line

abbrev pub count_in : Option (List ℕ) → ℕ
count_in None = 0
count_in (Some line) = 1

-- the lines of entries
abbrev pub lines_of : Reading → List Entry → Option ℕ → List Entry → List (List ℕ)
lines_of read journal only entries = filter_map (λ e. asked_line only (line_of read journal e)) entries

-- the lines of a journal from its first entry on, and how many they are
abbrev pub count_line : ℕ → List ℕ
count_line n = codes "COUNT " ++ decimal n ++ 10 ∷ []

abbrev pub statistics : Reading → List Entry → Option ℕ → List ℕ
statistics read journal only =
    let lines = lines_of read journal only (reverse journal) in
    flat_map (λ line. line) lines ++ count_line (length lines)
