-- When a submission may follow.
use Rattle.std.proofs.Common.{◌≡◌, ℕ, ◌+◌, ◌≤◌, ◌<◌, length, List, [], ◌∷◌, ◌++◌, Option, Some, None, sym, ap, ◌∙◌, arith}
use Rattle.std.proofs.lemmas.List.{length-append}
use Rattle.cd_types.specs.Number.{number_bytes}
use Rattle.cd_types.specs.NumberLaw.{number_has_length}
use Rattle.cd_types.specs.declared.key.Key.{Key}
use Rattle.cd_types.specs.declared.card.Filed.{Filed}
use Rattle.cd_entries.specs.declared.entry.Entry.{Entry}
use Rattle.cd_entries.specs.declared.entry.Entry.TheVariants as entry
use Rattle.cd_entries.specs.Entry.{entry_bytes}
use Rattle.cd_turn.specs.Entries.{submitted_in, live_in, latest_in}
use Rattle.cd_turn.specs.Legal.{IsNext, IsLegal, IsSubmission}
use Rattle.cd_turn.proofs.Legality.{live-legal}

-- a full queue takes none
pub full_refuses : (entries : List Entry) (submitted number moment : ℕ) (origin : Option Key) (card : Filed) (text : List ℕ) → IsLegal entries → submitted ≡ submitted_in entries → 4096 ≤ submitted
    → IsSubmission entries number moment origin card text → ⊥
full_refuses entries submitted number moment origin card text legal counts full is =
    let live = live-legal entries legal in
    let room : live_in entries < 4096 = is.room in
    omega arith

-- the numbers don't come to their end
pub next_fewer : (entries : List Entry) (e : Entry) → IsNext entries e → submitted_in entries < 99999
next_fewer entries (entry.Home name home) next = let none : submitted_in entries ≡ submitted_in [] = ap submitted_in next in omega arith
next_fewer entries (entry.Submitted number moment origin card text) next = let a : number ≡ submitted_in entries + 1 = next.next in let b : number ≤ 99999 = next.last in omega arith
next_fewer entries (entry.Placed number placing moment) next = absurd next
next_fewer entries (entry.Started key kind attempt moment) next = absurd next
next_fewer entries (entry.Receiving receiving) next = absurd next
next_fewer entries (entry.Mark key offset) next = absurd next
next_fewer entries (entry.Result key outcomes moment) next = absurd next
next_fewer entries (entry.Ended number place rc cause bytes moment) next = absurd next
next_fewer entries (entry.Closed number how moment) next = absurd next
next_fewer entries (entry.Forgot name home number) next = absurd next
next_fewer entries (entry.Dropped key rc cause moment) next = absurd next

code_some : (k : ℕ) (rest : List ℕ) → 1 ≤ length (number_bytes 1 k ++ rest)
code_some k rest = omega (arith, length-append (number_bytes 1 k) rest, number_has_length 1 k)

-- an entry has bytes
pub entry_some : (e : Entry) → 1 ≤ length (entry_bytes e)
entry_some (entry.Home name home) = code_some 1 _
entry_some (entry.Submitted number moment origin card text) = code_some 2 _
entry_some (entry.Placed number placing moment) = code_some 3 _
entry_some (entry.Started key kind attempt moment) = code_some 4 _
entry_some (entry.Receiving receiving) = code_some 5 _
entry_some (entry.Mark key offset) = code_some 6 _
entry_some (entry.Result key outcomes moment) = code_some 7 _
entry_some (entry.Ended number place rc cause bytes moment) = code_some 8 _
entry_some (entry.Closed number how moment) = code_some 9 _
entry_some (entry.Forgot name home number) = code_some 10 _
entry_some (entry.Dropped key rc cause moment) = code_some 11 _
