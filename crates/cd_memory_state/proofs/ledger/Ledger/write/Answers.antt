use Rattle.std.proofs.Common.{◌≡◌, ℕ, length, sym, ◌∙◌, ap, arith}
use Rattle.cd_outside.specs.Files.{FilesState}
use Rattle.cd_outside.specs.Shelf.{FileMap, content_of}
use Rattle.cd_memory_state.specs.Cabinet.{file_in}
use Rattle.cd_memory_state.proofs.ledger.Ledger.write.Goals as goal

pub write-requires-clause-bytes : goal.write-requires-clause-bytes
write-requires-clause-bytes c =
    let name = c.args.name.now in
    let same : length (content_of (file_in c.room.new.self.cabinet name)) ≡ c.size.result =
    ap (λ (f : FileMap). length (content_of (f name))) c.room.new.self.seen
    ∙ ap (λ (s : FilesState). length (content_of (s.shelf.seen name))) c.room.ensures.state
    ∙ sym c.size.ensures.size in
    omega (arith, same, c.size.ensures.range, c.in_ok-room.ensures.bytes, c.in_ok-room.ensures.range, c.saturating_add.ensures, c.saturating_sub-longer.ensures, c.max.ensures, c.saturating_add-2.ensures)
