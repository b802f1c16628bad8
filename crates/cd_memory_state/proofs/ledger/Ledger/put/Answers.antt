use Rattle.std.proofs.Common.{◌≡◌, List, ℕ, Some, None, refl, sym, ◌∙◌, ap}
use Rattle.std.specs.Prelude.{Option, if◌then◌else◌}
use Rattle.std.proofs.lemmas.Slice.Eq.{bytes_eq-Decides}
use Rattle.cd_outside.specs.Content.{overwritten}
use Rattle.cd_outside.specs.Files.{FilesState}
use Rattle.cd_outside.specs.Shelf.{FileMap, content_of, put}
use Rattle.cd_memory_state.specs.Cabinet.{file_in}
use Rattle.cd_memory_state.proofs.Cabinets.{put_new}
use Rattle.cd_memory_state.proofs.ledger.Ledger.put.Goals as goal

pub invariant_of-self : goal.invariant_of-self
invariant_of-self c =
    let name = c.args.name.now in
    let bytes = c.args.bytes.now in
    record {
      seen =
          c.write.ensures.file
          ∙ ap (λ (f : FileMap). put name (Some (overwritten 0 bytes (content_of (f name)))) f) c.remove.ensures.file
          ∙ put_new (file_in c.room.new.self.cabinet) name bytes
          ∙ ap (put name (Some bytes)) c.room.new.self.seen
          ∙ sym (ap (λ (s : FilesState). s.shelf.seen) c.add.ensures.state);
    }
