-- What is in doubt of a file but for its bytes.
use Rattle.std.specs.Prelude.{◌≡◌}
use Rattle.cd_outside.specs.Shelf.{FileDoubt}
use Rattle.cd_memory_state.specs.declared.marks.Marks.{Marks}

pub record AreMarks (marks : Marks) (doubt : FileDoubt) : Type 0 where
  pub there : marks.there ≡ doubt.there
  pub moved : marks.moved ≡ doubt.moved
  pub least : marks.least ≡ doubt.bytes.least
  pub greatest : marks.greatest ≡ doubt.bytes.greatest
