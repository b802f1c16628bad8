use Rattle.std.proofs.Common.{◌≡◌, ◌-◌, ◌≤◌, ◌++◌, length}
use Rattle.std.specs.Prelude.{vec_capacity}
use Rattle.cd_memory_state.specs.Generator.{bytes_from}
use Rattle.cd_memory_state.specs.Image.{doubt_in}
use Rattle.cd_memory_state.proofs.image.fill_bytes.Given as goal

abbrev pub invariant-loop-place : goal.invariant-loop-place
invariant-loop-place l = record {
  bytes : l.into.items ++ bytes_from (doubt_in l.doubt) l.generator l.place (l.len - l.place) ≡ bytes_from (doubt_in l.doubt) l.fn.generator 0 l.len;
  long : length l.into.items ≡ l.place;
  room : l.len ≤ vec_capacity l.into;
  more : vec_capacity l.fn.into ≤ vec_capacity l.into;
}
