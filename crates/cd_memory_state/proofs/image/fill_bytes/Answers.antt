use Rattle.std.proofs.Common.{◌∙◌, arith, ap, length}
use Rattle.std.proofs.lemmas.List.{length_push}
use Rattle.cd_memory_state.specs.Image.{doubt_in}
use Rattle.cd_memory_state.proofs.Doubtful.{bytes_more}
use Rattle.cd_memory_state.proofs.image.fill_bytes.Goals as goal

pub loop-place-preserved : goal.loop-place-preserved
loop-place-preserved c =
    let inv = c.loop-place.invariant in
    record {
      bytes = bytes_more (doubt_in c.args.doubt) c.loop-place.generator c.next_byte.new.generator c.loop-place.place c.args.len c.next_byte.result c.loop-place.into.items c.push_reserved.new.self.items c.loop-place-test.true c.push_reserved.ensures.items c.next_byte.ensures.value c.next_byte.ensures.number ∙ inv.bytes;
      long = omega (arith, ap length c.push_reserved.ensures.items, length_push c.loop-place.into.items c.next_byte.result, inv.long);
      room = omega (arith, inv.room, c.push_reserved.ensures.capacity);
      more = omega (arith, inv.more, c.push_reserved.ensures.capacity);
    }
