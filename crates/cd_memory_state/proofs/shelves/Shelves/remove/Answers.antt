use Rattle.std.proofs.Common.{refl}
use Rattle.cd_memory_state.proofs.Shelved.{sound_after, removed}
use Rattle.cd_memory_state.proofs.Sorted.{sorted-set}
use Rattle.cd_memory_state.proofs.shelves.Shelves.remove.Goals as goal

pub invariant_of-self : goal.invariant_of-self
invariant_of-self c = record {
  sound = sound_after c.ready.new.self.slots.items c.args.name.now c.in_ok-i.i c.index_mut-slot.result.now c.remove.new.self c.in_ok-i.ensures.place c.index_mut-slot.ensures.value c.remove.ensures.name c.remove.ensures.sound c.ready.new.self.sound;
  sorted = sorted-set c.ready.new.self.slots.items c.in_ok-i.i c.index_mut-slot.result.now c.remove.new.self c.index_mut-slot.ensures.value c.remove.ensures.name c.ready.new.self.sorted;
}

pub returns-clause-done : goal.returns-clause-done
returns-clause-done c = removed c.ready.new.self.slots.items c.args.name.now c.in_ok-i.i c.index_mut-slot.result.now c.remove.new.self c.in_ok-i.ensures.place c.index_mut-slot.ensures.value c.remove.ensures.name c.ready.new.self.past.items c.push_reserved.new.self.items _ c.in_ok-i.ensures.state c.args.beat _ c.in_ok-i.ensures.name c.marks-marks.result _ c.new.result c.new.ensures c.marks-marks.ensures c.push_reserved.ensures.items refl c.remove.ensures.file
