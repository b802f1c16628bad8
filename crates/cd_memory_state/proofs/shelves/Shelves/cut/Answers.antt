use Rattle.std.proofs.Common.{refl}
use Rattle.cd_memory_state.proofs.Errs.{on_err}
use Rattle.cd_memory_state.proofs.Shelved.{sound_after, state_kept, was_cut}
use Rattle.cd_memory_state.proofs.Sorted.{sorted-set}
use Rattle.cd_memory_state.proofs.shelves.Shelves.cut.Goals as goal

pub invariant_of-self : goal.invariant_of-self
invariant_of-self c = record {
  sound = sound_after c.ready.new.self.slots.items c.args.name.now c.in_ok-i.i c.index_mut-slot.result.now c.cut.new.self c.in_ok-i.ensures.place c.index_mut-slot.ensures.value c.cut.ensures.name c.cut.ensures.sound c.ready.new.self.sound;
  sorted = sorted-set c.ready.new.self.slots.items c.in_ok-i.i c.index_mut-slot.result.now c.cut.new.self c.index_mut-slot.ensures.value c.cut.ensures.name c.ready.new.self.sorted;
}

pub returns-in_err-cut-clause-same : goal.returns-in_err-cut-clause-same
returns-in_err-cut-clause-same c = on_err _ _ (state_kept c.ready.new.self.slots.items c.args.name.now c.in_ok-i.i c.index_mut-slot.result.now c.cut.new.self c.in_ok-i.ensures.place c.index_mut-slot.ensures.value c.cut.ensures.name c.ready.new.self.past.items _ c.in_err-cut.ensures.same c.in_ok-i.ensures.state)

pub invariant_of-self-2 : goal.invariant_of-self-2
invariant_of-self-2 c = record {
  sound = sound_after c.ready.new.self.slots.items c.args.name.now c.in_ok-i.i c.index_mut-slot.result.now c.cut.new.self c.in_ok-i.ensures.place c.index_mut-slot.ensures.value c.cut.ensures.name c.cut.ensures.sound c.ready.new.self.sound;
  sorted = sorted-set c.ready.new.self.slots.items c.in_ok-i.i c.index_mut-slot.result.now c.cut.new.self c.index_mut-slot.ensures.value c.cut.ensures.name c.ready.new.self.sorted;
}

pub returns-clause-done : goal.returns-clause-done
returns-clause-done c = was_cut c.ready.new.self.slots.items c.args.name.now c.in_ok-i.i c.index_mut-slot.result.now c.cut.new.self c.in_ok-i.ensures.place c.index_mut-slot.ensures.value c.cut.ensures.name c.ready.new.self.past.items c.push_reserved.new.self.items _ c.in_ok-i.ensures.state c.args.beat _ c.in_ok-i.ensures.name c.marks-marks.result _ c.new.result c.new.ensures c.marks-marks.ensures c.push_reserved.ensures.items c.args.len refl c.in_ok-cut.ensures.file
