use Rattle.std.proofs.Common.{refl}
use Rattle.cd_memory_state.proofs.Errs.{on_err}
use Rattle.cd_memory_state.proofs.Shelved.{sound_after, state_kept, synced}
use Rattle.cd_memory_state.proofs.Sorted.{sorted-set}
use Rattle.cd_memory_state.proofs.shelves.Shelves.sync.Goals as goal

pub invariant_of-self : goal.invariant_of-self
invariant_of-self c = record {
  sound = sound_after c.ready.new.self.slots.items c.args.name.now c.in_ok-i.i c.index_mut-slot.result.now c.sync.new.self c.in_ok-i.ensures.place c.index_mut-slot.ensures.value c.sync.ensures.name c.sync.ensures.sound c.ready.new.self.sound;
  sorted = sorted-set c.ready.new.self.slots.items c.in_ok-i.i c.index_mut-slot.result.now c.sync.new.self c.index_mut-slot.ensures.value c.sync.ensures.name c.ready.new.self.sorted;
}

pub returns-in_err-base-clause-same : goal.returns-in_err-base-clause-same
returns-in_err-base-clause-same c = on_err _ _ (state_kept c.ready.new.self.slots.items c.args.name.now c.in_ok-i.i c.index_mut-slot.result.now c.sync.new.self c.in_ok-i.ensures.place c.index_mut-slot.ensures.value c.sync.ensures.name c.ready.new.self.past.items _ c.in_err-base.ensures.same c.in_ok-i.ensures.state)

pub invariant_of-self-2 : goal.invariant_of-self-2
invariant_of-self-2 c = record {
  sound = sound_after c.ready.new.self.slots.items c.args.name.now c.in_ok-i.i c.index_mut-slot.result.now c.sync.new.self c.in_ok-i.ensures.place c.index_mut-slot.ensures.value c.sync.ensures.name c.sync.ensures.sound c.ready.new.self.sound;
  sorted = sorted-set c.ready.new.self.slots.items c.in_ok-i.i c.index_mut-slot.result.now c.sync.new.self c.index_mut-slot.ensures.value c.sync.ensures.name c.ready.new.self.sorted;
}

pub returns-clause-done : goal.returns-clause-done
returns-clause-done c = synced c.ready.new.self.slots.items c.args.name.now c.in_ok-i.i c.index_mut-slot.result.now c.sync.new.self c.in_ok-i.ensures.place c.index_mut-slot.ensures.value c.sync.ensures.name c.ready.new.self.past.items c.push_reserved.new.self.items _ c.in_ok-i.ensures.state c.args.beat _ c.in_ok-i.ensures.name c.marks-marks.result _ c.new.result c.new.ensures c.marks-marks.ensures c.push_reserved.ensures.items (λ before after. refl) c.in_ok-base.ensures.base c.in_ok-base.ensures.ranges c.in_ok-base.ensures.file
