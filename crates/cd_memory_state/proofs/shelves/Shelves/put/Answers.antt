use Rattle.cd_memory_state.proofs.Errs.{on_err}
use Rattle.cd_memory_state.proofs.Shelved.{sound_after, state_kept, put_there}
use Rattle.cd_memory_state.proofs.Sorted.{sorted-set}
use Rattle.cd_memory_state.proofs.shelves.Shelves.put.Goals as goal

pub invariant_of-self : goal.invariant_of-self
invariant_of-self c = record {
  sound = sound_after c.place.new.self.slots.items c.args.name.now c.in_ok-i.i c.index_mut-slot.result.now c.put.new.self c.in_ok-i.ensures.place c.index_mut-slot.ensures.value c.put.ensures.name c.put.ensures.sound c.place.new.self.sound;
  sorted = sorted-set c.place.new.self.slots.items c.in_ok-i.i c.index_mut-slot.result.now c.put.new.self c.index_mut-slot.ensures.value c.put.ensures.name c.place.new.self.sorted;
}

pub returns-in_err-put-clause-same : goal.returns-in_err-put-clause-same
returns-in_err-put-clause-same c = on_err _ _ (state_kept c.place.new.self.slots.items c.args.name.now c.in_ok-i.i c.index_mut-slot.result.now c.put.new.self c.in_ok-i.ensures.place c.index_mut-slot.ensures.value c.put.ensures.name c.place.new.self.past.items _ c.in_err-put.ensures.same c.in_ok-i.ensures.state)

pub invariant_of-self-2 : goal.invariant_of-self-2
invariant_of-self-2 c = record {
  sound = sound_after c.place.new.self.slots.items c.args.name.now c.in_ok-i.i c.index_mut-slot.result.now c.put.new.self c.in_ok-i.ensures.place c.index_mut-slot.ensures.value c.put.ensures.name c.put.ensures.sound c.place.new.self.sound;
  sorted = sorted-set c.place.new.self.slots.items c.in_ok-i.i c.index_mut-slot.result.now c.put.new.self c.index_mut-slot.ensures.value c.put.ensures.name c.place.new.self.sorted;
}

pub returns-clause-put : goal.returns-clause-put
returns-clause-put c = put_there c.place.new.self.slots.items c.args.name.now c.in_ok-i.i c.index_mut-slot.result.now c.put.new.self c.in_ok-i.ensures.place c.index_mut-slot.ensures.value c.put.ensures.name c.args.bytes.now _ c.place.new.self.past.items c.clear.new.self.items c.clear.ensures.items c.in_ok-put.ensures.file c.in_ok-i.ensures.state
