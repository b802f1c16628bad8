-- What the clock, the source and the sink in memory that never fail show.
use Rattle.std.specs.Prelude.{ℕ, ◌-◌, List, vec_len, vec_capacity}
use Rattle.cd_memory.specs.declared.clock.SteadyClock.{SteadyClock}
use Rattle.cd_memory.specs.declared.sink.SteadySink.{SteadySink}
use Rattle.cd_memory.specs.declared.source.SteadySource.{SteadySource}

-- the moment that it gives
abbrev pub moment_of : SteadyClock → ℕ
moment_of clock = clock.moment

-- the bytes that it has still to give, and for how many more it has room
abbrev pub left_of : SteadySource → List ℕ
left_of source = source.feed.rest

abbrev pub source_room : SteadySource → ℕ
source_room source = source.feed.room

-- the bytes that it took, how often it failed, and for how many more bytes it has room
abbrev pub taken_of : SteadySink → List ℕ
taken_of sink = sink.taken.items

abbrev pub sink_faults : SteadySink → ℕ
sink_faults sink = sink.faults

abbrev pub sink_room : SteadySink → ℕ
sink_room sink = vec_capacity sink.taken - vec_len sink.taken
