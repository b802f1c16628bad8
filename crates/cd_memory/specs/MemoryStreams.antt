-- What the clock, the source and the sink in memory show.
use Rattle.std.specs.Prelude.{ℕ, Bool, ◌==◌, List}
use Rattle.std.specs.List.{list_any}
use Rattle.cd_outside.specs.Counts.{next}
use Rattle.cd_memory.specs.declared.clock.MemoryClock.{MemoryClock}
use Rattle.cd_memory.specs.declared.sink.MemorySink.{MemorySink}
use Rattle.cd_memory.specs.declared.source.MemorySource.{MemorySource}

-- the moment that it gives
abbrev pub moment_of : MemoryClock → ℕ
moment_of clock = clock.moment

-- the bytes that it has still to give
abbrev pub left_of : MemorySource → List ℕ
left_of source = source.feed.rest

-- the numbers of its calls that fail, of its calls so far, and of its faults
abbrev pub source_script : MemorySource → List ℕ
source_script source = source.tally.script

abbrev pub source_calls : MemorySource → ℕ
source_calls source = source.tally.calls

abbrev pub source_faults : MemorySource → ℕ
source_faults source = source.tally.faults

-- a call found no memory
abbrev pub is_source_starved : MemorySource → Bool
is_source_starved source = source.tally.starved

-- the bytes that it took
abbrev pub taken_of : MemorySink → List ℕ
taken_of sink = sink.taken.items

-- the numbers of its calls that fail, of its calls so far, and of its faults
abbrev pub sink_script : MemorySink → List ℕ
sink_script sink = sink.tally.script

abbrev pub sink_calls : MemorySink → ℕ
sink_calls sink = sink.tally.calls

abbrev pub sink_faults : MemorySink → ℕ
sink_faults sink = sink.tally.faults

-- a call found no memory
abbrev pub is_sink_starved : MemorySink → Bool
is_sink_starved sink = sink.tally.starved

-- the script says that the next call fails
abbrev pub source_fails_next : MemorySource → Bool
source_fails_next source = list_any (λ n. n == next (source_calls source)) (source_script source)

abbrev pub sink_fails_next : MemorySink → Bool
sink_fails_next sink = list_any (λ n. n == next (sink_calls sink)) (sink_script sink)
