-- What a source and a sink in memory tell.
use Rattle.std.specs.Prelude.{ℕ, List, drop}
use Rattle.disk_memory.specs.declared.source.ByteSource.{ByteSource}
use Rattle.disk_memory.specs.declared.sink.ByteSink.{ByteSink}

-- the bytes that a source has left
abbrev pub left_in : ByteSource → List ℕ
left_in s = drop s.at s.bytes.items

-- how often a source has failed
abbrev pub failed_takes : ByteSource → ℕ
failed_takes s = s.failures

-- which takes are to fail, each counted from the next one on
abbrev pub chosen_takes : ByteSource → List ℕ
chosen_takes s = s.plan

-- how many bytes a take gives at most, where 0 is no limit
abbrev pub take_limit : ByteSource → ℕ
take_limit s = s.limit

-- the bytes that a sink has received
abbrev pub received_by : ByteSink → List ℕ
received_by s = s.bytes.items

-- how often a sink has failed
abbrev pub failed_puts : ByteSink → ℕ
failed_puts s = s.failures

-- which puts are to fail, each counted from the next one on
abbrev pub chosen_puts : ByteSink → List ℕ
chosen_puts s = s.plan

-- how many bytes a put takes at most, where 0 is no limit
abbrev pub put_limit : ByteSink → ℕ
put_limit s = s.limit
