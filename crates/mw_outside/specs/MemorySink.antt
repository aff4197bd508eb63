-- What a sink in memory keeps.
use Rattle.std.specs.Prelude.{ℕ, List}
use Rattle.mw_outside.specs.declared.memory.MemorySink.{MemorySink}
use Rattle.mw_outside.specs.Calls.{Account}

-- the bytes taken
abbrev pub bytes_of : MemorySink → List ℕ
bytes_of sink = sink.bytes.items

-- its calls
abbrev pub calls_of : MemorySink → Account
calls_of sink = sink.calls
