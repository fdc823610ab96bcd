-- What the forms in memory hold beside what their traits tell.
use Rattle.std.specs.Prelude.{◌≡◌, ℕ, Bool, ◌||◌, nat_le, List, [], length, drop}
use Rattle.auth_io.specs.Handing.{has_fault}
use Rattle.auth_io.specs.Plans.{Plan, next_fails}
use Rattle.auth_io.specs.declared.memory.files.MemFiles.{MemFiles}
use Rattle.auth_io.specs.declared.memory.link.MemLink.{MemLink}
use Rattle.auth_io.specs.declared.memory.link.SureLink.{SureLink}
use Rattle.auth_io.specs.declared.memory.streams.MemSource.{MemSource}
use Rattle.auth_io.specs.declared.memory.streams.MemSink.{MemSink}
use Rattle.auth_io.specs.declared.memory.words.MemWords.{MemWords}

-- ---- how their calls go

abbrev pub source_plan : MemSource → Plan
source_plan source = source.schedule

-- the bytes that it still gives
abbrev pub source_left : MemSource → List ℕ
source_left source = drop source.supply.at source.supply.bytes

abbrev pub sink_plan : MemSink → Plan
sink_plan sink = sink.schedule

-- the calls that a list has fail, and how many were made
abbrev pub failing_plan : List ℕ → ℕ → Plan
failing_plan failing calls = record { sizes = []; failing = failing; calls = calls }

-- the calls that fail and change nothing
abbrev pub files_plan : MemFiles → Plan
files_plan files = failing_plan files.failing.items files.calls

-- the calls that fail where they replace, when all is done
abbrev pub files_done_plan : MemFiles → Plan
files_done_plan files = failing_plan files.failing_done.items files.calls

abbrev pub words_plan : MemWords → Plan
words_plan words = failing_plan words.failing.items words.calls

abbrev pub sure_read_plan : SureLink → Plan
sure_read_plan link = link.reading

abbrev pub sure_write_plan : SureLink → Plan
sure_write_plan link = link.writing

abbrev pub sure_left : SureLink → List ℕ
sure_left link = drop link.supply.at link.supply.bytes

abbrev pub read_plan : MemLink → Plan
read_plan link = link.reading

abbrev pub write_plan : MemLink → Plan
write_plan link = link.writing

-- how many reads may answer
abbrev pub read_room : MemLink → ℕ
read_room link = link.room

-- whether the next read fails, by its plan or for want of room
abbrev pub next_read_fails : MemLink → Bool
next_read_fails link = next_fails link.reading || nat_le link.room (length link.noted.items)

-- ---- connections

-- It has no faults, and has noted no read and taken nothing.
pub record IsUnused (link : MemLink) : Type 0 where
  pub written : link.written ≡ []
  pub reads : link.noted.items ≡ []
  pub read_faults : link.read_faults ≡ 0
  pub write_faults : link.write_faults ≡ 0

-- the bytes that it still gives
abbrev pub bytes_of : MemLink → List ℕ
bytes_of link = drop link.supply.at link.supply.bytes

-- what it has written, and whether one of its calls had failed
abbrev pub entry_of : MemLink → List ℕ × Bool
entry_of link = (link.written, has_fault link.read_faults link.write_faults)
