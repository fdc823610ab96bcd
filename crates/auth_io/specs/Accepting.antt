-- When connections in memory are handed out, and when a dial to them fails.
use Rattle.std.specs.Prelude.{Bool, ◌||◌, nat_le, length}
use Rattle.auth_io.specs.Memory.{failing_plan}
use Rattle.auth_io.specs.Plans.{Plan, next_fails}
use Rattle.auth_io.specs.declared.memory.accept.MemAccept.{MemAccept}
use Rattle.auth_io.specs.declared.memory.dial.MemDial.{MemDial}

abbrev pub accept_plan : MemAccept → Plan
accept_plan accept = failing_plan accept.failing.items accept.calls

-- whether the next call fails, by its plan or for want of a connection
abbrev pub next_accept_fails : MemAccept → Bool
next_accept_fails accept = next_fails (accept_plan accept) || nat_le (length accept.coming.items) 0

abbrev pub dial_plan : MemDial → Plan
dial_plan dial = accept_plan dial.links

-- whether the next dial fails
abbrev pub next_dial_fails : MemDial → Bool
next_dial_fails dial = next_accept_fails dial.links
