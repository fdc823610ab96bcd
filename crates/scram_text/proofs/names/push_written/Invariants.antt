use Rattle.std.proofs.Common.{◌≡◌, ◌++◌, take}
use Rattle.scram_text.specs.Bytes.{escaped}
use Rattle.scram_text.proofs.names.push_written.Given as goal

-- the bytes so far are written
abbrev pub invariant-loop-byte : goal.invariant-loop-byte
invariant-loop-byte l = l.text ≡ l.fn.text ++ escaped (take l.byte-index l.name)
