-- Why the program stops.
use Rattle.std.specs.Prelude.{ℕ}
use Rattle.auth_io.specs.declared.writing.WriteError.{WriteError}
use Rattle.auth_io.specs.declared.writing.WriteError.TheVariants as write
use Rattle.authget.specs.declared.stop.Stop.{Stop}
use Rattle.authget.specs.declared.stop.Stop.TheVariants.{Fault, OutOfMemory}

-- the exit status
abbrev pub stop_status : Stop → ℕ
stop_status Fault = 6
stop_status OutOfMemory = 7

-- a text that wasn't written whole
abbrev pub stop_of : WriteError → Stop
stop_of write.Failed = Fault
stop_of write.OutOfMemory = OutOfMemory
