use Rattle.std.proofs.Common.{◌≡◌, drop}
use Rattle.std.specs.FinMap as map
use Rattle.auth_io.specs.Files.{contents_of}
use Rattle.auth_io.proofs.Entries.{looked_up}
use Rattle.auth_io.proofs.memory.files.find.Given as goal

-- the entries so far have another name
abbrev pub invariant-loop-key : goal.invariant-loop-key
invariant-loop-key l = map.get (contents_of l.contents) l.name ≡ looked_up l.name (drop l.key-index l.contents)
