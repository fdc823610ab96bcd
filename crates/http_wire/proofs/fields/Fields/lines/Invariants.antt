use Rattle.std.proofs.Common.{◌≡◌, ◌++◌}
use Rattle.http_header.specs.Token.{lowercase}
use Rattle.http_wire.specs.Fields.{values_of}
use Rattle.http_wire.proofs.fields.Fields.lines.Given as goal

-- the values so far, and those to come
abbrev pub invariant-loop-written : goal.invariant-loop-written
invariant-loop-written l = l.lines ++ values_of l.written-iterator l.lower.items ≡ values_of l.fn.self (lowercase l.name)
