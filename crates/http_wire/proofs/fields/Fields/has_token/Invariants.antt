use Rattle.std.proofs.Common.{◌≡◌}
use Rattle.http_wire.specs.Fields.{values_of}
use Rattle.http_wire.specs.Values.{has_token}
use Rattle.http_wire.proofs.fields.Fields.has_token.Given as goal

-- the values to come decide
abbrev pub invariant-loop-written : goal.invariant-loop-written
invariant-loop-written l = has_token (values_of l.written-iterator l.name) l.token ≡ has_token (values_of l.fn.self l.name) l.token
