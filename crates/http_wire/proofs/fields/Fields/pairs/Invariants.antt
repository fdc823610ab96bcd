use Rattle.std.proofs.Common.{◌≡◌, ◌++◌, map}
use Rattle.http_wire.specs.declared.pair.Pair.{Pair}
use Rattle.http_wire.proofs.fields.Fields.pairs.Given as goal

abbrev pub invariant-loop-name : goal.invariant-loop-name
invariant-loop-name l = map (λ (p : Pair). (p.name, p.value)) l.pairs ++ l.name-iterator ≡ l.fn.self
