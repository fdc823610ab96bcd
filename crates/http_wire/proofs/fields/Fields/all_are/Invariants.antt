use Rattle.std.proofs.Common.{◌≡◌}
use Rattle.std.specs.List.{list_all}
use Rattle.auth_grammar.specs.Names.{same_name}
use Rattle.http_wire.specs.Fields.{values_of}
use Rattle.http_wire.proofs.fields.Fields.all_are.Given as goal

-- the values to come decide
abbrev pub invariant-loop-written : goal.invariant-loop-written
invariant-loop-written l =
    list_all (λ value. same_name value l.text) (values_of l.written-iterator l.name)
    ≡ list_all (λ value. same_name value l.text) (values_of l.fn.self l.name)
