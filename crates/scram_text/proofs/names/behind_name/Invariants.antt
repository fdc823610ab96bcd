use Rattle.std.proofs.Common.{◌≡◌, ℕ, List, ◌++◌, length, true}
use Rattle.std.specs.List.{list_all}
use Rattle.auth_grammar.specs.Plain.{is_printable}
use Rattle.scram_text.specs.Bytes.{escaped}
use Rattle.scram_text.proofs.names.behind_name.Given as goal

-- what stands before the rest writes bytes of a name
abbrev pub invariant-loop-byte : goal.invariant-loop-byte
invariant-loop-byte l = (name : List ℕ) × (list_all is_printable name ≡ true) × (l.text ≡ escaped name ++ l.rest)

abbrev pub decreases-loop-byte : goal.decreases-loop-byte
decreases-loop-byte l = length l.rest
