use Rattle.std.proofs.Common.{◌≡◌, ◌<◌, ◌^◌, ◌++◌, length}
use Rattle.std.specs.List.{flat_map}
use Rattle.cred_store.specs.Texts.{IsStore, entry_line}
use Rattle.cred_store.proofs.text.read_entries.Given as goal

abbrev pub invariant-loop-rest : goal.invariant-loop-rest
invariant-loop-rest l = record {
  is_store : IsStore l.version l.entries;
  few : length l.entries < 2 ^ 32;
  begins : l.text ≡ flat_map (entry_line l.version) l.entries ++ l.rest;
}

abbrev pub decreases-loop-rest : goal.decreases-loop-rest
decreases-loop-rest l = length l.rest
