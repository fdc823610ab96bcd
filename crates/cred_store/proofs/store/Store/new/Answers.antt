use Rattle.std.proofs.Common.{arith}
use Rattle.std.proofs.lemmas.List.Elements.{All-nil}
use Rattle.cred_store.specs.Texts.{IsEntry}
use Rattle.cred_store.specs.declared.version.Version.TheVariants.{Two}
use Rattle.cred_store.proofs.Order.{rising_none}
use Rattle.cred_store.proofs.store.Store.new.Goals as goal

pub invariant_of-result : goal.invariant_of-result
invariant_of-result c = rw c.new.ensures.items (record { each = All-nil (IsEntry Two); rising = rising_none }, omega arith)
