use Rattle.cred_store.specs.Texts.{header}
use Rattle.cred_store.proofs.text.write_entries.Goals as goal

pub loop-entry-init : goal.loop-entry-init
unfolding header
loop-entry-init c = c.in_ok-text.ensures
