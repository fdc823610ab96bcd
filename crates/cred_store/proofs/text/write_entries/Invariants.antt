use Rattle.std.proofs.Common.{◌≡◌, take}
use Rattle.cred_store.specs.Texts.{store_text}
use Rattle.cred_store.proofs.text.write_entries.Given as goal

abbrev pub invariant-loop-entry : goal.invariant-loop-entry
invariant-loop-entry l = l.text ≡ store_text (take l.entry-index l.entries)
