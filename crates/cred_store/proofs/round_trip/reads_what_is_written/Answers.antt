use Rattle.std.proofs.Common.{◌∙◌}
use Rattle.cred_store.specs.declared.version.Version.TheVariants.{Two}
use Rattle.cred_store.proofs.StoreTexts.{only_memory, same_again}
use Rattle.cred_store.proofs.round_trip.reads_what_is_written.Goals as goal

pub returns-clause-ok : goal.returns-clause-ok
returns-clause-ok c =
    same_again c.args.store.now c.bytes.result.now c.in_ok-text.ensures.store (c.bytes.ensures ∙ c.in_ok-text.ensures.text)
    c.read.result c.read.ensures.text

pub returns-clause-err : goal.returns-clause-err
returns-clause-err c =
    only_memory c.bytes.result.now c.args.store.now
    (record { version = Two; is_store = c.in_ok-text.ensures.store; says = c.bytes.ensures ∙ c.in_ok-text.ensures.text })
    c.read.result c.read.ensures.refused
