use Rattle.auth_grammar.proofs.RoundTrip.{reads_items, reads_item, reads_params}
use Rattle.auth_grammar.proofs.round_trip.reads_what_is_written.Goals as goal

pub returns-clause-items : goal.returns-clause-items
returns-clause-items c = reads_items

pub returns-clause-item : goal.returns-clause-item
returns-clause-item c = reads_item

pub returns-clause-params : goal.returns-clause-params
returns-clause-params c = reads_params
