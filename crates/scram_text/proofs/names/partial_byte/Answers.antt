use Rattle.scram_text.proofs.NameBytes.{goes_0, goes_1, goes_2_comma, goes_2_equals}
use Rattle.scram_text.proofs.names.partial_byte.Goals as goal

pub returns-in-Some-clause-into : goal.returns-in-Some-clause-into
returns-in-Some-clause-into c = goes_2_comma c.args.text.now c.in-Some.field-0.now c.in-Some.ensures.some c.requires

pub returns-in-Some-behind-clause-into : goal.returns-in-Some-behind-clause-into
returns-in-Some-behind-clause-into c = goes_2_equals c.args.text.now c.in-Some-behind.field-0.now c.in-Some-behind.ensures.some c.requires

pub returns-in-Some-behind-2-clause-into : goal.returns-in-Some-behind-2-clause-into
returns-in-Some-behind-2-clause-into c = goes_1 c.args.text.now c.in-Some-behind-2.field-0.now c.in-Some-behind-2.ensures.some c.in_default.ensures.none c.in_default-behind.ensures.none

pub returns-in-None-clause-into : goal.returns-in-None-clause-into
returns-in-None-clause-into c = goes_0 c.args.text.now c.requires c.in-None.ensures.none
