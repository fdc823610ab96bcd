use Rattle.std.proofs.Common.{◌∙◌, sym}
use Rattle.authd.proofs.Asked.{no_number, number_there}
use Rattle.authd.proofs.options.option_number.Goals as goal

pub returns-in-Some-clause-number : goal.returns-in-Some-clause-number
returns-in-Some-clause-number c =
    c.number_in.ensures.number ∙ sym (number_there c.args.name.now c.in-Some.digits.now c.args.option.now c.args.least c.args.most c.in-Some.ensures.some)

pub returns-in-None-clause-number : goal.returns-in-None-clause-number
returns-in-None-clause-number c = sym (no_number c.args.name.now c.args.option.now c.args.least c.args.most c.in-None.ensures.none)
