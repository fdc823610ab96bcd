use Rattle.scram_text.proofs.WrittenNames.{whole_name, writes_some, writes_whole}
use Rattle.scram_text.specs.Names.{BeginsName}
use Rattle.scram_text.proofs.names.name_written.Goals as goal

pub returns : goal.returns
returns c =
    let begins : BeginsName c.args.text.now c.loop-byte.name c.loop-byte.rest.now = record { plain = c.loop-byte.invariant.0; cut = c.loop-byte.invariant.1; none = c.in_default.ensures.none } in
    writes_whole c.args.text.now c.loop-byte.name c.loop-byte.rest.now (writes_some c.args.text.now c.requires) begins (whole_name c.args.text.now c.loop-byte.name c.loop-byte.rest.now c.requires.0 c.requires.1 begins)
