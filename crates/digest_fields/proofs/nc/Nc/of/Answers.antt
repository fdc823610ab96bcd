use Rattle.std.proofs.Common.{rules, arith, ◌≡◌}
use Rattle.digest_fields.specs.Nc.{nc_text}
use Rattle.digest_fields.proofs.Counts.{IsNc-nc_text, nc_number-nc_text}
use Rattle.digest_fields.proofs.nc.Nc.of.Goals as goal

pub invariant_of-result : goal.invariant_of-result
invariant_of-result c =
    let written : c.encode_to_slice.new.output ≡ nc_text c.args.count = search rules in
    rw written (IsNc-nc_text c.args.count c.requires (omega arith))

pub returns-clause-number : goal.returns-clause-number
returns-clause-number c =
    let written : c.encode_to_slice.new.output ≡ nc_text c.args.count = search rules in
    rw written (nc_number-nc_text c.args.count (omega arith))

pub returns-clause-form : goal.returns-clause-form
returns-clause-form c = invariant_of-result c
