use Rattle.std.proofs.Common.{◌+◌, arith}
use Rattle.digest_fields.proofs.Counts.{is_hex_digit-place, nc_number-more, nc_number-fits}
use Rattle.digest_fields.proofs.nc.number_of.Goals as goal

pub overflow_mul-number : goal.overflow_mul-number
overflow_mul-number c =
    omega (arith, c.loop-digit.invariant, nc_number-more c.args.digits.now c.loop-digit.digit-index c.loop-digit-test.true, nc_number-fits c.args.digits.now (c.loop-digit.digit-index + 1) c.requires)

pub digit_value-requires : goal.digit_value-requires
digit_value-requires c = is_hex_digit-place c.args.digits.now c.loop-digit.digit-index c.requires c.loop-digit-test.true

pub overflow_add-number : goal.overflow_add-number
overflow_add-number c =
    omega (arith, c.digit_value.ensures, c.loop-digit.invariant, nc_number-more c.args.digits.now c.loop-digit.digit-index c.loop-digit-test.true, nc_number-fits c.args.digits.now (c.loop-digit.digit-index + 1) c.requires)

pub loop-digit-preserved : goal.loop-digit-preserved
loop-digit-preserved c =
    omega (arith, c.digit_value.ensures, c.loop-digit.invariant, nc_number-more c.args.digits.now c.loop-digit.digit-index c.loop-digit-test.true)
